use Rattle.elf_object.proofs.Entries.{relocs_step}
use Rattle.elf_object.proofs.read.relocs_in.Goals as goal

pub loop-i-preserved : goal.loop-i-preserved
loop-i-preserved c =
    relocs_step c.args.n c.loop-i._i _ _ _ _ _ _ c.loop-i-test.true c.loop-i.invariant c.in_ok-push.ensures.ok c.reloc_of.ensures c.behind-rest.ensures
