use Rattle.elf_object.proofs.Entries.{symbols_step}
use Rattle.elf_object.proofs.read.symbols_in.Goals as goal

pub loop-i-preserved : goal.loop-i-preserved
loop-i-preserved c =
    symbols_step c.args.n c.loop-i._i c.name_len.result _ _ _ _ _ _ _ _ _ _ c.loop-i-test.true c.loop-i.invariant c.in_ok-push.ensures.ok c.in_ok-symbol_in.ensures
    c.name_len.ensures.value c.split_at.ensures.front c.split_at.ensures.back c.behind-rest.ensures c.behind-names.ensures
