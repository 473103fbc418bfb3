use Rattle.std.proofs.Common.{sym, ◌∙◌}
use Rattle.std.proofs.lemmas.Bool.{false≢true}
use Rattle.elf_object.proofs.ReadBack.{no_file}
use Rattle.elf_object.proofs.read.read_object.Goals as goal

pub returns-clause-reads : goal.returns-clause-reads
returns-clause-reads c =
    (no_file c.args.bytes.now c.in_ok-object.object c.in_ok-object.ensures (λ is. false≢true (sym c.if-same.false ∙ c.in_ok-same.ensures.1 is)), c.in_ok-fault_at.ensures)
