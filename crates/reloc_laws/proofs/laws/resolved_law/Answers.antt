use Rattle.reloc_laws.proofs.EachLaws.{resolved_law}
use Rattle.reloc_laws.proofs.laws.resolved_law.Goals as goal

pub returns : goal.returns
returns c = resolved_law
