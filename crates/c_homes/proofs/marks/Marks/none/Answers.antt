use Rattle.std.proofs.Common.{false}
use Rattle.std.proofs.lemmas.List.{get_or-replicate}
use Rattle.c_homes.proofs.marks.Marks.none.Goals as goal

pub returns-clause-clear : goal.returns-clause-clear
returns-clause-clear c n lt = get_or-replicate 2048 n false false lt
