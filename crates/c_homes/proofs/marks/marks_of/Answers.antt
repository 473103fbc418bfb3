use Rattle.std.proofs.Common.{sym, ap, ◌∙◌, slice_index_or, false}
use Rattle.c_homes.proofs.MarkLaws.{marked_from_clear}
use Rattle.c_homes.proofs.marks.marks_of.Goals as goal

pub returns : goal.returns
returns c n lt = ap (λ marks. slice_index_or marks n false) c.mark_stmt.ensures ∙ marked_from_clear _ _ (sym c.none-marks.ensures.many) c.none-marks.ensures.clear n lt
