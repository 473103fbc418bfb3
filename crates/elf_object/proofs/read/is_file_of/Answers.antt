use Rattle.std.proofs.Common.{sym, ◌∙◌}
use Rattle.std.proofs.lemmas.Bool.Decides.{Decides-eqb}
use Rattle.std.proofs.lemmas.Slice.Eq.{slice_eq-Decides}
use Rattle.elf_object.proofs.read.is_file_of.Goals as goal

pub returns : goal.returns
returns c =
    let same = slice_eq-Decides Decides-eqb _ _ _ c.eq.ensures in
    let file = c.as_slice.ensures ∙ c.in_ok-file.ensures in
    (λ e. record { writable = c.is_writable.ensures.0 (cc); is = sym (same.0 e) ∙ file }, λ is. same.1 (file ∙ sym is.is))
