-- Fields and lines, one by one.
use Rattle.std.proofs.Common.{◌≡◌, ℕ, ◌+◌, ◌<◌, ◌≤◌, List, [], ◌++◌, length, drop, get_or, sym, ap, ◌∙◌, append_assoc}
use Rattle.std.proofs.lemmas.List.{drop_more, drop_all, append-nil}
use Rattle.ns_script.specs.Turns.{names}
use Rattle.ns_script.specs.Transcript.{field, fields_from}

pub field_next : (out : List ℕ) (values : List ℕ) (i : ℕ) (r : List ℕ) → i < length values → out ++ fields_from i (drop i values) ≡ r → (out ++ field (get_or names i []) (get_or values i 0)) ++ fields_from (i + 1) (drop (i + 1) values) ≡ r
field_next out values i r lt h =
    append_assoc out (field (get_or names i []) (get_or values i 0)) (fields_from (i + 1) (drop (i + 1) values))
    ∙ ap (λ l. out ++ fields_from i l) (sym (drop_more values i 0 lt)) ∙ h

pub field_end : (out : List ℕ) (values : List ℕ) (i : ℕ) (r : List ℕ) → length values ≤ i → out ++ fields_from i (drop i values) ≡ r → out ≡ r
field_end out values i r le h = sym (append-nil out) ∙ ap (λ l. out ++ fields_from i l) (sym (drop_all i values le)) ∙ h

pub ruleset fields = (field_next, field_end)
