-- Lists that are made from the end.
use Rattle.std.proofs.Common.{◌≡◌, List, [], ◌∷◌, ◌++◌, reverse, sym, ap, ◌∙◌}
use Rattle.std.proofs.lemmas.List.{append-nil, append_assoc, reverse-append}
use Rattle.live.specs.declared.lives.Point.{Point}
use Rattle.live.specs.Sets.{Set}
use Rattle.live.specs.Live.{Walk, before_all, points_all, points_of}

pub both_ways : {A : Type 0} (d p q : List A) → (d ++ reverse q) ++ reverse p ≡ d ++ reverse (p ++ q)
both_ways d p q = append_assoc d (reverse q) (reverse p) ∙ ap (λ r. d ++ r) (sym (reverse-append p q))

-- the points of statements behind others, the last one first
abbrev pub back_all : List Walk → Set → List Set → List Point → List Point
back_all [] after around d = d
back_all (w ∷ ws) after around d = back_all ws after around d ++ reverse (points_of w (before_all ws after around) around)

pub back_all_is : (ws : List Walk) (after : Set) (around : List Set) (d : List Point) → back_all ws after around d ≡ d ++ reverse (points_all ws after around)
back_all_is [] after around d = sym (append-nil d)
back_all_is (w ∷ ws) after around d =
    let p = points_of w (before_all ws after around) around in
    ap (λ x. x ++ reverse p) (back_all_is ws after around d) ∙ both_ways d p (points_all ws after around)
