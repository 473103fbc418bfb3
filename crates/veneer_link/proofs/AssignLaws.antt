-- Laws on where veneers stand.
use Rattle.std.proofs.Common.{◌≡◌, ℕ, ◌+◌, ◌-◌, ◌<◌, ◌≤◌, suc, List, [], ◌∷◌, ◌++◌, length, drop, not, filter, All, Contains, refl, sym, ap, ◌∙◌, arith, append_assoc}
use Rattle.std.proofs.lemmas.List.{append-nil, drop_all}
use Rattle.std.proofs.lemmas.List.Sorted.{Contains-permutation}
use Rattle.std.proofs.lemmas.List.Elements.{Contains-append_left, All-contains_itself, All-weaker, filter-append}
use Rattle.ns_types.specs.declared.event.Veneer.{Veneer}
use Rattle.veneer_link.specs.Assign.{is_taken, places_from, free, newcomers, placed, IsAssigned}

-- old veneers stay where they are
pub kept : (entries : List (List ℕ)) (old new : List Veneer) → IsAssigned entries old new → All (Contains new) old
kept entries old new is =
    let more = placed (newcomers entries old) (free old) in
    All-weaker (Contains old) (Contains new) (λ v c. Contains-permutation (old ++ more) new v is.members (Contains-append_left old more v c)) old (All-contains_itself old)

-- one step of a loop over places
pub free_step : (old : List Veneer) (n i at : ℕ) (found new total : List ℕ) → i < n → found ++ filter (λ a. not (is_taken old a)) (places_from (n - i) at) ≡ total → new ≡ found ++ filter (λ a. not (is_taken old a)) (at ∷ []) → new ++ filter (λ a. not (is_taken old a)) (places_from (n - (i + 1)) (at + 8)) ≡ total
free_step old n i at found new total lt inv e =
    let rest = places_from (n - (i + 1)) (at + 8) in
    let k : n - i ≡ suc (n - (i + 1)) = omega arith in
    let more : places_from (n - i) at ≡ (at ∷ []) ++ rest = ap (λ m. places_from m at) k in
    ap (λ xs. xs ++ filter (λ a. not (is_taken old a)) rest) e
    ∙ (append_assoc found (filter (λ a. not (is_taken old a)) (at ∷ [])) (filter (λ a. not (is_taken old a)) rest)
    ∙ (ap (λ xs. found ++ xs) (sym (filter-append (λ a. not (is_taken old a)) (at ∷ []) rest))
    ∙ (ap (λ ps. found ++ filter (λ a. not (is_taken old a)) ps) (sym more) ∙ inv)))

no_names : (places : List ℕ) → placed [] places ≡ []
no_names [] = refl
no_names (a ∷ places) = refl

-- where there is no name left, no veneer is added
pub place_end : (to total : List Veneer) (names : List (List ℕ)) (places : List ℕ) (i : ℕ) → length names ≤ i → to ++ placed (drop i names) (drop i places) ≡ total → to ≡ total
place_end to total names places i le inv =
    sym (append-nil to) ∙ (ap (λ vs. to ++ vs) (sym (ap (λ ns. placed ns (drop i places)) (drop_all i names le) ∙ no_names (drop i places))) ∙ inv)
