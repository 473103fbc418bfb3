-- The veneers that entries are assigned.
use Rattle.std.proofs.Common.{◌≡◌, ◌≢◌, ℕ, suc, ◌+◌, ◌-◌, ◌*◌, ◌<◌, ◌≤◌, ◌==◌, Bool, true, false, not, cond, ◌||◌, List, [], ◌∷◌, ◌++◌, length, map, get_or, filter, All, AllPairs, Contains, None, IsPermutation, bytes_eq, refl, sym, ap, ◌∙◌, true≢false, arith, subst}
use Rattle.std.specs.List.Sorted.{IsStrictlyIncreasing}
use Rattle.std.proofs.lemmas.List.{get_or-map, length-map, map-append}
use Rattle.std.proofs.lemmas.List.Elements.{All-append, All-weaker, All-filter, All-contains_itself, Contains-append_left, Contains-append_right, filter_passes}
use Rattle.std.proofs.lemmas.List.Filters.{length-filter_both}
use Rattle.std.proofs.lemmas.List.Sorted.{All-permutation, Contains-permutation, IsPermutation-map}
use Rattle.cm_base.specs.declared.regions.TheConstants.{NSC}
use Rattle.ns_types.specs.declared.event.Veneer.{Veneer}
use Rattle.veneer_link.specs.Assign.{has_name, is_taken, is_place, places_from, place_count, free, newcomers, placed, IsAssigned}
use Rattle.veneer_laws.specs.Veneers.{AreVeneersOf, CanAssign, AssignLaw}
use Rattle.veneer_laws.proofs.Counts.{same_name, equal_names, count_none, count_part, count_append, count_permutation, count_two, passes}
use Rattle.veneer_laws.proofs.Places.{same_number, equal_numbers, length-places, one_place, taken_few, all_places, old_places, old_once, old_named, old_counted, one_name, placed_names, placed_at, placed_named, placed_at_once, placed_named_once}

count_is : place_count ≡ 512
unfolding place_count
count_is = refl

-- there are enough free places
enough : (entries : List (List ℕ)) (old : List Veneer) → CanAssign entries old → length (newcomers entries old) ≤ length (free old)
enough entries old can =
    let taken = length-filter_both (is_taken old) (λ a. not (is_taken old a)) (λ a. refl) (places_from place_count NSC.from) in
    let come = length-filter_both (has_name old) (λ n. not (has_name old n)) (λ n. refl) entries in
    let few = taken_few old place_count NSC.from in
    let counted = old_counted entries old can.old_differ can.gone in
    omega (arith, taken, come, few, counted, can.few, length-places place_count NSC.from, count_is)

free_places : (old : List Veneer) → All (λ a. is_place a ≡ true) (free old)
free_places old =
    All-filter (λ a. not (is_taken old a)) (λ a. is_place a ≡ true) (places_from place_count NSC.from) (all_places place_count NSC.from (omega arith) (omega arith) (omega (arith, count_is)))

-- no free place is taken
free_apart : (old : List Veneer) (k : ℕ) → is_taken old k ≡ true → length (filter (λ a. a == k) (free old)) ≡ 0
free_apart old k taken = by (places_from place_count NSC.from)
  where
    step : (a : ℕ) (ps : List ℕ) (t e : Bool) → is_taken old a ≡ t → (a == k) ≡ e → length (filter (λ b. b == k) ps) ≡ 0 → length (filter (λ b. b == k) (cond (not t) (a ∷ ps) ps)) ≡ 0
    step a ps true e ist ise none = none
    step a ps false true ist ise none =
        absurd (true≢false (sym taken ∙ (ap (is_taken old) (sym (equal_numbers a k ise)) ∙ ist)))
    step a ps false false ist ise none = rw ise none

    by : (ps : List ℕ) → length (filter (λ a. a == k) (filter (λ a. not (is_taken old a)) ps)) ≡ 0
    by [] = refl
    by (a ∷ ps) = step a (filter (λ b. not (is_taken old b)) ps) (is_taken old a) (a == k) refl refl (by ps)

-- no newcomer has an old name
new_apart : (entries : List (List ℕ)) (old : List Veneer) (n : List ℕ) → has_name old n ≡ true → length (filter (λ m. bytes_eq m n) (newcomers entries old)) ≡ 0
new_apart entries old n has = by entries
  where
    step : (m : List ℕ) (ms : List (List ℕ)) (t e : Bool) → has_name old m ≡ t → bytes_eq m n ≡ e → length (filter (λ o. bytes_eq o n) ms) ≡ 0 → length (filter (λ o. bytes_eq o n) (cond (not t) (m ∷ ms) ms)) ≡ 0
    step m ms true e ist ise none = none
    step m ms false true ist ise none =
        absurd (true≢false (sym has ∙ (ap (has_name old) (sym (equal_names m n ise)) ∙ ist)))
    step m ms false false ist ise none = rw ise none

    by : (ms : List (List ℕ)) → length (filter (λ m. bytes_eq m n) (filter (λ m. not (has_name old m)) ms)) ≡ 0
    by [] = refl
    by (m ∷ ms) = step m (filter (λ o. not (has_name old o)) ms) (has_name old m) (bytes_eq m n) refl refl (by ms)

module _ (entries : List (List ℕ)) (old : List Veneer) (can : CanAssign entries old) where
  abbrev all : List Veneer
  all = old ++ placed (newcomers entries old) (free old)

  at_once : (k : ℕ) → length (filter (λ v. v.address == k) all) ≤ 1
  at_once k =
      let more = placed (newcomers entries old) (free old) in
      let whole = count_append (λ v. v.address == k) old more in
      let new = placed_at_once k (newcomers entries old) (free old) in
      let part = count_part (λ a. a == k) (λ a. not (is_taken old a)) (places_from place_count NSC.from) in
      let one = one_place (λ a. a == k) k (λ a e. equal_numbers a k e) place_count NSC.from in
      by (is_taken old k) refl whole new part one
    where
      by : (b : Bool) → is_taken old k ≡ b → length (filter (λ v. v.address == k) all) ≡ length (filter (λ v. v.address == k) old) + length (filter (λ v. v.address == k) (placed (newcomers entries old) (free old))) → length (filter (λ v. v.address == k) (placed (newcomers entries old) (free old))) ≤ length (filter (λ a. a == k) (free old)) → length (filter (λ a. a == k) (free old)) ≤ length (filter (λ a. a == k) (places_from place_count NSC.from)) → length (filter (λ a. a == k) (places_from place_count NSC.from)) ≤ 1 → length (filter (λ v. v.address == k) all) ≤ 1
      by true taken whole new part one =
          omega (arith, whole, new, free_apart old k taken, old_once old can.misplaced k)
      by false taken whole new part one =
          omega (arith, whole, new, part, one, count_none (λ v. v.address == k) old taken)

  named_once : (n : List ℕ) → length (filter (λ v. bytes_eq v.name n) all) ≤ 1
  named_once n =
      let more = placed (newcomers entries old) (free old) in
      let whole = count_append (λ v. bytes_eq v.name n) old more in
      let new = placed_named_once n (newcomers entries old) (free old) in
      let part = count_part (λ m. bytes_eq m n) (λ m. not (has_name old m)) entries in
      let one = one_name (λ m. m) n entries can.entries_differ in
      by (has_name old n) refl whole new part one
    where
      by : (b : Bool) → has_name old n ≡ b → length (filter (λ v. bytes_eq v.name n) all) ≡ length (filter (λ v. bytes_eq v.name n) old) + length (filter (λ v. bytes_eq v.name n) (placed (newcomers entries old) (free old))) → length (filter (λ v. bytes_eq v.name n) (placed (newcomers entries old) (free old))) ≤ length (filter (λ m. bytes_eq m n) (newcomers entries old)) → length (filter (λ m. bytes_eq m n) (newcomers entries old)) ≤ length (filter (λ m. bytes_eq m n) entries) → length (filter (λ m. bytes_eq m n) entries) ≤ 1 → length (filter (λ v. bytes_eq v.name n) all) ≤ 1
      by true has whole new part one =
          omega (arith, whole, new, new_apart entries old n has, one_name (λ v. v.name) n old can.old_differ)
      by false has whole new part one =
          omega (arith, whole, new, part, one, count_none (λ v. bytes_eq v.name n) old has)

  places : All (λ v. is_place v.address ≡ true) all
  places =
      All-append (λ v. is_place v.address ≡ true) old (placed (newcomers entries old) (free old)) (old_places old can.misplaced) (placed_at (λ a. is_place a ≡ true) (newcomers entries old) (free old) (free_places old))

  named : All (λ v. Contains entries v.name) all
  named =
      All-append (λ v. Contains entries v.name) old (placed (newcomers entries old) (free old)) (old_named entries old can.gone)
      (placed_named (Contains entries) (newcomers entries old) (free old) (All-filter (λ n. not (has_name old n)) (Contains entries) entries (All-contains_itself entries)))

  abbrev names : List (List ℕ)
  names = map (λ v. v.name) old ++ newcomers entries old

  names_are : map (λ v. v.name) all ≡ names
  names_are =
      map-append (λ v. v.name) old (placed (newcomers entries old) (free old)) ∙ ap (λ ns. map (λ v. v.name) old ++ ns) (placed_names (newcomers entries old) (free old) (enough entries old can))

  has : (n : List ℕ) (vs : List Veneer) → has_name vs n ≡ true → Contains (map (λ v. v.name) vs) n
  has n [] e = absurd (true≢false (sym e))
  has n (v ∷ vs) e = by (bytes_eq v.name n) refl e (has n vs)
    where
      by : (b : Bool) → bytes_eq v.name n ≡ b → (b || has_name vs n) ≡ true → (has_name vs n ≡ true → Contains (map (λ w. w.name) vs) n) → Contains (v.name ∷ map (λ w. w.name) vs) n
      by true is g ih = (0, omega arith, equal_names v.name n is)
      by false is g ih = let c = ih g in (suc c.0, omega (arith, c.1), c.2)

  listed : All (Contains names) entries
  listed i d lt = by (has_name old (get_or entries i d)) refl
    where
      by : (b : Bool) → has_name old (get_or entries i d) ≡ b → Contains names (get_or entries i d)
      by true e =
          Contains-append_left (map (λ v. v.name) old) (newcomers entries old) (get_or entries i d) (has (get_or entries i d) old e)
      by false e =
          Contains-append_right (map (λ v. v.name) old) (newcomers entries old) (get_or entries i d) (passes (λ n. not (has_name old n)) entries i d lt (ap not e))

  module _ (new : List Veneer) (is : IsAssigned entries old new) where
    abbrev none : Veneer
    none = record { name = []; address = 0 }

    up : IsStrictlyIncreasing (map (λ v. v.address) new)
    up k below =
        let low : k + 1 < length new = omega (arith, below, length-map new (λ v. v.address)) in
        let here = get_or-map (λ v. v.address) new k none 0 (omega (arith, low)) in
        let next = get_or-map (λ v. v.address) new (k + 1) none 0 low in
        let le = is.ascending k (k + 1) none (omega arith) low in
        let a = (get_or new k none).address in
        let once = at_once a in
        let same = count_permutation (λ v. v.address == a) all new is.members in
        let apart : a ≡ (get_or new (k + 1) none).address → ⊥ = λ e. omega (arith, once, same, count_two (λ v. v.address == a) new k (k + 1) none (omega arith) low (same_number a) (ap (λ x. x == a) (sym e) ∙ same_number a)) in
        rw (here, next) (omega (arith, le, apart))

    differ : AllPairs (λ v w. v.name ≢ w.name) new
    differ i j d lt below e =
        let n = (get_or new i d).name in
        let two = count_two (λ v. bytes_eq v.name n) new i j d lt below (same_name n) (ap (λ m. bytes_eq m n) (sym e) ∙ same_name n) in
        omega (arith, two, named_once n, count_permutation (λ v. bytes_eq v.name n) all new is.members)

    are : AreVeneersOf entries new
    are = record {
      places = All-permutation (λ v. is_place v.address ≡ true) all new is.members places;
      ascending = up;
      named = All-permutation (λ v. Contains entries v.name) all new is.members named;
      listed = λ i d lt. Contains-permutation (map (λ v. v.name) all) (map (λ v. v.name) new) (get_or entries i d) (IsPermutation-map (λ v. v.name) all new is.members) (subst (λ ns. Contains ns (get_or entries i d)) (sym names_are) (listed i d lt));
      differ = differ;
    }

pub assigned : AssignLaw
assigned entries old new can is = are entries old can new is
