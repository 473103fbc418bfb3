-- Places of veneers, and the old veneers that stand at some of them.
use Rattle.std.proofs.Common.{◌≡◌, ◌≢◌, ℕ, zero, suc, ◌+◌, ◌*◌, ◌%◌, ◌<◌, ◌≤◌, ◌&&◌, ◌||◌, ◌==◌, Bool, true, false, not, cond, nat_lt, nat_le, List, [], ◌∷◌, ◌++◌, length, map, get_or, filter, All, AllPairs, Contains, None, Some, Option, bytes_eq, if◌then◌else◌, refl, sym, ap, ◌∙◌, true≢false, arith, subst}
use Rattle.std.specs.List.{list_any}
use Rattle.std.proofs.lemmas.Bool.Decides.{nat_tests}
use Rattle.std.proofs.lemmas.Slice.Eq.{bytes_eq-Decides}
use Rattle.std.proofs.lemmas.List.Elements.{All-cons, All-nil, All-weaker}
use Rattle.std.proofs.lemmas.List.Folds.{list_any-append, list_any_none}
use Rattle.cm_base.specs.declared.regions.TheConstants.{NSC}
use Rattle.ns_types.specs.declared.event.Veneer.{Veneer}
use Rattle.veneer_link.specs.Assign.{is_among, has_name, is_taken, first_gone, is_place, misplaced_after, places_from, newcomers, placed}
use Rattle.veneer_laws.proofs.Counts.{same_name, equal_names, bytes_eq-sym, count_none, count_some, count_or, count_apart, count_at}

pub same_number : (a : ℕ) → (a == a) ≡ true
same_number a = grind (arith, nat_tests)

pub equal_numbers : (a b : ℕ) → (a == b) ≡ true → a ≡ b
equal_numbers a b e = grind (arith, nat_tests)

other_numbers : (a b : ℕ) → a < b → (b == a) ≡ false
other_numbers a b lt = grind (arith, nat_tests)

-- ---- places one behind the other

pub length-places : (n a : ℕ) → length (places_from n a) ≡ n
length-places zero a = refl
length-places (suc n) a = ap suc (length-places n (a + 8))

none_above : (p : ℕ → Bool) (k : ℕ) (is : (x : ℕ) → p x ≡ true → x ≡ k) (n a : ℕ) → k < a → list_any p (places_from n a) ≡ false
none_above p k is zero a lt = refl
none_above p k is (suc n) a lt = by (p a) (is a) (list_any p (places_from n (a + 8))) (none_above p k is n (a + 8) (omega (arith, lt)))
  where
    by : (b : Bool) → (b ≡ true → a ≡ k) → (rest : Bool) → rest ≡ false → (b || rest) ≡ false
    by true e rest none = absurd (omega (arith, lt, e refl))
    by false e rest none = none

-- a test that one number passes alone is passed by one place at most
pub one_place : (p : ℕ → Bool) (k : ℕ) (is : (x : ℕ) → p x ≡ true → x ≡ k) (n a : ℕ) → length (filter p (places_from n a)) ≤ 1
one_place p k is zero a = omega arith
one_place p k is (suc n) a = by (p a) (is a) (one_place p k is n (a + 8))
  where
    by : (b : Bool) → (b ≡ true → a ≡ k) → length (filter p (places_from n (a + 8))) ≤ 1 → length (cond b (a ∷ filter p (places_from n (a + 8))) (filter p (places_from n (a + 8)))) ≤ 1
    by true e ih = omega (arith, count_none p (places_from n (a + 8)) (none_above p k is n (a + 8) (omega (arith, e refl))))
    by false e ih = ih

-- of the places no more are taken than there are old veneers
pub taken_few : (old : List Veneer) (n a : ℕ) → length (filter (is_taken old) (places_from n a)) ≤ length old
taken_few [] n a = omega (arith, count_none (is_taken []) (places_from n a) (none n a))
  where
    none : (n a : ℕ) → list_any (is_taken []) (places_from n a) ≡ false
    none zero a = refl
    none (suc n) a = none n (a + 8)
taken_few (v ∷ vs) n a =
    let one = one_place (λ x. v.address == x) v.address (λ x e. sym (equal_numbers v.address x e)) n a in
    let or = count_or (λ x. v.address == x) (is_taken vs) (places_from n a) in
    omega (arith, one, or, taken_few vs n a)

-- places are multiples of 8 in the Non-secure callable region
place_there : (a : ℕ) → a % 8 ≡ 0 → NSC.from ≤ a → a + 8 ≤ NSC.to → is_place a ≡ true
place_there a e low high = grind (arith, nat_tests)

pub all_places : (n a : ℕ) → a % 8 ≡ 0 → NSC.from ≤ a → a + 8 * n ≤ NSC.to → All (λ x. is_place x ≡ true) (places_from n a)
all_places zero a e low high = All-nil (λ x. is_place x ≡ true)
all_places (suc n) a e low high =
    All-cons (λ x. is_place x ≡ true) a (places_from n (a + 8)) (place_there a e low (omega (arith, high)))
    (all_places n (a + 8) (omega (arith, e)) (omega (arith, low)) (omega (arith, high)))

-- ---- old veneers

-- what isn't misplaced stands at a place, and no two stand at one
record Stands (k : ℕ) (earlier old : List Veneer) : Type 0 where
  pub place : All (λ v. is_place v.address ≡ true) old
  pub once : length (filter (λ v. v.address == k) old) + cond (is_taken earlier k) 1 0 ≤ 1

stands_step : (k : ℕ) (earlier : List Veneer) (v : Veneer) (vs : List Veneer) (b t : Bool) → is_place v.address ≡ b → is_taken earlier v.address ≡ t → (if not b then Some v else if t then Some v else misplaced_after (earlier ++ v ∷ []) vs) ≡ None → (misplaced_after (earlier ++ v ∷ []) vs ≡ None → Stands k (earlier ++ v ∷ []) vs) → Stands k earlier (v ∷ vs)
stands_step k earlier v vs false t isb ist none ih = cc
stands_step k earlier v vs true true isb ist none ih = cc
stands_step k earlier v vs true false isb ist none ih =
    let s = ih none in
    record {
      place = All-cons (λ w. is_place w.address ≡ true) v vs isb s.place;
      once = by (v.address == k) refl (is_taken earlier k) refl (subst (λ b. length (filter (λ w. w.address == k) vs) + cond b 1 0 ≤ 1) (list_any-append (λ w. w.address == k) earlier (v ∷ [])) s.once);
    }
  where
    by : (here : Bool) → (v.address == k) ≡ here → (before : Bool) → is_taken earlier k ≡ before → length (filter (λ w. w.address == k) vs) + cond (before || (here || false)) 1 0 ≤ 1 → length (cond here (v ∷ filter (λ w. w.address == k) vs) (filter (λ w. w.address == k) vs)) + cond before 1 0 ≤ 1
    by true is true taken le =
        absurd (true≢false (sym taken ∙ (ap (is_taken earlier) (sym (equal_numbers v.address k is)) ∙ ist)))
    by true is false taken le = omega (arith, le)
    by false is true taken le = le
    by false is false taken le = le

stands : (k : ℕ) (earlier old : List Veneer) → misplaced_after earlier old ≡ None → Stands k earlier old
stands k earlier [] none = record {
  place = All-nil (λ v. is_place v.address ≡ true);
  once = by (is_taken earlier k);
}
  where
    by : (b : Bool) → 0 + cond b 1 0 ≤ 1
    by true = omega arith
    by false = omega arith
stands k earlier (v ∷ vs) none =
    stands_step k earlier v vs (is_place v.address) (is_taken earlier v.address) refl refl none (stands k (earlier ++ v ∷ []) vs)

pub old_places : (old : List Veneer) → misplaced_after [] old ≡ None → All (λ v. is_place v.address ≡ true) old
old_places old none = (stands 0 [] old none).place

pub old_once : (old : List Veneer) → misplaced_after [] old ≡ None → (k : ℕ) → length (filter (λ v. v.address == k) old) ≤ 1
old_once old none k = let o = (stands k [] old none).once in omega (arith, o)

-- where none is gone each has the name of an entry
gone_step : (entries : List (List ℕ)) (v : Veneer) (vs : List Veneer) (b : Bool) → is_among entries v.name ≡ b → (if not b then Some v else first_gone entries vs) ≡ None → (is_among entries v.name ≡ true) × (first_gone entries vs ≡ None)
gone_step entries v vs true is none = (is, none)
gone_step entries v vs false is none = cc

pub not_gone : (entries : List (List ℕ)) (v : Veneer) (vs : List Veneer) → first_gone entries (v ∷ vs) ≡ None → (is_among entries v.name ≡ true) × (first_gone entries vs ≡ None)
not_gone entries v vs none = gone_step entries v vs (is_among entries v.name) refl none

among_step : (name n : List ℕ) (names : List (List ℕ)) (b : Bool) → bytes_eq n name ≡ b → (b || is_among names name) ≡ true → (is_among names name ≡ true → Contains names name) → Contains (n ∷ names) name
among_step name n names true is e ih = (0, omega arith, equal_names n name is)
among_step name n names false is e ih = let c = ih e in (suc c.0, omega (arith, c.1), c.2)

pub among : (names : List (List ℕ)) (name : List ℕ) → is_among names name ≡ true → Contains names name
among [] name e = absurd (true≢false (sym e))
among (n ∷ names) name e = among_step name n names (bytes_eq n name) refl e (among names name)

pub old_named : (entries : List (List ℕ)) (old : List Veneer) → first_gone entries old ≡ None → All (λ v. Contains entries v.name) old
old_named entries [] none = All-nil (λ v. Contains entries v.name)
old_named entries (v ∷ vs) none =
    let is = not_gone entries v vs none in
    All-cons (λ w. Contains entries w.name) v vs (among entries v.name is.0) (old_named entries vs is.1)

-- ---- names that differ

differ : (a b : List ℕ) → (a ≡ b → ⊥) → bytes_eq b a ≡ false
differ a b apart = by (bytes_eq b a) refl
  where
    by : (r : Bool) → bytes_eq b a ≡ r → r ≡ false
    by true e = absurd (apart (sym (equal_names b a e)))
    by false e = refl

module _ {X : Type 0} (name_of : X → List ℕ) where
  pub rest_differ : (x : X) (xs : List X) → AllPairs (λ a b. name_of a ≢ name_of b) (x ∷ xs) → AllPairs (λ a b. name_of a ≢ name_of b) xs
  rest_differ x xs d i j e lt below = d (suc i) (suc j) e (omega (arith, lt)) (omega (arith, below))

  pub none_again : (x : X) (xs : List X) → AllPairs (λ a b. name_of a ≢ name_of b) (x ∷ xs) → list_any (λ y. bytes_eq (name_of y) (name_of x)) xs ≡ false
  none_again x xs d =
      list_any_none (λ y. bytes_eq (name_of y) (name_of x)) xs (λ k e lt. differ (name_of x) (name_of (get_or xs k e)) (d 0 (suc k) e (omega arith) (omega (arith, lt))))

  -- of things with different names one at most has a name
  pub one_name : (n : List ℕ) (xs : List X) → AllPairs (λ a b. name_of a ≢ name_of b) xs → length (filter (λ y. bytes_eq (name_of y) n) xs) ≤ 1
  one_name n [] d = omega arith
  one_name n (x ∷ xs) d = by (bytes_eq (name_of x) n) refl (one_name n xs (rest_differ x xs d))
    where
      by : (b : Bool) → bytes_eq (name_of x) n ≡ b → length (filter (λ y. bytes_eq (name_of y) n) xs) ≤ 1 → length (cond b (x ∷ filter (λ y. bytes_eq (name_of y) n) xs) (filter (λ y. bytes_eq (name_of y) n) xs)) ≤ 1
      by true is ih =
          let none = count_none (λ y. bytes_eq (name_of y) n) xs (ap (λ m. list_any (λ y. bytes_eq (name_of y) m) xs) (sym (equal_names (name_of x) n is)) ∙ none_again x xs d) in
          omega (arith, none)
      by false is ih = ih

any_flip : (name : List ℕ) (names : List (List ℕ)) → list_any (λ n. bytes_eq name n) names ≡ is_among names name
any_flip name [] = refl
any_flip name (n ∷ names) =
    ap (λ b. b || list_any (λ m. bytes_eq name m) names) (bytes_eq-sym name n) ∙ ap (λ b. bytes_eq n name || b) (any_flip name names)

-- of the entries as many at least have an old veneer as there are old veneers
pub old_counted : (entries : List (List ℕ)) (old : List Veneer) → AllPairs (λ v w. v.name ≢ w.name) old → first_gone entries old ≡ None → length old ≤ length (filter (has_name old) entries)
old_counted entries [] d none = omega arith
old_counted entries (v ∷ vs) d none =
    let is = not_gone entries v vs none in
    let apart = count_apart (λ n. bytes_eq v.name n) (has_name vs) entries (λ n e. ap (has_name vs) (sym (equal_names v.name n e)) ∙ none_again (λ w. w.name) v vs d) in
    let some = count_some (λ n. bytes_eq v.name n) entries (any_flip v.name entries ∙ is.0) in
    let ih = old_counted entries vs (rest_differ (λ w. w.name) v vs d) is.1 in
    omega (arith, apart, some, ih)

-- ---- veneers for new entries

pub placed_names : (names : List (List ℕ)) (places : List ℕ) → length names ≤ length places → map (λ v. v.name) (placed names places) ≡ names
placed_names [] [] le = refl
placed_names [] (a ∷ places) le = refl
placed_names (n ∷ names) [] le = absurd (omega (arith, le))
placed_names (n ∷ names) (a ∷ places) le = ap (λ ns. n ∷ ns) (placed_names names places (omega (arith, le)))

pub placed_at : (P : ℕ → Type 0) (names : List (List ℕ)) (places : List ℕ) → All P places → All (λ v. P v.address) (placed names places)
placed_at P names [] all = All-nil (λ v. P v.address)
placed_at P [] (a ∷ places) all = All-nil (λ v. P v.address)
placed_at P (n ∷ names) (a ∷ places) all =
    All-cons (λ v. P v.address) (record { name = n; address = a }) (placed names places) (all 0 0 (omega arith)) (placed_at P names places (λ k e lt. all (suc k) e (omega (arith, lt))))

pub placed_named : (P : List ℕ → Type 0) (names : List (List ℕ)) (places : List ℕ) → All P names → All (λ v. P v.name) (placed names places)
placed_named P names [] all = All-nil (λ v. P v.name)
placed_named P [] (a ∷ places) all = All-nil (λ v. P v.name)
placed_named P (n ∷ names) (a ∷ places) all =
    All-cons (λ v. P v.name) (record { name = n; address = a }) (placed names places) (all 0 [] (omega arith)) (placed_named P names places (λ k e lt. all (suc k) e (omega (arith, lt))))

module _ {X Y : Type 0} where
  more : (b : Bool) (x : X) (xs : List X) (y : Y) (ys : List Y) → length xs ≤ length ys → length (cond b (x ∷ xs) xs) ≤ length (cond b (y ∷ ys) ys)
  more true x xs y ys le = omega (arith, le)
  more false x xs y ys le = le

pub placed_at_once : (k : ℕ) (names : List (List ℕ)) (places : List ℕ) → length (filter (λ v. v.address == k) (placed names places)) ≤ length (filter (λ a. a == k) places)
placed_at_once k names [] = omega arith
placed_at_once k [] (a ∷ places) = omega arith
placed_at_once k (n ∷ names) (a ∷ places) =
    more (a == k) (let v : Veneer = record { name = n; address = a } in v) (filter (λ v. v.address == k) (placed names places)) a (filter (λ b. b == k) places) (placed_at_once k names places)

pub placed_named_once : (m : List ℕ) (names : List (List ℕ)) (places : List ℕ) → length (filter (λ v. bytes_eq v.name m) (placed names places)) ≤ length (filter (λ n. bytes_eq n m) names)
placed_named_once m names [] = omega arith
placed_named_once m [] (a ∷ places) = omega arith
placed_named_once m (n ∷ names) (a ∷ places) =
    more (bytes_eq n m) (let v : Veneer = record { name = n; address = a } in v) (filter (λ v. bytes_eq v.name m) (placed names places)) n (filter (λ o. bytes_eq o m) names) (placed_named_once m names places)
