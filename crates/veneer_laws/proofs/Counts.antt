-- How many elements of a list pass a test.
use Rattle.std.proofs.Common.{◌≡◌, ℕ, zero, suc, ◌+◌, ◌<◌, ◌≤◌, ◌||◌, Bool, true, false, cond, List, [], ◌∷◌, ◌++◌, length, get_or, map, filter, All, Contains, sum_by, IsPermutation, Decides, bytes_eq, refl, sym, ap, ◌∙◌, true≢false, arith, length-append}
use Rattle.std.specs.List.{list_any}
use Rattle.std.proofs.lemmas.Slice.Eq.{bytes_eq-Decides}
use Rattle.std.proofs.lemmas.List.Elements.{All-cons, All-tail, All-nil, filter-append}
use Rattle.std.proofs.lemmas.List.Sums.{length-filter}
use Rattle.std.proofs.lemmas.List.Sorted.{sum_by-IsPermutation}

-- two tests that pass alike are one
both : (r s : Bool) → (r ≡ true → s ≡ true) → (s ≡ true → r ≡ true) → r ≡ s
both true true f g = refl
both true false f g = sym (f refl)
both false true f g = g refl
both false false f g = refl

pub same_name : (a : List ℕ) → bytes_eq a a ≡ true
same_name a = (bytes_eq-Decides a a).1 refl

pub equal_names : (a b : List ℕ) → bytes_eq a b ≡ true → a ≡ b
equal_names a b e = (bytes_eq-Decides a b).0 e

pub bytes_eq-sym : (a b : List ℕ) → bytes_eq a b ≡ bytes_eq b a
bytes_eq-sym a b =
    both (bytes_eq a b) (bytes_eq b a)
    (λ e. (bytes_eq-Decides b a).1 (sym (equal_names a b e)))
    (λ e. (bytes_eq-Decides a b).1 (sym (equal_names b a e)))

module _ {X : Type 0} where
  none_step : (b rest : Bool) (x : X) (xs : List X) → (rest ≡ false → length xs ≡ 0) → (b || rest) ≡ false → length (cond b (x ∷ xs) xs) ≡ 0
  none_step true rest x xs ih e = absurd (true≢false e)
  none_step false rest x xs ih e = ih e

  -- where none passes
  pub count_none : (p : X → Bool) (xs : List X) → list_any p xs ≡ false → length (filter p xs) ≡ 0
  count_none p [] e = refl
  count_none p (x ∷ xs) e = none_step (p x) (list_any p xs) x (filter p xs) (count_none p xs) e

  some_step : (b rest : Bool) (x : X) (xs : List X) → (rest ≡ true → 1 ≤ length xs) → (b || rest) ≡ true → 1 ≤ length (cond b (x ∷ xs) xs)
  some_step true rest x xs ih e = omega arith
  some_step false rest x xs ih e = ih e

  -- where one passes
  pub count_some : (p : X → Bool) (xs : List X) → list_any p xs ≡ true → 1 ≤ length (filter p xs)
  count_some p [] e = absurd (true≢false (sym e))
  count_some p (x ∷ xs) e = some_step (p x) (list_any p xs) x (filter p xs) (count_some p xs) e

  or_step : (b c : Bool) (x : X) (rs ps qs : List X) → length rs ≤ length ps + length qs → length (cond (b || c) (x ∷ rs) rs) ≤ length (cond b (x ∷ ps) ps) + length (cond c (x ∷ qs) qs)
  or_step true true x rs ps qs le = omega (arith, le)
  or_step true false x rs ps qs le = omega (arith, le)
  or_step false true x rs ps qs le = omega (arith, le)
  or_step false false x rs ps qs le = le

  -- one test or the other
  pub count_or : (p q : X → Bool) (xs : List X) → length (filter (λ x. p x || q x) xs) ≤ length (filter p xs) + length (filter q xs)
  count_or p q [] = omega arith
  count_or p q (x ∷ xs) =
      or_step (p x) (q x) x (filter (λ y. p y || q y) xs) (filter p xs) (filter q xs) (count_or p q xs)

  apart_step : (b c : Bool) (x : X) (rs ps qs : List X) → (b ≡ true → c ≡ false) → length rs ≡ length ps + length qs → length (cond (b || c) (x ∷ rs) rs) ≡ length (cond b (x ∷ ps) ps) + length (cond c (x ∷ qs) qs)
  apart_step true true x rs ps qs never e = absurd (true≢false (never refl))
  apart_step true false x rs ps qs never e = omega (arith, e)
  apart_step false true x rs ps qs never e = omega (arith, e)
  apart_step false false x rs ps qs never e = e

  -- one test or the other, where no element passes both
  pub count_apart : (p q : X → Bool) (xs : List X) → ((x : X) → p x ≡ true → q x ≡ false) → length (filter (λ x. p x || q x) xs) ≡ length (filter p xs) + length (filter q xs)
  count_apart p q [] never = refl
  count_apart p q (x ∷ xs) never =
      apart_step (p x) (q x) x (filter (λ y. p y || q y) xs) (filter p xs) (filter q xs) (never x) (count_apart p q xs never)

  part_step : (b c : Bool) (p : X → Bool) (x : X) (qs xs : List X) → p x ≡ c → length (filter p qs) ≤ length xs → length (filter p (cond b (x ∷ qs) qs)) ≤ length (cond c (x ∷ xs) xs)
  part_step true true p x qs xs is le = rw is (omega (arith, le))
  part_step true false p x qs xs is le = rw is le
  part_step false true p x qs xs is le = omega (arith, le)
  part_step false false p x qs xs is le = le

  -- of the elements that pass another test
  pub count_part : (p q : X → Bool) (xs : List X) → length (filter p (filter q xs)) ≤ length (filter p xs)
  count_part p q [] = omega arith
  count_part p q (x ∷ xs) =
      part_step (q x) (p x) p x (filter q xs) (filter p xs) refl (count_part p q xs)

  -- an order changes nothing
  pub count_permutation : (p : X → Bool) (xs ys : List X) → IsPermutation xs ys → length (filter p ys) ≡ length (filter p xs)
  count_permutation p xs ys is =
      length-filter p ys ∙ (sum_by-IsPermutation (λ x. cond (p x) 1 0) xs ys is ∙ sym (length-filter p xs))

  pub count_append : (p : X → Bool) (xs ys : List X) → length (filter p (xs ++ ys)) ≡ length (filter p xs) + length (filter p ys)
  count_append p xs ys = ap length (filter-append p xs ys) ∙ length-append (filter p xs) (filter p ys)

  counted_here : (b : Bool) (x : X) (xs : List X) (n : ℕ) → b ≡ true → n ≤ length xs → suc n ≤ length (cond b (x ∷ xs) xs)
  counted_here true x xs n e le = omega (arith, le)
  counted_here false x xs n e le = absurd (true≢false (sym e))

  counted_any : (b : Bool) (x : X) (xs : List X) (n : ℕ) → n ≤ length xs → n ≤ length (cond b (x ∷ xs) xs)
  counted_any true x xs n le = omega (arith, le)
  counted_any false x xs n le = le

  -- an element that passes
  pub count_at : (p : X → Bool) (xs : List X) (i : ℕ) (d : X) → i < length xs → p (get_or xs i d) ≡ true → 1 ≤ length (filter p xs)
  count_at p [] i d lt e = omega (arith, lt)
  count_at p (x ∷ xs) zero d lt e = counted_here (p x) x (filter p xs) 0 e (omega arith)
  count_at p (x ∷ xs) (suc i) d lt e = counted_any (p x) x (filter p xs) 1 (count_at p xs i d (omega (arith, lt)) e)

  -- two of them
  pub count_two : (p : X → Bool) (xs : List X) (i j : ℕ) (d : X) → i < j → j < length xs → p (get_or xs i d) ≡ true → p (get_or xs j d) ≡ true → 2 ≤ length (filter p xs)
  count_two p [] i j d lt below e f = omega (arith, below)
  count_two p (x ∷ xs) i zero d lt below e f = omega (arith, lt)
  count_two p (x ∷ xs) zero (suc j) d lt below e f = counted_here (p x) x (filter p xs) 1 e (count_at p xs j d (omega (arith, below)) f)
  count_two p (x ∷ xs) (suc i) (suc j) d lt below e f =
      counted_any (p x) x (filter p xs) 2 (count_two p xs i j d (omega (arith, lt)) (omega (arith, below)) e f)

  -- an element of a list stands in a longer one
  pub later : (x : X) (xs : List X) (y : X) → Contains xs y → Contains (x ∷ xs) y
  later x xs y c = (suc c.0, omega (arith, c.1), c.2)

  pub first : (x : X) (xs : List X) → Contains (x ∷ xs) x
  first x xs = (0, omega arith, refl)

  here_step : (b : Bool) (x : X) (xs : List X) → b ≡ true → Contains (cond b (x ∷ xs) xs) x
  here_step true x xs e = first x xs
  here_step false x xs e = absurd (true≢false (sym e))

  there_step : (b : Bool) (x : X) (xs : List X) (y : X) → Contains xs y → Contains (cond b (x ∷ xs) xs) y
  there_step true x xs y c = later x xs y c
  there_step false x xs y c = c

  -- an element that passes is among those that do
  pub passes : (p : X → Bool) (xs : List X) (i : ℕ) (d : X) → i < length xs → p (get_or xs i d) ≡ true → Contains (filter p xs) (get_or xs i d)
  passes p [] i d lt e = absurd (omega (arith, lt))
  passes p (x ∷ xs) zero d lt e = here_step (p x) x (filter p xs) e
  passes p (x ∷ xs) (suc i) d lt e = there_step (p x) x (filter p xs) (get_or xs i d) (passes p xs i d (omega (arith, lt)) e)
