-- Laws of what declarations keep.
use Rattle.std.proofs.Common.{◌≡◌, ℕ, zero, suc, ◌||◌, ◌&&◌, Bool, true, false, not, cond, if◌then◌else◌, List, [], ◌∷◌, ◌++◌, length, take, drop, slice_get, slice_set, position, bytes_eq, ap, sym, ◌∙◌, subst, refl, None, Some, true≢false, arith, nat_lt, ltb-false, ◌≤◌, ◌+◌}
use Rattle.std.specs.List.{list_all, list_any, position_or_len}
use Rattle.std.proofs.lemmas.List.{map-append}
use Rattle.std.proofs.lemmas.Option.{none-some}
use Rattle.std.proofs.lemmas.Slice.Eq.{bytes_eq-Decides}
use Rattle.c_types.specs.Kind.{look}
use Rattle.c_types.specs.Sizes.{fits}
use Rattle.c_types.specs.declared.ctype.CType.{CType}
use Rattle.c_tree.specs.Conditions.{all_differ, is_twin}
use Rattle.c_tree.specs.Slots.{all_fit}
use Rattle.c_tree.specs.declared.program.TLocal.{TLocal}
use Rattle.c_scope.specs.declared.tables.Known.{Known}
use Rattle.c_scope.specs.declared.tables.Tables.{Tables}
use Rattle.c_scope.specs.declared.tables.Linkage.{Linkage}
use Rattle.c_scope.specs.declared.tables.Meaning.{Meaning}
use Rattle.c_scope.specs.declared.tables.Meaning.TheVariants.{Extern, Constant, Null, Typedef, Intrinsic}
use Rattle.c_scope.specs.declared.tables.Scope.{Scope}
use Rattle.c_scope.specs.Blocks as blocks
use Rattle.c_scope.specs.Blocks.{close_parameters, open_parameters, with_named}
use Rattle.c_scope.specs.FileScope.{completed, is_unsized, together, with_body, with_known, with_meaning, with_state}
use Rattle.c_scope.specs.Index.{added, place_of}
use Rattle.later_laws.proofs.Both.{all_push, all_set, all_take, both, left, no, right}
use Rattle.later_laws.specs.Later.{AreSound, IsLater, Kept, Keyed, Later, Stands, is_free, is_listed, names_of}

-- ---- one extern

pub later_itself : (k : Known) → IsLater k k
later_itself k = record { name = refl; type = λ h. refl; body = λ h. h; linkage = λ h. refl }

pub later_then : (k l m : Known) → IsLater k l → IsLater l m → IsLater k m
later_then k l m f g = record {
  name = g.name ∙ f.name;
  type = λ h. g.type (ap (λ t. is_unsized (look t)) (f.type h) ∙ h) ∙ f.type h;
  body = λ h. g.body (f.body h);
  linkage = λ h. g.linkage (f.body h) ∙ f.linkage h;
}

-- ---- externs

pub stands_same : (ks : List Known) (n : ℕ) (k : Known) → slice_get ks n ≡ Some k → Stands k ks n
stands_same ks n k h = record { now = k; there = h; later = later_itself k }

pub stands_push : (ks : List Known) (k : Known) (n : ℕ) (x : Known) → slice_get ks n ≡ Some x → Stands x (ks ++ k ∷ []) n
stands_push [] k n x h = cc
stands_push (y ∷ ys) k zero x h = record { now = x; there = h; later = later_itself x }
stands_push (y ∷ ys) k (suc n) x h = let r = stands_push ys k n x h in record { now = r.now; there = r.there; later = r.later }

pub stands_set : (ks : List Known) (i : ℕ) (k y : Known) → slice_get ks i ≡ Some k → IsLater k y → (n : ℕ) (x : Known) → slice_get ks n ≡ Some x → Stands x (slice_set ks i y) n
stands_set [] i k y is f n x h = cc
stands_set (z ∷ zs) zero k y is f zero x h = let e : k ≡ x = cc in record { now = y; there = refl; later = subst (λ u. IsLater u y) e f }
stands_set (z ∷ zs) zero k y is f (suc n) x h = stands_same (y ∷ zs) (suc n) x h
stands_set (z ∷ zs) (suc i) k y is f zero x h = stands_same (z ∷ slice_set zs i y) zero x h
stands_set (z ∷ zs) (suc i) k y is f (suc n) x h = let r = stands_set zs i k y is f n x h in record { now = r.now; there = r.there; later = r.later }

pub names_set : (ks : List Known) (i : ℕ) (k y : Known) → slice_get ks i ≡ Some k → y.name ≡ k.name → names_of (slice_set ks i y) ≡ names_of ks
names_set [] i k y is f = refl
names_set (z ∷ zs) zero k y is f = let e : z ≡ k = cc in ap (λ name. name ∷ names_of zs) (f ∙ ap (λ (u : Known). u.name) (sym e))
names_set (z ∷ zs) (suc i) k y is f = ap (λ ns. z.name ∷ ns) (names_set zs i k y is f)

-- ---- names

same_name : (a : List ℕ) → bytes_eq a a ≡ true
same_name a = (bytes_eq-Decides a a).1 refl

one_name : (a b : List ℕ) → bytes_eq a b ≡ true → a ≡ b
one_name a b h = (bytes_eq-Decides a b).0 h

or_first : (a : Bool) {b c : Bool} → (a || b) ≡ true → (b ≡ true → c ≡ true) → (a || c) ≡ true
or_first true h f = refl
or_first false h f = f h

or_second : (a : Bool) {b : Bool} → b ≡ true → (a || b) ≡ true
or_second true h = refl
or_second false h = h

any_first : (p : List ℕ → Bool) (xs ys : List (List ℕ)) → list_any p xs ≡ true → list_any p (xs ++ ys) ≡ true
any_first p [] ys h = no h
any_first p (x ∷ xs) ys h = or_first (p x) h (any_first p xs ys)

any_last : (p : List ℕ → Bool) (xs : List (List ℕ)) (y : List ℕ) → p y ≡ true → list_any p (xs ++ y ∷ []) ≡ true
any_last p [] y h = ap (λ b. b || false) h
any_last p (x ∷ xs) y h = or_second (p x) (any_last p xs y h)

-- whoever is listed stays so
listed_push : (names ns : List (List ℕ)) (text : List ℕ) → list_all (is_listed names) ns ≡ true → list_all (is_listed (names ++ text ∷ [])) ns ≡ true
listed_push names [] text g = refl
listed_push names (x ∷ xs) text g = both (any_first (bytes_eq x) names (text ∷ []) (left (is_listed names x) _ g)) (listed_push names xs text (right (is_listed names x) _ g))

get_last : {X : Type 0} (xs : List X) (x : X) (i : ℕ) → i ≡ length xs → slice_get (xs ++ x ∷ []) i ≡ Some x
get_last [] x zero h = refl
get_last [] x (suc i) h = absurd (omega (arith, h))
get_last (y ∷ ys) x zero h = absurd (omega (arith, h))
get_last (y ∷ ys) x (suc i) h = get_last ys x i (omega (arith, h))

get_first : {X : Type 0} (xs : List X) (x y : X) (i : ℕ) → slice_get xs i ≡ Some y → slice_get (xs ++ x ∷ []) i ≡ Some y
get_first [] x y i h = cc
get_first (z ∷ zs) x y zero h = h
get_first (z ∷ zs) x y (suc i) h = get_first zs x y i h

-- what stands in a longer list stood there before, or is the last
data Placed {X : Type 0} (xs : List X) (x y : X) (i : ℕ) : Type 0 where
  before : slice_get xs i ≡ Some y → Placed xs x y i
  last : i ≡ length xs → x ≡ y → Placed xs x y i

placed_in : {X : Type 0} (xs : List X) (x y : X) (i : ℕ) → slice_get (xs ++ x ∷ []) i ≡ Some y → Placed xs x y i
placed_in [] x y zero h = last refl cc
placed_in [] x y (suc i) h = cc
placed_in (z ∷ zs) x y zero h = before h
placed_in (z ∷ zs) x y (suc i) h = by (placed_in zs x y i h)
  where
    by : Placed zs x y i → Placed (z ∷ zs) x y (suc i)
    by (before g) = before g
    by (last e g) = last (ap suc e) g

-- ---- a new name

past_all : (p : List ℕ → Bool) (xs : List (List ℕ)) → position p xs ≡ None → length xs ≤ position_or_len p xs
past_all p xs h = by (nat_lt (position_or_len p xs) (length xs)) refl
  where
    by : (b : Bool) → nat_lt (position_or_len p xs) (length xs) ≡ b → length xs ≤ position_or_len p xs
    by true e = absurd (none-some (position_or_len p xs) (sym (sym (ap (λ b. cond b (Some (position_or_len p xs)) None) e) ∙ h)))
    by false e = ltb-false (position_or_len p xs) (length xs) e

none_pass : (p : List ℕ → Bool) (xs : List (List ℕ)) → length xs ≤ position_or_len p xs → list_any p xs ≡ false
none_pass p [] h = refl
none_pass p (x ∷ xs) h = by (p x) h (none_pass p xs)
  where
    by : (b : Bool) → length (x ∷ xs) ≤ cond (not b) (1 + position_or_len p xs) 0 → (length xs ≤ position_or_len p xs → list_any p xs ≡ false) → (b || list_any p xs) ≡ false
    by true g rest = absurd (omega (arith, g))
    by false g rest = rest (omega (arith, g))

no_place : (names : List (List ℕ)) (text : List ℕ) → place_of names text ≡ None → is_listed names text ≡ false
no_place names text h = none_pass (bytes_eq text) names (past_all (bytes_eq text) names h)

or_none : (a b : Bool) → a ≡ false → b ≡ false → (a || b) ≡ false
or_none true b h k = h
or_none false b h k = k

none_first : (a b : Bool) → (a || b) ≡ false → a ≡ false
none_first true b h = h
none_first false b h = refl

none_second : (a b : Bool) → (a || b) ≡ false → b ≡ false
none_second true b h = no (sym h)
none_second false b h = h

clash : {A : Type 0} (b : Bool) → b ≡ true → b ≡ false → A
clash b h k = no (sym k ∙ h)

not_same : (names : List (List ℕ)) (n text : List ℕ) → is_listed names text ≡ false → is_listed names n ≡ true → bytes_eq n text ≡ false
not_same names n text h g = by (bytes_eq n text) refl
  where
    by : (b : Bool) → bytes_eq n text ≡ b → b ≡ false
    by true e = clash (is_listed names text) (ap (is_listed names) (sym (one_name n text e)) ∙ g) h
    by false e = refl

-- a name that isn't listed is none of those that are
is_new : (names ns : List (List ℕ)) (text : List ℕ) → is_listed names text ≡ false → list_all (is_listed names) ns ≡ true → list_any (λ n. bytes_eq n text) ns ≡ false
is_new names [] text h k = refl
is_new names (n ∷ ns) text h k = or_none (bytes_eq n text) _ (not_same names n text h (left (is_listed names n) _ k)) (is_new names ns text h (right (is_listed names n) _ k))

none_push : (p : List ℕ → Bool) (xs : List (List ℕ)) (y : List ℕ) → list_any p xs ≡ false → p y ≡ false → list_any p (xs ++ y ∷ []) ≡ false
none_push p [] y f g = or_none (p y) false g refl
none_push p (x ∷ xs) y f g = or_none (p x) _ (none_first (p x) _ f) (none_push p xs y (none_second (p x) _ f) g)

not_any : (b : Bool) → not b ≡ true → b ≡ false
not_any true h = no h
not_any false h = refl

differ_push : (ns : List (List ℕ)) (text : List ℕ) → all_differ ns ≡ true → list_any (λ n. bytes_eq n text) ns ≡ false → all_differ (ns ++ text ∷ []) ≡ true
differ_push [] text h k = refl
differ_push (n ∷ ns) text h k =
    both (ap not (none_push (bytes_eq n) ns text (not_any (list_any (bytes_eq n) ns) (left (not (list_any (bytes_eq n) ns)) _ h)) (none_first (bytes_eq n text) _ k)))
    (differ_push ns text (right (not (list_any (bytes_eq n) ns)) _ h) (none_second (bytes_eq n text) _ k))

-- a new name is added at the end
added_new : (names : List (List ℕ)) (text : List ℕ) → place_of names text ≡ None → added names text ≡ names ++ text ∷ []
added_new names text h = by (list_any (λ x. bytes_eq text x) names) (no_place names text h)
  where
    by : (b : Bool) → b ≡ false → (if b then names else (names ++ text ∷ [])) ≡ names ++ text ∷ []
    by true g = absurd (true≢false g)
    by false g = refl

length_last : {X : Type 0} (xs : List X) (x : X) → length (xs ++ x ∷ []) ≡ suc (length xs)
length_last [] x = refl
length_last (y ∷ ys) x = ap suc (length_last ys x)

-- ---- tables

-- the same names with the same meanings, and the same externs
pub sound_beside : (s t : Tables) → t.externs ≡ s.externs → t.names ≡ s.names → t.meanings ≡ s.meanings → AreSound s → AreSound t
sound_beside s t e n m h = record {
  aligned = ap (λ (xs : List (List ℕ)). length xs) n ∙ (h.aligned ∙ sym (ap (λ (xs : List Meaning). length xs) m));
  keyed = λ i j g. let k = h.keyed i j (sym (ap (λ ms. slice_get ms i) m) ∙ g) in record { known = k.known; there = ap (λ ks. slice_get ks j) e ∙ k.there; name = ap (λ ns. slice_get ns i) n ∙ k.name };
  differ = ap (λ ks. all_differ (names_of ks)) e ∙ h.differ;
  free = ap (λ ks. list_all is_free (names_of ks)) e ∙ h.free;
  listed = ap (λ ns. list_all (is_listed ns) (names_of t.externs)) n ∙ (ap (λ ks. list_all (is_listed s.names) (names_of ks)) e ∙ h.listed);
}

pub later_same : (s : Tables) → Later s s
later_same s = record { externs = stands_same s.externs; sound = λ h. h }

pub later_trans : (s t u : Tables) → Later s t → Later t u → Later s u
later_trans s t u f g = record {
  externs = λ n k h. let a = f.externs n k h in let b = g.externs n a.now a.there in record { now = b.now; there = b.there; later = later_then k a.now b.now a.later b.later };
  sound = λ h. g.sound (f.sound h);
}

pub kept_same : (s : Tables) → Kept s s
kept_same s = record { externs = refl; sound = λ h. h; locals = λ m h. h }

pub kept_trans : (s t u : Tables) → Kept s t → Kept t u → Kept s u
kept_trans s t u f g = record { externs = g.externs ∙ f.externs; sound = λ h. g.sound (f.sound h); locals = λ m h. g.locals m (f.locals m h) }

-- what is kept in a function is kept at file scope
pub kept_later : (s t : Tables) → Kept s t → Later s t
kept_later s t h = record { externs = λ n k g. stands_same t.externs n k (ap (λ ks. slice_get ks n) h.externs ∙ g); sound = h.sound }

-- the same names with the same meanings, the same externs, and the same locals
pub kept_beside : (s t : Tables) → t.externs ≡ s.externs → t.locals ≡ s.locals → t.names ≡ s.names → t.meanings ≡ s.meanings → Kept s t
kept_beside s t e l n m = record { externs = e; sound = sound_beside s t e n m; locals = λ i h. ap (λ ls. all_fit (drop i ls)) l ∙ h }

abbrev small : TLocal → Bool
small l = fits l.ctype

none_left : (m : ℕ) → all_fit (drop m []) ≡ true
none_left zero = refl
none_left (suc m) = refl

push_from : (m : ℕ) (ls : List TLocal) (x : TLocal) → fits x.ctype ≡ true → all_fit (drop m ls) ≡ true → all_fit (drop m (ls ++ x ∷ [])) ≡ true
push_from zero ls x f h = all_push small ls x h f
push_from (suc m) [] x f h = none_left m
push_from (suc m) (l ∷ ls) x f h = push_from m ls x f h

set_from : (m : ℕ) (ls : List TLocal) (n : ℕ) (x : TLocal) → fits x.ctype ≡ true → all_fit (drop m ls) ≡ true → all_fit (drop m (slice_set ls n x)) ≡ true
set_from zero ls n x f h = all_set small ls n x h f
set_from (suc m) [] n x f h = refl
set_from (suc m) (l ∷ ls) zero x f h = h
set_from (suc m) (l ∷ ls) (suc n) x f h = set_from m ls n x f h

take_from : (m n : ℕ) (ls : List TLocal) → all_fit (drop m ls) ≡ true → all_fit (drop m (take n ls)) ≡ true
take_from zero n ls h = all_take small n ls h
take_from (suc m) zero ls h = refl
take_from (suc m) (suc n) [] h = refl
take_from (suc m) (suc n) (l ∷ ls) h = take_from m n ls h

-- other locals alone
kept_locals : (s : Tables) (ls : List TLocal) → ((m : ℕ) → all_fit (drop m s.locals) ≡ true → all_fit (drop m ls) ≡ true) → Kept s (record s { locals = ls })
kept_locals s ls f = record { externs = refl; sound = sound_beside s (record s { locals = ls }) refl refl refl; locals = f }

-- an extern in the place of another
pub later_set : (s : Tables) (n : ℕ) (k y : Known) → slice_get s.externs n ≡ Some k → IsLater k y → Later s (record s { externs = slice_set s.externs n y })
later_set s n k y is f = record {
  externs = stands_set s.externs n k y is f;
  sound = λ h.
      let e = names_set s.externs n k y is f.name in
      record {
        aligned = h.aligned;
        keyed = λ i j g. let x = h.keyed i j g in let z = stands_set s.externs n k y is f j x.known x.there in record { known = z.now; there = z.there; name = x.name ∙ ap Some (sym z.later.name) };
        differ = subst (λ ns. all_differ ns ≡ true) (sym e) h.differ;
        free = subst (λ ns. list_all is_free ns ≡ true) (sym e) h.free;
        listed = subst (λ ns. list_all (is_listed s.names) ns ≡ true) (sym e) h.listed;
      };
}

abbrev pub not_extern : Meaning → Bool
not_extern (Extern n) = false
not_extern (Constant n) = true
not_extern Null = true
not_extern (Typedef t) = true
not_extern (Intrinsic i) = true

no_extern : {A : Type 0} (m : Meaning) (n : ℕ) → not_extern m ≡ true → m ≡ Extern n → A
no_extern m n h e = no (sym (ap not_extern e) ∙ h)

-- a new name of file scope that is no function and no global
pub kept_meaning : (s : Tables) (text : List ℕ) (m : Meaning) → place_of s.names text ≡ None → not_extern m ≡ true → Kept s (with_meaning text m s)
kept_meaning s text m new plain = record {
  externs = refl;
  sound = λ h. record {
    aligned = ap (λ (xs : List (List ℕ)). length xs) (added_new s.names text new) ∙ (length_last s.names text ∙ (ap suc h.aligned ∙ sym (length_last s.meanings m)));
    keyed = λ i n g. keyed h i n (placed_in s.meanings m (Extern n) i g);
    differ = h.differ;
    free = h.free;
    listed = subst (λ ns. list_all (is_listed ns) (names_of s.externs) ≡ true) (sym (added_new s.names text new)) (listed_push s.names (names_of s.externs) text h.listed);
  };
  locals = λ i h. h;
}
  where
    keyed : AreSound s → (i n : ℕ) → Placed s.meanings m (Extern n) i → Keyed (with_meaning text m s) i n
    keyed h i n (before g) = let k = h.keyed i n g in record { known = k.known; there = k.there; name = ap (λ ns. slice_get ns i) (added_new s.names text new) ∙ get_first s.names text k.known.name i k.name }
    keyed h i n (last e g) = no_extern m n plain g

-- an extern of a new name
pub later_new : (s : Tables) (k : Known) → place_of s.names k.name ≡ None → is_twin k.name ≡ false → Later s (with_known k s)
later_new s k new free = record {
  externs = stands_push s.externs k;
  sound = λ h. sound h;
}
  where
    e : names_of (s.externs ++ k ∷ []) ≡ names_of s.externs ++ k.name ∷ []
    e = map-append (λ (x : Known). x.name) s.externs (k ∷ [])

    keyed : AreSound s → (i n : ℕ) → Placed s.meanings (Extern (length s.externs)) (Extern n) i → Keyed (with_known k s) i n
    keyed h i n (before g) = let x = h.keyed i n g in record { known = x.known; there = get_first s.externs k x.known n x.there; name = ap (λ ns. slice_get ns i) (added_new s.names k.name new) ∙ get_first s.names k.name x.known.name i x.name }
    keyed h i n (last at g) = record { known = k; there = get_last s.externs k n (same_number g); name = ap (λ ns. slice_get ns i) (added_new s.names k.name new) ∙ get_last s.names k.name i (at ∙ sym h.aligned) }
      where
        number : Meaning → ℕ
        number (Extern m) = m
        number _ = 0

        same_number : Extern (length s.externs) ≡ Extern n → n ≡ length s.externs
        same_number q = sym (ap number q)

    sound : AreSound s → AreSound (with_known k s)
    sound h = record {
      aligned = ap (λ (xs : List (List ℕ)). length xs) (added_new s.names k.name new) ∙ (length_last s.names k.name ∙ (ap suc h.aligned ∙ sym (length_last s.meanings (Extern (length s.externs)))));
      keyed = λ i n g. keyed h i n (placed_in s.meanings (Extern (length s.externs)) (Extern n) i g);
      differ = subst (λ ns. all_differ ns ≡ true) (sym e) (differ_push (names_of s.externs) k.name h.differ (is_new s.names (names_of s.externs) k.name (no_place s.names k.name new) h.listed));
      free = subst (λ ns. list_all is_free ns ≡ true) (sym e) (all_push is_free (names_of s.externs) k.name h.free (ap not free));
      listed = subst (λ ns. list_all (is_listed (added s.names k.name)) ns ≡ true) (sym e) (subst (λ names. list_all (is_listed names) (names_of s.externs ++ k.name ∷ []) ≡ true) (sym (added_new s.names k.name new)) (all_push (is_listed (s.names ++ k.name ∷ [])) (names_of s.externs) k.name (listed_push s.names (names_of s.externs) k.name h.listed) (any_last (bytes_eq k.name) s.names k.name (same_name k.name))));
    }

-- ---- locals

pub kept_local : (s : Tables) (x : TLocal) → fits x.ctype ≡ true → Kept s (record s { locals = s.locals ++ x ∷ [] })
kept_local s x f = kept_locals s (s.locals ++ x ∷ []) (λ m h. push_from m s.locals x f h)

pub kept_named : (text : List ℕ) (t : CType) (s : Tables) → fits t ≡ true → Kept s (with_named text t s)
kept_named text t s f = record { externs = refl; sound = sound_beside s (with_named text t s) refl refl refl; locals = λ m h. push_from m s.locals (record { name = text; ctype = t }) f h }

pub kept_completed : (n : ℕ) (t : CType) (s : Tables) (l : TLocal) → fits t ≡ true → Kept s (record s { locals = slice_set s.locals n (blocks.completed t l) })
kept_completed n t s l f = kept_locals s (slice_set s.locals n (blocks.completed t l)) (λ m h. set_from m s.locals n (blocks.completed t l) f h)

-- a parameter list that began at s
pub kept_closed : (outer : Scope) (s t : Tables) → Kept s t → Kept s (close_parameters (open_parameters outer s) t)
kept_closed outer s t h = record { externs = h.externs; sound = λ a. sound_beside t (close_parameters (open_parameters outer s) t) refl refl refl (h.sound a); locals = λ m f. take_from m (length s.locals) t.locals (h.locals m f) }

-- ---- externs that are declared again, defined or completed

pub later_together : (k : Known) (how : Linkage) → IsLater k (with_state (together k.state how) k)
later_together k how = record { name = refl; type = λ h. refl; body = λ h. h; linkage = λ h. ap (λ b. k.state.is_static || (how.is_static && not b)) h ∙ plain k.state.is_static how.is_static }
  where
    plain : (a b : Bool) → (a || (b && false)) ≡ a
    plain true b = refl
    plain false true = refl
    plain false false = refl

pub later_body : (k : Known) → IsLater k (with_state (with_body k.state) k)
later_body k = record { name = refl; type = λ h. refl; body = λ h. refl; linkage = λ h. refl }

pub later_object : (k : Known) (t : CType) → is_unsized (look k.ctype) ≡ true → IsLater k (completed t k)
later_object k t h = record { name = refl; type = λ g. no (sym g ∙ h); body = λ g. g; linkage = λ g. refl }
