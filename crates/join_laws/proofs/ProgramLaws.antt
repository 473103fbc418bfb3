-- What no fault hinders is a program.
use Rattle.std.proofs.Common.{◌≡◌, ◌≢◌, ◌⊎◌, inl, inr, option_and_then, option_map, ℕ, zero, suc, ◌+◌, ◌<◌, ◌≤◌, ◌==◌, ◌||◌, ◌&&◌, Bool, true, false, not, cond, nat_lt, List, [], ◌∷◌, ◌++◌, map, sum, length, slice_get, slice_index_or, All, AllPairs, ap, ap₂, sym, ◌∙◌, subst, refl, Option, None, Some, is_some, true≢false, arith, IsTrue, append_assoc, bytes_eq, ltb-true, ltb-false, lt-ltb, eq-eqb}
use Rattle.std.specs.Prelude.{unwrap_or}
use Rattle.std.specs.List.{list_all, list_any}
use Rattle.std.proofs.lemmas.Bool.{eqb-true}
use Rattle.std.proofs.lemmas.Option.{slice_get-map, slice_get_cases}
use Rattle.std.proofs.lemmas.List.{map-append, length-append}
use Rattle.std.proofs.lemmas.List.Folds.{list_all-append}
use Rattle.std.proofs.lemmas.List.Sums.{sum_by-append}
use Rattle.std.proofs.lemmas.List.Elements.{All-append, All-head, All-map, All-nil, All-tail}
use Rattle.std.proofs.lemmas.List.Quantifiers.{position-Some}
use Rattle.c_types.specs.declared.ctype.Shape.TheOpen as shape
use Rattle.c_types.specs.declared.same.Units.TheVariants.{One, Two}
use Rattle.c_types.specs.Kind.{Look, is_function, look}
use Rattle.c_types.specs.Sizes.{fits}
use Rattle.c_types.specs.Same.{same_across_units, same_flag, same_type}
use Rattle.c_tree.specs.declared.program.Extern.{Extern}
use Rattle.c_tree.specs.declared.program.TFunction.{TFunction}
use Rattle.c_tree.specs.Conditions.{IsFunction, IsGlobal, IsProgram, IsUnit, TUnit, declared, has_linkage, has_type, function_declared}
use Rattle.c_tree.specs.Numbers.{is_called, is_object, has_params, looks_called, names_of_program, names_of_unit}
use Rattle.c_tree.specs.Nodes.{function_nodes, program_nodes}
use Rattle.c_tree.specs.Globals as g
use Rattle.c_tree.specs.Globals.{globals_bytes}
use Rattle.join_laws.specs.Keys.{Key, function_keys, global_keys, is_static, key, key_of, number_of, numbers_of, per_unit, place_of_key, same_key, unit_global_keys}
use Rattle.join_laws.specs.Joined.{Numbered, all_functions, all_globals, defined_twice, differs, disputed, entry_names, is_disputed, program, undefined_use, unit_functions, unit_globals, units_nodes}
use Rattle.join_laws.specs.Renumber.{number_in, renumber, renumbered_function}
use Rattle.join_laws.specs.Uses.{is_defined}
use Rattle.join_laws.proofs.Declared.{declared_at, declared_itself, name_same, names_equal}
use Rattle.join_laws.proofs.InRange.{in_range_after}
use Rattle.join_laws.proofs.Kept.{function_nodes_kept, placed_kept, slots_kept}
use Rattle.join_laws.proofs.Members.{IsMember, Member, all_members, members, per_member}
use Rattle.join_laws.proofs.SeenLaws.{functions_differ}
use Rattle.join_laws.proofs.TypeLaws.{called_alike, called_is_function}
use Rattle.join_laws.proofs.UnitLaws.{Agreed, AllAgree, disputed_none, undefined_none}

left : (a b : Bool) → (a && b) ≡ true → a ≡ true
left true b h = refl
left false b h = h

right : (a b : Bool) → (a && b) ≡ true → b ≡ true
right true b h = h
right false b h = absurd (true≢false (sym h))

-- ---- units agree

all_at : {X : Type 0} (p : X → Bool) (xs : List X) (i : ℕ) (x : X) → list_all p xs ≡ true → slice_get xs i ≡ Some x → p x ≡ true
all_at p [] i x h e = cc
all_at p (y ∷ ys) zero x h e = let s : y ≡ x = cc in subst (λ z. p z ≡ true) s (left (p y) (list_all p ys) h)
all_at p (y ∷ ys) (suc i) x h e = all_at p ys i x (right (p y) (list_all p ys) h) e

or_left : (a b : Bool) → (a || b) ≡ false → a ≡ false
or_left true b h = h
or_left false b h = refl

or_right : (a b : Bool) → (a || b) ≡ false → b ≡ false
or_right true b h = absurd (true≢false h)
or_right false b h = h

none_at : {X : Type 0} (p : X → Bool) (xs : List X) (i : ℕ) (x : X) → list_any p xs ≡ false → slice_get xs i ≡ Some x → p x ≡ false
none_at p [] i x h e = cc
none_at p (y ∷ ys) zero x h e = let s : y ≡ x = cc in subst (λ z. p z ≡ false) s (or_left (p y) (list_any p ys) h)
none_at p (y ∷ ys) (suc i) x h e = none_at p ys i x (or_right (p y) (list_any p ys) h) e

front : {X : Type 0} (xs ys : List X) (i : ℕ) → i < length xs → slice_get (xs ++ ys) i ≡ slice_get xs i
front [] ys i lt = absurd (omega (arith, lt))
front (x ∷ xs) ys zero lt = refl
front (x ∷ xs) ys (suc i) lt = front xs ys i (omega (arith, lt))

undisputed : (before : List TUnit) (x : Extern) → not (is_disputed before x) ≡ true → x.is_static ≡ false → list_any (λ u. differs x (declared u.externs x.name)) before ≡ false
undisputed before x h s = by x.is_static (list_any (λ u. differs x (declared u.externs x.name)) before) s h
  where
    by : (a b : Bool) → a ≡ false → not (not a && b) ≡ true → b ≡ false
    by true b s h = absurd (true≢false s)
    by false true s h = absurd (true≢false (sym h))
    by false false s h = refl

pub agree : (before us : List TUnit) → AllAgree before us → (j : ℕ) (v : TUnit) → slice_get us j ≡ Some v → (m : ℕ) (x : Extern) → slice_get v.externs m ≡ Some x → x.is_static ≡ false → (i : ℕ) (u : TUnit) → i < length before + j → slice_get (before ++ us) i ≡ Some u → differs x (declared u.externs x.name) ≡ false
agree before [] all j v at m x e s i u lt to = cc
agree before (w ∷ ws) all zero v at m x e s i u lt to =
    let same : w ≡ v = cc in
    let here : Agreed before v.externs = subst (λ z. Agreed before z.externs) same all.0 in
    let within : i < length before = omega (arith, lt) in
    none_at (λ u. differs x (declared u.externs x.name)) before i u (undisputed before x (all_at (λ x. not (is_disputed before x)) v.externs m x here e) s) (sym (front before (w ∷ ws) i within) ∙ to)
agree before (w ∷ ws) all (suc j) v at m x e s i u lt to =
    agree (before ++ w ∷ []) ws all.1 j v at m x e s i u (subst (λ z. i < z + j) (sym (length-append before (w ∷ []))) (omega (arith, lt))) (ap (λ z. slice_get z i) (append_assoc before (w ∷ []) ws) ∙ to)

-- ---- numbers

number_is : (fk gk : List Key) (n : ℕ) (xs : List Extern) (q : ℕ) (x : Extern) → slice_get xs q ≡ Some x → number_in (numbers_of fk gk n xs) q ≡ number_of fk gk n x
number_is fk gk n xs q x e = ap (option_and_then (λ z. z)) (slice_get-map (number_of fk gk n) xs q ∙ ap (option_map (number_of fk gk n)) e)

kind_number : (fk gk : List Key) (n : ℕ) (x : Extern) (b : Bool) → is_function x.ctype ≡ b → number_of fk gk n x ≡ cond b (place_of_key fk (key n x.is_static x.name)) (place_of_key gk (key n x.is_static x.name))
kind_number fk gk n x b e = ap (λ c. cond c (place_of_key fk (key n x.is_static x.name)) (place_of_key gk (key n x.is_static x.name))) e

is_object_some : (o : Option Extern) → is_object o ≡ true → (x : Extern) × (o ≡ Some x) × (is_function x.ctype ≡ false)
is_object_some None h = absurd (true≢false (sym h))
is_object_some (Some x) h = (x, refl, by (is_function x.ctype) h)
  where
    by : (b : Bool) → not b ≡ true → b ≡ false
    by true h = absurd (true≢false (sym h))
    by false h = refl

is_called_some : (many : ℕ) (o : Option Extern) → is_called many o ≡ true → (x : Extern) × (o ≡ Some x) × (looks_called many (look x.ctype) ≡ true)
is_called_some many None h = absurd (true≢false (sym h))
is_called_some many (Some x) h = (x, refl, h)

known_some : (o : Option ℕ) → is_some o ≡ true → (p : ℕ) × (o ≡ Some p)
known_some None h = absurd (true≢false (sym h))
known_some (Some p) h = (p, refl)

lengths : {X Y : Type 0} (f : X → Y) (xs : List X) → length (map f xs) ≡ length xs
lengths f [] = refl
lengths f (x ∷ xs) = ap suc (lengths f xs)

global_lengths : (n : ℕ) (us : List TUnit) → length (per_unit unit_global_keys n us) ≡ length (per_unit unit_globals n us)
global_lengths n [] = refl
global_lengths n (u ∷ us) = length-append (unit_global_keys n u) (per_unit unit_global_keys (n + 1) us) ∙ (ap₂ (λ a b. a + b) (lengths (λ g. key_of n u.externs g.name) u.globals) (global_lengths (n + 1) us) ∙ sym (length-append u.globals (per_unit unit_globals (n + 1) us)))

-- the key and the new function of a member
abbrev member_key : Member → Key
member_key m = key_of m.number m.unit.externs m.function.name

abbrev new_of : List Key → List Key → Member → TFunction
new_of fk gk m = renumbered_function (numbers_of fk gk m.number m.unit.externs) m.function

-- what holds of the extern of a member
record Linked (m : Member) (y : Extern) : Type 0 where
  pub is : declared m.unit.externs m.function.name ≡ Some y
  pub typed : same_type y.ctype m.function.ctype ≡ true
  pub static : same_flag y.is_static m.function.is_static ≡ true

linked_of : (m : Member) (o : Option Extern) → declared m.unit.externs m.function.name ≡ o → (has_type m.function.ctype o && has_linkage m.function.is_static o) ≡ true → (y : Extern) × Linked m y
linked_of m None e h = absurd (true≢false (sym h))
linked_of m (Some y) e h = (y, record { is = e; typed = left (same_type y.ctype m.function.ctype) (same_flag y.is_static m.function.is_static) h; static = right (same_type y.ctype m.function.ctype) (same_flag y.is_static m.function.is_static) h })

is_true : (b : Bool) → IsTrue b → b ≡ true
is_true b h = h

linked : (m : Member) → IsTrue (function_declared m.unit.externs m.function) → (y : Extern) × Linked m y
linked m h = linked_of m (declared m.unit.externs m.function.name) refl (is_true _ h)

get_at : {X : Type 0} (xs : List X) (p : ℕ) (x d : X) → slice_get xs p ≡ Some x → slice_index_or xs p d ≡ x
get_at [] p x d e = cc
get_at (y ∷ ys) zero x d e = cc
get_at (y ∷ ys) (suc p) x d e = get_at ys p x d e

less : (a b : ℕ) → a < b → nat_lt a b ≡ true
less a b h = lt-ltb a b h

equal : (a b : ℕ) → a ≡ b → (a == b) ≡ true
equal a b h = eq-eqb a b h

from_none : (a b : ℕ) → a < b → a < length {A = TUnit} [] + b
from_none a b h = omega arith

three : (a b : ℕ) → (a ≡ b) ⊎ ((a < b) ⊎ (b < a))
three a b = by (nat_lt a b) refl (nat_lt b a) refl
  where
    by : (c : Bool) → nat_lt a b ≡ c → (d : Bool) → nat_lt b a ≡ d → (a ≡ b) ⊎ ((a < b) ⊎ (b < a))
    by true h d k = inr (inl (ltb-true a b h))
    by false h true k = inr (inr (ltb-true b a k))
    by false h false k = let p : b ≤ a = ltb-false a b h in let q : a ≤ b = ltb-false b a k in inl (omega arith)

one_number : (a b : ℕ) (l : Look) → looks_called a l ≡ true → looks_called b l ≡ true → a ≡ b
one_number a b (shape.Function g p n) h k = sym (eqb-true (length p) a h) ∙ eqb-true (length p) b k
one_number a b shape.Void h k = absurd (true≢false (sym h))
one_number a b (shape.Arith t) h k = absurd (true≢false (sym h))
one_number a b (shape.Pointer t) h k = absurd (true≢false (sym h))
one_number a b (shape.Array t l) h k = absurd (true≢false (sym h))
one_number a b (shape.Struct i m s l) h k = absurd (true≢false (sym h))

-- equal keys: the units are one, or both names are of all units
scopes : (n n' : ℕ) (a b : Bool) → (cond a (n + 1) 0 == cond b (n' + 1) 0) ≡ true → (a ≡ b) × (a ≡ true → n ≡ n')
scopes n n' true true h = let s : n + 1 ≡ n' + 1 = eqb-true (n + 1) (n' + 1) h in (refl, λ e. omega arith)
scopes n n' true false h = let s : n + 1 ≡ 0 = eqb-true (n + 1) 0 h in absurd (omega arith)
scopes n n' false true h = let s : 0 ≡ n' + 1 = eqb-true 0 (n' + 1) h in absurd (omega arith)
scopes n n' false false h = (refl, λ e. absurd (true≢false (sym e)))

true_is : (b : Bool) → b ≡ true → IsTrue b
true_is b h = h

flag : (a b : Bool) → same_flag a b ≡ true → a ≡ b
flag true true h = refl
flag false false h = refl
flag true false h = absurd (true≢false (sym h))
flag false true h = absurd (true≢false (sym h))

key_same : (k : Key) → same_key k k ≡ true
key_same k = ap₂ (λ a b. a && b) (equal k.0 k.0 refl) (name_same k.1)

globals_hold : (n : ℕ) (us : List TUnit) → All IsUnit us → All IsGlobal (per_unit unit_globals n us)
globals_hold n [] all = All-nil IsGlobal
globals_hold n (u ∷ us) all = All-append IsGlobal u.globals (per_unit unit_globals (n + 1) us) (All-head IsUnit u us all).globals (globals_hold (n + 1) us (All-tail IsUnit u us all))

globals_fit : (n : ℕ) (us : List TUnit) → All IsUnit us → IsTrue (g.all_fit (per_unit unit_globals n us))
globals_fit n [] all = refl
globals_fit n (u ∷ us) all = true_is _ (list_all-append (λ x. fits x.ctype) u.globals (per_unit unit_globals (n + 1) us) ∙ ap₂ (λ a b. a && b) (is_true _ (All-head IsUnit u us all).types) (is_true _ (globals_fit (n + 1) us (All-tail IsUnit u us all))))

sums : (xs ys : List ℕ) → sum (xs ++ ys) ≡ sum xs + sum ys
sums = sum_by-append (λ x. x)

nodes_of : (ns : List (Option ℕ)) (fs : List TFunction) → map function_nodes (map (renumbered_function ns) fs) ≡ map function_nodes fs
nodes_of ns [] = refl
nodes_of ns (f ∷ fs) = ap₂ (λ x xs. x ∷ xs) (function_nodes_kept ns f) (nodes_of ns fs)

-- the nodes of the program are those of its units
nodes_are : (fk gk : List Key) (n : ℕ) (us : List TUnit) → program_nodes (per_unit (unit_functions fk gk) n us) (per_unit unit_globals n us) ≡ units_nodes us
nodes_are fk gk n [] = refl
nodes_are fk gk n (u ∷ us) =
    let ns = numbers_of fk gk n u.externs in
    let more = per_unit (unit_functions fk gk) (n + 1) us in
    let rest = nodes_are fk gk (n + 1) us in
    let functions : sum (map function_nodes (map (renumbered_function ns) u.functions ++ more)) ≡ sum (map function_nodes u.functions) + sum (map function_nodes more) = ap sum (map-append function_nodes (map (renumbered_function ns) u.functions) more) ∙ (sums (map function_nodes (map (renumbered_function ns) u.functions)) (map function_nodes more) ∙ ap (λ xs. sum xs + sum (map function_nodes more)) (nodes_of ns u.functions)) in
    let globals = length-append u.globals (per_unit unit_globals (n + 1) us) in
    let whole : units_nodes (u ∷ us) ≡ sum (program_nodes u.functions u.globals ∷ []) + units_nodes us = sums (program_nodes u.functions u.globals ∷ []) (map (λ u. program_nodes u.functions u.globals) us) in
    let one : sum (program_nodes u.functions u.globals ∷ []) ≡ program_nodes u.functions u.globals = omega arith in
    omega arith

module _ (us : List TUnit) (all : All IsUnit us) (numbered : Numbered 0 us) (e61 : defined_twice us ≡ None) (e62 : disputed [] us ≡ None) (e60 : undefined_use us ≡ None) where
  abbrev fk : List Key
  fk = function_keys us

  abbrev gk : List Key
  gk = global_keys us

  abbrev ms : List Member
  ms = members 0 us

  each : All (IsMember us fk gk) ms
  each = all_members us fk gk 0 us (λ k. ap (slice_get us) (plus_zero k)) all numbered (undefined_none fk gk 0 None us e60).1
    where
      plus_zero : (k : ℕ) → k + 0 ≡ k
      plus_zero k = omega arith

  functions_are : all_functions us ≡ map (new_of fk gk) ms
  functions_are = per_member (new_of fk gk) 0 us

  keys_are : fk ≡ map member_key ms
  keys_are = per_member member_key 0 us

  member_at : (p : ℕ) → p < length ms → (m : Member) × (slice_get ms p ≡ Some m) × IsMember us fk gk m
  member_at p lt = by (slice_get_cases ms p).1
    where
      by : (((x : Member) × (p < length ms) × (slice_get ms p ≡ Some x) × (slice_index_or ms p x ≡ x)) ⊎ ((length ms ≤ p) × (slice_get ms p ≡ None))) → (m : Member) × (slice_get ms p ≡ Some m) × IsMember us fk gk m
      by (inl q) = (q.0, q.2, subst (IsMember us fk gk) q.3 (each p q.0 lt))
      by (inr q) = absurd (omega (arith, q.0, lt))

  -- externs of one name and key have types that a call can't tell apart
  alike : (n : ℕ) (u : TUnit) (m : Member) (x y : Extern) (q : ℕ) → slice_get us n ≡ Some u → IsUnit u → slice_get u.externs q ≡ Some x → IsMember us fk gk m → Linked m y → same_key (key n x.is_static x.name) (member_key m) ≡ true → (many : ℕ) → looks_called many (look x.ctype) ≡ looks_called many (look y.ctype)
  alike n u m x y q at is xq member link same many = by (three n m.number)
    where
      opened : (cond x.is_static (n + 1) 0 == cond y.is_static (m.number + 1) 0 && bytes_eq x.name m.function.name) ≡ true
      opened = subst (λ o. (cond x.is_static (n + 1) 0 == cond (is_static o) (m.number + 1) 0 && bytes_eq x.name m.function.name) ≡ true) link.is same

      scope : (x.is_static ≡ y.is_static) × (x.is_static ≡ true → n ≡ m.number)
      scope = scopes n m.number x.is_static y.is_static (left (cond x.is_static (n + 1) 0 == cond y.is_static (m.number + 1) 0) (bytes_eq x.name m.function.name) opened)

      name : x.name ≡ m.function.name
      name = names_equal x.name m.function.name (right (cond x.is_static (n + 1) 0 == cond y.is_static (m.number + 1) 0) (bytes_eq x.name m.function.name) opened)

      own : declared u.externs x.name ≡ Some x
      own = declared_itself u.externs q x is.differ xq

      theirs : declared m.unit.externs x.name ≡ Some y
      theirs = subst (λ z. declared m.unit.externs z ≡ Some y) (sym name) link.is

      free : (n ≡ m.number → ⊥) → x.is_static ≡ false
      free other = step x.is_static scope.1
        where
          step : (b : Bool) → (b ≡ true → n ≡ m.number) → b ≡ false
          step true f = absurd (other (f refl))
          step false f = refl

      one_differs : (a : Bool) (b : Bool) → a ≡ false → (not a && not b) ≡ false → b ≡ true
      one_differs true b s h = absurd (true≢false s)
      one_differs false true s h = refl
      one_differs false false s h = absurd (true≢false h)

      by : (n ≡ m.number) ⊎ ((n < m.number) ⊎ (m.number < n)) → looks_called many (look x.ctype) ≡ looks_called many (look y.ctype)
      by (inl e) =
          let units : Some u ≡ Some m.unit = sym at ∙ (ap (slice_get us) e ∙ member.at) in
          let unit : u ≡ m.unit = cc in
          let both : Some x ≡ Some y = sym own ∙ (ap (λ z. declared z.externs x.name) unit ∙ theirs) in
          let one : x ≡ y = cc in
          ap (λ z. looks_called many (look z.ctype)) one
      by (inr (inl lt)) =
          let s : x.is_static ≡ false = free (λ e. absurd (omega (arith, e, lt))) in
          let found = declared_at m.unit.externs x.name y theirs in
          let d : differs y (declared u.externs y.name) ≡ false = agree [] us (disputed_none [] us e62) m.number m.unit member.at found.0 y found.1 (sym scope.0 ∙ s) n u (from_none n m.number lt) at in
          let d2 : differs y (Some x) ≡ false = subst (λ o. differs y o ≡ false) (ap (declared u.externs) (sym found.2) ∙ own) d in
          called_alike Two many x.ctype y.ctype (one_differs x.is_static (same_across_units x.ctype y.ctype) s d2)
      by (inr (inr lt)) =
          let s : x.is_static ≡ false = free (λ e. absurd (omega (arith, e, lt))) in
          let d : differs x (declared m.unit.externs x.name) ≡ false = agree [] us (disputed_none [] us e62) n u at q x xq s m.number m.unit (from_none m.number n lt) member.at in
          let d2 : differs x (Some y) ≡ false = subst (λ o. differs x o ≡ false) theirs d in
          sym (called_alike Two many y.ctype x.ctype (one_differs y.is_static (same_across_units y.ctype x.ctype) (sym scope.0 ∙ s) d2))

  -- a global that is defined has a number among the globals
  global_ok : (m : Member) → (q : ℕ) → is_object (slice_get m.unit.externs q) ≡ true → is_defined (numbers_of fk gk m.number m.unit.externs) q ≡ true → nat_lt (renumber (numbers_of fk gk m.number m.unit.externs) q) (length (all_globals us)) ≡ true
  global_ok m q h d =
      let x = is_object_some (slice_get m.unit.externs q) h in
      let is = number_is fk gk m.number m.unit.externs q x.0 x.1 ∙ kind_number fk gk m.number x.0 false x.2 in
      let p = known_some (number_in (numbers_of fk gk m.number m.unit.externs) q) d in
      let place : place_of_key gk (key m.number x.0.is_static x.0.name) ≡ Some p.0 = sym is ∙ p.1 in
      let within = (position-Some (same_key (key m.number x.0.is_static x.0.name)) gk p.0 (key m.number x.0.is_static x.0.name) place).0 in
      ap (λ o. nat_lt (unwrap_or o q) (length (all_globals us))) p.1 ∙ less p.0 (length (all_globals us)) (subst (λ z. p.0 < z) (global_lengths 0 us) within)

  -- a function that is defined has a number among the functions, and as many parameters as it is called with
  function_ok : (m : Member) → IsMember us fk gk m → (q many : ℕ) → is_called many (slice_get m.unit.externs q) ≡ true → is_defined (numbers_of fk gk m.number m.unit.externs) q ≡ true → has_params many (slice_get (all_functions us) (renumber (numbers_of fk gk m.number m.unit.externs) q)) ≡ true
  function_ok m member q many h d =
      let x = is_called_some many (slice_get m.unit.externs q) h in
      let is = number_is fk gk m.number m.unit.externs q x.0 x.1 ∙ kind_number fk gk m.number x.0 true (called_is_function many x.0.ctype x.2) in
      let p = known_some (number_in (numbers_of fk gk m.number m.unit.externs) q) d in
      let k = key m.number x.0.is_static x.0.name in
      let place : place_of_key fk k ≡ Some p.0 = sym is ∙ p.1 in
      let found = position-Some (same_key k) fk p.0 k place in
      let within : p.0 < length ms = subst (λ z. p.0 < z) (ap length keys_are ∙ lengths member_key ms) found.0 in
      let t = member_at p.0 within in
      let same : same_key k (member_key t.0) ≡ true = subst (λ z. same_key k z ≡ true) (get_at fk p.0 (member_key t.0) k (ap (λ l. slice_get l p.0) keys_are ∙ (slice_get-map member_key ms p.0 ∙ ap (option_map member_key) t.1))) found.1 in
      let y = linked t.0 t.2.known in
      let called : looks_called many (look t.0.function.ctype) ≡ true = sym (called_alike One many y.0.ctype t.0.function.ctype y.1.typed) ∙ (sym (alike m.number m.unit t.0 x.0 y.0 q member.at member.of_unit x.1 t.2 y.1 same many) ∙ x.2) in
      let params : length t.0.function.params ≡ many = one_number (length t.0.function.params) many (look t.0.function.ctype) (is_true _ t.2.within.typed) called in
      ap (λ o. has_params many (slice_get (all_functions us) (unwrap_or o q))) p.1
      ∙ (ap (has_params many) (ap (λ l. slice_get l p.0) functions_are ∙ (slice_get-map (new_of fk gk) ms p.0 ∙ ap (option_map (new_of fk gk)) t.1)) ∙ equal (length t.0.function.params) many params)

  -- a function with its new numbers is one of the program
  function_is : (m : Member) → IsMember us fk gk m → IsFunction (names_of_program (all_functions us) (all_globals us)) (new_of fk gk m)
  function_is m member =
      let ns = numbers_of fk gk m.number m.unit.externs in
      let f = m.function in
      let w = member.within in
      record {
        params = w.params;
        nodes = subst (λ k. k ≤ 2000) (sym (function_nodes_kept ns f)) w.nodes;
        slots = subst (λ k. k ≤ 900) (sym (slots_kept ns f)) w.slots;
        placed = subst (λ k. k ≤ 16384) (sym (placed_kept ns f)) w.placed;
        types = w.types;
        typed = w.typed;
        named = w.named;
        entry = w.entry;
        numbers = true_is _ (in_range_after ns (record { names = names_of_unit m.unit.externs; locals = length f.params + length f.locals; entry = f.entry }) (names_of_program (all_functions us) (all_globals us)) (global_ok m) (function_ok m member) f.body (is_true _ w.numbers) member.used);
      }

  functions_hold : All (IsFunction (names_of_program (all_functions us) (all_globals us))) (all_functions us)
  functions_hold = subst (All (IsFunction (names_of_program (all_functions us) (all_globals us)))) (sym functions_are)
      (All-map (IsFunction (names_of_program (all_functions us) (all_globals us))) (new_of fk gk) ms (λ k d lt. function_is (slice_index_or ms k d) (each k d lt)))

  -- ---- no two functions have one name in one unit, nor in two units where both are for all

  distinct_at : (i j : ℕ) (mi mj : Member) → slice_get ms i ≡ Some mi → slice_get ms j ≡ Some mj → i < j → j < length ms → same_key (member_key mj) (member_key mi) ≡ false
  distinct_at i j mi mj ei ej lt low =
      let d = functions_differ us e61 i j (member_key mi) lt (subst (λ z. j < z) (sym (ap length keys_are ∙ lengths member_key ms)) low) in
      let ki = get_at fk i (member_key mi) (member_key mi) (ap (λ l. slice_get l i) keys_are ∙ (slice_get-map member_key ms i ∙ ap (option_map member_key) ei)) in
      let kj = get_at fk j (member_key mj) (member_key mi) (ap (λ l. slice_get l j) keys_are ∙ (slice_get-map member_key ms j ∙ ap (option_map member_key) ej)) in
      subst (λ z. same_key z (member_key mi) ≡ false) kj (subst (λ z. same_key (slice_index_or fk j (member_key mi)) z ≡ false) ki d)

  same_unit : (mi mj : Member) → IsMember us fk gk mi → IsMember us fk gk mj → mi.function.name ≡ mj.function.name → mi.function.unit ≡ mj.function.unit → same_key (member_key mj) (member_key mi) ≡ true
  same_unit mi mj i j name unit =
      let number : mi.number ≡ mj.number = sym i.unit ∙ (unit ∙ j.unit) in
      let units : Some mi.unit ≡ Some mj.unit = sym i.at ∙ (ap (slice_get us) number ∙ j.at) in
      let one : mi.unit ≡ mj.unit = cc in
      let keys : member_key mi ≡ member_key mj = ap₂ (λ n u. key_of n u.externs mi.function.name) number one ∙ ap (key_of mj.number mj.unit.externs) name in
      subst (λ z. same_key (member_key mj) z ≡ true) (sym keys) (key_same (member_key mj))

  same_free : (mi mj : Member) → IsMember us fk gk mi → IsMember us fk gk mj → mi.function.name ≡ mj.function.name → mi.function.is_static ≡ false → mj.function.is_static ≡ false → same_key (member_key mj) (member_key mi) ≡ true
  same_free mi mj i j name si sj =
      let yi = linked mi i.known in
      let yj = linked mj j.known in
      let ki : member_key mi ≡ (0, mi.function.name) = ap (λ o. key mi.number (is_static o) mi.function.name) yi.1.is ∙ ap (λ b. key mi.number b mi.function.name) (flag yi.0.is_static mi.function.is_static yi.1.static ∙ si) in
      let kj : member_key mj ≡ (0, mj.function.name) = ap (λ o. key mj.number (is_static o) mj.function.name) yj.1.is ∙ ap (λ b. key mj.number b mj.function.name) (flag yj.0.is_static mj.function.is_static yj.1.static ∙ sj) in
      subst (λ z. same_key (member_key mj) z ≡ true) (kj ∙ (ap (λ n. (0, n)) (sym name) ∙ sym ki)) (key_same (member_key mj))

  differ_at : (mi mj : Member) → IsMember us fk gk mi → IsMember us fk gk mj → same_key (member_key mj) (member_key mi) ≡ false → mi.function.name ≡ mj.function.name → (mi.function.unit ≢ mj.function.unit) × IsTrue (mi.function.is_static || mj.function.is_static)
  differ_at mi mj i j other name =
      (λ unit. true≢false (sym (same_unit mi mj i j name unit) ∙ other), by mi.function.is_static refl mj.function.is_static refl)
    where
      by : (a : Bool) → mi.function.is_static ≡ a → (b : Bool) → mj.function.is_static ≡ b → IsTrue (a || b)
      by true e b k = true_is true refl
      by false e true k = true_is true refl
      by false e false k = absurd (true≢false (sym (same_free mi mj i j name e k) ∙ other))

  functions_differ_in : AllPairs (λ f h. f.name ≡ h.name → (f.unit ≢ h.unit) × IsTrue (f.is_static || h.is_static)) (all_functions us)
  functions_differ_in i j d lt low name =
      let many : length (all_functions us) ≡ length ms = ap length functions_are ∙ lengths (new_of fk gk) ms in
      let low2 : j < length ms = subst (λ z. j < z) many low in
      let mi = member_at i (omega (arith, lt, low2)) in
      let mj = member_at j low2 in
      let fi : slice_index_or (all_functions us) i d ≡ new_of fk gk mi.0 = get_at (all_functions us) i (new_of fk gk mi.0) d (ap (λ l. slice_get l i) functions_are ∙ (slice_get-map (new_of fk gk) ms i ∙ ap (option_map (new_of fk gk)) mi.1)) in
      let fj : slice_index_or (all_functions us) j d ≡ new_of fk gk mj.0 = get_at (all_functions us) j (new_of fk gk mj.0) d (ap (λ l. slice_get l j) functions_are ∙ (slice_get-map (new_of fk gk) ms j ∙ ap (option_map (new_of fk gk)) mj.1)) in
      let named : mi.0.function.name ≡ mj.0.function.name = sym (ap (λ f. f.name) fi) ∙ (name ∙ ap (λ f. f.name) fj) in
      let done = differ_at mi.0 mj.0 mi.2 mj.2 (distinct_at i j mi.0 mj.0 mi.1 mj.1 lt low2) named in
      subst (λ f. (f.unit ≢ (slice_index_or (all_functions us) j d).unit) × IsTrue (f.is_static || (slice_index_or (all_functions us) j d).is_static)) (sym fi)
      (subst (λ h. (mi.0.function.unit ≢ h.unit) × IsTrue (mi.0.function.is_static || h.is_static)) (sym fj) done)

  pub program_holds : units_nodes us ≤ 16000 → globals_bytes (all_globals us) ≤ 49152 → length (entry_names (all_functions us)) ≤ 512 → IsProgram (program us)
  program_holds nodes bytes entries = record {
    functions = functions_hold;
    globals = globals_hold 0 us all;
    types = globals_fit 0 us all;
    nodes = subst (λ k. k ≤ 16000) (sym (nodes_are fk gk 0 us)) nodes;
    bytes = bytes;
    differ = functions_differ_in;
    entries = refl;
    few_entries = entries;
  }
