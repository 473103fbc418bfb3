-- Who is seen: in order, each once.
use Rattle.std.proofs.Common.{◌≡◌, ℕ, ◌+◌, ◌<◌, Bool, true, false, ◌||◌, cond, nat_lt, List, [], ◌∷◌, ◌++◌, length, slice_index_or, ap, sym, ◌∙◌, subst, refl, Option, None, Some, is_some, arith, append_assoc, true≢false, ltb-false, ◌≤◌}
use Rattle.std.specs.List.{position_or_len}
use Rattle.std.proofs.lemmas.List.{append-nil}
use Rattle.std.proofs.lemmas.List.Sums.{fails_before_first}
use Rattle.std.proofs.lemmas.List.Quantifiers.{all_pairs_push}
use Rattle.cm_base.specs.declared.place.Place.{Place}
use Rattle.c_tree.specs.declared.program.Extern.{Extern}
use Rattle.c_tree.specs.declared.program.TFunction.{TFunction}
use Rattle.c_tree.specs.declared.program.TGlobal.{TGlobal}
use Rattle.c_tree.specs.Conditions.{TUnit}
use Rattle.join_laws.specs.Keys.{Distinct, Key, key_of, keys_of_functions, keys_of_globals, per_unit, place_of_key, same_key, unit_function_keys, unit_global_keys, function_keys, global_keys}
use Rattle.join_laws.specs.Joined.{Seen, is_seen, saw_again, see_function, see_functions, see_global, see_globals, see_units, seen_in, defined_twice}
use Rattle.join_laws.specs.Uses.{Named, earlier, is_before}

none_cond : (b : Bool) (n : ℕ) → cond b (Some n) None ≡ None → b ≡ false
none_cond true n h = cc
none_cond false n h = refl

-- what stands nowhere is none of the keys
pub none_same : (ks : List Key) (k : Key) → place_of_key ks k ≡ None → (i : ℕ) (d : Key) → i < length ks → same_key k (slice_index_or ks i d) ≡ false
none_same ks k h i d lt =
    let out : nat_lt (position_or_len (same_key k) ks) (length ks) ≡ false = none_cond (nat_lt (position_or_len (same_key k) ks) (length ks)) (position_or_len (same_key k) ks) h in
    (let past : length ks ≤ position_or_len (same_key k) ks = ltb-false (position_or_len (same_key k) ks) (length ks) out in fails_before_first (same_key k) ks i d (omega arith))

no_less : (j : ℕ) → j < 0 → ⊥
no_less j h = omega arith

earlier_some : (best : Option Named) (x : Named) → earlier best x ≡ None → false ≡ true
earlier_some None x h = cc
earlier_some (Some b) x h = by (is_before x.place b.place) h
  where
    by : (t : Bool) → cond t (Some x) (Some b) ≡ None → false ≡ true
    by true h = cc
    by false h = cc

or_none : (p q : Option ℕ) → (is_some p || is_some q) ≡ false → p ≡ None
or_none None q h = refl
or_none (Some n) q h = cc

-- nothing was seen again, and these were added
pub record Added (old new : Seen) (fs gs : List Key) : Type 0 where
  pub again : old.again ≡ None
  pub functions : new.functions ≡ old.functions ++ fs
  pub globals : new.globals ≡ old.globals ++ gs

abbrev new_function : Seen → Key → Seen
new_function seen k = record { functions = seen.functions ++ k ∷ []; globals = seen.globals; again = seen.again }

abbrev new_global : Seen → Key → Seen
new_global seen k = record { functions = seen.functions; globals = seen.globals ++ k ∷ []; again = seen.again }

function_by : (seen : Seen) (k : Key) (place : Place) (b : Bool) → (cond b (saw_again seen k place) (new_function seen k)).again ≡ None → Added seen (cond b (saw_again seen k place) (new_function seen k)) (k ∷ []) []
function_by seen k place true h = absurd (true≢false (sym (earlier_some seen.again (record { name = k.1; place = place }) h)))
function_by seen k place false h = record { again = h; functions = refl; globals = sym (append-nil seen.globals) }

global_by : (seen : Seen) (k : Key) (place : Place) (b : Bool) → (cond b (saw_again seen k place) (new_global seen k)).again ≡ None → Added seen (cond b (saw_again seen k place) (new_global seen k)) [] (k ∷ [])
global_by seen k place true h = absurd (true≢false (sym (earlier_some seen.again (record { name = k.1; place = place }) h)))
global_by seen k place false h = record { again = h; functions = sym (append-nil seen.functions); globals = refl }

added_then : (x y z : Seen) (fs gs fs' gs' : List Key) → Added x y fs gs → Added y z fs' gs' → Added x z (fs ++ fs') (gs ++ gs')
added_then x y z fs gs fs' gs' p q = record {
  again = p.again;
  functions = q.functions ∙ (ap (λ l. l ++ fs') p.functions ∙ append_assoc x.functions fs fs');
  globals = q.globals ∙ (ap (λ l. l ++ gs') p.globals ∙ append_assoc x.globals gs gs');
}

added_nothing : (x : Seen) → x.again ≡ None → Added x x [] []
added_nothing x h = record { again = h; functions = sym (append-nil x.functions); globals = sym (append-nil x.globals) }

functions_law : (n : ℕ) (externs : List Extern) (seen : Seen) (fs : List TFunction) → (see_functions n externs seen fs).again ≡ None → Added seen (see_functions n externs seen fs) (keys_of_functions n externs fs) []
functions_law n externs seen [] h = added_nothing seen h
functions_law n externs seen (f ∷ fs) h =
    let k = key_of n externs f.name in
    let next = see_function seen k f.place in
    let rest = functions_law n externs next fs h in
    added_then seen next (see_functions n externs next fs) (k ∷ []) [] (keys_of_functions n externs fs) [] (function_by seen k f.place (is_seen seen k) rest.again) rest

globals_law : (n : ℕ) (externs : List Extern) (seen : Seen) (gs : List TGlobal) → (see_globals n externs seen gs).again ≡ None → Added seen (see_globals n externs seen gs) [] (keys_of_globals n externs gs)
globals_law n externs seen [] h = added_nothing seen h
globals_law n externs seen (g ∷ gs) h =
    let k = key_of n externs g.name in
    let next = see_global seen k g.place in
    let rest = globals_law n externs next gs h in
    added_then seen next (see_globals n externs next gs) [] (k ∷ []) [] (keys_of_globals n externs gs) (global_by seen k g.place (is_seen seen k) rest.again) rest

pub units_law : (n : ℕ) (seen : Seen) (us : List TUnit) → (see_units n seen us).again ≡ None → Added seen (see_units n seen us) (per_unit unit_function_keys n us) (per_unit unit_global_keys n us)
units_law n seen [] h = added_nothing seen h
units_law n seen (u ∷ us) h =
    let middle = see_functions n u.externs seen u.functions in
    let next = see_globals n u.externs middle u.globals in
    let rest = units_law (n + 1) next us h in
    let gs = globals_law n u.externs middle u.globals rest.again in
    let fs = functions_law n u.externs seen u.functions gs.again in
    let unit : Added seen next (unit_function_keys n u) (unit_global_keys n u) = subst (λ l. Added seen next l (unit_global_keys n u)) (append-nil (unit_function_keys n u)) (added_then seen middle next (unit_function_keys n u) [] [] (unit_global_keys n u) fs gs) in
    added_then seen next (see_units (n + 1) next us) (unit_function_keys n u) (unit_global_keys n u) (per_unit unit_function_keys (n + 1) us) (per_unit unit_global_keys (n + 1) us) unit rest

-- ---- functions are distinct

push_by : (seen : Seen) (k : Key) (place : Place) (b : Bool) → is_seen seen k ≡ b → Distinct seen.functions → Distinct (cond b (saw_again seen k place) (new_function seen k)).functions
push_by seen k place true is d = d
push_by seen k place false is d = all_pairs_push (λ x y. same_key y x ≡ false) seen.functions k d (λ i e lt. none_same seen.functions k (or_none (place_of_key seen.functions k) (place_of_key seen.globals k) is) i e lt)

stay_by : (seen : Seen) (k : Key) (place : Place) (b : Bool) → Distinct seen.functions → Distinct (cond b (saw_again seen k place) (new_global seen k)).functions
stay_by seen k place true d = d
stay_by seen k place false d = d

functions_distinct : (n : ℕ) (externs : List Extern) (seen : Seen) (fs : List TFunction) → Distinct seen.functions → Distinct (see_functions n externs seen fs).functions
functions_distinct n externs seen [] d = d
functions_distinct n externs seen (f ∷ fs) d = functions_distinct n externs (see_function seen (key_of n externs f.name) f.place) fs (push_by seen (key_of n externs f.name) f.place (is_seen seen (key_of n externs f.name)) refl d)

globals_distinct : (n : ℕ) (externs : List Extern) (seen : Seen) (gs : List TGlobal) → Distinct seen.functions → Distinct (see_globals n externs seen gs).functions
globals_distinct n externs seen [] d = d
globals_distinct n externs seen (g ∷ gs) d = globals_distinct n externs (see_global seen (key_of n externs g.name) g.place) gs (stay_by seen (key_of n externs g.name) g.place (is_seen seen (key_of n externs g.name)) d)

pub units_distinct : (n : ℕ) (seen : Seen) (us : List TUnit) → Distinct seen.functions → Distinct (see_units n seen us).functions
units_distinct n seen [] d = d
units_distinct n seen (u ∷ us) d = units_distinct (n + 1) (see_globals n u.externs (see_functions n u.externs seen u.functions) u.globals) us (globals_distinct n u.externs (see_functions n u.externs seen u.functions) u.globals (functions_distinct n u.externs seen u.functions d))

-- where no definition is a second one
pub seen_functions : (us : List TUnit) → defined_twice us ≡ None → (seen_in us).functions ≡ function_keys us
seen_functions us h = (units_law 0 (record { functions = []; globals = []; again = None }) us h).functions

pub seen_globals : (us : List TUnit) → defined_twice us ≡ None → (seen_in us).globals ≡ global_keys us
seen_globals us h = (units_law 0 (record { functions = []; globals = []; again = None }) us h).globals

pub functions_differ : (us : List TUnit) → defined_twice us ≡ None → Distinct (function_keys us)
functions_differ us h = subst Distinct (seen_functions us h) (units_distinct 0 (record { functions = []; globals = []; again = None }) us (λ i j d lt low. absurd (no_less j low)))
