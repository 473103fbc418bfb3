-- The answers of a join, fault by fault.
use Rattle.std.proofs.Common.{◌≡◌, ◌⊎◌, inl, inr, ℕ, suc, ◌+◌, ◌<◌, ◌≤◌, ◌&&◌, Bool, true, false, cond, nat_le, nat_lt, List, [], ◌∷◌, ◌++◌, map, sum, length, ap, ap₂, sym, ◌∙◌, subst, refl, Option, None, Some, option_map, true≢false, arith, Result, Ok, Err, leb-true, leb-false, ltb-true, lt-ltb, All, IsTrue}
use Rattle.std.specs.List.{list_all, position_or_len}
use Rattle.std.proofs.lemmas.List.{length-append}
use Rattle.std.proofs.lemmas.List.Sums.{sum_by-append}
use Rattle.std.proofs.lemmas.List.Folds.{list_all-append}
use Rattle.std.proofs.lemmas.List.Elements.{All-head, All-tail}
use Rattle.c_types.specs.Kind.{is_function}
use Rattle.c_types.specs.Sizes.{fits}
use Rattle.c_tree.specs.declared.program.Extern.{Extern}
use Rattle.c_tree.specs.declared.program.TFunction.{TFunction}
use Rattle.c_tree.specs.declared.program.TGlobal.{TGlobal}
use Rattle.c_tree.specs.Conditions.{IsProgram, IsUnit, Program, TUnit}
use Rattle.c_tree.specs.Globals as g
use Rattle.c_tree.specs.Globals.{globals_bytes}
use Rattle.c_tree.specs.Limits.{capped}
use Rattle.c_tree.specs.Nodes.{function_nodes, program_nodes}
use Rattle.join_laws.specs.declared.fault.JoinFault.{JoinFault}
use Rattle.join_laws.specs.declared.fault.JoinFault.TheVariants as faults
use Rattle.join_laws.specs.Keys.{Key, function_keys, global_keys, key, key_of, number_of, numbers_of, per_unit, place_of_key, same_key, unit_function_keys, unit_global_keys}
use Rattle.join_laws.specs.Joined.{Numbered, Seen, all_functions, all_globals, at_most, defined_twice, disputed, entry_names, joined, name_in, named_or, program, seen_in, undefined_from, undefined_use, unit_functions, unit_globals, units_nodes}
use Rattle.join_laws.specs.Renumber.{all_small, is_small}
use Rattle.join_laws.specs.Uses.{Named}
use Rattle.join_laws.proofs.ProgramLaws.{program_holds}
use Rattle.join_laws.proofs.SeenLaws.{seen_functions, seen_globals}
use Rattle.c_join.specs.Causes.{Joins, NoneUndefined, made}

-- what is answered where these tests find no fault
abbrev counted : List TUnit → Result Program JoinFault
counted us = at_most 51 16000 (units_nodes us) (at_most 52 49152 (globals_bytes (all_globals us)) (at_most 54 512 (length (entry_names (all_functions us))) (Ok (program us))))

abbrev after62 : List TUnit → Result Program JoinFault
after62 us = named_or 60 (name_in (undefined_use us)) (counted us)

abbrev after61 : List TUnit → Result Program JoinFault
after61 us = named_or 62 (disputed [] us) (after62 us)

abbrev pub with_entries : List TFunction → List TGlobal → List (List ℕ) → Program
with_entries fs gs es = record { functions = fs; globals = gs; entries = es }

abbrev pub Fails : ℕ → Option (List ℕ) → JoinFault → Type 0
Fails code name e = (e ≡ faults.NoMemory) ⊎ ((n : List ℕ) × (name ≡ Some n) × (e ≡ faults.Named code n))

pub no_name_none : (a : Option Named) → name_in a ≡ None → a ≡ None
no_name_none None h = refl
no_name_none (Some x) h = cc

module _ (us : List TUnit) (e : JoinFault) where
  pub fault61 : Fails 61 (name_in (defined_twice us)) e → Joins us (Err e)
  fault61 (inl h) = inl (ap Err h)
  fault61 (inr q) = inr (ap Err q.2 ∙ sym (ap (λ o. named_or 61 o (after61 us)) q.1))

  module _ (h61 : name_in (defined_twice us) ≡ None) where
    pub fault62 : Fails 62 (disputed [] us) e → Joins us (Err e)
    fault62 (inl h) = inl (ap Err h)
    fault62 (inr q) = inr (ap Err q.2 ∙ sym (ap (λ o. named_or 61 o (after61 us)) h61 ∙ ap (λ o. named_or 62 o (after62 us)) q.1))

    module _ (h62 : disputed [] us ≡ None) where
      pub fault60 : Fails 60 (name_in (undefined_use us)) e → Joins us (Err e)
      fault60 (inl h) = inl (ap Err h)
      fault60 (inr q) = inr (ap Err q.2 ∙ sym (ap (λ o. named_or 61 o (after61 us)) h61 ∙ (ap (λ o. named_or 62 o (after62 us)) h62 ∙ ap (λ o. named_or 60 o (counted us)) q.1)))

over : (code most n : ℕ) (rest : Result Program JoinFault) → most < n → at_most code most n rest ≡ Err (faults.Count code (capped n))
over code most n rest h = by (nat_le n most) refl
  where
    by : (b : Bool) → nat_le n most ≡ b → cond b rest (Err (faults.Count code (capped n))) ≡ Err (faults.Count code (capped n))
    by true k = let low : n ≤ most = leb-true n most k in absurd (omega arith)
    by false k = refl

under : (code most n : ℕ) (rest : Result Program JoinFault) → n ≤ most → at_most code most n rest ≡ rest
under code most n rest h = by (nat_le n most) refl
  where
    by : (b : Bool) → nat_le n most ≡ b → cond b rest (Err (faults.Count code (capped n))) ≡ rest
    by true k = refl
    by false k = let high : most < n = leb-false n most k in absurd (omega arith)

module _ (us : List TUnit) (h61 : name_in (defined_twice us) ≡ None) (h62 : disputed [] us ≡ None) (h60 : name_in (undefined_use us) ≡ None) where
  named_pass : joined us ≡ at_most 51 16000 (units_nodes us) (at_most 52 49152 (globals_bytes (all_globals us)) (at_most 54 512 (length (entry_names (all_functions us))) (Ok (program us))))
  named_pass = ap (λ o. named_or 61 o (after61 us)) h61 ∙ (ap (λ o. named_or 62 o (after62 us)) h62 ∙ ap (λ o. named_or 60 o (counted us)) h60)

  pub fault51 : (found : ℕ) (e : JoinFault) → found ≡ capped (units_nodes us) → 16000 < found → e ≡ faults.Count 51 found → Joins us (Err e)
  fault51 found e is more f = inr (ap Err (f ∙ ap (λ n. faults.Count 51 n) is) ∙ sym (named_pass ∙ over 51 16000 (units_nodes us) _ (omega (arith, is, more))))

  module _ (nodes : units_nodes us ≤ 16000) where
    pub fault52 : (found : ℕ) (e : JoinFault) → found ≡ globals_bytes (all_globals us) → found ≤ 18446744073709551615 → 49152 < found → e ≡ faults.Count 52 found → Joins us (Err e)
    fault52 found e is small more f =
        let cap : found ≡ capped (globals_bytes (all_globals us)) = omega (arith, is, small) in
        inr (ap Err (f ∙ ap (λ n. faults.Count 52 n) cap) ∙ sym (named_pass ∙ (under 51 16000 (units_nodes us) _ nodes ∙ over 52 49152 (globals_bytes (all_globals us)) _ (omega (arith, is, more)))))

    tail_is : globals_bytes (all_globals us) ≤ 49152 → joined us ≡ at_most 54 512 (length (entry_names (all_functions us))) (Ok (program us))
    tail_is bytes = named_pass ∙ (under 51 16000 (units_nodes us) _ nodes ∙ under 52 49152 (globals_bytes (all_globals us)) _ bytes)

    -- what the last step answers is what the units join to
    pub last_is : (fs : List TFunction) (gs : List TGlobal) (r : Result Program JoinFault) → globals_bytes (all_globals us) ≤ 49152 → fs ≡ all_functions us → gs ≡ all_globals us
        → (r ≡ Err faults.NoMemory) ⊎ (r ≡ at_most 54 512 (length (entry_names fs)) (Ok (made fs gs))) → Joins us r
    last_is fs gs r bytes f g (inl h) = inl h
    last_is fs gs r bytes f g (inr h) = inr (h ∙ (ap₂ (λ a b. at_most 54 512 (length (entry_names a)) (Ok (made a b))) f g ∙ sym (tail_is bytes)))

-- ---- the last step

pub over54 : (fs : List TFunction) (gs : List TGlobal) (es : List (List ℕ)) (found : ℕ) (e : JoinFault) → es ≡ entry_names fs → found ≡ length es → found ≤ 18446744073709551615 → 512 < found → e ≡ faults.Count 54 found → Err e ≡ at_most 54 512 (length (entry_names fs)) (Ok (made fs gs))
over54 fs gs es found e is size small more f =
    let many : found ≡ length (entry_names fs) = size ∙ ap length is in
    let cap : found ≡ capped (length (entry_names fs)) = omega (arith, many, small) in
    ap Err (f ∙ ap (λ n. faults.Count 54 n) cap) ∙ sym (over 54 512 (length (entry_names fs)) (Ok (made fs gs)) (omega (arith, many, more)))

pub few_names : (fs : List TFunction) (es : List (List ℕ)) (found : ℕ) → es ≡ entry_names fs → found ≡ length es → found ≤ 512 → length (entry_names fs) ≤ 512
few_names fs es found is size low = let many : found ≡ length (entry_names fs) = size ∙ ap length is in omega (arith, many, low)

pub made_is : (fs : List TFunction) (gs : List TGlobal) (es : List (List ℕ)) → es ≡ entry_names fs → with_entries fs gs es ≡ made fs gs
made_is fs gs es is = ap (with_entries fs gs) is

pub under54 : (fs : List TFunction) (gs : List TGlobal) → length (entry_names fs) ≤ 512 → Ok (made fs gs) ≡ at_most 54 512 (length (entry_names fs)) (Ok (made fs gs))
under54 fs gs low = sym (under 54 512 (length (entry_names fs)) (Ok (made fs gs)) low)

-- ---- there are no more functions and globals than nodes

lengths : {X Y : Type 0} (f : X → Y) (xs : List X) → length (map f xs) ≡ length xs
lengths f [] = refl
lengths f (x ∷ xs) = ap suc (lengths f xs)

each_node : (fs : List TFunction) → length fs ≤ sum (map function_nodes fs)
each_node [] = omega arith
each_node (f ∷ fs) = let rest = each_node fs in let s : sum (function_nodes f ∷ map function_nodes fs) ≡ sum (function_nodes f ∷ []) + sum (map function_nodes fs) = sum_by-append (λ x. x) (function_nodes f ∷ []) (map function_nodes fs) in omega (arith, rest, s)

units_more : (u : TUnit) (us : List TUnit) → units_nodes (u ∷ us) ≡ sum (program_nodes u.functions u.globals ∷ []) + units_nodes us
units_more u us = sum_by-append (λ x. x) (program_nodes u.functions u.globals ∷ []) (map (λ u. program_nodes u.functions u.globals) us)

pub few_functions : (n : ℕ) (us : List TUnit) → length (per_unit unit_function_keys n us) ≤ units_nodes us
few_functions n [] = omega arith
few_functions n (u ∷ us) =
    let rest = few_functions (n + 1) us in
    let here = each_node u.functions in
    let same = lengths (λ f. key_of n u.externs f.name) u.functions in
    let more = units_more u us in
    let parts = length-append (unit_function_keys n u) (per_unit unit_function_keys (n + 1) us) in
    omega (arith, rest, here, same, more, parts)

pub few_global_keys : (n : ℕ) (us : List TUnit) → length (per_unit unit_global_keys n us) ≤ units_nodes us
few_global_keys n [] = omega arith
few_global_keys n (u ∷ us) =
    let rest = few_global_keys (n + 1) us in
    let same = lengths (λ g. key_of n u.externs g.name) u.globals in
    let more = units_more u us in
    let parts = length-append (unit_global_keys n u) (per_unit unit_global_keys (n + 1) us) in
    omega (arith, rest, same, more, parts)

pub few_globals : (n : ℕ) (us : List TUnit) → length (per_unit unit_globals n us) ≤ units_nodes us
few_globals n [] = omega arith
few_globals n (u ∷ us) =
    let rest = few_globals (n + 1) us in
    let more = units_more u us in
    let parts = length-append u.globals (per_unit unit_globals (n + 1) us) in
    omega (arith, rest, more, parts)

-- ---- numbers below 2^32

small_place : (ks : List Key) (k : Key) → length ks ≤ 16000 → is_small (place_of_key ks k) ≡ true
small_place ks k few = by (nat_lt (position_or_len (same_key k) ks) (length ks)) refl
  where
    by : (b : Bool) → nat_lt (position_or_len (same_key k) ks) (length ks) ≡ b → is_small (cond b (Some (position_or_len (same_key k) ks)) None) ≡ true
    by true h = let low : position_or_len (same_key k) ks < length ks = ltb-true (position_or_len (same_key k) ks) (length ks) h in lt-ltb (position_or_len (same_key k) ks) 4294967296 (omega arith)
    by false h = refl

small_number : (fk gk : List Key) (n : ℕ) (x : Extern) → length fk ≤ 16000 → length gk ≤ 16000 → is_small (number_of fk gk n x) ≡ true
small_number fk gk n x f g = by (is_function x.ctype)
  where
    by : (b : Bool) → is_small (cond b (place_of_key fk (key n x.is_static x.name)) (place_of_key gk (key n x.is_static x.name))) ≡ true
    by true = small_place fk (key n x.is_static x.name) f
    by false = small_place gk (key n x.is_static x.name) g

pub numbers_small : (fk gk : List Key) (n : ℕ) (xs : List Extern) → length fk ≤ 16000 → length gk ≤ 16000 → all_small (numbers_of fk gk n xs) ≡ true
numbers_small fk gk n [] f g = refl
numbers_small fk gk n (x ∷ xs) f g = ap₂ (λ a b. a && b) (small_number fk gk n x f g) (numbers_small fk gk n xs f g)

-- ---- what the steps of a join find

module _ (us : List TUnit) (seen : Seen) (is : seen ≡ seen_in us) where
  pub again_is : (name : Option (List ℕ)) → name ≡ name_in seen.again → name ≡ name_in (defined_twice us)
  again_is name n = n ∙ ap (λ z. name_in z.again) is

  module _ (none : name_in (defined_twice us) ≡ None) where
    functions_are : seen.functions ≡ function_keys us
    functions_are = ap (λ z. z.functions) is ∙ seen_functions us (no_name_none (defined_twice us) none)

    globals_are : seen.globals ≡ global_keys us
    globals_are = ap (λ z. z.globals) is ∙ seen_globals us (no_name_none (defined_twice us) none)

    pub missing_is : (missing : Option Named) (name : Option (List ℕ)) → missing ≡ undefined_from seen.functions seen.globals 0 None us → name ≡ name_in missing → name ≡ name_in (undefined_use us)
    missing_is missing name m n = n ∙ ap name_in (m ∙ ap₂ (λ f g. undefined_from f g 0 None us) functions_are globals_are)

    pub all_are : (fs : List TFunction) → fs ≡ per_unit (unit_functions seen.functions seen.globals) 0 us → fs ≡ all_functions us
    all_are fs e = e ∙ ap₂ (λ f g. per_unit (unit_functions f g) 0 us) functions_are globals_are

    pub few_seen_functions : units_nodes us ≤ 16000 → length seen.functions ≤ 16000
    few_seen_functions nodes = let few : length (function_keys us) ≤ units_nodes us = few_functions 0 us in let same : length seen.functions ≡ length (function_keys us) = ap length functions_are in omega (arith, few, same, nodes)

    pub few_seen_globals : units_nodes us ≤ 16000 → length seen.globals ≤ 16000
    few_seen_globals nodes = let few : length (global_keys us) ≤ units_nodes us = few_global_keys 0 us in let same : length seen.globals ≡ length (global_keys us) = ap length globals_are in omega (arith, few, same, nodes)

pub nodes_within : (us : List TUnit) (found : ℕ) → found ≡ capped (units_nodes us) → found ≤ 16000 → units_nodes us ≤ 16000
nodes_within us found is low = omega (arith, is, low)

true_is : (b : Bool) → b ≡ true → IsTrue b
true_is b h = h

is_true : (b : Bool) → IsTrue b → b ≡ true
is_true b h = h

pub globals_fit : (n : ℕ) (us : List TUnit) → All IsUnit us → IsTrue (g.all_fit (per_unit unit_globals n us))
globals_fit n [] all = refl
globals_fit n (u ∷ us) all = true_is _ (list_all-append (λ x. fits x.ctype) u.globals (per_unit unit_globals (n + 1) us) ∙ ap₂ (λ a b. a && b) (is_true _ (All-head IsUnit u us all).types) (is_true _ (globals_fit (n + 1) us (All-tail IsUnit u us all))))

module _ (us : List TUnit) (all : All IsUnit us) (numbered : Numbered 0 us) (none : NoneUndefined us) (nodes : units_nodes us ≤ 16000) (bytes : globals_bytes (all_globals us) ≤ 49152) where
  pub makes_program : (fs : List TFunction) (gs : List TGlobal) → fs ≡ all_functions us → gs ≡ all_globals us → length (entry_names fs) ≤ 512 → IsProgram (made fs gs)
  makes_program fs gs f g few =
      subst IsProgram (sym (ap₂ made f g))
      (program_holds us all numbered (no_name_none (defined_twice us) none.0.0) none.0.1 (no_name_none (undefined_use us) none.1) nodes bytes (subst (λ z. length (entry_names z) ≤ 512) f few))

-- ---- each test of names

pub none61 : (us : List TUnit) (seen : Seen) (name : Option (List ℕ)) → seen ≡ seen_in us → name ≡ name_in seen.again → name ≡ None → name_in (defined_twice us) ≡ None
none61 us seen name is n h = sym (again_is us seen is name n) ∙ h

pub at61 : (us : List TUnit) (seen : Seen) (name : Option (List ℕ)) (e : JoinFault) → seen ≡ seen_in us → name ≡ name_in seen.again → Fails 61 name e → Joins us (Err e)
at61 us seen name e is n f = fault61 us e (subst (λ o. Fails 61 o e) (again_is us seen is name n) f)

pub at62 : (us : List TUnit) (name : Option (List ℕ)) (e : JoinFault) → name_in (defined_twice us) ≡ None → name ≡ disputed [] us → Fails 62 name e → Joins us (Err e)
at62 us name e h61 n f = fault62 us e h61 (subst (λ o. Fails 62 o e) n f)

module _ (us : List TUnit) (seen : Seen) (missing : Option Named) (name : Option (List ℕ)) (is : seen ≡ seen_in us) (h61 : name_in (defined_twice us) ≡ None) (h62 : disputed [] us ≡ None) (m : missing ≡ undefined_from seen.functions seen.globals 0 None us) (n : name ≡ name_in missing) where
  pub all_none : name ≡ None → NoneUndefined us
  all_none h = ((h61, h62), sym (missing_is us seen is h61 missing name m n) ∙ h)

  pub at60 : (e : JoinFault) → Fails 60 name e → Joins us (Err e)
  at60 e f = fault60 us e h61 h62 (subst (λ o. Fails 60 o e) (missing_is us seen is h61 missing name m n) f)
