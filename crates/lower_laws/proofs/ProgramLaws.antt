-- What is in a program: its functions are in range, in order, with their units, and its contents aren't longer than its globals.
use Rattle.std.proofs.Common.{◌≡◌, ℕ, ◌+◌, ◌-◌, ◌%◌, ◌≤◌, max, Bool, true, false, cond, not, List, [], ◌∷◌, ◌++◌, length, map, fold, filter, replicate, refl, sym, ap, ◌∙◌, subst, arith, length-append, All, option_map, Option, Some, None, slice_get, slice_index_or}
use Rattle.std.specs.Option.{unwrap_or}
use Rattle.std.proofs.lemmas.Option.{slice_get-map, slice_get-get_or, get_or_from_slice_get, slice_get_within}
use Rattle.std.proofs.lemmas.List.{length-replicate}
use Rattle.std.proofs.lemmas.List.Elements.{All-get_or, All-head, All-tail}
use Rattle.c_types.specs.Sizes.{align_of}
use Rattle.c_tree.specs.Conditions.{Program, IsProgram, IsFunction, IsGlobal}
use Rattle.c_tree.specs.Globals.{end_after, stands, globals_bytes}
use Rattle.c_tree.specs.Slots.{bytes_of}
use Rattle.c_tree.specs.Numbers.{names_of_program}
use Rattle.c_tree.specs.declared.program.TFunction.{TFunction}
use Rattle.c_tree.specs.declared.program.TGlobal.{TGlobal}
use Rattle.c_mean.specs.Homes.{homes, with_contents, begins}
use Rattle.mid_ir.specs.declared.program.MidFn.{MidFn}
use Rattle.mid_ir.specs.Numbers.{function_in_range}
use Rattle.lower_code.specs.Programs.{function_code, lowered}
use Rattle.lower_laws.proofs.FunctionRanges.{function_ranged}

-- ---- functions

pub all_ranged : (p : Program) → IsProgram p → All (λ (g : MidFn). function_in_range (lowered p).functions g ≡ true) (lowered p).functions
all_ranged p good n d lt = by (slice_get p.functions n) refl
  where
    coded : TFunction → MidFn
    coded = function_code (homes p.globals)

    here : slice_get (map coded p.functions) n ≡ Some (slice_index_or (map coded p.functions) n d)
    here = slice_get-get_or (map coded p.functions) n d lt

    by : (o : Option TFunction) → slice_get p.functions n ≡ o → function_in_range (lowered p).functions (slice_index_or (map coded p.functions) n d) ≡ true
    by None e = let q = sym here ∙ slice_get-map coded p.functions n ∙ ap (option_map coded) e in absurd cc
    by (Some f) e =
        let is : IsFunction (names_of_program p.functions p.globals) f = subst (IsFunction (names_of_program p.functions p.globals)) (get_or_from_slice_get p.functions n f f e) (All-get_or (IsFunction (names_of_program p.functions p.globals)) p.functions n f (slice_get_within p.functions n f e) good.functions) in
        let q = slice_get-map coded p.functions n ∙ ap (option_map coded) e in
        subst (λ g. function_in_range (lowered p).functions g ≡ true) (sym (get_or_from_slice_get (map coded p.functions) n (coded f) d q)) (function_ranged p f is)

pub units_same : (globals : List ℕ) (fs : List TFunction) → map (λ (g : MidFn). g.unit) (map (function_code globals) fs) ≡ map (λ (f : TFunction). f.unit) fs
units_same globals [] = refl
units_same globals (f ∷ fs) = ap (λ z. f.unit ∷ z) (units_same globals fs)

-- ---- initial contents

later : (at : ℕ) (g : TGlobal) → at ≤ end_after at g
later at g = let n = max (unwrap_or (align_of g.ctype) 1) 1 in more at ((n - at % n) % n) (bytes_of g.ctype)
  where
    more : (a b c : ℕ) → a ≤ a + b + c
    more a b c = omega arith

all_later : (gs : List TGlobal) (at : ℕ) → at ≤ fold end_after at gs
all_later [] at = omega arith
all_later (g ∷ gs) at = let a = later at g in let b = all_later gs (end_after at g) in omega (arith, a, b)

one_more : (bytes : List ℕ) (g : TGlobal) → length g.init ≡ bytes_of g.ctype → length (with_contents bytes g) ≡ end_after (length bytes) g
one_more bytes g h =
    let at = begins (length bytes) g.ctype in
    let gap = replicate (at - length bytes) 0 in
    let a = length-append (bytes ++ gap) g.init in
    let b = length-append bytes gap in
    let c = length-replicate {A = ℕ} (at - length bytes) 0 in
    let n = max (unwrap_or (align_of g.ctype) 1) 1 in
    let d : length bytes ≤ at = more (length bytes) ((n - length bytes % n) % n) in
    omega (arith, a, b, c, d, h)
  where
    more : (a b : ℕ) → a ≤ a + b
    more a b = omega arith

initialised : (gs : List TGlobal) → All IsGlobal gs → (bytes : List ℕ) → length (fold with_contents bytes (filter (stands false) gs)) ≡ fold end_after (length bytes) (filter (stands false) gs)
initialised [] h bytes = refl
initialised (g ∷ gs) h bytes = test g.noinit (All-head IsGlobal g gs h).init (λ bytes. initialised gs (All-tail IsGlobal g gs h) bytes)
  where
    test : (b : Bool) → length g.init ≡ cond b 0 (bytes_of g.ctype) → ((bytes : List ℕ) → length (fold with_contents bytes (filter (stands false) gs)) ≡ fold end_after (length bytes) (filter (stands false) gs))
        → length (fold with_contents bytes (cond (not b) (g ∷ filter (stands false) gs) (filter (stands false) gs))) ≡ fold end_after (length bytes) (cond (not b) (g ∷ filter (stands false) gs) (filter (stands false) gs))
    test true e i = i bytes
    test false e i = i (with_contents bytes g) ∙ ap (λ n. fold end_after n (filter (stands false) gs)) (one_more bytes g e)

pub contents_few : (p : Program) → IsProgram p → length (lowered p).init ≤ globals_bytes p.globals
contents_few p good =
    let a = initialised p.globals good.globals [] in
    let b = all_later (filter (stands true) p.globals) (fold end_after 0 (filter (stands false) p.globals)) in
    omega (arith, a, b)
