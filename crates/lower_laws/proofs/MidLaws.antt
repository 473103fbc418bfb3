-- What holds of each program of the middle form, of one that stands for a tree: its entries, its data stack, and the limits of
-- its functions. That names are names, and differ, is left to what makes it, and so is a block that is too large.
use Rattle.std.proofs.Common.{◌≡◌, ℕ, suc, ◌%◌, ◌≤◌, Bool, true, false, cond, List, [], ◌∷◌, ◌++◌, length, map, filter, refl, sym, ap, ◌∙◌, arith, All, decimal}
use Rattle.std.specs.List.{list_all}
use Rattle.std.proofs.lemmas.List.Elements.{All-head, All-tail}
use Rattle.c_types.specs.Kind.{arithmetic}
use Rattle.c_tree.specs.Conditions.{Program, IsProgram, IsFunction}
use Rattle.c_tree.specs.Globals.{globals_bytes}
use Rattle.c_tree.specs.Numbers.{Names, names_of_program}
use Rattle.c_tree.specs.declared.program.TFunction.{TFunction}
use Rattle.c_tree.specs.declared.program.TLocal.{TLocal}
use Rattle.c_mean.specs.Homes.{homes}
use Rattle.mid_ir.specs.declared.program.MidFn.{MidFn}
use Rattle.mid_ir.specs.Numbers.{is_kind}
use Rattle.lower_code.specs.Pieces.{kind_of}
use Rattle.lower_code.specs.Programs.{function_code, lowered}
use Rattle.lower_laws.specs.Limits.{IsLimited}
use Rattle.lower_laws.proofs.FrameLaws.{block_by_eight}
use Rattle.lower_laws.proofs.PieceRanges.{both, kind_in}

-- ---- functions

pub params_many : (globals : List ℕ) (f : TFunction) → length (function_code globals f).narrow ≡ length f.params
params_many globals f = many f.params
  where
    many : (xs : List TLocal) → length (map (λ (x : TLocal). kind_of x.ctype) xs) ≡ length xs
    many [] = refl
    many (x ∷ xs) = ap suc (many xs)

pub kinds_ranged : (xs : List TLocal) → list_all is_kind (map (λ (x : TLocal). kind_of x.ctype) xs) ≡ true
kinds_ranged [] = refl
kinds_ranged (x ∷ xs) = both (is_kind (kind_of x.ctype)) (list_all is_kind (map (λ (x : TLocal). kind_of x.ctype) xs)) (kind_in (arithmetic x.ctype)) (kinds_ranged xs)

pub limited : (names : Names) (globals : List ℕ) (f : TFunction) → IsFunction names f → IsLimited (function_code globals f)
limited names globals f is =
    let many = params_many globals f in
    record {
      params = (let a = is.params in omega (arith, many, a));
      entry = λ h. let a = (is.entry h).0 in omega (arith, many, a);
      kinds = kinds_ranged f.params;
      vars = omega (arith, many);
      aligned = block_by_eight f;
    }

-- ---- entries

-- an entry function isn't static, so its name is its own
entries_named : (names : Names) (globals : List ℕ) (fs : List TFunction) → All (IsFunction names) fs → map (λ (g : MidFn). g.name) (filter (λ (g : MidFn). g.entry) (map (function_code globals) fs)) ≡ map (λ (f : TFunction). f.name) (filter (λ (f : TFunction). f.entry) fs)
entries_named names globals [] h = refl
entries_named names globals (f ∷ fs) h = test f.entry (λ e. ((All-head (IsFunction names) f fs h).entry e).1) (entries_named names globals fs (All-tail (IsFunction names) f fs h))
  where
    coded : List MidFn
    coded = map (function_code globals) fs

    named : (b : Bool) → b ≡ false → cond b (f.name ++ 46 ∷ decimal f.unit) f.name ≡ f.name
    named b e = ap (λ z. cond z (f.name ++ 46 ∷ decimal f.unit) f.name) e

    test : (b : Bool) → (b ≡ true → f.is_static ≡ false) → map (λ (g : MidFn). g.name) (filter (λ (g : MidFn). g.entry) coded) ≡ map (λ (f : TFunction). f.name) (filter (λ (f : TFunction). f.entry) fs)
        → map (λ (g : MidFn). g.name) (cond b (function_code globals f ∷ filter (λ (g : MidFn). g.entry) coded) (filter (λ (g : MidFn). g.entry) coded)) ≡ map (λ (f : TFunction). f.name) (cond b (f ∷ filter (λ (f : TFunction). f.entry) fs) (filter (λ (f : TFunction). f.entry) fs))
    test true e i = ap (λ z. z ∷ map (λ (g : MidFn). g.name) (filter (λ (g : MidFn). g.entry) coded)) (named f.is_static (e refl)) ∙ ap (λ z. f.name ∷ z) i
    test false e i = i

pub entries_are : (p : Program) → IsProgram p → (lowered p).entries ≡ map (λ (g : MidFn). g.name) (filter (λ (g : MidFn). g.entry) (lowered p).functions)
entries_are p good = good.entries ∙ sym (entries_named (names_of_program p.functions p.globals) (homes p.globals) p.functions good.functions)

-- ---- the data stack

pub stack_from : (p : Program) → 0x30000000 ≤ (lowered p).stack_base
stack_from p = let n = globals_bytes p.globals in omega arith

pub stack_to : (p : Program) → IsProgram p → (lowered p).stack_base ≤ 0x3000C000
stack_to p good = let a = good.bytes in omega (arith, a)

pub stack_by_eight : (p : Program) → (lowered p).stack_base % 8 ≡ 0
stack_by_eight p = let n = globals_bytes p.globals in omega arith
