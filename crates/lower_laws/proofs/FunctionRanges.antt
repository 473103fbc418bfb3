-- The numbers in functions are in range: each variable is below the slots and four more.
use Rattle.std.proofs.Common.{◌≡◌, ℕ, suc, ◌+◌, Bool, true, false, cond, List, [], ◌∷◌, ◌++◌, length, map, fold, refl, sym, ap, ◌∙◌, arith, append_assoc, length-append, Option, Some, None, slice_get}
use Rattle.std.specs.Prelude.{option_map, ◌==◌}
use Rattle.std.proofs.lemmas.List.{append-nil}
use Rattle.std.proofs.lemmas.Option.{slice_get-map}
use Rattle.c_tree.specs.Conditions.{Program, IsFunction}
use Rattle.c_tree.specs.Numbers as numbers
use Rattle.c_tree.specs.Numbers.{names_of_program, has_params}
use Rattle.c_tree.specs.Placed.{is_placed, stmt_taken}
use Rattle.c_tree.specs.Slots.{slots, bytes_of, unplaced_from}
use Rattle.c_tree.specs.declared.program.TFunction.{TFunction}
use Rattle.c_tree.specs.declared.program.TLocal.{TLocal}
use Rattle.c_mean.specs.Homes.{Block, begins, with_local, block_of, block_bytes, homes}
use Rattle.mid_ir.specs.Numbers as mid_numbers
use Rattle.mid_ir.specs.Numbers.{Around, function_in_range}
use Rattle.mid_ir.proofs.RangeLaws.{range_Seq}
use Rattle.lower_code.specs.Frames.{Home, Variable, Placed, Frame, free_from, frame_of}
use Rattle.lower_code.specs.Pieces.{kind_of}
use Rattle.lower_code.specs.Stmts.{block, coded}
use Rattle.lower_code.specs.Programs.{all_homed, body_code, outermost, function_code, lowered}
use Rattle.lower_laws.proofs.FrameLaws.{home_from, From, offset_within, is_frame, params_free, offsets_length}
use Rattle.lower_laws.proofs.PieceRanges.{one_in, append_in, block_in}
use Rattle.lower_laws.proofs.ExprRanges.{HomeIn, Stands}
use Rattle.lower_laws.proofs.StmtRanges.{all_good, params_fit}

-- ---- how many variables the locals have

-- where these stand, the first of them being local n, behind so many bytes
abbrev offsets_of : List ℕ → ℕ → ℕ → List TLocal → List (Option ℕ)
offsets_of taken n bytes [] = []
offsets_of taken n bytes (x ∷ xs) = cond (is_placed taken n x) (Some (begins bytes x.ctype) ∷ offsets_of taken (n + 1) (begins bytes x.ctype + bytes_of x.ctype) xs) (None ∷ offsets_of taken (n + 1) bytes xs)

fold_offsets : (taken : List ℕ) (xs : List TLocal) (b : Block) → (fold (with_local taken) b xs).offsets ≡ b.offsets ++ offsets_of taken (length b.offsets) b.bytes xs
fold_offsets taken [] b = sym (append-nil b.offsets)
fold_offsets taken (x ∷ xs) b = test (is_placed taken (length b.offsets) x) (λ c. fold_offsets taken xs c)
  where
    n : ℕ
    n = length b.offsets

    more : (o : Option ℕ) → length (b.offsets ++ o ∷ []) ≡ n + 1
    more o = length-append b.offsets (o ∷ [])

    at : ℕ
    at = begins b.bytes x.ctype

    test : (p : Bool) → ((c : Block) → (fold (with_local taken) c xs).offsets ≡ c.offsets ++ offsets_of taken (length c.offsets) c.bytes xs)
        → (fold (with_local taken) (cond p (record { offsets = b.offsets ++ Some at ∷ []; bytes = at + bytes_of x.ctype }) (record { offsets = b.offsets ++ None ∷ []; bytes = b.bytes })) xs).offsets
        ≡ b.offsets ++ cond p (Some at ∷ offsets_of taken (n + 1) (at + bytes_of x.ctype) xs) (None ∷ offsets_of taken (n + 1) b.bytes xs)
    test true h =
        h (record { offsets = b.offsets ++ Some at ∷ []; bytes = at + bytes_of x.ctype })
        ∙ append_assoc b.offsets (Some at ∷ []) (offsets_of taken (length (b.offsets ++ Some at ∷ [])) (at + bytes_of x.ctype) xs)
        ∙ ap (λ m. b.offsets ++ Some at ∷ offsets_of taken m (at + bytes_of x.ctype) xs) (more (Some at))
    test false h =
        h (record { offsets = b.offsets ++ None ∷ []; bytes = b.bytes })
        ∙ append_assoc b.offsets (None ∷ []) (offsets_of taken (length (b.offsets ++ None ∷ [])) b.bytes xs)
        ∙ ap (λ m. b.offsets ++ None ∷ offsets_of taken m b.bytes xs) (more None)

free_locals : (taken : List ℕ) (xs : List TLocal) (n bytes v : ℕ) → free_from 0 v (offsets_of taken n bytes xs) ≡ v + unplaced_from taken n xs
free_locals taken [] n bytes v = omega arith
free_locals taken (x ∷ xs) n bytes v = test (is_placed taken n x) (λ bytes v. free_locals taken xs (n + 1) bytes v)
  where
    test : (p : Bool) → ((bytes v : ℕ) → free_from 0 v (offsets_of taken (n + 1) bytes xs) ≡ v + unplaced_from taken (n + 1) xs)
        → free_from 0 v (cond p (Some (begins bytes x.ctype) ∷ offsets_of taken (n + 1) (begins bytes x.ctype + bytes_of x.ctype) xs) (None ∷ offsets_of taken (n + 1) bytes xs)) ≡ v + (cond p 0 1 + unplaced_from taken (n + 1) xs)
    test true h = h (begins bytes x.ctype + bytes_of x.ctype) v ∙ omega arith
    test false h = h bytes (v + 1) ∙ omega arith

free_all : (taken : List ℕ) (ps xs : List TLocal) (n bytes v : ℕ) → free_from (length ps) v (offsets_of taken n bytes (ps ++ xs)) ≡ v + length ps + unplaced_from taken (n + length ps) xs
free_all taken [] xs n bytes v =
    let e : n + 0 ≡ n = omega arith in
    free_locals taken xs n bytes v ∙ ap (λ m. v + unplaced_from taken m xs) (sym e) ∙ omega arith
free_all taken (p ∷ ps) xs n bytes v = test (is_placed taken n p) (λ bytes. free_all taken ps xs (n + 1) bytes (v + 1))
  where
    last : (v + 1) + length ps + unplaced_from taken ((n + 1) + length ps) xs ≡ v + suc (length ps) + unplaced_from taken (n + suc (length ps)) xs
    last = let e : (n + 1) + length ps ≡ n + suc (length ps) = omega arith in ap (λ m. (v + 1) + length ps + unplaced_from taken m xs) e ∙ omega arith

    test : (b : Bool) → ((bytes : ℕ) → free_from (length ps) (v + 1) (offsets_of taken (n + 1) bytes (ps ++ xs)) ≡ (v + 1) + length ps + unplaced_from taken ((n + 1) + length ps) xs)
        → free_from (suc (length ps)) v (cond b (Some (begins bytes p.ctype) ∷ offsets_of taken (n + 1) (begins bytes p.ctype + bytes_of p.ctype) (ps ++ xs)) (None ∷ offsets_of taken (n + 1) bytes (ps ++ xs))) ≡ v + suc (length ps) + unplaced_from taken (n + suc (length ps)) xs
    test true h = h (begins bytes p.ctype + bytes_of p.ctype) ∙ last
    test false h = h bytes ∙ last

-- the first free variable is behind the parameters and the locals that aren't placed
pub free_is : (globals : List ℕ) (f : TFunction) → (frame_of globals f).free ≡ length f.params + unplaced_from (stmt_taken f.body) (length f.params) f.locals
free_is globals f =
    let taken = stmt_taken f.body in
    let e : 0 + length f.params ≡ length f.params = omega arith in
    ap (free_from (length f.params) 0) (fold_offsets taken (f.params ++ f.locals) (record { offsets = []; bytes = 0 }))
    ∙ free_all taken f.params f.locals 0 0 0
    ∙ ap (λ m. 0 + length f.params + unplaced_from taken m f.locals) e ∙ omega arith

-- ---- functions

kinds_many : (xs : List TLocal) → length (map (λ (x : TLocal). kind_of x.ctype) xs) ≡ length xs
kinds_many [] = refl
kinds_many (x ∷ xs) = ap suc (kinds_many xs)

-- a function of the tree has its parameters in the middle form too
params_of_function : (globals : List ℕ) (fs : List TFunction) (n many : ℕ) → has_params many (slice_get fs n) ≡ true → mid_numbers.has_params many (slice_get (map (function_code globals) fs) n) ≡ true
params_of_function globals fs n many h = ap (mid_numbers.has_params many) (slice_get-map (function_code globals) fs n) ∙ by (slice_get fs n) h
  where
    by : (o : Option TFunction) → has_params many o ≡ true → mid_numbers.has_params many (option_map (function_code globals) o) ≡ true
    by None h = absurd cc
    by (Some f) h = ap (λ m. m == many) (kinds_many f.params) ∙ h

pub function_ranged : (p : Program) (f : TFunction) → IsFunction (names_of_program p.functions p.globals) f → function_in_range (lowered p).functions (function_code (homes p.globals) f) ≡ true
function_ranged p f is =
    let globals = homes p.globals in
    let fr = frame_of globals f in
    let g = function_code globals f in
    let around : numbers.Around = record { names = names_of_program p.functions p.globals; locals = length f.params + length f.locals; entry = f.entry } in
    let R : Around = record { is_function = λ n many. mid_numbers.has_params many (slice_get (lowered p).functions n); vars = slots f + 4; block = block_bytes f; entry = f.entry } in
    let free = free_is globals f in
    let few = let a = offsets_length f in params_free (length f.params) 0 (block_of f).offsets (omega (arith, a)) in
    let on : Stands around fr R = record {
      homes = λ i h e. home_in fr R f globals i h e (home_from (length f.params) 0 (block_of f).offsets i h e);
      block = omega arith;
      functions = λ n many h. params_of_function globals p.functions n many h;
      entry = λ h. h;
    } in
    let body = coded fr f.body outermost in
    range_Seq R (body_code fr f) 0
    ∙ append_in R (all_homed fr 0 f.params) (block body ∷ []) 0 (params_fit around fr R on 0 f.params 0 (omega (arith, few)) (omega (arith, free)))
    (one_in R (block body) 0 (block_in R body 0 (all_good around fr R on f.body is.numbers outermost 1 (omega (arith, free)) (record { breaks = omega arith; continues = omega arith; returns = λ q e. absurd cc }))))
  where
    home_in : (fr : Frame) (R : Around) (f : TFunction) (globals : List ℕ) (i : ℕ) (h : Home) → slice_get (frame_of globals f).homes i ≡ Some h → From h (slice_get (block_of f).offsets i) → HomeIn (frame_of globals f) (record { is_function = R.is_function; vars = R.vars; block = block_bytes f; entry = R.entry }) h
    home_in fr R f globals i (Variable v) e q = (is_frame globals f).below i v e
    home_in fr R f globals i (Placed offset) e q = offset_within f i offset q
