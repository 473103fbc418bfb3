-- Calls, and whole runs.
use Rattle.std.proofs.Common.{◌≡◌, ℕ, zero, suc, ◌+◌, ◌*◌, ◌/◌, ◌<◌, ◌≤◌, ◌&&◌, ◌||◌, Bool, true, false, cond, not, max, List, [], ◌∷◌, length, map, filter, refl, sym, ap, ◌∙◌, subst, arith, option_map, All, Option, Some, None, slice_get, slice_index}
use Rattle.std.specs.Prelude.{ltb, leb, option_and_then, bytes_eq}
use Rattle.std.proofs.lemmas.Option.{slice_get-map, slice_get_within, get_or_from_slice_get}
use Rattle.std.proofs.lemmas.List.Elements.{All-get_or}
use Rattle.cm_base.specs.declared.stop.Stop.TheVariants.{DataStack}
use Rattle.ns_types.specs.declared.event.CEvent.TheVariants as c
use Rattle.ns_types.specs.declared.event.End.TheVariants as end
use Rattle.ns_types.specs.Boundary.{eight_zeros}
use Rattle.ns_types.specs.Operators.{truth}
use Rattle.ns_types.specs.Veneers.{enters_of, name_at, place_of}
use Rattle.ns_types.specs.CRun.{World, Outcome, emit, mark_at, reach, stop_with}
use Rattle.ns_types.specs.Alike.{low, Alike}
use Rattle.ns_types.proofs.AlikeLaws.{alike_over, alike_stop}
use Rattle.c_types.specs.declared.ctype.Shape.TheOpen as shape
use Rattle.c_types.specs.Kind.{Look, look, is_void, arithmetic}
use Rattle.c_tree.specs.Conditions.{Program, IsFunction, IsProgram}
use Rattle.c_tree.specs.Numbers as numbers
use Rattle.c_tree.specs.Numbers.{Names, names_of_program, has_params}
use Rattle.c_tree.specs.Slots.{slots}
use Rattle.c_tree.specs.declared.program.TFunction.{TFunction}
use Rattle.c_mean.specs.Homes.{homes, data_stack, block_of, block_bytes}
use Rattle.c_mean.specs.Parts as tree
use Rattle.c_mean.specs.Values.{spot_in, converted}
use Rattle.c_mean.specs.Exprs.{Around}
use Rattle.c_mean.specs.Stmts.{does}
use Rattle.c_mean.specs.Calls as mean
use Rattle.c_mean.specs.Calls.{need, entry_functions, inside, begun, on_function, first_values, runs, result, result_as}
use Rattle.c_mean.specs.Run.{first_memory}
use Rattle.mid_ir.specs.declared.stmt.MidStmt.TheVariants as mid
use Rattle.mid_ir.specs.declared.program.MidFn.{MidFn}
use Rattle.mid_ir.specs.Activation.{first, with_block, Site, site_of}
use Rattle.mid_ir.specs.Activation as act
use Rattle.mid_ir.specs.Run.{narrowed, run, run_all}
use Rattle.mid_ir.specs.Whole as whole
use Rattle.mid_ir.specs.Whole.{function_at, function_or, entry_numbers, need_of, given, params_of, bodies, mid_run}
use Rattle.mid_ir.proofs.RunLaws.{run_Seq, run_all_append}
use Rattle.lower_code.specs.Frames.{Home, Variable, Placed, Frame, frame_of, gives_in}
use Rattle.lower_code.specs.Pieces.{kind_as}
use Rattle.lower_code.specs.Stmts as code
use Rattle.lower_code.specs.Programs.{bare, looks_empty, gives, all_homed, outermost, body_code, function_code, lowered}
use Rattle.lower_laws.specs.Likeness.{IsHome, Like}
use Rattle.lower_laws.specs.Follows.{Follows}
use Rattle.lower_laws.proofs.Straight.{kind_is}
use Rattle.lower_laws.proofs.Flows.{ending, Acts, whole_acts, closes}
use Rattle.lower_laws.proofs.Switches.{last_is}
use Rattle.lower_laws.proofs.Nests.{block_is}
use Rattle.lower_laws.proofs.Stmts.{all_good}
use Rattle.lower_laws.proofs.EntryLaws.{AlikeFirst, Enters, first_phase, first_runs}
use Rattle.lower_laws.proofs.FrameLaws.{is_frame, homes_many, home_from, From, offset_within, offsets_length, params_free, block_by_eight}
use Rattle.lower_laws.proofs.Blocks.{block_cleared}
use Rattle.lower_laws.proofs.Params.{all_homed_runs, stays_acts, first_agrees, params_agree, first_vars}

-- ---- results

-- whether what `return` gives comes through
abbrev comes : TFunction → Bool
comes f = f.entry || gives f

bare_or_comes : (e v b : Bool) → ((e || (not v || (not e && not b))) || b) ≡ true
bare_or_comes true v b = refl
bare_or_comes false false b = refl
bare_or_comes false true true = refl
bare_or_comes false true false = refl

-- an entry's result
entry_result : (t : Look) (x : ℕ) → given (not (looks_empty t) || false) (narrowed (kind_as (gives_in t)) x) ≡ result_as t x
entry_result shape.Void x = refl
entry_result (shape.Arith a) x = refl
entry_result (shape.Pointer to) x = refl
entry_result (shape.Array of len) x = refl
entry_result (shape.Struct number name size align) x = refl
entry_result (shape.Function y params nonsecure) x = test (is_void y)
  where
    test : (b : Bool) → given (not b || false) (narrowed (kind_as (arithmetic y)) x) ≡ cond b 0 (converted y x)
    test true = refl
    test false = kind_is (arithmetic y) x

given_result : (e b : Bool) (t : Look) (x : ℕ) → (e || (not (looks_empty t) || (not e && not b))) ≡ true → given (not (looks_empty t) || (not e && not b)) (narrowed (kind_as (cond e (gives_in t) None)) x) ≡ cond e (result_as t x) x
given_result true b t x h = entry_result t x
given_result false b t x h = ap (λ z. given z x) h

-- ---- functions by their numbers

all_at : {X : Type 0} (P : X → Type 0) (xs : List X) (n : ℕ) (x : X) → slice_get xs n ≡ Some x → All P xs → P x
all_at P xs n x e h = subst P (get_or_from_slice_get xs n x x e) (All-get_or P xs n x (slice_get_within xs n x e) h)

-- a number that is called is that of a function
called_is : (p : Program) (n many : ℕ) → (names_of_program p.functions p.globals).is_function n many ≡ true → (f : TFunction) × (slice_get p.functions n ≡ Some f)
called_is p n many h = by (slice_get p.functions n) refl h
  where
    by : (o : Option TFunction) → slice_get p.functions n ≡ o → has_params many o ≡ true → (f : TFunction) × (slice_get p.functions n ≡ Some f)
    by None e q = absurd cc
    by (Some f) e q = (f, e)

function_is : (p : Program) (n : ℕ) (f : TFunction) → slice_get p.functions n ≡ Some f → function_at (lowered p).functions n ≡ function_code (homes p.globals) f
function_is p n f e = ap function_or (slice_get-map (function_code (homes p.globals)) p.functions n ∙ ap (option_map (function_code (homes p.globals))) e)

-- an entry's number
record EntryAt (globals : List ℕ) (base : ℕ) (fs : List TFunction) (e : ℕ) : Type 0 where
  number : ℕ
  function : TFunction
  is : slice_index (entry_numbers base (map (function_code globals) fs)) e ≡ base + number
  at : slice_get fs number ≡ Some function
  entry : slice_get (filter (λ (f : TFunction). f.entry) fs) e ≡ Some function

entry_at : (globals : List ℕ) (fs : List TFunction) (base e : ℕ) → e < length (filter (λ (f : TFunction). f.entry) fs) → EntryAt globals base fs e
entry_at globals [] base e lt = absurd (omega (arith, lt))
entry_at globals (f ∷ fs) base e lt =
    let t = test f.entry e lt (λ e lt. entry_at globals fs (suc base) e lt) in
    record { number = t.0; function = t.1; is = t.2; at = t.3; entry = t.4 }
  where
    test : (b : Bool) (e : ℕ) → e < length (cond b (f ∷ filter (λ (f : TFunction). f.entry) fs) (filter (λ (f : TFunction). f.entry) fs))
        → ((e : ℕ) → e < length (filter (λ (f : TFunction). f.entry) fs) → EntryAt globals (suc base) fs e)
        → (number : ℕ) × (function : TFunction) × (slice_index (cond b (base ∷ entry_numbers (suc base) (map (function_code globals) fs)) (entry_numbers (suc base) (map (function_code globals) fs))) e ≡ base + number)
        × (slice_get (f ∷ fs) number ≡ Some function) × (slice_get (cond b (f ∷ filter (λ (f : TFunction). f.entry) fs) (filter (λ (f : TFunction). f.entry) fs)) e ≡ Some function)
    test true zero lt h = (0, f, omega arith, refl, refl)
    test true (suc e) lt h = let r = h e (omega (arith, lt)) in let q = r.is in (suc r.number, r.function, omega (arith, q), r.at, r.entry)
    test false e lt h = let r = h e lt in let q = r.is in (suc r.number, r.function, omega (arith, q), r.at, r.entry)

leb_not : (x y : ℕ) → leb x y ≡ not (ltb y x)
leb_not x y = grind arith

module _ (p : Program) (good : IsProgram p) (enters : ℕ → Option ℕ) (fits : Enters (length (entry_functions p)) enters) (turns : ℕ) where
  abbrev names : Names
  names = names_of_program p.functions p.globals

  abbrev coded : TFunction → MidFn
  coded = function_code (homes p.globals)

  abbrev entries : List ℕ
  entries = entry_numbers 0 (lowered p).functions

  -- calls of functions of the program, with no greater load
  abbrev CallsAlike : ℕ → Type 0
  CallsAlike deep =
      (top load less : ℕ) → less ≤ load → 0x30000000 ≤ top → (from_ns : Bool) (n : ℕ) (f : TFunction) → slice_get p.functions n ≡ Some f → (args : List ℕ) (w : World) (q : ℕ) → q ≤ w.peak
      → Alike (mean.call p enters turns deep from_ns load top (Some f) args w) (whole.call enters (lowered p).functions turns deep top less (truth from_ns) n args (low q w))

  -- so are the entries
  entries_alike : (deep : ℕ) → CallsAlike deep → (top load less : ℕ) → less ≤ load → 0x30000000 ≤ top
      → AlikeFirst (length (entry_functions p)) (λ e. mean.call p enters turns deep true load top (slice_get (entry_functions p) e)) (λ e xs v. whole.call enters (lowered p).functions turns deep top less 1 (slice_index entries e) xs v)
  entries_alike deep calls top load less lt from e small args w q le =
      let r = entry_at (homes p.globals) p.functions 0 e small in
      let number : slice_index entries e ≡ r.number = r.is ∙ omega arith in
      subst (λ o. Alike (mean.call p enters turns deep true load top o args w) (whole.call enters (lowered p).functions turns deep top less 1 (slice_index entries e) args (low q w))) (sym r.entry)
      (subst (λ n. Alike (mean.call p enters turns deep true load top (Some r.function) args w) (whole.call enters (lowered p).functions turns deep top less 1 n args (low q w))) (sym number)
      (calls top load less lt from true r.number r.function r.at args w q le))

  -- ---- one activation

  module _ (deep : ℕ) (calls : CallsAlike deep) (f : TFunction) (is : IsFunction names f) (from_ns : Bool) (top load less : ℕ) (le : less ≤ load) (from : 0x30000000 ≤ top) (enough : top + block_bytes f ≤ 0x30010000) where
    abbrev fr : Frame
    fr = frame_of (homes p.globals) f

    abbrev s : Around
    s = inside p enters turns (mean.call p enters turns deep) from_ns load top f

    abbrev r : Site
    r = site_of enters entries (whole.call enters (lowered p).functions turns deep (top + block_bytes f) less) top turns (truth from_ns)

    home_is : (i : ℕ) (h : Home) → From h (slice_get (block_of f).offsets i) → IsHome top (block_bytes f) i h (spot_in top (slice_get (block_of f).offsets i) i)
    home_is i (Variable v) e = ap (λ o. spot_in top o i) e
    home_is i (Placed offset) e = (ap (λ o. spot_in top o i) e, offset_within f i offset e)

    calls_like : (n many : ℕ) → names.is_function n many ≡ true → (xs : List ℕ) (w : World) (q : ℕ) → q ≤ w.peak → Alike (s.call n xs w) (r.calls n xs (low q w))
    calls_like n many h xs w q lq =
        let c = called_is p n many h in
        subst (λ o. Alike (mean.call p enters turns deep false load (top + block_bytes f) o xs w) (r.calls n xs (low q w))) (sym c.1)
        (calls (top + block_bytes f) load less le (omega (arith, from)) false n c.0 c.1 xs w q lq)

    like : Like names fr s r
    like = record {
      block = refl;
      room = omega (arith, enough);
      turns = refl;
      caller = refl;
      homes = λ i h e. home_is i h (home_from (length f.params) 0 (block_of f).offsets i h e);
      globals = refl;
      calls = calls_like;
      outside = λ target xs w q lq.
          let u = emit (c.Called target xs) (mark_at target eight_zeros w) w in
          first_phase (length (entry_functions p)) enters fits (λ e. mean.call p enters turns deep true load (top + block_bytes f) (slice_get (entry_functions p) e)) (λ e xs v. whole.call enters (lowered p).functions turns deep (top + block_bytes f) less 1 (slice_index entries e) xs v) (entries_alike deep calls (top + block_bytes f) load less le (omega (arith, from))) turns (length u.turns) u q lq;
    }

    few : length f.params ≤ fr.free
    few =
        let a = offsets_length f in
        let h = params_free (length f.params) 0 (block_of f).offsets (omega (arith, a)) in
        omega (arith, h)

    abbrev around : numbers.Around
    around = record { names = names; locals = length f.params + length f.locals; entry = f.entry }

    -- the body, from the first values on
    body_alike : (args : List ℕ) (w : World) (q : ℕ) → q ≤ w.peak → Alike (tree.closing (runs f s (first_values f args) w)) (whole.closing (gives f) (run r (mid.Seq (body_code fr f)) (first_vars f args) (low q w)))
    body_alike args w q lq =
        let whole_body = code.block (code.coded fr f.body outermost) in
        let many = homes_many (homes p.globals) f in
        let g = is_frame (homes p.globals) f in
        let l = first_values f args in
        let vs = first_vars f args in
        let agrees = first_agrees (homes p.globals) f args in
        let body = all_good around fr g s r like (sym many) (gives f) (comes f) (λ h x. given_result f.entry (bare f.body) (look f.ctype) x h) f.body is.numbers (bare_or_comes f.entry (looks_empty (look f.ctype)) (bare f.body)) outermost in
        closes fr (gives f) _ _
        (subst (λ o. Acts fr (gives f) ending (runs f s l w) o) (sym (run_Seq r (body_code fr f) vs (low q w) ∙ run_all_append r (all_homed fr 0 f.params) (whole_body ∷ []) vs (low q w)))
        (stays_acts fr (gives f) ending l _ _ (does f.body s) (run_all r (whole_body ∷ []))
        (all_homed_runs names fr g s r like f.params 0 (omega (arith, few)) (omega (arith, many)) l vs w q lq agrees (λ i a b. params_agree f args i (omega (arith, b))))
        (λ new w q lq h.
        subst (λ o. Acts fr (gives f) ending (does f.body s l w) o) (sym (last_is fr g r whole_body new (low q w) ∙ block_is r (code.coded fr f.body outermost) new (low q w)))
        (whole_acts fr (gives f) _ _ (body l new w q lq h)))))

  activation_alike : (deep : ℕ) → CallsAlike deep → (f : TFunction) → IsFunction names f → (from_ns : Bool) (top load less : ℕ) → less ≤ load → 0x30000000 ≤ top → (args : List ℕ) (w : World) (q : ℕ) → q ≤ w.peak
      → Alike (mean.activation p enters turns (mean.call p enters turns deep) from_ns load top f args w)
      (with_block (block_bytes f) top (reach less (low q w)) (λ u. whole.closing (gives f) (run (site_of enters entries (whole.call enters (lowered p).functions turns deep (top + block_bytes f) less) top turns (truth from_ns)) (mid.Seq (body_code (frame_of (homes p.globals) f) f)) (first_vars f args) u)))
  activation_alike deep calls f is from_ns top load less le from args w q lq =
      test (ltb 0x30010000 (top + block_bytes f)) refl
    where
      r : Site
      r = site_of enters entries (whole.call enters (lowered p).functions turns deep (top + block_bytes f) less) top turns (truth from_ns)

      s : Around
      s = inside p enters turns (mean.call p enters turns deep) from_ns load top f

      n : ℕ
      n = block_bytes f

      two : World → Outcome
      two u = whole.closing (gives f) (run r (mid.Seq (body_code (frame_of (homes p.globals) f) f)) (first_vars f args) u)

      u : World
      u = begun load top n w

      k : ℕ
      k = max q less

      least : k ≤ max w.peak load
      least = omega (arith, lq, le)

      test : (b : Bool) → ltb 0x30010000 (top + n) ≡ b → Alike (cond b (stop_with DataStack (reach load w)) (tree.closing (runs f s (first_values f args) u))) (cond (leb (top + n) 0x30010000) (two (record (reach less (low q w)) { memory = act.cleared (n / 4) top w.memory })) (stop_with DataStack (reach less (low q w))))
      test true e =
          subst (λ b. Alike (stop_with DataStack (reach load w)) (cond b (two (record (reach less (low q w)) { memory = act.cleared (n / 4) top w.memory })) (stop_with DataStack (reach less (low q w))))) (sym (leb_not (top + n) 0x30010000 ∙ ap not e))
          (alike_stop DataStack k (reach load w) least)
      test false e =
          let room : top + n ≤ 0x30010000 = grind (arith, e) in
          subst (λ b. Alike (tree.closing (runs f s (first_values f args) u)) (cond b (two (record (reach less (low q w)) { memory = act.cleared (n / 4) top w.memory })) (stop_with DataStack (reach less (low q w))))) (sym (leb_not (top + n) 0x30010000 ∙ ap not e))
          (subst (λ m. Alike (tree.closing (runs f s (first_values f args) u)) (two (record (reach less (low q w)) { memory = m }))) (sym (block_cleared n top w.memory from (block_by_eight f)))
          (body_alike deep calls f is from_ns top load less le from room args u k least))

  calls_alike : (deep : ℕ) → CallsAlike deep
  calls_alike zero top load less le from from_ns n f e args w q lq = alike_over end.Spent q w lq
  calls_alike (suc deep) top load less le from from_ns n f e args w q lq =
      let is = all_at (IsFunction names) p.functions n f e good.functions in
      let g = coded f in
      subst (λ h. Alike (mean.activation p enters turns (mean.call p enters turns deep) from_ns (load + need f) top f args w)
      (with_block h.block top (reach (less + need_of h) (low q w)) (λ u. whole.closing h.gives (run (site_of enters entries (whole.call enters (lowered p).functions turns deep (top + h.block) (less + need_of h)) top turns (truth from_ns)) h.body (first (params_of h args)) u))))
      (sym (function_is p n f e))
      (activation_alike deep (calls_alike deep) f is from_ns top (load + need f) (less + need_of g) (needs (slots f)) from args w q lq)
    where
      needs : (k : ℕ) → less + (112 + 4 * (k + 4)) ≤ load + (128 + 4 * k)
      needs k = omega (arith, le)

-- ---- whole runs

place_below : (ns : List (List ℕ)) (name : List ℕ) (e : ℕ) → place_of ns name ≡ Some e → e < length ns
place_below [] name e h = absurd cc
place_below (n ∷ ns) name e h = test (bytes_eq n name) (place_of ns name) e h (λ k q. place_below ns name k q)
  where
    test : (b : Bool) (o : Option ℕ) (e : ℕ) → cond b (Some 0) (option_map suc o) ≡ Some e → ((k : ℕ) → o ≡ Some k → k < length ns) → e < suc (length ns)
    test true o e h q = let z : 0 ≡ e = cc in omega (arith, z)
    test false None e h q = absurd cc
    test false (Some k) e h q = let z : suc k ≡ e = cc in let lt = q k refl in omega (arith, z, lt)

named_below : (entries : List (List ℕ)) (o : Option (List ℕ)) (e : ℕ) → option_and_then (λ name. place_of entries name) o ≡ Some e → e < length entries
named_below entries None e h = absurd cc
named_below entries (Some name) e h = place_below entries name e h

names_many : (fs : List TFunction) → length (map (λ (f : TFunction). f.name) fs) ≡ length fs
names_many [] = refl
names_many (f ∷ fs) = ap suc (names_many fs)

pub follows : (p : Program) → IsProgram p → Follows p
follows p good veneers start ts b =
    let enters = enters_of veneers p.entries in
    let many : length p.entries ≡ length (entry_functions p) = ap length good.entries ∙ names_many (entry_functions p) in
    let fits : Enters (length (entry_functions p)) enters = λ a e h. let lt = named_below p.entries (name_at veneers a) e h in omega (arith, lt, many) in
    first_runs (length (entry_functions p)) enters fits (mean.meaning p enters b) (bodies enters (lowered p) b)
    (entries_alike p good enters fits b.turns b.deep (calls_alike p good enters fits b.turns b.deep) (data_stack p.globals) 0 0 (omega arith) (omega arith))
    b.turns start (first_memory p start) ts
