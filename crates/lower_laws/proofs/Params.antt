-- The beginning of a function: its parameters.
use Rattle.std.proofs.Common.{◌≡◌, ℕ, zero, suc, ◌+◌, ◌<◌, ◌≤◌, ◌⊎◌, Bool, true, false, cond, List, [], ◌∷◌, ◌++◌, length, map, take, refl, sym, ap, ◌∙◌, subst, inl, inr, arith, length-append, Some, slice_get, slice_index, slice_index_or}
use Rattle.std.proofs.lemmas.Option.{slice_get-get_or}
use Rattle.ns_types.specs.CRun.{World}
use Rattle.ns_types.specs.Alike.{low}
use Rattle.c_types.specs.declared.ctype.CType.{CType}
use Rattle.c_types.specs.Kind.{arithmetic}
use Rattle.c_tree.specs.Numbers.{Names}
use Rattle.c_tree.specs.declared.program.TFunction.{TFunction}
use Rattle.c_tree.specs.declared.program.TLocal.{TLocal}
use Rattle.c_mean.specs.declared.flow.Flow.{Flow}
use Rattle.c_mean.specs.declared.flow.Flow.TheVariants as flow
use Rattle.c_mean.specs.Homes.{block_of}
use Rattle.c_mean.specs.Parts as tree
use Rattle.c_mean.specs.Parts.{Has, Ends, Part, then_with}
use Rattle.c_mean.specs.Values.{Spot, At, spot_in, write_spot}
use Rattle.c_mean.specs.Exprs.{Around}
use Rattle.c_mean.specs.Calls as mean
use Rattle.c_mean.specs.Calls.{homed, parameters, first_values}
use Rattle.mid_ir.specs.declared.stmt.MidStmt.{MidStmt}
use Rattle.mid_ir.specs.declared.stmt.MidStmt.TheVariants as mid
use Rattle.mid_ir.specs.Activation.{Vars, put, first, Site}
use Rattle.mid_ir.specs.Run.{Out, then_do, run_all}
use Rattle.mid_ir.specs.Whole.{all_narrowed}
use Rattle.mid_ir.proofs.RunLaws.{run_Home}
use Rattle.lower_code.specs.Frames.{Home, Variable, Placed, Frame, frame_of}
use Rattle.lower_code.specs.Pieces as piece
use Rattle.lower_code.specs.Pieces.{kind_of}
use Rattle.lower_code.specs.Programs as code
use Rattle.lower_laws.specs.Likeness.{Like}
use Rattle.lower_laws.proofs.Relate.{put_same, put_other, Agrees, IsFrame, agrees_on, Runs, left, halts, then_runs}
use Rattle.lower_laws.proofs.Straight.{next, kind_is}
use Rattle.lower_laws.proofs.Accesses.{Same, store_same}
use Rattle.lower_laws.proofs.Flows.{Leads, Acts}
use Rattle.lower_laws.proofs.FrameLaws.{homes_many, param_variable}

-- ---- placed parameters are written to their homes

-- the locals stay
pub record Stays (fr : Frame) (l : List ℕ) (f : Flow) (m : List ℕ) (new : Vars) : Type 0 where
  pub list : m ≡ l
  pub locals : Agrees fr l new

module _ (names : Names) (fr : Frame) (good : IsFrame fr) (s : Around) (r : Site) (like : Like names fr s r) where
  pub all_homed_runs : (xs : List TLocal) (n : ℕ) → n + length xs ≤ fr.free → n + length xs ≤ length fr.homes → (l : List ℕ) (old : Vars) (w : World) (p : ℕ) → p ≤ w.peak → Agrees fr l old → ((i : ℕ) → n ≤ i → i < n + length xs → old i ≡ slice_index l i)
      → Runs (Stays fr l) (mean.all_homed n xs s l w) (run_all r (code.all_homed fr n xs) old (low p w))
  all_homed_runs [] n nf nh l old w p le g h = left (Stays fr l) flow.Next l old w p le (record { list = refl; locals = g })
  all_homed_runs (x ∷ xs) n nf nh l old w p le g h =
      let home = slice_index_or fr.homes n (Placed 0) in
      let e = slice_get-get_or fr.homes n (Placed 0) (omega (arith, nh)) in
      by home e (like.homes n home e) (λ old w p le g h. all_homed_runs xs (suc n) (omega (arith, nf)) (omega (arith, nh)) l old w p le g h)
    where
      spot : Spot
      spot = spot_in s.block (slice_get s.offsets n) n

      c : CType
      c = x.ctype

      more : List MidStmt
      more = code.all_homed fr (suc n) xs

      by : (home : Home) → slice_get fr.homes n ≡ Some home → Rattle.lower_laws.specs.Likeness.IsHome s.block fr.bytes n home spot
          → ((old : Vars) (w : World) (p : ℕ) → p ≤ w.peak → Agrees fr l old → ((i : ℕ) → suc n ≤ i → i < suc n + length xs → old i ≡ slice_index l i) → Runs (Stays fr l) (mean.all_homed (suc n) xs s l w) (run_all r more old (low p w)))
          → Runs (Stays fr l) (then_with (homed c spot (slice_index l n) l w) (λ v. mean.all_homed (suc n) xs s)) (run_all r (code.homed c (slice_get fr.homes n) n fr.free ++ more) old (low p w))
      by (Variable v) e is rest =
          subst (λ z. Runs (Stays fr l) (then_with (homed c spot (slice_index l n) l w) (λ v. mean.all_homed (suc n) xs s)) (run_all r (code.homed c z n fr.free ++ more) old (low p w))) (sym e)
          (subst (λ z. Runs (Stays fr l) (then_with (homed c z (slice_index l n) l w) (λ v. mean.all_homed (suc n) xs s)) (run_all r more old (low p w))) (sym is)
          (rest old w p le g (λ i a b. h i (omega (arith, a)) (omega (arith, b)))))
      by (Placed offset) e is rest =
          let at = s.block + offset in
          let one = put old fr.free (r.block + offset) in
          let same : (i : ℕ) → i < fr.free → one i ≡ old i = λ i lt. put_other old fr.free (r.block + offset) i (inl lt) in
          subst (λ z. Runs (Stays fr l) (then_with (homed c spot (slice_index l n) l w) (λ v. mean.all_homed (suc n) xs s)) (run_all r (code.homed c z n fr.free ++ more) old (low p w))) (sym e)
          (subst (λ z. Runs (Stays fr l) (then_with (homed c z (slice_index l n) l w) (λ v. mean.all_homed (suc n) xs s)) (run_all r (mid.Home fr.free offset ∷ piece.store c fr.free n ∷ more) old (low p w))) (sym is.0)
          (subst (λ o. Runs (Stays fr l) (then_with (write_spot c (At at) (slice_index l n) l w) (λ v. mean.all_homed (suc n) xs s)) o) (sym (next r (mid.Home fr.free offset) (piece.store c fr.free n ∷ more) old one (low p w) (low p w) (run_Home r fr.free offset old (low p w))))
          (then_runs (Same (slice_index l n) l one) (Stays fr l) _ _ (λ v. mean.all_homed (suc n) xs s) (run_all r more)
          (store_same r c fr.free n at (slice_index l n) p l one w le (put_same old fr.free (r.block + offset) ∙ ap (λ b. b + offset) like.block) (same n (omega (arith, nf)) ∙ h n (omega arith) (omega arith)))
          (λ v m new w p le q.
          subst (λ z. Runs (Stays fr l) (mean.all_homed (suc n) xs s z w) (run_all r more new (low p w))) (sym q.list)
          (subst (λ z. Runs (Stays fr l) (mean.all_homed (suc n) xs s l w) (run_all r more z (low p w))) (sym q.vars)
          (rest one w p le (agrees_on fr l old one good same g) (λ i a b. same i (omega (arith, b, nf)) ∙ h i (omega (arith, a)) (omega (arith, b)))))))))

-- and then the body
pub stays_acts : (fr : Frame) (gives : Bool) (y : Leads) (l : List ℕ) (a : tree.Out Flow) (o : Out) (f : Part Flow) (g : Vars → World → Out) → Runs (Stays fr l) a o
    → ((new : Vars) (w : World) (p : ℕ) → p ≤ w.peak → Agrees fr l new → Acts fr gives y (f l w) (g new (low p w))) → Acts fr gives y (then_with a (λ v. f)) (then_do o g)
stays_acts fr gives y l (Has x m w) o f g r h =
    let e = r.by in
    subst (λ z. Acts fr gives y (f m w) (then_do z g)) (sym e.is) (subst (λ z. Acts fr gives y (f z w) (g e.new (low e.peak w))) (sym e.good.list) (h e.new w e.peak e.less e.good.locals))
stays_acts fr gives y l (Ends q w) o f g r h = let e = r.by in subst (λ z. Acts fr gives y (Ends q w) (then_do z g)) (sym e.is) (record { by = halts q w e.peak e.less })

-- ---- first values

-- a list of no more numbers is 0 there
past : (xs : List ℕ) (i : ℕ) → length xs ≤ i → slice_index xs i ≡ 0
past [] i h = refl
past (x ∷ xs) zero h = absurd (omega (arith, h))
past (x ∷ xs) (suc i) h = past xs i (omega (arith, h))

pub parameters_length : (entry : Bool) (xs : List TLocal) (args : List ℕ) → length (parameters entry xs args) ≡ length xs
parameters_length entry [] args = refl
parameters_length entry (x ∷ xs) [] = ap suc (parameters_length entry xs [])
parameters_length entry (x ∷ xs) (a ∷ args) = ap suc (parameters_length entry xs args)

-- what the parameters of the middle form are
abbrev pub given_args : Bool → List ℕ → List ℕ → List ℕ
given_args entry kinds args = cond entry (all_narrowed kinds args) (take (length kinds) args)

narrowed_args : (xs : List TLocal) (args : List ℕ) (i : ℕ) → i < length xs → slice_index (all_narrowed (map (λ (x : TLocal). kind_of x.ctype) xs) args) i ≡ slice_index (parameters true xs args) i
narrowed_args [] args i h = absurd (omega (arith, h))
narrowed_args (x ∷ xs) [] zero h = refl
narrowed_args (x ∷ xs) [] (suc i) h = nothing xs i
  where
    nothing : (xs : List TLocal) (i : ℕ) → 0 ≡ slice_index (parameters true xs []) i
    nothing [] i = refl
    nothing (x ∷ xs) zero = refl
    nothing (x ∷ xs) (suc i) = nothing xs i
narrowed_args (x ∷ xs) (a ∷ args) zero h = kind_is (arithmetic x.ctype) a
narrowed_args (x ∷ xs) (a ∷ args) (suc i) h = narrowed_args xs args i (omega (arith, h))

taken_args : (xs : List TLocal) (args : List ℕ) (i : ℕ) → i < length xs → slice_index (take (length (map (λ (x : TLocal). kind_of x.ctype) xs)) args) i ≡ slice_index (parameters false xs args) i
taken_args [] args i h = absurd (omega (arith, h))
taken_args (x ∷ xs) [] zero h = refl
taken_args (x ∷ xs) [] (suc i) h = nothing xs i
  where
    nothing : (xs : List TLocal) (i : ℕ) → 0 ≡ slice_index (parameters false xs []) i
    nothing [] i = refl
    nothing (x ∷ xs) zero = refl
    nothing (x ∷ xs) (suc i) = nothing xs i
taken_args (x ∷ xs) (a ∷ args) zero h = refl
taken_args (x ∷ xs) (a ∷ args) (suc i) h = taken_args xs args i (omega (arith, h))

pub args_same : (entry : Bool) (xs : List TLocal) (args : List ℕ) (i : ℕ) → i < length xs → slice_index (given_args entry (map (λ (x : TLocal). kind_of x.ctype) xs) args) i ≡ slice_index (parameters entry xs args) i
args_same true xs args i h = narrowed_args xs args i h
args_same false xs args i h = taken_args xs args i h

narrowed_few : (kinds args : List ℕ) → length (all_narrowed kinds args) ≤ length kinds
narrowed_few [] args = omega arith
narrowed_few (k ∷ kinds) [] = omega arith
narrowed_few (k ∷ kinds) (a ∷ args) = let h = narrowed_few kinds args in omega (arith, h)

taken_few : (kinds args : List ℕ) → length (take (length kinds) args) ≤ length kinds
taken_few [] args = omega arith
taken_few (k ∷ kinds) [] = omega arith
taken_few (k ∷ kinds) (a ∷ args) = let h = taken_few kinds args in omega (arith, h)

args_few : (entry : Bool) (kinds args : List ℕ) → length (given_args entry kinds args) ≤ length kinds
args_few true kinds args = narrowed_few kinds args
args_few false kinds args = taken_few kinds args

kinds_many : (xs : List TLocal) → length (map (λ (x : TLocal). kind_of x.ctype) xs) ≡ length xs
kinds_many [] = refl
kinds_many (x ∷ xs) = ap suc (kinds_many xs)

zeros : (xs : List TLocal) (i : ℕ) → slice_index (map (λ (x : TLocal). 0) xs) i ≡ 0
zeros [] i = refl
zeros (x ∷ xs) zero = refl
zeros (x ∷ xs) (suc i) = zeros xs i

zeros_many : (xs : List TLocal) → length {A = ℕ} (map (λ (x : TLocal). 0) xs) ≡ length xs
zeros_many [] = refl
zeros_many (x ∷ xs) = ap suc (zeros_many xs)

in_front : (xs ys : List ℕ) (i : ℕ) → i < length xs → slice_index (xs ++ ys) i ≡ slice_index xs i
in_front [] ys i h = absurd (omega (arith, h))
in_front (x ∷ xs) ys zero h = refl
in_front (x ∷ xs) ys (suc i) h = in_front xs ys i (omega (arith, h))

behind : (xs : List ℕ) (ls : List TLocal) (i : ℕ) → length xs ≤ i → slice_index (xs ++ map (λ (x : TLocal). 0) ls) i ≡ 0
behind [] ls i h = zeros ls i
behind (x ∷ xs) ls zero h = absurd (omega (arith, h))
behind (x ∷ xs) ls (suc i) h = behind xs ls i (omega (arith, h))

-- the parameters of the middle form, in the first variables
abbrev pub first_vars : TFunction → List ℕ → Vars
first_vars f args = first (given_args f.entry (map (λ (x : TLocal). kind_of x.ctype) f.params) args)

pub params_agree : (f : TFunction) (args : List ℕ) (i : ℕ) → i < length f.params → first_vars f args i ≡ slice_index (first_values f args) i
params_agree f args i h =
    args_same f.entry f.params args i h ∙ sym (in_front (parameters f.entry f.params args) (map (λ (x : TLocal). 0) f.locals) i (let q = parameters_length f.entry f.params args in omega (arith, h, q)))

pub first_agrees : (globals : List ℕ) (f : TFunction) (args : List ℕ) → Agrees (frame_of globals f) (first_values f args) (first_vars f args)
first_agrees globals f args = record {
  many = length-append (parameters f.entry f.params args) (map (λ (x : TLocal). 0) f.locals) ∙ (let a = parameters_length f.entry f.params args in let b = zeros_many f.locals in let c = homes_many globals f in omega (arith, a, b, c));
  at = λ i v e. by i v (param_variable (length f.params) 0 (block_of f).offsets i v e);
}
  where
    by : (i v : ℕ) → ((i < length f.params) × (v ≡ 0 + i)) ⊎ ((length f.params ≤ i) × (0 + length f.params ≤ v)) → first_vars f args v ≡ slice_index (first_values f args) i
    by i v (inl h) = let a = h.0 in let b = h.1 in let c : v ≡ i = omega (arith, b) in ap (first_vars f args) c ∙ params_agree f args i a
    by i v (inr h) =
        let a = h.0 in
        let b = h.1 in
        let few = args_few f.entry (map (λ (x : TLocal). kind_of x.ctype) f.params) args in
        let many = kinds_many f.params in
        let q = parameters_length f.entry f.params args in
        past (given_args f.entry (map (λ (x : TLocal). kind_of x.ctype) f.params) args) v (omega (arith, b, few, many)) ∙ sym (behind (parameters f.entry f.params args) f.locals i (omega (arith, a, q)))
