-- Runs of code with branches ahead.
use Rattle.std.proofs.Common.{◌≡◌, ℕ, zero, suc, ◌+◌, ◌<◌, Bool, true, false, cond, List, [], ◌∷◌, ◌++◌, length, take, drop, refl, sym, ap, ◌∙◌, subst, arith}
use Rattle.std.proofs.lemmas.Bool.Decides.{nat_tests}
use Rattle.cm_base.specs.declared.regions.TheConstants.{NSC}
use Rattle.v8m_isa.specs.declared.instr.Instr.{Instr}
use Rattle.v8m_isa.specs.declared.instr.Instr.TheVariants.{Bc, Udf}
use Rattle.v8m_isa.specs.Table.{size_of}
use Rattle.ns_types.specs.State.{Device, State}
use Rattle.ns_types.specs.Platform.{is_in_rom}
use Rattle.ns_types.specs.Operators.{add}
use Rattle.v8m_core.specs.declared.effect.Effect.TheVariants as effect
use Rattle.v8m_core.specs.Values.{condition_holds}
use Rattle.v8m_core.specs.Effects.{udf_stop}
use Rattle.v8m_core.specs.Step.{Done, went, stopped, pass, effect_of, apply, act}
use Rattle.v8m_core.specs.Code.{Holds, HasCode, past, Comes}
use Rattle.v8m_core.proofs.Runs.{does}
use Rattle.v8m_laws.specs.Path.{Goes, Path, left_of, Leads}

-- where the rest of a piece of code stands
rest_of : (device : Device) (k pc : ℕ) (is : List Instr) → HasCode device pc is → HasCode device (past pc (take k is)) (drop k is)
rest_of device zero pc is h = h
rest_of device (suc k) pc [] h = h
rest_of device (suc k) pc (i ∷ is) h = rest_of device k (pc + size_of i) is h.1

-- a path is steps, and the code behind it stands where it ends
pub record Went (device : Device) (n : ℕ) (is : List Instr) (s t : State) : Type 0 where
  pub comes : Comes device n s t
  pub rest : HasCode device t.cpu.pc is

pub goes : (device : Device) (ks : List ℕ) (is : List Instr) (s t : State) → HasCode device s.cpu.pc is → Goes device ks is s t → Went device (length ks) (left_of ks is) s t
goes device [] is s t has g = record { comes = g; rest = subst (λ (x : State). HasCode device x.cpu.pc is) g has }
goes device (k ∷ ks) [] s t has g = absurd g
goes device (k ∷ ks) (i ∷ is) s t has g =
    let w = goes device ks (drop k is) g.0 t (subst (λ p. HasCode device p (drop k is)) (sym g.2) (rest_of device k (s.cpu.pc + size_of i) is has.1)) g.3 in
    record { comes = (g.0, does device s i has.0 ∙ g.1, w.comes); rest = w.rest }

-- one path after another
on : (device : Device) (ks ls : List ℕ) (is : List Instr) (s t u : State) → Goes device ks is s t → Goes device ls (left_of ks is) t u → Goes device (ks ++ ls) is s u
on device [] ls is s t u a b = subst (λ x. Goes device ls is x u) (sym a) b
on device (k ∷ ks) ls [] s t u a b = absurd a
on device (k ∷ ks) ls (i ∷ is) s t u a b = (a.0, a.1, a.2, on device ks ls (drop k is) a.0 t u a.3 b)

pub path_on : (device : Device) (ks ls : List ℕ) (is rest : List Instr) (s t u : State) → left_of ks is ≡ rest → Path device ks is s t → Path device ls rest t u → Path device (ks ++ ls) is s u
path_on device ks ls is rest s t u e a b = record { by = on device ks ls is s t u a.by (subst (λ c. Goes device ls c t u) (sym e) b.by) }

-- a path, and the step of the instruction at its end
pub path_leads : (device : Device) (ks : List ℕ) (code rest : List Instr) (i : Instr) (s t : State) (d : Done) → left_of ks code ≡ i ∷ rest → Path device ks code s t → HasCode device s.cpu.pc code → act device i (size_of i) t ≡ d → Leads device s d
path_leads device ks code rest i s t d e path has step =
    let w = goes device ks code s t has path.by in
    let here : HasCode device t.cpu.pc (i ∷ rest) = subst (λ c. HasCode device t.cpu.pc c) e w.rest in
    record { n = length ks; last = t; on = w.comes; step = does device t i here.0 ∙ step }

-- a path to a UDF
udf : (device : Device) (i : ℕ) (s : State) → act device (Udf i) (size_of (Udf i)) s ≡ stopped (udf_stop i) s
unfolding effect_of apply
udf device i s = refl

pub path_stops : (device : Device) (ks : List ℕ) (code rest : List Instr) (i : ℕ) (s t : State) → left_of ks code ≡ Udf i ∷ rest → Path device ks code s t → HasCode device s.cpu.pc code → Leads device s (stopped (udf_stop i) t)
path_stops device ks code rest i s t e path has = path_leads device ks code rest (Udf i) s t _ e path has (udf device i t)

-- at least one step that goes on
pub comes_leads : (device : Device) (n : ℕ) (s t : State) → Comes device (suc n) s t → Leads device s (went t)
comes_leads device zero s t c = record { n = 0; last = s; on = refl; step = c.1 ∙ ap went c.2 }
comes_leads device (suc n) s t c =
    let l = comes_leads device n c.0 t c.2 in
    record { n = suc l.n; last = l.last; on = (c.0, c.1, l.on); step = l.step }

-- steps that only go on may stand in front
pub leads_on : (device : Device) (n : ℕ) (s t : State) (d : Done) → Comes device n s t → Leads device t d → Leads device s d
leads_on device zero s t d c l = subst (λ x. Leads device x d) (sym c) l
leads_on device (suc n) s t d c l =
    let r = leads_on device n c.0 t d c.2 l in
    record { n = suc r.n; last = r.last; on = (c.0, c.1, r.on); step = r.step }

-- a branch under a condition
pub jumps : (device : Device) (c off : ℕ) (s : State) → condition_holds c s.cpu.nzcvq ≡ true → act device (Bc c off) 4 s ≡ went (record s { cpu = record s.cpu { pc = add (s.cpu.pc + 4) off } })
unfolding effect_of apply
jumps device c off s h = ap (λ b. apply device (cond b (effect.Jump (add (s.cpu.pc + 4) off)) effect.Pass) 4 s) h

pub passes : (device : Device) (c off : ℕ) (s : State) → condition_holds c s.cpu.nzcvq ≡ false → act device (Bc c off) 4 s ≡ went (pass 4 s)
unfolding effect_of apply
passes device c off s h = ap (λ b. apply device (cond b (effect.Jump (add (s.cpu.pc + 4) off)) effect.Pass) 4 s) h

-- a branch ahead doesn't wrap, since code stands low in memory
pub is_low : (device : Device) (pc : ℕ) (i : Instr) → Holds device pc i → pc < NSC.to
is_low device pc i h = let place : is_in_rom pc ≡ true = h.place in grind (arith, nat_tests)

pub ahead : (p off : ℕ) → p < 4000000000 → off < 1000000 → add p off ≡ p + off
ahead p off lt small = omega arith
