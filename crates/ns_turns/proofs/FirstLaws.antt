-- The state at the first hand-over, where straight code leads from reset to it.
use Rattle.std.proofs.Common.{◌≡◌, ℕ, zero, suc, ◌+◌, ◌-◌, ◌≤◌, List, [], ◌++◌, refl, ap, sym, ◌∙◌, subst, ⊎_elim, arith, Some}
use Rattle.std.proofs.lemmas.Bool.{cases_lt}
use Rattle.ns_types.specs.declared.state.Side.TheVariants.{Secure}
use Rattle.ns_types.specs.Turns.{Turn}
use Rattle.ns_types.specs.State.{Device, State}
use Rattle.v8m_core.specs.Step.{Done}
use Rattle.v8m_core.specs.Code.{Comes}
use Rattle.v8m_core.specs.Reset.{reset_of}
use Rattle.v8m_core.proofs.Runs.{stays}
use Rattle.ns_turns.specs.Moments.{moments_of, moments, given_state}
use Rattle.ns_turns.specs.FirstHandOver.{IsSealed, BeginsSealed, AlwaysHandsOverSealed}
use Rattle.ns_turns.proofs.RunLaws.{comes_secure}
use Rattle.ns_turns.proofs.RamLaws.{moments_step, no_moment}

-- steps that only go on have no moment
moments_on : (device : Device) (k n : ℕ) (ts : List Turn) (s t : State) → s.cpu.side ≡ Secure → Comes device k s t → moments device (k + n) ts s ≡ moments device n ts t
moments_on device zero n ts s t side c =
    let e : 0 + n ≡ n = omega arith in ap (λ m. moments device m ts s) e ∙ ap (moments device n ts) c
moments_on device (suc k) n ts s t side c =
    let e : suc k + n ≡ suc (k + n) = omega arith in
    ap (λ m. moments device m ts s) e
    ∙ moments_step device (k + n) ts s side
    ∙ ap (λ (d : Done). moments_of d ++ moments device (k + n) ts d.state) c.1
    ∙ moments_on device k n ts c.0 t (stays device s c.0 side c.1) c.2

moments_within : (device : Device) (k n : ℕ) (ts : List Turn) (s t : State) → n ≤ k → s.cpu.side ≡ Secure → Comes device k s t → moments device n ts s ≡ []
moments_within device k zero ts s t le side c = no_moment device ts s
moments_within device zero (suc n) ts s t le side c = absurd (omega arith)
moments_within device (suc k) (suc n) ts s t le side c =
    moments_step device n ts s side
    ∙ ap (λ (d : Done). moments_of d ++ moments device n ts d.state) c.1
    ∙ moments_within device k n ts c.0 t (omega arith) (stays device s c.0 side c.1) c.2

pub begins_sealed : (device : Device) → AlwaysHandsOverSealed device → BeginsSealed device
begins_sealed device starts start whole outside ts n s e =
    let h = starts start whole outside in
    let first = reset_of device start in
    let secure = comes_secure device h.steps first h.last refl h.comes in
    ⊎_elim
    (λ above.
    let m = n - h.steps - 1 in
    let count : n ≡ h.steps + suc m = omega arith in
    let all = ap (λ i. moments device i ts first) count ∙ moments_on device h.steps (suc m) ts first h.last refl h.comes ∙ moments_step device m ts h.last secure ∙ ap (λ (d : Done). moments_of d ++ moments device m ts d.state) h.hands in
    let is : Some h.handed ≡ Some s = sym (ap (λ l. given_state l 0) all) ∙ e in
    let same : h.handed ≡ s = cc in
    subst IsSealed same h.sealed)
    (λ below. absurd (let none = sym (ap (λ l. given_state l 0) (moments_within device h.steps n ts first h.last below refl h.comes)) ∙ e in cc))
    (cases_lt h.steps n)
