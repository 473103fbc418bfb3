-- What the loop over the steps of a run keeps.
use Rattle.std.proofs.Common.{◌≡◌, ℕ, suc, ◌+◌, ◌-◌, ◌<◌, List, [], ◌∷◌, ◌++◌, length, refl, sym, ap, ◌∙◌, arith, append_assoc, Result}
use Rattle.std.proofs.lemmas.List.{append-nil}
use Rattle.ns_types.specs.declared.event.Event.{Event}
use Rattle.ns_types.specs.declared.event.End.{End}
use Rattle.ns_types.specs.declared.event.End.TheVariants as end
use Rattle.ns_types.specs.declared.event.Events.{Events}
use Rattle.ns_types.specs.declared.state.Side.TheVariants.{NonSecure}
use Rattle.ns_types.specs.Turns.{Turn}
use Rattle.ns_types.specs.State.{Device, State}
use Rattle.v8m_core.specs.declared.stepped.Stepped.{Stepped}
use Rattle.v8m_core.specs.Step.{Done, turn_of}
use Rattle.ns_turns.specs.Run.{after, ends, run_of}
use Rattle.ns_turns.specs.Advance.{Advances, behind, then_rest}
use Rattle.ns_turns.specs.Runs.{RunsIn}
use Rattle.ns_turns.proofs.RunLaws.{run_turn, run_waits}

-- where the turns that are left are given by an equation

pub without_turns : (device : Device) (n : ℕ) (ts : List Turn) (s : State) → s.cpu.side ≡ NonSecure → ts ≡ [] → run_of device (suc n) ts s ≡ ends end.Waiting
without_turns device n ts s side none = ap (λ us. run_of device (suc n) us s) none ∙ run_waits device (suc n) s side

pub with_turn : (device : Device) (n : ℕ) (ts rest : List Turn) (t : Turn) (s : State) (d : Done) → s.cpu.side ≡ NonSecure → ts ≡ t ∷ rest → turn_of device t s ≡ d → run_of device (suc n) ts s ≡ after d (run_of device n rest d.state)
with_turn device n ts rest t s d side more turn = ap (λ us. run_of device (suc n) us s) more ∙ run_turn device n t rest s d side turn

pub spent_turn : (device : Device) (ts : List Turn) (s : State) → s.cpu.side ≡ NonSecure → 0 < length ts → ends end.Spent ≡ run_of device 0 ts s
unfolding run_of
spent_turn device [] s e lt = absurd (omega arith)
spent_turn device (t ∷ ts) s e lt = rw e refl

-- a run that ends before a step
pub behind_end : (list : List Event) (e : End) → record { list = list; end = e } ≡ behind list (ends e)
behind_end list e = ap (λ l. record { list = l; end = e }) (sym (append-nil list))

-- a run that goes on behind events: k steps that make none, and one step more
pub run_more : (device device' device2 : Device) (left k : ℕ) (ts ts' : List Turn) (s t s' : State) (list : List Event) (r : Result Stepped End) (whole : Events) → k < left → device' ≡ device → device2 ≡ device' → whole ≡ behind list (run_of device left ts s) → RunsIn device' k ts s [] ts t → Advances device2 ts t r ts' s' → whole ≡ behind list (then_rest r (run_of device (left - k - 1) ts' s'))
run_more device device' device2 left k ts ts' s t s' list r whole lt same same2 so_far on step =
    let m = left - k - 1 in
    let count : left ≡ k + suc m = omega arith in
    so_far
    ∙ ap (λ i. behind list (run_of device i ts s)) count
    ∙ ap (λ x. behind list (run_of x (k + suc m) ts s)) (sym same)
    ∙ ap (behind list) (on (suc m))
    ∙ ap (λ x. behind list (run_of x (suc m) ts t)) (sym same2)
    ∙ ap (behind list) (step m)
    ∙ ap (λ x. behind list (then_rest r (run_of x m ts' s'))) (same2 ∙ same)

-- events of one step more
pub behind_more : (list : List Event) (more : List Event) (rest : Events) → behind list (behind more rest) ≡ behind (list ++ more) rest
behind_more list more rest = ap (λ l. record { list = l; end = rest.end }) (sym (append_assoc list more rest.list))
