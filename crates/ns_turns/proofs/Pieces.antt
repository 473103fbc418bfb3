-- Runs piece by piece: laws of RunsTo and RunsToStop.
use Rattle.std.proofs.Common.{◌≡◌, ℕ, suc, ◌+◌, List, [], ◌∷◌, ◌++◌, length, refl, ap, ◌∙◌, arith}
use Rattle.cm_base.specs.declared.stop.Stop.{Stop}
use Rattle.v8m_isa.specs.declared.instr.Instr.{Instr}
use Rattle.ns_types.specs.declared.event.Event.{Event}
use Rattle.ns_types.specs.declared.event.Event.TheVariants as event
use Rattle.ns_types.specs.declared.event.End.TheVariants as end
use Rattle.ns_types.specs.declared.event.Events.{Events}
use Rattle.ns_types.specs.declared.state.Side.TheVariants.{Secure, NonSecure}
use Rattle.ns_types.specs.Turns.{Turn}
use Rattle.ns_types.specs.State.{Device, State}
use Rattle.v8m_core.specs.Step.{Done, stopped, step_of, turn_of}
use Rattle.v8m_core.specs.Code.{HasCode, Comes, Does}
use Rattle.v8m_core.proofs.Runs.{straight}
use Rattle.ns_turns.specs.Run.{event_of, after, run_of}
use Rattle.ns_turns.specs.Advance.{behind}
use Rattle.ns_turns.specs.Runs.{RunsIn, RunsTo, RunsToStop}
use Rattle.ns_turns.proofs.Runs.{behind_more}
use Rattle.ns_turns.proofs.RunLaws.{run_step, run_turn, run_comes, run_is_over}

-- by the number of steps

pub none_in : (device : Device) (ts : List Turn) (s : State) → RunsIn device 0 ts s [] ts s
none_in device ts s n = let e : 0 + n ≡ n = omega arith in ap (λ m. run_of device m ts s) e

pub append_in : (device : Device) (k m : ℕ) (ts us vs : List Turn) (s t u : State) (es fs : List Event) → RunsIn device k ts s es us t → RunsIn device m us t fs vs u → RunsIn device (k + m) ts s (es ++ fs) vs u
append_in device k m ts us vs s t u es fs a b n =
    let e : k + m + n ≡ k + (m + n) = omega arith in
    ap (λ i. run_of device i ts s) e ∙ a (m + n) ∙ ap (behind es) (b n) ∙ behind_more es fs (run_of device n vs u)

pub step_in : (device : Device) (ts : List Turn) (s : State) (d : Done) → s.cpu.side ≡ Secure → step_of device s ≡ d → RunsIn device 1 ts s (event_of d.what) ts d.state
step_in device ts s d side e n =
    let one : 1 + n ≡ suc n = omega arith in ap (λ m. run_of device m ts s) one ∙ run_step device n ts s d side e

pub turn_in : (device : Device) (t : Turn) (ts : List Turn) (s : State) (d : Done) → s.cpu.side ≡ NonSecure → turn_of device t s ≡ d → RunsIn device 1 (t ∷ ts) s (event_of d.what) ts d.state
turn_in device t ts s d side e n =
    let one : 1 + n ≡ suc n = omega arith in
    ap (λ m. run_of device m (t ∷ ts) s) one ∙ run_turn device n t ts s d side e

pub goes_in : (device : Device) (k : ℕ) (ts : List Turn) (s t : State) → s.cpu.side ≡ Secure → Comes device k s t → RunsIn device k ts s [] ts t
goes_in device k ts s t side c n = run_comes device k n ts s t side c

-- the events es, then a stop, and no more
abbrev pub stopping : List Event → Stop → Events
stopping es x = record { list = es ++ event.Stopped x ∷ []; end = end.Stopped }

pub append_stop_in : (device : Device) (k m : ℕ) (ts us : List Turn) (s t : State) (es fs : List Event) (x : Stop) → RunsIn device k ts s es us t → ((n : ℕ) → run_of device (m + n) us t ≡ stopping fs x) → (n : ℕ) → run_of device (k + m + n) ts s ≡ stopping (es ++ fs) x
append_stop_in device k m ts us s t es fs x a b n =
    let e : k + m + n ≡ k + (m + n) = omega arith in
    ap (λ i. run_of device i ts s) e ∙ a (m + n) ∙ ap (behind es) (b n) ∙ behind_more es fs (stopping [] x)

over : (device : Device) (n : ℕ) (ts : List Turn) (x : Stop) (s : State) → after (stopped x s) (run_of device n ts (stopped x s).state) ≡ stopping [] x
over device n ts x s = ap (after (stopped x s)) (run_is_over device n ts (stopped x s).state x refl)

pub step_stops_in : (device : Device) (ts : List Turn) (s t : State) (x : Stop) → s.cpu.side ≡ Secure → step_of device s ≡ stopped x t → (n : ℕ) → run_of device (1 + n) ts s ≡ stopping [] x
step_stops_in device ts s t x side e n = step_in device ts s (stopped x t) side e n ∙ over device n ts x t

pub turn_stops_in : (device : Device) (u : Turn) (ts : List Turn) (s t : State) (x : Stop) → s.cpu.side ≡ NonSecure → turn_of device u s ≡ stopped x t → (n : ℕ) → run_of device (1 + n) (u ∷ ts) s ≡ stopping [] x
turn_stops_in device u ts s t x side e n = turn_in device u ts s (stopped x t) side e n ∙ over device n ts x t

-- The same with the number as a field, which computes.

abbrev pub none : (device : Device) (ts : List Turn) (s : State) → RunsTo device ts s [] ts s
none device ts s = record { steps = 0; by = none_in device ts s }

abbrev pub append : (device : Device) (ts us vs : List Turn) (s t u : State) (es fs : List Event) → RunsTo device ts s es us t → RunsTo device us t fs vs u → RunsTo device ts s (es ++ fs) vs u
append device ts us vs s t u es fs a b = record { steps = a.steps + b.steps; by = append_in device a.steps b.steps ts us vs s t u es fs a.by b.by }

abbrev pub append_stop : (device : Device) (ts us : List Turn) (s t : State) (es fs : List Event) (x : Stop) → RunsTo device ts s es us t → RunsToStop device us t fs x → RunsToStop device ts s (es ++ fs) x
append_stop device ts us s t es fs x a b = record { steps = a.steps + b.steps; by = append_stop_in device a.steps b.steps ts us s t es fs x a.by b.by }

abbrev pub step : (device : Device) (ts : List Turn) (s : State) (d : Done) → s.cpu.side ≡ Secure → step_of device s ≡ d → RunsTo device ts s (event_of d.what) ts d.state
step device ts s d side e = record { steps = 1; by = step_in device ts s d side e }

abbrev pub step_stops : (device : Device) (ts : List Turn) (s t : State) (x : Stop) → s.cpu.side ≡ Secure → step_of device s ≡ stopped x t → RunsToStop device ts s [] x
step_stops device ts s t x side e = record { steps = 1; by = step_stops_in device ts s t x side e }

abbrev pub turn : (device : Device) (t : Turn) (ts : List Turn) (s : State) (d : Done) → s.cpu.side ≡ NonSecure → turn_of device t s ≡ d → RunsTo device (t ∷ ts) s (event_of d.what) ts d.state
turn device t ts s d side e = record { steps = 1; by = turn_in device t ts s d side e }

abbrev pub turn_stops : (device : Device) (u : Turn) (ts : List Turn) (s t : State) (x : Stop) → s.cpu.side ≡ NonSecure → turn_of device u s ≡ stopped x t → RunsToStop device (u ∷ ts) s [] x
turn_stops device u ts s t x side e = record { steps = 1; by = turn_stops_in device u ts s t x side e }

abbrev pub goes : (device : Device) (k : ℕ) (ts : List Turn) (s t : State) → s.cpu.side ≡ Secure → Comes device k s t → RunsTo device ts s [] ts t
goes device k ts s t side c = record { steps = k; by = goes_in device k ts s t side c }

abbrev pub code : (device : Device) (is : List Instr) (ts : List Turn) (s t : State) → s.cpu.side ≡ Secure → HasCode device s.cpu.pc is → Does device is s t → RunsTo device ts s [] ts t
code device is ts s t side has does = goes device (length is) ts s t side (straight device is s t has does)
