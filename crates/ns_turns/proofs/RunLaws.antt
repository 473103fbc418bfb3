-- Laws of runs: how a run goes on, that more steps only add events, and that a run that is over stays so.
use Rattle.std.proofs.Common.{◌≡◌, ◌≢◌, ℕ, zero, suc, ◌+◌, ◌≤◌, List, [], ◌∷◌, ◌++◌, refl, sym, ap, ◌∙◌, subst, ⊎_elim, arith, append_assoc}
use Rattle.std.proofs.lemmas.Bool.{cases_lt}
use Rattle.cm_base.specs.declared.stop.Stop.{Stop}
use Rattle.ns_types.specs.declared.event.Event.{Event}
use Rattle.ns_types.specs.declared.event.End.TheVariants as end
use Rattle.ns_types.specs.declared.event.Events.{Events}
use Rattle.ns_types.specs.declared.state.Side.{Side}
use Rattle.ns_types.specs.declared.state.Side.TheVariants.{Secure, NonSecure, Stopped}
use Rattle.ns_types.specs.Turns.{Turn}
use Rattle.ns_types.specs.State.{Device, State}
use Rattle.v8m_core.specs.Step.{Done, went, step_of, turn_of}
use Rattle.v8m_core.specs.Code.{Comes}
use Rattle.v8m_core.proofs.Runs.{stays}
use Rattle.ns_turns.specs.Run.{event_of, ends, after, next_of, run_of}
use Rattle.ns_types.specs.Prefix.{IsFront}
use Rattle.ns_turns.specs.GoesOn.{GoesOn}

-- one step in Secure state
pub run_step : (device : Device) (n : ℕ) (ts : List Turn) (s : State) (d : Done) → s.cpu.side ≡ Secure → step_of device s ≡ d → run_of device (suc n) ts s ≡ after d (run_of device n ts d.state)
unfolding run_of
run_step device n ts s d side e =
    ap (λ x. next_of ends (λ t rest. after (turn_of device t s) (run_of device n rest (turn_of device t s).state)) (after (step_of device s) (run_of device n ts (step_of device s).state)) x ts) side
    ∙ ap (λ (x : Done). after x (run_of device n ts x.state)) e

-- one turn in Non-secure state
pub run_turn : (device : Device) (n : ℕ) (t : Turn) (ts : List Turn) (s : State) (d : Done) → s.cpu.side ≡ NonSecure → turn_of device t s ≡ d → run_of device (suc n) (t ∷ ts) s ≡ after d (run_of device n ts d.state)
unfolding run_of
run_turn device n t ts s d side e =
    ap (λ x. next_of ends (λ t rest. after (turn_of device t s) (run_of device n rest (turn_of device t s).state)) (after (step_of device s) (run_of device n (t ∷ ts) (step_of device s).state)) x (t ∷ ts)) side
    ∙ ap (λ (x : Done). after x (run_of device n ts x.state)) e

-- Non-secure state with no turn left
pub run_waits : (device : Device) (n : ℕ) (s : State) → s.cpu.side ≡ NonSecure → run_of device n [] s ≡ ends end.Waiting
unfolding run_of
run_waits device zero s side = ap (λ x. next_of ends (λ t rest. ends end.Spent) (ends end.Spent) x []) side
run_waits device (suc n) s side =
    ap (λ x. next_of ends (λ t rest. after (turn_of device t s) (run_of device n rest (turn_of device t s).state)) (after (step_of device s) (run_of device n [] (step_of device s).state)) x []) side

-- a machine that is stopped
pub run_is_over : (device : Device) (n : ℕ) (ts : List Turn) (s : State) (x : Stop) → s.cpu.side ≡ Stopped x → run_of device n ts s ≡ ends end.Stopped
unfolding run_of
run_is_over device zero ts s x side = ap (λ y. next_of ends (λ t rest. ends end.Spent) (ends end.Spent) y ts) side
run_is_over device (suc n) ts s x side =
    ap (λ y. next_of ends (λ t rest. after (turn_of device t s) (run_of device n rest (turn_of device t s).state)) (after (step_of device s) (run_of device n ts (step_of device s).state)) y ts) side

-- steps that only go on add no event
pub run_comes : (device : Device) (k n : ℕ) (ts : List Turn) (s t : State) → s.cpu.side ≡ Secure → Comes device k s t → run_of device (k + n) ts s ≡ run_of device n ts t
run_comes device zero n ts s t side c = let e : 0 + n ≡ n = omega arith in ap (λ m. run_of device m ts s) e ∙ ap (run_of device n ts) c
run_comes device (suc k) n ts s t side c =
    let e : suc k + n ≡ suc (k + n) = omega arith in
    ap (λ m. run_of device m ts s) e ∙ run_step device (k + n) ts s (went c.0) side c.1 ∙ run_comes device k n ts c.0 t (stays device s c.0 side c.1) c.2

pub comes_secure : (device : Device) (k : ℕ) (s t : State) → s.cpu.side ≡ Secure → Comes device k s t → t.cpu.side ≡ Secure
comes_secure device zero s t side c = ap (λ (x : State). x.cpu.side) (sym c) ∙ side
comes_secure device (suc k) s t side c = comes_secure device k c.0 t (stays device s c.0 side c.1) c.2

same_goes : (a : Events) → GoesOn a a
same_goes a = record { front = ([], append_nil a.list); over = λ ne. refl }
  where
    append_nil : (xs : List Event) → xs ++ [] ≡ xs
    append_nil [] = refl
    append_nil (x ∷ xs) = ap (λ l. x ∷ l) (append_nil xs)

spent_goes : (b : Events) → GoesOn (ends end.Spent) b
spent_goes b = record { front = (b.list, refl); over = λ ne. absurd (ne refl) }

after_goes : (d : Done) (a b : Events) → GoesOn a b → GoesOn (after d a) (after d b)
after_goes d a b g = record {
  front = (g.front.0, append_assoc (event_of d.what) a.list g.front.0 ∙ ap (λ l. event_of d.what ++ l) g.front.1);
  over = λ ne. ap (after d) (g.over ne);
}

next_goes : (p q : Turn → List Turn → Events) (x y : Events) (side : Side) (ts : List Turn) → ((t : Turn) (rest : List Turn) → GoesOn (p t rest) (q t rest)) → GoesOn x y → GoesOn (next_of ends p x side ts) (next_of ends q y side ts)
next_goes p q x y (Stopped z) ts hp hx = same_goes _
next_goes p q x y NonSecure [] hp hx = same_goes _
next_goes p q x y NonSecure (t ∷ ts) hp hx = hp t ts
next_goes p q x y Secure ts hp hx = hx

pub run_goes : (device : Device) (n m : ℕ) (ts : List Turn) (s : State) → n ≤ m → GoesOn (run_of device n ts s) (run_of device m ts s)
unfolding run_of
run_goes device zero zero ts s le = next_goes _ _ _ _ s.cpu.side ts (λ t rest. same_goes _) (same_goes _)
run_goes device zero (suc m) ts s le = next_goes _ _ _ _ s.cpu.side ts (λ t rest. spent_goes _) (spent_goes _)
run_goes device (suc n) zero ts s le = absurd (omega arith)
run_goes device (suc n) (suc m) ts s le =
    next_goes _ _ _ _ s.cpu.side ts
    (λ t rest. after_goes (turn_of device t s) _ _ (run_goes device n m rest (turn_of device t s).state (omega arith)))
    (after_goes (step_of device s) _ _ (run_goes device n m ts (step_of device s).state (omega arith)))

-- A whole run that ends says what each number of steps gives.
pub fronts : (device : Device) (n k : ℕ) (ts : List Turn) (s : State) (all : Events) → run_of device k ts s ≡ all → all.end ≢ end.Spent → IsFront (run_of device n ts s).list all.list
fronts device n k ts s all e ne =
    ⊎_elim
    (λ below. subst (λ (x : Events). IsFront (run_of device n ts s).list x.list) e (run_goes device n k ts s (omega arith)).front)
    (λ above. ([], let same : run_of device n ts s ≡ all = (run_goes device k n ts s above).over (λ z. ne (sym (ap (λ (x : Events). x.end) e) ∙ z)) ∙ e in append_nil (run_of device n ts s).list ∙ ap (λ (x : Events). x.list) same))
    (cases_lt n k)
  where
    append_nil : (xs : List Event) → xs ++ [] ≡ xs
    append_nil [] = refl
    append_nil (x ∷ xs) = ap (λ l. x ∷ l) (append_nil xs)

-- Secure state with no step left
pub run_spent : (device : Device) (ts : List Turn) (s : State) → s.cpu.side ≡ Secure → run_of device zero ts s ≡ ends end.Spent
unfolding run_of
run_spent device ts s side = ap (λ x. next_of ends (λ t rest. ends end.Spent) (ends end.Spent) x ts) side
