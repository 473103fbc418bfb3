-- How the parts of a program end, and how one part follows another.
use Rattle.std.specs.Prelude.{ℕ, zero, suc, List, [], ◌∷◌, Result, Ok, Err}
use Rattle.cm_base.specs.declared.stop.Stop.{Stop}
use Rattle.ns_types.specs.declared.event.CEvent.TheVariants as c
use Rattle.ns_types.specs.declared.event.End.{End}
use Rattle.ns_types.specs.declared.event.End.TheVariants as end
use Rattle.ns_types.specs.CRun.{World, Outcome, Gave, Over, emit_plain}
use Rattle.c_mean.specs.declared.flow.Flow.{Flow}
use Rattle.c_mean.specs.declared.flow.Flow.TheVariants as flow

-- A part gives something, with the locals and the world that it leaves, or the run is over.
pub data Out (A : Type 0) : Type 0 where
  Has : A → List ℕ → World → Out A
  Ends : End → World → Out A

-- what a part makes of the locals and the world
abbrev pub Part : Type 0 → Type 0
Part A = List ℕ → World → Out A

abbrev pub then_with : {A B : Type 0} → Out A → (A → Part B) → Out B
then_with (Has x l w) f = f x l w
then_with (Ends e w) f = Ends e w

abbrev pub halt : {A : Type 0} → Stop → World → Out A
halt x w = Ends end.Stopped (emit_plain (c.Stopped x) w)

-- what an operation answers, or its stop
abbrev pub or_halt : {A : Type 0} → Result A Stop → Part A
or_halt (Ok x) l w = Has x l w
or_halt (Err s) l w = halt s w

-- a call gives its result, and leaves the caller's locals as they are
abbrev pub called : Outcome → List ℕ → Out ℕ
called (Gave x w) l = Has x l w
called (Over e w) l = Ends e w

-- what a function's body gives: 0 where control reaches its end
abbrev pub result_of : Flow → ℕ
result_of (flow.Return x) = x
result_of flow.Next = 0
result_of flow.Break = 0
result_of flow.Continue = 0

abbrev pub closing : Out Flow → Outcome
closing (Has f l w) = Gave (result_of f) w
closing (Ends e w) = Over e w

-- one part where a word isn't 0, and another where it is
abbrev pub chosen : {A : Type 0} → ℕ → A → A → A
chosen zero on off = off
chosen (suc n) on off = on

-- after a statement of a block: the next ones are done where it went on
abbrev pub and_next : Flow → Part Flow → Part Flow
and_next flow.Next next l w = next l w
and_next flow.Break next l w = Has flow.Break l w
and_next flow.Continue next l w = Has flow.Continue l w
and_next (flow.Return x) next l w = Has (flow.Return x) l w

abbrev pub in_order : List (Part Flow) → Part Flow
in_order [] l w = Has flow.Next l w
in_order (p ∷ ps) l w = then_with (p l w) (λ f m u. and_next f (in_order ps) m u)

-- after the body of a loop: what stands behind it is done after `continue` too (C11 6.8.6.2)
abbrev pub after_body : Flow → Part Flow → Part Flow
after_body flow.Next next l w = next l w
after_body flow.Continue next l w = next l w
after_body flow.Break next l w = Has flow.Break l w
after_body (flow.Return x) next l w = Has (flow.Return x) l w

-- after a turn of a loop: `break` leaves the loop (C11 6.8.6.3)
abbrev pub after_turn : Flow → Part Flow → Part Flow
after_turn flow.Next again l w = again l w
after_turn flow.Continue again l w = again l w
after_turn flow.Break again l w = Has flow.Next l w
after_turn (flow.Return x) again l w = Has (flow.Return x) l w

-- a loop of at most n turns
abbrev pub loop : Part Flow → ℕ → Part Flow
loop turn zero l w = Ends end.Spent w
loop turn (suc n) l w = then_with (turn l w) (λ f m u. after_turn f (loop turn n) m u)

-- after the parts of a switch, which `break` leaves
abbrev pub after_switch : Flow → Part Flow
after_switch flow.Next l w = Has flow.Next l w
after_switch flow.Break l w = Has flow.Next l w
after_switch flow.Continue l w = Has flow.Continue l w
after_switch (flow.Return x) l w = Has (flow.Return x) l w
