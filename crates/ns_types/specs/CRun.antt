-- A run of the program behind the boundary, for any meaning of entry bodies: what the Non-secure turns and the program
-- do in turn. A meaning gives enter, which runs the body of an entry; it may itself go on with a phase of turns.
use Rattle.std.specs.Prelude.{ℕ, zero, suc, ◌*◌, max, cond, ltb, List, [], ◌∷◌, ◌++◌, take, length, slice_index, Option, Some, None}
use Rattle.cm_base.specs.declared.stop.Stop.{Stop}
use Rattle.cm_base.specs.declared.stop.Stop.TheVariants.{ReturnFault, EntryPoint, Astray}
use Rattle.ns_types.specs.declared.goes.Goes.{Goes}
use Rattle.ns_types.specs.declared.goes.Goes.TheVariants as goes
use Rattle.ns_types.specs.Turns.{Turn}
use Rattle.ns_types.specs.declared.turn.Start.{Start}
use Rattle.ns_types.specs.declared.event.CEvent.{CEvent}
use Rattle.ns_types.specs.declared.event.CEvent.TheVariants as c
use Rattle.ns_types.specs.declared.event.End.{End}
use Rattle.ns_types.specs.declared.event.End.TheVariants as end
use Rattle.ns_types.specs.State.{Memory}
use Rattle.ns_types.specs.Platform.{aligned}
use Rattle.ns_types.specs.declared.event.Mark.{Mark}
use Rattle.ns_types.specs.declared.event.Marked.{Marked}
use Rattle.ns_types.specs.Boundary.{goes_of, acted, in_four, eight_zeros, kept_of, start_mark, reset_address}

-- What flows through a run: the turns that are left, the entries since the last turn or the start, the events so far,
-- the greatest need of stack so far, memory, and the Non-secure stack pointers as last set.
pub record World : Type 0 where
  pub turns : List Turn
  pub entries : ℕ
  pub events : List Marked
  pub peak : ℕ
  pub memory : Memory
  pub msp_ns : ℕ
  pub psp_ns : ℕ

-- how an entry or a phase ends: the newest pending call goes on with r0, or the run is over
pub data Outcome : Type 0 where
  Gave : ℕ → World → Outcome
  Over : End → World → Outcome

abbrev pub then_go : Outcome → (ℕ → World → Outcome) → Outcome
then_go (Gave x w) f = f x w
then_go (Over e w) f = Over e w

-- the mark of an event that goes to exit
abbrev pub mark_at : ℕ → List ℕ → World → Mark
mark_at exit kept w = record { exit = exit; kept = kept; msp_ns = w.msp_ns; psp_ns = w.psp_ns }

abbrev pub emit : CEvent → Mark → World → World
emit e m w = record w { events = w.events ++ record { event = e; mark = m } ∷ [] }

-- no one sees a mark beside a write or a stop
abbrev pub emit_plain : CEvent → World → World
emit_plain e w = emit e (mark_at 0 eight_zeros w) w

abbrev pub stop_with : Stop → World → Outcome
stop_with x w = Over end.Stopped (emit_plain (c.Stopped x) w)

-- the need of the functions active at this moment
abbrev pub reach : ℕ → World → World
reach load w = record w { peak = max w.peak load }

-- what happens where a branch goes
abbrev pub arrive : {R : Type 0} → (ℕ → R) → R → (Stop → R) → R → Goes → R
arrive enter back stop turn (goes.Enter e) = enter e
arrive enter back stop turn goes.Return = back
arrive enter back stop turn goes.Turn = turn
arrive enter back stop turn goes.EntryPoint = stop EntryPoint
arrive enter back stop turn goes.Astray = stop Astray

-- the next turn, if there is one
abbrev pub take_turn : {R : Type 0} → R → (Turn → List Turn → R) → List Turn → R
take_turn none go [] = none
take_turn none go (t ∷ ts) = go t ts

-- one entry more since the last turn or the start
abbrev pub counted : World → World
counted w = record w { entries = suc w.entries }

-- An arrival, with r0 to r3: each result goes to exit at once, with kept in r4 to r11. An entry beyond the bound `turns`
-- of those since the last turn or the start isn't entered. enter runs a body, and phase is what follows a hand-over.
-- n counts down, from a number that is never used up.
abbrev pub chain : (ℕ → Option ℕ) → (ℕ → List ℕ → World → Outcome) → (World → Outcome) → ℕ → ℕ → List ℕ → ℕ → Goes → List ℕ → World → Outcome
chain enters enter phase turns exit kept zero g args w =
    arrive (λ e. Over end.Spent w) (Gave (slice_index args 0) w) (λ x. stop_with x w) (phase w) g
chain enters enter phase turns exit kept (suc n) g args w =
    arrive
    (λ e.
    cond (ltb w.entries turns)
    (then_go (enter e args (counted w)) (λ r u. chain enters enter phase turns exit kept n (goes_of enters exit) (in_four (r ∷ [])) (emit (c.Result e r) (mark_at exit kept u) u)))
    (Over end.Spent w))
    (Gave (slice_index args 0) w) (λ x. stop_with x w) (phase w) g

-- the world after a turn has set the stack pointers and its items have left this Non-secure RAM; entries are counted anew
abbrev pub turned : Turn → List Turn → List ℕ → World → World
turned t rest ram w = record w {
  turns = rest;
  entries = 0;
  memory = record w.memory { ns_ram = ram };
  msp_ns = aligned 4 t.msp_ns;
  psp_ns = aligned 4 t.psp_ns;
}

abbrev pub stop_or : Option Stop → World → Outcome → Outcome
stop_or None w rest = rest
stop_or (Some x) w rest = stop_with x w

-- Non-secure code's move, turn by turn; fuel is at least the number of turns that are left, so that an arrival is
-- followed by at most `turns` entries for itself and for each of them
abbrev pub phase : (ℕ → Option ℕ) → (ℕ → List ℕ → World → Outcome) → ℕ → ℕ → World → Outcome
phase enters enter turns zero w = take_turn (Over end.Waiting w) (λ t rest. Over end.Spent w) w.turns
phase enters enter turns (suc fuel) w =
    take_turn (Over end.Waiting w)
    (λ t rest.
    let after = acted t.items w.memory.ns_ram in
    let u = turned t rest after.ram w in
    stop_or after.stop u (chain enters enter (phase enters enter turns fuel) turns (aligned 2 t.lr) (kept_of t) (turns * suc fuel) (goes_of enters t.target) (take 4 t.r) u))
    w.turns

-- a return with no call pending
abbrev pub at_top : Outcome → Outcome
at_top (Gave x w) = stop_with ReturnFault w
at_top (Over e w) = Over e w

-- the world when the start code has run, with the memory that the program begins with
abbrev pub fresh : Start → Memory → List Turn → World
fresh start memory ts =
    let m = start_mark start in
    record { turns = ts; entries = 0; events = record { event = c.Started; mark = m } ∷ []; peak = 0; memory = memory; msp_ns = m.msp_ns; psp_ns = m.psp_ns }

-- a whole run: at most turns entries after the start and after each turn
abbrev pub c_run : (ℕ → Option ℕ) → (ℕ → List ℕ → World → Outcome) → ℕ → Start → Memory → List Turn → Outcome
c_run enters enter turns start memory ts =
    let exit = reset_address start in
    at_top (chain enters enter (phase enters enter turns (length ts)) turns exit eight_zeros (turns * suc (length ts)) (goes_of enters exit) (in_four []) (fresh start memory ts))

-- what a run is: its events with their marks, its end, and the greatest need of stack
pub record Run : Type 0 where
  pub list : List Marked
  pub end : End
  pub peak : ℕ

abbrev pub run_of : Outcome → Run
run_of (Gave x w) = record { list = w.events; end = end.Stopped; peak = w.peak }
run_of (Over e w) = record { list = w.events; end = e; peak = w.peak }
