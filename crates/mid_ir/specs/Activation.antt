-- What the meanings of a program share, whatever the form of its bodies is: what variables hold, accesses, blocks of the
-- data stack, Non-secure calls, and what an activation of a function knows.
use Rattle.std.specs.Prelude.{ℕ, zero, suc, ◌+◌, ◌/◌, cond, eqb, leb, List, [], ◌∷◌, ◌++◌, length, map, slice_index, Option, Result, Ok, Err}
use Rattle.cm_base.specs.declared.stop.Stop.{Stop}
use Rattle.cm_base.specs.declared.stop.Stop.TheVariants.{CallTarget, DataStack}
use Rattle.cm_base.specs.declared.regions.TheConstants.{SECURE_DATA}
use Rattle.ns_types.specs.declared.event.CEvent.{CEvent}
use Rattle.ns_types.specs.declared.event.CEvent.TheVariants as c
use Rattle.ns_types.specs.declared.event.Marked.{Marked}
use Rattle.ns_types.specs.State.{Memory}
use Rattle.ns_types.specs.Memory.{store}
use Rattle.ns_types.specs.Platform.{aligned, in_row}
use Rattle.ns_types.specs.Boundary.{eight_zeros}
use Rattle.ns_types.specs.Access.{Written}
use Rattle.ns_types.specs.CRun.{World, phase, Outcome, emit, stop_with, mark_at}

-- the values of variables
abbrev pub Vars : Type 0
Vars = ℕ → ℕ

-- with variable v set to x
abbrev pub put : Vars → ℕ → ℕ → Vars
put vs v x i = cond (eqb i v) x (vs i)

-- these values in the first variables, and 0 in all others
abbrev pub first : List ℕ → Vars
first xs i = slice_index xs i

-- the second where a value is 0, and else the first
abbrev pub where_set : {A : Type 0} → ℕ → A → A → A
where_set zero a b = b
where_set (suc n) a b = a

-- an event that no one sees the mark of
abbrev pub plain : World → CEvent → Marked
plain w e = record { event = e; mark = mark_at 0 eight_zeros w }

-- the world after a write
abbrev pub wrote : Written → World → World
wrote x w = record w { events = w.events ++ map (plain w) x.events; memory = x.memory }

-- A call of Non-secure code: bit 0 of the target is ignored, and it has to lie in Non-secure ROM. The caller sees the
-- arguments, and 0 in r4 to r11.
unfoldable pub ns_call : ℕ → List ℕ → World → Result World Stop
ns_call target args w =
    let t = aligned 2 target in
    cond (in_row 0 t) (Ok (emit (c.Called t args) (mark_at t eight_zeros w) w)) (Err CallTarget)

-- where the data stack may grow to
abbrev pub data_end : ℕ
data_end = SECURE_DATA.to

-- n words of 0 from a on
abbrev pub cleared : ℕ → ℕ → Memory → Memory
cleared zero a m = m
cleared (suc n) a m = cleared n (a + 4) (store 4 a 0 m)

-- what is done with a block of so many bytes of the data stack, from top on, all 0
abbrev pub with_block : ℕ → ℕ → World → (World → Outcome) → Outcome
with_block size top w body =
    cond (leb (top + size) data_end) (body (record w { memory = cleared (size / 4) top w.memory })) (stop_with DataStack w)

-- What an activation knows: what a call of a function by its number does, what follows a call of Non-secure code, where
-- its block begins, how many turns a loop may take, and whether Non-secure code called it (1 or 0).
pub record Site : Type 0 where
  pub calls : ℕ → List ℕ → World → Outcome
  pub after : World → Outcome
  pub block : ℕ
  pub turns : ℕ
  pub caller : ℕ

-- An activation of a function, by what it does to call functions for Secure code and for Non-secure code; the entries
-- have these numbers of functions.
abbrev pub site_of : (ℕ → Option ℕ) → List ℕ → (ℕ → ℕ → List ℕ → World → Outcome) → ℕ → ℕ → ℕ → Site
site_of enters entries calls block turns caller =
    record { calls = calls 0; after = λ w. phase enters (λ e xs u. calls 1 (slice_index entries e) xs u) turns (length w.turns) w; block = block; turns = turns; caller = caller }
