-- What two runs let the caller see.
use Rattle.std.specs.Prelude.{◌≡◌, ℕ, zero, suc, ◌+◌, ◌<◌, List, [], ◌∷◌, Option, Some, None}
use Rattle.ns_types.specs.declared.event.Event.{Event}
use Rattle.ns_types.specs.declared.event.Event.TheVariants as event
use Rattle.ns_types.specs.Turns.{Turn}
use Rattle.ns_types.specs.declared.turn.Start.{Start}
use Rattle.ns_types.specs.declared.turn.View.{View}
use Rattle.ns_types.specs.Ram.{ram_at}

-- a run: what it began with, the turns, and the events
pub record Played : Type 0 where
  pub start : Start
  pub turns : List Turn
  pub events : List Event

-- the view of the k-th hand-over, if there is one
abbrev pub view_at : List Event → ℕ → Option View
view_at [] k = None
view_at (event.Wrote at size value ∷ es) k = view_at es k
view_at (event.Stopped stop ∷ es) k = view_at es k
view_at (event.Given view ∷ es) zero = Some view
view_at (event.Given view ∷ es) (suc k) = view_at es k

-- the number of hand-overs
abbrev pub given_count : List Event → ℕ
given_count [] = 0
given_count (event.Wrote at size value ∷ es) = given_count es
given_count (event.Stopped stop ∷ es) = given_count es
given_count (event.Given view ∷ es) = given_count es + 1

-- the view and Non-secure RAM
abbrev pub ram_of : (ℕ → Option ℕ) → Played → ℕ → Option (List ℕ)
ram_of enters p k = ram_at enters p.events k p.turns p.start.ns_ram

-- Two runs have the same sight up to hand-over h: at each hand-over before it that both reach, counted from 0, the
-- registers, flags and stack pointers that the caller sees are equal, and so is Non-secure RAM.
abbrev pub SameSight : (ℕ → Option ℕ) → Played → Played → ℕ → Type 0
SameSight enters a b h =
    (k : ℕ) → k < h → (v w : View) → view_at a.events k ≡ Some v → view_at b.events k ≡ Some w → (v ≡ w) × (ram_of enters a k ≡ ram_of enters b k)
