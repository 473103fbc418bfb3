-- Non-secure RAM at each hand-over of a run, by the changes before it in order of time.
use Rattle.std.specs.Prelude.{◌≡◌, ℕ, zero, suc, ◌-◌, Bool, true, false, cond, not, List, [], ◌∷◌, Option, Some, None}
use Rattle.ns_types.specs.declared.goes.Goes.{Goes}
use Rattle.ns_types.specs.declared.goes.Goes.TheVariants as goes
use Rattle.ns_types.specs.declared.event.Event.{Event}
use Rattle.ns_types.specs.declared.event.Event.TheVariants as event
use Rattle.ns_types.specs.declared.turn.Item.{Item}
use Rattle.ns_types.specs.Turns.{Turn}
use Rattle.ns_types.specs.Platform.{row, is_nonsecure}
use Rattle.ns_types.specs.Memory.{put_number}
use Rattle.ns_types.specs.Boundary.{goes_of, with_item}

abbrev pub is_turn : Goes → Bool
is_turn goes.Turn = true
is_turn (goes.Enter e) = false
is_turn goes.Return = false
is_turn goes.EntryPoint = false
is_turn goes.Astray = false

-- a turn is a crossing where its target isn't in Non-secure memory
abbrev pub crosses : (ℕ → Option ℕ) → Turn → Bool
crosses enters t = not (is_turn (goes_of enters t.target))

-- Non-secure RAM after all items
abbrev pub with_items : List Item → List ℕ → List ℕ
with_items [] ram = ram
with_items (item ∷ items) ram = with_items items (with_item item ram)

-- the turns that are left, and Non-secure RAM
pub record Moved : Type 0 where
  pub turns : List Turn
  pub ram : List ℕ

-- after the turns up to and including the next crossing
abbrev pub moved_past : (ℕ → Option ℕ) → List Turn → List ℕ → Moved
moved_past enters [] ram = record { turns = []; ram = ram }
moved_past enters (t ∷ ts) ram =
    cond (crosses enters t) (record { turns = ts; ram = with_items t.items ram }) (moved_past enters ts (with_items t.items ram))

-- Non-secure RAM at the k-th hand-over, counted from 0, if there is one. Before it came all writes of Secure code up to
-- there, and the items of all turns up to and including the k-th crossing, crossings being counted from 1.
abbrev pub ram_at : (ℕ → Option ℕ) → List Event → ℕ → List Turn → List ℕ → Option (List ℕ)
ram_at enters [] k ts ram = None
ram_at enters (event.Wrote at size value ∷ es) k ts ram = ram_at enters es k ts (put_number size ram (at - (row 1).from) value)
ram_at enters (event.Stopped stop ∷ es) k ts ram = ram_at enters es k ts ram
ram_at enters (event.Given view ∷ es) zero ts ram = Some ram
ram_at enters (event.Given view ∷ es) (suc k) ts ram = let m = moved_past enters ts ram in ram_at enters es k m.turns m.ram

-- no entry stands in Non-secure memory
pub record AreSecure (enters : ℕ → Option ℕ) : Type 0 where
  pub by : (a : ℕ) → is_nonsecure a ≡ true → enters a ≡ None
