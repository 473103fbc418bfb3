-- The boundary between Non-secure and Secure code: where a branch goes, what a turn's items do, and what a view shows.
use Rattle.std.specs.Prelude.{ℕ, ◌+◌, ◌-◌, cond, eqb, List, [], ◌∷◌, ◌++◌, slice_index, slice_set, take, Option, Some, None}
use Rattle.cm_base.specs.declared.stop.Stop.{Stop}
use Rattle.cm_base.specs.declared.stop.Stop.TheVariants.{Access, Astray}
use Rattle.ns_types.specs.declared.goes.Goes.{Goes}
use Rattle.ns_types.specs.declared.goes.Goes.TheVariants as goes
use Rattle.ns_types.specs.declared.turn.Item.{Item}
use Rattle.ns_types.specs.declared.turn.Item.TheVariants.{Write, Read}
use Rattle.ns_types.specs.declared.turn.View.{View}
use Rattle.ns_types.specs.Turns.{Turn}
use Rattle.ns_types.specs.declared.turn.Start.{Start}
use Rattle.ns_types.specs.Memory.{word_at}
use Rattle.ns_types.specs.declared.event.Mark.{Mark}
use Rattle.ns_types.specs.declared.event.CEvent.{CEvent}
use Rattle.ns_types.specs.declared.event.CEvent.TheVariants as c
use Rattle.ns_types.specs.Platform.{row, in_row, is_secure, is_nonsecure, aligned}

-- the address that a branch in Non-secure state takes as a function return (DDI0553, FNC_RETURN)
abbrev pub function_return : ℕ
function_return = 0xFEFFFFFE

-- elsewhere: not at an entry
abbrev pub goes_outside : ℕ → Goes
goes_outside a = cond (eqb a function_return) goes.Return (cond (is_nonsecure a) goes.Turn (cond (is_secure a) goes.EntryPoint goes.Astray))

abbrev pub goes_or : Option ℕ → ℕ → Goes
goes_or (Some e) a = goes.Enter e
goes_or None a = goes_outside a

-- Where a branch to t goes; enters says which entry stands at an even address. Bit 0 of t is ignored.
unfoldable pub goes_of : (ℕ → Option ℕ) → ℕ → Goes
goes_of enters t = goes_or (enters (aligned 2 t)) (aligned 2 t)

-- why an item of a turn stops, if it does: Secure memory is refused, then what no Non-secure region allows
abbrev pub item_stop : Item → Option Stop
item_stop (Write at byte) = cond (is_secure at) (Some Access) (cond (in_row 1 at) None (Some Astray))
item_stop (Read at) = cond (is_secure at) (Some Access) (cond (is_nonsecure at) None (Some Astray))

-- Non-secure RAM after an item that doesn't stop
abbrev pub with_item : Item → List ℕ → List ℕ
with_item (Write at byte) ram = slice_set ram (at - (row 1).from) byte
with_item (Read at) ram = ram

-- what a turn's items leave: Non-secure RAM, and the stop of the first item that stops
pub record Acted : Type 0 where
  pub ram : List ℕ
  pub stop : Option Stop

abbrev pub acted_or : Option Stop → List ℕ → Acted → Acted
acted_or None ram rest = rest
acted_or (Some x) ram rest = record { ram = ram; stop = Some x }

abbrev pub acted : List Item → List ℕ → Acted
acted [] ram = record { ram = ram; stop = None }
acted (item ∷ items) ram = acted_or (item_stop item) ram (acted items (with_item item ram))

abbrev pub eight_zeros : List ℕ
eight_zeros = 0 ∷ 0 ∷ 0 ∷ 0 ∷ 0 ∷ 0 ∷ 0 ∷ 0 ∷ []

-- the arguments of a call in r0 to r3, and 0 in what is left of these
abbrev pub in_four : List ℕ → List ℕ
in_four args = take 4 (args ++ 0 ∷ 0 ∷ 0 ∷ 0 ∷ [])

-- a view with all flags 0
abbrev pub view : (front kept : List ℕ) (r12 lr pc : ℕ) → Mark → View
view front kept r12 lr pc mark = record { r = front ++ kept ++ r12 ∷ []; lr = lr; pc = pc; nzcvq = 0; msp_ns = mark.msp_ns; psp_ns = mark.psp_ns }

-- What the caller sees where the start code, an entry or a Non-secure call hands over; other events show nothing.
abbrev pub view_of : CEvent → Mark → Option View
view_of c.Started mark = Some (view (in_four []) eight_zeros 0 mark.exit mark.exit mark)
view_of (c.Result entry r0) mark = Some (view (in_four (r0 ∷ [])) mark.kept 0 mark.exit mark.exit mark)
view_of (c.Called target args) mark = Some (view (in_four args) eight_zeros target (function_return + 1) target mark)
view_of (c.Wrote at size value) mark = None
view_of (c.Stopped stop) mark = None

-- the caller's r4 to r11
abbrev pub kept_of : Turn → List ℕ
kept_of t =
    slice_index t.r 4 ∷ slice_index t.r 5 ∷ slice_index t.r 6 ∷ slice_index t.r 7 ∷ slice_index t.r 8 ∷ slice_index t.r 9 ∷ slice_index t.r 10 ∷ slice_index t.r 11 ∷ []

-- beside the result of an entry that a turn calls
abbrev pub turn_mark : Turn → Mark
turn_mark t = record { exit = aligned 2 t.lr; kept = kept_of t; msp_ns = aligned 4 t.msp_ns; psp_ns = aligned 4 t.psp_ns }

-- where Non-secure code begins: the second word of Non-secure ROM
abbrev pub reset_address : Start → ℕ
reset_address start = aligned 2 (word_at start.ns_rom 4)

-- beside the event that the start code has run
abbrev pub start_mark : Start → Mark
start_mark start = record { exit = reset_address start; kept = eight_zeros; msp_ns = aligned 4 (word_at start.ns_rom 0); psp_ns = 0 }
