-- Reads and writes of the C program. It may touch Secure data and Non-secure RAM, and read Non-secure ROM.
use Rattle.std.specs.Prelude.{ℕ, ◌%◌, Bool, cond, not, ◌||◌, eqb, List, [], ◌∷◌, Option, Some, None, Result, Ok, Err}
use Rattle.cm_base.specs.declared.stop.Stop.{Stop}
use Rattle.cm_base.specs.declared.stop.Stop.TheVariants.{Misaligned, Outside}
use Rattle.ns_types.specs.declared.event.CEvent.{CEvent}
use Rattle.ns_types.specs.declared.event.CEvent.TheVariants.{Wrote}
use Rattle.ns_types.specs.Platform.{in_row, lies_in}
use Rattle.ns_types.specs.State.{Memory, device_of}
use Rattle.ns_types.specs.Memory.{load, store}
use Rattle.ns_types.specs.Operators.{low_bytes}

-- one row that the program may read, or write, holds all n bytes
abbrev pub may_write : ℕ → ℕ → Bool
may_write a n = lies_in 4 a n || lies_in 1 a n

abbrev pub may_read : ℕ → ℕ → Bool
may_read a n = may_write a n || lies_in 0 a n

-- Why an access of n bytes at a stops, if it does: the address isn't a multiple of the size (C11 6.3.2.3 leaves such a
-- pointer's use open), or the bytes lie outside.
abbrev pub access_stop : Bool → ℕ → ℕ → Option Stop
access_stop allowed a n = cond (not (eqb (a % n) 0)) (Some Misaligned) (cond allowed None (Some Outside))

abbrev pub unless : {X : Type 0} → Option Stop → X → Result X Stop
unless None x = Ok x
unless (Some stop) x = Err stop

-- a read of n bytes at a: the number, little endian; Secure ROM isn't read
unfoldable pub read_access : ℕ → ℕ → Memory → Result ℕ Stop
read_access n a m = unless (access_stop (may_read a n) a n) (load n a (device_of []) m)

-- what a write leaves, and its event
pub record Written : Type 0 where
  pub memory : Memory
  pub events : List CEvent

-- a write of the low n bytes of a word at a; into Non-secure RAM it is an event, with the number that was written
unfoldable pub write_access : ℕ → ℕ → ℕ → Memory → Result Written Stop
write_access n a v m =
    unless (access_stop (may_write a n) a n) (record { memory = store n a v m; events = cond (in_row 1 a) (Wrote a n (low_bytes n v) ∷ []) [] })
