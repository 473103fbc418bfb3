-- Values and places (C11 6.3, 6.5): a value is a word, a place an unplaced local or an address.
use Rattle.std.specs.Prelude.{ℕ, ◌+◌, Bool, cond, eqb, List, [], ◌∷◌, slice_get, slice_index, slice_set, Option, Some, None, Result, Ok, Err}
use Rattle.cm_base.specs.declared.stop.Stop.{Stop}
use Rattle.ns_types.specs.declared.event.CEvent.{CEvent}
use Rattle.ns_types.specs.Operators.{wrapped}
use Rattle.ns_types.specs.Access.{read_access, write_access, Written}
use Rattle.ns_types.specs.CRun.{World, emit_plain}
use Rattle.c_types.specs.declared.arith.Arith.{Arith}
use Rattle.c_types.specs.declared.ctype.CType.{CType}
use Rattle.c_types.specs.Arithmetic.{arith_size}
use Rattle.c_types.specs.Kind.{arithmetic, is_void}
use Rattle.c_const.specs.Operate.{narrowed}
use Rattle.c_mean.specs.Parts.{Out, Has, Part, then_with, halt, or_halt}

-- ---- values

abbrev pub converted_as : Option Arith → ℕ → ℕ
converted_as (Some a) x = cond (eqb (arith_size a) 4) x (narrowed a x)
converted_as None x = x

-- a word converted to a type: a narrower type than a word keeps the low bytes, extended by its sign
abbrev pub converted : CType → ℕ → ℕ
converted t x = converted_as (arithmetic t) x

-- what a function with this result gives: nothing is 0
abbrev pub returned : CType → ℕ → ℕ
returned t x = cond (is_void t) 0 (converted t x)

abbrev pub size_as : Option Arith → ℕ
size_as (Some a) = arith_size a
size_as None = 4

-- the bytes of a value of a type; a pointer has 4
abbrev pub value_size : CType → ℕ
value_size t = size_as (arithmetic t)

-- ---- places

pub data Spot : Type 0 where
  Unplaced : ℕ → Spot
  At : ℕ → Spot

-- the spot of local n, by where it stands in the block at this address, if it does
abbrev pub spot_in : ℕ → Option (Option ℕ) → ℕ → Spot
spot_in block (Some (Some offset)) n = At (block + offset)
spot_in block (Some None) n = Unplaced n
spot_in block None n = Unplaced n

-- so many bytes on
abbrev pub moved : Spot → ℕ → Spot
moved (At a) offset = At (wrapped (a + offset))
moved (Unplaced n) offset = Unplaced n

-- only what is placed has an address
abbrev pub address : Spot → ℕ
address (At a) = a
address (Unplaced n) = 0

-- the value of a type that stands there; that of an unplaced local is no access
abbrev pub read_spot : CType → Spot → Part ℕ
read_spot t (Unplaced n) l w = Has (slice_index l n) l w
read_spot t (At a) l w = then_with (or_halt (read_access (value_size t) a w.memory) l w) (λ x m u. Has (converted t x) m u)

abbrev pub all_emitted : List CEvent → World → World
all_emitted [] u = u
all_emitted (e ∷ es) u = all_emitted es (emit_plain e u)

-- what a write leaves, or its stop; the value that was written is the whole's
abbrev pub written : Result Written Stop → ℕ → Part ℕ
written (Ok x) v l w = Has v l (all_emitted x.events (record w { memory = x.memory }))
written (Err e) v l w = halt e w

abbrev pub write_spot : CType → Spot → ℕ → Part ℕ
write_spot t (Unplaced n) v l w = Has v (slice_set l n v) w
write_spot t (At a) v l w = written (write_access (value_size t) a v w.memory) v l w
