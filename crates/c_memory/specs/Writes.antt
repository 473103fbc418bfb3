-- What reads and writes of the C program answer.
use Rattle.std.specs.Prelude.{◌≡◌, ℕ, Bool, ◌||◌, cond, eqb, List, [], ◌∷◌, Result, Ok, Err}
use Rattle.cm_base.specs.declared.stop.Stop.{Stop}
use Rattle.ns_types.specs.declared.event.CEvent.{CEvent}
use Rattle.ns_types.specs.declared.event.CEvent.TheVariants.{Wrote}
use Rattle.ns_types.specs.Access.{write_access}
use Rattle.ns_types.specs.Operators.{low_bytes}
use Rattle.ns_types.specs.State.{Memory}

-- the sizes of an access
abbrev pub is_size : ℕ → Bool
is_size n = eqb n 1 || (eqb n 2 || eqb n 4)

-- the event of a write, where it is seen
abbrev pub events_if : Bool → ℕ → ℕ → ℕ → List CEvent
events_if told n a v = cond told (Wrote a n (low_bytes n v) ∷ []) []

-- a write of n bytes at a leaves this memory, and answers whether it is seen; or it stops and changes nothing
abbrev pub Writes : Result Bool Stop → ℕ → ℕ → ℕ → Memory → Memory → Type 0
Writes (Ok told) n a v old new = write_access n a v old ≡ Ok (record { memory = new; events = events_if told n a v })
Writes (Err stop) n a v old new = (write_access n a v old ≡ Err stop) × (new ≡ old)
