-- What two activations have in common: one of a function of the tree, and one of its middle form.
use Rattle.std.specs.Prelude.{◌≡◌, ℕ, ◌+◌, ◌≤◌, ◌<◌, true, List, Some, slice_get}
use Rattle.ns_types.specs.declared.event.CEvent.TheVariants as c
use Rattle.ns_types.specs.Operators.{truth}
use Rattle.ns_types.specs.Boundary.{eight_zeros}
use Rattle.ns_types.specs.CRun.{World, emit, mark_at}
use Rattle.ns_types.specs.Alike.{low, Alike}
use Rattle.c_tree.specs.Numbers.{Names}
use Rattle.c_mean.specs.Values.{Spot, Unplaced, At, spot_in}
use Rattle.c_mean.specs.Exprs.{Around}
use Rattle.mid_ir.specs.Activation.{Site}
use Rattle.lower_code.specs.Frames.{Home, Variable, Placed, Frame}

-- a local stands where its home says
abbrev pub IsHome : ℕ → ℕ → ℕ → Home → Spot → Type 0
IsHome block bytes i (Variable v) spot = spot ≡ Unplaced i
IsHome block bytes i (Placed offset) spot = (spot ≡ At (block + offset)) × (offset ≤ bytes)

-- what follows a Non-secure call
abbrev pub Outside : Around → Site → Type 0
Outside s r = (target : ℕ) (xs : List ℕ) (w : World) (p : ℕ) → p ≤ w.peak → Alike (s.ns_call target xs w) (r.after (low p (emit (c.Called target xs) (mark_at target eight_zeros w) w)))

-- calls go alike, and all else is equal
pub record Like (names : Names) (fr : Frame) (s : Around) (r : Site) : Type 0 where
  pub block : r.block ≡ s.block
  pub room : r.block + fr.bytes < 4294967296
  pub turns : r.turns ≡ s.turns
  pub caller : r.caller ≡ truth s.from_ns
  pub homes : (i : ℕ) (h : Home) → slice_get fr.homes i ≡ Some h → IsHome s.block fr.bytes i h (spot_in s.block (slice_get s.offsets i) i)
  pub globals : s.globals ≡ fr.globals
  pub calls : (f many : ℕ) → names.is_function f many ≡ true → (xs : List ℕ) (w : World) (p : ℕ) → p ≤ w.peak → Alike (s.call f xs w) (r.calls f xs (low p w))
  pub outside : Outside s r
