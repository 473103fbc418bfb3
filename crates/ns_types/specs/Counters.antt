-- What the definitions of a run recurse on is never used up: how much of it is enough.
use Rattle.std.specs.Prelude.{◌≡◌, ℕ, suc, ◌+◌, ◌*◌, ◌≤◌, List, [], length, Option}
use Rattle.ns_types.specs.Turns.{Turn}
use Rattle.ns_types.specs.declared.turn.Start.{Start}
use Rattle.ns_types.specs.State.{Memory}
use Rattle.ns_types.specs.Boundary.{goes_of, in_four, eight_zeros, reset_address}
use Rattle.ns_types.specs.CRun.{World, Outcome, Gave, Over, chain, phase, fresh, at_top}

-- a number for the entries that a bound `turns` allows, after each turn that is left and since the last one or the start
abbrev pub IsEnough : ℕ → ℕ → World → Type 0
IsEnough turns n w = turns * suc (length w.turns) ≤ n + w.entries

-- w can go on to u: no turn comes back, and where none is taken no entry is forgotten
pub record GoesOnTo (w u : World) : Type 0 where
  pub turns : length u.turns ≤ length w.turns
  pub entries : length u.turns ≡ length w.turns → w.entries ≤ u.entries

abbrev pub GivesLater : World → Outcome → Type 0
GivesLater w (Gave x u) = GoesOnTo w u
GivesLater w (Over e u) = Unit {0}

-- what is begun in w only goes on
pub record GoesOn (w : World) (o : Outcome) : Type 0 where
  pub by : GivesLater w o

-- so do bodies of entries
pub record OnlyGoOn (enter : ℕ → List ℕ → World → Outcome) : Type 0 where
  pub by : (e : ℕ) (args : List ℕ) (w : World) → GoesOn w (enter e args w)

-- a whole run by some fuel, and by some number for the entries after the start
abbrev pub run_by : (ℕ → Option ℕ) → (ℕ → List ℕ → World → Outcome) → (turns fuel n : ℕ) → Start → Memory → List Turn → Outcome
run_by enters enter turns fuel n start memory ts =
    let exit = reset_address start in
    at_top (chain enters enter (phase enters enter turns fuel) turns exit eight_zeros n (goes_of enters exit) (in_four []) (fresh start memory ts))
