-- The meaning of a program whose one entry gives a number.
use Rattle.std.specs.Prelude.{ℕ, zero, suc, List, [], ◌∷◌, Option}
use Rattle.ns_types.specs.declared.event.Bound.{Bound}
use Rattle.ns_types.specs.declared.event.End.TheVariants as end
use Rattle.ns_types.specs.declared.event.Veneer.{Veneer}
use Rattle.ns_types.specs.Turns.{Turn}
use Rattle.ns_types.specs.declared.turn.Start.{Start}
use Rattle.ns_types.specs.CRun.{World, Outcome, Gave, Over, reach, Run, run_of, c_run}
use Rattle.ns_types.specs.Memory.{memory_of}
use Rattle.ns_types.specs.Veneers.{enters_of}
use Rattle.constant_entry.specs.Code.{first_veneer}

-- the veneers of a program whose one entry has this name, and where a caller enters by them
abbrev pub one_veneer : List ℕ → List Veneer
one_veneer name = record { name = name; address = first_veneer } ∷ []

abbrev pub enters_one : List ℕ → ℕ → Option ℕ
enters_one name = enters_of (one_veneer name) (name ∷ [])

-- the stack need of a function without parameters whose deepest expression is a number
abbrev pub need : ℕ
need = 132

-- the body gives the number, where a function may be active at all
abbrev pub gives : ℕ → ℕ → ℕ → List ℕ → World → Outcome
gives n zero e args w = Over end.Spent w
gives n (suc deep) e args w = Gave n (reach need w)

-- the run of the program, which a caller enters as enters says
abbrev pub constant_run : (ℕ → Option ℕ) → ℕ → Start → List Turn → Bound → Run
constant_run enters n start ts b = run_of (c_run enters (gives n b.deep) b.turns start (memory_of start) ts)
