-- What stays as it is through a run.
use Rattle.std.specs.Prelude.{◌≡◌, ℕ, ◌+◌, cond, eqb, List, [], ◌∷◌, map, slice_get, Option, None, option_and_then}
use Rattle.ns_types.specs.declared.event.Veneer.{Veneer}
use Rattle.ns_types.specs.Turns.{Turn}
use Rattle.ns_types.specs.Veneers.{enters_of, place_of}
use Rattle.c_tree.specs.Conditions.{Program}
use Rattle.c_tree.specs.declared.program.TFunction.{TFunction}
use Rattle.c_mean.specs.Homes as homes
use Rattle.c_world.specs.declared.plan.Plan.{Plan}
use Rattle.c_world.specs.declared.setup.Door.{Door}
use Rattle.c_world.specs.Plans.{plan_of}

-- the program, the veneers of its entries, all turns of the script, and the bound on turns
pub record Setup : Type 0 where
  pub program : Program
  pub veneers : List Veneer
  pub script : List Turn
  pub turns : ℕ

-- which entry stands at an address
abbrev pub enters : Setup → ℕ → Option ℕ
enters s = enters_of s.veneers s.program.entries

-- the function with this number, if a number is given
abbrev pub function_at : Setup → Option ℕ → Option TFunction
function_at s n = option_and_then (slice_get s.program.functions) n

abbrev pub door_of : List (List ℕ) → Veneer → Door
door_of entries v = record { address = v.address; entry = place_of entries v.name }

-- the numbers of the entry functions among functions, the first of which is number n
abbrev pub entry_numbers : ℕ → List TFunction → List ℕ
entry_numbers n [] = []
entry_numbers n (f ∷ fs) = cond f.entry (n ∷ entry_numbers (n + 1) fs) (entry_numbers (n + 1) fs)

-- the entry of the door at an address, of the first one where there are more
abbrev pub entry_at : List Door → ℕ → Option ℕ
entry_at [] a = None
entry_at (d ∷ ds) a = cond (eqb a d.address) d.entry (entry_at ds a)

-- What is worked out once: the plans of functions, the numbers of entry functions, the homes of globals, and the entries
-- of veneers.
pub record AreReady (p : Program) (veneers : List Veneer) (plans : List Plan) (entries : List ℕ) (placed : List ℕ) (doors : List Door) : Type 0 where
  pub plans_are : plans ≡ map plan_of p.functions
  pub entries_are : entries ≡ entry_numbers 0 p.functions
  pub homes_are : placed ≡ homes.homes p.globals
  pub doors_are : doors ≡ map (door_of p.entries) veneers
