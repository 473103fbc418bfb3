-- What is read in the order of the text changes a state: the tables of a unit, or a struct's layout so far.
use Rattle.std.specs.Prelude.{◌≡◌, ℕ, Bool, cond, Result, Ok, Err}
use Rattle.cm_base.specs.declared.place.Place.{Place}
use Rattle.c_rows.specs.Answers.{Checked, Fails, fault}
use Rattle.c_scope.specs.declared.tables.Tables.{Tables}

-- what a place of the text means, from the tables there, and the tables behind it
abbrev pub Step : Type 0 → Type 0
Step A = Tables → Checked (A × Tables)

-- what a function returned and the state that it left are what the definition says, unless memory ran out; nothing is said
-- of the state after a fault
abbrev pub Leaves : {A S : Type 0} → Checked A → S → Checked (A × S) → Type 0
Leaves (Ok x) new step = step ≡ Ok (x, new)
Leaves (Err e) new step = Fails e step

-- one step after another
infixl 10 ◌>>>◌
abbrev pub ◌>>>◌ : {A B S : Type 0} → Checked (A × S) → (A → S → Checked (B × S)) → Checked (B × S)
(Ok p) >>> f = f p.0 p.1
(Err e) >>> f = Err e

-- what doesn't change the state
abbrev pub keeping : {A S : Type 0} → S → Checked A → Checked (A × S)
keeping s (Ok x) = Ok (x, s)
keeping s (Err e) = Err e

-- a test that comes before the rest, and its fault
abbrev pub refuse : {A : Type 0} → Bool → ℕ → Place → Checked A → Checked A
refuse bad code place rest = cond bad (fault code place) rest
