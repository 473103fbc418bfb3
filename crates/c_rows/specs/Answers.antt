-- What checking a part answers: the part, or the first fault and its place.
use Rattle.std.specs.Prelude.{◌≡◌, ℕ, Result, Ok, Err}
use Rattle.cm_base.specs.declared.place.Place.{Place}
use Rattle.c_rows.specs.declared.fault.TypeFault.{TypeFault}
use Rattle.c_rows.specs.declared.fault.TypeFault.TheVariants.{At, NoMemory}

abbrev pub Checked : Type 0 → Type 0
Checked A = Result A TypeFault

-- one check after another: the first fault is the answer
infixl 10 ◌>>=◌
abbrev pub ◌>>=◌ : {A B : Type 0} → Checked A → (A → Checked B) → Checked B
(Ok x) >>= f = f x
(Err e) >>= f = Err e

-- a fault was told: it is that of the definition; want of memory says nothing
abbrev pub Fails : {X : Type 0} → TypeFault → Checked X → Type 0
Fails NoMemory check = Unit {0}
Fails (At code place) check = check ≡ Err (At code place)

-- what a function returned is what the definition says, unless memory ran out
abbrev pub Gives : {X : Type 0} → Checked X → Checked X → Type 0
Gives (Ok x) check = check ≡ Ok x
Gives (Err e) check = Fails e check

abbrev pub fault : {X : Type 0} → ℕ → Place → Checked X
fault code place = Err (At code place)
