-- What a command changes.
use Rattle.std.specs.Prelude.{◌≡◌, ◌≢◌, ℕ, List, Option}
use Rattle.cm_base.specs.Outside.{Files, held}

-- The files before and after, where the store tells them, and whether the counts of faults of reads and of writes rose.
pub record FilesChange : Type 1 where
  pub old : Option Files
  pub new : Option Files
  pub reads : Type 0
  pub writes : Type 0

-- The output before and after, where the sink tells it, and whether the count of faults of puts rose.
pub record OutputChange : Type 1 where
  pub before : Option (List ℕ)
  pub after : Option (List ℕ)
  pub puts : Type 0

pub record Change : Type 1 where
  pub files : FilesChange
  pub output : OutputChange

-- the files are as they were
abbrev pub FilesStay : FilesChange → Type 0
FilesStay files = files.new ≡ files.old

-- nothing was put out
abbrev pub OutputStays : OutputChange → Type 0
OutputStays output = output.after ≡ output.before

-- each file but these two is as it was
abbrev pub OthersThanStay : Option Files → Option Files → List ℕ → List ℕ → Type 0
OthersThanStay old new a b = (other : List ℕ) → other ≢ a → other ≢ b → held new other ≡ held old other
