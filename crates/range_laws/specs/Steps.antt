-- What holds of each answer of a check, and of each step over tables, unless it is a fault.
use Rattle.std.specs.Prelude.{◌≡◌, ℕ, ◌<◌, true, length, Ok, Err}
use Rattle.c_types.specs.declared.ctype.CType.{CType}
use Rattle.c_scope.specs.declared.tables.Layout.{Layout}
use Rattle.c_scope.specs.declared.tables.Tables.{Tables}
use Rattle.c_rows.specs.Answers.{Checked}
use Rattle.range_laws.specs.Ranges.{Follows, Grows, names}
use Rattle.range_laws.specs.Few.{IsFit, few, members_few}

abbrev pub answered : {A : Type 0} → (A → Type 0) → Checked A → Type 0
answered Q (Ok x) = Q x
answered Q (Err e) = Unit {0}

-- an answer of which Q holds, or a fault
pub record Answers {A : Type 0} (Q : A → Type 0) (r : Checked A) : Type 0 where
  pub it : answered Q r

-- from the tables s to the tables t
pub record Came {A : Type 0} (Q : A → Tables → Type 0) (s : Tables) (x : A) (t : Tables) : Type 0 where
  pub grows : Grows s t
  pub fit : IsFit t
  pub holds : Q x t

abbrev pub went : {A : Type 0} → (A → Tables → Type 0) → Tables → Checked (A × Tables) → Type 0
went Q s (Ok p) = Came Q s p.0 p.1
went Q s (Err e) = Unit {0}

-- A step from s: its tables have all numbers of s, and of its answer Q holds there; or a fault.
pub record Goes {A : Type 0} (Q : A → Tables → Type 0) (s : Tables) (r : Checked (A × Tables)) : Type 0 where
  pub it : went Q s r

-- at file scope, from the tables s to the tables t
pub record Passed {A : Type 0} (Q : A → Tables → Type 0) (s : Tables) (x : A) (t : Tables) : Type 0 where
  pub follows : Follows s t
  pub fit : IsFit t
  pub holds : Q x t

abbrev pub passed : {A : Type 0} → (A → Tables → Type 0) → Tables → Checked (A × Tables) → Type 0
passed Q s (Ok p) = Passed Q s p.0 p.1
passed Q s (Err e) = Unit {0}

-- the same of a step at file scope
pub record Passes {A : Type 0} (Q : A → Tables → Type 0) (s : Tables) (r : Checked (A × Tables)) : Type 0 where
  pub it : passed Q s r

-- what a function of tables leaves
pub record Leads (s t : Tables) : Type 0 where
  pub grows : Grows s t
  pub fit : IsFit t

pub record Brings (s t : Tables) : Type 0 where
  pub follows : Follows s t
  pub fit : IsFit t

-- ---- what holds of answers

abbrev pub Anything : {A : Type 0} → A → Tables → Type 0
Anything x t = Unit {0}

abbrev pub IsFew : CType → Type 0
IsFew t = few t ≡ true

abbrev pub TypeIsFew : CType → Tables → Type 0
TypeIsFew c t = few c ≡ true

abbrev pub HasFew : Unit {0} × Layout → Type 0
HasFew p = members_few p.1.members ≡ true

-- a number is that of a local, or of a global
abbrev pub IsLocal : ℕ → Tables → Type 0
IsLocal n t = n < length t.locals

abbrev pub IsObjectAt : ℕ → Tables → Type 0
IsObjectAt n t = (names t).is_global n ≡ true
