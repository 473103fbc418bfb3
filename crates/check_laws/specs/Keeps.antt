-- What each part of the walk over the syntax tree keeps: more numbers are there afterwards, and what it answers is in range.
use Rattle.std.specs.Prelude.{◌≡◌, Bool, true, List, Option, Some, None}
use Rattle.c_types.specs.declared.ctype.CType.{CType}
use Rattle.cmse_rules.specs.declared.attributes.Attributes.{Attributes}
use Rattle.c_derive.specs.declared.derivations.Derivation.{Derivation}
use Rattle.c_derive.specs.declared.derivations.Param.{Param}
use Rattle.c_scope.specs.declared.tables.Layout.{Layout}
use Rattle.c_scope.specs.declared.tables.Tables.{Tables}
use Rattle.c_check.specs.declared.around.Around.{Around}
use Rattle.c_check.specs.declared.formed.Formed.{Formed}
use Rattle.c_check.specs.declared.specified.Head.{Head}
use Rattle.c_check.specs.declared.specified.Specified.{Specified}
use Rattle.c_check.specs.declared.operands.Operand.{Operand}
use Rattle.c_check.specs.Typed.{Typing, Reach, Naming, Forming, Declaring, Specifying, Tagged, Adding, Counting, Linked, Following, Passing, Listing, Deriving}
use Rattle.range_laws.specs.Few.{IsFit, derivation_few, derivations_few, few, members_few, params_few, words_few}
use Rattle.range_laws.specs.Ranges.{range}
use Rattle.range_laws.specs.Steps.{Goes}
use Rattle.check_laws.specs.Operands.{IsOperand}

-- ---- answers

abbrev pub OperandAt : Bool → Operand → Tables → Type 0
OperandAt entry o t = IsOperand (range entry t) o

abbrev pub TypeAt : CType → Tables → Type 0
TypeAt x t = few x ≡ true

abbrev pub FormedAt : Formed → Tables → Type 0
FormedAt f t = derivations_few f.derivations ≡ true

abbrev pub SpecifiedAt : Specified → Tables → Type 0
SpecifiedAt it t = words_few it.words ≡ true

abbrev pub HeadAt : Head → Tables → Type 0
HeadAt h t = few h.base ≡ true

abbrev pub LayoutAt : Layout → Tables → Type 0
LayoutAt l t = members_few l.members ≡ true

abbrev pub ParamAt : Param → Tables → Type 0
ParamAt p t = few p.ctype ≡ true

abbrev pub ParamsAt : List Param → Tables → Type 0
ParamsAt ps t = params_few ps ≡ true

abbrev pub DerivationAt : Derivation → Tables → Type 0
DerivationAt d t = derivation_few d ≡ true

abbrev pub DerivationsAt : List Derivation → Tables → Type 0
DerivationsAt ds t = derivations_few ds ≡ true

-- ---- parts

pub record TypingKeeps (f : Typing) : Type 0 where
  pub goes : (around : Around) (s : Tables) → IsFit s → Goes (OperandAt around.in_entry) s (f around s)

pub record ReachKeeps (f : Reach) : Type 0 where
  pub goes : (around : Around) (left : Operand) (s : Tables) → IsFit s → IsOperand (range around.in_entry s) left → Goes (OperandAt around.in_entry) s (f around left s)

pub record NamingKeeps (f : Naming) : Type 0 where
  pub goes : (around : Around) (s : Tables) → IsFit s → Goes TypeAt s (f around s)

pub record FormingKeeps (f : Forming) : Type 0 where
  pub goes : (attrs : Attributes) (around : Around) (s : Tables) → IsFit s → Goes FormedAt s (f attrs around s)

pub record SpecifyingKeeps (f : Specifying) : Type 0 where
  pub goes : (stored : Bool) (around : Around) (it : Specified) (s : Tables) → IsFit s → words_few it.words ≡ true → Goes SpecifiedAt s (f stored around it s)

pub record AddingKeeps (f : Adding) : Type 0 where
  pub goes : (around : Around) (l : Layout) (s : Tables) → IsFit s → members_few l.members ≡ true → Goes LayoutAt s (f around l s)

pub record PassingKeeps (f : Passing) : Type 0 where
  pub goes : (around : Around) (s : Tables) → IsFit s → Goes ParamAt s (f around s)

pub record ListingKeeps (f : Listing) : Type 0 where
  pub goes : (around : Around) (s : Tables) → IsFit s → Goes ParamsAt s (f around s)

pub record DerivingKeeps (f : Deriving) : Type 0 where
  pub goes : (around : Around) (s : Tables) → IsFit s → Goes DerivationAt s (f around s)

abbrev pub option_keeps : Option Typing → Type 0
option_keeps None = Unit {0}
option_keeps (Some f) = TypingKeeps f

pub record DeclaringKeeps (d : Declaring) : Type 0 where
  pub form : FormingKeeps d.form

pub record TaggedKeeps (x : Tagged) : Type 0 where
  pub names : NamingKeeps x.names

pub record CountingKeeps (e : Counting) : Type 0 where
  pub value : option_keeps e.value

pub record LinkedKeeps (l : Linked) : Type 0 where
  pub operand : TypingKeeps l.operand

pub record FollowingKeeps (c : Following) : Type 0 where
  pub value : TypingKeeps c.value
