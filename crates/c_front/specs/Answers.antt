-- What the front end and its steps answer: what the sources say, unless memory runs out.
use Rattle.std.specs.Prelude.{◌≡◌, List, Result, Ok, Err}
use Rattle.cm_base.specs.declared.place.Refusal.TheVariants as refusal
use Rattle.c_tree.specs.Conditions.{Program, TUnit}
use Rattle.c_rows.specs.declared.fault.TypeFault.{TypeFault}
use Rattle.c_rows.specs.declared.fault.TypeFault.TheVariants.{At, NoMemory}
use Rattle.c_rows.specs.Answers.{Checked, fault}
use Rattle.join_laws.specs.declared.fault.JoinFault.TheVariants as fails
use Rattle.join_laws.specs.Joined.{joined}
use Rattle.c_front.specs.declared.sources.BuildFault.{BuildFault}
use Rattle.c_front.specs.declared.sources.BuildFault.TheVariants as build
use Rattle.c_front.specs.declared.sources.Source.{Source}
use Rattle.c_front.specs.Front.{AllSay, Faults, Front}

-- a typed tree or a fault of which this holds
abbrev pub Told : (Checked TUnit → Type 0) → Checked TUnit → Type 0
Told P (Ok u) = P (Ok u)
Told P (Err (At code place)) = P (fault code place)
Told P (Err NoMemory) = Unit {0}

-- a fault of a source is told with its file
abbrev pub Refuses : Source → TypeFault → BuildFault → Type 0
Refuses s (At code place) (build.Refused r) = r ≡ refusal.At code s.name place.line place.col
Refuses s NoMemory (build.Refused r) = ⊥
Refuses s e build.NoMemory = Unit {0}

abbrev pub UnitsTold : List Source → Result (List TUnit) BuildFault → Type 0
UnitsTold sources (Ok us) = AllSay 0 sources us
UnitsTold sources (Err (build.Refused r)) = Faults 0 sources r
UnitsTold sources (Err build.NoMemory) = Unit {0}

-- a fault of a join, as it is told
abbrev pub JoinRefused : List TUnit → BuildFault → Type 0
JoinRefused us (build.Refused (refusal.Named code name)) = joined us ≡ Err (fails.Named code name)
JoinRefused us (build.Refused (refusal.Count code found)) = joined us ≡ Err (fails.Count code found)
JoinRefused us (build.Refused _) = ⊥
JoinRefused us build.NoMemory = Unit {0}

abbrev pub JoinTold : List TUnit → Result Program BuildFault → Type 0
JoinTold us (Ok p) = joined us ≡ Ok p
JoinTold us (Err e) = JoinRefused us e

-- the program of these sources, or the first fault
abbrev pub Answers : List Source → Result Program BuildFault → Type 0
Answers sources (Ok p) = Front sources (Ok p)
Answers sources (Err (build.Refused r)) = Front sources (Err r)
Answers sources (Err build.NoMemory) = Unit {0}
