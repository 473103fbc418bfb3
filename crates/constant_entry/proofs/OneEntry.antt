-- What the machine does with the program, whatever the name of its entry is.
use Rattle.std.proofs.Common.{ℕ, ◌<◌, List}
use Rattle.ns_turns.specs.Refines.{Refines, Only, OnlyDeclared}
use Rattle.ns_turns.specs.TwoWorlds.{TwoWorlds}
use Rattle.ns_turns.specs.Moments.{AlwaysKnowsRam}
use Rattle.ns_turns.specs.FirstHandOver.{BeginsSealed}
use Rattle.ns_turns.specs.Unseen.{Unseen}
use Rattle.ns_turns.proofs.OnlyLaws.{only_from_refines}
use Rattle.ns_turns.proofs.DeclareLaws.{declares}
use Rattle.ns_turns.proofs.SightLaws.{two_worlds}
use Rattle.ns_turns.proofs.FirstLaws.{begins_sealed}
use Rattle.ns_turns.proofs.UnseenLaws.{unseen}
use Rattle.constant_entry.specs.Code.{constant_device}
use Rattle.constant_entry.specs.Meaning.{enters_one, constant_run}
use Rattle.constant_entry.specs.Shows.{NeverStops}
use Rattle.constant_entry.proofs.Placed.{gives_constant}
use Rattle.constant_entry.proofs.Entering.{by_first}
use Rattle.constant_entry.proofs.Whole.{refines}
use Rattle.constant_entry.proofs.Clean.{stops_as_program}
use Rattle.constant_entry.proofs.Callers.{never_stops}
use Rattle.constant_entry.proofs.Tracked.{always_told, calls_few}
use Rattle.constant_entry.proofs.Room.{has_room, ignores_secure}
use Rattle.constant_entry.proofs.Quiet.{knows_ram}
use Rattle.constant_entry.proofs.Seals.{hands_over_sealed}

module _ (name : List ℕ) (n : ℕ) (small : n < 4294967296) where
  pub refines_one : Refines (constant_device n) (enters_one name) (constant_run (enters_one name) n)
  refines_one =
      by_first name (λ enters. Refines (constant_device n) enters (constant_run enters n)) (refines (constant_device n) n (gives_constant n small))

  pub only_one : Only (constant_device n) (enters_one name) (constant_run (enters_one name) n)
  only_one =
      only_from_refines (constant_device n) (enters_one name) (constant_run (enters_one name) n) refines_one (stops_as_program (enters_one name) n)

  pub declared_one : OnlyDeclared (constant_device n) (enters_one name) (constant_run (enters_one name) n)
  declared_one = declares (constant_device n) (enters_one name) (constant_run (enters_one name) n) only_one (calls_few (enters_one name) n)

  pub worlds_one : TwoWorlds (constant_device n) (enters_one name) (constant_run (enters_one name) n)
  worlds_one = two_worlds (constant_device n) (enters_one name) (constant_run (enters_one name) n) refines_one (always_told (enters_one name) n)

  pub ram_one : AlwaysKnowsRam (constant_device n) (enters_one name)
  ram_one = by_first name (AlwaysKnowsRam (constant_device n)) (knows_ram (constant_device n) n (gives_constant n small))

  pub unseen_one : Unseen (constant_device n)
  unseen_one =
      unseen (constant_device n) (enters_one name) (constant_run (enters_one name) n) refines_one (ignores_secure (enters_one name) n) (has_room (enters_one name) n)

  pub never_stops_one : NeverStops (constant_device n)
  never_stops_one = never_stops (constant_device n) (enters_one name) n only_one (has_room (enters_one name) n)

pub sealed_one : (n : ℕ) → n < 4294967296 → BeginsSealed (constant_device n)
sealed_one n small = begins_sealed (constant_device n) (hands_over_sealed (constant_device n) n (gives_constant n small))
