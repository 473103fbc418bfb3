use Rattle.std.proofs.Common.{◌≡◌, drop}
use Rattle.c_world.specs.Setups.{entry_at}
use Rattle.c_world.proofs.setup.entry_at.Given as goal

abbrev pub invariant-loop-door : goal.invariant-loop-door
invariant-loop-door l = entry_at (drop l.door-index l.doors) l.a ≡ entry_at l.doors l.a
