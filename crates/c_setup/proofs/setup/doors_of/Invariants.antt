use Rattle.std.proofs.Common.{◌≡◌, take, map}
use Rattle.c_world.specs.Setups.{door_of}
use Rattle.c_setup.proofs.setup.doors_of.Given as goal

abbrev pub invariant-loop-v : goal.invariant-loop-v
invariant-loop-v l = l.doors ≡ map (door_of l.entries) (take l.v-index l.veneers)
