use Rattle.std.proofs.Common.{◌≡◌, ℕ, List, drop}
use Rattle.ns_types.specs.Turns.{Turn}
use Rattle.c_mean.specs.Calls.{all_homed}
use Rattle.c_world.specs.Here.{here}
use Rattle.c_world.specs.Seen.{seen}
use Rattle.c_world.specs.Setups.{Setup}
use Rattle.c_world.proofs.places.home_params.Given as goal

abbrev pub invariant-loop-x : goal.invariant-loop-x
invariant-loop-x l = (script : List Turn) (s : Setup)
    → all_homed 0 l.params (here s l.plan l.at) l.locals (seen script l.fn.live) ≡ all_homed l.n (drop l.x-index l.params) (here s l.plan l.at) l.locals (seen script l.live)
