use Rattle.std.proofs.Common.{◌≡◌, drop}
use Rattle.std.specs.Prelude.{false}
use Rattle.std.specs.List.{filter, fold}
use Rattle.c_mean.specs.Homes.{contents, with_contents}
use Rattle.c_tree.specs.Globals.{stands}
use Rattle.c_homes.proofs.globals.contents.Given as goal

abbrev pub invariant-loop-g : goal.invariant-loop-g
invariant-loop-g l = fold with_contents l.bytes (filter (stands false) (drop l.g-index l.globals)) ≡ contents l.globals
