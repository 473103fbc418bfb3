use Rattle.std.proofs.Common.{◌≡◌, drop}
use Rattle.std.specs.List.{list_any}
use Rattle.cmse_build.specs.Reading.{meets}
use Rattle.cmse_build.proofs.load.meets_any.Given as goal

abbrev pub invariant-loop-t : goal.invariant-loop-t
invariant-loop-t l = list_any (meets l.s) l.earlier ≡ list_any (meets l.s) (drop l.t-index l.earlier)
