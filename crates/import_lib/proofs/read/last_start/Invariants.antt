use Rattle.std.proofs.Common.{◌≡◌, take}
use Rattle.std.specs.Prelude.{nat_le, if◌then◌else◌}
use Rattle.std.specs.List.{fold}
use Rattle.import_lib.proofs.read.last_start.Given as goal

abbrev pub invariant-loop-at : goal.invariant-loop-at
invariant-loop-at l = l.best ≡ fold (λ best at. if nat_le at l.n then at else best) 0 (take l.at-index l.starts)
