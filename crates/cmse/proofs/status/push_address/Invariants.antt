use Rattle.std.proofs.Common.{◌≡◌, ◌++◌, ◌/◌, ◌%◌, map, take}
use Rattle.cmse.specs.Status.{hex_digit}
use Rattle.cmse.specs.declared.status.TheConstants.{PLACES}
use Rattle.cmse.proofs.status.push_address.Given as goal

abbrev pub invariant-loop-place : goal.invariant-loop-place
invariant-loop-place l =
    l.out ≡ l.initial.out ++ map (λ place. hex_digit (l.address / place % 16)) (take l.place-index PLACES)
