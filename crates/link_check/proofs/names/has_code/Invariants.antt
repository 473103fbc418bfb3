use Rattle.std.proofs.Common.{◌≡◌, drop}
use Rattle.link_check.specs.Checks.{has_code}
use Rattle.link_check.proofs.names.has_code.Given as goal

abbrev pub invariant-loop-o : goal.invariant-loop-o
invariant-loop-o l = has_code l.objects l.name ≡ has_code (drop l.o-index l.objects) l.name
