use Rattle.std.proofs.Common.{◌≡◌, ◌+◌, drop}
use Rattle.link_check.specs.Checks.{init_size}
use Rattle.link_check.proofs.objects.inits_fit.Given as goal

abbrev pub invariant-loop-o : goal.invariant-loop-o
invariant-loop-o l = init_size l.objects + l.left ≡ init_size (drop l.o-index l.objects) + 49152
