use Rattle.std.proofs.Common.{◌≡◌, ◌+◌, drop}
use Rattle.link_check.specs.Checks.{text_size}
use Rattle.link_check.proofs.objects.texts_fit.Given as goal

abbrev pub invariant-loop-o : goal.invariant-loop-o
invariant-loop-o l = text_size l.objects + l.left ≡ text_size (drop l.o-index l.objects) + 4100096
