use Rattle.std.proofs.Common.{◌≡◌, ◌+◌, ◌≤◌, drop}
use Rattle.elf_object.specs.CanLink.{definitions}
use Rattle.link_check.proofs.names.is_once.Given as goal

abbrev pub invariant-loop-o : goal.invariant-loop-o
invariant-loop-o l = record {
  found : l.found + definitions (drop l.o-index l.objects) l.name ≡ definitions l.objects l.name;
  few : l.found ≤ 1;
}
