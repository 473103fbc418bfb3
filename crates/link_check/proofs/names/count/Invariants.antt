use Rattle.std.proofs.Common.{◌≡◌, ◌≤◌, take}
use Rattle.link_check.specs.Checks.{count_in}
use Rattle.link_check.proofs.names.count.Given as goal

abbrev pub invariant-loop-s : goal.invariant-loop-s
invariant-loop-s l = record {
  found : l.found ≡ count_in l.name (take l.s-index l.symbols);
  few : l.found ≤ l.s-index;
}
