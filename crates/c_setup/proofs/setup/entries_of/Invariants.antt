use Rattle.std.proofs.Common.{◌≡◌, ◌++◌, drop}
use Rattle.c_world.specs.Setups.{entry_numbers}
use Rattle.c_setup.proofs.setup.entries_of.Given as goal

abbrev pub invariant-loop-f : goal.invariant-loop-f
invariant-loop-f l = record {
  counted : l.n ≡ l.f-index;
  so_far : l.entries ++ entry_numbers l.n (drop l.f-index l.functions) ≡ entry_numbers 0 l.functions;
}
