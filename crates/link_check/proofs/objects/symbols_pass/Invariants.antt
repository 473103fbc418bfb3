use Rattle.std.proofs.Common.{◌≡◌, drop}
use Rattle.std.specs.List.{list_all}
use Rattle.link_check.specs.Checks.{symbol_passes}
use Rattle.link_check.proofs.objects.symbols_pass.Given as goal

abbrev pub invariant-loop-s : goal.invariant-loop-s
invariant-loop-s l = list_all (symbol_passes l.objects l.o) l.o.symbols ≡ list_all (symbol_passes l.objects l.o) (drop l.s-index l.o.symbols)
