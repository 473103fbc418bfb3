use Rattle.std.proofs.Common.{◌≡◌, ◌<◌, ◌^◌, drop}
use Rattle.c_lex.specs.Spelling.{value_from, value_of}
use Rattle.c_lex.proofs.numbers.value_of.Given as goal

abbrev pub invariant-loop-d : goal.invariant-loop-d
invariant-loop-d l = record {
  so_far : value_from l.base l.value (drop l.d-index l.digits) ≡ value_of l.base l.digits;
  fits : l.value < 2 ^ 32;
}
