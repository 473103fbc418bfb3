use Rattle.std.proofs.Common.{◌≡◌, ◌+◌, ◌≤◌, drop}
use Rattle.c_lex.specs.Spot as spec
use Rattle.c_lex.proofs.spot.Spot.after.Given as goal

abbrev pub invariant-loop-b : goal.invariant-loop-b
invariant-loop-b l = record {
  so_far : spec.after l.spot (drop l.b-index l.bytes) ≡ spec.after l.fn.self l.bytes;
  line : l.spot.line ≤ l.fn.self.line + l.b-index;
  col : l.spot.col ≤ l.fn.self.col + l.b-index;
}
