use Rattle.std.proofs.Common.{◌≡◌, take}
use Rattle.join_laws.specs.Keys.{numbers_of}
use Rattle.c_join.proofs.seen.Seen.numbers.Given as goal

abbrev pub invariant-loop-x : goal.invariant-loop-x
invariant-loop-x l = l.numbers ≡ numbers_of l.self.functions l.self.globals l.unit (take l.x-index l.externs)
