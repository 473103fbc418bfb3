use Rattle.std.proofs.Common.{◌≡◌, ◌+◌, ◌≤◌, drop}
use Rattle.mid_ir.specs.Limits.{capped}
use Rattle.mid_ir.specs.Cost.{all_count}
use Rattle.mid_ir.proofs.cost.+counts.Given as goal

abbrev pub invariant-all_count-loop-s : goal.invariant-all_count-loop-s
invariant-all_count-loop-s l = record { rest : capped (l.n + all_count (drop l.s-index l.list)) ≡ capped (all_count l.list); fits : l.n ≤ 18446744073709551615 }
