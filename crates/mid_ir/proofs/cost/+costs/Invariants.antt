use Rattle.std.proofs.Common.{◌≡◌, ◌+◌, ◌≤◌, drop}
use Rattle.mid_ir.specs.Limits.{capped}
use Rattle.mid_ir.specs.Cost.{all_cost}
use Rattle.mid_ir.proofs.cost.+costs.Given as goal

abbrev pub invariant-all_cost-loop-s : goal.invariant-all_cost-loop-s
invariant-all_cost-loop-s l = record { rest : capped (l.n + all_cost (drop l.s-index l.list)) ≡ capped (all_cost l.list); fits : l.n ≤ 18446744073709551615 }
