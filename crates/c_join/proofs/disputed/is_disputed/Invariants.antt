use Rattle.std.proofs.Common.{◌≡◌, drop}
use Rattle.std.specs.List.{list_any}
use Rattle.c_tree.specs.Conditions.{declared}
use Rattle.join_laws.specs.Joined.{differs}
use Rattle.c_join.proofs.disputed.is_disputed.Given as goal

abbrev pub invariant-loop-i : goal.invariant-loop-i
invariant-loop-i l = list_any (λ u. differs l.x (declared u.externs l.x.name)) (drop l.i l.before) ≡ list_any (λ u. differs l.x (declared u.externs l.x.name)) l.before
