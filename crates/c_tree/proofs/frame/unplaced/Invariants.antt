use Rattle.std.proofs.Common.{◌≡◌, ◌≤◌, ◌+◌, drop, length}
use Rattle.c_tree.specs.Placed.{stmt_taken}
use Rattle.c_tree.specs.Slots.{unplaced, unplaced_from}
use Rattle.c_tree.proofs.frame.unplaced.Given as goal

abbrev pub invariant-loop-local : goal.invariant-loop-local
invariant-loop-local l = record {
  so_far : l.count + unplaced_from (stmt_taken l.f.body) l.n (drop l.local-index l.locals) ≡ unplaced l.f;
  number : l.n ≡ length l.f.params + l.local-index;
  few : l.count ≤ l.local-index;
}
