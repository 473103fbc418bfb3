use Rattle.std.proofs.Common.{◌≡◌, ◌≤◌, ◌+◌, drop, length}
use Rattle.std.specs.Prelude.{IsTrue}
use Rattle.c_tree.specs.Limits.{capped}
use Rattle.c_tree.specs.Placed.{stmt_taken}
use Rattle.c_tree.specs.Slots.{all_fit, placed_bytes, placed_from}
use Rattle.c_tree.proofs.frame.placed_bytes.Given as goal

abbrev pub invariant-loop-local : goal.invariant-loop-local
invariant-loop-local l = record {
  so_far : capped (l.bytes + placed_from (stmt_taken l.f.body) l.n (drop l.local-index l.locals)) ≡ capped (placed_bytes l.f);
  number : l.n ≡ length l.f.params + l.local-index;
  bounded : l.bytes ≤ 18446744073709551615;
  fit : IsTrue (all_fit (drop l.local-index l.locals));
}
