use Rattle.std.proofs.Common.{◌≡◌, ◌+◌, drop, map}
use Rattle.std.specs.List.{position_or_len}
use Rattle.c_mean.specs.Stmts.{Arm, arm as arm_of}
use Rattle.c_world.proofs.operate.case_at.Given as goal

abbrev pub invariant-loop-part : goal.invariant-loop-part
invariant-loop-part l = record {
  counted : l.k ≡ l.part-index;
  so_far : l.k + position_or_len (λ (arm : Arm). arm.is_case l.x) (map arm_of (drop l.part-index l.parts)) ≡ position_or_len (λ (arm : Arm). arm.is_case l.x) (map arm_of l.parts);
}
