use Rattle.std.proofs.Common.{sym, ◌∙◌, arith}
use Rattle.asm_fix.proofs.Joins.{fewer, passed, passed_all}
use Rattle.asm_fix.proofs.fixing.places.Goals as goal

pub overflow_add-at : goal.overflow_add-at
overflow_add-at c =
    omega (arith, fewer c.args.asm.now c.loop-a.a-index c.loop-a.at c.size-at.result _ (omega arith) c.size-at.ensures c.loop-a.invariant.at)

pub loop-a-preserved : goal.loop-a-preserved
loop-a-preserved c = record {
  labels = λ q. passed c.args.asm.now q c.loop-a.a-index c.loop-a.at c.size-at.result _ _ _ (omega arith) c.size-at.ensures (c.in_ok-note.ensures q) (c.loop-a.invariant.labels q);
  at = fewer c.args.asm.now c.loop-a.a-index c.loop-a.at c.size-at.result _ (omega arith) c.size-at.ensures c.loop-a.invariant.at;
}

pub returns : goal.returns
returns c = λ l. sym (passed_all c.args.asm.now l c.loop-a.a-index c.loop-a.at _ (omega arith)) ∙ c.loop-a.invariant.labels l
