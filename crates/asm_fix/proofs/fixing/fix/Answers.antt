use Rattle.std.proofs.Common.{ap, ◌∙◌, arith}
use Rattle.std.specs.Prelude.{unwrap_or}
use Rattle.asm_fix.specs.Fixed.{place_of}
use Rattle.asm_fix.proofs.Joins.{fewer, still_even, put_more, put_all, member_range}
use Rattle.asm_fix.proofs.fixing.fix.Goals as goal

pub put-requires-clause-range : goal.put-requires-clause-range
put-requires-clause-range c =
    member_range c.args.asm.now _ c.loop-a.a-index c.loop-a.at _ (omega arith) (λ l. ap (λ o. unwrap_or o 0) (c.in_ok-places.ensures l)) c.loop-a.invariant.even c.loop-a.invariant.at c.requires.short c.requires.range

pub overflow_add-at : goal.overflow_add-at
overflow_add-at c =
    omega (arith, fewer c.args.asm.now c.loop-a.a-index c.loop-a.at c.size-at.result _ (omega arith) c.size-at.ensures c.loop-a.invariant.at)

pub loop-a-preserved : goal.loop-a-preserved
loop-a-preserved c = record {
  bytes = put_more c.args.asm.now _ (place_of c.args.asm.now) c.loop-a.a-index c.loop-a.at c.size-at.result _ _ _ _ (omega arith) (λ l. ap (λ o. unwrap_or o 0) (c.in_ok-places.ensures l)) c.size-at.ensures c.in_ok-put.ensures c.loop-a.invariant.bytes;
  at = fewer c.args.asm.now c.loop-a.a-index c.loop-a.at c.size-at.result _ (omega arith) c.size-at.ensures c.loop-a.invariant.at;
  even = still_even _ c.loop-a.at c.size-at.result c.size-at.ensures c.loop-a.invariant.even;
}

pub returns : goal.returns
returns c = put_all c.args.asm.now (place_of c.args.asm.now) c.loop-a.a-index c.loop-a.at _ _ (omega arith) c.loop-a.invariant.bytes
