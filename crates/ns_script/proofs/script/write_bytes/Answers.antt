use Rattle.std.proofs.Common.{◌+◌, get_or, slice_set, length, refl, ap, ◌∙◌}
use Rattle.ns_script.proofs.ScriptLaws.{write_next, write_none, set_size}
use Rattle.ns_script.proofs.script.write_bytes.Goals as goal

pub loop-i-init : goal.loop-i-init
loop-i-init c = (write_none c.args.to.now c.args.at c.args.more.now, refl)

pub loop-i-preserved : goal.loop-i-preserved
loop-i-preserved c = (
  c.set.ensures
      ∙ ap (λ l. slice_set l (c.args.at + c.loop-i.i) (get_or c.args.more.now c.loop-i.i 0)) c.loop-i.invariant.0
      ∙ write_next c.args.to.now c.args.at c.args.more.now c.loop-i.i c.requires c.loop-i-test.true,
  ap length c.set.ensures ∙ set_size c.loop-i.to (c.args.at + c.loop-i.i) (get_or c.args.more.now c.loop-i.i 0) ∙ c.loop-i.invariant.1,
)
