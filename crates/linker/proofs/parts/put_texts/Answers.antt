use Rattle.std.proofs.Common.{◌++◌, take, flat_map, sym, ap, ◌∙◌, append_assoc}
use Rattle.linker.specs.Passes.{text_part}
use Rattle.linker.proofs.LoopLaws.{more}
use Rattle.linker.proofs.parts.put_texts.Goals as goal

pub loop-s-preserved : goal.loop-s-preserved
loop-s-preserved c =
    let x = c.s-item.result in
    c.in_ok-put_text.ensures
    ∙ (ap (λ l. l ++ text_part c.args.entries.now c.args.names.now x) c.loop-s.invariant
    ∙ (append_assoc c.args.to.now (flat_map (text_part c.args.entries.now c.args.names.now) (take c.loop-s.s-index c.args.all.now)) (text_part c.args.entries.now c.args.names.now x)
    ∙ ap (λ l. c.args.to.now ++ l) (sym (more (text_part c.args.entries.now c.args.names.now) c.args.all.now c.loop-s.s-index x c.loop-s-test.true c.s-item.is))))
