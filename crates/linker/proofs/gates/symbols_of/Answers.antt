use Rattle.std.proofs.Common.{◌++◌, sym, ap, ◌∙◌}
use Rattle.linker.specs.Passes.{symbols_of_veneer}
use Rattle.linker.proofs.LoopLaws.{more}
use Rattle.linker.proofs.gates.symbols_of.Goals as goal

pub loop-v-preserved : goal.loop-v-preserved
loop-v-preserved c =
    let x = c.v-item.result in
    c.in_ok-add_symbols.ensures
    ∙ (ap (λ l. l ++ symbols_of_veneer c.args.names.now x) c.loop-v.invariant
    ∙ sym (more (symbols_of_veneer c.args.names.now) c.args.veneers.now c.loop-v.v-index x c.loop-v-test.true c.v-item.is))
