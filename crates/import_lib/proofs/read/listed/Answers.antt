use Rattle.import_lib.proofs.Tables.{symbols_next, symbols_end, passed_on}
use Rattle.import_lib.proofs.read.listed.Goals as goal

pub returns-in_err-add_symbol : goal.returns-in_err-add_symbol
returns-in_err-add_symbol c =
    passed_on c.from_residual.result _ _ c.from_residual.ensures.1
    (symbols_end c.args.bytes.now c.args.strings.now c.args.table.now _ _ _ _ c.loop-k.invariant.reads c.loop-k-test.true c.in_err-add_symbol.field-0.0 _ c.in_err-add_symbol.ensures.value)

pub loop-k-preserved : goal.loop-k-preserved
loop-k-preserved c = record {
  reads = symbols_next c.args.bytes.now c.args.strings.now c.args.table.now _ _ _ _ c.loop-k.invariant.reads c.loop-k-test.true _ c.in_ok-add_symbol.ensures.value;
  names = c.in_ok-add_symbol.ensures.names;
}
