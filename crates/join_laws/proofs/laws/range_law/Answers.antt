use Rattle.std.proofs.Common.{◌+◌, length}
use Rattle.join_laws.proofs.InRange.{in_range_after}
use Rattle.join_laws.proofs.laws.range_law.Goals as goal

pub returns : goal.returns
returns c numbers before after f carried within defined =
    in_range_after numbers (record { names = before; locals = length f.params + length f.locals; entry = f.entry }) after carried.0 carried.1 f.body within defined
