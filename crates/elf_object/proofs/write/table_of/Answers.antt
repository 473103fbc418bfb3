use Rattle.std.proofs.Common.{ℕ, length, ap, arith, length-append}
use Rattle.elf_object.proofs.write.table_of.Goals as goal

pub push-requires : goal.push-requires
push-requires c = omega (arith, length-append {A = ℕ}, ap length c.loop-symbol.invariant.strings)
