use Rattle.std.proofs.Common.{arith}
use Rattle.cmse.proofs.NumberLaws.{digits_room}
use Rattle.cmse.proofs.words.number.Goals as goal

pub overflow_mul-n : goal.overflow_mul-n
overflow_mul-n c =
    omega (arith, digits_room c.loop-c.n c.loop-c.c-index c.loop-c.invariant.1 (omega (arith, c.loop-c-test.true, c.loop-c.invariant.2)))
