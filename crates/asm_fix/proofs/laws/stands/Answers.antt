use Rattle.std.proofs.Common.{arith}
use Rattle.asm_fix.proofs.Stands.{has_asm}
use Rattle.asm_fix.proofs.laws.stands.Goals as goal

pub returns : goal.returns
returns c = λ device base asm low f once h. has_asm device base asm (omega arith) f once h
