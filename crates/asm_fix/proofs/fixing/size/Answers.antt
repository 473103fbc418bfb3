use Rattle.std.proofs.Common.{◌≡◌, refl}
use Rattle.v8m_isa.specs.Table.{size_of}
use Rattle.v8m_isa.proofs.DecodingLaws.{size-code_of}
use Rattle.asm_fix.specs.declared.asm.Asm.TheVariants.{Op}
use Rattle.asm_fix.specs.Fixed.{member_size}
use Rattle.asm_fix.proofs.fixing.size.Goals as goal

pub returns-in-Op : goal.returns-in-Op
returns-in-Op c =
    let e = size-code_of c.in-Op.i in
    let f : member_size (Op c.in-Op.i) ≡ size_of c.in-Op.i = refl in
    cc
