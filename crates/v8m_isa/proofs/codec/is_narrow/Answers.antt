use Rattle.std.proofs.Common.{◌≡◌, ◌∙◌, false, ltb, arith}
use Rattle.std.proofs.lemmas.Bool.Decides.{nat_tests}
use Rattle.v8m_isa.proofs.DecodingLaws.{narrow_below, narrow_above}
use Rattle.v8m_isa.proofs.codec.is_narrow.Goals as goal

pub returns-then-bits-lt29 : goal.returns-then-bits-lt29
returns-then-bits-lt29 c = c.is_some.ensures ∙ narrow_below c.args.first c.decode.result (omega arith) c.decode.ensures.is

pub returns-else-bits-lt29 : goal.returns-else-bits-lt29
returns-else-bits-lt29 c =
    let other : ltb c.bits.result 29 ≡ false = grind (arith, nat_tests) in
    other ∙ narrow_above c.args.first (omega arith)
