use Rattle.std.proofs.Common.{refl}
use Rattle.v8m_core.proofs.Steps.{read_none, read_some}
use Rattle.v8m_core.proofs.decoder.decoded.Goals as goal

pub returns-in-Some-clause-ok : goal.returns-in-Some-clause-ok
returns-in-Some-clause-ok c =
    (refl, c.in-Some.ensures.back.in_range, read_some _ c.in-Some.instr c.in-Some.size c.in-Some.ensures.is)

pub returns-in-None-clause-err : goal.returns-in-None-clause-err
returns-in-None-clause-err c = (refl, read_none _ c.in-None.ensures.is)
