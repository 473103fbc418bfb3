use Rattle.v8m_isa.proofs.DecodingLaws.{decode_of-read, code_of-decode_of, is_narrow-read, read-is_narrow, size-code_of}
use Rattle.v8m_isa.proofs.laws.manual_halfwords.Goals as goal

pub returns-clause-reads : goal.returns-clause-reads
returns-clause-reads c first second i size lt r = decode_of-read first second i size lt r

pub returns-clause-only : goal.returns-clause-only
returns-clause-only c first second d lt e = code_of-decode_of first second d lt e

pub returns-clause-narrow : goal.returns-clause-narrow
returns-clause-narrow c first second i r = is_narrow-read first second i r

pub returns-clause-only_narrow : goal.returns-clause-only_narrow
returns-clause-only_narrow c first h = read-is_narrow first h

pub returns-clause-sizes : goal.returns-clause-sizes
returns-clause-sizes c i = size-code_of i
