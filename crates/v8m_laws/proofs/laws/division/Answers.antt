use Rattle.v8m_laws.proofs.Operators.{quotient_is, signed_quotient_is, remainder_is, signed_remainder_is, divide_by_zero, signed_divide_by_zero, remainder_by_zero, signed_remainder_by_zero}
use Rattle.v8m_laws.proofs.laws.division.Goals as goal

pub returns-clause-unsigned : goal.returns-clause-unsigned
returns-clause-unsigned c = quotient_is

pub returns-clause-signed : goal.returns-clause-signed
returns-clause-signed c = signed_quotient_is

pub returns-clause-remainder : goal.returns-clause-remainder
returns-clause-remainder c = remainder_is

pub returns-clause-signed_remainder : goal.returns-clause-signed_remainder
returns-clause-signed_remainder c = signed_remainder_is

pub returns-clause-by_zero : goal.returns-clause-by_zero
returns-clause-by_zero c = divide_by_zero

pub returns-clause-signed_by_zero : goal.returns-clause-signed_by_zero
returns-clause-signed_by_zero c = signed_divide_by_zero

pub returns-clause-remainder_by_zero : goal.returns-clause-remainder_by_zero
returns-clause-remainder_by_zero c = remainder_by_zero

pub returns-clause-signed_remainder_by_zero : goal.returns-clause-signed_remainder_by_zero
returns-clause-signed_remainder_by_zero c = signed_remainder_by_zero
