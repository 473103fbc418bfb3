use Rattle.c_lex.proofs.SplitLaws.{one_list, not_both, one_fault}
use Rattle.c_lex.proofs.WholeLaws.{has_answer}
use Rattle.c_lex.proofs.laws.one_split.Goals as goal

pub returns-clause-one_list : goal.returns-clause-one_list
returns-clause-one_list c = one_list

pub returns-clause-not_both : goal.returns-clause-not_both
returns-clause-not_both c = not_both

pub returns-clause-one_fault : goal.returns-clause-one_fault
returns-clause-one_fault c = one_fault

pub returns-clause-some : goal.returns-clause-some
returns-clause-some c = has_answer
