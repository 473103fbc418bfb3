use Rattle.v8m_core.specs.Lists.{registers}
use Rattle.v8m_laws.proofs.Lists.{list_kept, list_rows, list_back, are_places}
use Rattle.v8m_laws.proofs.laws.lists.Goals as goal

pub returns-clause-kept : goal.returns-clause-kept
returns-clause-kept c = λ list r a b device m w out. list_kept list registers r a b device m (are_places _ _ w) out

pub returns-clause-rows : goal.returns-clause-rows
returns-clause-rows c = λ list r a m w from whole. (list_rows list registers r a m (are_places _ _ w) from whole).0

pub returns-clause-back : goal.returns-clause-back
returns-clause-back c = λ list device r u a m k small whole w as_stored. list_back list registers device r u a m k small whole (are_places _ _ w) as_stored
