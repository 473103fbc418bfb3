use Rattle.range_laws.proofs.RowLaws as rows
use Rattle.range_laws.proofs.laws.place_law.Goals as goal

pub returns-clause-address : goal.returns-clause-address
returns-clause-address c a place e h = rows.address_law a place e h

pub returns-clause-members : goal.returns-clause-members
returns-clause-members c a place e t offset h f = rows.member_law a place e t offset h f

pub returns-clause-cast : goal.returns-clause-cast
returns-clause-cast c a place t e f h = rows.cast_law a place t e f h

pub returns-clause-assigned : goal.returns-clause-assigned
returns-clause-assigned c a place to e first h g = rows.assigned_law a place to e first h g

pub returns-clause-assigned_by : goal.returns-clause-assigned_by
returns-clause-assigned_by c a op place to v h g = rows.assigned_by_law a op place to v h g

pub returns-clause-stepped : goal.returns-clause-stepped
returns-clause-stepped c a place e is_up old h = rows.stepped_law a place e is_up old h
