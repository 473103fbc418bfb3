use Rattle.v8m_laws.proofs.Accesses.{load_rows, store_rows, control_kept, control_rows}
use Rattle.v8m_laws.proofs.laws.rows.Goals as goal

pub returns-clause-read : goal.returns-clause-read
returns-clause-read c = load_rows

pub returns-clause-write : goal.returns-clause-write
returns-clause-write c = store_rows

pub returns-clause-control : goal.returns-clause-control
returns-clause-control c = control_kept

pub returns-clause-kept : goal.returns-clause-kept
returns-clause-kept c = control_rows
