use Rattle.ns_types.specs.Show.{show}
use Rattle.ns_types.proofs.ShowLaws.{declares_itself, front_declares}
use Rattle.ns_types.specs.Declares.{HasFewArguments}
use Rattle.ns_types.proofs.EveryLaws.{run_holds}
use Rattle.ns_types.proofs.laws.declared.Goals as goal

pub returns-clause-front : goal.returns-clause-front
returns-clause-front c enters ms events few front = front_declares events (show enters ms) (declares_itself enters ms few) front

pub returns-clause-few : goal.returns-clause-few
returns-clause-few c enters enter keep turns start memory ts = run_holds HasFewArguments (record { started = tt; result = λ e x. tt; entry_point = tt; access = tt; return_fault = tt; astray = tt }) enters enter keep turns start memory ts
