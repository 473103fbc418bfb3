use Rattle.std.proofs.Common.{◌∙◌, sym}
use Rattle.ns_turns.proofs.RunLaws.{run_comes}
use Rattle.ns_turns.proofs.running.go_on.Goals as goal

pub returns-in-Secure-clause-steps : goal.returns-in-Secure-clause-steps
returns-in-Secure-clause-steps c =
    let side = sym c.side.ensures ∙ c.in-Secure.is in
    λ ts n. run_comes c.args.machine.now.device c.go_on.result n ts c.args.machine.now.state c.go_on.new.self.state side c.go_on.ensures.steps
