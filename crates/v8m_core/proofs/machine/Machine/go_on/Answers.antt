use Rattle.std.proofs.Common.{◌≡◌, ◌∙◌, refl, ap, sym, subst, arith}
use Rattle.v8m_core.specs.Code.{Comes}
use Rattle.v8m_core.specs.Step.{step_of}
use Rattle.v8m_core.specs.Parts.{state}
use Rattle.v8m_core.proofs.Runs.{comes_on}
use Rattle.v8m_core.proofs.machine.Machine.go_on.Goals as goal

pub returns-then-not-go_on-clause-device : goal.returns-then-not-go_on-clause-device
returns-then-not-go_on-clause-device c = c.go_on.ensures.device ∙ c.loop-taken.invariant.device

pub returns-then-not-go_on-clause-steps : goal.returns-then-not-go_on-clause-steps
returns-then-not-go_on-clause-steps c =
    subst (λ t. Comes c.args.self.now.device c.loop-taken.taken c.args.self.now.state t) (sym c.if-not-go_on.ensures.still) c.loop-taken.invariant.steps

pub loop-taken-preserved : goal.loop-taken-preserved
loop-taken-preserved c =
    let inside = c.loop-taken.self-inside in
    let t = state inside.cpu inside.memory.memory in
    let u = state c.go_on.new.cpu c.go_on.new.memory.memory in
    let device = c.args.self.now.device in
    let step = ap (λ r. step_of r t) (sym c.loop-taken.invariant.device) ∙ c.if-not-go_on.ensures.on in
    record {
      device = c.go_on.ensures.device ∙ c.loop-taken.invariant.device;
      kept = c.go_on.ensures.kept;
      steps = comes_on device c.loop-taken.taken 1 c.args.self.now.state t u c.loop-taken.invariant.steps (u, step, refl);
    }

pub returns-clause-steps : goal.returns-clause-steps
returns-clause-steps c =
    let inside = c.loop-taken.self-inside in
    let all : c.loop-taken.taken ≡ c.args.most = omega arith in
    subst (λ k. Comes c.args.self.now.device k c.args.self.now.state (state inside.cpu inside.memory.memory)) all c.loop-taken.invariant.steps
