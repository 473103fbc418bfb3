use Rattle.std.proofs.Common.{◌<◌, ap, ◌∙◌, arith}
use Rattle.ns_types.specs.State.{State}
use Rattle.ns_types.specs.Platform.{aligned}
use Rattle.v8m_core.specs.Step.{went}
use Rattle.v8m_core.specs.Parts.{state}
use Rattle.v8m_core.proofs.CallLaws.{back_at, call_of_return, call_of_return_out}
use Rattle.v8m_core.proofs.gates.call_of_return.Goals as goal

pub returns-then-not-is_in_rom-clause-step : goal.returns-then-not-is_in_rom-clause-step
returns-then-not-is_in_rom-clause-step c =
    let fits : c.args.cpu.now.regs.sp < 4294967296 = omega (arith, c.get-sp.ensures, c.get-sp.type_inv) in
    let before : State = state c.args.cpu.now c.args.memory.now.memory in
    call_of_return_out c.args.back c.args.memory.now.device before c.each_is_whole.ensures.memory fits (omega arith) c.requires (cc)
    ∙ cc

pub returns-clause-step : goal.returns-clause-step
returns-clause-step c =
    let fits : c.args.cpu.now.regs.sp < 4294967296 = omega (arith, c.get-sp.ensures, c.get-sp.type_inv) in
    let before : State = state c.args.cpu.now c.args.memory.now.memory in
    call_of_return c.args.back c.args.memory.now.device before c.each_is_whole.ensures.memory fits (omega arith) c.requires (cc)
    ∙ ap (λ (t : State). went (back_at c.args.cpu.now.regs.sp (aligned 2 c.args.back) t)) c.call.ensures.called
    ∙ cc
