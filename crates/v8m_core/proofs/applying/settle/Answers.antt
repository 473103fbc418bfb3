use Rattle.v8m_core.specs.Parts.{state}
use Rattle.v8m_core.proofs.Ending.{put_ends}
use Rattle.v8m_core.proofs.applying.settle.Goals as goal

pub returns-in-Put-clause-step : goal.returns-in-Put-clause-step
returns-in-Put-clause-step c =
    let m = c.args.memory.now.memory in
    put_ends c.args.memory.now.device c.args.effect c.args.size c.in-Put.d c.in-Put.v (state c.args.cpu.now m) (state c.write_register.new.cpu m) c.write_register.result c.in-Put.is (c.write_register.ensures m)
