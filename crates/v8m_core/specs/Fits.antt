-- States that a processor can hold: each number fits where it stands.
use Rattle.std.specs.Prelude.{◌<◌}
use Rattle.ns_types.specs.declared.state.Regs.{Regs}
use Rattle.ns_types.specs.declared.state.Cpu.{Cpu}
use Rattle.ns_types.specs.State.{State}
use Rattle.ns_types.specs.Turns.{IsWord}
use Rattle.ns_types.specs.Memory.{IsWhole}

-- each register holds a word
pub record RegsFit (r : Regs) : Type 0 where
  pub r0 : IsWord r.r0
  pub r1 : IsWord r.r1
  pub r2 : IsWord r.r2
  pub r3 : IsWord r.r3
  pub r4 : IsWord r.r4
  pub r5 : IsWord r.r5
  pub r6 : IsWord r.r6
  pub r7 : IsWord r.r7
  pub r8 : IsWord r.r8
  pub r9 : IsWord r.r9
  pub r10 : IsWord r.r10
  pub r11 : IsWord r.r11
  pub r12 : IsWord r.r12
  pub sp : IsWord r.sp
  pub lr : IsWord r.lr

-- so do the program counter and the special registers, and there are five flags
pub record CpuFits (c : Cpu) : Type 0 where
  pub regs : RegsFit c.regs
  pub pc : IsWord c.pc
  pub nzcvq : c.nzcvq < 32
  pub psp : IsWord c.psp
  pub msplim : IsWord c.msplim
  pub psplim : IsWord c.psplim
  pub msp_ns : IsWord c.msp_ns
  pub psp_ns : IsWord c.psp_ns

-- and memory has the bytes of its rows
pub record Fits (s : State) : Type 0 where
  pub cpu : CpuFits s.cpu
  pub memory : IsWhole s.memory
