-- The machine when the device is reset (DDI0553, Reset).
use Rattle.ns_types.specs.declared.state.Cpu.{Cpu}
use Rattle.ns_types.specs.declared.state.Side.TheVariants.{Secure}
use Rattle.ns_types.specs.declared.turn.Start.{Start}
use Rattle.ns_types.specs.State.{Device, State}
use Rattle.ns_types.specs.Platform.{aligned}
use Rattle.ns_types.specs.Memory.{word_at, memory_of}

-- The first word of Secure ROM is the main stack pointer, which has no low two bits, and the second the reset
-- address, without bit 0. All other registers are 0 but LR.
abbrev pub reset_cpu : Device → Cpu
reset_cpu device = record {
  side = Secure;
  regs = record {
    r0 = 0;
    r1 = 0;
    r2 = 0;
    r3 = 0;
    r4 = 0;
    r5 = 0;
    r6 = 0;
    r7 = 0;
    r8 = 0;
    r9 = 0;
    r10 = 0;
    r11 = 0;
    r12 = 0;
    sp = aligned 4 (word_at device.rom 0);
    lr = 0xFFFFFFFF;
  };
  pc = aligned 2 (word_at device.rom 4);
  nzcvq = 0;
  psp = 0;
  msplim = 0;
  psplim = 0;
  msp_ns = 0;
  psp_ns = 0;
}

abbrev pub reset_of : Device → Start → State
reset_of device start = record { cpu = reset_cpu device; memory = memory_of start }
