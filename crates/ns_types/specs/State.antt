-- The state of the machine (DDI0553, Registers): r0 to r15, the special registers and memory.
use Rattle.std.specs.Prelude.{ℕ, zero, suc, List}
use Rattle.ns_types.specs.declared.state.Regs.{Regs}
use Rattle.ns_types.specs.declared.state.Cpu.{Cpu}

-- register n, 13 being SP and each number above it LR
abbrev pub get_of : Regs → ℕ → ℕ
get_of r zero = r.r0
get_of r (suc zero) = r.r1
get_of r (suc (suc zero)) = r.r2
get_of r (suc (suc (suc zero))) = r.r3
get_of r (suc (suc (suc (suc zero)))) = r.r4
get_of r (suc (suc (suc (suc (suc zero))))) = r.r5
get_of r (suc (suc (suc (suc (suc (suc zero)))))) = r.r6
get_of r (suc (suc (suc (suc (suc (suc (suc zero))))))) = r.r7
get_of r (suc (suc (suc (suc (suc (suc (suc (suc zero)))))))) = r.r8
get_of r (suc (suc (suc (suc (suc (suc (suc (suc (suc zero))))))))) = r.r9
get_of r (suc (suc (suc (suc (suc (suc (suc (suc (suc (suc zero)))))))))) = r.r10
get_of r (suc (suc (suc (suc (suc (suc (suc (suc (suc (suc (suc zero))))))))))) = r.r11
get_of r (suc (suc (suc (suc (suc (suc (suc (suc (suc (suc (suc (suc zero)))))))))))) = r.r12
get_of r (suc (suc (suc (suc (suc (suc (suc (suc (suc (suc (suc (suc (suc zero))))))))))))) = r.sp
get_of r (suc (suc (suc (suc (suc (suc (suc (suc (suc (suc (suc (suc (suc (suc n)))))))))))))) = r.lr

-- the registers with register n written
abbrev pub set_of : Regs → ℕ → ℕ → Regs
set_of r zero v = record r { r0 = v }
set_of r (suc zero) v = record r { r1 = v }
set_of r (suc (suc zero)) v = record r { r2 = v }
set_of r (suc (suc (suc zero))) v = record r { r3 = v }
set_of r (suc (suc (suc (suc zero)))) v = record r { r4 = v }
set_of r (suc (suc (suc (suc (suc zero))))) v = record r { r5 = v }
set_of r (suc (suc (suc (suc (suc (suc zero)))))) v = record r { r6 = v }
set_of r (suc (suc (suc (suc (suc (suc (suc zero))))))) v = record r { r7 = v }
set_of r (suc (suc (suc (suc (suc (suc (suc (suc zero)))))))) v = record r { r8 = v }
set_of r (suc (suc (suc (suc (suc (suc (suc (suc (suc zero))))))))) v = record r { r9 = v }
set_of r (suc (suc (suc (suc (suc (suc (suc (suc (suc (suc zero)))))))))) v = record r { r10 = v }
set_of r (suc (suc (suc (suc (suc (suc (suc (suc (suc (suc (suc zero))))))))))) v = record r { r11 = v }
set_of r (suc (suc (suc (suc (suc (suc (suc (suc (suc (suc (suc (suc zero)))))))))))) v = record r { r12 = v }
set_of r (suc (suc (suc (suc (suc (suc (suc (suc (suc (suc (suc (suc (suc zero))))))))))))) v = record r { sp = v }
set_of r (suc (suc (suc (suc (suc (suc (suc (suc (suc (suc (suc (suc (suc (suc n)))))))))))))) v = record r { lr = v }

-- the bytes of the regions other than Secure ROM: Secure RAM is Secure data and then Secure control
pub record Memory : Type 0 where
  pub ns_rom : List ℕ
  pub ns_ram : List ℕ
  pub secure_ram : List ℕ

pub record State : Type 0 where
  pub cpu : Cpu
  pub memory : Memory

-- what no step changes: the bytes of Secure ROM, with those of the Non-secure callable region behind them
pub record Device : Type 0 where
  pub rom : List ℕ

abbrev pub device_of : List ℕ → Device
device_of rom = record { rom = rom }

-- a machine: its device and its state
pub record Whole : Type 0 where
  pub device : Device
  pub state : State
