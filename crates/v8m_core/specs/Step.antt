-- One step of the machine: what is fetched, what an instruction does, and the gates between Secure and Non-secure state.
use Rattle.std.specs.Prelude.{ℕ, ◌+◌, ◌-◌, ◌/◌, ◌%◌, cond, ◌&&◌, not, eqb, ltb, List, [], ◌∷◌, slice_index, Option, Some, None}
use Rattle.cm_base.specs.declared.stop.Stop.{Stop}
use Rattle.cm_base.specs.declared.stop.Stop.TheVariants as stop
use Rattle.v8m_isa.specs.declared.instr.Instr.{Instr}
use Rattle.v8m_isa.specs.Decoding.{Decoded, decode_of, is_narrow}
use Rattle.ns_types.specs.declared.goes.Goes.{Goes}
use Rattle.ns_types.specs.declared.goes.Goes.TheVariants as goes
use Rattle.ns_types.specs.declared.state.Cpu.{Cpu}
use Rattle.ns_types.specs.declared.state.Side.TheVariants.{Secure, NonSecure, Stopped}
use Rattle.ns_types.specs.declared.turn.View.{View}
use Rattle.ns_types.specs.Turns.{Turn}
use Rattle.ns_types.specs.State.{Device, set_of, State}
use Rattle.ns_types.specs.Platform.{in_row, is_readable, is_writable, is_in_rom, aligned}
use Rattle.ns_types.specs.Memory.{load, store}
use Rattle.ns_types.specs.Gateway.{fetched, gateway_at}
use Rattle.ns_types.specs.Boundary.{function_return, goes_of, acted}
use Rattle.ns_types.specs.Operators.{add, subtract, to_signed}
use Rattle.v8m_core.specs.Effects.{effect_or, moved, computed, bitwise, accessed, branched, named}
use Rattle.v8m_core.specs.Lists.{registers, next, bytes_of, all_writable, all_readable, all_stored, all_loaded}
use Rattle.v8m_core.specs.declared.stepped.Stepped.{Stepped}
use Rattle.v8m_core.specs.declared.stepped.Stepped.TheVariants as what
use Rattle.v8m_core.specs.declared.effect.Effect.{Effect}
use Rattle.v8m_core.specs.declared.effect.Effect.TheVariants as effect

-- what a step leaves, and what it was
pub record Done : Type 0 where
  pub state : State
  pub what : Stepped

abbrev pub went : State → Done
went s = record { state = s; what = what.Went }

-- a stop changes the side alone
abbrev pub stopped : Stop → State → Done
stopped x s = record { state = record s { cpu = record s.cpu { side = Stopped x } }; what = what.Stopped x }

abbrev pub or_stopped : Option Stop → State → Done → Done
or_stopped None s d = d
or_stopped (Some x) s d = stopped x s

-- the first of two stops
abbrev pub or_stop : Option Stop → Option Stop → Option Stop
or_stop None b = b
or_stop (Some x) b = Some x

-- The gates (DDI0553: SG, BXNS, function return)

unfoldable pub goes_in : Device → ℕ → Goes
goes_in device t = goes_of (gateway_at device) t

-- all that Non-secure code sees of the registers
abbrev pub seen : Cpu → ℕ → View
seen c pc =
    let r = c.regs in
    record {
      r = r.r0 ∷ r.r1 ∷ r.r2 ∷ r.r3 ∷ r.r4 ∷ r.r5 ∷ r.r6 ∷ r.r7 ∷ r.r8 ∷ r.r9 ∷ r.r10 ∷ r.r11 ∷ r.r12 ∷ [];
      lr = r.lr;
      pc = pc;
      nzcvq = c.nzcvq;
      msp_ns = c.msp_ns;
      psp_ns = c.psp_ns;
    }

-- entering by the gateway at e: LR loses bit 0, and the instruction behind SG is next
abbrev pub entered_cpu : ℕ → Cpu → Cpu
entered_cpu e c = record c { side = Secure; regs = record c.regs { lr = aligned 2 c.regs.lr }; pc = e + 4 }

abbrev pub entered : ℕ → State → State
entered e s = record s { cpu = entered_cpu e s.cpu }

-- handing over to Non-secure code at an address
abbrev pub handed : ℕ → State → State
handed a s = record s { cpu = record s.cpu { side = NonSecure; pc = a } }

-- going back to Secure code at an address, with the two words at SP taken
abbrev pub returned : ℕ → State → State
returned a s = record s { cpu = record s.cpu { side = Secure; regs = record s.cpu.regs { sp = s.cpu.regs.sp + 8 }; pc = a } }

-- Why a function return stops, if it does, in the order of its tests: SP, the two words, the low nine bits of
-- the second word, the place of the first.
unfoldable pub return_stop : Device → State → Option Stop
return_stop device s =
    let sp = s.cpu.regs.sp in
    cond (not (eqb (sp % 8) 0)) (Some stop.BadState)
    (cond (not (is_readable sp 4 && is_readable (sp + 4) 4)) (Some stop.Unmapped)
    (cond (not (eqb (load 4 (sp + 4) device s.memory % 512) 0)) (Some stop.ReturnFault)
    (cond (not (is_in_rom (aligned 2 (load 4 sp device s.memory)))) (Some stop.BadState) None)))

unfoldable pub return_to : Device → State → Done
return_to device s = or_stopped (return_stop device s) s (went (returned (aligned 2 (load 4 s.cpu.regs.sp device s.memory)) s))

-- A branch in Non-secure state, or from Secure to Non-secure state, to an address: show says what a hand-over is.
abbrev pub arrived : Device → Goes → ℕ → Stepped → State → Done
arrived device (goes.Enter e) a show s = went (entered e s)
arrived device goes.Return a show s = return_to device s
arrived device goes.Turn a show s = record { state = handed a s; what = show }
arrived device goes.EntryPoint a show s = stopped stop.EntryPoint s
arrived device goes.Astray a show s = stopped stop.Astray s

-- BXNS (DDI0553, BXNS): a function return; or with bit 0 set a branch in Secure state; or Non-secure state
unfoldable pub bxns : Device → ℕ → State → Done
bxns device v s =
    cond (eqb (aligned 2 v) function_return) (return_to device s)
    (cond (eqb (v % 2) 0) (arrived device (goes_in device v) v (what.Given (seen s.cpu v)) s)
    (cond (is_in_rom (v - 1)) (went (record s { cpu = record s.cpu { pc = v - 1 } })) (stopped stop.BadState s)))

-- BX (DDI0553, BX): a function return, or a branch in Secure state, whose target has bit 0 set
unfoldable pub bx : Device → ℕ → State → Done
bx device v s =
    cond (eqb (aligned 2 v) function_return) (return_to device s)
    (cond (not (eqb (v % 2) 0) && is_in_rom (v - 1)) (went (record s { cpu = record s.cpu { pc = v - 1 } })) (stopped stop.BadState s))

-- A new number for SP stops where it is below MSPLIM; its low two bits are lost.
abbrev pub limit_stop : ℕ → Cpu → Option Stop
limit_stop v c = cond (ltb (aligned 4 v) c.msplim) (Some stop.StackLimit) None

-- the return address of an instruction of this size, with bit 0 set
abbrev pub link : ℕ → Cpu → ℕ
link size c = aligned 2 (c.pc + size) + 1

-- Why a call of Non-secure code stops, if it does, in the order of its tests: SP, its limit, the two words.
unfoldable pub call_stop : Cpu → Option Stop
call_stop c =
    let sp = subtract c.regs.sp 8 in
    cond (not (eqb (c.regs.sp % 8) 0)) (Some stop.BadState)
    (or_stop (limit_stop sp c) (cond (is_writable sp 4 && is_writable (next sp) 4) None (Some stop.Unmapped)))

-- A call of Non-secure code: below SP stand the return address and above it a word that is 0, and LR is the function
-- return address with bit 0 set.
abbrev pub called : ℕ → State → State
called back s =
    let sp = subtract s.cpu.regs.sp 8 in
    record { cpu = record s.cpu { regs = record s.cpu.regs { sp = sp; lr = function_return + 1 } }; memory = store 4 (next sp) 0 (store 4 sp back s.memory) }

-- a step that stops changes nothing of the state before it but the side
abbrev pub only_stopped_by : Stepped → State → Done → Done
only_stopped_by (what.Stopped x) s d = stopped x s
only_stopped_by _ s d = d

abbrev pub only_stopped : State → Done → Done
only_stopped s d = only_stopped_by d.what s d

-- the branch to Non-secure state of such a call
abbrev pub called_at : Device → ℕ → State → Done
called_at device v t = arrived device (goes_in device v) v (what.Given (seen t.cpu v)) t

-- BLXNS (DDI0553, BLXNS): with bit 0 set a call in Secure state, else one of Non-secure code
unfoldable pub blxns : Device → ℕ → ℕ → State → Done
blxns device v size s =
    cond (eqb (v % 2) 0)
    (or_stopped (call_stop s.cpu) s (only_stopped s (called_at device v (called (link size s.cpu) s))))
    (cond (is_in_rom (v - 1)) (went (record s { cpu = record s.cpu { regs = record s.cpu.regs { lr = link size s.cpu }; pc = v - 1 } })) (stopped stop.BadState s))

-- What each instruction does

-- the effect of an instruction is that of its group
unfoldable pub effect_of : Instr → Cpu → Effect
effect_of i c = effect_or (moved i c) (effect_or (computed i c) (effect_or (bitwise i c) (effect_or (accessed i c) (effect_or (branched i c) (effect_or (named i c) effect.Pass)))))

-- the next instruction
abbrev pub pass : ℕ → State → State
pass size s = record s { cpu = record s.cpu { pc = s.cpu.pc + size } }

abbrev pub put : ℕ → ℕ → ℕ → State → State
put size d v s = record s { cpu = record s.cpu { regs = set_of s.cpu.regs d v; pc = s.cpu.pc + size } }

-- a write of a register; SP (register 13) loses its low two bits, and may not go below MSPLIM
unfoldable pub write_register : ℕ → ℕ → ℕ → State → Done
write_register size d v s = cond (eqb d 13) (or_stopped (limit_stop v s.cpu) s (went (put size 13 (aligned 4 v) s))) (went (put size d v s))

-- why a load and a store of Secure code stop, if they do
unfoldable pub load_stop : ℕ → ℕ → Option Stop
load_stop a size = cond (not (eqb (a % size) 0)) (Some stop.Unaligned) (cond (is_readable a size) None (Some stop.Unmapped))

unfoldable pub store_stop : ℕ → ℕ → Option Stop
store_stop a size = cond (not (eqb (a % size) 0)) (Some stop.Unaligned) (cond (is_writable a size) None (Some stop.Unmapped))

-- a store is seen where it writes Non-secure RAM
abbrev pub stored : ℕ → ℕ → ℕ → ℕ → State → Done
stored step a size v s = record {
  state = record (pass step s) { memory = store size a v s.memory };
  what = cond (in_row 1 a) (what.Wrote a size v) what.Went;
}

-- the new SP of a push and of a pop
abbrev pub pushed_sp : ℕ → Cpu → ℕ
pushed_sp list c = subtract c.regs.sp (bytes_of list registers)

abbrev pub popped_sp : ℕ → Cpu → ℕ
popped_sp list c = add c.regs.sp (bytes_of list registers)

-- why a push and a pop stop, if they do: the limit of SP, its alignment, and then the words
unfoldable pub push_stop : ℕ → Cpu → Option Stop
push_stop list c =
    or_stop (limit_stop (pushed_sp list c) c)
    (cond (not (eqb (c.regs.sp % 4) 0)) (Some stop.Unaligned) (cond (all_writable list registers (pushed_sp list c)) None (Some stop.Unmapped)))

unfoldable pub pop_stop : ℕ → Cpu → Option Stop
pop_stop list c =
    or_stop (limit_stop (popped_sp list c) c)
    (cond (not (eqb (c.regs.sp % 4) 0)) (Some stop.Unaligned) (cond (all_readable list registers c.regs.sp) None (Some stop.Unmapped)))

-- a push and a pop; no event shows what a push writes
unfoldable pub pushed : ℕ → ℕ → State → State
pushed list size s =
    let sp = pushed_sp list s.cpu in
    record { cpu = record s.cpu { regs = record s.cpu.regs { sp = aligned 4 sp }; pc = s.cpu.pc + size }; memory = all_stored list registers s.cpu.regs sp s.memory }

unfoldable pub popped : Device → ℕ → ℕ → State → State
popped device list size s =
    let regs = all_loaded list registers device s.memory s.cpu.regs.sp s.cpu.regs in
    record s { cpu = record s.cpu { regs = record regs { sp = aligned 4 (popped_sp list s.cpu) }; pc = s.cpu.pc + size } }

-- MSR by the number of the special register: a stack pointer loses its low two bits, and a limit its low three
abbrev pub special : ℕ → ℕ → Cpu → Cpu
special k v c =
    cond (eqb k 0) (record c { nzcvq = v / 134217728 % 32 })
    (cond (eqb k 8) (record c { regs = record c.regs { sp = aligned 4 v } })
    (cond (eqb k 9) (record c { psp = aligned 4 v })
    (cond (eqb k 10) (record c { msplim = aligned 8 v })
    (cond (eqb k 11) (record c { psplim = aligned 8 v })
    (cond (eqb k 136) (record c { msp_ns = aligned 4 v }) (record c { psp_ns = aligned 4 v }))))))

-- an effect on the state, of an instruction of this size
unfoldable pub apply : Device → Effect → ℕ → State → Done
apply device effect.Pass size s = went (pass size s)
apply device (effect.Stop x) size s = stopped x s
apply device (effect.Put d v) size s = write_register size d v s
apply device (effect.Load t a n) size s = or_stopped (load_stop a n) s (went (put size t (load n a device s.memory) s))
apply device (effect.LoadSigned t a n) size s = or_stopped (load_stop a n) s (went (put size t (to_signed n (load n a device s.memory)) s))
apply device (effect.Store a n v) size s = or_stopped (store_stop a n) s (stored size a n v s)
apply device (effect.Jump a) size s = went (record s { cpu = record s.cpu { pc = a } })
apply device (effect.Push list) size s = or_stopped (push_stop list s.cpu) s (went (pushed list size s))
apply device (effect.Pop list) size s = or_stopped (pop_stop list s.cpu) s (went (popped device list size s))
apply device (effect.Flags flags) size s = went (record s { cpu = record (pass size s).cpu { nzcvq = flags } })
apply device (effect.Call a) size s = went (record s { cpu = record s.cpu { regs = record s.cpu.regs { lr = link size s.cpu }; pc = a } })
apply device (effect.Special k v) size s = went (record s { cpu = special k v (pass size s).cpu })
apply device (effect.Bx v) size s = bx device v s
apply device (effect.Bxns v) size s = bxns device v s
apply device (effect.Blxns v) size s = blxns device v size s

-- an instruction of this size
abbrev pub act : Device → Instr → ℕ → State → Done
act device i size s = apply device (effect_of i s.cpu) size s

abbrev pub act_or : Device → Option Decoded → State → Done
act_or device None s = stopped stop.Undefined s
act_or device (Some d) s = act device d.instr d.size s

-- One step in Secure state: the halfword at the program counter; where it is no whole instruction, the one
-- behind it too; and what they are.
unfoldable pub step_of : Device → State → Done
step_of device s =
    let pc = s.cpu.pc in
    cond (is_in_rom pc)
    (cond (is_narrow (fetched device pc)) (act_or device (decode_of (fetched device pc) 0) s)
    (cond (is_in_rom (pc + 2)) (act_or device (decode_of (fetched device pc) (fetched device (pc + 2))) s) (stopped stop.BadState s)))
    (stopped stop.BadState s)

-- Turns

-- the registers as a turn sets them; r0 to r12 are the first 13 members
abbrev pub set_by : Turn → Cpu → Cpu
set_by t c = record c {
  regs = record c.regs {
    r0 = slice_index t.r 0;
    r1 = slice_index t.r 1;
    r2 = slice_index t.r 2;
    r3 = slice_index t.r 3;
    r4 = slice_index t.r 4;
    r5 = slice_index t.r 5;
    r6 = slice_index t.r 6;
    r7 = slice_index t.r 7;
    r8 = slice_index t.r 8;
    r9 = slice_index t.r 9;
    r10 = slice_index t.r 10;
    r11 = slice_index t.r 11;
    r12 = slice_index t.r 12;
    lr = t.lr;
  };
  nzcvq = t.nzcvq;
  msp_ns = aligned 4 t.msp_ns;
  psp_ns = aligned 4 t.psp_ns;
}

-- the state after a turn has set its registers and its items have left this Non-secure RAM
abbrev pub with_turn : Turn → List ℕ → State → State
with_turn t ram s = record { cpu = set_by t s.cpu; memory = record s.memory { ns_ram = ram } }

-- One turn in Non-secure state: registers, items, and the branch to the target. A turn itself hands nothing over.
unfoldable pub turn_of : Device → Turn → State → Done
turn_of device t s =
    let after = acted t.items s.memory.ns_ram in
    let s' = with_turn t after.ram s in
    or_stopped after.stop s' (arrived device (goes_in device t.target) (aligned 2 t.target) what.Went s')
