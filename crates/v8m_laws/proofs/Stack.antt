-- Instructions that move SP: with room above MSPLIM they go on, and else they stop before anything is written.
use Rattle.std.proofs.Common.{◌≡◌, ℕ, ◌+◌, ◌-◌, ◌%◌, ◌<◌, ◌≤◌, Bool, true, false, cond, refl, sym, ap, ◌∙◌, subst, arith, Some, None}
use Rattle.std.specs.Prelude.{eqb, ltb, not, Option}
use Rattle.std.proofs.lemmas.Bool.Decides.{nat_tests}
use Rattle.cm_base.specs.declared.stop.Stop.{Stop}
use Rattle.cm_base.specs.declared.stop.Stop.TheVariants as stop
use Rattle.v8m_isa.specs.declared.instr.Instr.TheVariants.{Addw, Subw, Stmdb, Ldmia}
use Rattle.ns_types.specs.declared.state.Regs.{Regs}
use Rattle.ns_types.specs.declared.state.Cpu.{Cpu}
use Rattle.ns_types.specs.State.{Device, State}
use Rattle.ns_types.specs.Platform.{aligned}
use Rattle.ns_types.specs.Operators.{add, subtract}
use Rattle.v8m_core.specs.Lists.{registers, bytes_of, all_stored, all_loaded}
use Rattle.v8m_core.specs.Step.{Done, went, stopped, or_stopped, or_stop, limit_stop, call_stop, push_stop, pop_stop, pushed, popped, put, write_register, effect_of, apply, act, blxns}
use Rattle.v8m_core.proofs.StackLaws.{AreWordPlaces, push_goes, pop_goes, bytes_even}

-- a new SP below MSPLIM, and one that isn't
limit_is : (v : ℕ) (c : Cpu) (p : ℕ) → aligned 4 v ≡ p → p < c.msplim → limit_stop v c ≡ Some stop.StackLimit
limit_is v c p e lt = let t : ltb (aligned 4 v) c.msplim ≡ true = grind (arith, nat_tests) in rw t refl

limit_none : (v : ℕ) (c : Cpu) (p : ℕ) → aligned 4 v ≡ p → c.msplim ≤ p → limit_stop v c ≡ None
limit_none v c p e le = let t : ltb (aligned 4 v) c.msplim ≡ false = grind (arith, nat_tests) in rw t refl

-- STMDB, where SP is p and the bytes of the list
pub pushes : (device : Device) (list p : ℕ) (s : State) → s.cpu.regs.sp ≡ p + bytes_of list registers → s.cpu.msplim ≤ p → AreWordPlaces p (bytes_of list registers)
    → act device (Stmdb list) 4 s ≡ went (record { cpu = record s.cpu { regs = record s.cpu.regs { sp = p }; pc = s.cpu.pc + 4 }; memory = all_stored list registers s.cpu.regs p s.memory })
unfolding effect_of apply pushed
pushes device list p s at limit w =
    let goes : push_stop list s.cpu ≡ None = push_goes list p s.cpu at limit w in
    let sp : subtract s.cpu.regs.sp (bytes_of list registers) ≡ p = omega (arith, at, w.to) in
    let even : aligned 4 p ≡ p = omega (arith, w.even) in
    ap (λ o. or_stopped o s (went (pushed list 4 s))) goes
    ∙ ap (λ x. went (record { cpu = record s.cpu { regs = record s.cpu.regs { sp = aligned 4 x }; pc = s.cpu.pc + 4 }; memory = all_stored list registers s.cpu.regs x s.memory })) sp
    ∙ ap (λ x. went (record { cpu = record s.cpu { regs = record s.cpu.regs { sp = x }; pc = s.cpu.pc + 4 }; memory = all_stored list registers s.cpu.regs p s.memory })) even

pub push_limit : (device : Device) (list p : ℕ) (s : State) → s.cpu.regs.sp ≡ p + bytes_of list registers → s.cpu.regs.sp < 4294967296 → p % 4 ≡ 0 → p < s.cpu.msplim → act device (Stmdb list) 4 s ≡ stopped stop.StackLimit s
unfolding effect_of apply push_stop
push_limit device list p s at lt even low =
    let sp : aligned 4 (subtract s.cpu.regs.sp (bytes_of list registers)) ≡ p = omega (arith, at, lt, even) in
    let stop_is = limit_is (subtract s.cpu.regs.sp (bytes_of list registers)) s.cpu p sp low in
    rw stop_is refl

-- LDMIA, where SP is p
pub pops : (device : Device) (list p : ℕ) (s : State) → s.cpu.regs.sp ≡ p → s.cpu.msplim ≤ p → AreWordPlaces p (bytes_of list registers)
    → act device (Ldmia list) 4 s ≡ went (record s { cpu = record s.cpu { regs = record (all_loaded list registers device s.memory p s.cpu.regs) { sp = p + bytes_of list registers }; pc = s.cpu.pc + 4 } })
unfolding effect_of apply popped
pops device list p s at limit w =
    let here : AreWordPlaces s.cpu.regs.sp (bytes_of list registers) = subst (λ x. AreWordPlaces x (bytes_of list registers)) (sym at) w in
    let goes : pop_stop list s.cpu ≡ None = pop_goes list s.cpu (subst (λ x. s.cpu.msplim ≤ x) (sym at) limit) here in
    let sp : aligned 4 (add p (bytes_of list registers)) ≡ p + bytes_of list registers = omega (arith, w.even, w.to, bytes_even list registers) in
    ap (λ o. or_stopped o s (went (popped device list 4 s))) goes
    ∙ ap (λ x. went (record s { cpu = record s.cpu { regs = record (all_loaded list registers device s.memory x s.cpu.regs) { sp = aligned 4 (add x (bytes_of list registers)) }; pc = s.cpu.pc + 4 } })) at
    ∙ ap (λ x. went (record s { cpu = record s.cpu { regs = record (all_loaded list registers device s.memory p s.cpu.regs) { sp = x }; pc = s.cpu.pc + 4 } })) sp

-- SUBW and ADDW of SP
pub lowers : (device : Device) (i p : ℕ) (s : State) → s.cpu.regs.sp ≡ p + i → s.cpu.regs.sp < 4294967296 → p % 4 ≡ 0 → s.cpu.msplim ≤ p → act device (Subw 13 13 i) 4 s ≡ went (put 4 13 p s)
unfolding effect_of apply write_register
lowers device i p s at lt even limit =
    let sp : aligned 4 (subtract s.cpu.regs.sp i) ≡ p = omega (arith, at, lt, even) in
    let none = limit_none (subtract s.cpu.regs.sp i) s.cpu p sp limit in
    ap (λ o. or_stopped o s (went (put 4 13 (aligned 4 (subtract s.cpu.regs.sp i)) s))) none
    ∙ ap (λ x. went (put 4 13 x s)) sp

pub lower_limit : (device : Device) (i p : ℕ) (s : State) → s.cpu.regs.sp ≡ p + i → s.cpu.regs.sp < 4294967296 → p % 4 ≡ 0 → p < s.cpu.msplim → act device (Subw 13 13 i) 4 s ≡ stopped stop.StackLimit s
unfolding effect_of apply write_register
lower_limit device i p s at lt even low =
    let sp : aligned 4 (subtract s.cpu.regs.sp i) ≡ p = omega (arith, at, lt, even) in
    ap (λ o. or_stopped o s (went (put 4 13 (aligned 4 (subtract s.cpu.regs.sp i)) s))) (limit_is (subtract s.cpu.regs.sp i) s.cpu p sp low)

pub raises : (device : Device) (i p : ℕ) (s : State) → s.cpu.regs.sp + i ≡ p → p < 4294967296 → p % 4 ≡ 0 → s.cpu.msplim ≤ p → act device (Addw 13 13 i) 4 s ≡ went (put 4 13 p s)
unfolding effect_of apply write_register
raises device i p s at lt even limit =
    let sp : aligned 4 (add s.cpu.regs.sp i) ≡ p = omega (arith, at, lt, even) in
    let none = limit_none (add s.cpu.regs.sp i) s.cpu p sp limit in
    ap (λ o. or_stopped o s (went (put 4 13 (aligned 4 (add s.cpu.regs.sp i)) s))) none
    ∙ ap (λ x. went (put 4 13 x s)) sp

-- BLXNS to Non-secure code, whose two words would stand below MSPLIM
pub call_limit : (device : Device) (v size p : ℕ) (s : State) → v % 2 ≡ 0 → s.cpu.regs.sp ≡ p + 8 → s.cpu.regs.sp < 4294967296 → p % 8 ≡ 0 → p < s.cpu.msplim → blxns device v size s ≡ stopped stop.StackLimit s
unfolding blxns call_stop
call_limit device v size p s bit at lt even low =
    let sp : aligned 4 (subtract s.cpu.regs.sp 8) ≡ p = omega (arith, at, lt, even) in
    let limit = limit_is (subtract s.cpu.regs.sp 8) s.cpu p sp low in
    let e : eqb (v % 2) 0 ≡ true = grind (arith, nat_tests) in
    let f : eqb (s.cpu.regs.sp % 8) 0 ≡ true = (let z : s.cpu.regs.sp % 8 ≡ 0 = omega (arith, at, even) in grind (arith, nat_tests)) in
    rw (e, f, limit) refl
