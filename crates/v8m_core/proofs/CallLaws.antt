-- A call of Non-secure code, and one of the function return address.
use Rattle.std.proofs.Common.{◌≡◌, ℕ, ◌+◌, ◌%◌, ◌<◌, Bool, true, false, cond, refl, sym, ap, ◌∙◌, ⊎_elim, inl, arith, Some, None}
use Rattle.std.specs.Prelude.{eqb, not, ◌&&◌}
use Rattle.std.proofs.lemmas.Bool.Decides.{nat_tests}
use Rattle.cm_base.specs.declared.stop.Stop.TheVariants as stop
use Rattle.ns_types.specs.declared.state.Cpu.{Cpu}
use Rattle.ns_types.specs.declared.state.Side.TheVariants.{Secure}
use Rattle.ns_types.specs.State.{Device, State, Memory}
use Rattle.ns_types.specs.Platform.{is_readable, is_writable, is_in_rom, aligned}
use Rattle.ns_types.specs.Memory.{IsWhole, load, store}
use Rattle.ns_types.specs.Operators.{subtract}
use Rattle.v8m_core.specs.Lists.{next}
use Rattle.v8m_core.specs.Step.{went, stopped, or_stopped, or_stop, returned, return_stop, return_to, call_stop, called, only_stopped}
use Rattle.v8m_core.proofs.Ram.{place, load_same, load_other, whole_store, readable_where_writable}

-- a call that doesn't stop has room for its two words
no_stop : (b1 b2 b3 : Bool) → cond b1 (Some stop.BadState) (or_stop (cond b2 (Some stop.StackLimit) None) (cond b3 None (Some stop.Unmapped))) ≡ None → (b1 ≡ false) × (b3 ≡ true)
no_stop true b2 b3 h = cc
no_stop false true b3 h = cc
no_stop false false true h = (refl, refl)
no_stop false false false h = cc

record Room (sp : ℕ) : Type 0 where
  aligned : sp % 8 ≡ 0
  first : is_writable (subtract sp 8) 4 ≡ true
  second : is_writable (next (subtract sp 8)) 4 ≡ true

room : (c : Cpu) → call_stop c ≡ None → Room c.regs.sp
unfolding call_stop
room c h =
    let two = no_stop _ _ _ h in
    record { aligned = (let t : not (eqb (c.regs.sp % 8) 0) ≡ false = two.0 in grind (arith, nat_tests)); first = left_of _ _ two.1; second = right_of _ _ two.1 }
  where
    left_of : (a b : Bool) → (a && b) ≡ true → a ≡ true
    left_of true b h = refl
    left_of false b h = cc

    right_of : (a b : Bool) → (a && b) ≡ true → b ≡ true
    right_of true b h = h
    right_of false b h = cc

-- the two words stand right below SP
record Below (sp : ℕ) : Type 0 where
  sum : subtract sp 8 + 8 ≡ sp
  second : next (subtract sp 8) ≡ subtract sp 8 + 4

below : (sp : ℕ) → sp < 4294967296 → is_writable (subtract sp 8) 4 ≡ true → Below sp
below sp lt can =
    ⊎_elim
    (λ h. record { sum = omega (arith, h.from, h.to); second = omega (arith, h.from, h.to) })
    (λ h. record { sum = omega (arith, h.from, h.to); second = omega (arith, h.from, h.to) })
    (place (subtract sp 8) can)

stop_by : (b0 b1 b2 b3 : Bool) → b0 ≡ true → b1 ≡ true → b2 ≡ true → cond (not b0) (Some stop.BadState) (cond (not b1) (Some stop.Unmapped) (cond (not b2) (Some stop.ReturnFault) (cond (not b3) (Some stop.BadState) None))) ≡ cond b3 None (Some stop.BadState)
stop_by b0 b1 b2 true p q r = rw (p, q, r) refl
stop_by b0 b1 b2 false p q r = rw (p, q, r) refl

-- back in Secure state with an SP
abbrev pub back_at : ℕ → ℕ → State → State
back_at sp a s = record s { cpu = record s.cpu { side = Secure; regs = record s.cpu.regs { sp = sp }; pc = a } }

-- a function return right behind a call takes the words of the call
return_of_call : (back : ℕ) (device : Device) (s : State) → IsWhole s.memory → s.cpu.regs.sp < 4294967296 → back < 4294967296 → call_stop s.cpu ≡ None → return_to device (called back s) ≡ or_stopped (cond (is_in_rom (aligned 2 back)) None (Some stop.BadState)) (called back s) (went (returned (aligned 2 back) (called back s)))
unfolding return_to return_stop
return_of_call back device s whole lt_sp lt_back h =
    let sp = s.cpu.regs.sp in
    let p = subtract sp 8 in
    let t = called back s in
    let r = room s.cpu h in
    let e = below sp lt_sp r.first in
    let can2 : is_writable (p + 4) 4 ≡ true = ap (λ x. is_writable x 4) (sym e.second) ∙ r.second in
    let m1 : Memory = store 4 p back s.memory in
    let mem : t.memory ≡ store 4 (p + 4) 0 m1 = ap (λ x. store 4 x 0 m1) e.second in
    let whole1 : IsWhole m1 = whole_store 4 p back s.memory whole in
    let second : load 4 (p + 4) device t.memory ≡ 0 = ap (load 4 (p + 4) device) mem ∙ load_same (p + 4) 0 device m1 whole1 can2 (omega arith) in
    let first : load 4 p device t.memory ≡ back = ap (load 4 p device) mem ∙ load_other p (p + 4) 0 device m1 r.first can2 (inl (omega arith)) ∙ load_same p back device s.memory whole r.first lt_back in
    let even : eqb (p % 8) 0 ≡ true = (let z : p % 8 ≡ 0 = omega (arith, e.sum, r.aligned) in grind (arith, nat_tests)) in
    let two : (is_readable p 4 && is_readable (p + 4) 4) ≡ true = ap (λ b. b && is_readable (p + 4) 4) (readable_where_writable p r.first) ∙ readable_where_writable (p + 4) can2 in
    let low : eqb (load 4 (p + 4) device t.memory % 512) 0 ≡ true = ap (λ x. eqb (x % 512) 0) second in
    let why = stop_by _ _ _ (is_in_rom (aligned 2 (load 4 p device t.memory))) even two low in
    ap (λ o. or_stopped o t (went (returned (aligned 2 (load 4 p device t.memory)) t))) why
    ∙ ap (λ x. or_stopped (cond (is_in_rom (aligned 2 x)) None (Some stop.BadState)) t (went (returned (aligned 2 x) t))) first

pub call_of_return_out : (back : ℕ) (device : Device) (s : State) → IsWhole s.memory → s.cpu.regs.sp < 4294967296 → back < 4294967296 → call_stop s.cpu ≡ None → is_in_rom (aligned 2 back) ≡ false → only_stopped s (return_to device (called back s)) ≡ stopped stop.BadState s
call_of_return_out back device s whole lt_sp lt_back h out =
    ap (only_stopped s) (return_of_call back device s whole lt_sp lt_back h)
    ∙ ap (λ b. only_stopped s (or_stopped (cond b None (Some stop.BadState)) (called back s) (went (returned (aligned 2 back) (called back s))))) out

-- with SP as it was before
pub call_of_return : (back : ℕ) (device : Device) (s : State) → IsWhole s.memory → s.cpu.regs.sp < 4294967296 → back < 4294967296 → call_stop s.cpu ≡ None → is_in_rom (aligned 2 back) ≡ true → only_stopped s (return_to device (called back s)) ≡ went (back_at s.cpu.regs.sp (aligned 2 back) (called back s))
call_of_return back device s whole lt_sp lt_back h in_rom =
    ap (only_stopped s) (return_of_call back device s whole lt_sp lt_back h)
    ∙ ap (λ b. only_stopped s (or_stopped (cond b None (Some stop.BadState)) (called back s) (went (returned (aligned 2 back) (called back s))))) in_rom
    ∙ ap (λ x. went (back_at x (aligned 2 back) (called back s))) (below s.cpu.regs.sp lt_sp (room s.cpu h).first).sum
