-- Runs of code in Secure ROM.
use Rattle.std.proofs.Common.{◌≡◌, ◌≢◌, ℕ, zero, suc, ◌+◌, Bool, true, false, cond, List, [], ◌∷◌, ◌++◌, length, refl, sym, ap, ◌∙◌, subst, ⊎_elim, arith, Option, Some, None}
use Rattle.std.specs.Prelude.{eqb}
use Rattle.cm_base.specs.declared.stop.Stop.{Stop}
use Rattle.cm_base.specs.declared.stop.Stop.TheVariants as stop
use Rattle.v8m_isa.specs.declared.instr.Instr.{Instr}
use Rattle.v8m_isa.specs.Table.{in_range_of, size_of, code_of}
use Rattle.v8m_isa.specs.Decoding.{Decoded, decode_of, is_narrow}
use Rattle.v8m_isa.proofs.DecodingLaws.{decode_of-code_of, decode_of-code_of_narrow, is_narrow-code_of, size_of_two_or_four}
use Rattle.ns_types.specs.declared.goes.Goes.{Goes}
use Rattle.ns_types.specs.declared.goes.Goes.TheVariants as goes
use Rattle.ns_types.specs.declared.state.Cpu.{Cpu}
use Rattle.ns_types.specs.declared.state.Side.TheVariants.{Secure}
use Rattle.ns_types.specs.State.{Device, State}
use Rattle.ns_types.specs.Platform.{is_in_rom}
use Rattle.v8m_core.specs.declared.stepped.Stepped.{Stepped}
use Rattle.v8m_core.specs.declared.stepped.Stepped.TheVariants as what
use Rattle.v8m_core.specs.declared.effect.Effect.{Effect}
use Rattle.v8m_core.specs.declared.effect.Effect.TheVariants as effect
use Rattle.ns_types.specs.Gateway.{fetched}
use Rattle.v8m_core.specs.Step.{Done, went, stopped, or_stopped, goes_in, seen, arrived, return_stop, return_to, bx, bxns, limit_stop, link, call_stop, called, only_stopped_by, blxns, effect_of, pass, write_register, load_stop, store_stop, push_stop, pop_stop, pushed, popped, special, apply, act, act_or, step_of}
use Rattle.v8m_core.specs.Code.{Holds, HasCode, past, Comes, Does}

-- decoding what was encoded
decode-narrow : (i : Instr) → in_range_of i ≡ true → size_of i ≡ 2 → (is_narrow (code_of i).first ≡ true) × (decode_of (code_of i).first 0 ≡ Some (record { instr = i; size = 2 }))
decode-narrow i r s =
    (is_narrow-code_of i r ∙ ap (λ n. eqb n 2) s, decode_of-code_of_narrow i 0 r s (omega arith) ∙ ap (λ n. let d : Decoded = record { instr = i; size = n } in Some d) s)

decode-wide : (i : Instr) → in_range_of i ≡ true → size_of i ≢ 2 → (is_narrow (code_of i).first ≡ false) × (decode_of (code_of i).first (code_of i).second ≡ Some (record { instr = i; size = size_of i }))
decode-wide i r s =
    (is_narrow-code_of i r ∙ (let four : size_of i ≡ 4 = ⊎_elim (λ e. absurd (s e)) (λ e. e) (size_of_two_or_four i) in ap (λ n. eqb n 2) four), decode_of-code_of i r)

-- a step at an instruction is that instruction's act
pub does : (device : Device) (s : State) (i : Instr) → Holds device s.cpu.pc i → step_of device s ≡ act device i (size_of i) s
unfolding step_of
does device s i h =
    let pc = s.cpu.pc in
    let wide : Done = cond (is_in_rom (pc + 2)) (act_or device (decode_of (fetched device pc) (fetched device (pc + 2))) s) (stopped stop.BadState s) in
    let here : step_of device s ≡ cond (is_narrow (code_of i).first) (act_or device (decode_of (code_of i).first 0) s) (cond (is_in_rom (pc + 2)) (act_or device (decode_of (code_of i).first (fetched device (pc + 2))) s) (stopped stop.BadState s)) =
    ap (λ t. cond t (cond (is_narrow (fetched device pc)) (act_or device (decode_of (fetched device pc) 0) s) (cond (is_in_rom (pc + 2)) (act_or device (decode_of (fetched device pc) (fetched device (pc + 2))) s) (stopped stop.BadState s))) (stopped stop.BadState s)) h.place
    ∙ ap (λ a. cond (is_narrow a) (act_or device (decode_of a 0) s) (cond (is_in_rom (pc + 2)) (act_or device (decode_of a (fetched device (pc + 2))) s) (stopped stop.BadState s))) h.first in
    ⊎_elim
    (λ two.
    let d = decode-narrow i h.range two in
    here
    ∙ ap (λ t. cond t (act_or device (decode_of (code_of i).first 0) s) (cond (is_in_rom (pc + 2)) (act_or device (decode_of (code_of i).first (fetched device (pc + 2))) s) (stopped stop.BadState s))) d.0
    ∙ ap (λ o. act_or device o s) d.1 ∙ ap (λ n. act device i n s) (sym two))
    (λ four.
    let ne : size_of i ≢ 2 = λ e. omega arith in
    let d = decode-wide i h.range ne in
    let second = ⊎_elim {C = (is_in_rom (pc + 2) ≡ true) × (fetched device (pc + 2) ≡ (code_of i).second)} (λ two. absurd (ne two)) (λ x. x) h.second in
    here
    ∙ ap (λ t. cond t (act_or device (decode_of (code_of i).first 0) s) (cond (is_in_rom (pc + 2)) (act_or device (decode_of (code_of i).first (fetched device (pc + 2))) s) (stopped stop.BadState s))) d.0
    ∙ ap (λ t. cond t (act_or device (decode_of (code_of i).first (fetched device (pc + 2))) s) (stopped stop.BadState s)) second.0
    ∙ ap (λ b. act_or device (decode_of (code_of i).first b) s) second.1
    ∙ ap (λ o. act_or device o s) d.1)
    (size_of_two_or_four i)

pub comes_on : (device : Device) (m n : ℕ) (s t u : State) → Comes device m s t → Comes device n t u → Comes device (m + n) s u
comes_on device zero n s t u a b =
    let e : n ≡ 0 + n = omega arith in
    subst (λ k. Comes device k s u) e (subst (λ x. Comes device n x u) (sym a) b)
comes_on device (suc m) n s t u a b =
    let e : suc (m + n) ≡ suc m + n = omega arith in
    subst (λ k. Comes device k s u) e (a.0, a.1, comes_on device m n a.0 t u a.2 b)

-- code in a row is executed
pub straight : (device : Device) (is : List Instr) (s t : State) → HasCode device s.cpu.pc is → Does device is s t → Comes device (length is) s t
straight device [] s t has d = d
straight device (i ∷ []) s t has d = (d.0, does device s i has.0 ∙ d.1, d.3)
straight device (i ∷ j ∷ is) s t has d =
    (d.0, does device s i has.0 ∙ d.1, straight device (j ∷ is) d.0 t (subst (λ p. HasCode device p (j ∷ is)) (sym d.2) has.1) d.3)

pub has_front : (device : Device) (pc : ℕ) (a b : List Instr) → HasCode device pc (a ++ b) → HasCode device pc a
has_front device pc [] b h = tt
has_front device pc (i ∷ a) b h = (h.0, has_front device (pc + size_of i) a b h.1)

pub has_back : (device : Device) (pc : ℕ) (a b : List Instr) → HasCode device pc (a ++ b) → HasCode device (past pc a) b
has_back device pc [] b h = h
has_back device pc (i ∷ a) b h = has_back device (pc + size_of i) a b h.1

-- A step of Secure code that goes on stays in Secure state.
record Stays (d : Done) : Type 0 where
  side : d.what ≡ what.Went → d.state.cpu.side ≡ Secure

stays_stopped : (x : Stop) (s : State) → Stays (stopped x s)
stays_stopped x s = record { side = λ e. cc }

stays_went : (s : State) → s.cpu.side ≡ Secure → Stays (went s)
stays_went s h = record { side = λ e. h }

stays_or_stopped : (o : Option Stop) (s : State) (d : Done) → Stays d → Stays (or_stopped o s d)
stays_or_stopped None s d h = h
stays_or_stopped (Some x) s d h = stays_stopped x s

stays_cond : (b : Bool) (d e : Done) → Stays d → Stays e → Stays (cond b d e)
stays_cond true d e x y = x
stays_cond false d e x y = y

stays_return : (device : Device) (s : State) → Stays (return_to device s)
unfolding return_to
stays_return device s = stays_or_stopped (return_stop device s) s _ (stays_went _ refl)

stays_arrived : (device : Device) (g : Goes) (a : ℕ) (show : Stepped) (s : State) → show ≢ what.Went → Stays (arrived device g a show s)
stays_arrived device (goes.Enter e) a show s ne = stays_went _ refl
stays_arrived device goes.Return a show s ne = stays_return device s
stays_arrived device goes.Turn a show s ne = record { side = λ e. absurd (ne e) }
stays_arrived device goes.EntryPoint a show s ne = stays_stopped stop.EntryPoint s
stays_arrived device goes.Astray a show s ne = stays_stopped stop.Astray s

stays_bxns : (device : Device) (v : ℕ) (s : State) → s.cpu.side ≡ Secure → Stays (bxns device v s)
unfolding bxns
stays_bxns device v s h =
    stays_cond _ _ _ (stays_return device s)
    (stays_cond _ _ _ (stays_arrived device (goes_in device v) v (what.Given (seen s.cpu v)) s (λ e. cc))
    (stays_cond _ _ _ (stays_went _ h) (stays_stopped stop.BadState s)))

stays_bx : (device : Device) (v : ℕ) (s : State) → s.cpu.side ≡ Secure → Stays (bx device v s)
unfolding bx
stays_bx device v s h = stays_cond _ _ _ (stays_return device s) (stays_cond _ _ _ (stays_went _ h) (stays_stopped stop.BadState s))

stays_only : (w : Stepped) (s : State) (d : Done) → Stays d → Stays (only_stopped_by w s d)
stays_only what.Went s d h = h
stays_only (what.Wrote at size value) s d h = h
stays_only (what.Given view) s d h = h
stays_only (what.Stopped x) s d h = stays_stopped x s

stays_blxns : (device : Device) (v size : ℕ) (s : State) → s.cpu.side ≡ Secure → Stays (blxns device v size s)
unfolding blxns
stays_blxns device v size s h =
    let t = called (link size s.cpu) s in
    stays_cond _ _ _
    (stays_or_stopped (call_stop s.cpu) s _ (stays_only _ s _ (stays_arrived device (goes_in device v) v (what.Given (seen t.cpu v)) t (λ e. cc))))
    (stays_cond _ _ _ (stays_went _ h) (stays_stopped stop.BadState s))

record IsSecure (c : Cpu) : Type 0 where
  by : c.side ≡ Secure

secure_cond : (b : Bool) (c d : Cpu) → IsSecure c → IsSecure d → IsSecure (cond b c d)
secure_cond true c d x y = x
secure_cond false c d x y = y

special_secure : (k v : ℕ) (c : Cpu) → c.side ≡ Secure → IsSecure (special k v c)
special_secure k v c h =
    secure_cond (eqb k 0) _ _ (record { by = h })
    (secure_cond (eqb k 8) _ _ (record { by = h })
    (secure_cond (eqb k 9) _ _ (record { by = h })
    (secure_cond (eqb k 10) _ _ (record { by = h })
    (secure_cond (eqb k 11) _ _ (record { by = h }) (secure_cond (eqb k 136) _ _ (record { by = h }) (record { by = h }))))))

stays_apply : (device : Device) (e : Effect) (size : ℕ) (s : State) → s.cpu.side ≡ Secure → Stays (apply device e size s)
unfolding apply write_register pushed popped
stays_apply device effect.Pass size s h = stays_went _ h
stays_apply device (effect.Stop x) size s h = stays_stopped x s
stays_apply device (effect.Put d v) size s h = stays_cond _ _ _ (stays_or_stopped (limit_stop v s.cpu) s _ (stays_went _ h)) (stays_went _ h)
stays_apply device (effect.Load t a n) size s h = stays_or_stopped (load_stop a n) s _ (stays_went _ h)
stays_apply device (effect.LoadSigned t a n) size s h = stays_or_stopped (load_stop a n) s _ (stays_went _ h)
stays_apply device (effect.Store a n v) size s h = stays_or_stopped (store_stop a n) s _ (record { side = λ e. h })
stays_apply device (effect.Push list) size s h = stays_or_stopped (push_stop list s.cpu) s _ (stays_went _ h)
stays_apply device (effect.Pop list) size s h = stays_or_stopped (pop_stop list s.cpu) s _ (stays_went _ h)
stays_apply device (effect.Flags flags) size s h = stays_went _ h
stays_apply device (effect.Jump a) size s h = stays_went _ h
stays_apply device (effect.Call a) size s h = stays_went _ h
stays_apply device (effect.Special k v) size s h = stays_went _ ((special_secure k v (pass size s).cpu h).by)
stays_apply device (effect.Bx v) size s h = stays_bx device v s h
stays_apply device (effect.Bxns v) size s h = stays_bxns device v s h
stays_apply device (effect.Blxns v) size s h = stays_blxns device v size s h

stays_act : (device : Device) (o : Option Decoded) (s : State) → s.cpu.side ≡ Secure → Stays (act_or device o s)
stays_act device None s h = stays_stopped stop.Undefined s
stays_act device (Some d) s h = stays_apply device (effect_of d.instr s.cpu) d.size s h

stays_step : (device : Device) (s : State) → s.cpu.side ≡ Secure → Stays (step_of device s)
unfolding step_of
stays_step device s h =
    let pc = s.cpu.pc in
    stays_cond (is_in_rom pc) _ _
    (stays_cond (is_narrow (fetched device pc)) _ _ (stays_act device (decode_of (fetched device pc) 0) s h)
    (stays_cond (is_in_rom (pc + 2)) _ _ (stays_act device (decode_of (fetched device pc) (fetched device (pc + 2))) s h) (stays_stopped stop.BadState s)))
    (stays_stopped stop.BadState s)

pub stays : (device : Device) (s t : State) → s.cpu.side ≡ Secure → step_of device s ≡ went t → t.cpu.side ≡ Secure
stays device s t h e =
    sym (ap (λ (d : Done). d.state.cpu.side) e) ∙ (stays_step device s h).side (ap (λ (d : Done). d.what) e)
