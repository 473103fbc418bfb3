-- The start code and an entry that gives a constant show two views, whatever the caller sets and Secure memory holds.
use Rattle.std.proofs.Common.{◌≡◌, ℕ, suc, ◌+◌, ◌%◌, true, List, [], ◌∷◌, ◌++◌, refl, sym, ap, ◌∙◌, subst, ⊎_elim, arith}
use Rattle.std.specs.Prelude.{eqb, ◌&&◌, bit_and}
use Rattle.std.proofs.lemmas.Bool.Decides.{nat_tests}
use Rattle.v8m_isa.specs.Table.{size_of, code_of}
use Rattle.v8m_isa.specs.declared.instr.Instr.TheVariants.{Bxns, B, Sg}
use Rattle.ns_types.specs.declared.event.End.TheVariants as end
use Rattle.ns_types.specs.declared.state.Side.TheVariants.{NonSecure}
use Rattle.ns_types.specs.Turns.{Turn}
use Rattle.ns_types.specs.declared.turn.Start.{Start}
use Rattle.ns_types.specs.declared.turn.View.{View}
use Rattle.ns_types.specs.State.{Device, State}
use Rattle.ns_types.specs.Platform.{is_nonsecure, aligned}
use Rattle.ns_types.specs.Memory.{word_at}
use Rattle.ns_types.specs.Boundary.{reset_address}
use Rattle.v8m_core.specs.declared.stepped.Stepped.TheVariants as what
use Rattle.ns_types.specs.Gateway.{fetched, sg_half, is_gateway}
use Rattle.v8m_core.specs.Step.{Done, went, seen, handed, entered, with_turn, step_of, bxns, effect_of, apply}
use Rattle.ns_types.specs.Operators.{add}
use Rattle.v8m_core.specs.Code.{Holds, HasCode, Comes}
use Rattle.v8m_core.specs.Reset.{reset_of}
use Rattle.ns_turns.specs.Run.{after, run_of, machine_run}
use Rattle.constant_entry.specs.Code.{stacks_code, hand_code, start_front, entry_front, gateway_offset, start_place, entry_place, first_veneer}
use Rattle.constant_entry.proofs.States.{sealed, handing, answering}
use Rattle.constant_entry.specs.Shows.{GivesConstant, CallsFirst, started_view, result_view, two_views, ShowsConstant}
use Rattle.v8m_core.proofs.Runs.{does, comes_on, has_front, has_back}
use Rattle.ns_turns.proofs.RunLaws.{run_step, run_turn, run_waits, run_comes, fronts}
use Rattle.v8m_core.proofs.GateLaws.{word_at_lt, clear_bit_0, aligned_even, store_ns_rom, bxns_hands, turn_enters}
use Rattle.constant_entry.proofs.Pieces.{seal_runs, hand_runs, answer_runs}

-- the last step of code that leaves Secure state by BXNS LR
pub leaves : (device : Device) (s : State) (v : ℕ) → Holds device s.cpu.pc (Bxns 14) → s.cpu.regs.lr ≡ v → is_nonsecure v ≡ true → v % 2 ≡ 0 → step_of device s ≡ record { state = handed v s; what = what.Given (seen s.cpu v) }
unfolding effect_of apply
leaves device s v h e in_row even = does device s (Bxns 14) h ∙ ap (λ x. bxns device x s) e ∙ bxns_hands device v s in_row even

-- a branch
pub branches : (device : Device) (s : State) (off to : ℕ) → Holds device s.cpu.pc (B off) → add (s.cpu.pc + 4) off ≡ to → step_of device s ≡ went (record s { cpu = record s.cpu { pc = to } })
unfolding effect_of apply
branches device s off to h e = does device s (B off) h ∙ ap (λ p. went (record s { cpu = record s.cpu { pc = p } })) e

-- where SG stands at the first veneer a gateway is open
pub opens : (device : Device) → Holds device first_veneer Sg → is_gateway device first_veneer ≡ true
unfolding is_gateway size_of code_of
opens device h =
    let second : fetched device (first_veneer + 2) ≡ sg_half = ⊎_elim {C = fetched device (first_veneer + 2) ≡ sg_half} (λ e. cc) (λ p. p.1) h.second in
    let first : fetched device first_veneer ≡ sg_half = h.first in
    ap (λ a. eqb a sg_half && eqb (fetched device (first_veneer + 2)) sg_half) first ∙ ap (λ b. eqb b sg_half) second

pub even_nonsecure : (w : ℕ) → is_nonsecure w ≡ true → is_nonsecure (aligned 2 w) ≡ true
even_nonsecure w h = grind (arith, nat_tests)

-- the start code, from any state
pub starts : (device : Device) (s : State) → HasCode device s.cpu.pc (start_front ++ Bxns 14 ∷ []) → Comes device 41 s (handing (sealed s)) × Holds device (handing (sealed s)).cpu.pc (Bxns 14)
starts device s has =
    let front = has_front device s.cpu.pc start_front (Bxns 14 ∷ []) has in
    let seal = has_front device s.cpu.pc stacks_code hand_code front in
    let hand = has_back device s.cpu.pc stacks_code hand_code front in
    let last = has_back device s.cpu.pc start_front (Bxns 14 ∷ []) has in
    (comes_on device 22 19 s (sealed s) (handing (sealed s)) (seal_runs device s seal) (hand_runs device (sealed s) hand), last.0)

pub sealed_ns_rom : (s : State) → (sealed s).memory.ns_rom ≡ s.memory.ns_rom
sealed_ns_rom s = store_ns_rom _ _ _ _ ∙ store_ns_rom _ _ _ _ ∙ store_ns_rom _ _ _ _ ∙ store_ns_rom _ _ _ _ ∙ store_ns_rom _ _ _ _

-- the registers that the start code leaves are those of the view
pub start_seen : (start : Start) (s : State) → s.memory.ns_rom ≡ start.ns_rom → s.cpu.psp_ns ≡ 0 → seen (handing (sealed s)).cpu (reset_address start) ≡ started_view start
start_seen start s same psp =
    let zeros : List ℕ = 0 ∷ 0 ∷ 0 ∷ 0 ∷ 0 ∷ 0 ∷ 0 ∷ 0 ∷ 0 ∷ 0 ∷ 0 ∷ 0 ∷ 0 ∷ [] in
    let all : List ℕ → ℕ → View = λ bytes p. record { r = zeros; lr = bit_and (word_at bytes 4) 0xFFFFFFFE; pc = reset_address start; nzcvq = 0; msp_ns = aligned 4 (word_at bytes 0); psp_ns = p } in
    ap (λ r. all r s.cpu.psp_ns) (sealed_ns_rom s ∙ same) ∙ ap (all start.ns_rom) psp
    ∙ ap (λ l. let v : View = record { r = zeros; lr = l; pc = reset_address start; nzcvq = 0; msp_ns = aligned 4 (word_at start.ns_rom 0); psp_ns = 0 } in v) (clear_bit_0 (word_at start.ns_rom 4) (word_at_lt start.ns_rom 4))

pub start_lr : (start : Start) (s : State) → s.memory.ns_rom ≡ start.ns_rom → (handing (sealed s)).cpu.regs.lr ≡ reset_address start
start_lr start s same = ap (λ r. bit_and (word_at r 4) 0xFFFFFFFE) (sealed_ns_rom s ∙ same) ∙ clear_bit_0 (word_at start.ns_rom 4) (word_at_lt start.ns_rom 4)

-- from an entry's gateway back to the caller
answers : (device : Device) (n : ℕ) (h : GivesConstant device n) (t : Turn) (ts : List Turn) (s : State) (k : ℕ) → CallsFirst t → s.cpu.side ≡ NonSecure
    → (u : State) × (u.cpu.side ≡ NonSecure) × (run_of device (suc (suc (7 + suc k))) (t ∷ ts) s ≡ after (record { state = u; what = what.Given (result_view t n) }) (run_of device k ts u))
unfolding size_of
answers device n h t ts s k calls side =
    let target : aligned 2 t.target ≡ first_veneer = ⊎_elim (λ e. ap (aligned 2) e) (λ e. ap (aligned 2) e) calls.target in
    let u2 = entered first_veneer (with_turn t s.memory.ns_ram s) in
    let u3 : State = record u2 { cpu = record u2.cpu { pc = entry_place } } in
    let t2 = answering n u3 in
    let v = aligned 2 t.lr in
    let runs : Comes device 7 u3 t2 = answer_runs device n u3 (has_front device entry_place (entry_front n) (Bxns 14 ∷ []) h.entry) in
    let last = has_back device entry_place (entry_front n) (Bxns 14 ∷ []) h.entry in
    let hands : step_of device t2 ≡ record { state = handed v t2; what = what.Given (result_view t n) } = leaves device t2 v last.0 refl (even_nonsecure t.lr calls.back) (aligned_even t.lr) in (
      handed v t2,
      refl,
      run_turn device (suc (7 + suc k)) t ts s (went u2) side (turn_enters device t first_veneer s calls.items target (opens device h.gateway.0))
          ∙ run_step device (7 + suc k) ts u2 (went u3) refl (branches device u2 gateway_offset entry_place h.gateway.1.0 refl)
          ∙ run_comes device 7 (suc k) ts u3 t2 refl runs
          ∙ run_step device k ts t2 (record { state = handed v t2; what = what.Given (result_view t n) }) refl hands,
    )

-- the whole run
whole : (device : Device) (n : ℕ) (h : GivesConstant device n) (start : Start) (t : Turn) → is_nonsecure (word_at start.ns_rom 4) ≡ true → CallsFirst t
    → machine_run device start (t ∷ []) (41 + suc (suc (suc (7 + suc 0)))) ≡ record { list = two_views start t n; end = end.Waiting }
whole device n h start t in_row calls =
    let s = reset_of device start in
    let place : s.cpu.pc ≡ start_place = ap (aligned 2) h.reset in
    let has : HasCode device s.cpu.pc (start_front ++ Bxns 14 ∷ []) = subst (λ p. HasCode device p (start_front ++ Bxns 14 ∷ [])) (sym place) h.start in
    let begun = starts device s has in
    let t1 = handing (sealed s) in
    let v = reset_address start in
    let d : Done = record { state = handed v t1; what = what.Given (started_view start) } in
    let hands : step_of device t1 ≡ d = leaves device t1 v begun.1 (start_lr start s refl) (even_nonsecure (word_at start.ns_rom 4) in_row) (aligned_even (word_at start.ns_rom 4)) ∙ ap (λ x. let r : Done = record { state = handed v t1; what = what.Given x } in r) (start_seen start s refl refl) in
    let back = answers device n h t [] (handed v t1) 0 calls refl in
    run_comes device 41 (suc (suc (suc (7 + suc 0)))) (t ∷ []) s t1 refl begun.0
    ∙ run_step device (suc (suc (7 + suc 0))) (t ∷ []) t1 d refl hands
    ∙ ap (after d) (back.2 ∙ ap (after (record { state = back.0; what = what.Given (result_view t n) })) (run_waits device 0 back.0 back.1))

pub shows_constant : (device : Device) (n : ℕ) → GivesConstant device n → ShowsConstant device n
shows_constant device n h = record {
  front = λ start t k in_row calls. fronts device k (41 + suc (suc (suc (7 + suc 0)))) (t ∷ []) (reset_of device start) (record { list = two_views start t n; end = end.Waiting }) (whole device n h start t in_row calls) (λ e. cc);
  both = λ start t in_row calls. (41 + suc (suc (suc (7 + suc 0))), whole device n h start t in_row calls);
}
