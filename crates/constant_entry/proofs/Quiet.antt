-- In no run does the program stack a word in Non-secure RAM: each of its instructions tells what it writes there.
use Rattle.std.proofs.Common.{◌≡◌, ℕ, zero, suc, ◌+◌, ◌%◌, ◌≤◌, Bool, true, false, cond, List, [], ◌∷◌, ◌++◌, length, refl, sym, ap, ◌∙◌, subst, arith, Option, Some, None}
use Rattle.std.specs.Prelude.{eqb}
use Rattle.std.proofs.lemmas.Bool.Decides.{nat_tests}
use Rattle.cm_base.specs.declared.stop.Stop.{Stop}
use Rattle.cm_base.specs.declared.stop.Stop.TheVariants as stop
use Rattle.v8m_isa.specs.declared.instr.Instr.{Instr}
use Rattle.v8m_isa.specs.declared.instr.Instr.TheVariants.{Bxns, B}
use Rattle.v8m_isa.specs.Table.{size_of}
use Rattle.ns_types.specs.declared.state.Cpu.{Cpu}
use Rattle.ns_types.specs.declared.state.Side.{Side}
use Rattle.ns_types.specs.declared.state.Side.TheVariants.{Secure, NonSecure, Stopped}
use Rattle.ns_types.specs.Turns.{Turn}
use Rattle.ns_types.specs.declared.turn.Start.{Start}
use Rattle.ns_types.specs.State.{Device, State}
use Rattle.ns_types.specs.Platform.{aligned}
use Rattle.ns_types.specs.Memory.{word_at, IsStart}
use Rattle.ns_types.specs.SecureRam.{main_seal, seal_word, ram_place}
use Rattle.ns_types.specs.Ram.{AreSecure}
use Rattle.ns_types.specs.Boundary.{acted, reset_address}
use Rattle.ns_types.specs.CRun.{World}
use Rattle.v8m_core.specs.declared.stepped.Stepped.{Stepped}
use Rattle.v8m_core.specs.declared.stepped.Stepped.TheVariants as what
use Rattle.v8m_core.specs.Step.{Done, went, stopped, or_stopped, seen, handed, entered, with_turn, goes_in, arrived, return_to, bxns, effect_of, apply, step_of, turn_of}
use Rattle.v8m_core.specs.Code.{Holds, HasCode, Does}
use Rattle.v8m_core.specs.Reset.{reset_of}
use Rattle.v8m_core.proofs.Runs.{does, stays, has_front, has_back}
use Rattle.v8m_core.proofs.GateLaws.{aligned_even}
use Rattle.ns_turns.specs.Run.{next_of}
use Rattle.ns_turns.specs.Tells.{is_write, Tells, stacks_outside, AllTell}
use Rattle.ns_turns.specs.Moments.{AlwaysKnowsRam}
use Rattle.ns_turns.proofs.Tell.{told_apply}
use Rattle.ns_turns.proofs.RamLaws.{tell_step, tell_turn}
use Rattle.ns_turns.proofs.RamLaws as ram_laws
use Rattle.constant_entry.specs.Code.{stacks_code, hand_code, start_front, entry_front, gateway_offset, start_place, entry_place, first_veneer}
use Rattle.constant_entry.specs.Shows.{GivesConstant}
use Rattle.constant_entry.proofs.Entering.{enters_first}
use Rattle.constant_entry.proofs.States.{sealed, handing, answering}
use Rattle.constant_entry.proofs.Pieces.{seal_does, hand_does, answer_does}
use Rattle.constant_entry.proofs.Views.{start_lr, branches}
use Rattle.constant_entry.proofs.Seals.{main_high}
use Rattle.constant_entry.proofs.Refine.{return_quiet, outside_cases, goes_m, goes_in_is, bxns_arrives}

-- How it goes on, by who runs

all_step : (device : Device) (n : ℕ) (ts : List Turn) (s : State) → s.cpu.side ≡ Secure → Tells device s → AllTell device n ts (step_of device s).state → AllTell device (suc n) ts s
unfolding AllTell
all_step device n ts s side t rest =
    subst (λ x. next_of (λ e. Unit {0}) (λ u us. AllTell device n us (turn_of device u s).state) (Tells device s × AllTell device n ts (step_of device s).state) x ts) (sym side) (t, rest)

all_turn : (device : Device) (n : ℕ) (t : Turn) (ts : List Turn) (s : State) → s.cpu.side ≡ NonSecure → AllTell device n ts (turn_of device t s).state → AllTell device (suc n) (t ∷ ts) s
unfolding AllTell
all_turn device n t ts s side rest =
    subst (λ x. next_of (λ e. Unit {0}) (λ u us. AllTell device n us (turn_of device u s).state) (Tells device s × AllTell device n (t ∷ ts) (step_of device s).state) x (t ∷ ts)) (sym side) rest

all_waits : (device : Device) (n : ℕ) (s : State) → s.cpu.side ≡ NonSecure → AllTell device n [] s
unfolding AllTell
all_waits device zero s side = tt
all_waits device (suc n) s side =
    subst (λ x. next_of (λ e. Unit {0}) (λ u us. AllTell device n us (turn_of device u s).state) (Tells device s × AllTell device n [] (step_of device s).state) x []) (sym side) tt

all_over : (device : Device) (n : ℕ) (ts : List Turn) (s : State) (x : Stop) → s.cpu.side ≡ Stopped x → AllTell device n ts s
unfolding AllTell
all_over device zero ts s x side = tt
all_over device (suc n) ts s x side =
    subst (λ y. next_of (λ e. Unit {0}) (λ u us. AllTell device n us (turn_of device u s).state) (Tells device s × AllTell device n ts (step_of device s).state) y ts) (sym side) tt

all_none : (device : Device) (ts : List Turn) (s : State) → AllTell device zero ts s
unfolding AllTell
all_none device ts s = tt

-- fewer steps
fewer : (device : Device) (n m : ℕ) (ts : List Turn) (s : State) → n ≤ m → AllTell device m ts s → AllTell device n ts s
fewer device zero m ts s le h = all_none device ts s
fewer device (suc n) zero ts s le h = absurd (omega arith)
fewer device (suc n) (suc m) ts s le h = by (λ us t q. fewer device n m us t (omega arith) q) s.cpu.side refl ts h
  where
    by : ((us : List Turn) (t : State) → AllTell device m us t → AllTell device n us t) → (x : Side) → s.cpu.side ≡ x → (us : List Turn) → AllTell device (suc m) us s → AllTell device (suc n) us s
    by less Secure side us q = let two = tell_step device m us s side q in all_step device n us s side two.0 (less us (step_of device s).state two.1)
    by less NonSecure side [] q = all_waits device (suc n) s side
    by less NonSecure side (u ∷ us) q = all_turn device n u us s side (less us (turn_of device u s).state (tell_turn device m u us s side q))
    by less (Stopped x) side us q = all_over device (suc n) us s x side

-- Code that stacks nothing

abbrev IsPlain : Instr → Type 0
IsPlain i = (c : Cpu) → stacks_outside (effect_of i c) c ≡ true

abbrev ArePlain : List Instr → Type 0
ArePlain [] = Unit {0}
ArePlain (i ∷ is) = IsPlain i × ArePlain is

tells_at : (device : Device) (s : State) (i : Instr) → s.cpu.side ≡ Secure → IsPlain i → Holds device s.cpu.pc i → Tells device s
tells_at device s i side plain h =
    subst (λ (d : Done). is_write d.what ≡ false → d.state.memory.ns_ram ≡ s.memory.ns_ram) (sym (does device s i h)) ((told_apply device (effect_of i s.cpu) (size_of i) s side).stays (plain s.cpu))

-- code in a row
all_straight : (device : Device) (n : ℕ) (ts : List Turn) (is : List Instr) (s t : State) → s.cpu.side ≡ Secure → HasCode device s.cpu.pc is → Does device is s t → ArePlain is → (t.cpu.side ≡ Secure → AllTell device n ts t) → AllTell device (length is + n) ts s
all_straight device n ts [] s t side has d plain rest = let e : n ≡ 0 + n = omega arith in subst (λ k. AllTell device k ts s) e (subst (λ x. AllTell device n ts x) (sym d) (rest (ap (λ (x : State). x.cpu.side) (sym d) ∙ side)))
all_straight device n ts (i ∷ []) s t side has d plain rest =
    let step = does device s i has.0 ∙ d.1 in
    let u = d.0 in
    let next = stays device s u side step in
    let e : suc n ≡ length (i ∷ []) + n = omega arith in
    subst (λ k. AllTell device k ts s) e
    (all_step device n ts s side (tells_at device s i side plain.0 has.0)
    (subst (λ (x : Done). AllTell device n ts x.state) (sym step) (subst (λ x. AllTell device n ts x) (sym d.3) (rest (ap (λ (x : State). x.cpu.side) (sym d.3) ∙ next)))))
all_straight device n ts (i ∷ j ∷ is) s t side has d plain rest =
    let step = does device s i has.0 ∙ d.1 in
    let u = d.0 in
    let next = stays device s u side step in
    let e : suc (length (j ∷ is) + n) ≡ length (i ∷ j ∷ is) + n = omega arith in
    subst (λ k. AllTell device k ts s) e
    (all_step device (length (j ∷ is) + n) ts s side (tells_at device s i side plain.0 has.0)
    (subst (λ (x : Done). AllTell device (length (j ∷ is) + n) ts x.state) (sym step)
    (all_straight device n ts (j ∷ is) u t next (subst (λ p. HasCode device p (j ∷ is)) (sym d.2) has.1) d.3 plain.1 rest)))

all_next : (device : Device) (n : ℕ) (ts : List Turn) (s : State) (d : Done) (i : Instr) → s.cpu.side ≡ Secure → IsPlain i → Holds device s.cpu.pc i → step_of device s ≡ d → AllTell device n ts d.state → AllTell device (suc n) ts s
all_next device n ts s d i side plain h step rest =
    all_step device n ts s side (tells_at device s i side plain h) (subst (λ (x : Done). AllTell device n ts x.state) (sym step) rest)

plain_stacks : ArePlain stacks_code
unfolding effect_of
plain_stacks =
    ((λ c. refl), ((λ c. refl), ((λ c. refl), ((λ c. refl), ((λ c. refl), ((λ c. refl), ((λ c. refl), ((λ c. refl), ((λ c. refl), ((λ c. refl), ((λ c. refl), ((λ c. refl), ((λ c. refl), ((λ c. refl), ((λ c. refl), ((λ c. refl), ((λ c. refl), ((λ c. refl), ((λ c. refl), ((λ c. refl), ((λ c. refl), ((λ c. refl), tt))))))))))))))))))))))

plain_hand : ArePlain hand_code
unfolding effect_of
plain_hand =
    ((λ c. refl), ((λ c. refl), ((λ c. refl), ((λ c. refl), ((λ c. refl), ((λ c. refl), ((λ c. refl), ((λ c. refl), ((λ c. refl), ((λ c. refl), ((λ c. refl), ((λ c. refl), ((λ c. refl), ((λ c. refl), ((λ c. refl), ((λ c. refl), ((λ c. refl), ((λ c. refl), ((λ c. refl), tt)))))))))))))))))))

plain_entry : (n : ℕ) → ArePlain (entry_front n)
unfolding effect_of
plain_entry n =
    ((λ c. refl), ((λ c. refl), ((λ c. refl), ((λ c. refl), ((λ c. refl), ((λ c. refl), ((λ c. refl), tt)))))))

plain_bxns : IsPlain (Bxns 14)
unfolding effect_of
plain_bxns c = refl

plain_branch : (off : ℕ) → IsPlain (B off)
unfolding effect_of
plain_branch off c = refl

-- The program at rest: the main stack is empty, and its seal stands.
record AtRest (s : State) : Type 0 where
  sp : s.cpu.regs.sp ≡ main_seal
  seal : word_at s.memory.secure_ram (ram_place (main_seal + 4)) ≡ seal_word

module _ (device : Device) (n : ℕ) (h : GivesConstant device n) where
  return_stops : (s : State) → AtRest s → return_to device s ≡ stopped stop.ReturnFault s
  return_stops s q =
      let w : World = record { turns = []; entries = 0; events = []; peak = 0; memory = s.memory; msp_ns = s.cpu.msp_ns; psp_ns = s.cpu.psp_ns } in
      return_quiet device s w (record { sp = q.sp; seal = q.seal; ram = refl; msp = refl; psp = refl })

  module _ (m : ℕ) (ts : List Turn) (waiting : (s : State) → AtRest s → s.cpu.side ≡ NonSecure → AllTell device m ts s) (inside : (s : State) → AtRest s → AllTell device m ts (entered first_veneer s)) where
    -- a branch to an even address
    arrival : (b : Bool) (a : ℕ) → eqb a first_veneer ≡ b → (show : Stepped) (s : State) → AtRest s → AllTell device m ts (arrived device (goes_m b a) a show s).state
    arrival true a at show s q =
        let here : a ≡ first_veneer = grind (arith, nat_tests) in
        subst (λ x. AllTell device m ts (entered x s)) (sym here) (inside s q)
    arrival false a at show s q =
        outside_cases (λ g. AllTell device m ts (arrived device g a show s).state)
        (subst (λ (d : Done). AllTell device m ts d.state) (sym (return_stops s q)) (all_over device m ts (stopped stop.ReturnFault s).state stop.ReturnFault refl))
        (waiting (handed a s) (record { sp = q.sp; seal = q.seal }) refl)
        (all_over device m ts (stopped stop.EntryPoint s).state stop.EntryPoint refl)
        (all_over device m ts (stopped stop.Astray s).state stop.Astray refl)
        a

    -- a turn
    by_turn : (t : Turn) (s : State) → AtRest s → AllTell device m ts (turn_of device t s).state
    unfolding turn_of
    by_turn t s q = by (acted t.items s.memory.ns_ram).stop
      where
        a : ℕ
        a = aligned 2 t.target

        u : State
        u = with_turn t (acted t.items s.memory.ns_ram).ram s

        by : (o : Option Stop) → AllTell device m ts (or_stopped o u (arrived device (goes_in device t.target) a what.Went u)).state
        by (Some x) = all_over device m ts (stopped x u).state x refl
        by None = subst (λ g. AllTell device m ts (arrived device g a what.Went u).state) (sym (goes_in_is device n h t.target)) (arrival (eqb a first_veneer) a refl what.Went u (record { sp = q.sp; seal = q.seal }))

    -- BXNS of an even number
    by_bxns : (v : ℕ) → v % 2 ≡ 0 → (s : State) → AtRest s → Holds device s.cpu.pc (Bxns 14) → s.cpu.side ≡ Secure → s.cpu.regs.lr ≡ v → AllTell device (suc m) ts s
    unfolding effect_of apply
    by_bxns v even s q here side lr =
        let d : Done = arrived device (goes_m (eqb v first_veneer) v) v (what.Given (seen s.cpu v)) s in
        let step : step_of device s ≡ d = does device s (Bxns 14) here ∙ ap (λ x. bxns device x s) lr ∙ bxns_arrives device n h v s even in
        all_next device m ts s d (Bxns 14) side plain_bxns here step (arrival (eqb v first_veneer) v refl (what.Given (seen s.cpu v)) s q)

    -- the entry, from its gateway on
    by_entry : (s : State) → AtRest s → AllTell device (suc (7 + suc m)) ts (entered first_veneer s)
    unfolding size_of
    by_entry s q =
        let u2 = entered first_veneer s in
        let u3 : State = record u2 { cpu = record u2.cpu { pc = entry_place } } in
        let t2 = answering n u3 in
        let v = aligned 2 s.cpu.regs.lr in
        let last = has_back device entry_place (entry_front n) (Bxns 14 ∷ []) h.entry in
        all_next device (7 + suc m) ts u2 (went u3) (B gateway_offset) refl (plain_branch gateway_offset) h.gateway.1.0 (branches device u2 gateway_offset entry_place h.gateway.1.0 refl)
        (all_straight device (suc m) ts (entry_front n) u3 t2 refl (has_front device entry_place (entry_front n) (Bxns 14 ∷ []) h.entry) (answer_does device n u3) (plain_entry n)
        (λ side. by_bxns v (aligned_even s.cpu.regs.lr) t2 (record { sp = q.sp; seal = q.seal }) last.0 side refl))

  -- waiting for a turn, and in the entry
  abbrev BothTell : ℕ → Type 0
  BothTell m = ((ts : List Turn) (s : State) → AtRest s → s.cpu.side ≡ NonSecure → AllTell device m ts s) × ((ts : List Turn) (s : State) → AtRest s → AllTell device m ts (entered first_veneer s))

  next_turn : (m : ℕ) → BothTell m → (ts : List Turn) (s : State) → AtRest s → s.cpu.side ≡ NonSecure → AllTell device (suc m) ts s
  next_turn m r [] s q side = all_waits device (suc m) s side
  next_turn m r (t ∷ ts) s q side = all_turn device m t ts s side (by_turn m ts (r.0 ts) (r.1 ts) t s q)

  both_tell : (m : ℕ) → BothTell m
  both_tell zero = ((λ ts s q side. all_none device ts s), (λ ts s q. all_none device ts (entered first_veneer s)))
  both_tell (suc m) =
      let r = both_tell m in (
        next_turn m r,
        λ ts s q. fewer device (suc m) (suc (7 + suc m)) ts (entered first_veneer s) (omega arith) (by_entry m ts (r.0 ts) (r.1 ts) s q),
      )

  -- from reset
  pub all_tell : (start : Start) → IsStart start → (ts : List Turn) (k : ℕ) → AllTell device k ts (reset_of device start)
  unfolding size_of
  all_tell start whole ts k =
      let s = reset_of device start in
      let place : s.cpu.pc ≡ start_place = ap (aligned 2) h.reset in
      let has : HasCode device s.cpu.pc (start_front ++ Bxns 14 ∷ []) = subst (λ p. HasCode device p (start_front ++ Bxns 14 ∷ [])) (sym place) h.start in
      let front = has_front device s.cpu.pc start_front (Bxns 14 ∷ []) has in
      let seal = has_front device s.cpu.pc stacks_code hand_code front in
      let hand = has_back device s.cpu.pc stacks_code hand_code front in
      let last = has_back device s.cpu.pc start_front (Bxns 14 ∷ []) has in
      let t1 = handing (sealed s) in
      let q : AtRest t1 = record { sp = ap (aligned 4) h.stack; seal = main_high s whole.secure_ram } in
      fewer device k (22 + (19 + suc k)) ts s (omega arith)
      (all_straight device (19 + suc k) ts stacks_code s (sealed s) refl seal (seal_does device s) plain_stacks
      (λ a. all_straight device (suc k) ts hand_code (sealed s) t1 a hand (hand_does device (sealed s)) plain_hand
      (λ b. by_bxns k ts ((both_tell k).0 ts) ((both_tell k).1 ts) (reset_address start) (aligned_even (word_at start.ns_rom 4)) t1 q last.0 b (start_lr start s refl))))

-- the entry stands in Secure memory
entry_secure : AreSecure enters_first
entry_secure = record { by = λ a h. let no : eqb a first_veneer ≡ false = grind (arith, nat_tests) in ap (λ b. cond b (Some 0) None) no }

pub knows_ram : (device : Device) (n : ℕ) → GivesConstant device n → AlwaysKnowsRam device enters_first
knows_ram device n h start whole ts k = ram_laws.knows_ram device enters_first entry_secure start ts k (all_tell device n h start whole ts k)
