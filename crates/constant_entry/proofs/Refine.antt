-- The machine does what a program whose one entry gives a number does, for every start, list of turns and bound.
use Rattle.std.proofs.Common.{◌≡◌, ◌≢◌, ℕ, zero, suc, ◌+◌, ◌-◌, ◌*◌, ◌%◌, ◌≤◌, Bool, true, false, cond, List, [], ◌∷◌, ◌++◌, length, refl, sym, ap, ◌∙◌, subst, arith, Option, Some, None, append_assoc}
use Rattle.std.specs.Prelude.{eqb, ltb, ◌&&◌, not, take}
use Rattle.std.proofs.lemmas.Bool.Decides.{nat_tests}
use Rattle.std.proofs.lemmas.List.{append-nil}
use Rattle.cm_base.specs.declared.stop.Stop.{Stop}
use Rattle.cm_base.specs.declared.stop.Stop.TheVariants as stop
use Rattle.v8m_isa.specs.Table.{size_of}
use Rattle.v8m_isa.specs.declared.instr.Instr.TheVariants.{Bxns}
use Rattle.ns_types.specs.declared.goes.Goes.{Goes}
use Rattle.ns_types.specs.declared.goes.Goes.TheVariants as goes
use Rattle.ns_types.specs.declared.event.Event.{Event}
use Rattle.ns_types.specs.declared.event.CEvent.{CEvent}
use Rattle.ns_types.specs.declared.event.CEvent.TheVariants as c
use Rattle.ns_types.specs.declared.event.End.TheVariants as end
use Rattle.ns_types.specs.declared.event.Events.{Events}
use Rattle.ns_types.specs.declared.state.Side.TheVariants.{NonSecure}
use Rattle.ns_types.specs.Turns.{Turn}
use Rattle.ns_types.specs.declared.turn.View.{View}
use Rattle.ns_types.specs.State.{Device, State, Memory}
use Rattle.ns_types.specs.Platform.{is_readable, is_secure, is_nonsecure, is_in_rom, aligned}
use Rattle.ns_types.specs.Memory.{word_at, load}
use Rattle.ns_types.specs.SecureRam.{main_seal, seal_word, ram_place}
use Rattle.ns_types.specs.declared.event.Mark.{Mark}
use Rattle.ns_types.specs.Boundary.{Acted, acted, in_four, kept_of, view, goes_of, goes_or, goes_outside, function_return}
use Rattle.ns_types.specs.declared.event.Marked.{Marked}
use Rattle.ns_types.specs.CRun.{World, Outcome, Gave, Over, emit, mark_at, reach, counted, chain, phase, at_top, run_of, stop_or}
use Rattle.ns_types.specs.CRun as crun
use Rattle.ns_types.specs.Show.{show, shown_of, given_if, events_shown}
use Rattle.ns_types.proofs.ShowLaws.{events_append}
use Rattle.v8m_core.specs.declared.stepped.Stepped.{Stepped}
use Rattle.v8m_core.specs.declared.stepped.Stepped.TheVariants as what
use Rattle.v8m_core.specs.Step.{Done, went, stopped, or_stopped, seen, handed, entered, returned, with_turn, turn_of, return_stop, return_to, arrived, bxns, goes_in, effect_of, apply}
use Rattle.v8m_core.specs.Code.{Comes}
use Rattle.ns_turns.specs.Run as m
use Rattle.ns_turns.specs.Run.{ends, after, event_of}
use Rattle.v8m_core.proofs.Runs.{does, has_front, has_back}
use Rattle.ns_turns.proofs.RunLaws.{run_step, run_turn, run_waits, run_comes, run_spent}
use Rattle.v8m_core.proofs.GateLaws.{aligned_even, aligned_twice}
use Rattle.constant_entry.specs.Code.{entry_front, gateway_offset, entry_place, first_veneer}
use Rattle.constant_entry.specs.Shows.{GivesConstant}
use Rattle.constant_entry.specs.Meaning.{gives, need}
use Rattle.constant_entry.proofs.Entering.{enters_first}
use Rattle.constant_entry.proofs.States.{answering}
use Rattle.constant_entry.proofs.Pieces.{answer_runs}
use Rattle.constant_entry.proofs.Views.{branches}

-- at a moment between functions: the main stack is empty, and the second word of its seal stands
pub record IsQuiet (s : State) (w : World) : Type 0 where
  pub sp : s.cpu.regs.sp ≡ main_seal
  pub seal : word_at s.memory.secure_ram (ram_place (main_seal + 4)) ≡ seal_word
  pub ram : s.memory.ns_ram ≡ w.memory.ns_ram
  pub msp : s.cpu.msp_ns ≡ w.msp_ns
  pub psp : s.cpu.psp_ns ≡ w.psp_ns

-- a function return finds the seal
pub return_quiet : (device : Device) (s : State) (w : World) → IsQuiet s w → return_to device s ≡ stopped stop.ReturnFault s
unfolding return_to return_stop is_readable load
return_quiet device s w q =
    let test : ℕ → ℕ → Option Stop = λ p x.
    cond (not (eqb (p % 8) 0)) (Some stop.BadState)
    (cond (not (is_readable p 4 && is_readable (p + 4) 4)) (Some stop.Unmapped)
    (cond (not (eqb (x % 512) 0)) (Some stop.ReturnFault)
    (cond (not (is_in_rom (aligned 2 (load 4 p device s.memory)))) (Some stop.BadState) None))) in
    let at_sp : return_stop device s ≡ test main_seal (word_at s.memory.secure_ram (ram_place (main_seal + 4))) = ap (λ p. test p (load 4 (p + 4) device s.memory)) q.sp in
    ap (λ o. or_stopped o s (went (returned (aligned 2 (load 4 s.cpu.regs.sp device s.memory)) s))) (at_sp ∙ ap (test main_seal) q.seal)

-- where a branch goes that is at no entry
pub outside_cases : (P : Goes → Type 0) → P goes.Return → P goes.Turn → P goes.EntryPoint → P goes.Astray → (a : ℕ) → P (goes_outside a)
outside_cases P r t e x a = pick (eqb a function_return) (is_nonsecure a) (is_secure a)
  where
    pick : (b c d : Bool) → P (cond b goes.Return (cond c goes.Turn (cond d goes.EntryPoint goes.Astray)))
    pick true c d = r
    pick false true d = t
    pick false false true = e
    pick false false false = x

-- how a run of the machine plays an outcome of the program
pub record Plays (run : ℕ → Events) (before : List Event) (w : World) (least : ℕ) (o : Outcome) : Type 0 where
  pub more : List Marked
  pub n : ℕ
  pub events : (run_of (at_top o)).list ≡ w.events ++ more
  pub list : (run n).list ≡ before ++ events_shown (show enters_first more)
  pub ended : (run_of (at_top o)).end ≢ end.Spent → (run n).end ≡ (run_of (at_top o)).end
  pub spent : (run_of (at_top o)).end ≡ end.Spent → ((run n).end ≡ end.Spent) × (least ≤ n)

-- what a step to there shows
abbrev pub shows_at : Stepped → Goes → List Event
shows_at show goes.Turn = event_of show
shows_at show (goes.Enter e) = []
shows_at show goes.Return = []
shows_at show goes.EntryPoint = []
shows_at show goes.Astray = []

pub shows_given : (v : View) (g : Goes) (e : CEvent) → shows_at (what.Given v) g ≡ events_shown (given_if g e (Some v))
shows_given v goes.Turn e = refl
shows_given v (goes.Enter _) e = refl
shows_given v goes.Return e = refl
shows_given v goes.EntryPoint e = refl
shows_given v goes.Astray e = refl

-- a stop of both
stop_plays : (device : Device) (ts : List Turn) (x : Stop) (s : State) (w : World) (least : ℕ) → Plays (λ k. after (stopped x s) (m.run_of device k ts (stopped x s).state)) [] w least (crun.stop_with x w)
unfolding m.run_of
stop_plays device ts x s w least = record {
  more = record { event = c.Stopped x; mark = mark_at 0 (0 ∷ 0 ∷ 0 ∷ 0 ∷ 0 ∷ 0 ∷ 0 ∷ 0 ∷ []) w } ∷ [];
  n = 0;
  events = refl;
  list = refl;
  ended = λ ne. refl;
  spent = λ e. cc;
}

-- where a branch to an even address goes, in the machine and in the program, where the test for the veneer gave b
abbrev pub goes_m : Bool → ℕ → Goes
goes_m b a = goes_or (cond b (Some a) None) a

abbrev pub goes_c : Bool → ℕ → Goes
goes_c b a = goes_or (cond b (Some 0) None) a

pub goes_in_is : (device : Device) (n : ℕ) → GivesConstant device n → (t : ℕ) → goes_in device t ≡ goes_m (eqb (aligned 2 t) first_veneer) (aligned 2 t)
unfolding goes_in goes_of
goes_in_is device n h t = ap (λ b. goes_m b (aligned 2 t)) (h.alone (aligned 2 t) (aligned_even t))

pub goes_of_is : (t : ℕ) → goes_of enters_first t ≡ goes_c (eqb (aligned 2 t) first_veneer) (aligned 2 t)
unfolding goes_of
goes_of_is t = refl

-- BXNS of an even number arrives there
pub bxns_arrives : (device : Device) (n : ℕ) → GivesConstant device n → (v : ℕ) (s : State) → v % 2 ≡ 0 → bxns device v s ≡ arrived device (goes_m (eqb v first_veneer) v) v (what.Given (seen s.cpu v)) s
unfolding bxns
bxns_arrives device n h v s even =
    let z : eqb (v % 2) 0 ≡ true = ap (λ x. eqb x 0) even in
    let inn : goes_in device v ≡ goes_m (eqb v first_veneer) v = goes_in_is device n h v ∙ ap (λ x. goes_m (eqb x first_veneer) x) (aligned_twice v even) in
    let rest : Done = cond (is_in_rom (v - 1)) (went (record s { cpu = record s.cpu { pc = v - 1 } })) (stopped stop.BadState s) in
    ap (λ x. cond (eqb x function_return) (return_to device s) (cond (eqb (v % 2) 0) (arrived device (goes_in device v) v (what.Given (seen s.cpu v)) s) rest)) (aligned_twice v even)
    ∙ ap (λ b. cond (eqb v function_return) (return_to device s) (cond b (arrived device (goes_in device v) v (what.Given (seen s.cpu v)) s) rest)) z
    ∙ ap (λ g. cond (eqb v function_return) (return_to device s) (arrived device g v (what.Given (seen s.cpu v)) s)) inn
    ∙ pick (eqb v function_return) refl
  where
    pick : (b : Bool) → eqb v function_return ≡ b → cond b (return_to device s) (arrived device (goes_m (eqb v first_veneer) v) v (what.Given (seen s.cpu v)) s) ≡ arrived device (goes_m (eqb v first_veneer) v) v (what.Given (seen s.cpu v)) s
    pick true e =
        let is : v ≡ function_return = grind (arith, nat_tests) in
        ap (λ x. arrived device (goes_m (eqb x first_veneer) x) v (what.Given (seen s.cpu v)) s) (sym is)
    pick false e = refl

-- from the gateway to the entry's BXNS
enter_runs : (device : Device) (n : ℕ) → GivesConstant device n → (ts : List Turn) (s : State) (k : ℕ) (d : Done) → bxns device (aligned 2 s.cpu.regs.lr) (answering n (record (entered first_veneer s) { cpu = record (entered first_veneer s).cpu { pc = entry_place } })) ≡ d → m.run_of device (suc (7 + suc k)) ts (entered first_veneer s) ≡ after d (m.run_of device k ts d.state)
unfolding size_of effect_of apply
enter_runs device n h ts s k d e =
    let u2 = entered first_veneer s in
    let u3 : State = record u2 { cpu = record u2.cpu { pc = entry_place } } in
    let t2 = answering n u3 in
    let runs : Comes device 7 u3 t2 = answer_runs device n u3 (has_front device entry_place (entry_front n) (Bxns 14 ∷ []) h.entry) in
    let last = has_back device entry_place (entry_front n) (Bxns 14 ∷ []) h.entry in
    run_step device (7 + suc k) ts u2 (went u3) refl (branches device u2 gateway_offset entry_place h.gateway.1.0 refl)
    ∙ run_comes device 7 (suc k) ts u3 t2 refl runs
    ∙ run_step device k ts t2 d refl (does device t2 (Bxns 14) last.0 ∙ e)

abbrev pub regs_kept : State → List ℕ
regs_kept s =
    let r = s.cpu.regs in
    r.r4 ∷ r.r5 ∷ r.r6 ∷ r.r7 ∷ r.r8 ∷ r.r9 ∷ r.r10 ∷ r.r11 ∷ []

-- what a hand-over behind the entry shows is the view of its result
seen_result : (n exit : ℕ) (kept : List ℕ) (s : State) (w : World) → IsQuiet s w → regs_kept s ≡ kept → aligned 2 s.cpu.regs.lr ≡ exit
    → seen (answering n (record (entered first_veneer s) { cpu = record (entered first_veneer s).cpu { pc = entry_place } })).cpu exit ≡ view (in_four (n ∷ [])) kept 0 exit exit (mark_at exit kept w)
seen_result n exit kept s w q k e =
    let all : List ℕ → ℕ → ℕ → ℕ → View = λ r l x y. record { r = n ∷ 0 ∷ 0 ∷ 0 ∷ (r ++ 0 ∷ []); lr = l; pc = exit; nzcvq = 0; msp_ns = x; psp_ns = y } in
    ap (λ r. all r (aligned 2 s.cpu.regs.lr) s.cpu.msp_ns s.cpu.psp_ns) k
    ∙ ap (λ l. all kept l s.cpu.msp_ns s.cpu.psp_ns) e
    ∙ ap (λ x. all kept exit x s.cpu.psp_ns) q.msp
    ∙ ap (all kept exit w.msp_ns) q.psp

-- least, the steps that are owed, and the entries since the last turn together are at most the bound
one_entry : (least entries turns : ℕ) → ltb entries turns ≡ true → least + entries ≤ turns → (least - 1) + suc entries ≤ turns
one_entry least entries turns below few = grind (arith, nat_tests)

no_entry : (least entries turns : ℕ) → ltb entries turns ≡ false → least + entries ≤ turns → least ≤ 0
no_entry least entries turns above few = grind (arith, nat_tests)

pub first_entry : (least turns : ℕ) → least ≤ turns → least + 0 ≤ turns
first_entry least turns few = omega arith

pub entries_left : (least turns more : ℕ) → least ≤ turns → least ≤ turns * suc more
entries_left least turns more few = omega arith

module _ (device : Device) (n : ℕ) (h : GivesConstant device n) (turns deep fuel : ℕ) where
  -- what follows a hand-over
  abbrev pub Phases : Type 0
  Phases = (w : World) (s : State) (least : ℕ) → length w.turns ≤ fuel → least ≤ turns → least ≤ deep → s.cpu.side ≡ NonSecure → IsQuiet s w → Plays (λ k. m.run_of device k w.turns s) [] w least (phase enters_first (gives n deep) turns fuel w)

  abbrev pub Arrives : ℕ → Goes → Goes → ℕ → List ℕ → Stepped → State → World → ℕ → List ℕ → ℕ → Type 0
  Arrives left gm gc exit kept show s w least args a =
      Plays (λ k. after (arrived device gm a show s) (m.run_of device k w.turns (arrived device gm a show s).state)) (shows_at show gc) w least (chain enters_first (gives n deep) (phase enters_first (gives n deep) turns fuel) turns exit kept left gc args w)

  -- at no entry
  arrives_outside : Phases → (left a exit : ℕ) (kept args : List ℕ) (show : Stepped) (s : State) (w : World) (least : ℕ) → length w.turns ≤ fuel → least ≤ turns → least ≤ deep → IsQuiet s w → Arrives left (goes_outside a) (goes_outside a) exit kept show s w least args a
  arrives_outside phases left a exit kept args show s w least long few few_deep q =
      outside_cases (λ g. Arrives left g g exit kept show s w least args a) (back left) (turn left) (wrong left) (astray left) a
    where
      sealed : Plays (λ k. after (return_to device s) (m.run_of device k w.turns (return_to device s).state)) [] w least (crun.stop_with stop.ReturnFault w)
      sealed = subst (λ (d : Done). Plays (λ k. after d (m.run_of device k w.turns d.state)) [] w least (crun.stop_with stop.ReturnFault w)) (sym (return_quiet device s w q)) (stop_plays device w.turns stop.ReturnFault s w least)

      gave : (x : ℕ) → Plays (λ k. after (return_to device s) (m.run_of device k w.turns (return_to device s).state)) [] w least (Gave x w)
      gave x = let p = sealed in record { more = p.more; n = p.n; events = p.events; list = p.list; ended = p.ended; spent = p.spent }

      back : (left : ℕ) → Arrives left goes.Return goes.Return exit kept show s w least args a
      back zero = gave _
      back (suc left) = gave _

      over : Plays (λ k. after (record { state = handed a s; what = show }) (m.run_of device k w.turns (handed a s))) (event_of show) w least (phase enters_first (gives n deep) turns fuel w)
      over =
          let p = phases w (handed a s) least long few few_deep refl (record { sp = q.sp; seal = q.seal; ram = q.ram; msp = q.msp; psp = q.psp }) in
          record { more = p.more; n = p.n; events = p.events; list = ap (λ l. event_of show ++ l) p.list; ended = p.ended; spent = p.spent }

      turn : (left : ℕ) → Arrives left goes.Turn goes.Turn exit kept show s w least args a
      turn zero = over
      turn (suc left) = over

      wrong : (left : ℕ) → Arrives left goes.EntryPoint goes.EntryPoint exit kept show s w least args a
      wrong zero = stop_plays device w.turns stop.EntryPoint s w least
      wrong (suc left) = stop_plays device w.turns stop.EntryPoint s w least

      astray : (left : ℕ) → Arrives left goes.Astray goes.Astray exit kept show s w least args a
      astray zero = stop_plays device w.turns stop.Astray s w least
      astray (suc left) = stop_plays device w.turns stop.Astray s w least

  -- a bound that is used up before the gateway's first instruction
  no_step : (a : ℕ) (s : State) (w u : World) (least : ℕ) → u.events ≡ w.events → least ≤ 0 → Plays (λ k. after (went (entered a s)) (m.run_of device k w.turns (entered a s))) [] w least (Over end.Spent u)
  no_step a s w u least same few =
      let stops = run_spent device w.turns (entered a s) refl in
      record { more = []; n = 0; events = same ∙ sym (append-nil w.events); list = ap (λ (x : Events). x.list) stops; ended = λ ne. absurd (ne refl); spent = λ x. (ap (λ (x : Events). x.end) stops, few) }

  -- the entry, from its gateway on, where its hand-over goes on as onward says
  enters : (left exit : ℕ) (kept args : List ℕ) (hands : Stepped) (s : State) (w : World) (least : ℕ) → length w.turns ≤ fuel → least + w.entries ≤ turns → least ≤ deep → IsQuiet s w → regs_kept s ≡ kept → aligned 2 s.cpu.regs.lr ≡ exit
      → ((hands : Stepped) (t : State) (v : World) → length v.turns ≤ fuel → (least - 1) + v.entries ≤ turns → IsQuiet t v → regs_kept t ≡ kept → aligned 2 t.cpu.regs.lr ≡ exit → Arrives left (goes_m (eqb exit first_veneer) exit) (goes_c (eqb exit first_veneer) exit) exit kept hands t v (least - 1) (in_four (n ∷ [])) exit)
      → Arrives (suc left) (goes.Enter first_veneer) (goes.Enter 0) exit kept hands s w least args first_veneer
  enters left exit kept args hands s w least long few few_deep q k e onward = counts (ltb w.entries turns) refl
    where
      even : exit % 2 ≡ 0
      even = ap (λ x. x % 2) (sym e) ∙ aligned_even s.cpu.regs.lr

      t2 : State
      t2 = answering n (record (entered first_veneer s) { cpu = record (entered first_veneer s).cpu { pc = entry_place } })

      u : World
      u = reach need (counted w)

      beside : Mark
      beside = mark_at exit kept u

      w2 : World
      w2 = emit (c.Result 0 n) beside u

      b2 : Bool
      b2 = eqb exit first_veneer

      hand : Stepped
      hand = what.Given (seen t2.cpu exit)

      next : Done
      next = arrived device (goes_m b2 exit) exit hand t2

      leads : bxns device (aligned 2 s.cpu.regs.lr) t2 ≡ next
      leads = ap (λ v. bxns device v t2) e ∙ bxns_arrives device n h exit t2 even

      rest : (least - 1) + w2.entries ≤ turns → Arrives left (goes_m b2 exit) (goes_c b2 exit) exit kept hand t2 w2 (least - 1) (in_four (n ∷ [])) exit
      rest fewer = onward hand t2 w2 long fewer (record { sp = q.sp; seal = q.seal; ram = q.ram; msp = q.msp; psp = q.psp }) k (ap (aligned 2) e ∙ aligned_twice exit even)

      goes_there : goes_of enters_first exit ≡ goes_c b2 exit
      goes_there = goes_of_is exit ∙ ap (λ x. goes_c (eqb x first_veneer) x) (aligned_twice exit even)

      view_is : seen t2.cpu exit ≡ view (in_four (n ∷ [])) kept 0 exit exit beside
      view_is = seen_result n exit kept s u (record { sp = q.sp; seal = q.seal; ram = q.ram; msp = q.msp; psp = q.psp }) k e

      shows : shows_at hand (goes_c b2 exit) ≡ events_shown (shown_of enters_first (c.Result 0 n) beside)
      shows = ap (shows_at hand) (sym goes_there) ∙ shows_given (seen t2.cpu exit) (goes_of enters_first exit) (c.Result 0 n) ∙ ap (λ v. events_shown (given_if (goes_of enters_first exit) (c.Result 0 n) (Some v))) view_is

      goal_of : Outcome → Type 0
      goal_of o = Plays (λ k. after (went (entered first_veneer s)) (m.run_of device k w.turns (entered first_veneer s))) [] w least o

      body : ℕ → World → Outcome
      body r x = chain enters_first (gives n deep) (phase enters_first (gives n deep) turns fuel) turns exit kept left (goes_of enters_first exit) (in_four (r ∷ [])) (emit (c.Result 0 r) (mark_at exit kept x) x)

      answer : (least - 1) + w2.entries ≤ turns → goal_of (body n u)
      answer fewer =
          let p = subst (λ g. Plays (λ k. after next (m.run_of device k w.turns next.state)) (shows_at hand g) w2 (least - 1) (chain enters_first (gives n deep) (phase enters_first (gives n deep) turns fuel) turns exit kept left g (in_four (n ∷ [])) w2)) (sym goes_there) (rest fewer) in
          let steps : m.run_of device (suc (7 + suc p.n)) w.turns (entered first_veneer s) ≡ after next (m.run_of device p.n w.turns next.state) = enter_runs device n h w.turns s p.n next leads in
          record {
            more = record { event = c.Result 0 n; mark = beside } ∷ p.more;
            n = suc (7 + suc p.n);
            events = p.events ∙ append_assoc w.events (record { event = c.Result 0 n; mark = beside } ∷ []) p.more;
            list = ap (λ (x : Events). x.list) steps ∙ p.list ∙ ap (λ l. l ++ events_shown (show enters_first p.more)) (ap (shows_at hand) goes_there ∙ shows) ∙ sym (events_append (shown_of enters_first (c.Result 0 n) beside) (show enters_first p.more));
            ended = λ ne. ap (λ (x : Events). x.end) steps ∙ p.ended ne;
            spent = λ x. let r = p.spent x in (ap (λ (x : Events). x.end) steps ∙ r.0, omega arith);
          }

      split : (least - 1) + w2.entries ≤ turns → (d : ℕ) → deep ≡ d → goal_of (crun.then_go (gives n d 0 args (counted w)) body)
      split fewer zero none = no_step first_veneer s w (counted w) least refl (omega arith)
      split fewer (suc d) some = answer fewer

      counts : (b : Bool) → ltb w.entries turns ≡ b → goal_of (cond b (crun.then_go (gives n deep 0 args (counted w)) body) (Over end.Spent w))
      counts true below = split (one_entry least w.entries turns below few) deep refl
      counts false above = no_step first_veneer s w w least refl (no_entry least w.entries turns above few)

  -- an arrival at an even address, where the test for the veneer gives b
  pub arrives : Phases → (left : ℕ) (b : Bool) (a : ℕ) → eqb a first_veneer ≡ b → (exit : ℕ) (kept args : List ℕ) (hands : Stepped) (s : State) (w : World) (least : ℕ) → length w.turns ≤ fuel → least + w.entries ≤ turns → least ≤ deep → least ≤ left → IsQuiet s w → regs_kept s ≡ kept → aligned 2 s.cpu.regs.lr ≡ exit → Arrives left (goes_m b a) (goes_c b a) exit kept hands s w least args a
  arrives phases left false a at exit kept args hands s w least long few few_deep few_left q k e =
      arrives_outside phases left a exit kept args hands s w least long (omega arith) few_deep q
  arrives phases zero true a at exit kept args hands s w least long few few_deep few_left q k e =
      no_step a s w w least refl (omega arith)
  arrives phases (suc left) true a at exit kept args hands s w least long few few_deep few_left q k e =
      let here : a ≡ first_veneer = grind (arith, nat_tests) in
      subst (λ x. Arrives (suc left) (goes.Enter x) (goes.Enter 0) exit kept hands s w least args x) (sym here)
      (enters left exit kept args hands s w least long few few_deep q k e
      (λ hands' t v long' few' q' k' e'. arrives phases left (eqb exit first_veneer) exit refl exit kept (in_four (n ∷ [])) hands' t v (least - 1) long' few' (omega arith) (omega arith) q' k' e'))

-- a turn whose items and branch are known
turn_is : (device : Device) (n : ℕ) → GivesConstant device n → (t : Turn) (s : State) (ram : List ℕ) (d : Done) → s.memory.ns_ram ≡ ram
    → (let after = acted t.items ram in let u = with_turn t after.ram s in or_stopped after.stop u (arrived device (goes_m (eqb (aligned 2 t.target) first_veneer) (aligned 2 t.target)) (aligned 2 t.target) what.Went u)) ≡ d → turn_of device t s ≡ d
unfolding turn_of
turn_is device n h t s ram d same e =
    ap (λ r. let after = acted t.items r in let u = with_turn t after.ram s in or_stopped after.stop u (arrived device (goes_in device t.target) (aligned 2 t.target) what.Went u)) same
    ∙ ap (λ g. let after = acted t.items ram in let u = with_turn t after.ram s in or_stopped after.stop u (arrived device g (aligned 2 t.target) what.Went u)) (goes_in_is device n h t.target)
    ∙ e

-- a turn that shows nothing itself
shows_nothing : (g : Goes) → shows_at what.Went g ≡ []
shows_nothing goes.Turn = refl
shows_nothing (goes.Enter e) = refl
shows_nothing goes.Return = refl
shows_nothing goes.EntryPoint = refl
shows_nothing goes.Astray = refl

-- Non-secure code's moves
pub phase_plays : (device : Device) (n : ℕ) → GivesConstant device n → (turns deep fuel : ℕ) (ts : List Turn) (entries : ℕ) (events : List Marked) (peak : ℕ) (memory : Memory) (msp psp : ℕ) (s : State) (least : ℕ) → length ts ≤ fuel → least ≤ turns → least ≤ deep → s.cpu.side ≡ NonSecure
    → IsQuiet s (record { turns = ts; entries = entries; events = events; peak = peak; memory = memory; msp_ns = msp; psp_ns = psp })
    → Plays (λ k. m.run_of device k ts s) [] (record { turns = ts; entries = entries; events = events; peak = peak; memory = memory; msp_ns = msp; psp_ns = psp }) least (phase enters_first (gives n deep) turns fuel (record { turns = ts; entries = entries; events = events; peak = peak; memory = memory; msp_ns = msp; psp_ns = psp }))
phase_plays device n h turns deep zero [] entries events peak memory msp psp s least long few few_deep side q =
    let waits = run_waits device 0 s side in
    record { more = []; n = 0; events = sym (append-nil events); list = ap (λ (x : Events). x.list) waits; ended = λ ne. ap (λ (x : Events). x.end) waits; spent = λ x. cc }
phase_plays device n h turns deep zero (t ∷ ts) entries events peak memory msp psp s least long few few_deep side q = absurd (omega arith)
phase_plays device n h turns deep (suc fuel) [] entries events peak memory msp psp s least long few few_deep side q =
    let waits = run_waits device 0 s side in
    record { more = []; n = 0; events = sym (append-nil events); list = ap (λ (x : Events). x.list) waits; ended = λ ne. ap (λ (x : Events). x.end) waits; spent = λ x. cc }
phase_plays device n h turns deep (suc fuel) (t ∷ ts) entries events peak memory msp psp s least long few few_deep side q =
    by_items (acted t.items memory.ns_ram) refl
    (λ w s' least' long' few' few_deep' side' q'. phase_plays device n h turns deep fuel w.turns w.entries w.events w.peak w.memory w.msp_ns w.psp_ns s' least' long' few' few_deep' side' q')
  where
    w : World
    w = record { turns = t ∷ ts; entries = entries; events = events; peak = peak; memory = memory; msp_ns = msp; psp_ns = psp }

    a : ℕ
    a = aligned 2 t.target

    b : Bool
    b = eqb a first_veneer

    after_of : Done → ℕ → Events
    after_of d k = after d (m.run_of device k ts d.state)

    by_stop : (acts : Acted) → acted t.items memory.ns_ram ≡ acts → (o : Option Stop) → acts.stop ≡ o → Phases device n h turns deep fuel → Plays (λ k. m.run_of device k (t ∷ ts) s) [] w least (let u = crun.turned t ts acts.ram w in stop_or o u (chain enters_first (gives n deep) (phase enters_first (gives n deep) turns fuel) turns (aligned 2 t.lr) (kept_of t) (turns * suc fuel) (goes_of enters_first t.target) (take 4 t.r) u))
    by_stop acts e (Some x) f phases =
        let u = with_turn t acts.ram s in
        let v = crun.turned t ts acts.ram w in
        let p = stop_plays device ts x u v least in
        let step : turn_of device t s ≡ stopped x u = turn_is device n h t s memory.ns_ram (stopped x u) q.ram (ap (λ (y : Acted). or_stopped y.stop (with_turn t y.ram s) (arrived device (goes_m b a) a what.Went (with_turn t y.ram s))) e ∙ ap (λ y. or_stopped y u (arrived device (goes_m b a) a what.Went u)) f) in
        let runs = run_turn device p.n t ts s (stopped x u) side step in
        record { more = p.more; n = suc p.n; events = p.events; list = ap (λ (y : Events). y.list) runs ∙ p.list; ended = λ ne. ap (λ (y : Events). y.end) runs ∙ p.ended ne; spent = λ y. let r = p.spent y in (ap (λ (y : Events). y.end) runs ∙ r.0, omega arith) }
    by_stop acts e None f phases =
        let u = with_turn t acts.ram s in
        let v = crun.turned t ts acts.ram w in
        let d = arrived device (goes_m b a) a what.Went u in
        let p0 = arrives device n h turns deep fuel phases (turns * suc fuel) b a refl (aligned 2 t.lr) (kept_of t) (take 4 t.r) what.Went u v least (omega arith) (first_entry least turns few) few_deep (entries_left least turns fuel few) (record { sp = q.sp; seal = q.seal; ram = refl; msp = refl; psp = refl }) refl refl in
        let p = subst (λ g. Plays (λ k. after_of d k) (shows_at what.Went g) v least (chain enters_first (gives n deep) (phase enters_first (gives n deep) turns fuel) turns (aligned 2 t.lr) (kept_of t) (turns * suc fuel) g (take 4 t.r) v)) (sym (goes_of_is t.target)) p0 in
        let step : turn_of device t s ≡ d = turn_is device n h t s memory.ns_ram d q.ram (ap (λ (y : Acted). or_stopped y.stop (with_turn t y.ram s) (arrived device (goes_m b a) a what.Went (with_turn t y.ram s))) e ∙ ap (λ y. or_stopped y u (arrived device (goes_m b a) a what.Went u)) f) in
        let runs = run_turn device p.n t ts s d side step in
        record { more = p.more; n = suc p.n; events = p.events; list = ap (λ (y : Events). y.list) runs ∙ p.list ∙ ap (λ l. l ++ events_shown (show enters_first p.more)) (shows_nothing (goes_of enters_first t.target)); ended = λ ne. ap (λ (y : Events). y.end) runs ∙ p.ended ne; spent = λ y. let r = p.spent y in (ap (λ (y : Events). y.end) runs ∙ r.0, omega arith) }

    by_items : (acts : Acted) → acted t.items memory.ns_ram ≡ acts → Phases device n h turns deep fuel → Plays (λ k. m.run_of device k (t ∷ ts) s) [] w least (let u = crun.turned t ts acts.ram w in stop_or acts.stop u (chain enters_first (gives n deep) (phase enters_first (gives n deep) turns fuel) turns (aligned 2 t.lr) (kept_of t) (turns * suc fuel) (goes_of enters_first t.target) (take 4 t.r) u))
    by_items acts e phases = by_stop acts e acts.stop refl phases
