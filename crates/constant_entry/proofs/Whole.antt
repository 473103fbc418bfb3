-- From reset: the start code, and then turn by turn.
use Rattle.std.proofs.Common.{◌≡◌, ℕ, suc, ◌+◌, ◌*◌, ◌%◌, ◌≤◌, [], ◌++◌, length, refl, sym, ap, ◌∙◌, subst, inl, arith, Some}
use Rattle.std.specs.Prelude.{eqb, min}
use Rattle.v8m_isa.specs.declared.instr.Instr.TheVariants.{Bxns}
use Rattle.v8m_isa.specs.Table.{size_of}
use Rattle.ns_types.specs.declared.event.CEvent.TheVariants as c
use Rattle.ns_types.specs.declared.event.Events.{Events}
use Rattle.ns_types.specs.State.{Device}
use Rattle.ns_types.specs.Platform.{aligned}
use Rattle.ns_types.specs.Memory.{word_at, memory_of}
use Rattle.ns_types.specs.Boundary.{in_four, eight_zeros, goes_of, reset_address, start_mark}
use Rattle.ns_types.specs.CRun.{chain, phase, fresh}
use Rattle.ns_types.specs.Show.{show, shown_of, given_if, events_shown}
use Rattle.v8m_core.specs.declared.stepped.Stepped.{Stepped}
use Rattle.v8m_core.specs.declared.stepped.Stepped.TheVariants as what
use Rattle.v8m_core.specs.Step.{Done, seen, bxns, arrived, effect_of, apply}
use Rattle.v8m_core.specs.Code.{HasCode}
use Rattle.v8m_core.specs.Reset.{reset_of}
use Rattle.ns_turns.specs.Run as m
use Rattle.ns_turns.specs.Run.{after, event_of, machine_run}
use Rattle.ns_turns.specs.Refines.{Refines}
use Rattle.v8m_core.proofs.Runs.{does}
use Rattle.v8m_core.proofs.GateLaws.{aligned_even, aligned_twice}
use Rattle.ns_turns.proofs.RunLaws.{run_step, run_comes}
use Rattle.constant_entry.specs.Code.{start_code, start_place, first_veneer}
use Rattle.constant_entry.specs.Shows.{GivesConstant}
use Rattle.constant_entry.specs.Meaning.{gives, constant_run}
use Rattle.constant_entry.proofs.Entering.{enters_first}
use Rattle.constant_entry.proofs.Seals.{main_high, ram_stands}
use Rattle.constant_entry.proofs.States.{sealed, handing}
use Rattle.constant_entry.proofs.Views.{starts, start_lr, start_seen, sealed_ns_rom}
use Rattle.constant_entry.proofs.Refine.{IsQuiet, Plays, goes_m, goes_c, goes_of_is, bxns_arrives, first_entry, entries_left, arrives, phase_plays, shows_at, shows_given}
use Rattle.ns_types.proofs.ShowLaws.{events_append}

pub refines : (device : Device) (n : ℕ) → GivesConstant device n → Refines device enters_first (constant_run enters_first n)
unfolding effect_of apply size_of
refines device n h start whole ts are b =
    let s = reset_of device start in
    let place : s.cpu.pc ≡ start_place = ap (aligned 2) h.reset in
    let has : HasCode device s.cpu.pc start_code = subst (λ p. HasCode device p start_code) (sym place) h.start in
    let begun = starts device s has in
    let t1 = handing (sealed s) in
    let v = reset_address start in
    let even : v % 2 ≡ 0 = aligned_even (word_at start.ns_rom 4) in
    let hand : Stepped = what.Given (seen t1.cpu v) in
    let d : Done = arrived device (goes_m (eqb v first_veneer) v) v hand t1 in
    let hands = does device t1 (Bxns 14) begun.1 ∙ ap (λ x. bxns device x t1) (start_lr start s refl) ∙ bxns_arrives device n h v t1 even in
    let w = fresh start (memory_of start) ts in
    let least = min b.turns b.deep in
    let few : least ≤ b.turns = omega arith in
    let few_deep : least ≤ b.deep = omega arith in
    let q : IsQuiet t1 w = record { sp = ap (aligned 4) h.stack; seal = main_high s whole.secure_ram; ram = ram_stands s; msp = ap (λ r. aligned 4 (word_at r 0)) (sealed_ns_rom s); psp = refl } in
    let p0 = arrives device n h b.turns b.deep (length ts) (λ x y l long few few_deep side quiet. phase_plays device n h b.turns b.deep (length ts) x.turns x.entries x.events x.peak x.memory x.msp_ns x.psp_ns y l long few few_deep side quiet) (b.turns * suc (length ts)) (eqb v first_veneer) v refl v eight_zeros (in_four []) hand t1 w least (omega arith) (first_entry least b.turns few) few_deep (entries_left least b.turns (length ts) few) q refl (ap (aligned 2) (start_lr start s refl) ∙ aligned_twice v even) in
    let there : goes_of enters_first v ≡ goes_c (eqb v first_veneer) v = goes_of_is v ∙ ap (λ x. goes_c (eqb x first_veneer) x) (aligned_twice v even) in
    let p = subst (λ g. Plays (λ k. after d (m.run_of device k ts d.state)) (shows_at hand g) w least (chain enters_first (gives n b.deep) (phase enters_first (gives n b.deep) b.turns (length ts)) b.turns v eight_zeros (b.turns * suc (length ts)) g (in_four []) w)) (sym there) p0 in
    let steps : machine_run device start ts (41 + suc p.n) ≡ after d (m.run_of device p.n ts d.state) = run_comes device 41 (suc p.n) ts s t1 refl begun.0 ∙ run_step device p.n ts t1 d refl hands in
    let shows : shows_at hand (goes_of enters_first v) ≡ events_shown (shown_of enters_first c.Started (start_mark start)) = shows_given (seen t1.cpu v) (goes_of enters_first v) c.Started ∙ ap (λ x. events_shown (given_if (goes_of enters_first v) c.Started (Some x))) (start_seen start s refl refl) in (
      41 + suc p.n,
      inl (record {
        list = ap (λ (x : Events). x.list) steps ∙ p.list ∙ ap (λ l. l ++ events_shown (show enters_first p.more)) shows ∙ sym (events_append (shown_of enters_first c.Started (start_mark start)) (show enters_first p.more)) ∙ ap (λ l. events_shown (show enters_first l)) (sym p.events);
        ended = λ ne. ap (λ (x : Events). x.end) steps ∙ p.ended ne;
        spent = λ e. let r = p.spent e in (ap (λ (x : Events). x.end) steps ∙ r.0, omega arith);
      }),
    )
