-- The machine has one run, so what holds for some number of steps at each bound says what each number of steps shows.
use Rattle.std.proofs.Common.{◌≡◌, ◌≢◌, ℕ, suc, ◌≤◌, ◌⊎◌, Bool, true, false, List, [], ◌∷◌, ◌++◌, refl, sym, ap, ◌∙◌, ⊎_elim, inl, inr, arith, Option, Some, None}
use Rattle.std.specs.Prelude.{min, not, ◌&&◌}
use Rattle.std.proofs.lemmas.Bool.{cases_lt}
use Rattle.std.proofs.lemmas.List.{append-nil}
use Rattle.cm_base.specs.declared.stop.Stop.TheVariants.{StackLimit}
use Rattle.ns_types.specs.declared.goes.Goes.{Goes}
use Rattle.ns_types.specs.declared.goes.Goes.TheVariants as goes
use Rattle.ns_types.specs.declared.event.Event.{Event}
use Rattle.ns_types.specs.declared.event.Event.TheVariants as event
use Rattle.ns_types.specs.declared.event.CEvent.{CEvent}
use Rattle.ns_types.specs.declared.event.CEvent.TheVariants as c
use Rattle.ns_types.specs.declared.event.Mark.{Mark}
use Rattle.ns_types.specs.declared.event.Marked.{Marked}
use Rattle.ns_types.specs.declared.event.End.{End}
use Rattle.ns_types.specs.declared.event.End.TheVariants as end
use Rattle.ns_types.specs.declared.event.Events.{Events}
use Rattle.ns_types.specs.declared.event.Bound.{Bound}
use Rattle.ns_types.specs.Turns.{Turn}
use Rattle.ns_types.specs.declared.turn.Start.{Start}
use Rattle.ns_types.specs.declared.turn.View.{View}
use Rattle.ns_types.specs.CRun.{Run}
use Rattle.ns_types.specs.Boundary.{goes_of, view_of}
use Rattle.ns_types.specs.Show.{show, shown_of, given_if, events_shown}
use Rattle.ns_types.proofs.ShowLaws.{events_append}
use Rattle.ns_types.proofs.BoundLaws.{front_trans}
use Rattle.v8m_core.specs.Reset.{reset_of}
use Rattle.ns_turns.specs.Run.{machine_run}
use Rattle.ns_turns.specs.GoesOn.{GoesOn}
use Rattle.ns_types.specs.Prefix.{IsFront}
use Rattle.ns_types.specs.SecureRam.{room}
use Rattle.ns_types.specs.Stops.{is_clean_event, is_clean, HasNoMachineStop, AllHaveNoMachineStop}
use Rattle.ns_turns.specs.Refines.{seen_of, Same, OutOfRoom, Refines, OnlyShows, Only, StopsAsProgram}
use Rattle.ns_turns.proofs.RunLaws.{run_goes}
use Rattle.ns_types.specs.State.{Device}

-- whether a run is spent
pub is_spent : (e : End) → (e ≡ end.Spent) ⊎ (e ≢ end.Spent)
is_spent end.Spent = inl refl
is_spent end.Stopped = inr (λ h. cc)
is_spent end.Waiting = inr (λ h. cc)

-- a front of a list with one more event is a front of the list, or all
pub front_or_all : (xs ys : List Event) (y : Event) → IsFront xs (ys ++ y ∷ []) → IsFront xs ys ⊎ (xs ≡ ys ++ y ∷ [])
front_or_all [] ys y f = inl (ys, refl)
front_or_all (x ∷ []) [] y f = inr (let e : x ∷ f.0 ≡ y ∷ [] = f.1 in let h : x ≡ y = cc in ap (λ z. z ∷ []) h)
front_or_all (x ∷ x' ∷ xs) [] y f = absurd (let e : x ∷ x' ∷ (xs ++ f.0) ≡ y ∷ [] = f.1 in cc)
front_or_all (x ∷ xs) (z ∷ ys) y f =
    let e : x ∷ (xs ++ f.0) ≡ z ∷ (ys ++ y ∷ []) = f.1 in
    let same : x ≡ z = cc in
    let rest : xs ++ f.0 ≡ ys ++ y ∷ [] = cc in
    ⊎_elim
    (λ g. inl (g.0, ap (λ l. l ∷ (xs ++ g.0)) same ∙ ap (λ l. z ∷ l) g.1))
    (λ g. inr (ap (λ l. l ∷ xs) same ∙ ap (λ l. z ∷ l) g))
    (front_or_all xs ys y (f.0, rest))

and_parts : (a b : Bool) → (a && b) ≡ true → (a ≡ true) × (b ≡ true)
and_parts true b h = (refl, h)
and_parts false b h = cc

clean_append : (xs ys : List Event) → is_clean (xs ++ ys) ≡ true → is_clean xs ≡ true
clean_append [] ys h = refl
clean_append (x ∷ xs) ys h =
    let p = and_parts (is_clean_event x) (is_clean (xs ++ ys)) h in
    ap (λ b. b && is_clean xs) p.0 ∙ clean_append xs ys p.1

clean_front : (xs ys : List Event) → IsFront xs ys → is_clean ys ≡ true → is_clean xs ≡ true
clean_front xs ys f h = clean_append xs f.0 (ap is_clean f.1 ∙ h)

-- what events show that aren't such a stop

clean_both : (xs ys : List Event) → is_clean xs ≡ true → is_clean ys ≡ true → is_clean (xs ++ ys) ≡ true
clean_both [] ys p q = q
clean_both (x ∷ xs) ys p q =
    let h = and_parts (is_clean_event x) (is_clean xs) p in
    ap (λ b. b && is_clean (xs ++ ys)) h.0 ∙ clean_both xs ys h.1 q

clean_given : (g : Goes) (e : CEvent) (o : Option View) → is_clean (events_shown (given_if g e o)) ≡ true
clean_given goes.Turn e (Some v) = refl
clean_given goes.Turn e None = refl
clean_given (goes.Enter x) e o = refl
clean_given goes.Return e o = refl
clean_given goes.EntryPoint e o = refl
clean_given goes.Astray e o = refl

clean_one : (enters : ℕ → Option ℕ) (e : CEvent) (m : Mark) → HasNoMachineStop e → is_clean (events_shown (shown_of enters e m)) ≡ true
clean_one enters c.Started m h = clean_given (goes_of enters m.exit) c.Started (view_of c.Started m)
clean_one enters (c.Result e x) m h = clean_given (goes_of enters m.exit) (c.Result e x) (view_of (c.Result e x) m)
clean_one enters (c.Called t args) m h = refl
clean_one enters (c.Wrote at size value) m h = refl
clean_one enters (c.Stopped x) m h = ap (λ b. not b && true) h

clean_shown : (enters : ℕ → Option ℕ) (ms : List Marked) → AllHaveNoMachineStop ms → is_clean (events_shown (show enters ms)) ≡ true
clean_shown enters [] h = refl
clean_shown enters (m ∷ ms) h =
    let first = shown_of enters m.event m.mark in
    ap is_clean (events_append first (show enters ms)) ∙ clean_both (events_shown first) (events_shown (show enters ms)) (clean_one enters m.event m.mark h.0) (clean_shown enters ms h.1)

pub stops_as_program : (enters : ℕ → Option ℕ) (run : Start → List Turn → Bound → Run) → ((start : Start) (ts : List Turn) (b : Bound) → AllHaveNoMachineStop (run start ts b).list) → StopsAsProgram enters run
stops_as_program enters run none start whole ts are b = clean_shown enters (run start ts b).list (none start ts b)

-- one direction gives the other, where the run never stops as only a machine does
pub only_from_refines : (device : Device) (enters : ℕ → Option ℕ) (run : Start → List Turn → Bound → Run) → Refines device enters run → StopsAsProgram enters run → Only device enters run
only_from_refines device enters run refines stops start whole ts are n = (b, ⊎_elim same_case room_case got.1)
  where
    b : Bound
    b = record { turns = suc n; deep = suc n }

    got : (k : ℕ) × (Same (machine_run device start ts k) (seen_of enters (run start ts b)) (run start ts b) (min b.turns b.deep) k ⊎ OutOfRoom (machine_run device start ts k) (seen_of enters (run start ts b)) (run start ts b) room)
    got = refines start whole ts are b

    k : ℕ
    k = got.0

    mn : Events
    mn = machine_run device start ts n

    mk : Events
    mk = machine_run device start ts k

    c : Run
    c = run start ts b

    seen : List Event
    seen = seen_of enters c

    clean : is_clean seen ≡ true
    clean = stops start whole ts are b

    sooner : n ≤ k → GoesOn mn mk
    sooner le = run_goes device n k ts (reset_of device start) le

    later : k ≤ n → GoesOn mk mn
    later le = run_goes device k n ts (reset_of device start) le

    Out : Type 0
    Out = OnlyShows mn seen c

    whole_list : mn.list ≡ seen → (mn.end ≡ end.Waiting → c.end ≡ end.Waiting) → Out
    whole_list e w = record { before = seen; list = inl e; front = ([], append-nil seen); clean = clean; waits = λ h. (w h, e) }

    same_case : Same mk seen c (min b.turns b.deep) k → Out
    same_case s =
        ⊎_elim
        (λ above. ⊎_elim
        (λ spent. absurd (let r = s.spent spent in omega (arith, r.1)))
        (λ ended.
        let is : mn ≡ mk = (later (omega arith)).over (λ h. ended (sym (s.ended ended) ∙ h)) in
        whole_list (ap (λ (x : Events). x.list) is ∙ s.list) (λ h. sym (s.ended ended) ∙ sym (ap (λ (x : Events). x.end) is) ∙ h))
        (is_spent c.end))
        (λ below.
        let g = sooner below in
        let f : IsFront mn.list seen = (g.front.0, g.front.1 ∙ s.list) in
        record {
          before = mn.list;
          list = inl refl;
          front = f;
          clean = clean_front mn.list seen f (clean);
          waits = λ h.
              let is : mk ≡ mn = g.over (λ z. let x : end.Waiting ≡ end.Spent = sym h ∙ z in cc) in
              let waiting : mk.end ≡ end.Waiting = ap (λ (x : Events). x.end) is ∙ h in
              (⊎_elim (λ spent. absurd (let x : end.Waiting ≡ end.Spent = sym waiting ∙ (s.spent spent).0 in cc)) (λ ended. sym (s.ended ended) ∙ waiting) (is_spent c.end), sym (ap (λ (x : Events). x.list) is) ∙ s.list);
        })
        (cases_lt k n)

    room_case : OutOfRoom mk seen c room → Out
    room_case o =
        ⊎_elim
        (λ above.
        let is : mn ≡ mk = (later (omega arith)).over (λ h. let x : end.Stopped ≡ end.Spent = sym o.end ∙ h in cc) in
        record {
          before = o.before;
          list = inr (ap (λ (x : Events). x.list) is ∙ o.list, o.need);
          front = o.front;
          clean = clean_front o.before seen o.front (clean);
          waits = λ h. absurd (let x : end.Waiting ≡ end.Stopped = sym h ∙ ap (λ (y : Events). y.end) is ∙ o.end in cc);
        })
        (λ below.
        let g = sooner below in
        let stays : mn.end ≡ end.Waiting → (c.end ≡ end.Waiting) × (mn.list ≡ seen) = λ h. absurd (let is : mk ≡ mn = g.over (λ z. let x : end.Waiting ≡ end.Spent = sym h ∙ z in cc) in let x : end.Waiting ≡ end.Stopped = sym h ∙ sym (ap (λ (y : Events). y.end) is) ∙ o.end in cc) in
        ⊎_elim
        (λ f. let all = front_trans mn.list o.before seen f o.front in record { before = mn.list; list = inl refl; front = all; clean = clean_front mn.list seen all (clean); waits = stays })
        (λ e. record { before = o.before; list = inr (e, o.need); front = o.front; clean = clean_front o.before seen o.front (clean); waits = stays })
        (front_or_all mn.list o.before (event.Stopped StackLimit) (g.front.0, g.front.1 ∙ o.list)))
        (cases_lt k n)
