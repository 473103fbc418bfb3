-- What events show at a hand-over, where more events follow.
use Rattle.std.proofs.Common.{◌≡◌, ℕ, zero, suc, ◌-◌, ◌<◌, ◌≤◌, ◌⊎◌, List, [], ◌∷◌, ◌++◌, refl, sym, ap, ◌∙◌, subst, ⊎_elim, arith, Option, Some}
use Rattle.std.specs.Prelude.{min, take}
use Rattle.std.proofs.lemmas.Bool.{cases_lt}
use Rattle.cm_base.specs.declared.stop.Stop.{Stop}
use Rattle.cm_base.specs.declared.stop.Stop.TheVariants.{StackLimit}
use Rattle.ns_types.specs.declared.event.Event.{Event}
use Rattle.ns_types.specs.declared.event.Event.TheVariants as event
use Rattle.ns_types.specs.declared.event.End.TheVariants as end
use Rattle.ns_types.specs.declared.event.Events.{Events}
use Rattle.ns_types.specs.declared.event.Bound.{Bound}
use Rattle.ns_types.specs.Turns.{Turn, AreTurns}
use Rattle.ns_types.specs.declared.turn.Start.{Start}
use Rattle.ns_types.specs.declared.turn.View.{View}
use Rattle.ns_types.specs.Platform.{row}
use Rattle.ns_types.specs.Memory.{put_number, IsStart}
use Rattle.ns_types.specs.Prefix.{IsFront}
use Rattle.ns_types.specs.CRun.{Run}
use Rattle.ns_types.specs.Show.{show, events_shown}
use Rattle.ns_types.specs.Ram.{moved_past, ram_at}
use Rattle.ns_types.specs.Sight.{view_at, given_count}
use Rattle.ns_types.specs.Marks.{first_tracker, IsTold}
use Rattle.ns_types.proofs.ShowLaws.{shown_front}
use Rattle.ns_types.proofs.MarkLaws.{same_shown}
use Rattle.ns_types.proofs.BoundLaws.{front_trans}
use Rattle.v8m_core.specs.Reset.{reset_of}
use Rattle.ns_turns.specs.Run.{machine_run}
use Rattle.ns_turns.specs.GoesOn.{GoesOn}
use Rattle.ns_types.specs.SecureRam.{room}
use Rattle.ns_turns.specs.Refines.{seen_of, Same, OutOfRoom, Refines}
use Rattle.ns_turns.specs.TwoWorlds.{hand_overs, TwoWorlds, AlwaysTold}
use Rattle.ns_turns.proofs.RunLaws.{run_goes}
use Rattle.ns_turns.proofs.OnlyLaws.{front_or_all}
use Rattle.ns_types.specs.State.{Device}

view_append : (xs ys : List Event) (k : ℕ) → k < given_count xs → view_at (xs ++ ys) k ≡ view_at xs k
view_append [] ys k lt = absurd (omega arith)
view_append (event.Wrote a n v ∷ xs) ys k lt = view_append xs ys k lt
view_append (event.Stopped x ∷ xs) ys k lt = view_append xs ys k lt
view_append (event.Given view ∷ xs) ys zero lt = refl
view_append (event.Given view ∷ xs) ys (suc k) lt = view_append xs ys k (omega arith)

ram_append : (enters : ℕ → Option ℕ) (xs ys : List Event) (k : ℕ) (ts : List Turn) (ram : List ℕ) → k < given_count xs → ram_at enters (xs ++ ys) k ts ram ≡ ram_at enters xs k ts ram
ram_append enters [] ys k ts ram lt = absurd (omega arith)
ram_append enters (event.Wrote a n v ∷ xs) ys k ts ram lt = ram_append enters xs ys k ts (put_number n ram (a - (row 1).from) v) lt
ram_append enters (event.Stopped x ∷ xs) ys k ts ram lt = ram_append enters xs ys k ts ram lt
ram_append enters (event.Given view ∷ xs) ys zero ts ram lt = refl
ram_append enters (event.Given view ∷ xs) ys (suc k) ts ram lt =
    let m = moved_past enters ts ram in ram_append enters xs ys k m.turns m.ram (omega arith)

counted : (xs : List Event) (k : ℕ) (v : View) → view_at xs k ≡ Some v → k < given_count xs
counted [] k v e = absurd (cc)
counted (event.Wrote a n w ∷ xs) k v e = counted xs k v e
counted (event.Stopped x ∷ xs) k v e = counted xs k v e
counted (event.Given view ∷ xs) zero v e = omega arith
counted (event.Given view ∷ xs) (suc k) v e = omega (arith, counted xs k v e)

count_append : (xs ys : List Event) → given_count xs ≤ given_count (xs ++ ys)
count_append [] ys = omega arith
count_append (event.Wrote a n v ∷ xs) ys = count_append xs ys
count_append (event.Stopped x ∷ xs) ys = count_append xs ys
count_append (event.Given view ∷ xs) ys = omega (arith, count_append xs ys)

view_stop : (xs : List Event) (x : Stop) (k : ℕ) → view_at (xs ++ event.Stopped x ∷ []) k ≡ view_at xs k
view_stop [] x k = refl
view_stop (event.Wrote a n v ∷ xs) x k = view_stop xs x k
view_stop (event.Stopped y ∷ xs) x k = view_stop xs x k
view_stop (event.Given view ∷ xs) x zero = refl
view_stop (event.Given view ∷ xs) x (suc k) = view_stop xs x k

ram_stop : (enters : ℕ → Option ℕ) (xs : List Event) (x : Stop) (k : ℕ) (ts : List Turn) (ram : List ℕ) → ram_at enters (xs ++ event.Stopped x ∷ []) k ts ram ≡ ram_at enters xs k ts ram
ram_stop enters [] x k ts ram = refl
ram_stop enters (event.Wrote a n v ∷ xs) x k ts ram = ram_stop enters xs x k ts (put_number n ram (a - (row 1).from) v)
ram_stop enters (event.Stopped y ∷ xs) x k ts ram = ram_stop enters xs x k ts ram
ram_stop enters (event.Given view ∷ xs) x zero ts ram = refl
ram_stop enters (event.Given view ∷ xs) x (suc k) ts ram =
    let m = moved_past enters ts ram in ram_stop enters xs x k m.turns m.ram

-- A hand-over of xs is one of ys, with the same memory.
record Agrees (enters : ℕ → Option ℕ) (xs ys : List Event) (k : ℕ) (v : View) : Type 0 where
  view : view_at ys k ≡ Some v
  ram : (ts : List Turn) (r : List ℕ) → ram_at enters xs k ts r ≡ ram_at enters ys k ts r

agrees_front : (enters : ℕ → Option ℕ) (xs ys : List Event) (k : ℕ) (v : View) → IsFront xs ys → view_at xs k ≡ Some v → Agrees enters xs ys k v
agrees_front enters xs ys k v f e =
    let lt = counted xs k v e in
    record {
      view = ap (λ l. view_at l k) (sym f.1) ∙ view_append xs f.0 k lt ∙ e;
      ram = λ ts r. sym (ap (λ l. ram_at enters l k ts r) (sym f.1) ∙ ram_append enters xs f.0 k ts r lt);
    }

agrees_back : (enters : ℕ → Option ℕ) (xs ys : List Event) (k : ℕ) (v : View) → IsFront ys xs → k < given_count ys → view_at xs k ≡ Some v → Agrees enters xs ys k v
agrees_back enters xs ys k v f lt e = record {
  view = sym (view_append ys f.0 k lt) ∙ ap (λ l. view_at l k) f.1 ∙ e;
  ram = λ ts r. ap (λ l. ram_at enters l k ts r) (sym f.1) ∙ ram_append enters ys f.0 k ts r lt;
}

agrees_stop : (enters : ℕ → Option ℕ) (xs before ys : List Event) (x : Stop) (k : ℕ) (v : View) → xs ≡ before ++ event.Stopped x ∷ [] → IsFront before ys → view_at xs k ≡ Some v → Agrees enters xs ys k v
agrees_stop enters xs before ys x k v is f e =
    let a = agrees_front enters before ys k v f (sym (view_stop before x k) ∙ ap (λ l. view_at l k) (sym is) ∙ e) in
    record { view = a.view; ram = λ ts r. ap (λ l. ram_at enters l k ts r) is ∙ ram_stop enters before x k ts r ∙ a.ram ts r }

-- What the machine shows at a hand-over that the program shows too is what the program shows there.
agrees : (device : Device) (enters : ℕ → Option ℕ) (run : Start → List Turn → Bound → Run) → Refines device enters run → (start : Start) → IsStart start → (ts : List Turn) → AreTurns ts → (b : Bound) (n k : ℕ) (v : View) → k < given_count (seen_of enters (run start ts b)) → view_at (machine_run device start ts n).list k ≡ Some v → Agrees enters (machine_run device start ts n).list (seen_of enters (run start ts b)) k v
agrees device enters run refines start whole ts are b n k v lt e = ⊎_elim same_case room_case got.1
  where
    c : Run
    c = run start ts b

    seen : List Event
    seen = seen_of enters c

    got : (i : ℕ) × (Same (machine_run device start ts i) seen c (min b.turns b.deep) i ⊎ OutOfRoom (machine_run device start ts i) seen c room)
    got = refines start whole ts are b

    i : ℕ
    i = got.0

    mn : Events
    mn = machine_run device start ts n

    mi : Events
    mi = machine_run device start ts i

    sooner : n ≤ i → GoesOn mn mi
    sooner le = run_goes device n i ts (reset_of device start) le

    later : i ≤ n → GoesOn mi mn
    later le = run_goes device i n ts (reset_of device start) le

    same_case : Same mi seen c (min b.turns b.deep) i → Agrees enters mn.list seen k v
    same_case s =
        ⊎_elim
        (λ above. let g = (later (omega arith)).front in agrees_back enters mn.list seen k v (g.0, ap (λ l. l ++ g.0) (sym s.list) ∙ g.1) lt e)
        (λ below. let g = (sooner below).front in agrees_front enters mn.list seen k v (g.0, g.1 ∙ s.list) e)
        (cases_lt i n)

    room_case : OutOfRoom mi seen c room → Agrees enters mn.list seen k v
    room_case o =
        ⊎_elim
        (λ above.
        let is : mn ≡ mi = (later (omega arith)).over (λ h. let x : end.Stopped ≡ end.Spent = sym o.end ∙ h in cc) in
        agrees_stop enters mn.list o.before seen StackLimit k v (ap (λ (x : Events). x.list) is ∙ o.list) o.front e)
        (λ below.
        let g = (sooner below).front in
        ⊎_elim
        (λ f. agrees_front enters mn.list seen k v (front_trans mn.list o.before seen f o.front) e)
        (λ all. agrees_stop enters mn.list o.before seen StackLimit k v all o.front e)
        (front_or_all mn.list o.before (event.Stopped StackLimit) (g.0, g.1 ∙ o.list)))
        (cases_lt i n)

-- the same against the first m events of the program
agrees_first : (device : Device) (enters : ℕ → Option ℕ) (run : Start → List Turn → Bound → Run) → Refines device enters run → (start : Start) → IsStart start → (ts : List Turn) → AreTurns ts → (b : Bound) (m n k : ℕ) (v : View) → k < hand_overs enters m (run start ts b) → view_at (machine_run device start ts n).list k ≡ Some v → Agrees enters (machine_run device start ts n).list (events_shown (show enters (take m (run start ts b).list))) k v
agrees_first device enters run refines start whole ts are b m n k v lt e =
    let list = (run start ts b).list in
    let first = events_shown (show enters (take m list)) in
    let seen = events_shown (show enters list) in
    let f = shown_front enters m list in
    let more : given_count first ≤ given_count seen = subst (λ l. given_count first ≤ given_count l) f.1 (count_append first f.0) in
    let a = agrees device enters run refines start whole ts are b n k v (omega arith) e in
    let z = agrees_back enters seen first k v f lt a.view in
    record { view = z.view; ram = λ us r. a.ram us r ∙ z.ram us r }

pub two_worlds : (device : Device) (enters : ℕ → Option ℕ) (run : Start → List Turn → Bound → Run) → Refines device enters run → AlwaysTold enters run → TwoWorlds device enters run
two_worlds device enters run refines told a b whole whole' outside ts are c d m same i j k lt v w p q =
    let l = (run a ts c).list in
    let l' = (run b ts d).list in
    let first : first_tracker b ts ≡ first_tracker a ts = tracker_by (sym outside.ns_rom) in
    let shows : show enters (take m l) ≡ show enters (take m l') = same_shown enters (first_tracker a ts) l l' m (told a ts c) (subst (λ t. IsTold enters t l') first (told b ts d)) same in
    let equal : events_shown (show enters (take m l)) ≡ events_shown (show enters (take m l')) = ap events_shown shows in
    let x = agrees_first device enters run refines a whole ts are c m i k v lt p in
    let y = agrees_first device enters run refines b whole' ts are d m j k w (subst (λ z. k < given_count z) equal lt) q in
    let views : Some v ≡ Some w = sym x.view ∙ ap (λ z. view_at z k) equal ∙ y.view in
    (cc, x.ram ts a.ns_ram ∙ ap (λ z. ram_at enters z k ts a.ns_ram) equal ∙ ap (λ r. ram_at enters (events_shown (show enters (take m l'))) k ts r) outside.ns_ram ∙ sym (y.ram ts b.ns_ram))
  where
    tracker_by : b.ns_rom ≡ a.ns_rom → first_tracker b ts ≡ first_tracker a ts
    tracker_by e = ap (λ (r : List ℕ). first_tracker (record b { ns_rom = r }) ts) e
