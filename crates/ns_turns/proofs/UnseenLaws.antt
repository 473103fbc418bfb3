-- Runs over two starts with equal Non-secure memory, of a program that ignores Secure memory and has room.
use Rattle.std.proofs.Common.{◌≡◌, ◌≢◌, ℕ, suc, ◌+◌, ◌<◌, ◌≤◌, ◌⊎◌, List, [], ◌∷◌, ◌++◌, refl, sym, ap, ◌∙◌, subst, ⊎_elim, inl, inr, arith, Option}
use Rattle.std.specs.Prelude.{min}
use Rattle.std.proofs.lemmas.Bool.{cases_lt}
use Rattle.std.proofs.lemmas.List.{append-nil}
use Rattle.ns_types.specs.declared.event.Event.{Event}
use Rattle.ns_types.specs.declared.event.End.{End}
use Rattle.ns_types.specs.declared.event.End.TheVariants as end
use Rattle.ns_types.specs.declared.event.Events.{Events}
use Rattle.ns_types.specs.declared.event.Bound.{Bound}
use Rattle.ns_types.specs.Turns.{Turn, AreTurns}
use Rattle.ns_types.specs.declared.turn.Start.{Start}
use Rattle.ns_types.specs.State.{Device}
use Rattle.ns_types.specs.CRun.{Run}
use Rattle.ns_types.specs.Memory.{IsStart}
use Rattle.ns_types.specs.Prefix.{IsFront}
use Rattle.v8m_core.specs.Reset.{reset_of}
use Rattle.ns_turns.specs.Run.{machine_run}
use Rattle.ns_turns.specs.GoesOn.{GoesOn}
use Rattle.ns_turns.specs.Refines.{seen_of, Same, Refines}
use Rattle.ns_turns.specs.Unseen.{Unseen, IgnoresSecure, HasRoom}
use Rattle.ns_turns.proofs.RunLaws.{run_goes}
use Rattle.ns_turns.proofs.OnlyLaws.{is_spent}

one_more : (x y : Event) (xs ys : List Event) → x ≡ y → IsFront xs ys → IsFront (x ∷ xs) (y ∷ ys)
one_more x y xs ys same f = (f.0, ap (λ l. x ∷ l) f.1 ∙ ap (λ z. z ∷ ys) same)

-- of two fronts of a list one is a front of the other
two_fronts : (xs ys zs : List Event) → IsFront xs zs → IsFront ys zs → IsFront xs ys ⊎ IsFront ys xs
two_fronts [] ys zs f g = inl (ys, refl)
two_fronts (x ∷ xs) [] zs f g = inr (x ∷ xs, refl)
two_fronts (x ∷ xs) (y ∷ ys) [] f g = absurd (let e : x ∷ (xs ++ f.0) ≡ [] = f.1 in cc)
two_fronts (x ∷ xs) (y ∷ ys) (z ∷ zs) f g =
    let e : x ∷ (xs ++ f.0) ≡ z ∷ zs = f.1 in
    let d : y ∷ (ys ++ g.0) ≡ z ∷ zs = g.1 in
    let same : x ≡ y = cc in
    let rest : xs ++ f.0 ≡ zs = cc in
    let rest2 : ys ++ g.0 ≡ zs = cc in
    ⊎_elim
    (λ h. inl (one_more x y xs ys same h))
    (λ h. inr (one_more y x ys xs (sym same) h))
    (two_fronts xs ys zs (f.0, rest) (g.0, rest2))

-- a run of the machine shows only what a program shows, and all of it where it is over
record Within (m : Events) (seen : List Event) (e : End) : Type 0 where
  front : IsFront m.list seen
  over : m.end ≢ end.Spent → m ≡ record { list = seen; end = e }

both : (m : Events) (list : List Event) (e : End) → m.list ≡ list → m.end ≡ e → m ≡ record { list = list; end = e }
both m list e p q =
    ap (λ l. let x : Events = record { list = l; end = m.end } in x) p ∙ ap (λ d. let x : Events = record { list = list; end = d } in x) q

within : (device : Device) (start : Start) (ts : List Turn) (seen : List Event) (run : Run) (least n k : ℕ) → n < least → Same (machine_run device start ts k) seen run least k → Within (machine_run device start ts n) seen run.end
within device start ts seen run least n k lt s = ⊎_elim spent ended (is_spent run.end)
  where
    mn : Events
    mn = machine_run device start ts n

    mk : Events
    mk = machine_run device start ts k

    sooner : n ≤ k → GoesOn mn mk
    sooner le = run_goes device n k ts (reset_of device start) le

    later : k ≤ n → GoesOn mk mn
    later le = run_goes device k n ts (reset_of device start) le

    spent : run.end ≡ end.Spent → Within mn seen run.end
    spent e =
        let r = s.spent e in
        let g = sooner (omega (arith, r.1)) in
        record { front = (g.front.0, g.front.1 ∙ s.list); over = λ ne. absurd (ne (sym (ap (λ (x : Events). x.end) (g.over ne)) ∙ r.0)) }

    ended : run.end ≢ end.Spent → Within mn seen run.end
    ended ne =
        let whole = both mk seen run.end s.list (s.ended ne) in
        ⊎_elim
        (λ above.
        let is : mn ≡ mk = (later (omega arith)).over (λ h. ne (sym (s.ended ne) ∙ h)) in
        record { front = ([], append-nil mn.list ∙ ap (λ (x : Events). x.list) is ∙ s.list); over = λ o. is ∙ whole })
        (λ below. let g = sooner below in record { front = (g.front.0, g.front.1 ∙ s.list); over = λ o. sym (g.over o) ∙ whole })
        (cases_lt k n)

not_both : (a b : ℕ) → a < b → b ≤ a → ⊥
not_both a b lt le = omega arith

-- any number of steps, under a bound that is great enough
shows : (device : Device) (enters : ℕ → Option ℕ) (run : Start → List Turn → Bound → Run) → Refines device enters run → HasRoom run → (start : Start) → IsStart start → (ts : List Turn) → AreTurns ts → (b : Bound) (n : ℕ) → n < min b.turns b.deep → Within (machine_run device start ts n) (seen_of enters (run start ts b)) (run start ts b).end
shows device enters run refines fits start whole ts are b n lt =
    let got = refines start whole ts are b in
    let c = run start ts b in
    let s : Same (machine_run device start ts got.0) (seen_of enters c) c (min b.turns b.deep) got.0 = ⊎_elim (λ x. x) (λ o. absurd (not_both _ _ o.need (fits start whole ts are b))) got.1 in
    within device start ts (seen_of enters c) c (min b.turns b.deep) n got.0 lt s

pub unseen : (device : Device) (enters : ℕ → Option ℕ) (run : Start → List Turn → Bound → Run) → Refines device enters run → IgnoresSecure run → HasRoom run → Unseen device
unseen device enters run refines ignores fits a b whole whole' outside ts are i j =
    let c : Bound = record { turns = suc (i + j); deep = suc (i + j) } in
    let same = ignores a b whole whole' outside ts are c in
    let x = shows device enters run refines fits a whole ts are c i (omega arith) in
    let y = subst (λ (r : Run). Within (machine_run device b ts j) (seen_of enters r) r.end) (sym same) (shows device enters run refines fits b whole' ts are c j (omega arith)) in
    record {
      front = two_fronts (machine_run device a ts i).list (machine_run device b ts j).list (seen_of enters (run a ts c)) x.front y.front;
      over = λ p q. x.over p ∙ sym (y.over q);
    }
