-- What the caller sees of a run: in parts, and against what the program declares.
use Rattle.std.proofs.Common.{◌≡◌, ℕ, ◌≤◌, List, [], ◌∷◌, ◌++◌, length, refl, sym, ap, ◌∙◌, subst, arith, append_assoc, Option}
use Rattle.std.specs.Prelude.{take, drop}
use Rattle.std.proofs.lemmas.List.{take-append-drop}
use Rattle.ns_types.specs.declared.goes.Goes.{Goes}
use Rattle.ns_types.specs.declared.goes.Goes.TheVariants as goes
use Rattle.ns_types.specs.declared.event.Event.{Event}
use Rattle.ns_types.specs.declared.event.CEvent.{CEvent}
use Rattle.ns_types.specs.declared.event.CEvent.TheVariants as c
use Rattle.ns_types.specs.declared.event.Mark.{Mark}
use Rattle.ns_types.specs.Boundary.{goes_of, in_four, eight_zeros, view_of}
use Rattle.ns_types.specs.declared.event.Marked.{Marked}
use Rattle.ns_types.specs.Show.{Shown, show, shown_of, given_if, events_shown}
use Rattle.ns_types.specs.Prefix.{IsFront}
use Rattle.ns_types.specs.Declares.{DeclaresEvent, Declares, HasFewArguments, AllHaveFewArguments, DeclaresFront}

pub show_append : (enters : ℕ → Option ℕ) (a b : List Marked) → show enters (a ++ b) ≡ show enters a ++ show enters b
show_append enters [] b = refl
show_append enters (m ∷ a) b =
    let first = shown_of enters m.event m.mark in
    ap (λ l. first ++ l) (show_append enters a b) ∙ sym (append_assoc first (show enters a) (show enters b))

pub events_append : (a b : List Shown) → events_shown (a ++ b) ≡ events_shown a ++ events_shown b
events_append [] b = refl
events_append (s ∷ a) b = ap (λ l. s.event ∷ l) (events_append a b)

-- what the first events of a run show is a front of what all show
pub shown_front : (enters : ℕ → Option ℕ) (n : ℕ) (ms : List Marked) → IsFront (events_shown (show enters (take n ms))) (events_shown (show enters ms))
shown_front enters n ms =
    let a = take n ms in
    let b = drop n ms in (
      events_shown (show enters b),
      sym (events_append (show enters a) (show enters b)) ∙ ap events_shown (sym (show_append enters a b)) ∙ ap (λ l. events_shown (show enters l)) (take-append-drop n ms),
    )

-- What is shown declares itself

declares_append : (a b : List Event) (s t : List Shown) → Declares a s → Declares b t → Declares (a ++ b) (s ++ t)
declares_append [] b [] t x y = y
declares_append [] b (z ∷ s) t x y = absurd x
declares_append (e ∷ a) b [] t x y = absurd x
declares_append (e ∷ a) b (z ∷ s) t x y = (x.0, declares_append a b s t x.1 y)

four_first : (args rest : List ℕ) → length args ≤ 4 → take (length args) ((in_four args ++ rest)) ≡ args
four_first [] rest le = refl
four_first (a ∷ []) rest le = refl
four_first (a ∷ b ∷ []) rest le = refl
four_first (a ∷ b ∷ d ∷ []) rest le = refl
four_first (a ∷ b ∷ d ∷ e ∷ []) rest le = refl
four_first (a ∷ b ∷ d ∷ e ∷ f ∷ more) rest le = absurd (omega arith)

own_declared : (e : CEvent) (m : Mark) → HasFewArguments e → (enters : ℕ → Option ℕ) → Declares (events_shown (shown_of enters e m)) (shown_of enters e m)
own_declared c.Started m few enters = by (goes_of enters m.exit)
  where
    by : (g : Goes) → Declares (events_shown (given_if g c.Started (view_of c.Started m))) (given_if g c.Started (view_of c.Started m))
    by goes.Turn = ((refl, tt), tt)
    by (goes.Enter x) = tt
    by goes.Return = tt
    by goes.EntryPoint = tt
    by goes.Astray = tt
own_declared (c.Result entry r0) m few enters = by (goes_of enters m.exit)
  where
    by : (g : Goes) → Declares (events_shown (given_if g (c.Result entry r0) (view_of (c.Result entry r0) m))) (given_if g (c.Result entry r0) (view_of (c.Result entry r0) m))
    by goes.Turn = ((refl, refl), tt)
    by (goes.Enter x) = tt
    by goes.Return = tt
    by goes.EntryPoint = tt
    by goes.Astray = tt
own_declared (c.Called target args) m few enters = ((refl, ap (take (length args)) (append_assoc (in_four args) eight_zeros (target ∷ [])) ∙ four_first args (eight_zeros ++ target ∷ []) few), tt)
own_declared (c.Wrote at size value) m few enters = (refl, tt)
own_declared (c.Stopped stop) m few enters = (refl, tt)

pub declares_itself : (enters : ℕ → Option ℕ) (ms : List Marked) → AllHaveFewArguments ms → Declares (events_shown (show enters ms)) (show enters ms)
declares_itself enters [] few = tt
declares_itself enters (m ∷ ms) few =
    let first = shown_of enters m.event m.mark in
    subst (λ l. Declares l (first ++ show enters ms)) (sym (events_append first (show enters ms)))
    (declares_append (events_shown first) (events_shown (show enters ms)) first (show enters ms) (own_declared m.event m.mark few.0 enters) (declares_itself enters ms few.1))

-- so does a front of it
pub front_declares : (events : List Event) (shown : List Shown) → Declares (events_shown shown) shown → IsFront events (events_shown shown) → DeclaresFront events shown
front_declares [] shown d f = record { part = []; front = (shown, refl); declares = tt }
front_declares (e ∷ events) [] d f = absurd (let x : e ∷ (events ++ f.0) ≡ [] = f.1 in cc)
front_declares (e ∷ events) (s ∷ shown) d f =
    let all : e ∷ (events ++ f.0) ≡ s.event ∷ events_shown shown = f.1 in
    let one : e ≡ s.event = cc in
    let more : events ++ f.0 ≡ events_shown shown = cc in
    let rest = front_declares events shown d.1 (f.0, more) in
    record {
      part = s ∷ rest.part;
      front = (rest.front.0, ap (λ l. s ∷ l) rest.front.1);
      declares = (subst (λ x. DeclaresEvent x s.event s.from) (sym one) d.0, rest.declares);
    }
