-- What events without a stop that only a machine has show has none either.
use Rattle.std.proofs.Common.{◌≡◌, ℕ, Bool, true, false, List, [], ◌∷◌, ◌++◌, refl, ap, ◌∙◌, Option, Some, None}
use Rattle.std.specs.Prelude.{◌&&◌, not}
use Rattle.ns_types.specs.declared.goes.Goes.{Goes}
use Rattle.ns_types.specs.declared.goes.Goes.TheVariants as goes
use Rattle.ns_types.specs.declared.event.Event.{Event}
use Rattle.ns_types.specs.declared.event.CEvent.{CEvent}
use Rattle.ns_types.specs.declared.event.CEvent.TheVariants as c
use Rattle.ns_types.specs.declared.event.Mark.{Mark}
use Rattle.ns_types.specs.declared.event.Marked.{Marked}
use Rattle.ns_types.specs.declared.turn.View.{View}
use Rattle.ns_types.specs.Boundary.{goes_of, view_of}
use Rattle.ns_types.specs.Show.{show, shown_of, given_if, events_shown}
use Rattle.ns_types.specs.Stops.{is_clean_event, is_clean, HasNoMachineStop, AllHaveNoMachineStop}
use Rattle.ns_types.proofs.ShowLaws.{events_append}

and_more : (x y z : Bool) → (x && y) ≡ true → (y ≡ true → z ≡ true) → (x && z) ≡ true
and_more true y z p f = f p
and_more false y z p f = p

clean_append : (a b : List Event) → is_clean a ≡ true → is_clean b ≡ true → is_clean (a ++ b) ≡ true
clean_append [] b p q = q
clean_append (e ∷ a) b p q = and_more (is_clean_event e) (is_clean a) (is_clean (a ++ b)) p (λ h. clean_append a b h q)

given_clean : (g : Goes) (e : CEvent) (v : Option View) → is_clean (events_shown (given_if g e v)) ≡ true
given_clean goes.Turn e (Some v) = refl
given_clean goes.Turn e None = refl
given_clean (goes.Enter x) e v = refl
given_clean goes.Return e v = refl
given_clean goes.EntryPoint e v = refl
given_clean goes.Astray e v = refl

event_clean : (enters : ℕ → Option ℕ) (e : CEvent) (m : Mark) → HasNoMachineStop e → is_clean (events_shown (shown_of enters e m)) ≡ true
event_clean enters c.Started m none = given_clean (goes_of enters m.exit) c.Started (view_of c.Started m)
event_clean enters (c.Result e x) m none = given_clean (goes_of enters m.exit) (c.Result e x) (view_of (c.Result e x) m)
event_clean enters (c.Called t args) m none = refl
event_clean enters (c.Wrote at size value) m none = refl
event_clean enters (c.Stopped x) m none = ap (λ b. not b && true) none

pub shown_clean : (enters : ℕ → Option ℕ) (ms : List Marked) → AllHaveNoMachineStop ms → is_clean (events_shown (show enters ms)) ≡ true
shown_clean enters [] none = refl
shown_clean enters (m ∷ ms) none =
    let first = shown_of enters m.event m.mark in
    ap is_clean (events_append first (show enters ms)) ∙ clean_append (events_shown first) (events_shown (show enters ms)) (event_clean enters m.event m.mark none.0) (shown_clean enters ms none.1)
