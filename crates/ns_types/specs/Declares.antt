-- Events of the machine that agree with those of a program wherever the program declares something.
use Rattle.std.specs.Prelude.{◌≡◌, ℕ, ◌≤◌, List, [], ◌∷◌, take, length, slice_index}
use Rattle.ns_types.specs.declared.event.Event.{Event}
use Rattle.ns_types.specs.declared.event.Event.TheVariants as event
use Rattle.ns_types.specs.declared.event.CEvent.{CEvent}
use Rattle.ns_types.specs.declared.event.CEvent.TheVariants as c
use Rattle.ns_types.specs.declared.turn.View.{View}
use Rattle.ns_types.specs.declared.event.Marked.{Marked}
use Rattle.ns_types.specs.CRun.{World, Outcome}
use Rattle.ns_types.specs.Every.{EveryEvent, Keep}
use Rattle.ns_types.specs.Show.{Shown}
use Rattle.ns_types.specs.Prefix.{IsFront}

-- The declared registers of a hand-over: the result in r0, and the arguments of a call in r0 to r3.
abbrev pub HasDeclared : CEvent → View → Type 0
HasDeclared c.Started view = Unit {0}
HasDeclared (c.Result entry r0) view = slice_index view.r 0 ≡ r0
HasDeclared (c.Called target args) view = take (length args) view.r ≡ args
HasDeclared (c.Wrote at size value) view = ⊥
HasDeclared (c.Stopped stop) view = ⊥

abbrev pub DeclaresEvent : Event → Event → CEvent → Type 0
DeclaresEvent (event.Given view) (event.Given shown) from = (view.pc ≡ shown.pc) × HasDeclared from view
DeclaresEvent (event.Given view) (event.Wrote at size value) from = ⊥
DeclaresEvent (event.Given view) (event.Stopped stop) from = ⊥
DeclaresEvent (event.Wrote at size value) shown from = event.Wrote at size value ≡ shown
DeclaresEvent (event.Stopped stop) shown from = event.Stopped stop ≡ shown

-- as many events, one after another: writes and stops are equal, and each hand-over has the place and the declared
-- registers
abbrev pub Declares : List Event → List Shown → Type 0
Declares [] [] = Unit {0}
Declares [] (s ∷ shown) = ⊥
Declares (e ∷ events) [] = ⊥
Declares (e ∷ events) (s ∷ shown) = DeclaresEvent e s.event s.from × Declares events shown

-- a call has at most four arguments, which registers hold
abbrev pub HasFewArguments : CEvent → Type 0
HasFewArguments (c.Called target args) = length args ≤ 4
HasFewArguments c.Started = Unit {0}
HasFewArguments (c.Result entry r0) = Unit {0}
HasFewArguments (c.Wrote at size value) = Unit {0}
HasFewArguments (c.Stopped stop) = Unit {0}

abbrev pub AllHaveFewArguments : List Marked → Type 0
AllHaveFewArguments ms = EveryEvent HasFewArguments ms

-- events declare some first ones of a list
pub record DeclaresFront (events : List Event) (shown : List Shown) : Type 0 where
  pub part : List Shown
  pub front : IsFront part shown
  pub declares : Declares events part

-- bodies of entries keep to that
abbrev pub KeepFew : (ℕ → List ℕ → World → Outcome) → Type 0
KeepFew enter = Keep HasFewArguments enter
