-- Which turns are crossings doesn't depend on the entries.
use Rattle.std.proofs.Common.{◌≡◌, ℕ, zero, suc, ◌-◌, Bool, true, false, cond, List, [], ◌∷◌, refl, sym, ap, ◌∙◌, arith, Option, Some, None}
use Rattle.std.specs.Prelude.{not, eqb}
use Rattle.std.proofs.lemmas.Bool.Decides.{nat_tests}
use Rattle.ns_types.specs.declared.goes.Goes.TheVariants as goes
use Rattle.ns_types.specs.declared.event.Event.{Event}
use Rattle.ns_types.specs.declared.event.Event.TheVariants as event
use Rattle.ns_types.specs.Turns.{Turn}
use Rattle.ns_types.specs.Platform.{row, is_secure, is_nonsecure, aligned}
use Rattle.ns_types.specs.Memory.{put_number}
use Rattle.ns_types.specs.Boundary.{function_return, goes_outside, goes_or, goes_of}
use Rattle.ns_types.specs.Ram.{is_turn, crosses, with_items, moved_past, ram_at, AreSecure}

not_returning : (a : ℕ) → is_nonsecure a ≡ true → eqb a function_return ≡ false
not_returning a h = grind (arith, nat_tests)

outside : (a : ℕ) (b : Bool) → is_nonsecure a ≡ b → is_turn (goes_outside a) ≡ b
outside a true h =
    ap (λ b. is_turn (cond b goes.Return (cond (is_nonsecure a) goes.Turn (cond (is_secure a) goes.EntryPoint goes.Astray)))) (not_returning a h)
    ∙ ap (λ b. is_turn (cond b goes.Turn (cond (is_secure a) goes.EntryPoint goes.Astray))) h
outside a false h =
    ap (λ b. is_turn (cond (eqb a function_return) goes.Return (cond b goes.Turn (cond (is_secure a) goes.EntryPoint goes.Astray)))) h
    ∙ pick (eqb a function_return) (is_secure a)
  where
    pick : (x y : Bool) → is_turn (cond x goes.Return (cond y goes.EntryPoint goes.Astray)) ≡ false
    pick true y = refl
    pick false true = refl
    pick false false = refl

by_place : (o : Option ℕ) (a : ℕ) (b : Bool) → is_nonsecure a ≡ b → (b ≡ true → o ≡ None) → is_turn (goes_or o a) ≡ b
by_place None a b h none = outside a b h
by_place (Some e) a true h none = absurd (let x : Some e ≡ None = none refl in cc)
by_place (Some e) a false h none = refl

turn_is : (enters : ℕ → Option ℕ) → AreSecure enters → (t : ℕ) → is_turn (goes_of enters t) ≡ is_nonsecure (aligned 2 t)
unfolding goes_of
turn_is enters h t = by_place (enters (aligned 2 t)) (aligned 2 t) (is_nonsecure (aligned 2 t)) refl (h.by (aligned 2 t))

module _ (e f : ℕ → Option ℕ) (p : AreSecure e) (q : AreSecure f) where
  crosses_same : (t : Turn) → crosses e t ≡ crosses f t
  crosses_same t = ap not (turn_is e p t.target ∙ sym (turn_is f q t.target))

  moved_same : (ts : List Turn) (ram : List ℕ) → moved_past e ts ram ≡ moved_past f ts ram
  moved_same [] ram = refl
  moved_same (t ∷ ts) ram =
      let next = with_items t.items ram in
      ap (λ b. cond b (record { turns = ts; ram = next }) (moved_past e ts next)) (crosses_same t)
      ∙ ap (λ m. cond (crosses f t) (record { turns = ts; ram = next }) m) (moved_same ts next)

  pub ram_same : (es : List Event) (k : ℕ) (ts : List Turn) (ram : List ℕ) → ram_at e es k ts ram ≡ ram_at f es k ts ram
  ram_same [] k ts ram = refl
  ram_same (event.Wrote a n v ∷ es) k ts ram = ram_same es k ts (put_number n ram (a - (row 1).from) v)
  ram_same (event.Stopped x ∷ es) k ts ram = ram_same es k ts ram
  ram_same (event.Given view ∷ es) zero ts ram = refl
  ram_same (event.Given view ∷ es) (suc k) ts ram =
      let m = moved_past e ts ram in
      ram_same es k m.turns m.ram ∙ ap (λ x. ram_at f es k x.turns x.ram) (moved_same ts ram)
