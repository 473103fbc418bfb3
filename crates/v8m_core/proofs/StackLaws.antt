-- Pushes, pops and calls that have room in Secure RAM don't stop.
use Rattle.std.proofs.Common.{◌≡◌, ℕ, ◌+◌, ◌%◌, ◌≤◌, Bool, true, false, cond, List, [], ◌∷◌, refl, ap, ◌∙◌, arith, Some, None}
use Rattle.std.specs.Prelude.{eqb, ltb, not, ◌&&◌}
use Rattle.std.proofs.lemmas.Bool.Decides.{nat_tests}
use Rattle.cm_base.specs.declared.stop.Stop.TheVariants as stop
use Rattle.cm_base.specs.declared.regions.TheConstants.{SECURE_DATA, SECURE_CONTROL}
use Rattle.ns_types.specs.declared.state.Cpu.{Cpu}
use Rattle.ns_types.specs.Platform.{is_readable, is_writable, aligned}
use Rattle.ns_types.specs.Operators.{subtract, add}
use Rattle.v8m_core.specs.Lists.{registers, in_list, next, bytes_of, all_writable, all_readable}
use Rattle.v8m_core.specs.Step.{or_stop, push_stop, pop_stop, call_stop}
use Rattle.v8m_core.proofs.Ram.{readable_where_writable}

-- Secure RAM has a word at an address, a multiple of 4
pub record IsWordPlace (a : ℕ) : Type 0 where
  pub even : a % 4 ≡ 0
  pub from : SECURE_DATA.from ≤ a
  pub to : a + 4 ≤ SECURE_CONTROL.to

pub word_writable : (a : ℕ) → IsWordPlace a → is_writable a 4 ≡ true
unfolding is_writable
word_writable a h =
    let even = h.even in
    let from = h.from in
    let to = h.to in
    grind (arith, nat_tests)

-- so it has the words of a list from an address on
pub record AreWordPlaces (a bytes : ℕ) : Type 0 where
  pub even : a % 4 ≡ 0
  pub from : SECURE_DATA.from ≤ a
  pub to : a + bytes ≤ SECURE_CONTROL.to

-- a register of the list takes the first word, and another one none
first_writable : (b : Bool) (a k : ℕ) (rest : ℕ → Bool) → AreWordPlaces a (cond b 4 0 + k) → ((x : ℕ) → AreWordPlaces x k → rest x ≡ true) → cond b (is_writable a 4 && rest (next a)) (rest a) ≡ true
first_writable true a k rest h all =
    let even = h.even in
    let from = h.from in
    let to = h.to in
    let e : next a ≡ a + 4 = omega arith in
    ap (λ b. b && rest (next a)) (word_writable a (record { even = h.even; from = h.from; to = omega arith }))
    ∙ ap rest e ∙ all (a + 4) (record { even = omega arith; from = omega arith; to = omega arith })
first_writable false a k rest h all =
    let to = h.to in
    all a (record { even = h.even; from = h.from; to = omega arith })

pub list_writable : (list : ℕ) (ns : List ℕ) (a : ℕ) → AreWordPlaces a (bytes_of list ns) → all_writable list ns a ≡ true
unfolding all_writable bytes_of
list_writable list [] a h = refl
list_writable list (n ∷ ns) a h = first_writable (in_list list n) a (bytes_of list ns) (λ x. all_writable list ns x) h (λ x w. list_writable list ns x w)

first_readable : (b : Bool) (a k : ℕ) (rest : ℕ → Bool) → AreWordPlaces a (cond b 4 0 + k) → ((x : ℕ) → AreWordPlaces x k → rest x ≡ true) → cond b (is_readable a 4 && rest (next a)) (rest a) ≡ true
first_readable true a k rest h all =
    let even = h.even in
    let from = h.from in
    let to = h.to in
    let e : next a ≡ a + 4 = omega arith in
    ap (λ b. b && rest (next a)) (readable_where_writable a (word_writable a (record { even = h.even; from = h.from; to = omega arith })))
    ∙ ap rest e ∙ all (a + 4) (record { even = omega arith; from = omega arith; to = omega arith })
first_readable false a k rest h all =
    let to = h.to in
    all a (record { even = h.even; from = h.from; to = omega arith })

pub list_readable : (list : ℕ) (ns : List ℕ) (a : ℕ) → AreWordPlaces a (bytes_of list ns) → all_readable list ns a ≡ true
unfolding all_readable bytes_of
list_readable list [] a h = refl
list_readable list (n ∷ ns) a h = first_readable (in_list list n) a (bytes_of list ns) (λ x. all_readable list ns x) h (λ x w. list_readable list ns x w)

pub bytes_even : (list : ℕ) (ns : List ℕ) → bytes_of list ns % 4 ≡ 0
unfolding bytes_of
bytes_even list [] = refl
bytes_even list (n ∷ ns) = first (in_list list n) (bytes_of list ns) (bytes_even list ns)
  where
    first : (b : Bool) (k : ℕ) → k % 4 ≡ 0 → (cond b 4 0 + k) % 4 ≡ 0
    first true k h = omega arith
    first false k h = omega arith

-- no test stops
none : (b1 b2 b3 : Bool) → b1 ≡ false → b2 ≡ true → b3 ≡ true → or_stop (cond b1 (Some stop.StackLimit) None) (cond (not b2) (Some stop.Unaligned) (cond b3 None (Some stop.Unmapped))) ≡ None
none b1 b2 b3 p q r = rw (p, q, r) refl

pub push_goes : (list sp : ℕ) (c : Cpu) → c.regs.sp ≡ sp + bytes_of list registers → c.msplim ≤ sp → AreWordPlaces sp (bytes_of list registers) → push_stop list c ≡ None
unfolding push_stop
push_goes list sp c e limit w =
    let bytes = bytes_of list registers in
    let to = w.to in
    let even = w.even in
    let multiple = bytes_even list registers in
    let at : subtract c.regs.sp (bytes_of list registers) ≡ sp = omega (arith, e, w.to) in
    let high : c.msplim ≤ aligned 4 (subtract c.regs.sp (bytes_of list registers)) = omega (arith, at, w.even, limit) in
    let whole : c.regs.sp % 4 ≡ 0 = omega (arith, e, w.even, bytes_even list registers) in
    none _ _ _ (let t : ltb (aligned 4 (subtract c.regs.sp (bytes_of list registers))) c.msplim ≡ false = grind (arith, nat_tests) in t)
    (let t : eqb (c.regs.sp % 4) 0 ≡ true = grind (arith, nat_tests) in t)
    (ap (all_writable list registers) at ∙ list_writable list registers sp w)

pub pop_goes : (list : ℕ) (c : Cpu) → c.msplim ≤ c.regs.sp → AreWordPlaces c.regs.sp (bytes_of list registers) → pop_stop list c ≡ None
unfolding pop_stop
pop_goes list c limit w =
    let high : c.msplim ≤ aligned 4 (add c.regs.sp (bytes_of list registers)) = omega (arith, w.even, w.to, bytes_even list registers, limit) in
    let whole = w.even in
    none _ _ _ (let t : ltb (aligned 4 (add c.regs.sp (bytes_of list registers))) c.msplim ≡ false = grind (arith, nat_tests) in t)
    (let t : eqb (c.regs.sp % 4) 0 ≡ true = grind (arith, nat_tests) in t)
    (list_readable list registers c.regs.sp w)

none_of_call : (b1 b2 b3 : Bool) → b1 ≡ true → b2 ≡ false → b3 ≡ true → cond (not b1) (Some stop.BadState) (or_stop (cond b2 (Some stop.StackLimit) None) (cond b3 None (Some stop.Unmapped))) ≡ None
none_of_call b1 b2 b3 p q r = rw (p, q, r) refl

pub call_goes : (sp : ℕ) (c : Cpu) → c.regs.sp ≡ sp + 8 → sp % 8 ≡ 0 → c.msplim ≤ sp → AreWordPlaces sp 8 → call_stop c ≡ None
unfolding call_stop
call_goes sp c e even limit w =
    let at : subtract c.regs.sp 8 ≡ sp = omega (arith, e, w.to) in
    let high : c.msplim ≤ aligned 4 (subtract c.regs.sp 8) = omega (arith, at, w.even, limit) in
    let whole : c.regs.sp % 8 ≡ 0 = omega (arith, e, even) in
    let second : next (subtract c.regs.sp 8) ≡ sp + 4 = omega (arith, at, w.to) in
    none_of_call _ _ _ (let t : eqb (c.regs.sp % 8) 0 ≡ true = grind (arith, nat_tests) in t)
    (let t : ltb (aligned 4 (subtract c.regs.sp 8)) c.msplim ≡ false = grind (arith, nat_tests) in t)
    (ap (λ x. is_writable x 4 && is_writable (next (subtract c.regs.sp 8)) 4) at
    ∙ ap (λ b. b && is_writable (next (subtract c.regs.sp 8)) 4) (word_writable sp (record { even = w.even; from = w.from; to = omega (arith, w.to) }))
    ∙ ap (λ x. is_writable x 4) second
    ∙ word_writable (sp + 4) (record { even = omega (arith, w.even); from = omega (arith, w.from); to = omega (arith, w.to) }))
