-- Fixed code in Secure ROM.
use Rattle.std.proofs.Common.{◌≡◌, ℕ, ◌+◌, ◌-◌, ◌%◌, ◌<◌, ◌≤◌, Bool, true, false, cond, List, [], ◌∷◌, ◌++◌, Option, Some, None, refl, sym, ap, ◌∙◌, subst, arith}
use Rattle.std.specs.Prelude.{eqb, unwrap_or}
use Rattle.ns_types.specs.State.{Device}
use Rattle.ns_types.specs.Operators.{add, subtract}
use Rattle.v8m_isa.specs.Table.{size_of}
use Rattle.v8m_core.specs.Code.{HasCode}
use Rattle.asm_fix.specs.declared.asm.Asm.{Asm}
use Rattle.asm_fix.specs.declared.asm.Asm.TheVariants.{Op, Label, Jump, JumpIf}
use Rattle.asm_fix.specs.Fixed.{member_size, bytes_in, is_label, count, found_by, label_at, place_of, fixed_from, fixed}
use Rattle.asm_fix.specs.HasAsm.{IsFixable, HasAsm, past_asm}
use Rattle.asm_fix.proofs.Labels.{place_is, label_no, itself, at_label}

-- a list that stands behind another one
pub asm_front : (device : Device) (at : ℕ → ℕ) (pc : ℕ) (a b : List Asm) → HasAsm device at pc (a ++ b) → HasAsm device at pc a
asm_front device at pc [] b h = tt
asm_front device at pc (Op i ∷ a) b h = (h.0, asm_front device at (pc + size_of i) a b h.1)
asm_front device at pc (Label l ∷ a) b h = (h.0, asm_front device at pc a b h.1)
asm_front device at pc (Jump to ∷ a) b h = (h.0, asm_front device at (pc + 4) a b h.1)
asm_front device at pc (JumpIf c to ∷ a) b h = (h.0, asm_front device at (pc + 4) a b h.1)

pub asm_back : (device : Device) (at : ℕ → ℕ) (pc : ℕ) (a b : List Asm) → HasAsm device at pc (a ++ b) → HasAsm device at (past_asm pc a) b
asm_back device at pc [] b h = h
asm_back device at pc (Op i ∷ a) b h = asm_back device at (pc + size_of i) a b h.1
asm_back device at pc (Label l ∷ a) b h = asm_back device at pc a b h.1
asm_back device at pc (Jump to ∷ a) b h = asm_back device at (pc + 4) a b h.1
asm_back device at pc (JumpIf c to ∷ a) b h = asm_back device at (pc + 4) a b h.1

-- sums that stand where branches lead
leads : (base at p : ℕ) → base + p < 4294967296 → at + 4 ≤ 4294967296 → add (base + at + 4) (subtract p (at + 4)) ≡ base + p
leads base at p lt le = omega arith

-- the rest of a list, at a place, where labels were found so far
record Rest (base : ℕ) (place : ℕ → ℕ) (found : ℕ → Option ℕ) (at : ℕ) (asm : List Asm) : Type 0 where
  same : (l : ℕ) → unwrap_or (label_at l (found l) at asm) 0 ≡ place l
  once : (l : ℕ) → count l asm ≤ 1
  low : (l : ℕ) → base + place l < 4294967296
  short : at + bytes_in asm ≤ 512000

rest_on : (base : ℕ) (place : ℕ → ℕ) (found : ℕ → Option ℕ) (at : ℕ) (a : Asm) (asm : List Asm) → Rest base place found at (a ∷ asm) → Rest base place (λ l. found_by l (found l) at a) (at + member_size a) asm
rest_on base place found at a asm r = record {
  same = r.same;
  once = λ l. (let once = r.once l in omega arith);
  low = r.low;
  short = (let short = r.short in omega arith);
}

-- a label of the rest is at its place
here : (base : ℕ) (place : ℕ → ℕ) (found : ℕ → Option ℕ) (at l : ℕ) (asm : List Asm) → Rest base place found at (Label l ∷ asm) → base + place l ≡ base + at
here base place found at l asm r =
    let none : count l asm ≡ 0 = omega (arith, r.once l, itself l) in
    ap (λ x. base + x) (sym (r.same l) ∙ ap (λ o. unwrap_or o 0) (label_no l (found_by l (found l) at (Label l)) (at + 0) asm none ∙ at_label l (found l) at))

has_rest : (device : Device) (base : ℕ) (place : ℕ → ℕ) (found : ℕ → Option ℕ) (at : ℕ) (asm : List Asm) → Rest base place found at asm → HasCode device (base + at) (fixed_from place at asm) → HasAsm device (λ l. base + place l) (base + at) asm
unfolding size_of
has_rest device base place found at [] r h = tt
has_rest device base place found at (Op i ∷ asm) r h =
    let e : base + at + size_of i ≡ base + (at + size_of i) = omega arith in
    (h.0, subst (λ p. HasAsm device (λ l. base + place l) p asm) (sym e) (has_rest device base place (λ q. found_by q (found q) at (Op i)) (at + size_of i) asm (rest_on base place found at (Op i) asm r) (subst (λ p. HasCode device p (fixed_from place (at + size_of i) asm)) e h.1)))
has_rest device base place found at (Label l ∷ asm) r h =
    let e : base + (at + 0) ≡ base + at = omega arith in
    let f : base + at ≡ base + (at + 0) = omega arith in
    (here base place found at l asm r, subst (λ p. HasAsm device (λ l. base + place l) p asm) e (has_rest device base place (λ q. found_by q (found q) at (Label l)) (at + 0) asm (rest_on base place found at (Label l) asm r) (subst (λ p. HasCode device p (fixed_from place (at + 0) asm)) f h)))
has_rest device base place found at (Jump to ∷ asm) r h =
    let f : base + (at + 4) ≡ base + at + 4 = omega arith in (
      (subtract (place to) (at + 4), h.0, leads base at (place to) (r.low to) (omega (arith, r.short))),
      subst (λ p. HasAsm device (λ l. base + place l) p asm) f (has_rest device base place (λ q. found_by q (found q) at (Jump to)) (at + 4) asm (rest_on base place found at (Jump to) asm r) (subst (λ p. HasCode device p (fixed_from place (at + 4) asm)) (sym f) h.1)),
    )
has_rest device base place found at (JumpIf c to ∷ asm) r h =
    let f : base + (at + 4) ≡ base + at + 4 = omega arith in (
      (subtract (place to) (at + 4), h.0, leads base at (place to) (r.low to) (omega (arith, r.short))),
      subst (λ p. HasAsm device (λ l. base + place l) p asm) f (has_rest device base place (λ q. found_by q (found q) at (JumpIf c to)) (at + 4) asm (rest_on base place found at (JumpIf c to) asm r) (subst (λ p. HasCode device p (fixed_from place (at + 4) asm)) (sym f) h.1)),
    )

-- code stands below the end of the Non-secure callable region; an empty list stands anywhere
pub has_asm : (device : Device) (base : ℕ) (asm : List Asm) → base < 4000000000 → IsFixable asm → ((l : ℕ) → count l asm ≤ 1) → HasCode device base (fixed asm) → HasAsm device (λ l. base + place_of asm l) base asm
has_asm device base asm low f once h =
    let e : base ≡ base + 0 = omega arith in
    let r : Rest base (place_of asm) (λ l. None) 0 asm = record {
      same = λ l. refl;
      once = once;
      low = λ l. (let to = (place_is asm 512000 l f.short).to in omega arith);
      short = (let short = f.short in omega arith);
    } in
    subst (λ p. HasAsm device (λ l. base + place_of asm l) p asm) (sym e) (has_rest device base (place_of asm) (λ l. None) 0 asm r (subst (λ p. HasCode device p (fixed asm)) e h))
