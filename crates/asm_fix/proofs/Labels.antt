-- The places of labels.
use Rattle.std.proofs.Common.{◌≡◌, ℕ, ◌+◌, ◌%◌, ◌≤◌, Bool, true, false, cond, List, [], ◌∷◌, ◌++◌, Option, Some, None, refl, sym, ap, ◌∙◌, subst, ⊎_elim, arith}
use Rattle.std.specs.Prelude.{eqb, unwrap_or}
use Rattle.std.proofs.lemmas.Bool.{eq-eqb}
use Rattle.v8m_isa.proofs.DecodingLaws.{size_of_two_or_four}
use Rattle.asm_fix.specs.declared.asm.Asm.{Asm}
use Rattle.asm_fix.specs.declared.asm.Asm.TheVariants.{Op, Label, Jump, JumpIf}
use Rattle.asm_fix.specs.Fixed.{member_size, bytes_in, is_label, count, found_by, label_at, place_of}

-- a place within n bytes where an instruction may stand
pub record IsPlace (n p : ℕ) : Type 0 where
  pub even : p % 2 ≡ 0
  pub to : p ≤ n

abbrev Found : ℕ → Option ℕ → Type 0
Found n None = Unit {0}
Found n (Some p) = IsPlace n p

pub size_even : (a : Asm) → member_size a % 2 ≡ 0
size_even (Op i) = ⊎_elim (λ e. omega arith) (λ e. omega arith) (size_of_two_or_four i)
size_even (Label l) = refl
size_even (Jump to) = refl
size_even (JumpIf c to) = refl

found_is : (n l : ℕ) (found : Option ℕ) (at : ℕ) (a : Asm) → IsPlace n at → Found n found → Found n (found_by l found at a)
found_is n l found at (Op i) p h = h
found_is n l found at (Label k) p h = either (eqb k l)
  where
    either : (b : Bool) → Found n (cond b (Some at) found)
    either true = p
    either false = h
found_is n l found at (Jump to) p h = h
found_is n l found at (JumpIf c to) p h = h

label_is : (n l : ℕ) (found : Option ℕ) (at : ℕ) (asm : List Asm) → at % 2 ≡ 0 → at + bytes_in asm ≤ n → Found n found → Found n (label_at l found at asm)
label_is n l found at [] even le h = h
label_is n l found at (a ∷ rest) even le h =
    label_is n l (found_by l found at a) (at + member_size a) rest (omega (arith, even, size_even a)) (omega (arith, le))
    (found_is n l found at a (record { even = even; to = omega (arith, le) }) h)

pub place_is : (asm : List Asm) (n l : ℕ) → bytes_in asm ≤ n → IsPlace n (place_of asm l)
place_is asm n l le = of (label_at l None 0 asm) (label_is n l None 0 asm refl (omega (arith, le)) tt)
  where
    of : (o : Option ℕ) → Found n o → IsPlace n (unwrap_or o 0)
    of None h = record { even = refl; to = omega arith }
    of (Some p) h = h

-- a label that doesn't stand behind a place isn't found there
abbrev one_if : Bool → ℕ
one_if b = cond b 1 0

nothing : (x y : ℕ) → x + y ≡ 0 → (x ≡ 0) × (y ≡ 0)
nothing x y e = (omega arith, omega arith)

found_no : (l : ℕ) (found : Option ℕ) (at : ℕ) (a : Asm) → is_label l a ≡ 0 → found_by l found at a ≡ found
found_no l found at (Op i) e = refl
found_no l found at (Label k) e = either (eqb k l) e
  where
    either : (b : Bool) → one_if b ≡ 0 → cond b (Some at) found ≡ found
    either true e = absurd (omega arith)
    either false e = refl
found_no l found at (Jump to) e = refl
found_no l found at (JumpIf c to) e = refl

pub label_no : (l : ℕ) (found : Option ℕ) (at : ℕ) (asm : List Asm) → count l asm ≡ 0 → label_at l found at asm ≡ found
label_no l found at [] e = refl
label_no l found at (a ∷ rest) e =
    let p = nothing (is_label l a) (count l rest) e in
    label_no l (found_by l found at a) (at + member_size a) rest p.1 ∙ found_no l found at a p.0

-- a label in a list
pub counts : (l : ℕ) (front : List Asm) (a : Asm) (back : List Asm) → count l (front ++ a ∷ back) ≡ count l front + (is_label l a + count l back)
counts l [] a back = omega arith
counts l (b ∷ front) a back = let e = counts l front a back in omega arith

pub itself : (l : ℕ) → is_label l (Label l) ≡ 1
itself l = ap one_if (eq-eqb l l refl)

pub at_label : (l : ℕ) (found : Option ℕ) (at : ℕ) → found_by l found at (Label l) ≡ Some at
at_label l found at = ap (λ b. cond b (Some at) found) (eq-eqb l l refl)

label_in : (l : ℕ) (found : Option ℕ) (at : ℕ) (front back : List Asm) → count l back ≡ 0 → label_at l found at (front ++ Label l ∷ back) ≡ Some (at + bytes_in front)
label_in l found at [] back e =
    label_no l (found_by l found at (Label l)) (at + 0) back e ∙ at_label l found at ∙ ap Some (more at)
  where
    more : (x : ℕ) → x ≡ x + 0
    more x = omega arith
label_in l found at (a ∷ front) back e =
    label_in l (found_by l found at a) (at + member_size a) front back e ∙ ap Some (assoc at (member_size a) (bytes_in front))
  where
    assoc : (x y z : ℕ) → x + y + z ≡ x + (y + z)
    assoc x y z = omega arith

pub place_of_label : (front back : List Asm) (l : ℕ) → count l (front ++ Label l ∷ back) ≡ 1 → place_of (front ++ Label l ∷ back) l ≡ bytes_in front
place_of_label front back l once =
    let none : count l back ≡ 0 = omega (arith, counts l front (Label l) back, itself l, once) in
    ap (λ o. unwrap_or o 0) (label_in l None 0 front back none) ∙ zero_more (bytes_in front)
  where
    zero_more : (x : ℕ) → 0 + x ≡ x
    zero_more x = omega arith
