-- Branches of fixed code are in range.
use Rattle.std.proofs.Common.{◌≡◌, ℕ, ◌+◌, ◌-◌, ◌%◌, ◌<◌, ◌≤◌, ◌⊎◌, Bool, true, false, List, [], ◌∷◌, ◌++◌, Option, Some, None, length, refl, sym, ap, ◌∙◌, subst, ⊎_elim, inl, inr, arith, length-append}
use Rattle.std.specs.Prelude.{All, IfSome, IsTrue, ltb, ◌&&◌}
use Rattle.std.proofs.lemmas.List.Elements.{All-head, All-tail}
use Rattle.std.proofs.lemmas.Bool.Decides.{nat_tests}
use Rattle.ns_types.specs.Operators.{subtract}
use Rattle.v8m_isa.specs.declared.instr.Instr.{Instr}
use Rattle.v8m_isa.specs.declared.instr.Instr.TheVariants.{B, Bc}
use Rattle.v8m_isa.specs.Table.{in_range_of, size_of, is_offset}
use Rattle.v8m_isa.specs.Bytes.{instr_bytes, code_bytes, AllInRange}
use Rattle.v8m_isa.proofs.ByteLaws.{length_bytes}
use Rattle.asm_fix.specs.declared.asm.Asm.{Asm}
use Rattle.asm_fix.specs.declared.asm.Asm.TheVariants.{Op, Label, Jump, JumpIf}
use Rattle.asm_fix.specs.Fixed.{member_size, bytes_in, is_in_range, instr_at, in_front, fixed_from}
use Rattle.asm_fix.proofs.Labels.{IsPlace, size_even}

-- an even distance of less than 2 ^ 20 bytes, ahead or back
near : (off : ℕ) → off % 2 ≡ 0 → (off < 1048576) ⊎ ((4293918720 ≤ off) × (off < 4294967296)) → is_offset 20 off ≡ true
near off even (inl lt) = grind (arith, nat_tests)
near off even (inr p) = let le = p.0 in let lt = p.1 in grind (arith, nat_tests)

far : (off : ℕ) → off % 2 ≡ 0 → (off < 1048576) ⊎ ((4293918720 ≤ off) × (off < 4294967296)) → is_offset 24 off ≡ true
far off even (inl lt) = grind (arith, nat_tests)
far off even (inr p) = let le = p.0 in let lt = p.1 in grind (arith, nat_tests)

record Distance (off : ℕ) : Type 0 where
  even : off % 2 ≡ 0
  within : (off < 1048576) ⊎ ((4293918720 ≤ off) × (off < 4294967296))

distance : (at t : ℕ) → at % 2 ≡ 0 → at ≤ 512000 → IsPlace 512000 t → Distance (subtract t (at + 4))
distance at t even le p = by_order (order (at + 4) t)
  where
    even_t : t % 2 ≡ 0
    even_t = p.even

    le_t : t ≤ 512000
    le_t = p.to

    order : (x y : ℕ) → (x ≤ y) ⊎ (y < x)
    order x y = grind arith

    by_order : (at + 4 ≤ t) ⊎ (t < at + 4) → Distance (subtract t (at + 4))
    by_order (inl h) = record { even = omega arith; within = inl (omega arith) }
    by_order (inr h) = record { even = omega arith; within = inr (omega arith, omega arith) }

pub instr_in_range : (place : ℕ → ℕ) (at : ℕ) (a : Asm) → ((l : ℕ) → IsPlace 512000 (place l)) → at % 2 ≡ 0 → at ≤ 512000 → is_in_range a ≡ true → IfSome (instr_at place at a) (λ i. in_range_of i ≡ true)
unfolding in_range_of
instr_in_range place at (Op i) places even le h = h
instr_in_range place at (Label l) places even le h = tt
instr_in_range place at (Jump to) places even le h = let d = distance at (place to) even le (places to) in far _ d.even d.within
instr_in_range place at (JumpIf c to) places even le h = let d = distance at (place to) even le (places to) in rw h (near _ d.even d.within)

-- those of a whole list
pub all_in_range : (place : ℕ → ℕ) (at : ℕ) (asm : List Asm) → ((l : ℕ) → IsPlace 512000 (place l)) → at % 2 ≡ 0 → at + bytes_in asm ≤ 512000 → All (λ a. IsTrue (is_in_range a)) asm → AllInRange (fixed_from place at asm)
all_in_range place at [] places even le all = tt
all_in_range place at (a ∷ rest) places even le all =
    front (instr_at place at a) _ (instr_in_range place at a places even (omega (arith, le)) (All-head (λ a. IsTrue (is_in_range a)) a rest all))
    (all_in_range place (at + member_size a) rest places (omega (arith, even, size_even a)) (omega (arith, le)) (All-tail (λ a. IsTrue (is_in_range a)) a rest all))
  where
    front : (o : Option Instr) (is : List Instr) → IfSome o (λ i. in_range_of i ≡ true) → AllInRange is → AllInRange (in_front o is)
    front None is h all = all
    front (Some i) is h all = (h, all)

-- as many bytes as the list
branch_size : (place : ℕ → ℕ) (at : ℕ) (a : Asm) (is : List Instr) → length (code_bytes (in_front (instr_at place at a) is)) ≡ member_size a + length (code_bytes is)
unfolding size_of
branch_size place at (Op i) is = length-append (instr_bytes i) (code_bytes is) ∙ ap (λ n. n + length (code_bytes is)) (length_bytes i)
branch_size place at (Label l) is = zero_more (length (code_bytes is))
  where
    zero_more : (x : ℕ) → x ≡ 0 + x
    zero_more x = omega arith
branch_size place at (Jump to) is = let i = B (subtract (place to) (at + 4)) in length-append (instr_bytes i) (code_bytes is) ∙ ap (λ n. n + length (code_bytes is)) (length_bytes i)
branch_size place at (JumpIf c to) is = let i = Bc c (subtract (place to) (at + 4)) in length-append (instr_bytes i) (code_bytes is) ∙ ap (λ n. n + length (code_bytes is)) (length_bytes i)

pub length_fixed : (place : ℕ → ℕ) (at : ℕ) (asm : List Asm) → length (code_bytes (fixed_from place at asm)) ≡ bytes_in asm
length_fixed place at [] = refl
length_fixed place at (a ∷ rest) = branch_size place at a (fixed_from place (at + member_size a) rest) ∙ ap (λ n. member_size a + n) (length_fixed place (at + member_size a) rest)
