-- The bytes of a list, member by member.
use Rattle.std.proofs.Common.{◌≡◌, ◌≢◌, ℕ, ◌+◌, ◌%◌, ◌<◌, ◌≤◌, List, [], ◌∷◌, ◌++◌, Option, Some, None, length, drop, get_or, refl, sym, ap, ◌∙◌, subst, ⊎_elim, arith, append_assoc}
use Rattle.std.specs.Prelude.{All, IfSome, IsTrue}
use Rattle.std.proofs.lemmas.List.{drop_more, drop_all, append-nil}
use Rattle.std.proofs.lemmas.List.Elements.{All-get_or}
use Rattle.v8m_isa.specs.Table.{in_range_of, code_of}
use Rattle.v8m_isa.specs.declared.instr.Instr.{Instr}
use Rattle.cm_base.specs.LittleEndian.{le16}
use Rattle.v8m_isa.specs.Bytes.{instr_bytes, code_bytes}
use Rattle.v8m_isa.proofs.DecodingLaws.{size-code_of, size_of_two_or_four}
use Rattle.v8m_isa.proofs.ByteLaws.{wide_bytes, narrow_bytes}
use Rattle.asm_fix.specs.declared.asm.Asm.{Asm}
use Rattle.asm_fix.specs.declared.asm.Asm.TheVariants.{Op, Label, Jump, JumpIf}
use Rattle.asm_fix.specs.Fixed.{member_size, bytes_in, is_in_range, found_by, label_at, place_of, instr_at, in_front, its_bytes, fixed_from}
use Rattle.asm_fix.proofs.Labels.{IsPlace, place_is, size_even}
use Rattle.asm_fix.proofs.Ranges.{instr_in_range}

front_bytes : (o : Option Instr) (is : List Instr) → code_bytes (in_front o is) ≡ its_bytes o ++ code_bytes is
front_bytes None is = refl
front_bytes (Some i) is = refl

-- a member's instruction by places that are the same
same_instr : (p q : ℕ → ℕ) (at : ℕ) (a : Asm) → ((l : ℕ) → p l ≡ q l) → instr_at p at a ≡ instr_at q at a
same_instr p q at (Op i) e = refl
same_instr p q at (Label l) e = refl
same_instr p q at (Jump to) e = ap (λ x. instr_at (λ _. x) at (Jump to)) (e to)
same_instr p q at (JumpIf c to) e = ap (λ x. instr_at (λ _. x) at (JumpIf c to)) (e to)

-- one more member
pub one_more : (p q : ℕ → ℕ) (at : ℕ) (a : Asm) (left rest : List Asm) (bytes more all : List ℕ) → ((l : ℕ) → p l ≡ q l) → left ≡ a ∷ rest → more ≡ bytes ++ its_bytes (instr_at p at a)
    → bytes ++ code_bytes (fixed_from q at left) ≡ all → more ++ code_bytes (fixed_from q (at + member_size a) rest) ≡ all
one_more p q at a left rest bytes more all same e m h =
    ap (λ x. x ++ code_bytes (fixed_from q (at + member_size a) rest)) m
    ∙ append_assoc bytes (its_bytes (instr_at p at a)) (code_bytes (fixed_from q (at + member_size a) rest))
    ∙ ap (λ o. bytes ++ (its_bytes o ++ code_bytes (fixed_from q (at + member_size a) rest))) (same_instr p q at a same)
    ∙ ap (λ x. bytes ++ x) (sym (front_bytes (instr_at q at a) (fixed_from q (at + member_size a) rest)))
    ∙ ap (λ x. bytes ++ code_bytes (fixed_from q at x)) (sym e)
    ∙ h

-- what is left of the bytes, and of the labels, where one more member is passed
pub fewer : (asm : List Asm) (i at size : ℕ) (d : Asm) → i < length asm → size ≡ member_size (get_or asm i d) → at + bytes_in (drop i asm) ≡ bytes_in asm → at + size + bytes_in (drop (i + 1) asm) ≡ bytes_in asm
fewer asm i at size d lt e h = let open_it = ap bytes_in (drop_more asm i d lt) in omega (arith, open_it, e, h)

pub still_even : (a : Asm) (at size : ℕ) → size ≡ member_size a → at % 2 ≡ 0 → (at + size) % 2 ≡ 0
still_even a at size e even = omega (arith, size_even a, e, even)

pub passed : (asm : List Asm) (q i at size : ℕ) (found new : Option ℕ) (d : Asm) → i < length asm → size ≡ member_size (get_or asm i d) → new ≡ found_by q found at (get_or asm i d)
    → label_at q found at (drop i asm) ≡ label_at q None 0 asm → label_at q new (at + size) (drop (i + 1) asm) ≡ label_at q None 0 asm
passed asm q i at size found new d lt e f h =
    ap (λ x. label_at q x (at + size) (drop (i + 1) asm)) f
    ∙ ap (λ x. label_at q (found_by q found at (get_or asm i d)) (at + x) (drop (i + 1) asm)) e
    ∙ sym (ap (label_at q found at) (drop_more asm i d lt))
    ∙ h

pub passed_all : (asm : List Asm) (q i at : ℕ) (found : Option ℕ) → length asm ≤ i → label_at q found at (drop i asm) ≡ found
passed_all asm q i at found le = ap (label_at q found at) (drop_all i asm le)

-- the bytes so far, where a member is put behind them, and where none is left
pub put_more : (asm : List Asm) (p q : ℕ → ℕ) (i at size : ℕ) (bytes more all : List ℕ) (d : Asm) → i < length asm → ((l : ℕ) → p l ≡ q l) → size ≡ member_size (get_or asm i d) → more ≡ bytes ++ its_bytes (instr_at p at (get_or asm i d))
    → bytes ++ code_bytes (fixed_from q at (drop i asm)) ≡ all → more ++ code_bytes (fixed_from q (at + size) (drop (i + 1) asm)) ≡ all
put_more asm p q i at size bytes more all d lt same e m h =
    ap (λ x. more ++ code_bytes (fixed_from q (at + x) (drop (i + 1) asm))) e
    ∙ one_more p q at (get_or asm i d) (drop i asm) (drop (i + 1) asm) bytes more all same (drop_more asm i d lt) m h

pub put_all : (asm : List Asm) (q : ℕ → ℕ) (i at : ℕ) (bytes all : List ℕ) → length asm ≤ i → bytes ++ code_bytes (fixed_from q at (drop i asm)) ≡ all → bytes ≡ all
put_all asm q i at bytes all le h = sym (ap (λ x. bytes ++ code_bytes (fixed_from q at x)) (drop_all i asm le) ∙ append-nil bytes) ∙ h

-- a member's instruction is in range by the places that a map has
pub member_range : (asm : List Asm) (p : ℕ → ℕ) (i at : ℕ) (d : Asm) → i < length asm → ((l : ℕ) → p l ≡ place_of asm l) → at % 2 ≡ 0 → at + bytes_in (drop i asm) ≡ bytes_in asm → bytes_in asm ≤ 512000 → All (λ a. IsTrue (is_in_range a)) asm
    → IfSome (instr_at p at (get_or asm i d)) (λ i. IsTrue (in_range_of i))
member_range asm p i at d lt same even at_is le all =
    instr_in_range p at (get_or asm i d) (λ l. subst (IsPlace 512000) (sym (same l)) (place_is asm 512000 l le)) even (omega (arith, at_is, le)) (All-get_or (λ a. IsTrue (is_in_range a)) asm i d lt all)

-- the halfwords of an instruction, by its size
pub wide_instr : (i : Instr) (s : ℕ) → (code_of i).size ≡ s → s ≡ 4 → instr_bytes i ≡ le16 (code_of i).first ++ le16 (code_of i).second
wide_instr i s e f = wide_bytes i (sym (size-code_of i) ∙ e ∙ f)

pub narrow_instr : (i : Instr) (s : ℕ) → (code_of i).size ≡ s → s ≢ 4 → instr_bytes i ≡ le16 (code_of i).first
narrow_instr i s e f = narrow_bytes i (⊎_elim (λ t. t) (λ t. absurd (f (sym e ∙ size-code_of i ∙ t))) (size_of_two_or_four i))
