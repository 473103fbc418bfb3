-- Code stands where its bytes stand.
use Rattle.std.proofs.Common.{◌≡◌, ℕ, ◌+◌, ◌-◌, ◌/◌, ◌%◌, ◌<◌, ◌≤◌, ◌⊎◌, true, cond, List, [], ◌∷◌, ◌++◌, length, refl, sym, ap, ◌∙◌, subst, ⊎_elim, inl, inr, arith, append_assoc, length-append}
use Rattle.std.specs.Prelude.{eqb, slice_index}
use Rattle.std.proofs.lemmas.Grind.{common_steps}
use Rattle.std.proofs.lemmas.Bool.Decides.{nat_tests}
use Rattle.v8m_isa.specs.declared.instr.Instr.{Instr}
use Rattle.cm_base.specs.LittleEndian.{le16, le32}
use Rattle.cm_base.specs.declared.regions.TheConstants.{SECURE_ROM, NSC}
use Rattle.v8m_isa.specs.Table.{in_range_of, size_of, code_of}
use Rattle.v8m_isa.specs.Bytes.{instr_bytes, code_bytes, AllInRange}
use Rattle.ns_types.specs.Platform.{is_in_rom}
use Rattle.ns_types.specs.State.{device_of}
use Rattle.ns_types.specs.Memory.{half_at, word_at, rom_size}
use Rattle.ns_types.specs.Gateway.{fetched}
use Rattle.v8m_core.specs.Code.{HasCode}
use Rattle.v8m_isa.proofs.DecodingLaws.{size_of_two_or_four, first-code_of_lt, second-code_of_lt}
use Rattle.v8m_isa.proofs.ByteLaws.{length_bytes}

-- a halfword where its bytes stand
pub half_at_seam : (pre post : List ℕ) (h o : ℕ) → h < 65536 → o ≡ length pre → half_at (pre ++ (le16 h ++ post)) o ≡ h
unfolding half_at
half_at_seam pre post h o lt e =
    let a : slice_index (pre ++ (h % 256 ∷ h / 256 % 256 ∷ post)) o ≡ h % 256 = grind (arith, common_steps) in
    let b : slice_index (pre ++ (h % 256 ∷ h / 256 % 256 ∷ post)) (o + 1) ≡ h / 256 % 256 = grind (arith, common_steps) in
    rw (a, b) (omega arith)

-- a word where its bytes stand
pub word_at_seam : (pre post : List ℕ) (v o : ℕ) → v < 4294967296 → o ≡ length pre → word_at (pre ++ (le32 v ++ post)) o ≡ v
unfolding word_at
word_at_seam pre post v o lt e =
    let all : List ℕ = pre ++ (v % 256 ∷ v / 256 % 256 ∷ v / 65536 % 256 ∷ v / 16777216 % 256 ∷ post) in
    let a : slice_index (pre ++ (v % 256 ∷ v / 256 % 256 ∷ v / 65536 % 256 ∷ v / 16777216 % 256 ∷ post)) o ≡ v % 256 = grind (arith, common_steps) in
    let b : slice_index (pre ++ (v % 256 ∷ v / 256 % 256 ∷ v / 65536 % 256 ∷ v / 16777216 % 256 ∷ post)) (o + 1) ≡ v / 256 % 256 = grind (arith, common_steps) in
    let c : slice_index (pre ++ (v % 256 ∷ v / 256 % 256 ∷ v / 65536 % 256 ∷ v / 16777216 % 256 ∷ post)) (o + 2) ≡ v / 65536 % 256 = grind (arith, common_steps) in
    let d : slice_index (pre ++ (v % 256 ∷ v / 256 % 256 ∷ v / 65536 % 256 ∷ v / 16777216 % 256 ∷ post)) (o + 3) ≡ v / 16777216 % 256 = grind (arith, common_steps) in
    rw (a, b, c, d) (omega arith)

first_stands : (i : Instr) (rom pre post : List ℕ) → in_range_of i ≡ true → rom ≡ pre ++ (instr_bytes i ++ post) → half_at rom (length pre) ≡ (code_of i).first
first_stands i rom pre post range e =
    ⊎_elim
    (λ s. ap (λ r. half_at r (length pre)) (e ∙ ap (λ n. pre ++ (cond (eqb n 2) (le16 (code_of i).first) (le16 (code_of i).first ++ le16 (code_of i).second) ++ post)) s) ∙ half_at_seam pre post (code_of i).first (length pre) (first-code_of_lt i range) refl)
    (λ s. ap (λ r. half_at r (length pre)) (e ∙ ap (λ n. pre ++ (cond (eqb n 2) (le16 (code_of i).first) (le16 (code_of i).first ++ le16 (code_of i).second) ++ post)) s) ∙ half_at_seam pre (le16 (code_of i).second ++ post) (code_of i).first (length pre) (first-code_of_lt i range) refl)
    (size_of_two_or_four i)

second_stands : (i : Instr) (rom pre post : List ℕ) → in_range_of i ≡ true → rom ≡ pre ++ (instr_bytes i ++ post) → (size_of i ≡ 2) ⊎ (half_at rom (length pre + 2) ≡ (code_of i).second)
second_stands i rom pre post range e =
    ⊎_elim (λ s. inl s)
    (λ s. inr (
    let turn : pre ++ (le16 (code_of i).first ++ le16 (code_of i).second ++ post) ≡ (pre ++ le16 (code_of i).first) ++ (le16 (code_of i).second ++ post) = sym (append_assoc pre (le16 (code_of i).first) (le16 (code_of i).second ++ post)) in
    let n : length pre + 2 ≡ length (pre ++ le16 (code_of i).first) = omega (arith, length-append pre (le16 (code_of i).first)) in
    ap (λ r. half_at r (length pre + 2)) (e ∙ ap (λ n. pre ++ (cond (eqb n 2) (le16 (code_of i).first) (le16 (code_of i).first ++ le16 (code_of i).second) ++ post)) s ∙ turn) ∙ half_at_seam (pre ++ le16 (code_of i).first) post (code_of i).second (length pre + 2) (second-code_of_lt i range) n))
    (size_of_two_or_four i)

pub has_code : (is : List Instr) (rom pre post : List ℕ) → rom ≡ pre ++ (code_bytes is ++ post) → length rom ≤ rom_size → AllInRange is → HasCode (device_of rom) (SECURE_ROM.from + length pre) is
has_code [] rom pre post e fit all = tt
has_code (i ∷ is) rom pre post e fit all =
    let e' : rom ≡ pre ++ (instr_bytes i ++ (code_bytes is ++ post)) = e ∙ ap (λ t. pre ++ t) (append_assoc (instr_bytes i) (code_bytes is) post) in
    let e'' : rom ≡ (pre ++ instr_bytes i) ++ (code_bytes is ++ post) = e' ∙ sym (append_assoc pre (instr_bytes i) (code_bytes is ++ post)) in
    let n : length (pre ++ instr_bytes i) ≡ length pre + size_of i = length-append pre (instr_bytes i) ∙ ap (λ k. length pre + k) (length_bytes i) in
    let m : SECURE_ROM.from + length (pre ++ instr_bytes i) ≡ SECURE_ROM.from + length pre + size_of i = omega (arith, n) in
    let back : SECURE_ROM.from + length pre - SECURE_ROM.from ≡ length pre = omega arith in
    let back2 : SECURE_ROM.from + length pre + 2 - SECURE_ROM.from ≡ length pre + 2 = omega arith in
    let total : length rom ≡ length pre + size_of i + length (code_bytes is ++ post) = ap length e'' ∙ length-append (pre ++ instr_bytes i) (code_bytes is ++ post) ∙ ap (λ k. k + length (code_bytes is ++ post)) n in
    let two_or : 2 ≤ size_of i = ⊎_elim (λ s. omega arith) (λ s. omega arith) (size_of_two_or_four i) in (
      record {
        range = all.0;
        place = (let a : SECURE_ROM.from + length pre < NSC.to = omega arith in grind (arith, nat_tests));
        first = ap (half_at rom) back ∙ first_stands i rom pre (code_bytes is ++ post) all.0 e';
        second = ⊎_elim
            (λ s. inl s)
            (λ s. ⊎_elim {C = (size_of i ≡ 2) ⊎ ((is_in_rom (SECURE_ROM.from + length pre + 2) ≡ true) × (fetched (device_of rom) (SECURE_ROM.from + length pre + 2) ≡ (code_of i).second))} (λ t. inl t) (λ h. inr ((let a : SECURE_ROM.from + length pre + 2 < NSC.to = omega arith in grind (arith, nat_tests)), ap (half_at rom) back2 ∙ h)) (second_stands i rom pre (code_bytes is ++ post) all.0 e'))
            (size_of_two_or_four i);
      },
      subst (λ p. HasCode (device_of rom) p is) m (has_code is rom (pre ++ instr_bytes i) post e'' fit all.1),
    )
