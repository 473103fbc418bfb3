-- Words of rows: what is read after a write.
use Rattle.std.proofs.Common.{◌≡◌, ◌≢◌, ℕ, Bool, true, false, cond, ◌+◌, ◌*◌, ◌/◌, ◌%◌, ◌<◌, ◌≤◌, ◌⊎◌, List, length, ap, ◌∙◌, ⊎_elim, inl, inr, arith}
use Rattle.std.specs.Prelude.{eqb, slice_index, slice_set}
use Rattle.std.proofs.lemmas.Grind.{common_steps}
use Rattle.std.proofs.lemmas.List.{length-set}
use Rattle.ns_types.specs.Memory.{word_at, put_byte, put_half, put_word, put_number}

pub same_byte : (row : List ℕ) (o v : ℕ) → o < length row → slice_index (slice_set row o v) o ≡ v
same_byte row o v lt = grind (arith, common_steps)

pub other_byte : (row : List ℕ) (o p v : ℕ) → o ≢ p → slice_index (slice_set row o v) p ≡ slice_index row p
other_byte row o p v ne = grind (arith, common_steps)

pub length-put_word : (row : List ℕ) (o v : ℕ) → length (put_word row o v) ≡ length row
unfolding put_word
length-put_word row o v = grind (arith, common_steps)

length_cond : (b : Bool) (x y : List ℕ) (n : ℕ) → length x ≡ n → length y ≡ n → length (cond b x y) ≡ n
length_cond true x y n p q = p
length_cond false x y n p q = q

length-put_byte : (bytes : List ℕ) (o v : ℕ) → length (put_byte bytes o v) ≡ length bytes
unfolding put_byte
length-put_byte bytes o v = length-set bytes o _

length-put_half : (bytes : List ℕ) (o v : ℕ) → length (put_half bytes o v) ≡ length bytes
unfolding put_half
length-put_half bytes o v = length-set _ (o + 1) _ ∙ length-set bytes o _

pub length-put_number : (size : ℕ) (bytes : List ℕ) (o v : ℕ) → length (put_number size bytes o v) ≡ length bytes
length-put_number size bytes o v =
    length_cond (eqb size 4) (put_word bytes o v) _ _ (length-put_word bytes o v) (length_cond (eqb size 2) (put_half bytes o v) _ _ (length-put_half bytes o v) (length-put_byte bytes o v))

-- a byte outside a written word
pub byte_outside : (row : List ℕ) (o p v : ℕ) → (p < o) ⊎ (o + 4 ≤ p) → slice_index (put_word row o v) p ≡ slice_index row p
unfolding put_word
byte_outside row o p v out =
    other_byte _ (o + 3) p _ (λ e. ⊎_elim (λ l. absurd (omega arith)) (λ l. absurd (omega arith)) out)
    ∙ other_byte _ (o + 2) p _ (λ e. ⊎_elim (λ l. absurd (omega arith)) (λ l. absurd (omega arith)) out)
    ∙ other_byte _ (o + 1) p _ (λ e. ⊎_elim (λ l. absurd (omega arith)) (λ l. absurd (omega arith)) out)
    ∙ other_byte _ o p _ (λ e. ⊎_elim (λ l. absurd (omega arith)) (λ l. absurd (omega arith)) out)

-- the word that was written
pub same_word : (row : List ℕ) (o v : ℕ) → o + 4 ≤ length row → v < 4294967296 → word_at (put_word row o v) o ≡ v
unfolding put_word word_at
same_word row o v fit lt =
    let n0 : length (slice_set row o (v % 256)) ≡ length row = grind (arith, common_steps) in
    let n1 : length (slice_set (slice_set row o (v % 256)) (o + 1) (v / 256 % 256)) ≡ length row = grind (arith, common_steps) in
    let n2 : length (slice_set (slice_set (slice_set row o (v % 256)) (o + 1) (v / 256 % 256)) (o + 2) (v / 65536 % 256)) ≡ length row = grind (arith, common_steps) in
    let r1 : List ℕ = slice_set row o (v % 256) in
    let r2 : List ℕ = slice_set (slice_set row o (v % 256)) (o + 1) (v / 256 % 256) in
    let r3 : List ℕ = slice_set (slice_set (slice_set row o (v % 256)) (o + 1) (v / 256 % 256)) (o + 2) (v / 65536 % 256) in
    let b3 : slice_index (slice_set r3 (o + 3) (v / 16777216 % 256)) (o + 3) ≡ v / 16777216 % 256 = same_byte r3 (o + 3) (v / 16777216 % 256) (omega arith) in
    let b2 : slice_index (slice_set r3 (o + 3) (v / 16777216 % 256)) (o + 2) ≡ v / 65536 % 256 = other_byte r3 (o + 3) (o + 2) (v / 16777216 % 256) (λ e. omega arith) ∙ same_byte r2 (o + 2) (v / 65536 % 256) (omega arith) in
    let b1 : slice_index (slice_set r3 (o + 3) (v / 16777216 % 256)) (o + 1) ≡ v / 256 % 256 = other_byte r3 (o + 3) (o + 1) (v / 16777216 % 256) (λ e. omega arith) ∙ other_byte r2 (o + 2) (o + 1) (v / 65536 % 256) (λ e. omega arith) ∙ same_byte r1 (o + 1) (v / 256 % 256) (omega arith) in
    let b0 : slice_index (slice_set r3 (o + 3) (v / 16777216 % 256)) o ≡ v % 256 = other_byte r3 (o + 3) o (v / 16777216 % 256) (λ e. omega arith) ∙ other_byte r2 (o + 2) o (v / 65536 % 256) (λ e. omega arith) ∙ other_byte r1 (o + 1) o (v / 256 % 256) (λ e. omega arith) ∙ same_byte row o (v % 256) (omega arith) in
    let sum : (v % 256 + 256 * (v / 256 % 256) + 65536 * (v / 65536 % 256) + 16777216 * (v / 16777216 % 256)) % 4294967296 ≡ v = omega arith in
    ap (λ x. (x + 256 * slice_index (slice_set r3 (o + 3) (v / 16777216 % 256)) (o + 1) + 65536 * slice_index (slice_set r3 (o + 3) (v / 16777216 % 256)) (o + 2) + 16777216 * slice_index (slice_set r3 (o + 3) (v / 16777216 % 256)) (o + 3)) % 4294967296) b0
    ∙ ap (λ x. (v % 256 + 256 * x + 65536 * slice_index (slice_set r3 (o + 3) (v / 16777216 % 256)) (o + 2) + 16777216 * slice_index (slice_set r3 (o + 3) (v / 16777216 % 256)) (o + 3)) % 4294967296) b1
    ∙ ap (λ x. (v % 256 + 256 * (v / 256 % 256) + 65536 * x + 16777216 * slice_index (slice_set r3 (o + 3) (v / 16777216 % 256)) (o + 3)) % 4294967296) b2
    ∙ ap (λ x. (v % 256 + 256 * (v / 256 % 256) + 65536 * (v / 65536 % 256) + 16777216 * x) % 4294967296) b3
    ∙ sum

-- another word is as it was
pub other_word : (row : List ℕ) (o p v : ℕ) → (p + 4 ≤ o) ⊎ (o + 4 ≤ p) → word_at (put_word row o v) p ≡ word_at row p
unfolding word_at
other_word row o p v out =
    let b0 = byte_outside row o p v (⊎_elim (λ l. inl (omega arith)) (λ l. inr (omega arith)) out) in
    let b1 = byte_outside row o (p + 1) v (⊎_elim (λ l. inl (omega arith)) (λ l. inr (omega arith)) out) in
    let b2 = byte_outside row o (p + 2) v (⊎_elim (λ l. inl (omega arith)) (λ l. inr (omega arith)) out) in
    let b3 = byte_outside row o (p + 3) v (⊎_elim (λ l. inl (omega arith)) (λ l. inr (omega arith)) out) in
    cc
