-- Numbers of 1, 2 or 4 bytes in a list of bytes: what is read after a write.
use Rattle.std.proofs.Common.{◌≡◌, ◌≢◌, ℕ, ◌+◌, ◌-◌, ◌*◌, ◌/◌, ◌%◌, ◌^◌, ◌<◌, ◌≤◌, ◌⊎◌, List, length, take, refl, sym, ap, ◌∙◌, subst, ⊎_elim, inl, inr, arith}
use Rattle.std.specs.Prelude.{slice_index, slice_set}
use Rattle.std.proofs.lemmas.List.{length-set, take-set-le, get_or-take}
use Rattle.std.proofs.Math.Seq.{take-set-lt}
use Rattle.ns_types.specs.Memory.{byte_at, half_at, word_at, number_at, put_byte, put_half, put_word, put_number}
use Rattle.ns_types.specs.Operators.{low_bytes}
use Rattle.v8m_core.proofs.Words.{same_byte, other_byte, byte_outside, same_word}
use Rattle.v8m_laws.specs.Rows.{IsSize}

-- what holds of 1, 2 and 4 holds of each size
pub by_size : (P : ℕ → Type 0) → P 1 → P 2 → P 4 → (n : ℕ) → IsSize n → P n
by_size P one two four n s =
    ⊎_elim
    (λ e. subst P (sym e) one)
    (λ h. ⊎_elim (λ e. subst P (sym e) two) (λ e. subst P (sym e) four) h)
    s

pub size_positive : (n : ℕ) → IsSize n → 0 < n
size_positive n s = by_size (λ k. 0 < k) (omega arith) (omega arith) (omega arith) n s

pub size_at_most : (n : ℕ) → IsSize n → n ≤ 4
size_at_most n s = by_size (λ k. k ≤ 4) (omega arith) (omega arith) (omega arith) n s

-- n bytes from a place on are the same in two lists
abbrev pub AreAlike : List ℕ → List ℕ → ℕ → ℕ → Type 0
AreAlike x y o n = (q : ℕ) → o ≤ q → q < o + n → slice_index x q ≡ slice_index y q

alike_byte : (x y : List ℕ) (o : ℕ) → AreAlike x y o 1 → byte_at x o ≡ byte_at y o
unfolding byte_at
alike_byte x y o h = ap (λ b. b % 256) (h o (omega arith) (omega arith))

alike_half : (x y : List ℕ) (o : ℕ) → AreAlike x y o 2 → half_at x o ≡ half_at y o
unfolding half_at
alike_half x y o h =
    let b0 = h o (omega arith) (omega arith) in
    let b1 = h (o + 1) (omega arith) (omega arith) in
    cc

alike_word : (x y : List ℕ) (o : ℕ) → AreAlike x y o 4 → word_at x o ≡ word_at y o
unfolding word_at
alike_word x y o h =
    let b0 = h o (omega arith) (omega arith) in
    let b1 = h (o + 1) (omega arith) (omega arith) in
    let b2 = h (o + 2) (omega arith) (omega arith) in
    let b3 = h (o + 3) (omega arith) (omega arith) in
    cc

pub number_alike : (n : ℕ) → IsSize n → (x y : List ℕ) (o : ℕ) → AreAlike x y o n → number_at n x o ≡ number_at n y o
number_alike n s = by_size (λ k. (x y : List ℕ) (o : ℕ) → AreAlike x y o k → number_at k x o ≡ number_at k y o) alike_byte alike_half alike_word n s

-- a byte outside of a number that is written
outside_byte : (row : List ℕ) (o v q : ℕ) → (q < o) ⊎ (o + 1 ≤ q) → slice_index (put_byte row o v) q ≡ slice_index row q
unfolding put_byte
outside_byte row o v q out = other_byte _ o q _ (λ e. ⊎_elim (λ l. absurd (omega arith)) (λ l. absurd (omega arith)) out)

outside_half : (row : List ℕ) (o v q : ℕ) → (q < o) ⊎ (o + 2 ≤ q) → slice_index (put_half row o v) q ≡ slice_index row q
unfolding put_half
outside_half row o v q out =
    other_byte _ (o + 1) q _ (λ e. ⊎_elim (λ l. absurd (omega arith)) (λ l. absurd (omega arith)) out)
    ∙ other_byte _ o q _ (λ e. ⊎_elim (λ l. absurd (omega arith)) (λ l. absurd (omega arith)) out)

pub number_outside : (n : ℕ) → IsSize n → (row : List ℕ) (o v q : ℕ) → (q < o) ⊎ (o + n ≤ q) → slice_index (put_number n row o v) q ≡ slice_index row q
number_outside n s =
    by_size (λ k. (row : List ℕ) (o v q : ℕ) → (q < o) ⊎ (o + k ≤ q) → slice_index (put_number k row o v) q ≡ slice_index row q) outside_byte outside_half
    (λ row o v q out. byte_outside row o q v out) n s

-- a number apart from the one that is written
pub number_apart : (n k : ℕ) → IsSize n → IsSize k → (row : List ℕ) (o p v : ℕ) → (o + n ≤ p) ⊎ (p + k ≤ o) → number_at n (put_number k row p v) o ≡ number_at n row o
number_apart n k sn sk row o p v apart =
    number_alike n sn _ row o (λ q from to. number_outside k sk row p v q (⊎_elim (λ l. inl (omega arith)) (λ l. inr (omega arith)) apart))

-- the number that is written
same_one : (row : List ℕ) (o v : ℕ) → o + 1 ≤ length row → v < 4294967296 → byte_at (put_byte row o v) o ≡ low_bytes 1 v
unfolding byte_at put_byte
same_one row o v fit lt = ap (λ b. b % 256) (same_byte row o (v % 256) (omega arith)) ∙ mod_twice v
  where
    mod_twice : (v : ℕ) → v % 256 % 256 ≡ v % 256
    mod_twice v = omega arith

same_two : (row : List ℕ) (o v : ℕ) → o + 2 ≤ length row → v < 4294967296 → half_at (put_half row o v) o ≡ low_bytes 2 v
unfolding half_at put_half
same_two row o v fit lt =
    let r1 : List ℕ = slice_set row o (v % 256) in
    let n1 : length r1 ≡ length row = length-set row o (v % 256) in
    let b1 : slice_index (slice_set r1 (o + 1) (v / 256 % 256)) (o + 1) ≡ v / 256 % 256 = same_byte r1 (o + 1) (v / 256 % 256) (omega (arith, n1, fit)) in
    let b0 : slice_index (slice_set r1 (o + 1) (v / 256 % 256)) o ≡ v % 256 = other_byte r1 (o + 1) o (v / 256 % 256) (λ e. omega arith) ∙ same_byte row o (v % 256) (omega arith) in
    ap (λ x. (x + 256 * slice_index (slice_set r1 (o + 1) (v / 256 % 256)) (o + 1)) % 65536) b0
    ∙ ap (λ x. (v % 256 + 256 * x) % 65536) b1
    ∙ halves v
  where
    halves : (v : ℕ) → (v % 256 + 256 * (v / 256 % 256)) % 65536 ≡ v % 65536
    halves v = omega arith

same_four : (row : List ℕ) (o v : ℕ) → o + 4 ≤ length row → v < 4294967296 → word_at (put_word row o v) o ≡ low_bytes 4 v
same_four row o v fit lt = same_word row o v fit lt ∙ small v lt
  where
    small : (v : ℕ) → v < 4294967296 → v ≡ v % 4294967296
    small v lt = omega arith

pub number_same : (n : ℕ) → IsSize n → (row : List ℕ) (o v : ℕ) → o + n ≤ length row → v < 4294967296 → number_at n (put_number n row o v) o ≡ low_bytes n v
number_same n s = by_size (λ k. (row : List ℕ) (o v : ℕ) → o + k ≤ length row → v < 4294967296 → number_at k (put_number k row o v) o ≡ low_bytes k v) same_one same_two same_four n s

-- numbers are words
lt_one : (row : List ℕ) (o : ℕ) → byte_at row o < 4294967296
unfolding byte_at
lt_one row o = omega arith

lt_two : (row : List ℕ) (o : ℕ) → half_at row o < 4294967296
unfolding half_at
lt_two row o = omega arith

lt_four : (row : List ℕ) (o : ℕ) → word_at row o < 4294967296
unfolding word_at
lt_four row o = omega arith

pub number_lt : (n : ℕ) → IsSize n → (row : List ℕ) (o : ℕ) → number_at n row o < 4294967296
number_lt n s = by_size (λ k. (row : List ℕ) (o : ℕ) → number_at k row o < 4294967296) lt_one lt_two lt_four n s

-- the front of a list
pub number_of_front : (n : ℕ) → IsSize n → (row : List ℕ) (k o : ℕ) → o + n ≤ k → number_at n (take k row) o ≡ number_at n row o
number_of_front n s row k o le = number_alike n s _ row o (λ q from to. get_or-take k row q 0 (omega arith))

front_one : (row : List ℕ) (k o v : ℕ) → o + 1 ≤ k → take k (put_byte row o v) ≡ put_byte (take k row) o v
unfolding put_byte
front_one row k o v le = take-set-lt k row o _ (omega arith)

front_two : (row : List ℕ) (k o v : ℕ) → o + 2 ≤ k → take k (put_half row o v) ≡ put_half (take k row) o v
unfolding put_half
front_two row k o v le =
    take-set-lt k _ (o + 1) _ (omega arith)
    ∙ ap (λ r. slice_set r (o + 1) (v / 256 % 256)) (take-set-lt k row o _ (omega arith))

front_four : (row : List ℕ) (k o v : ℕ) → o + 4 ≤ k → take k (put_word row o v) ≡ put_word (take k row) o v
unfolding put_word
front_four row k o v le =
    take-set-lt k _ (o + 3) _ (omega arith)
    ∙ ap (λ r. slice_set r (o + 3) (v / 16777216 % 256)) (take-set-lt k _ (o + 2) _ (omega arith))
    ∙ ap (λ r. slice_set (slice_set r (o + 2) (v / 65536 % 256)) (o + 3) (v / 16777216 % 256)) (take-set-lt k _ (o + 1) _ (omega arith))
    ∙ ap (λ r. slice_set (slice_set (slice_set r (o + 1) (v / 256 % 256)) (o + 2) (v / 65536 % 256)) (o + 3) (v / 16777216 % 256)) (take-set-lt k row o _ (omega arith))

pub front_written : (n : ℕ) → IsSize n → (row : List ℕ) (k o v : ℕ) → o + n ≤ k → take k (put_number n row o v) ≡ put_number n (take k row) o v
front_written n s = by_size (λ j. (row : List ℕ) (k o v : ℕ) → o + j ≤ k → take k (put_number j row o v) ≡ put_number j (take k row) o v) front_one front_two front_four n s

behind_one : (row : List ℕ) (k o v : ℕ) → k ≤ o → take k (put_byte row o v) ≡ take k row
unfolding put_byte
behind_one row k o v le = take-set-le k row o _ le

behind_two : (row : List ℕ) (k o v : ℕ) → k ≤ o → take k (put_half row o v) ≡ take k row
unfolding put_half
behind_two row k o v le = take-set-le k _ (o + 1) _ (omega arith) ∙ take-set-le k row o _ le

behind_four : (row : List ℕ) (k o v : ℕ) → k ≤ o → take k (put_word row o v) ≡ take k row
unfolding put_word
behind_four row k o v le = take-set-le k _ (o + 3) _ (omega arith) ∙ take-set-le k _ (o + 2) _ (omega arith) ∙ take-set-le k _ (o + 1) _ (omega arith) ∙ take-set-le k row o _ le

pub front_kept : (n : ℕ) → IsSize n → (row : List ℕ) (k o v : ℕ) → k ≤ o → take k (put_number n row o v) ≡ take k row
front_kept n s = by_size (λ j. (row : List ℕ) (k o v : ℕ) → k ≤ o → take k (put_number j row o v) ≡ take k row) behind_one behind_two behind_four n s
