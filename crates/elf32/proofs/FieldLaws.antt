-- Laws on fields: what was appended is read back, wherever it stands.
use Rattle.std.proofs.Common.{◌≡◌, ℕ, ◌+◌, ◌*◌, ◌/◌, ◌%◌, ◌^◌, ◌<◌, List, [], ◌∷◌, ◌++◌, length, drop, zero, suc, Some, refl, sym, ◌∙◌, ap, arith}
use Rattle.std.proofs.lemmas.List.{drop_at, append_assoc, drop-drop}
use Rattle.cm_base.specs.LittleEndian.{le16, le32}
use Rattle.elf32.specs.Fields.{first16, first32, field16, field32, AreBytes}

value16 : (v : ℕ) → v < 2 ^ 16 → v % 256 + 256 * (v / 256 % 256) ≡ v
value16 v lt = grind arith

value32 : (v : ℕ) → v < 2 ^ 32 → v % 256 + 256 * (v / 256 % 256) + 65536 * (v / 65536 % 256) + 16777216 * (v / 16777216 % 256) ≡ v
value32 v lt = grind arith

-- the bytes from the end of the first part on
pub drop-front : (pre mid post : List ℕ) → drop (length pre) (pre ++ mid ++ post) ≡ mid ++ post
drop-front pre mid post = ap (drop (length pre)) (append_assoc pre mid post) ∙ drop_at pre (mid ++ post) (length pre) refl

-- a field is read back from where it was appended
pub field16-le16 : (pre post : List ℕ) (v : ℕ) → v < 2 ^ 16 → field16 (pre ++ le16 v ++ post) (length pre) ≡ Some v
field16-le16 pre post v lt = ap first16 (drop-front pre (le16 v) post) ∙ ap Some (value16 v lt)

pub field32-le32 : (pre post : List ℕ) (v : ℕ) → v < 2 ^ 32 → field32 (pre ++ le32 v ++ post) (length pre) ≡ Some v
field32-le32 pre post v lt = ap first32 (drop-front pre (le32 v) post) ∙ ap Some (value32 v lt)

-- a field of the second part stands in the whole, as far behind the first part
pub drop-past : (pre bytes : List ℕ) (at : ℕ) → drop (length pre + at) (pre ++ bytes) ≡ drop at bytes
drop-past pre bytes at = sym (drop-drop at (length pre) (pre ++ bytes)) ∙ ap (drop at) (drop_at pre bytes (length pre) refl)

pub field16-append_right : (pre bytes : List ℕ) (at : ℕ) → field16 (pre ++ bytes) (length pre + at) ≡ field16 bytes at
field16-append_right pre bytes at = ap first16 (drop-past pre bytes at)

pub field32-append_right : (pre bytes : List ℕ) (at : ℕ) → field32 (pre ++ bytes) (length pre + at) ≡ field32 bytes at
field32-append_right pre bytes at = ap first32 (drop-past pre bytes at)

-- a field of the first part stands in the whole
first16-append : (bytes post : List ℕ) (v : ℕ) → first16 bytes ≡ Some v → first16 (bytes ++ post) ≡ Some v
first16-append [] post v e = cc
first16-append (a ∷ []) post v e = cc
first16-append (a ∷ b ∷ rest) post v e = e

first32-append : (bytes post : List ℕ) (v : ℕ) → first32 bytes ≡ Some v → first32 (bytes ++ post) ≡ Some v
first32-append [] post v e = cc
first32-append (a ∷ []) post v e = cc
first32-append (a ∷ b ∷ []) post v e = cc
first32-append (a ∷ b ∷ c ∷ []) post v e = cc
first32-append (a ∷ b ∷ c ∷ d ∷ rest) post v e = e

pub field16-append_left : (bytes post : List ℕ) (at v : ℕ) → field16 bytes at ≡ Some v → field16 (bytes ++ post) at ≡ Some v
field16-append_left bytes post zero v e = first16-append bytes post v e
field16-append_left [] post (suc at) v e = cc
field16-append_left (b ∷ bytes) post (suc at) v e = field16-append_left bytes post at v e

pub field32-append_left : (bytes post : List ℕ) (at v : ℕ) → field32 bytes at ≡ Some v → field32 (bytes ++ post) at ≡ Some v
field32-append_left bytes post zero v e = first32-append bytes post v e
field32-append_left [] post (suc at) v e = cc
field32-append_left (b ∷ bytes) post (suc at) v e = field32-append_left bytes post at v e

pub length-le16 : (v : ℕ) → length (le16 v) ≡ 2
length-le16 v = refl

pub length-le32 : (v : ℕ) → length (le32 v) ≡ 4
length-le32 v = refl

-- what is made of bytes are bytes
pub AreBytes-append : (xs ys : List ℕ) → AreBytes xs → AreBytes ys → AreBytes (xs ++ ys)
AreBytes-append [] ys p q i = q i
AreBytes-append (x ∷ xs) ys p q zero = p 0
AreBytes-append (x ∷ xs) ys p q (suc i) = AreBytes-append xs ys (λ k. p (suc k)) q i

pub AreBytes-le16 : (v : ℕ) → AreBytes (le16 v)
AreBytes-le16 v zero = omega arith
AreBytes-le16 v (suc zero) = omega arith
AreBytes-le16 v (suc (suc i)) = omega arith

pub AreBytes-le32 : (v : ℕ) → AreBytes (le32 v)
AreBytes-le32 v zero = omega arith
AreBytes-le32 v (suc zero) = omega arith
AreBytes-le32 v (suc (suc zero)) = omega arith
AreBytes-le32 v (suc (suc (suc zero))) = omega arith
AreBytes-le32 v (suc (suc (suc (suc i)))) = omega arith
