-- Fields of an ELF32 file, the byte of least worth first (System V ABI, Data Encoding: ELFDATA2LSB), as they are read.
use Rattle.std.specs.Prelude.{ℕ, ◌+◌, ◌*◌, ◌<◌, List, [], ◌∷◌, drop, slice_index, Option, Some, None}

-- the number that the first two bytes hold
abbrev pub first16 : List ℕ → Option ℕ
first16 [] = None
first16 (a ∷ []) = None
first16 (a ∷ b ∷ rest) = Some (a + 256 * b)

-- the number that the first four bytes hold
abbrev pub first32 : List ℕ → Option ℕ
first32 [] = None
first32 (a ∷ []) = None
first32 (a ∷ b ∷ []) = None
first32 (a ∷ b ∷ c ∷ []) = None
first32 (a ∷ b ∷ c ∷ d ∷ rest) = Some (a + 256 * b + 65536 * c + 16777216 * d)

-- the 16-bit field at an offset, or None where it isn't whole in the bytes
abbrev pub field16 : List ℕ → ℕ → Option ℕ
field16 bytes at = first16 (drop at bytes)

-- the 32-bit field at an offset, or None where it isn't whole in the bytes
abbrev pub field32 : List ℕ → ℕ → Option ℕ
field32 bytes at = first32 (drop at bytes)

-- numbers below 256
abbrev pub AreBytes : List ℕ → Type 0
AreBytes bytes = (i : ℕ) → slice_index bytes i < 256
