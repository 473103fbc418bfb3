-- Each part of an object's file is found where it stands.
use Rattle.std.proofs.Common.{◌≡◌, ℕ, ◌+◌, List, ◌++◌, length, take, drop, replicate, refl, sym, ap, ◌∙◌, arith, append_assoc, length-append}
use Rattle.std.proofs.lemmas.List.{take_at, drop_at, length-replicate}
use Rattle.std.specs.Prelude.{unwrap_or}
use Rattle.elf32.specs.Tables.{padding, aligned, padded}
use Rattle.elf32.proofs.FieldLaws.{field32-append_right}
use Rattle.elf_object.specs.Reading.{word}

-- a padded part behind others ends at the next multiple of 4
ends : (front part : List ℕ) (at : ℕ) → length front ≡ at → length (front ++ padded at part) ≡ aligned (at + length part)
unfolding padded aligned
ends front part at e =
    omega (arith, length-append front (part ++ replicate (padding (at + length part)) 0), length-append part (replicate (padding (at + length part)) 0), length-replicate {A = ℕ} (padding (at + length part)) 0)

-- the bytes of such a part
there : (front part rest file : List ℕ) (at : ℕ) → length front ≡ at → file ≡ front ++ (padded at part ++ rest) → take (length part) (drop at file) ≡ part
unfolding padded
there front part rest file at e is =
    ap (λ f. take (length part) (drop at f)) is
    ∙ (ap (take (length part)) (drop_at front _ at e ∙ append_assoc part (replicate (padding (at + length part)) 0) rest)
    ∙ take_at part (replicate (padding (at + length part)) 0 ++ rest) (length part) refl)

-- a word of the last part
pub last_word : (front part file : List ℕ) (at k : ℕ) → length front ≡ at → file ≡ front ++ part → word file (at + k) ≡ word part k
last_word front part file at k e is =
    ap (λ f. word f (at + k)) is ∙ (ap (λ n. word (front ++ part) (n + k)) (sym e) ∙ ap (λ o. unwrap_or o 0) (field32-append_right front part k))

-- six padded parts behind a header of 52 bytes, and a last part
abbrev pub init_at : List ℕ → ℕ
init_at a = aligned (52 + length a)

abbrev pub relocs_at : List ℕ → List ℕ → ℕ
relocs_at a b = aligned (init_at a + length b)

abbrev pub symbols_at : List ℕ → List ℕ → List ℕ → ℕ
symbols_at a b c = aligned (relocs_at a b + length c)

abbrev pub strings_at : List ℕ → List ℕ → List ℕ → List ℕ → ℕ
strings_at a b c d = aligned (symbols_at a b c + length d)

abbrev pub names_at : List ℕ → List ℕ → List ℕ → List ℕ → List ℕ → ℕ
names_at a b c d e = aligned (strings_at a b c d + length e)

abbrev pub sections_at : List ℕ → List ℕ → List ℕ → List ℕ → List ℕ → List ℕ → ℕ
sections_at a b c d e f = aligned (names_at a b c d e + length f)

module _ (h a b c d e f s : List ℕ) (size : length h ≡ 52) where
  abbrev pub whole : List ℕ
  whole = h ++ (padded 52 a ++ (padded (init_at a) b ++ (padded (relocs_at a b) c ++ (padded (symbols_at a b c) d ++ (padded (strings_at a b c d) e ++ (padded (names_at a b c d e) f ++ s))))))

  e1 : length (h ++ padded 52 a) ≡ init_at a
  e1 = ends h a 52 size

  e2 : length ((h ++ padded 52 a) ++ padded (init_at a) b) ≡ relocs_at a b
  e2 = ends (h ++ padded 52 a) b (init_at a) e1

  e3 : length (((h ++ padded 52 a) ++ padded (init_at a) b) ++ padded (relocs_at a b) c) ≡ symbols_at a b c
  e3 = ends ((h ++ padded 52 a) ++ padded (init_at a) b) c (relocs_at a b) e2

  e4 : length ((((h ++ padded 52 a) ++ padded (init_at a) b) ++ padded (relocs_at a b) c) ++ padded (symbols_at a b c) d) ≡ strings_at a b c d
  e4 = ends (((h ++ padded 52 a) ++ padded (init_at a) b) ++ padded (relocs_at a b) c) d (symbols_at a b c) e3

  e5 : length (((((h ++ padded 52 a) ++ padded (init_at a) b) ++ padded (relocs_at a b) c) ++ padded (symbols_at a b c) d) ++ padded (strings_at a b c d) e) ≡ names_at a b c d e
  e5 = ends ((((h ++ padded 52 a) ++ padded (init_at a) b) ++ padded (relocs_at a b) c) ++ padded (symbols_at a b c) d) e (strings_at a b c d) e4

  abbrev front : List ℕ
  front = (((((h ++ padded 52 a) ++ padded (init_at a) b) ++ padded (relocs_at a b) c) ++ padded (symbols_at a b c) d) ++ padded (strings_at a b c d) e) ++ padded (names_at a b c d e) f

  e6 : length front ≡ sections_at a b c d e f
  e6 = ends (((((h ++ padded 52 a) ++ padded (init_at a) b) ++ padded (relocs_at a b) c) ++ padded (symbols_at a b c) d) ++ padded (strings_at a b c d) e) f (names_at a b c d e) e5

  pub text_there : take (length a) (drop 52 whole) ≡ a
  text_there = there h a _ whole 52 size refl

  pub init_there : take (length b) (drop (init_at a) whole) ≡ b
  init_there = there (h ++ padded 52 a) b (padded (relocs_at a b) c ++ (padded (symbols_at a b c) d ++ (padded (strings_at a b c d) e ++ (padded (names_at a b c d e) f ++ s)))) whole (init_at a) e1 (simp append_assoc)

  pub relocs_there : take (length c) (drop (relocs_at a b) whole) ≡ c
  relocs_there = there ((h ++ padded 52 a) ++ padded (init_at a) b) c (padded (symbols_at a b c) d ++ (padded (strings_at a b c d) e ++ (padded (names_at a b c d e) f ++ s))) whole (relocs_at a b) e2 (simp append_assoc)

  pub symbols_there : take (length d) (drop (symbols_at a b c) whole) ≡ d
  symbols_there = there (((h ++ padded 52 a) ++ padded (init_at a) b) ++ padded (relocs_at a b) c) d (padded (strings_at a b c d) e ++ (padded (names_at a b c d e) f ++ s)) whole (symbols_at a b c) e3 (simp append_assoc)

  pub strings_there : take (length e) (drop (strings_at a b c d) whole) ≡ e
  strings_there = there ((((h ++ padded 52 a) ++ padded (init_at a) b) ++ padded (relocs_at a b) c) ++ padded (symbols_at a b c) d) e (padded (names_at a b c d e) f ++ s) whole (strings_at a b c d) e4 (simp append_assoc)

  pub section_word : (k : ℕ) → word whole (sections_at a b c d e f + k) ≡ word s k
  section_word k = last_word front s whole (sections_at a b c d e f) k e6 (simp append_assoc)
