-- Where parts stand that begin at multiples of 4, one behind the other.
use Rattle.std.proofs.Common.{◌≡◌, ℕ, zero, suc, ◌+◌, ◌*◌, ◌%◌, ◌<◌, ◌≤◌, ◌^◌, List, [], ◌∷◌, length, map, fold, sum_by, All, refl, ap, arith}
use Rattle.std.proofs.lemmas.List.Elements.{All-cons, All-nil, All-head, All-tail}
use Rattle.std.proofs.lemmas.List.Sums.{sum_by-cons}
use Rattle.cm_base.specs.declared.regions.TheConstants.{SECURE_ROM}
use Rattle.elf32.specs.Tables.{aligned, padding}
use Rattle.elf32.proofs.TableLaws.{aligned_least, aligned_below}
use Rattle.elf_object.specs.declared.object.Object.{Object}
use Rattle.elf_object.specs.declared.object.Sited.{Sited}
use Rattle.elf_object.specs.Placed.{IsSite}
use Rattle.link_laws.specs.Sites.{behind, behind_texts, behind_inits, sited_from, first_text, first_init, sited}

aligned_multiple : (at : ℕ) → aligned at % 4 ≡ 0
unfolding aligned padding
aligned_multiple at = omega arith

-- behind parts of objects
module _ (f : Object → List ℕ) where
  abbrev pub behind_all : ℕ → List Object → ℕ
  behind_all at os = fold (λ a o. behind a (f o)) at os

  pub least : (at : ℕ) (os : List Object) → at ≤ behind_all at os
  least at [] = omega arith
  least at (o ∷ os) = omega (arith, aligned_least (at + length (f o)), least (behind at (f o)) os)

  pub first_least : (at : ℕ) (o : Object) (os : List Object) → at + length (f o) ≤ behind_all at (o ∷ os)
  first_least at o os = omega (arith, aligned_least (at + length (f o)), least (behind at (f o)) os)

  pub most : (at : ℕ) (os : List Object) → behind_all at os ≤ at + sum_by (λ o. length (f o)) os + 4 * length os
  most at [] = omega arith
  most at (o ∷ os) =
      omega (arith, aligned_below (at + length (f o)), most (behind at (f o)) os, sum_by-cons (λ o. length (f o)) o os)

  pub multiple : (at : ℕ) (os : List Object) → at % 4 ≡ 0 → behind_all at os % 4 ≡ 0
  multiple at [] e = e
  multiple at (o ∷ os) e = multiple (behind at (f o)) os (aligned_multiple (at + length (f o)))

-- an object with its addresses stands in Secure ROM
pub record IsSited (s : Sited) : Type 0 where
  pub text : IsSite s.text_at (length s.object.text)
  pub init : IsSite s.init_at (length s.object.init)

pub all_sited : (t i : ℕ) (os : List Object) → t % 4 ≡ 0 → i % 4 ≡ 0 → SECURE_ROM.from ≤ t → SECURE_ROM.from ≤ i → behind_texts t os ≤ SECURE_ROM.to → behind_inits i os ≤ SECURE_ROM.to → All IsSited (sited_from t i os)
all_sited t i [] et ei lt li ht hi = All-nil IsSited
all_sited t i (o ∷ os) et ei lt li ht hi =
    All-cons IsSited (let s : Sited = record { object = o; text_at = t; init_at = i } in s) (sited_from (behind t o.text) (behind i o.init) os)
    (record { text = (et, lt, omega (arith, first_least (λ o. o.text) t o os, ht)); init = (ei, li, omega (arith, first_least (λ o. o.init) i o os, hi)) })
    (all_sited (behind t o.text) (behind i o.init) os (aligned_multiple (t + length o.text)) (aligned_multiple (i + length o.init)) (omega (arith, lt, aligned_least (t + length o.text))) (omega (arith, li, aligned_least (i + length o.init))) ht hi)

pub objects_of : (t i : ℕ) (os : List Object) → map (λ s. s.object) (sited_from t i os) ≡ os
objects_of t i [] = refl
objects_of t i (o ∷ os) = ap (λ l. o ∷ l) (objects_of (behind t o.text) (behind i o.init) os)

pub each_object : (P : Object → Type 0) (t i : ℕ) (os : List Object) → All P os → All (λ s. P s.object) (sited_from t i os)
each_object P t i [] all = All-nil (λ s. P s.object)
each_object P t i (o ∷ os) all =
    All-cons (λ s. P s.object) (let s : Sited = record { object = o; text_at = t; init_at = i } in s) (sited_from (behind t o.text) (behind i o.init) os) (All-head P o os all) (each_object P (behind t o.text) (behind i o.init) os (All-tail P o os all))

-- ---- the objects of a program

pub record Fits (objects : List Object) : Type 0 where
  pub texts : first_init objects ≤ SECURE_ROM.to
  pub inits : behind_inits (first_init objects) objects ≤ SECURE_ROM.to

pub fits : (objects : List Object) → length objects ≤ 33 → sum_by (λ o. length o.text) objects ≤ 4100096 → sum_by (λ o. length o.init) objects ≤ 49152 → Fits objects
fits objects few texts inits =
    let t = most (λ o. o.text) first_text objects in
    let i = most (λ o. o.init) (first_init objects) objects in
    record {
      texts = omega (arith, t, few, texts);
      inits = omega (arith, t, i, few, texts, inits);
    }

pub are_sited : (objects : List Object) → Fits objects → All IsSited (sited objects)
unfolding sited
are_sited objects fit =
    let low = least (λ o. o.text) first_text objects in
    all_sited first_text (first_init objects) objects refl (multiple (λ o. o.text) first_text objects refl) (omega arith) (omega (arith, low)) (fit.texts) fit.inits

pub objects_are : (objects : List Object) → map (λ s. s.object) (sited objects) ≡ objects
unfolding sited
objects_are objects = objects_of first_text (first_init objects) objects

pub each : (P : Object → Type 0) (objects : List Object) → All P objects → All (λ s. P s.object) (sited objects)
unfolding sited
each P objects all = each_object P first_text (first_init objects) objects all
