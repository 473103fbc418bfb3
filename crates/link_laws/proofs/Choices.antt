-- This, or else that.
use Rattle.std.proofs.Common.{◌≡◌, ℕ, Option, Some, None, List, [], ◌∷◌, fold, flat_map, ◌++◌, refl, ap, ◌∙◌}
use Rattle.elf_object.specs.Linked.{or_else}

pub or_else_assoc : (a b c : Option ℕ) → or_else (or_else a b) c ≡ or_else a (or_else b c)
or_else_assoc None b c = refl
or_else_assoc (Some x) b c = refl

pub or_else_none : (a : Option ℕ) → or_else a None ≡ a
or_else_none None = refl
or_else_none (Some x) = refl

pub or_else_some : (a : Option ℕ) (b : ℕ) (c : Option ℕ) → or_else (or_else a (Some b)) c ≡ or_else a (Some b)
or_else_some None b c = refl
or_else_some (Some x) b c = refl

-- functions that agree fold and map alike
pub fold_same : {A B : Type 0} (f g : B → A → B) → ((b : B) (a : A) → f b a ≡ g b a) → (b : B) (xs : List A) → fold f b xs ≡ fold g b xs
fold_same f g same b [] = refl
fold_same f g same b (x ∷ xs) = ap (λ c. fold f c xs) (same b x) ∙ fold_same f g same (g b x) xs

pub flat_map_same : {A B : Type 0} (f g : A → List B) → ((a : A) → f a ≡ g a) → (xs : List A) → flat_map f xs ≡ flat_map g xs
flat_map_same f g same [] = refl
flat_map_same f g same (x ∷ xs) = ap (λ l. l ++ flat_map f xs) (same x) ∙ ap (λ l. g x ++ l) (flat_map_same f g same xs)
