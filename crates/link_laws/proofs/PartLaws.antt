-- Parts that stand in a ROM one behind the other.
use Rattle.std.proofs.Common.{◌≡◌, ℕ, ◌+◌, ◌-◌, ◌*◌, ◌<◌, ◌≤◌, List, [], ◌∷◌, ◌++◌, length, take, drop, replicate, fold, flat_map, All, refl, sym, ap, ◌∙◌, subst, arith, append_assoc, append-nil, length-append}
use Rattle.std.proofs.lemmas.List.{take_at, drop_at, length-replicate}
use Rattle.std.proofs.lemmas.List.Elements.{All-cons, All-nil, All-head, All-tail}
use Rattle.cm_base.specs.declared.regions.TheConstants.{SECURE_ROM}
use Rattle.elf32.specs.Tables.{aligned, padding, padded}
use Rattle.elf32.proofs.TableLaws.{padded_is, aligned_is}
use Rattle.elf_object.specs.declared.object.Object.{Object}
use Rattle.elf_object.specs.declared.object.Sited.{Sited}
use Rattle.elf_object.specs.Placed.{HasBytes}
use Rattle.link_laws.specs.Sites.{behind, behind_texts, behind_inits, sited_from}

pub has_bytes : (pre bytes post : List ℕ) (at : ℕ) → SECURE_ROM.from + length pre ≡ at → HasBytes (pre ++ (bytes ++ post)) at bytes
has_bytes pre bytes post at e =
    ap (take (length bytes)) (drop_at pre (bytes ++ post) (at - SECURE_ROM.from) (omega (arith, e))) ∙ take_at bytes post (length bytes) refl

part_first : (pre part rest post : List ℕ) (at : ℕ) → pre ++ ((padded at part ++ rest) ++ post) ≡ pre ++ (part ++ (replicate (padding (at + length part)) 0 ++ (rest ++ post)))
part_first pre part rest post at =
    ap (λ p. pre ++ ((p ++ rest) ++ post)) (padded_is at part)
    ∙ ap (λ l. pre ++ l) (ap (λ l. l ++ post) (append_assoc part (replicate (padding (at + length part)) 0) rest)
    ∙ (append_assoc part (replicate (padding (at + length part)) 0 ++ rest) post
    ∙ ap (λ l. part ++ l) (append_assoc (replicate (padding (at + length part)) 0) rest post)))

part_then : (pre part rest post : List ℕ) (at : ℕ) → pre ++ ((padded at part ++ rest) ++ post) ≡ (pre ++ padded at part) ++ (rest ++ post)
part_then pre part rest post at =
    ap (λ l. pre ++ l) (append_assoc (padded at part) rest post) ∙ sym (append_assoc pre (padded at part) (rest ++ post))

pub length-padded : (at : ℕ) (part : List ℕ) → at + length (padded at part) ≡ behind at part
length-padded at part =
    let p = ap length (padded_is at part) in
    let a = length-append part (replicate (padding (at + length part)) 0) in
    let r = length-replicate {A = ℕ} (padding (at + length part)) 0 in
    omega (arith, p, a, r, aligned_is (at + length part))

module _ (at : Sited → ℕ) (f : Sited → List ℕ) where
  -- each part begins behind the one before it
  abbrev pub Chained : ℕ → List Sited → Type 0
  Chained a [] = Unit {0}
  Chained a (s ∷ ss) = (at s ≡ a) × Chained (behind a (f s)) ss

  abbrev pub chain : List Sited → List ℕ
  chain ss = flat_map (λ s. padded (at s) (f s)) ss

  abbrev pub chain_end : ℕ → List Sited → ℕ
  chain_end a ss = fold (λ e s. behind e (f s)) a ss

  next : (pre : List ℕ) (a : ℕ) (s : Sited) → SECURE_ROM.from + length pre ≡ a → at s ≡ a → SECURE_ROM.from + length (pre ++ padded (at s) (f s)) ≡ behind a (f s)
  next pre a s e is =
      let l = length-append pre (padded (at s) (f s)) in
      let p = length-padded (at s) (f s) in
      let b = ap (λ n. behind n (f s)) is in
      omega (arith, l, p, b, e, is)

  -- each part stands where it is said to
  pub there : (pre post : List ℕ) (a : ℕ) (ss : List Sited) → SECURE_ROM.from + length pre ≡ a → Chained a ss → All (λ s. HasBytes (pre ++ (chain ss ++ post)) (at s) (f s)) ss
  there pre post a [] e is = All-nil (λ s. HasBytes (pre ++ ([] ++ post)) (at s) (f s))
  there pre post a (s ∷ ss) e is =
      let rest = chain ss in
      let whole = pre ++ ((padded (at s) (f s) ++ rest) ++ post) in
      All-cons (λ x. HasBytes whole (at x) (f x)) s ss
      (subst (λ rom. HasBytes rom (at s) (f s)) (sym (part_first pre (f s) rest post (at s))) (has_bytes pre (f s) (replicate (padding (at s + length (f s))) 0 ++ (rest ++ post)) (at s) (e ∙ sym is.0)))
      (subst (λ rom. All (λ x. HasBytes rom (at x) (f x)) ss) (sym (part_then pre (f s) rest post (at s))) (there (pre ++ padded (at s) (f s)) post (behind a (f s)) ss (next pre a s e is.0) is.1))

  -- where the parts end
  pub ends : (pre : List ℕ) (a : ℕ) (ss : List Sited) → SECURE_ROM.from + length pre ≡ a → Chained a ss → SECURE_ROM.from + length (pre ++ chain ss) ≡ chain_end a ss
  ends pre a [] e is = ap (λ l. SECURE_ROM.from + length l) (append-nil pre) ∙ e
  ends pre a (s ∷ ss) e is =
      ap (λ l. SECURE_ROM.from + length l) (sym (append_assoc pre (padded (at s) (f s)) (chain ss))) ∙ ends (pre ++ padded (at s) (f s)) (behind a (f s)) ss (next pre a s e is.0) is.1

-- texts and initial contents are chained
pub texts_chained : (f : Sited → List ℕ) (t i : ℕ) (os : List Object) → All (λ s. length (f s) ≡ length s.object.text) (sited_from t i os) → Chained (λ s. s.text_at) f t (sited_from t i os)
texts_chained f t i [] same = tt
texts_chained f t i (o ∷ os) same =
    let s : Sited = record { object = o; text_at = t; init_at = i } in
    let rest = sited_from (behind t o.text) (behind i o.init) os in
    (refl, subst (λ a. Chained (λ s. s.text_at) f a rest) (ap (λ n. aligned (t + n)) (sym (All-head (λ s. length (f s) ≡ length s.object.text) s rest same))) (texts_chained f (behind t o.text) (behind i o.init) os (All-tail (λ s. length (f s) ≡ length s.object.text) s rest same)))

pub texts_chain_end : (f : Sited → List ℕ) (t i : ℕ) (os : List Object) → All (λ s. length (f s) ≡ length s.object.text) (sited_from t i os) → chain_end (λ s. s.text_at) f t (sited_from t i os) ≡ behind_texts t os
texts_chain_end f t i [] same = refl
texts_chain_end f t i (o ∷ os) same =
    let s : Sited = record { object = o; text_at = t; init_at = i } in
    let rest = sited_from (behind t o.text) (behind i o.init) os in
    ap (λ n. chain_end (λ s. s.text_at) f (aligned (t + n)) rest) (All-head (λ s. length (f s) ≡ length s.object.text) s rest same) ∙ texts_chain_end f (behind t o.text) (behind i o.init) os (All-tail (λ s. length (f s) ≡ length s.object.text) s rest same)

pub inits_chained : (t i : ℕ) (os : List Object) → Chained (λ s. s.init_at) (λ s. s.object.init) i (sited_from t i os)
inits_chained t i [] = tt
inits_chained t i (o ∷ os) = (refl, inits_chained (behind t o.text) (behind i o.init) os)

pub inits_chain_end : (t i : ℕ) (os : List Object) → chain_end (λ s. s.init_at) (λ s. s.object.init) i (sited_from t i os) ≡ behind_inits i os
inits_chain_end t i [] = refl
inits_chain_end t i (o ∷ os) = inits_chain_end (behind t o.text) (behind i o.init) os
