-- Words of a frame are places of their own.
use Rattle.std.proofs.Common.{◌≡◌, ℕ, zero, suc, ◌+◌, ◌<◌, ◌≤◌, max, false, eqb, [], ◌∷◌, ◌++◌, Option, Some, None, length, slice_get, refl, ap, ◌∙◌, arith}
use Rattle.live.specs.declared.places.Where.{Where}
use Rattle.live.specs.declared.places.Where.TheVariants.{Frame}
use Rattle.live.specs.Apart.{Apart}
use Rattle.live.specs.Clash.{share, shares}
use Rattle.regalloc.specs.Words.{frame_size, words}

pub one_more : (n k : ℕ) → words n k ++ Frame (n + k) ∷ [] ≡ words n (suc k)
one_more n zero = ap (λ m. Frame m ∷ []) (omega arith)
one_more n (suc k) = ap (λ m. Frame n ∷ (words (suc n) k ++ Frame m ∷ [])) (omega arith) ∙ ap (λ ps. Frame n ∷ ps) (one_more (suc n) k)

pub next_word : (k : ℕ) → words 0 k ++ Frame k ∷ [] ≡ words 0 (suc k)
next_word k = ap (λ m. words 0 k ++ Frame m ∷ []) (omega arith) ∙ one_more 0 k

pub as_many : (n k : ℕ) → length (words n k) ≡ k
as_many n zero = refl
as_many n (suc k) = ap suc (as_many (suc n) k)

most : (a b m : ℕ) → a ≤ m → b ≤ m → max a b ≤ m
most a b m p q = omega arith

pub frame_size_of : (n k : ℕ) → frame_size (words n k) ≤ n + k
frame_size_of n zero = omega arith
frame_size_of n (suc k) = let h = frame_size_of (suc n) k in most (suc n) (frame_size (words (suc n) k)) (n + suc k) (omega arith) (omega arith)

pub frame_size_all : (k : ℕ) → frame_size (words 0 k) ≤ k
frame_size_all k = let h = frame_size_of 0 k in omega (arith, h)

-- what stands at a number: that word, or nothing
data At (n : ℕ) (i : ℕ) (p : Option Where) : Type 0 where
  Here : p ≡ Some (Frame (n + i)) → At n i p
  Beyond : p ≡ None → At n i p

at : (n k i : ℕ) → At n i (slice_get (words n k) i)
at n zero i = Beyond refl
at n (suc k) zero = Here (ap (λ m. Some (Frame m)) (omega arith))
at n (suc k) (suc i) = further (at (suc n) k i) where
  further : At (suc n) i (slice_get (words (suc n) k) i) → At n (suc i) (slice_get (words n (suc k)) (suc i))
  further (Here h) = Here (h ∙ ap (λ m. Some (Frame m)) (omega arith))
  further (Beyond h) = Beyond h

differ : (v w : ℕ) → v < w → eqb v w ≡ false
differ v w lt = search (arith, lt)

pub words_apart : (k : ℕ) → Apart (words 0 k)
words_apart k v w lt = of (at 0 k v) (at 0 k w) where
  of : At 0 v (slice_get (words 0 k) v) → At 0 w (slice_get (words 0 k) w) → shares (words 0 k) v w ≡ false
  of (Beyond h) y = ap (λ p. share p (slice_get (words 0 k) w)) h
  of (Here h) (Beyond g) = ap (λ p. share (slice_get (words 0 k) v) p) g ∙ ap (λ p. share p None) h
  of (Here h) (Here g) = ap (λ p. share p (slice_get (words 0 k) w)) h ∙ ap (λ p. share (Some (Frame (0 + v))) p) g ∙ differ (0 + v) (0 + w) (omega arith)
