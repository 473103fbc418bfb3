-- Where texts are cut.
use Rattle.std.proofs.Common.{◌≡◌, ℕ, suc, ◌+◌, ◌<◌, ◌≤◌, ◌==◌, Bool, true, false, not, cond, nat_lt, List, [], ◌∷◌, length, take, drop, Option, Some, None, refl, sym, ap, ◌∙◌, arith}
use Rattle.std.specs.Option.{option_map}
use Rattle.std.proofs.lemmas.Bool.Decides.{nat_tests}
use Rattle.std.proofs.lemmas.List.{take_all, drop_all}
use Rattle.std.specs.List.{slice_split, onto_first, position_or_len, prefix_len, position}
use Rattle.std.proofs.lemmas.List.Splits.{slice_split_first, length-slice_split}
use Rattle.ns_script.specs.Text.{before, behind, without_return, lines, lines_of_pieces, words, words_left}

-- the byte is this
abbrev is_at : ℕ → ℕ → Bool
is_at c b = b == c

within_step : (b : Bool) (m n : ℕ) → m ≤ n → cond b (1 + m) 0 ≤ suc n
within_step true m n h = omega arith
within_step false m n h = omega arith

prefix_within : (p : ℕ → Bool) (xs : List ℕ) → prefix_len p xs ≤ length xs
prefix_within p [] = omega arith
prefix_within p (x ∷ xs) = within_step (p x) (prefix_len p xs) (length xs) (prefix_within p xs)

at_some : (b : Bool) (n i : ℕ) → cond b (Some n) None ≡ Some i → (b ≡ true) × (n ≡ i)
at_some true n i h = (refl, cc)
at_some false n i h = cc

at_none : (b : Bool) (n : ℕ) → cond b (Some n) None ≡ None → b ≡ false
at_none true n h = cc
at_none false n h = refl

ltb_yes : (m n : ℕ) → nat_lt m n ≡ true → m < n
ltb_yes m n h = grind (arith, nat_tests)

ltb_no : (m n : ℕ) → nat_lt m n ≡ false → n ≤ m
ltb_no m n h = grind (arith, nat_tests)

pub found_front : (c : ℕ) (text : List ℕ) (i : ℕ) → position (λ b. b == c) text ≡ Some i → take i text ≡ before c text
unfolding before
found_front c text i h = ap (λ n. take n text) (sym (at_some _ _ _ h).1)

pub found_back : (c : ℕ) (text : List ℕ) (i : ℕ) → position (λ b. b == c) text ≡ Some i → Some (drop (i + 1) text) ≡ behind c text
unfolding behind
found_back c text i h = sym (ap (option_map (λ n. drop (n + 1) text)) h)

pub found_within : (c : ℕ) (text : List ℕ) (i : ℕ) → position (λ b. b == c) text ≡ Some i → i < length text
found_within c text i h = let e = at_some _ _ _ h in let w = ltb_yes _ _ e.0 in omega arith

pub missed_front : (c : ℕ) (text : List ℕ) → position (λ b. b == c) text ≡ None → text ≡ before c text
unfolding before
missed_front c text h = sym (take_all (position_or_len (is_at c) text) text (ltb_no _ _ (at_none _ _ h)))

pub missed_back : (c : ℕ) (text : List ℕ) → position (λ b. b == c) text ≡ None → None ≡ behind c text
unfolding behind
missed_back c text h = sym (ap (option_map (λ n. drop (n + 1) text)) h)

pub ruleset cuts = (found_front, found_back, found_within, missed_front, missed_back)

split_step : (b : Bool) (x : ℕ) (xs : List ℕ) (n : ℕ) (rest : List (List ℕ)) → suc (length xs) ≤ cond (not b) (1 + n) 0 → (length xs ≤ n → rest ≡ xs ∷ []) → cond b ([] ∷ rest) (onto_first x rest) ≡ (x ∷ xs) ∷ []
split_step true x xs n rest h k = absurd (omega arith)
split_step false x xs n rest h k = ap (onto_first x) (k (omega arith))

split_none : (p : ℕ → Bool) (xs : List ℕ) → length xs ≤ position_or_len p xs → slice_split p xs ≡ xs ∷ []
split_none p [] h = refl
split_none p (x ∷ xs) h = split_step (p x) x xs (position_or_len p xs) (slice_split p xs) h (split_none p xs)

mapped_some : (o : Option ℕ) (text rest : List ℕ) → option_map (λ n. drop (n + 1) text) o ≡ Some rest → (i : ℕ) × (o ≡ Some i) × (drop (i + 1) text ≡ rest)
mapped_some None text rest h = cc
mapped_some (Some i) text rest h = (i, refl, cc)

mapped_none : (o : Option ℕ) (text : List ℕ) → option_map (λ n. drop (n + 1) text) o ≡ None → o ≡ None
mapped_none None text h = refl
mapped_none (Some i) text h = cc

pub split_behind : (c : ℕ) (text rest : List ℕ) → behind c text ≡ Some rest → slice_split (λ b. b == c) text ≡ before c text ∷ slice_split (λ b. b == c) rest
unfolding before behind
split_behind c text rest h =
    let m = mapped_some (position (is_at c) text) text rest h in
    let e = at_some _ _ _ m.1 in
    slice_split_first (is_at c) text 0 (ltb_yes _ _ e.0) ∙ ap (λ r. take (position_or_len (is_at c) text) text ∷ slice_split (is_at c) r) (ap (λ n. drop (n + 1) text) e.1 ∙ m.2)

pub split_alone : (c : ℕ) (text : List ℕ) → behind c text ≡ None → slice_split (λ b. b == c) text ≡ text ∷ []
unfolding behind
split_alone c text h = split_none (is_at c) text (ltb_no _ _ (at_none _ _ (mapped_none (position (is_at c) text) text h)))

pieces_more : (piece : List ℕ) (more : List (List ℕ)) → 0 < length more → lines_of_pieces (piece ∷ more) ≡ without_return piece ∷ lines_of_pieces more
pieces_more piece [] h = absurd (omega arith)
pieces_more piece (next ∷ more) h = refl

pub lines_more : (text rest : List ℕ) → behind 10 text ≡ Some rest → lines text ≡ without_return (before 10 text) ∷ lines rest
unfolding lines
lines_more text rest h = ap lines_of_pieces (split_behind 10 text rest h) ∙ pieces_more (before 10 text) (slice_split (is_at 10) rest) (omega (arith, length-slice_split (is_at 10) rest))

lines_one : (text : List ℕ) → 0 < length text → lines_of_pieces (text ∷ []) ≡ text ∷ []
lines_one [] h = absurd (omega arith)
lines_one (x ∷ xs) h = refl

lines_last0 : (text rest : List ℕ) → behind 10 text ≡ None → 0 < length text → rest ≡ [] → lines text ≡ text ∷ lines rest
unfolding lines
lines_last0 text rest h full e = ap lines_of_pieces (split_alone 10 text h) ∙ lines_one text full ∙ ap (λ r. text ∷ lines_of_pieces (slice_split (is_at 10) r)) (sym e)

pub lines_last : (text : List ℕ) → behind 10 text ≡ None → 0 < length text → lines text ≡ take (length text) text ∷ lines (drop (length text) text)
lines_last text h full =
    lines_last0 text (drop (length text) text) h full (drop_all (length text) text (omega arith))
    ∙ ap (λ r. r ∷ lines (drop (length text) text)) (sym (take_all (length text) text (omega arith)))

pub words_more : (text rest : List ℕ) → behind 32 text ≡ Some rest → words text ≡ before 32 text ∷ words rest
unfolding words
words_more text rest h = split_behind 32 text rest h

pub words_alone : (text : List ℕ) → behind 32 text ≡ None → words text ≡ before 32 text ∷ []
unfolding words before behind
words_alone text h =
    split_alone 32 text h ∙ ap (λ r. r ∷ []) (missed_front 32 text (mapped_none (position (is_at 32) text) text h))

pub words_front : (text : List ℕ) (o : Option (List ℕ)) → behind 32 text ≡ o → words text ≡ before 32 text ∷ words_left o
words_front text None h = words_alone text h
words_front text (Some rest) h = words_more text rest h

pub ruleset splits = (lines_more, lines_last, words_front)
