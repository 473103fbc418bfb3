-- Reading the items of a string, as a loop does.
use Rattle.std.proofs.Common.{◌≡◌, ℕ, suc, ◌+◌, ◌-◌, ◌<◌, ◌≤◌, Bool, true, false, not, List, [], ◌∷◌, ◌++◌, length, drop, Ok, Err, refl, sym, ap, ◌∙◌, append_assoc, arith}
use Rattle.std.specs.Prelude.{◌==◌}
use Rattle.std.proofs.lemmas.Bool.{not-true}
use Rattle.std.proofs.lemmas.List.{append-nil}
use Rattle.c_lex.specs.declared.fault.PieceError.{PieceError}
use Rattle.c_lex.specs.declared.fault.PieceError.TheVariants as errors
use Rattle.c_lex.specs.Classes.{begins_with, is_plain, is_in_string}
use Rattle.c_lex.specs.Reading.{◌>>=◌, Read, Fails, front, back, string_at, literal_item, item_at}
use Rattle.c_lex.proofs.RunLaws.{both, front-cons, front-stop, back-cons, back-stop}

-- what was read before, and what is still read
abbrev pub with_front : List ℕ → Read (List ℕ) → Read (List ℕ)
with_front front read = read >>= λ x. Ok (front ++ x.0, x.1)

regroup : (front : List ℕ) (b : ℕ) (read : Read (List ℕ)) → with_front front (read >>= λ x. Ok (b ∷ x.0, x.1)) ≡ with_front (front ++ b ∷ []) read
regroup front b (Ok x) = ap (λ (bs : List ℕ). Ok (bs, x.1)) (simp append_assoc)
regroup front b (Err f) = refl

pub string_ends : (front : List ℕ) (cut most i : ℕ) (text : List ℕ) (total : Read (List ℕ)) → i < most → begins_with 34 text ≡ true →
    with_front front (string_at cut (most - i) text) ≡ total → total ≡ Ok (front, drop 1 text)
unfolding string_at
string_ends front cut most i text total lt e so_far =
    let k : most - i ≡ suc (most - (i + 1)) = omega arith in
    let one : with_front front (string_at cut (most - i) text) ≡ Ok (front, drop 1 text) = rw (k, e) (ap (λ (bs : List ℕ). Ok (bs, drop 1 text)) (append-nil front)) in
    sym so_far ∙ one

pub string_goes : (front : List ℕ) (cut most i : ℕ) (text : List ℕ) (b : ℕ) (after : List ℕ) (total : Read (List ℕ)) → i < most → begins_with 34 text ≡ false → literal_item cut 34 text ≡ Ok (b, after) →
    with_front front (string_at cut (most - i) text) ≡ total → with_front (front ++ b ∷ []) (string_at cut (most - (i + 1)) after) ≡ total
unfolding string_at
string_goes front cut most i text b after total lt e h so_far =
    let k : most - i ≡ suc (most - (i + 1)) = omega arith in
    let one : with_front front (string_at cut (most - i) text) ≡ with_front (front ++ b ∷ []) (string_at cut (most - (i + 1)) after) = rw (k, e, h) (regroup front b (string_at cut (most - (i + 1)) after)) in
    sym one ∙ so_far

pub string_fails : (e : PieceError) (front : List ℕ) (cut most i : ℕ) (text : List ℕ) (total : Read (List ℕ)) → i < most → begins_with 34 text ≡ false → Fails e (literal_item cut 34 text) →
    with_front front (string_at cut (most - i) text) ≡ total → Fails e total
unfolding string_at
string_fails errors.NoMemory front cut most i text total lt e h so_far = tt
string_fails (errors.At f) front cut most i text total lt e h so_far =
    let k : most - i ≡ suc (most - (i + 1)) = omega arith in
    let one : with_front front (string_at cut (most - i) text) ≡ Err f = rw (k, e, h) refl in
    sym so_far ∙ one

pub string_done : (front : List ℕ) (cut most i : ℕ) (text : List ℕ) (total : Read (List ℕ)) → most ≤ i → with_front front (string_at cut (most - i) text) ≡ total → total ≡ Err (record { code = 1; left = cut })
unfolding string_at
string_done front cut most i text total le so_far =
    let k : most - i ≡ 0 = omega arith in
    let one : with_front front (string_at cut (most - i) text) ≡ Err (record { code = 1; left = cut }) = rw k refl in
    sym so_far ∙ one

-- ---- bytes that stand for themselves

front_nothing : (read : Read (List ℕ)) → with_front [] read ≡ read
front_nothing (Ok x) = refl
front_nothing (Err f) = refl

front_more : (b : ℕ) (front : List ℕ) (read : Read (List ℕ)) → with_front (b ∷ front) read ≡ (with_front front read >>= λ y. Ok (b ∷ y.0, y.1))
front_more b front (Ok x) = refl
front_more b front (Err f) = refl

no_backslash : (b : ℕ) → is_plain b ≡ true → (b == 92) ≡ false
unfolding is_plain
no_backslash b e = not-true (b == 92) (both _ _ e).1

-- such a byte is read as itself
one_plain : (cut n b : ℕ) (r : List ℕ) → is_in_string b ≡ true → string_at cut (suc n) (b ∷ r) ≡ (string_at cut n r >>= λ y. Ok (b ∷ y.0, y.1))
unfolding string_at literal_item item_at is_in_string
one_plain cut n b r e =
    let k = both (is_plain b) (not (b == 34)) e in
    let q : (b == 34) ≡ false = not-true (b == 34) k.1 in
    rw (q, no_backslash b k.0, k.0) refl

pub plain_front : (cut : ℕ) (text : List ℕ) → with_front (front is_in_string text) (string_at cut (length (back is_in_string text) + 1) (back is_in_string text)) ≡ string_at cut (length text + 1) text
plain_front cut [] = front_nothing (string_at cut 1 [])
plain_front cut (b ∷ r) = go (is_in_string b) refl (plain_front cut r)
  where
    go : (c : Bool) → is_in_string b ≡ c →
        with_front (front is_in_string r) (string_at cut (length (back is_in_string r) + 1) (back is_in_string r)) ≡ string_at cut (length r + 1) r →
        with_front (front is_in_string (b ∷ r)) (string_at cut (length (back is_in_string (b ∷ r)) + 1) (back is_in_string (b ∷ r))) ≡ string_at cut (length (b ∷ r) + 1) (b ∷ r)
    go true e ih =
        let k : suc (length r + 1) ≡ length (b ∷ r) + 1 = omega arith in
        rw (front-cons is_in_string b r e, back-cons is_in_string b r e)
        (front_more b (front is_in_string r) (string_at cut (length (back is_in_string r) + 1) (back is_in_string r))
        ∙ ap (λ (z : Read (List ℕ)). z >>= λ y. Ok (b ∷ y.0, y.1)) ih ∙ sym (one_plain cut (length r + 1) b r e) ∙ ap (λ (n : ℕ). string_at cut n (b ∷ r)) k)
    go false e ih = rw (front-stop is_in_string b r e, back-stop is_in_string b r e) (front_nothing (string_at cut (length (b ∷ r) + 1) (b ∷ r)))

-- how the loop begins
pub string_begins : (cut n : ℕ) (plain more body : List ℕ) → plain ≡ front is_in_string body → more ≡ back is_in_string body → n ≡ length more + 1 →
    with_front plain (string_at cut (n - 0) more) ≡ string_at cut (length body + 1) body
string_begins cut n plain more body p m e =
    let k : n - 0 ≡ length (back is_in_string body) + 1 = (let l = ap length m in omega arith) in
    rw (p, k, m) (plain_front cut body)

-- for the tactics
pub ruleset strings = (string_begins)
