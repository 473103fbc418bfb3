-- What is read from the front of a text is its piece or its fault, and each piece and each fault is read.
use Rattle.std.proofs.Common.{◌≡◌, ◌≢◌, ℕ, zero, suc, ◌+◌, ◌<◌, ◌≤◌, Bool, true, false, cond, ◌&&◌, ◌||◌, ltb, eqb, List, [], ◌∷◌, length, Option, Some, None, Ok, refl, sym, ap, subst, arith, add-one, eq-eqb}
use Rattle.std.proofs.lemmas.Bool.{eqb-true, ltb-true, ltb-false}
use Rattle.std.proofs.lemmas.Bool.Decides.{nat_tests}
use Rattle.c_lex.specs.declared.token.Kind.{Kind}
use Rattle.c_lex.specs.declared.token.Kind.TheVariants as kind
use Rattle.c_lex.specs.declared.token.Punct.{Punct}
use Rattle.c_lex.specs.Classes.{is_space, is_blank, is_in_line, is_letter, is_digit, is_name_byte, is_stray, is_no_text}
use Rattle.c_lex.specs.Tokens.{Spelled, mark, Piece, space, line, block, token, begins_comment, Faulty, stray, open_comment}
use Rattle.c_lex.specs.Reading.{◌>>=◌, Read, fault, back, as_token, name_at, number_at, char_at, string_at, hash_at, commented, close_at, one_mark, mark_at, marked, begins_token, token_at, other_at, slash_at, piece_at}
use Rattle.c_lex.proofs.Right.{Right, done, faults, and_so}
use Rattle.c_lex.proofs.RunLaws.{run_is}
use Rattle.c_lex.proofs.NameLaws.{name_right}
use Rattle.c_lex.proofs.NumberLaws.{number_right}
use Rattle.c_lex.proofs.CharLaws.{char_right, string_right}
use Rattle.c_lex.proofs.ClosingLaws.{close_some, close_none}
use Rattle.c_lex.proofs.IncludeLaws.{hash_right}
use Rattle.c_lex.proofs.MarkLaws.{MarkRead, a_mark, no_mark, mark_right, one_begins}

-- ---- bytes that begin nothing

abbrev all_below : (ℕ → Bool) → ℕ → Bool
all_below p zero = true
all_below p (suc n) = p n && all_below p n

both : (a b : Bool) → (a && b) ≡ true → (a ≡ true) × (b ≡ true)
both true b e = (refl, e)
both false b e = absurd cc

holds_below : (p : ℕ → Bool) (n : ℕ) → all_below p n ≡ true → (k : ℕ) → k < n → p k ≡ true
holds_below p zero e k lt = absurd (omega arith)
holds_below p (suc n) e k lt = go (λ l. holds_below p n (both (p n) (all_below p n) e).1 k l) (eqb k n) refl
  where
    go : (k < n → p k ≡ true) → (c : Bool) → eqb k n ≡ c → p k ≡ true
    go ih true h = rw (eqb-true k n h) (both (p n) (all_below p n) e).0
    go ih false h = ih (let ne : k ≢ n = λ q. absurd (let t : eqb k n ≡ true = rw q (eq-eqb n n refl) in cc) in omega arith)

abbrev has_mark : Option Punct → Bool
has_mark (Some m) = true
has_mark None = false

abbrev is_known : ℕ → Bool
is_known b = is_space b || begins_token b || is_stray b || has_mark (one_mark b)

all_known : all_below is_known 127 ≡ true
unfolding is_space is_blank is_stray is_no_text begins_token is_name_byte is_letter is_digit
all_known = refl

above_text : (b : ℕ) → 127 ≤ b → is_stray b ≡ true
unfolding is_stray is_no_text
above_text b h = grind (arith, nat_tests)

stray_left : (b : ℕ) → is_known b ≡ true → is_space b ≡ false → begins_token b ≡ false → ((m : Punct) → one_mark b ≡ Some m → ⊥) → is_stray b ≡ true
stray_left b k s t h = go (is_space b) (begins_token b) (is_stray b) (one_mark b) refl s t h k
  where
    go : (x y z : Bool) (o : Option Punct) → is_stray b ≡ z → x ≡ false → y ≡ false → ((m : Punct) → o ≡ Some m → ⊥) → (x || y || z || has_mark o) ≡ true → is_stray b ≡ true
    go false false true o e p q f r = e
    go false false false (Some m) e p q f r = absurd (f m refl)
    go false false false None e p q f r = absurd cc
    go true y z o e p q f r = absurd cc
    go false true z o e p q f r = absurd cc

no_class : (b : ℕ) → is_space b ≡ false → begins_token b ≡ false → ((m : Punct) → one_mark b ≡ Some m → ⊥) → is_stray b ≡ true
no_class b s t h = go (ltb b 127) refl
  where
    go : (c : Bool) → ltb b 127 ≡ c → is_stray b ≡ true
    go true e = stray_left b (holds_below is_known 127 all_known b (ltb-true b 127 e)) s t h
    go false e = above_text b (ltb-false b 127 e)

-- ---- what is read

as_token_right : {fresh : Bool} {text : List ℕ} {read : Read Kind} → Right (Spelled fresh text) (Faulty fresh text) read → Right (Piece fresh text) (Faulty fresh text) (as_token read)
as_token_right h = and_so (λ x. Ok (Some x.0, x.1)) h (λ code left f. f) (λ k rest s. done (token s))

other_right : (fresh : Bool) (b : ℕ) (r : List ℕ) → is_space b ≡ false → begins_token b ≡ false → begins_comment (b ∷ r) ≡ false → Right (Piece fresh (b ∷ r)) (Faulty fresh (b ∷ r)) (other_at (b ∷ r))
unfolding other_at
other_right fresh b r s t c = as_token_right (go (mark_at (b ∷ r)) (mark_right (b ∷ r)))
  where
    go : (o : Option (Punct × List ℕ)) → MarkRead (b ∷ r) o → Right (Spelled fresh (b ∷ r)) (Faulty fresh (b ∷ r)) (marked (b ∷ r) o)
    go o (a_mark l) = done (mark l.parts l.longest c)
    go o (no_mark h) = faults (fault 1 (b ∷ r)) (stray refl (no_class b s t (λ m e. h m r (one_begins b r m e))))

slash_no : is_space 47 ≡ false
unfolding is_space is_blank
slash_no = refl

slash_no_token : begins_token 47 ≡ false
unfolding begins_token is_name_byte is_letter is_digit
slash_no_token = refl

slash_right : (fresh : Bool) (body : List ℕ) → Right (Piece fresh (47 ∷ body)) (Faulty fresh (47 ∷ body)) (slash_at (47 ∷ body) body)
unfolding slash_at
slash_right fresh [] = other_right fresh 47 [] slash_no slash_no_token refl
slash_right fresh (b ∷ r) = go (eqb b 47) (eqb b 42) refl refl
  where
    closed : eqb b 42 ≡ true → (o : Option (List ℕ)) → close_at r ≡ o → Right (Piece fresh (47 ∷ b ∷ r)) (Faulty fresh (47 ∷ b ∷ r)) (commented (47 ∷ b ∷ r) o)
    closed q (Some rest) e = let c = close_some r rest e in done (block (ap (λ (x : ℕ). 47 ∷ x ∷ r) (eqb-true b 42 q)) c.1)
    closed q None e = faults (fault 3 (47 ∷ b ∷ r)) (open_comment (ap (λ (x : ℕ). 47 ∷ x ∷ r) (eqb-true b 42 q)) (close_none r e))

    go : (x y : Bool) → eqb b 47 ≡ x → eqb b 42 ≡ y → Right (Piece fresh (47 ∷ b ∷ r)) (Faulty fresh (47 ∷ b ∷ r)) (cond x (Ok (None, back is_in_line r)) (cond y (commented (47 ∷ b ∷ r) (close_at r)) (other_at (47 ∷ b ∷ r))))
    go true y p q = done (line (ap (λ (x : ℕ). 47 ∷ x ∷ r) (eqb-true b 47 p)) (run_is is_in_line r))
    go false true p q = closed q (close_at r) refl
    go false false p q = other_right fresh 47 (b ∷ r) slash_no slash_no_token (rw (p, q) refl)

is_hash : (b : ℕ) → begins_token b ≡ true → is_letter b ≡ false → is_digit b ≡ false → eqb b 39 ≡ false → eqb b 34 ≡ false → b ≡ 35
unfolding begins_token is_name_byte
is_hash b h l d p q = eqb-true b 35 (go (is_letter b) (is_digit b) (eqb b 39) (eqb b 34) l d p q h)
  where
    go : (x y z w : Bool) → x ≡ false → y ≡ false → z ≡ false → w ≡ false → ((x || y) || z || w || eqb b 35) ≡ true → eqb b 35 ≡ true
    go false false false false e f g h k = k
    go true y z w e f g h k = absurd cc
    go false true z w e f g h k = absurd cc
    go false false true w e f g h k = absurd cc
    go false false false true e f g h k = absurd cc

token_right : (fresh : Bool) (b : ℕ) (r : List ℕ) → begins_token b ≡ true → Right (Spelled fresh (b ∷ r)) (Faulty fresh (b ∷ r)) (token_at fresh (b ∷ r) b r)
unfolding token_at
token_right fresh b r h = go (is_letter b) (is_digit b) (eqb b 39) (eqb b 34) refl refl refl refl
  where
    more : suc (length r) ≡ length r + 1
    more = sym (add-one (length r))

    go : (x y z w : Bool) → is_letter b ≡ x → is_digit b ≡ y → eqb b 39 ≡ z → eqb b 34 ≡ w → Right (Spelled fresh (b ∷ r)) (Faulty fresh (b ∷ r))
        (cond x (name_at (b ∷ r)) (cond y (number_at (b ∷ r)) (cond z (char_at (length r + 1) r) (cond w (string_at (length r + 1) (length r + 1) r >>= λ x. Ok (kind.Str x.0, x.1)) (hash_at fresh (b ∷ r) r)))))
    go true y z w p q s t = name_right fresh (b ∷ r) p
    go false true z w p q s t = number_right fresh (b ∷ r) q
    go false false true w p q s t = subst (λ (n : ℕ). Right (Spelled fresh (b ∷ r)) (Faulty fresh (b ∷ r)) (char_at n r)) more (char_right fresh (b ∷ r) r (ap (λ (x : ℕ). x ∷ r) (eqb-true b 39 s)))
    go false false false true p q s t = subst (λ (n : ℕ). Right (Spelled fresh (b ∷ r)) (Faulty fresh (b ∷ r)) (string_at n (length r + 1) r >>= λ x. Ok (kind.Str x.0, x.1))) more
        (string_right fresh (b ∷ r) r (ap (λ (x : ℕ). x ∷ r) (eqb-true b 34 t)) (length r + 1) (omega arith))
    go false false false false p q s t = hash_right fresh (b ∷ r) r (ap (λ (x : ℕ). x ∷ r) (is_hash b h p q s t))

not_slash : (b : ℕ) (r : List ℕ) → eqb b 47 ≡ false → begins_comment (b ∷ r) ≡ false
not_slash b [] h = refl
not_slash b (c ∷ r) h = rw h refl

pub piece_right : (fresh : Bool) (b : ℕ) (r : List ℕ) → Right (Piece fresh (b ∷ r)) (Faulty fresh (b ∷ r)) (piece_at fresh (b ∷ r))
unfolding piece_at
piece_right fresh b r = go (is_space b) (begins_token b) (eqb b 47) refl refl refl
  where
    no_comment : eqb b 47 ≡ false → begins_comment (b ∷ r) ≡ false
    no_comment h = not_slash b r h

    go : (x y z : Bool) → is_space b ≡ x → begins_token b ≡ y → eqb b 47 ≡ z → Right (Piece fresh (b ∷ r)) (Faulty fresh (b ∷ r))
        (cond x (Ok (None, r)) (cond y (as_token (token_at fresh (b ∷ r) b r)) (cond z (slash_at (b ∷ r) r) (other_at (b ∷ r)))))
    go true y z p q s = done (space refl p)
    go false true z p q s = as_token_right (token_right fresh b r q)
    go false false true p q s = subst (λ (x : ℕ). Right (Piece fresh (x ∷ r)) (Faulty fresh (x ∷ r)) (slash_at (x ∷ r) r)) (sym (eqb-true b 47 s)) (slash_right fresh r)
    go false false false p q s = other_right fresh b r p q (no_comment s)
