-- Each piece and each fault is read.
use Rattle.std.proofs.Common.{◌≡◌, ℕ, ◌+◌, Bool, true, false, cond, ◌&&◌, ◌||◌, eqb, List, [], ◌∷◌, ◌++◌, length, drop, Option, Some, None, Ok, Err, refl, sym, ap, subst, ◌∙◌, arith, add-one}
use Rattle.std.proofs.lemmas.Bool.{eqb-true}
use Rattle.std.proofs.lemmas.Bool.Decides.{nat_tests}
use Rattle.c_lex.specs.declared.fault.Fault.{Fault}
use Rattle.c_lex.specs.declared.token.Kind.{Kind}
use Rattle.c_lex.specs.declared.token.Kind.TheVariants as kind
use Rattle.c_lex.specs.declared.token.Punct.{Punct}
use Rattle.c_lex.specs.Classes.{is_hex, is_space, is_blank, is_in_line, is_letter, is_digit, is_name_byte, is_stray, is_no_text, begins, begins_with, Run}
use Rattle.c_lex.specs.Spelling.{begins_hex, Digits, hex, octal, decimal, Items}
use Rattle.c_lex.specs.Tokens.{
  Include,
  Spelled,
  name,
  word,
  number,
  char,
  str,
  mark,
  include,
  Piece,
  space,
  line,
  block,
  token,
  Closes,
  begins_comment,
  Faulty,
  stray,
  long_name,
  left_out,
  large,
  long_long,
  point,
  tail,
  char_bad,
  char_second,
  char_cut,
  char_open,
  str_bad,
  str_cut,
  hash,
  open_comment,
}
use Rattle.c_lex.specs.Reading.{◌>>=◌, Read, fault, back, as_token, name_at, number_at, char_at, string_at, hash_at, commented, close_at, mark_at, marked, begins_token, token_at, other_at, slash_at, piece_at}
use Rattle.c_lex.proofs.RunLaws.{run_back}
use Rattle.c_lex.proofs.NameLaws.{read_word, read_name, read_left_out, read_long_name}
use Rattle.c_lex.proofs.NumberLaws.{read_number, read_tail, read_large, read_long_long, read_point}
use Rattle.c_lex.proofs.LiteralLaws.{string_again, string_cut_again, string_bad_again}
use Rattle.c_lex.proofs.CharLaws.{read_char, read_char_bad, read_char_second, read_char_cut, read_char_open}
use Rattle.c_lex.proofs.ClosingLaws.{close_again, close_open}
use Rattle.c_lex.proofs.IncludeLaws.{read_include, read_hash}
use Rattle.c_lex.proofs.MarkLaws.{Longest, MarkRead, a_mark, no_mark, mark_right, mark_again, begins_mark, no_empty_mark}

letter_no_space : (b : ℕ) → is_letter b ≡ true → is_space b ≡ false
unfolding is_letter is_space is_blank
letter_no_space b h = grind (arith, nat_tests)

digit_no_space : (b : ℕ) → is_digit b ≡ true → is_space b ≡ false
unfolding is_digit is_space is_blank
digit_no_space b h = grind (arith, nat_tests)

digit_no_letter : (b : ℕ) → is_digit b ≡ true → is_letter b ≡ false
unfolding is_digit is_letter
digit_no_letter b h = grind (arith, nat_tests)

letter_token : (b : ℕ) → is_letter b ≡ true → begins_token b ≡ true
unfolding begins_token is_name_byte
letter_token b h = rw h refl

digit_token : (b : ℕ) → is_digit b ≡ true → begins_token b ≡ true
unfolding begins_token is_name_byte
digit_token b h = rw (digit_no_letter b h, h) refl

at_space : (fresh : Bool) (b : ℕ) (r : List ℕ) → is_space b ≡ true → piece_at fresh (b ∷ r) ≡ Ok (None, r)
unfolding piece_at
at_space fresh b r h = rw h refl

at_token : (fresh : Bool) (b : ℕ) (r : List ℕ) → is_space b ≡ false → begins_token b ≡ true → piece_at fresh (b ∷ r) ≡ as_token (token_at fresh (b ∷ r) b r)
unfolding piece_at
at_token fresh b r h k = rw (h, k) refl

at_mark : (fresh : Bool) (b : ℕ) (r : List ℕ) → is_space b ≡ false → begins_token b ≡ false → eqb b 47 ≡ false → piece_at fresh (b ∷ r) ≡ other_at (b ∷ r)
unfolding piece_at
at_mark fresh b r h k e = rw (h, k, e) refl

at_slash : (fresh : Bool) (r : List ℕ) → piece_at fresh (47 ∷ r) ≡ slash_at (47 ∷ r) r
unfolding piece_at is_space is_blank begins_token is_name_byte is_letter is_digit
at_slash fresh r = refl

at_letter : (fresh : Bool) (text : List ℕ) → begins is_letter text ≡ true → piece_at fresh text ≡ as_token (name_at text)
unfolding token_at
at_letter fresh [] h = absurd cc
at_letter fresh (b ∷ r) h = at_token fresh b r (letter_no_space b h) (letter_token b h) ∙ rw h refl

at_digit : (fresh : Bool) (text : List ℕ) → begins is_digit text ≡ true → piece_at fresh text ≡ as_token (number_at text)
unfolding token_at
at_digit fresh [] h = absurd cc
at_digit fresh (b ∷ r) h = at_token fresh b r (digit_no_space b h) (digit_token b h) ∙ rw (digit_no_letter b h, h) refl

at_char : (fresh : Bool) (r : List ℕ) → piece_at fresh (39 ∷ r) ≡ as_token (char_at (length r + 1) r)
unfolding piece_at token_at is_space is_blank begins_token is_name_byte is_letter is_digit
at_char fresh r = refl

at_string : (fresh : Bool) (r : List ℕ) → piece_at fresh (34 ∷ r) ≡ as_token (string_at (length r + 1) (length r + 1) r >>= λ x. Ok (kind.Str x.0, x.1))
unfolding piece_at token_at is_space is_blank begins_token is_name_byte is_letter is_digit
at_string fresh r = refl

at_hash : (fresh : Bool) (r : List ℕ) → piece_at fresh (35 ∷ r) ≡ as_token (hash_at fresh (35 ∷ r) r)
unfolding piece_at token_at is_space is_blank begins_token is_name_byte is_letter is_digit
at_hash fresh r = refl

pub begun : (p : ℕ → Bool) (b : ℕ) (text : List ℕ) → p b ≡ true → begins_with b text ≡ true → begins p text ≡ true
begun p b [] h e = absurd cc
begun p b (c ∷ r) h e = ap p (eqb-true c b e) ∙ h

pub zero_digit : is_digit 48 ≡ true
unfolding is_digit
zero_digit = refl

pub hex_zero : (text : List ℕ) → begins_hex text ≡ true → begins_with 48 text ≡ true
hex_zero [] e = absurd cc
hex_zero (a ∷ []) e = absurd cc
hex_zero (a ∷ x ∷ []) e = absurd cc
hex_zero (a ∷ x ∷ h ∷ r) e = go (eqb a 48) e
  where
    go : (c : Bool) → (c && eqb x 120 && is_hex h) ≡ true → c ≡ true
    go true k = refl
    go false k = absurd cc

pub digits_begin : {text : List ℕ} {base : ℕ} {ds more : List ℕ} → Digits text base ds more → begins is_digit text ≡ true
digits_begin {text = text} (hex e r) = begun is_digit 48 text zero_digit (hex_zero text e)
digits_begin {text = text} (octal e f r) = begun is_digit 48 text zero_digit f
digits_begin (decimal f h r) = h

then_token : {x : Read (Option Kind)} {read : Read Kind} {k : Kind} {rest : List ℕ} → x ≡ as_token read → read ≡ Ok (k, rest) → x ≡ Ok (Some k, rest)
then_token e f = e ∙ ap (λ r. as_token r) f

then_fault : {x : Read (Option Kind)} {read : Read Kind} {f : Fault} → x ≡ as_token read → read ≡ Err f → x ≡ Err f
then_fault e f = e ∙ ap (λ r. as_token r) f

-- ---- marks

slash_mark : (body : List ℕ) → begins_comment (47 ∷ body) ≡ false → slash_at (47 ∷ body) body ≡ other_at (47 ∷ body)
unfolding slash_at
slash_mark [] h = refl
slash_mark (b ∷ r) h = go (eqb b 47) (eqb b 42) h
  where
    go : (x y : Bool) → (x || y) ≡ false → cond x (Ok (None, back is_in_line r)) (cond y (commented (47 ∷ b ∷ r) (close_at r)) (other_at (47 ∷ b ∷ r))) ≡ other_at (47 ∷ b ∷ r)
    go true y k = absurd cc
    go false true k = absurd cc
    go false false k = refl

at_other : (fresh : Bool) (b : ℕ) (r : List ℕ) → is_space b ≡ false → begins_token b ≡ false → begins_comment (b ∷ r) ≡ false → piece_at fresh (b ∷ r) ≡ as_token (marked (b ∷ r) (mark_at (b ∷ r)))
unfolding other_at
at_other fresh b r s t c = go (eqb b 47) refl
  where
    go : (x : Bool) → eqb b 47 ≡ x → piece_at fresh (b ∷ r) ≡ as_token (marked (b ∷ r) (mark_at (b ∷ r)))
    go false e = at_mark fresh b r s t e
    go true e = let q = eqb-true b 47 e in
        subst (λ (z : ℕ). piece_at fresh (z ∷ r) ≡ as_token (marked (z ∷ r) (mark_at (z ∷ r)))) (sym q) (at_slash fresh r ∙ slash_mark r (subst (λ (z : ℕ). begins_comment (z ∷ r) ≡ false) q c))

read_mark : (fresh : Bool) (text : List ℕ) (m : Punct) (rest : List ℕ) → Longest text m rest → begins_comment text ≡ false → piece_at fresh text ≡ Ok (Some (kind.Mark m), rest)
read_mark fresh [] m rest l c = absurd (no_empty_mark m rest l.parts)
read_mark fresh (b ∷ r) m rest l c =
    let k = begins_mark b r m rest l.parts in
    then_token (at_other fresh b r k.no_space k.no_token c) (ap (marked (b ∷ r)) (mark_again (b ∷ r) m rest l))

stray_no_space : (b : ℕ) → is_stray b ≡ true → is_space b ≡ false
unfolding is_stray is_no_text is_space is_blank
stray_no_space b h = grind (arith, nat_tests)

stray_no_token : (b : ℕ) → is_stray b ≡ true → begins_token b ≡ false
unfolding is_stray is_no_text begins_token is_name_byte is_letter is_digit
stray_no_token b h = grind (arith, nat_tests)

stray_no_slash : (b : ℕ) → is_stray b ≡ true → eqb b 47 ≡ false
unfolding is_stray is_no_text
stray_no_slash b h = grind (arith, nat_tests)

stray_no_mark : (b : ℕ) (r : List ℕ) → is_stray b ≡ true → mark_at (b ∷ r) ≡ None
stray_no_mark b r h = go (mark_at (b ∷ r)) (mark_right (b ∷ r))
  where
    go : (o : Option (Punct × List ℕ)) → MarkRead (b ∷ r) o → o ≡ None
    go o (a_mark {m = m} {rest = rest} l) = let k = begins_mark b r m rest l.parts in absurd (let q = k.no_stray in cc)
    go o (no_mark h) = refl

read_stray : (fresh : Bool) (b : ℕ) (r : List ℕ) → is_stray b ≡ true → piece_at fresh (b ∷ r) ≡ Err (fault 1 (b ∷ r))
unfolding other_at
read_stray fresh b r h = at_mark fresh b r (stray_no_space b h) (stray_no_token b h) (stray_no_slash b h) ∙ ap (λ o. as_token (marked (b ∷ r) o)) (stray_no_mark b r h)

-- ---- pieces

read_line : (fresh : Bool) (x rest body : List ℕ) → Run is_in_line x rest body → piece_at fresh (47 ∷ 47 ∷ body) ≡ Ok (None, rest)
unfolding slash_at
read_line fresh x rest body r = at_slash fresh (47 ∷ body) ∙ ap (λ (t : List ℕ). Ok (None, t)) (run_back r)

read_block : (fresh : Bool) (x rest body : List ℕ) → Closes x rest body → piece_at fresh (47 ∷ 42 ∷ body) ≡ Ok (None, rest)
unfolding slash_at
read_block fresh x rest body c = at_slash fresh (42 ∷ body) ∙ ap (commented (47 ∷ 42 ∷ body)) (close_again x rest body c)

read_open : (fresh : Bool) (body : List ℕ) → ((x r : List ℕ) → body ≡ x ++ (42 ∷ 47 ∷ r) → ⊥) → piece_at fresh (47 ∷ 42 ∷ body) ≡ Err (fault 3 (47 ∷ 42 ∷ body))
unfolding slash_at
read_open fresh body h = at_slash fresh (42 ∷ body) ∙ ap (commented (47 ∷ 42 ∷ body)) (close_open body h)

read_str : (fresh : Bool) (vs rest body : List ℕ) → Items 34 body vs (34 ∷ rest) → piece_at fresh (34 ∷ body) ≡ Ok (Some (kind.Str vs), rest)
read_str fresh vs rest body h = at_string fresh body ∙ ap (λ r. as_token (r >>= λ x. Ok (kind.Str x.0, x.1))) (string_again (length body + 1) (length body + 1) body vs rest (omega arith) h)

behind_hash : (text : List ℕ) {r : List ℕ} → text ≡ 35 ∷ r → text ≡ 35 ∷ drop 1 text
behind_hash [] e = absurd cc
behind_hash (b ∷ t) e = cc

read_spelled : {fresh : Bool} {text : List ℕ} {k : Kind} {rest : List ℕ} → Spelled fresh text k rest → piece_at fresh text ≡ Ok (Some k, rest)
read_spelled {fresh = fresh} {text = text} (name {s = s} {rest = rest} h r n l) = then_token (at_letter fresh text h) (read_name text s rest r n l)
read_spelled {fresh = fresh} {text = text} (word {s = s} {rest = rest} {w = w} h r e) = then_token (at_letter fresh text h) (read_word text s rest w r e)
read_spelled {fresh = fresh} {text = text} (number {rest = rest} {says = says} suffix d lt a b e f h) = then_token (at_digit fresh text (digits_begin d)) (read_number suffix rest says d lt a b e f h)
read_spelled {fresh = fresh} {text = text} (char {v = v} {rest = rest} {body = body} e i) = subst (λ (t : List ℕ). piece_at fresh t ≡ Ok (Some (kind.Char v), rest)) (sym e) (then_token (at_char fresh body) (read_char (length body + 1) v body rest i))
read_spelled {fresh = fresh} {text = text} (str {vs = vs} {rest = rest} {body = body} e i) = subst (λ (t : List ℕ). piece_at fresh t ≡ Ok (Some (kind.Str vs), rest)) (sym e) (read_str fresh vs rest body i)
read_spelled {fresh = fresh} {text = text} (mark {m = m} {rest = rest} e l c) = read_mark fresh text m rest (record { parts = e; longest = l }) c
read_spelled {fresh = fresh} {text = text} (include {h = h} {rest = rest} f i) =
    let e : text ≡ 35 ∷ drop 1 text = behind_hash text i.parts in
    let k : Include (35 ∷ drop 1 text) h rest = subst (λ (t : List ℕ). Include t h rest) e i in
    subst (λ (b : Bool). piece_at b text ≡ Ok (Some (kind.Include h), rest)) (sym f)
    (subst (λ (t : List ℕ). piece_at true t ≡ Ok (Some (kind.Include h), rest)) (sym e) (then_token (at_hash true (drop 1 text)) (read_include (35 ∷ drop 1 text) (drop 1 text) h rest refl k)))

pub read_piece : {fresh : Bool} {text : List ℕ} {k : Option Kind} {rest : List ℕ} → Piece fresh text k rest → piece_at fresh text ≡ Ok (k, rest)
read_piece {fresh = fresh} {text = text} (space {b = b} {rest = rest} e h) = subst (λ (t : List ℕ). piece_at fresh t ≡ Ok (None, rest)) (sym e) (at_space fresh b rest h)
read_piece {fresh = fresh} {text = text} (line {x = x} {rest = rest} {body = body} e r) = subst (λ (t : List ℕ). piece_at fresh t ≡ Ok (None, rest)) (sym e) (read_line fresh x rest body r)
read_piece {fresh = fresh} {text = text} (block {x = x} {rest = rest} {body = body} e c) = subst (λ (t : List ℕ). piece_at fresh t ≡ Ok (None, rest)) (sym e) (read_block fresh x rest body c)
read_piece (token s) = read_spelled s

-- ---- faults

abbrev FailsAt : Bool → List ℕ → ℕ → ℕ → Type 0
FailsAt fresh t code n = piece_at fresh t ≡ Err (record { code = code; left = n })

cut_length : (b : ℕ) (body : List ℕ) → length body + 1 ≡ length (b ∷ body)
cut_length b body = add-one (length body)

pub read_fault : {fresh : Bool} {text : List ℕ} {code left : ℕ} → Faulty fresh text code left → piece_at fresh text ≡ Err (record { code = code; left = left })
read_fault {fresh = fresh} {text = text} (stray {b = b} {rest = rest} e h) = subst (λ (t : List ℕ). piece_at fresh t ≡ Err (fault 1 t)) (sym e) (read_stray fresh b rest h)
read_fault {fresh = fresh} {text = text} (long_name {s = s} {rest = rest} h r n l) = then_fault (at_letter fresh text h) (read_long_name text s rest r n l)
read_fault {fresh = fresh} {text = text} (left_out {s = s} {rest = rest} w h r e) = then_fault (at_letter fresh text h) (read_left_out text s rest w r e)
read_fault {fresh = fresh} {text = text} (large d h) = then_fault (at_digit fresh text (digits_begin d)) (read_large d h)
read_fault {fresh = fresh} {text = text} (long_long d lt h) = then_fault (at_digit fresh text (digits_begin d)) (read_long_long d lt h)
read_fault {fresh = fresh} {text = text} (point d lt h) = then_fault (at_digit fresh text (digits_begin d)) (read_point d lt h)
read_fault {fresh = fresh} {text = text} (tail {says = says} suffix b rest d lt p q e f n h) = then_fault (at_digit fresh text (digits_begin d)) (read_tail suffix b rest says d lt p q e f n h)
read_fault {fresh = fresh} {text = text} (char_bad at e n w) = subst (λ (t : List ℕ). FailsAt fresh t 1 (length at)) (sym e) (then_fault (at_char fresh at) (read_char_bad (length at + 1) at (record { none = n; whole = w })))
read_fault {fresh = fresh} {text = text} (char_second {v = v} {body = body} b rest e i h) = subst (λ (t : List ℕ). FailsAt fresh t 1 (length (b ∷ rest))) (sym e) (then_fault (at_char fresh body) (read_char_second (length body + 1) v b body rest i h))
read_fault {fresh = fresh} {text = text} (char_cut {body = body} e c) = subst (λ (t : List ℕ). FailsAt fresh t 1 (length t)) (sym e) (subst (FailsAt fresh (39 ∷ body) 1) (cut_length 39 body) (then_fault (at_char fresh body) (read_char_cut (length body + 1) body c)))
read_fault {fresh = fresh} {text = text} (char_open {v = v} {body = body} e i) = subst (λ (t : List ℕ). FailsAt fresh t 1 (length t)) (sym e) (subst (FailsAt fresh (39 ∷ body) 1) (cut_length 39 body) (then_fault (at_char fresh body) (read_char_open (length body + 1) v body i)))
read_fault {fresh = fresh} {text = text} (str_bad {body = body} vs at e i q n w) = subst (λ (t : List ℕ). FailsAt fresh t 1 (length at)) (sym e)
    (at_string fresh body ∙ ap (λ r. as_token (r >>= λ x. Ok (kind.Str x.0, x.1))) (string_bad_again (length body + 1) (length body + 1) body vs at (omega arith) i q (record { none = n; whole = w })))
read_fault {fresh = fresh} {text = text} (str_cut {body = body} vs at e i c) = subst (λ (t : List ℕ). FailsAt fresh t 1 (length t)) (sym e) (subst (FailsAt fresh (34 ∷ body) 1) (cut_length 34 body)
    (at_string fresh body ∙ ap (λ r. as_token (r >>= λ x. Ok (kind.Str x.0, x.1))) (string_cut_again (length body + 1) (length body + 1) body vs at (omega arith) i c)))
read_fault {fresh = fresh} {text = text} (hash {rest = rest} e h) = subst (λ (t : List ℕ). piece_at fresh t ≡ Err (fault 4 t)) (sym e) (then_fault (at_hash fresh rest) (read_hash fresh (35 ∷ rest) rest refl (λ x r f i. h x r f (subst (λ (t : List ℕ). Include t x r) (sym e) i))))
read_fault {fresh = fresh} {text = text} (open_comment {body = body} e h) = subst (λ (t : List ℕ). piece_at fresh t ≡ Err (fault 3 t)) (sym e) (read_open fresh body h)
