-- One step of the split, and the split as a loop does it.
use Rattle.std.proofs.Common.{◌≡◌, ◌≢◌, ℕ, ◌+◌, ◌-◌, ◌<◌, ◌≤◌, Bool, true, false, List, [], ◌∷◌, ◌++◌, length, take, drop, Option, None, Ok, refl, sym, ap, subst, ◌∙◌, append_assoc, arith}
use Rattle.std.proofs.lemmas.List.{take_at, length-append, append-nil}
use Rattle.c_lex.specs.declared.fault.PieceError.{PieceError}
use Rattle.c_lex.specs.declared.fault.PieceError.TheVariants as errors
use Rattle.c_lex.specs.declared.spot.Spot.{Spot}
use Rattle.c_lex.specs.declared.token.Kind.{Kind}
use Rattle.c_lex.specs.declared.token.Punct.{Punct}
use Rattle.c_lex.specs.declared.token.Token.{Token}
use Rattle.std.specs.Prelude.{codes}
use Rattle.c_lex.specs.Classes.{is_letter, is_octal, is_name_byte, is_space, begins, Run}
use Rattle.c_lex.specs.Spelling.{mark_text, header_text, begins_hex, Digits, hex, octal, decimal, Item, plain, simple, hex_one, hex_two, octal_one, octal_two, octal_three, Items}
use Rattle.c_lex.specs.Spot.{start, past, after}
use Rattle.c_lex.specs.Tokens.{
  Spelled,
  name,
  word,
  number,
  char,
  str,
  mark,
  include,
  Piece,
  space,
  line,
  block,
  token,
  Faulty,
  Splits,
  ends_at,
  token_at,
  tokens_of,
  stray,
  long_name,
  left_out,
  large,
  long_long,
  point,
  tail,
  char_bad,
  char_second,
  char_cut,
  char_open,
  str_bad,
  str_cut,
  hash,
  open_comment,
}
use Rattle.c_lex.specs.Reading.{Fails, front, back, piece_at, IfAt, Step, Stuck, EndsAt, AreTokens}
use Rattle.c_lex.proofs.MarkLaws.{no_empty_mark}
use Rattle.c_lex.proofs.NameLaws.{letter_goes_on}
use Rattle.c_lex.proofs.PieceLaws.{piece_right}
use Rattle.c_lex.proofs.ReadLaws.{begun}
use Rattle.c_lex.proofs.RunLaws.{front-cons, front-stop, back-cons, back-stop}
use Rattle.c_lex.proofs.Spots.{after-line, after-col}

-- some bytes, and then the rest
pub record Behind (text rest : List ℕ) : Type 0 where
  pub bytes : List ℕ
  pub parts : text ≡ bytes ++ rest

pub record Shorter (text rest : List ℕ) : Type 0 where
  pub bytes : List ℕ
  pub parts : text ≡ bytes ++ rest
  pub some : 0 < length bytes

letter_name : (text : List ℕ) → begins is_letter text ≡ true → begins is_name_byte text ≡ true
letter_name [] h = absurd cc
letter_name (b ∷ r) h = letter_goes_on b h

zero_octal : is_octal 48 ≡ true
unfolding is_octal
zero_octal = refl

run_shorter : {p : ℕ → Bool} {s rest text : List ℕ} → begins p text ≡ true → Run p s rest text → Shorter text rest
run_shorter {p = p} {s = []} {rest = rest} {text = text} h r = absurd (let e : begins p text ≡ begins p rest = ap (begins p) r.parts in let f = r.ends in cc)
run_shorter {s = b ∷ s} h r = record { bytes = b ∷ s; parts = r.parts; some = omega arith }

hex_shorter : (text ds more : List ℕ) → begins_hex text ≡ true → drop 2 text ≡ ds ++ more → Shorter text more
hex_shorter [] ds more h e = absurd cc
hex_shorter (a ∷ []) ds more h e = absurd cc
hex_shorter (a ∷ x ∷ t) ds more h e = record { bytes = a ∷ x ∷ ds; parts = ap (λ (z : List ℕ). a ∷ x ∷ z) e; some = omega arith }

digits_shorter : {text : List ℕ} {base : ℕ} {ds more : List ℕ} → Digits text base ds more → Shorter text more
digits_shorter {text = text} (hex {ds = ds} {more = more} e r) = hex_shorter text ds more e r.parts
digits_shorter {text = text} (octal e f r) = run_shorter (begun is_octal 48 text zero_octal f) r
digits_shorter (decimal f h r) = run_shorter h r

item_behind : {quote : ℕ} {text : List ℕ} {v : ℕ} {rest : List ℕ} → Item quote text v rest → Behind text rest
item_behind (plain {b = b} h k) = record { bytes = b ∷ []; parts = refl }
item_behind (simple {e = e} h) = record { bytes = 92 ∷ e ∷ []; parts = refl }
item_behind (hex_one {h = h} e f) = record { bytes = 92 ∷ 120 ∷ h ∷ []; parts = refl }
item_behind (hex_two {h = h} {i = i} e f) = record { bytes = 92 ∷ 120 ∷ h ∷ i ∷ []; parts = refl }
item_behind (octal_one {a = a} e f) = record { bytes = 92 ∷ a ∷ []; parts = refl }
item_behind (octal_two {a = a} {b = b} e f g) = record { bytes = 92 ∷ a ∷ b ∷ []; parts = refl }
item_behind (octal_three {a = a} {b = b} {c = c} e f g h) = record { bytes = 92 ∷ a ∷ b ∷ c ∷ []; parts = refl }

then_behind : {a b c : List ℕ} → Behind a b → Behind b c → Behind a c
then_behind {c = c} x y = record { bytes = x.bytes ++ y.bytes; parts = x.parts ∙ ap (λ (z : List ℕ). x.bytes ++ z) y.parts ∙ sym (append_assoc x.bytes y.bytes c) }

then_shorter : {a b c : List ℕ} → Shorter a b → Behind b c → Shorter a c
then_shorter {c = c} x y = record { bytes = x.bytes ++ y.bytes; parts = x.parts ∙ ap (λ (z : List ℕ). x.bytes ++ z) y.parts ∙ sym (append_assoc x.bytes y.bytes c); some = let k = length-append x.bytes y.bytes in let s = x.some in omega arith }

one_shorter : {text rest : List ℕ} (b : ℕ) → text ≡ b ∷ rest → Shorter text rest
one_shorter b e = record { bytes = b ∷ []; parts = e; some = omega arith }

one_behind : (b : ℕ) (rest : List ℕ) → Behind (b ∷ rest) rest
one_behind b rest = record { bytes = b ∷ []; parts = refl }

items_behind : (quote : ℕ) (text vs rest : List ℕ) → Items quote text vs rest → Behind text rest
items_behind quote text [] rest h = record { bytes = []; parts = h }
items_behind quote text (v ∷ vs) rest h = then_behind (item_behind h.1) (items_behind quote h.0 vs rest h.2)

mark_some : (m : Punct) (s : List ℕ) → mark_text m ≡ s → 0 < length s
mark_some m [] e = absurd (no_empty_mark m [] (sym (ap (λ (z : List ℕ). z ++ []) e)))
mark_some m (b ∷ s) e = omega arith

spelled_shorter : {fresh : Bool} {text : List ℕ} {k : Kind} {rest : List ℕ} → Spelled fresh text k rest → Shorter text rest
spelled_shorter {text = text} (name h r n l) = run_shorter (letter_name text h) r
spelled_shorter {text = text} (word h r e) = run_shorter (letter_name text h) r
spelled_shorter (number suffix d lt a b e f h) = then_shorter (digits_shorter d) (record { bytes = suffix; parts = e })
spelled_shorter (char {rest = rest} e i) = then_shorter (one_shorter 39 e) (then_behind (item_behind i) (one_behind 39 rest))
spelled_shorter (str {vs = vs} {rest = rest} {body = body} e i) = then_shorter (one_shorter 34 e) (then_behind (items_behind 34 body vs (34 ∷ rest) i) (one_behind 34 rest))
spelled_shorter (mark {m = m} e l c) = record { bytes = mark_text m; parts = e; some = mark_some m (mark_text m) refl }
spelled_shorter (include {h = h} {rest = rest} f i) = then_shorter (one_shorter 35 i.parts)
    (then_behind (record { bytes = i.before; parts = refl }) (then_behind (record { bytes = codes "include"; parts = refl }) (then_behind (record { bytes = i.between; parts = refl }) (record { bytes = header_text h; parts = refl }))))

piece_shorter : {fresh : Bool} {text : List ℕ} {k : Option Kind} {rest : List ℕ} → Piece fresh text k rest → Shorter text rest
piece_shorter (space {b = b} e h) = one_shorter b e
piece_shorter (line {x = x} e r) = then_shorter (one_shorter 47 e) (then_behind (one_behind 47 _) (record { bytes = x; parts = r.parts }))
piece_shorter (block {x = x} {rest = rest} e c) = then_shorter (one_shorter 47 e) (then_behind (one_behind 42 _) (then_behind (record { bytes = x; parts = c.parts }) (record { bytes = 42 ∷ 47 ∷ []; parts = refl })))
piece_shorter (token s) = spelled_shorter s

behind_length : {text rest : List ℕ} → Behind text rest → length rest ≤ length text
behind_length {rest = rest} b = let k = ap length b.parts in let n = length-append b.bytes rest in omega arith

shorter_length : {text rest : List ℕ} → Shorter text rest → length rest ≤ length text
shorter_length {rest = rest} b = let k = ap length b.parts in let n = length-append b.bytes rest in omega arith

cons_length : {text body : List ℕ} (b n : ℕ) → text ≡ b ∷ body → n ≤ length body → n ≤ length text
cons_length b n e h = let k = ap length e in omega arith

pub fault_within : {fresh : Bool} {text : List ℕ} {code left : ℕ} → Faulty fresh text code left → left ≤ length text
fault_within (stray e h) = omega arith
fault_within (long_name h r n l) = omega arith
fault_within (left_out w h r e) = omega arith
fault_within (large d h) = omega arith
fault_within (long_long d lt h) = omega arith
fault_within (point d lt h) = omega arith
fault_within (tail suffix b rest d lt p q e f n h) = shorter_length (then_shorter (digits_shorter d) (record { bytes = suffix; parts = e }))
fault_within (char_bad at e n w) = cons_length 39 _ e (omega arith)
fault_within (char_second b rest e i h) = cons_length 39 _ e (behind_length (item_behind i))
fault_within (char_cut e c) = omega arith
fault_within (char_open e i) = omega arith
fault_within (str_bad {body = body} vs at e i q n w) = cons_length 34 _ e (behind_length (items_behind 34 body vs at i))
fault_within (str_cut vs at e i c) = omega arith
fault_within (hash e h) = omega arith
fault_within (open_comment e h) = omega arith

-- ---- a step

piece_of : (fresh : Bool) (text : List ℕ) (k : Option Kind) (rest : List ℕ) → 0 < length text → piece_at fresh text ≡ Ok (k, rest) → Piece fresh text k rest
piece_of fresh [] k rest lt e = absurd (omega arith)
piece_of fresh (b ∷ r) k rest lt e = (piece_right fresh b r).holds k rest e

pub step_within : (fresh : Bool) (text : List ℕ) (k : Option Kind) (rest : List ℕ) → 0 < length text → piece_at fresh text ≡ Ok (k, rest) → length rest ≤ length text
step_within fresh text k rest lt e = shorter_length (piece_shorter (piece_of fresh text k rest lt e))

not_empty : (s : List ℕ) → 0 < length s → s ≢ []
not_empty s h e = absurd (let k = ap length e in omega arith)

pub step_is : (p : Spot) (text : List ℕ) (k : Option Kind) (rest : List ℕ) → 0 < length text → piece_at p.fresh text ≡ Ok (k, rest) → Step p text k (after p (take (length text - length rest) text)) rest
step_is p text k rest lt e =
    let piece = piece_of p.fresh text k rest lt e in
    let s = piece_shorter piece in
    let n : length text - length rest ≡ length s.bytes = (let a = ap length s.parts in let b = length-append s.bytes rest in omega arith) in
    let t : take (length text - length rest) text ≡ s.bytes = ap (λ (z : ℕ). take z text) n ∙ ap (take (length s.bytes)) s.parts ∙ take_at s.bytes rest (length s.bytes) refl in
    record { bytes = s.bytes; parts = s.parts; some = not_empty s.bytes s.some; piece = piece; at = ap (after p) t }

pub step_fault : (p : Spot) (text : List ℕ) (e : PieceError) → 0 < length text → Fails e (piece_at p.fresh text) → IfAt (Stuck p text) e
step_fault p text errors.NoMemory lt h = tt
step_fault p [] (errors.At f) lt h = absurd (omega arith)
step_fault p (b ∷ r) (errors.At f) lt h = let x = (piece_right p.fresh b r).fails f h in record { fault = x; within = fault_within x }

-- ---- the split so far

pub record Told (unit : ℕ) (text : List ℕ) (tokens : List Token) (p : Spot) (xs : List (Option Kind × List ℕ)) (r : List ℕ) : Type 0 where
  pub pieces : List (Option Kind × List ℕ)
  pub split : Splits start text pieces r
  pub ends : ends_at start pieces ≡ ends_at p xs
  pub are : tokens_of unit start pieces ≡ tokens ++ tokens_of unit p xs

pub record SoFar (unit : ℕ) (text : List ℕ) (tokens : List Token) (p : Spot) (rest : List ℕ) : Type 0 where
  pub goes : (xs : List (Option Kind × List ℕ)) (r : List ℕ) → Splits p rest xs r → Told unit text tokens p xs r
  pub within : length rest ≤ length text
  pub line : p.line + length rest ≤ 1 + length text
  pub col : p.col + length rest ≤ 1 + length text

pub so_far_begins : (unit : ℕ) (text : List ℕ) → SoFar unit text [] start text
so_far_begins unit text = record {
  goes = λ xs r s. record { pieces = xs; split = s; ends = refl; are = refl };
  within = omega arith;
  line = omega arith;
  col = omega arith;
}

pub so_far_goes : (unit : ℕ) (text : List ℕ) (tokens : List Token) (p q : Spot) (rest : List ℕ) (k : Option Kind) (more : List ℕ) → SoFar unit text tokens p rest → Step p rest k q more →
    SoFar unit text (tokens ++ token_at unit p k) q more
so_far_goes unit text tokens p q rest k more h s =
    let n = length-append s.bytes more in
    let l = ap length s.parts in
    let a = after-line p s.bytes in
    let b = after-col p s.bytes in
    let hl = h.line in let hc = h.col in let hw = h.within in
    let ql = ap (λ (z : Spot). z.line) s.at in
    let qc = ap (λ (z : Spot). z.col) s.at in
    record {
      goes = λ xs r split.
          let sp : Splits (after p s.bytes) more xs r = subst (λ (z : Spot). Splits z more xs r) s.at split in
          let t = h.goes ((k, s.bytes) ∷ xs) r (more, s.parts, s.some, s.piece, sp) in
          record {
            pieces = t.pieces;
            split = t.split;
            ends = t.ends ∙ ap (λ (z : Spot). ends_at z xs) (sym s.at);
            are = t.are ∙ ap (λ (z : Spot). tokens ++ (token_at unit p k ++ tokens_of unit z xs)) (sym s.at) ∙ sym (append_assoc tokens (token_at unit p k) (tokens_of unit q xs));
          };
      within = omega arith;
      line = omega arith;
      col = omega arith;
    }

-- a blank or a line end is a piece that is no token
one_space : (p : Spot) (b : ℕ) (rest : List ℕ) → is_space b ≡ true → Step p (b ∷ rest) None (past p b) rest
one_space p b rest e = record { bytes = b ∷ []; parts = refl; some = not_empty (b ∷ []) (omega arith); piece = space refl e; at = refl }

-- all of them at the front may be skipped
pub so_far_skips : (unit : ℕ) (text : List ℕ) (tokens : List Token) (p : Spot) (rest : List ℕ) → SoFar unit text tokens p rest →
    SoFar unit text tokens (after p (front is_space rest)) (back is_space rest)
so_far_skips unit text tokens p [] h = h
so_far_skips unit text tokens p (b ∷ r) h = go (is_space b) refl (λ k. so_far_skips unit text tokens (past p b) r k)
  where
    go : (c : Bool) → is_space b ≡ c → (SoFar unit text tokens (past p b) r → SoFar unit text tokens (after (past p b) (front is_space r)) (back is_space r)) →
        SoFar unit text tokens (after p (front is_space (b ∷ r))) (back is_space (b ∷ r))
    go true e ih =
        let one = subst (λ (z : List Token). SoFar unit text z (past p b) r) (append-nil tokens) (so_far_goes unit text tokens p (past p b) (b ∷ r) None r h (one_space p b r e)) in
        rw (front-cons is_space b r e, back-cons is_space b r e) (ih one)
    go false e ih = rw (front-stop is_space b r e, back-stop is_space b r e) h

has_bytes : (s : List ℕ) → s ≢ [] → 0 < length s
has_bytes [] h = absurd (h refl)
has_bytes (b ∷ s) h = omega arith

pub step_shrinks : (p q : Spot) (text : List ℕ) (k : Option Kind) (rest : List ℕ) → Step p text k q rest → length rest < length text
step_shrinks p q text k rest s = let n = length-append s.bytes rest in let l = ap length s.parts in let m = has_bytes s.bytes s.some in omega arith

pub so_far_stuck : (unit : ℕ) (text : List ℕ) (tokens : List Token) (p : Spot) (rest : List ℕ) (e : PieceError) → SoFar unit text tokens p rest → IfAt (Stuck p rest) e → IfAt (EndsAt text) e
so_far_stuck unit text tokens p rest errors.NoMemory h s = tt
so_far_stuck unit text tokens p rest (errors.At f) h s =
    let t = h.goes [] rest refl in
    record { pieces = t.pieces; rest = rest; split = t.split; fault = subst (λ (z : Spot). Faulty z.fresh rest f.code f.left) (sym t.ends) s.fault; within = let a = s.within in let b = h.within in omega arith }

pub so_far_ends : (unit : ℕ) (text : List ℕ) (tokens : List Token) (p : Spot) (rest : List ℕ) → SoFar unit text tokens p rest → rest ≡ [] → AreTokens unit text tokens
so_far_ends unit text tokens p rest h e =
    let t = h.goes [] [] e in
    record { pieces = t.pieces; split = t.split; are = t.are ∙ append-nil tokens }

-- for the tactics
pub ruleset steps = (step_within, step_is)
