-- A text has one split.
use Rattle.std.proofs.Common.{◌≡◌, ℕ, ◌-◌, Bool, true, List, [], ◌∷◌, ◌++◌, length, take, Option, Ok, Err, refl, sym, ap, subst, ◌∙◌, arith}
use Rattle.std.proofs.lemmas.List.{append_cancel_right}
use Rattle.cm_base.specs.declared.place.Place.{Place}
use Rattle.c_lex.specs.declared.fault.Fault.{Fault}
use Rattle.c_lex.specs.declared.spot.Spot.{Spot}
use Rattle.c_lex.specs.declared.token.Kind.{Kind}
use Rattle.c_lex.specs.declared.token.Token.{Token}
use Rattle.c_lex.specs.Classes.{begins, is_letter}
use Rattle.c_lex.specs.Spelling.{Digits}
use Rattle.c_lex.specs.Spot.{start, after, place_of}
use Rattle.c_lex.specs.Tokens.{Splits, ends_at, tokens_of, Faulty, stray, long_name, left_out, large, long_long, point, tail, char_bad, char_second, char_cut, char_open, str_bad, str_cut, hash, open_comment, HasTokens, HasFault, FirstFault, too_long, of_text}
use Rattle.c_lex.specs.Reading.{Read, piece_at}
use Rattle.c_lex.proofs.ReadLaws.{read_piece, read_fault, digits_begin}

-- a piece, if it is a token, and its bytes
abbrev pub Cut : Type 0
Cut = Option Kind × List ℕ

-- no piece stands at the front
abbrev pub Ends : Bool → List ℕ → Type 0
Ends fresh text = (k : Option Kind) (r : List ℕ) → piece_at fresh text ≡ Ok (k, r) → ⊥

pub ends_empty : (fresh : Bool) → Ends fresh []
unfolding piece_at
ends_empty fresh k r e = absurd cc

pub ends_fault : {fresh : Bool} {text : List ℕ} {code left : ℕ} → Faulty fresh text code left → Ends fresh text
ends_fault f k r e = absurd (let q = read_fault f in cc)

same_read : (a b : Option Kind × List ℕ) (r : Read (Option Kind)) → r ≡ Ok a → r ≡ Ok b → a ≡ b
same_read a b r p q = cc

pub record OneEnd (xs ys : List Cut) (r s : List ℕ) : Type 0 where
  pub pieces : xs ≡ ys
  pub rest : r ≡ s

same_piece : (x y : Cut) (t u text : List ℕ) → text ≡ x.1 ++ t → text ≡ y.1 ++ u → (x.0 ≡ y.0) → t ≡ u → x ≡ y
same_piece x y t u text e f k q =
    let b : x.1 ≡ y.1 = append_cancel_right x.1 y.1 t (sym e ∙ f ∙ ap (λ (z : List ℕ). y.1 ++ z) (sym q)) in
    ap (λ (z : Option Kind). (z, x.1)) k ∙ ap (λ (z : List ℕ). (y.0, z)) b

pub one_end : (p : Spot) (text : List ℕ) (xs ys : List Cut) (r s : List ℕ) → Splits p text xs r → Splits p text ys s →
    Ends (ends_at p xs).fresh r → Ends (ends_at p ys).fresh s → OneEnd xs ys r s
one_end p text [] [] r s a b k l = record { pieces = refl; rest = sym a ∙ b }
one_end p text [] (y ∷ ys) r s a b k l = absurd (k y.0 b.0 (subst (λ (t : List ℕ). piece_at p.fresh t ≡ Ok (y.0, b.0)) a (read_piece b.3)))
one_end p text (x ∷ xs) [] r s a b k l = absurd (l x.0 a.0 (subst (λ (t : List ℕ). piece_at p.fresh t ≡ Ok (x.0, a.0)) b (read_piece a.3)))
one_end p text (x ∷ xs) (y ∷ ys) r s a b k l =
    let e = same_read (x.0, a.0) (y.0, b.0) (piece_at p.fresh text) (read_piece a.3) (read_piece b.3) in
    let kinds : x.0 ≡ y.0 = ap (λ (z : Option Kind × List ℕ). z.0) e in
    let rests : a.0 ≡ b.0 = ap (λ (z : Option Kind × List ℕ). z.1) e in
    let same : x ≡ y = same_piece x y a.0 b.0 text a.1 b.1 kinds rests in
    let b4 : Splits (after p x.1) a.0 ys s = subst (λ (z : Cut). Splits (after p z.1) a.0 ys s) (sym same) (subst (λ (t : List ℕ). Splits (after p y.1) t ys s) (sym rests) b.4) in
    let l4 : Ends (ends_at (after p x.1) ys).fresh s = subst (λ (z : Cut). Ends (ends_at (after p z.1) ys).fresh s) (sym same) l in
    let more = one_end (after p x.1) a.0 xs ys r s a.4 b4 k l4 in
    record { pieces = ap (λ (z : Cut). z ∷ xs) same ∙ ap (λ (zs : List Cut). y ∷ zs) more.pieces; rest = more.rest }

-- ---- no fault stands at the end of a text

no_digits : {base : ℕ} {ds more : List ℕ} → Digits [] base ds more → ⊥
no_digits d = absurd (let k = digits_begin d in cc)

empty_apart : (text : List ℕ) (b : ℕ) (r : List ℕ) → text ≡ b ∷ r → text ≡ [] → ⊥
empty_apart text b r e f = absurd cc

empty_letter : (text : List ℕ) → begins is_letter text ≡ true → text ≡ [] → ⊥
empty_letter [] h e = absurd cc
empty_letter (b ∷ r) h e = absurd cc

empty_digits : {text : List ℕ} {base : ℕ} {ds more : List ℕ} → Digits text base ds more → text ≡ [] → ⊥
empty_digits {text = text} {base = base} {ds = ds} {more = more} d e = no_digits (subst (λ (t : List ℕ). Digits t base ds more) e d)

pub fault_not_at_end : {fresh : Bool} {text : List ℕ} {code left : ℕ} → Faulty fresh text code left → text ≡ [] → ⊥
fault_not_at_end {text = text} (stray {b = b} {rest = rest} e h) = empty_apart text b rest e
fault_not_at_end {text = text} (long_name h r n l) = empty_letter text h
fault_not_at_end {text = text} (left_out w h r e) = empty_letter text h
fault_not_at_end (large d h) = empty_digits d
fault_not_at_end (long_long d lt h) = empty_digits d
fault_not_at_end (point d lt h) = empty_digits d
fault_not_at_end (tail suffix b rest d lt p q e f n h) = empty_digits d
fault_not_at_end {text = text} (char_bad at e n w) = empty_apart text 39 at e
fault_not_at_end {text = text} (char_second {body = body} b rest e i h) = empty_apart text 39 body e
fault_not_at_end {text = text} (char_cut {body = body} e c) = empty_apart text 39 body e
fault_not_at_end {text = text} (char_open {body = body} e i) = empty_apart text 39 body e
fault_not_at_end {text = text} (str_bad {body = body} vs at e i q n w) = empty_apart text 34 body e
fault_not_at_end {text = text} (str_cut {body = body} vs at e i c) = empty_apart text 34 body e
fault_not_at_end {text = text} (hash {rest = rest} e h) = empty_apart text 35 rest e
fault_not_at_end {text = text} (open_comment {body = body} e h) = empty_apart text 47 (42 ∷ body) e

-- ---- the laws

pub one_list : (unit : ℕ) (text : List ℕ) (a b : List Token) → HasTokens unit text a → HasTokens unit text b → a ≡ b
one_list unit text a b h k =
    let e = one_end start text h.pieces k.pieces [] [] h.split k.split (ends_empty _) (ends_empty _) in
    sym h.are ∙ ap (tokens_of unit start) e.pieces ∙ k.are

pub not_both : (unit : ℕ) (text : List ℕ) (a : List Token) (code : ℕ) (place : Place) → HasTokens unit text a → FirstFault unit text code place → ⊥
not_both unit text a code place h (too_long lt) = absurd (let k = h.fits in omega arith)
not_both unit text a code place h (of_text f) =
    let e = one_end start text h.pieces f.pieces [] f.rest h.split f.split (ends_empty _) (ends_fault f.fault) in
    fault_not_at_end f.fault (sym e.rest)

abbrev as_fault : ℕ → ℕ → Read (Option Kind)
as_fault code left = Err (record { code = code; left = left })

abbrev as_err : Fault → Read (Option Kind)
as_err f = Err f

same_err : (f g : Fault) → as_err f ≡ as_err g → f ≡ g
same_err f g e = cc

same_fault : (a b c d : ℕ) → as_fault a b ≡ as_fault c d → (a ≡ c) × (b ≡ d)
same_fault a b c d e = let s = same_err (record { code = a; left = b }) (record { code = c; left = d }) e in (ap (λ (f : Fault). f.code) s, ap (λ (f : Fault). f.left) s)

pub record SameFault (a c : ℕ) (p q : Place) : Type 0 where
  pub code : a ≡ c
  pub place : p ≡ q

two_faults : (unit : ℕ) (text : List ℕ) (a b : ℕ) (p q : Place) → HasFault unit text a p → HasFault unit text b q → SameFault a b p q
two_faults unit text a b p q f g =
    let e = one_end start text f.pieces g.pieces f.rest g.rest f.split g.split (ends_fault f.fault) (ends_fault g.fault) in
    let x = read_fault f.fault in
    let y = read_fault g.fault in
    let z : piece_at (ends_at start f.pieces).fresh f.rest ≡ as_fault b g.left = ap (λ (w : List Cut). piece_at (ends_at start w).fresh f.rest) e.pieces ∙ ap (piece_at (ends_at start g.pieces).fresh) e.rest ∙ y in
    let s = same_fault a f.left b g.left (sym x ∙ z) in
    record { code = s.0; place = sym f.at ∙ ap (λ (n : ℕ). place_of unit (after start (take (length text - n) text))) s.1 ∙ g.at }

pub one_fault : (unit : ℕ) (text : List ℕ) (a b : ℕ) (p q : Place) → FirstFault unit text a p → FirstFault unit text b q → (a ≡ b) × (p ≡ q)
one_fault unit text a b p q (too_long l) (too_long m) = (refl, refl)
one_fault unit text a b p q (too_long l) (of_text g) = absurd (let k = g.fits in omega arith)
one_fault unit text a b p q (of_text f) (too_long m) = absurd (let k = f.fits in omega arith)
one_fault unit text a b p q (of_text f) (of_text g) = let s = two_faults unit text a b p q f g in (s.code, s.place)
