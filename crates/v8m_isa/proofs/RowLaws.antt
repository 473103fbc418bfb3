-- Laws of rows: a word of some numbers has those numbers, and its fixed bits.
use Rattle.std.proofs.Common.{◌≡◌, ℕ, ◌+◌, ◌*◌, ◌/◌, ◌%◌, ◌^◌, ◌<◌, ◌≤◌, Bool, true, ◌&&◌, List, [], ◌∷◌, ◌++◌, refl, sym, ap, ◌∙◌, subst, arith, bit_or, length, drop, take, get_or, slice_set, bit_and}
use Rattle.std.specs.Prelude.{eqb, ltb}
use Rattle.std.specs.List.{list_all}
use Rattle.std.specs.Int.Bits.{or_zero_l, or_zero_r}
use Rattle.std.proofs.lemmas.Bool.Decides.{nat_tests}
use Rattle.std.proofs.lemmas.List.{drop_more, drop_all, take_more_set, take_more, get_or-map, length-map}
use Rattle.std.proofs.lemmas.Nat.{or_comm, or_disjoint, and_block, div-add-mod', and_le_l, and_le_r, or_lt, shl_below, mod_below, pow_pos}
use Rattle.std.proofs.Math.Nat.{mod-eq_of_lt, pow-le-pow_right}
use Rattle.v8m_isa.specs.declared.form.Piece.{Piece}
use Rattle.v8m_isa.specs.declared.form.Field.{Field}
use Rattle.v8m_isa.specs.declared.form.Kind.{Kind}
use Rattle.v8m_isa.specs.declared.operand.Operand.{Operand}
use Rattle.v8m_isa.specs.Form.{put, put_all, is_in_word, are_in_word, all_in_word, field_of, fields_of, bits_of, number_of, field_put, field_got, field_takes, fields_put, fields_got, all_taken, word_of, Row}
use Rattle.v8m_isa.proofs.PieceLaws.{or_assoc, and_parts, slot, slot_or, slot_zero, slot_or_zero, slot-put_all, is_clear, AreZero, AreZero-zero, AreZero-or, AreZero-put, Show, width, is_whole, are_apart, got_all-show, show-put_all}
use Rattle.v8m_isa.proofs.KindLaws.{has_width, shown}

-- the loops over the fields
field_at : (os : List Operand) (k : ℕ) (d : Operand) → k < length os → get_or (fields_of os) k (field_of d) ≡ field_of (get_or os k d)
field_at os k d lt = get_or-map field_of os k d (field_of d) lt

more_fields : (os : List Operand) (k : ℕ) (d : Operand) → k < length os → drop k (fields_of os) ≡ field_of (get_or os k d) ∷ drop (k + 1) (fields_of os)
more_fields os k d lt = drop_more (fields_of os) k (field_of d) (let l = length-map os field_of in omega arith) ∙ ap (λ f. f ∷ drop (k + 1) (fields_of os)) (field_at os k d lt)

no_fields : (os : List Operand) (k : ℕ) → length os ≤ k → drop k (fields_of os) ≡ []
no_fields os k le = drop_all k (fields_of os) (let l = length-map os field_of in omega arith)

pub fields_put_more : (os : List Operand) (vs : List ℕ) (k w y : ℕ) (f : Field) (d : Operand) (e : ℕ) → k < length os → k < length vs → f ≡ field_of (get_or os k d) → y ≡ field_put f (get_or vs k e) → bit_or (bit_or w y) (fields_put (drop (k + 1) (fields_of os)) (drop (k + 1) vs)) ≡ bit_or w (fields_put (drop k (fields_of os)) (drop k vs))
unfolding fields_put
fields_put_more os vs k w y f d e lt lv same is =
    let rest = fields_put (drop (k + 1) (fields_of os)) (drop (k + 1) vs) in
    or_assoc w y (fields_put (drop (k + 1) (fields_of os)) (drop (k + 1) vs))
    ∙ ap (λ b. bit_or w (bit_or b rest)) (is ∙ ap (λ g. field_put g (get_or vs k e)) same)
    ∙ sym (ap (λ qs. bit_or w (fields_put qs (drop k vs))) (more_fields os k d lt) ∙ ap (λ us. bit_or w (fields_put (field_of (get_or os k d) ∷ drop (k + 1) (fields_of os)) us)) (drop_more vs k e lv))

pub fields_put_end : (os : List Operand) (vs : List ℕ) (k w : ℕ) → length os ≤ k → bit_or w (fields_put (drop k (fields_of os)) (drop k vs)) ≡ w
unfolding fields_put
fields_put_end os vs k w le = ap (λ qs. bit_or w (fields_put qs (drop k vs))) (no_fields os k le) ∙ or_zero_r w

pub all_taken_more : (os : List Operand) (vs : List ℕ) (k : ℕ) (t : Bool) (f : Field) (d : Operand) (e : ℕ) → k < length os → k < length vs → f ≡ field_of (get_or os k d) → t ≡ field_takes f (get_or vs k e) → all_taken (drop k (fields_of os)) (drop k vs) ≡ (t && all_taken (drop (k + 1) (fields_of os)) (drop (k + 1) vs))
unfolding all_taken
all_taken_more os vs k t f d e lt lv same is =
    ap (λ qs. all_taken qs (drop k vs)) (more_fields os k d lt)
    ∙ ap (λ us. all_taken (field_of (get_or os k d) ∷ drop (k + 1) (fields_of os)) us) (drop_more vs k e lv)
    ∙ ap (λ b. b && all_taken (drop (k + 1) (fields_of os)) (drop (k + 1) vs)) (sym (is ∙ ap (λ g. field_takes g (get_or vs k e)) same))

pub all_taken_end : (os : List Operand) (vs : List ℕ) (k : ℕ) → length os ≤ k → length vs ≤ k → all_taken (drop k (fields_of os)) (drop k vs) ≡ true
unfolding all_taken
all_taken_end os vs k le lv = ap (λ qs. all_taken qs (drop k vs)) (no_fields os k le) ∙ ap (all_taken []) (drop_all k vs lv)

pub fields_got_more : (os : List Operand) (vs : List ℕ) (w k y : ℕ) (f : Field) (d : Operand) → k < length os → length vs ≡ length os → f ≡ field_of (get_or os k d) → y ≡ field_got f w → take k vs ≡ take k (fields_got (fields_of os) w) → take (k + 1) (slice_set vs k y) ≡ take (k + 1) (fields_got (fields_of os) w)
fields_got_more os vs w k y f d lt e same is h =
    let l = length-map os field_of in
    let more : k < length (fields_of os) = omega arith in
    take_more_set vs k y (omega arith)
    ∙ ap (λ us. us ++ y ∷ []) h
    ∙ ap (λ x. take k (fields_got (fields_of os) w) ++ x ∷ []) (is ∙ ap (λ g. field_got g w) (same ∙ sym (field_at os k d lt)) ∙ sym (get_or-map (λ g. field_got g w) (fields_of os) k (field_of d) 0 more))
    ∙ sym (take_more (fields_got (fields_of os) w) k 0 (let m = length-map (fields_of os) (λ (g : Field). field_got g w) in omega arith))

-- a slot apart from each piece of the fields
abbrev pub is_clear_of : ℕ → ℕ → List Field → Bool
is_clear_of at wide [] = true
is_clear_of at wide (f ∷ fs) = is_clear at wide f.pieces && is_clear_of at wide fs

slot-fields_put : (at wide : ℕ) (fs : List Field) (vs : List ℕ) → is_clear_of at wide fs ≡ true → slot at wide (fields_put fs vs) ≡ 0
unfolding fields_put
slot-fields_put at wide [] vs h = slot_zero at wide
slot-fields_put at wide (f ∷ fs) [] h = slot_zero at wide
slot-fields_put at wide (f ∷ fs) (v ∷ vs) h =
    let parts = and_parts (is_clear at wide f.pieces) (is_clear_of at wide fs) h in
    slot_or_zero at wide (field_put f v) (fields_put fs vs) (slot-put_all at wide f.pieces (bits_of f.kind v) parts.0) (slot-fields_put at wide fs vs parts.1)

-- such a slot is fixed
pub slot-word_of : (at wide : ℕ) (r : Row) (vs : List ℕ) → is_clear_of at wide r.fields ≡ true → slot at wide (word_of r vs) ≡ slot at wide r.base
unfolding word_of
slot-word_of at wide r vs h =
    slot_or at wide r.base (fields_put r.fields vs) ∙ ap (bit_or (slot at wide r.base)) (slot-fields_put at wide r.fields vs h) ∙ or_zero_r (slot at wide r.base)

-- the test of a row's fields: no two pieces have a bit in common, the fixed bits are 0 there, each field is whole
abbrev pub are_clear_of : List Piece → List Field → Bool
are_clear_of [] fs = true
are_clear_of (p ∷ ps) fs = is_clear_of p.at p.wide fs && are_clear_of ps fs

abbrev pub are_zero : List Piece → ℕ → Bool
are_zero [] w = true
are_zero (p ∷ ps) w = eqb (slot p.at p.wide w) 0 && are_zero ps w

abbrev pub is_sound : List Piece → Kind → ℕ → Bool
is_sound ps k n = is_whole ps && (eqb n (width ps) && has_width k n)

abbrev pub are_sound : ℕ → List Field → Bool
are_sound base [] = true
are_sound base (f ∷ fs) = are_apart f.pieces && (are_clear_of f.pieces fs && (are_zero f.pieces base && (is_sound f.pieces f.kind f.wide && are_sound base fs)))

record IsSound (base : ℕ) (f : Field) (fs : List Field) : Type 0 where
  apart : are_apart f.pieces ≡ true
  clear : are_clear_of f.pieces fs ≡ true
  zeros : are_zero f.pieces base ≡ true
  whole : is_whole f.pieces ≡ true
  wide : f.wide ≡ width f.pieces
  kind : has_width f.kind f.wide ≡ true
  rest : are_sound base fs ≡ true

sound_parts : (base : ℕ) (f : Field) (fs : List Field) → are_sound base (f ∷ fs) ≡ true → IsSound base f fs
sound_parts base f fs h =
    let a = and_parts (are_apart f.pieces) _ h in
    let b = and_parts (are_clear_of f.pieces fs) _ a.1 in
    let c = and_parts (are_zero f.pieces base) _ b.1 in
    let d = and_parts (is_sound f.pieces f.kind f.wide) (are_sound base fs) c.1 in
    let e = and_parts (is_whole f.pieces) _ d.0 in
    let g = and_parts (eqb f.wide (width f.pieces)) (has_width f.kind f.wide) e.1 in
    record { apart = a.0; clear = b.0; zeros = c.0; whole = e.0; wide = (let t = g.0 in grind (arith, nat_tests)); kind = g.1; rest = d.1 }

abbrev AreAllZero : List Field → ℕ → Type 0
AreAllZero [] w = Unit {0}
AreAllZero (f ∷ fs) w = AreZero f.pieces w × AreAllZero fs w

AreAllZero-zero : (fs : List Field) → AreAllZero fs 0
AreAllZero-zero [] = tt
AreAllZero-zero (f ∷ fs) = (AreZero-zero f.pieces, AreAllZero-zero fs)

AreAllZero-or : (fs : List Field) (a b : ℕ) → AreAllZero fs a → AreAllZero fs b → AreAllZero fs (bit_or a b)
AreAllZero-or [] a b g h = tt
AreAllZero-or (f ∷ fs) a b g h = (AreZero-or f.pieces a b g.0 h.0, AreAllZero-or fs a b g.1 h.1)

AreAllZero-put : (p : Piece) (fs : List Field) (x : ℕ) → is_clear_of p.at p.wide fs ≡ true → AreAllZero fs (put p x)
AreAllZero-put p [] x h = tt
AreAllZero-put p (f ∷ fs) x h =
    let parts = and_parts (is_clear p.at p.wide f.pieces) (is_clear_of p.at p.wide fs) h in
    (AreZero-put p f.pieces x parts.0, AreAllZero-put p fs x parts.1)

AreAllZero-put_all : (ps : List Piece) (fs : List Field) (x : ℕ) → are_clear_of ps fs ≡ true → AreAllZero fs (put_all ps x)
unfolding put_all
AreAllZero-put_all [] fs x h = AreAllZero-zero fs
AreAllZero-put_all (p ∷ ps) fs x h =
    let parts = and_parts (is_clear_of p.at p.wide fs) (are_clear_of ps fs) h in
    AreAllZero-or fs (put p x) (put_all ps x) (AreAllZero-put p fs x parts.0) (AreAllZero-put_all ps fs x parts.1)

AreZero-fields_put : (ps : List Piece) (fs : List Field) (vs : List ℕ) → are_clear_of ps fs ≡ true → AreZero ps (fields_put fs vs)
AreZero-fields_put [] fs vs h = tt
AreZero-fields_put (p ∷ ps) fs vs h =
    let parts = and_parts (is_clear_of p.at p.wide fs) (are_clear_of ps fs) h in
    (slot-fields_put p.at p.wide fs vs parts.0, AreZero-fields_put ps fs vs parts.1)

-- each field of a word has its number's bits
abbrev AllShow : List Field → List ℕ → ℕ → Type 0
AllShow [] vs w = Unit {0}
AllShow (f ∷ fs) [] w = Unit {0}
AllShow (f ∷ fs) (v ∷ vs) w = Show f.pieces w (bits_of f.kind v) × AllShow fs vs w

show-fields_put : (base : ℕ) (fs : List Field) (vs : List ℕ) (y : ℕ) → are_sound base fs ≡ true → AreAllZero fs y → AllShow fs vs (bit_or y (fields_put fs vs))
unfolding fields_put
show-fields_put base [] vs y h z = tt
show-fields_put base (f ∷ fs) [] y h z = tt
show-fields_put base (f ∷ fs) (v ∷ vs) y h z =
    let s = sound_parts base f fs h in
    let turned : bit_or (bit_or y (fields_put fs vs)) (field_put f v) ≡ bit_or y (bit_or (field_put f v) (fields_put fs vs)) =
    or_assoc y (fields_put fs vs) (field_put f v) ∙ ap (bit_or y) (or_comm (fields_put fs vs) (field_put f v))
    in
    let here = show-put_all f.pieces (bits_of f.kind v) (bit_or y (fields_put fs vs)) s.apart (AreZero-or f.pieces y (fields_put fs vs) z.0 (AreZero-fields_put f.pieces fs vs s.clear)) in
    let there = show-fields_put base fs vs (bit_or y (field_put f v)) s.rest (AreAllZero-or fs y (field_put f v) z.1 (AreAllZero-put_all f.pieces fs (bits_of f.kind v) s.clear)) in
    (subst (λ w. Show f.pieces w (bits_of f.kind v)) turned here, subst (AllShow fs vs) (or_assoc y (field_put f v) (fields_put fs vs)) there)

field_back : (base : ℕ) (f : Field) (fs : List Field) (v w : ℕ) → IsSound base f fs → field_takes f v ≡ true → Show f.pieces w (bits_of f.kind v) → field_got f w ≡ v
field_back base f fs v w s h is =
    let k = shown f.kind f.wide v s.kind h in
    let small : bits_of f.kind v < 2 ^ width f.pieces = subst (λ n. bits_of f.kind v < 2 ^ n) s.wide k.small in
    ap (number_of f.kind) (got_all-show f.pieces w (bits_of f.kind v) s.whole is ∙ mod-eq_of_lt small) ∙ k.back

fields_back : (base : ℕ) (fs : List Field) (vs : List ℕ) (w : ℕ) → are_sound base fs ≡ true → all_taken fs vs ≡ true → AllShow fs vs w → fields_got fs w ≡ vs
unfolding all_taken
fields_back base [] [] w h t s = refl
fields_back base [] (v ∷ vs) w h t s = cc
fields_back base (f ∷ fs) [] w h t s = cc
fields_back base (f ∷ fs) (v ∷ vs) w h t s =
    let i = sound_parts base f fs h in
    let parts = and_parts (field_takes f v) (all_taken fs vs) t in
    ap (λ x. x ∷ fields_got fs w) (field_back base f fs v w i parts.0 s.0) ∙ ap (λ us. v ∷ us) (fields_back base fs vs w i.rest parts.1 s.1)

AreZero-from : (ps : List Piece) (w : ℕ) → are_zero ps w ≡ true → AreZero ps w
AreZero-from [] w h = tt
AreZero-from (p ∷ ps) w h = let parts = and_parts (eqb (slot p.at p.wide w) 0) (are_zero ps w) h in ((let t = parts.0 in grind (arith, nat_tests)), AreZero-from ps w parts.1)

AreAllZero-from : (base : ℕ) (fs : List Field) → are_sound base fs ≡ true → AreAllZero fs base
AreAllZero-from base [] h = tt
AreAllZero-from base (f ∷ fs) h = let s = sound_parts base f fs h in (AreZero-from f.pieces base s.zeros, AreAllZero-from base fs s.rest)

-- the numbers of a row's word are those that it was made of
pub fields_got-word_of : (r : Row) (vs : List ℕ) → are_sound r.base r.fields ≡ true → all_taken r.fields vs ≡ true → fields_got r.fields (word_of r vs) ≡ vs
unfolding word_of
fields_got-word_of r vs h t = fields_back r.base r.fields vs (bit_or r.base (fields_put r.fields vs)) h t (show-fields_put r.base r.fields vs r.base h (AreAllZero-from r.base r.fields h))

-- a row's word has 32 bits
put_lt : (p : Piece) (x : ℕ) → is_in_word p ≡ true → put p x < 2 ^ 32
put_lt p x h =
    let small : x / 2 ^ p.from % 2 ^ p.wide < 2 ^ p.wide = mod_below (x / 2 ^ p.from) (2 ^ p.wide) (pow_pos p.wide) in
    let fits : put p x < 2 ^ (p.wide + p.at) = shl_below (x / 2 ^ p.from % 2 ^ p.wide) p.wide p.at small in
    let le : p.at + p.wide ≤ 32 = grind (arith, nat_tests) in
    let top : 2 ^ (p.wide + p.at) ≤ 2 ^ 32 = pow-le-pow_right {n = 2} (omega arith) {i = p.wide + p.at} {j = 32} (omega arith) in
    omega arith

put_all_lt : (ps : List Piece) (x : ℕ) → list_all is_in_word ps ≡ true → put_all ps x < 2 ^ 32
unfolding put_all
put_all_lt [] x h = omega arith
put_all_lt (p ∷ ps) x h = let parts = and_parts (is_in_word p) (list_all is_in_word ps) h in or_lt 32 (put p x) (put_all ps x) (put_lt p x parts.0) (put_all_lt ps x parts.1)

fields_put_lt : (fs : List Field) (vs : List ℕ) → all_in_word fs ≡ true → fields_put fs vs < 2 ^ 32
unfolding fields_put
fields_put_lt [] vs h = omega arith
fields_put_lt (f ∷ fs) [] h = omega arith
fields_put_lt (f ∷ fs) (v ∷ vs) h =
    let parts = and_parts (are_in_word f) (all_in_word fs) h in
    let here = and_parts (ltb f.wide 32) (list_all is_in_word f.pieces) parts.0 in
    or_lt 32 (field_put f v) (fields_put fs vs) (put_all_lt f.pieces (bits_of f.kind v) here.1) (fields_put_lt fs vs parts.1)

pub word_of_lt : (r : Row) (vs : List ℕ) → r.base < 2 ^ 32 → all_in_word r.fields ≡ true → word_of r vs < 2 ^ 32
unfolding word_of
word_of_lt r vs lt h = or_lt 32 r.base (fields_put r.fields vs) lt (fields_put_lt r.fields vs h)

-- a row's word is a sum
abbrev pub sum_put : List Piece → ℕ → ℕ
sum_put [] x = 0
sum_put (p ∷ ps) x = put p x + sum_put ps x

abbrev pub fields_sum : List Field → List ℕ → ℕ
fields_sum [] vs = 0
fields_sum (f ∷ fs) [] = 0
fields_sum (f ∷ fs) (v ∷ vs) = sum_put f.pieces (bits_of f.kind v) + fields_sum fs vs

and_zero_l : (a : ℕ) → bit_and 0 a ≡ 0
and_zero_l a = let le = and_le_l 0 a in omega arith

and_zero_r : (a : ℕ) → bit_and a 0 ≡ 0
and_zero_r a = let le = and_le_r a 0 in omega arith

and_low : (wide z h : ℕ) → z < 2 ^ wide → h % 2 ^ wide ≡ 0 → bit_and z h ≡ 0
and_low wide z h lt e =
    let k : h ≡ h / 2 ^ wide * 2 ^ wide + 0 = sym (div-add-mod' h (2 ^ wide)) ∙ ap (λ r. h / 2 ^ wide * 2 ^ wide + r) e in
    let j : z ≡ 0 * 2 ^ wide + z = omega arith in
    ap (bit_and z) k
    ∙ ap (λ y. bit_and y (h / 2 ^ wide * 2 ^ wide + 0)) j
    ∙ and_block wide 0 (h / 2 ^ wide) z 0 lt (pow_pos wide)
    ∙ ap (λ y. y * 2 ^ wide + bit_and z 0) (and_zero_l (h / 2 ^ wide))
    ∙ (let t = and_zero_r z in omega arith)

put_apart : (p : Piece) (x y : ℕ) → slot p.at p.wide y ≡ 0 → bit_and (put p x) y ≡ 0
put_apart p x y e =
    let z = x / 2 ^ p.from % 2 ^ p.wide in
    let lt : x / 2 ^ p.from % 2 ^ p.wide < 2 ^ p.wide = mod_below (x / 2 ^ p.from) (2 ^ p.wide) (pow_pos p.wide) in
    let a : put p x ≡ x / 2 ^ p.from % 2 ^ p.wide * 2 ^ p.at + 0 = omega arith in
    let b : y ≡ y / 2 ^ p.at * 2 ^ p.at + y % 2 ^ p.at = sym (div-add-mod' y (2 ^ p.at)) in
    ap (λ u. bit_and u y) a
    ∙ ap (bit_and (z * 2 ^ p.at + 0)) b
    ∙ and_block p.at z (y / 2 ^ p.at) 0 (y % 2 ^ p.at) (pow_pos p.at) (mod_below y (2 ^ p.at) (pow_pos p.at))
    ∙ ap (λ u. u * 2 ^ p.at + bit_and 0 (y % 2 ^ p.at)) (and_low p.wide z (y / 2 ^ p.at) lt e)
    ∙ (let t = and_zero_l (y % 2 ^ p.at) in omega arith)

put_or : (p : Piece) (x y : ℕ) → slot p.at p.wide y ≡ 0 → bit_or (put p x) y ≡ put p x + y
put_or p x y e = or_disjoint (put p x) y (put_apart p x y e)

pieces_or : (ps : List Piece) (x y : ℕ) → are_apart ps ≡ true → AreZero ps y → bit_or (put_all ps x) y ≡ sum_put ps x + y
unfolding put_all
pieces_or [] x y h z = or_zero_l y ∙ omega arith
pieces_or (p ∷ ps) x y h z =
    let parts = and_parts (is_clear p.at p.wide ps) (are_apart ps) h in
    let here = slot_or_zero p.at p.wide (put_all ps x) y (slot-put_all p.at p.wide ps x parts.0) z.0 in
    let rest = pieces_or ps x y parts.1 z.1 in
    or_assoc (put p x) (put_all ps x) y ∙ put_or p x (bit_or (put_all ps x) y) here ∙ (let r = rest in omega arith)

fields_or : (base : ℕ) (fs : List Field) (vs : List ℕ) (y : ℕ) → are_sound base fs ≡ true → AreAllZero fs y → bit_or y (fields_put fs vs) ≡ y + fields_sum fs vs
unfolding fields_put
fields_or base [] vs y h z = or_zero_r y ∙ omega arith
fields_or base (f ∷ fs) [] y h z = or_zero_r y ∙ omega arith
fields_or base (f ∷ fs) (v ∷ vs) y h z =
    let s = sound_parts base f fs h in
    let first : bit_or y (field_put f v) ≡ sum_put f.pieces (bits_of f.kind v) + y = or_comm y (field_put f v) ∙ pieces_or f.pieces (bits_of f.kind v) y s.apart z.0 in
    let rest = fields_or base fs vs (bit_or y (field_put f v)) s.rest (AreAllZero-or fs y (field_put f v) z.1 (AreAllZero-put_all f.pieces fs (bits_of f.kind v) s.clear)) in
    sym (or_assoc y (field_put f v) (fields_put fs vs)) ∙ rest ∙ (let t = first in omega arith)

pub word_of-sum : (r : Row) (vs : List ℕ) → are_sound r.base r.fields ≡ true → word_of r vs ≡ r.base + fields_sum r.fields vs
unfolding word_of
word_of-sum r vs h = fields_or r.base r.fields vs r.base h (AreAllZero-from r.base r.fields h)
