-- Laws of the pieces of a field: a slot is some neighbouring bits of a word.
use Rattle.std.proofs.Common.{◌≡◌, ℕ, ◌+◌, ◌-◌, ◌*◌, ◌/◌, ◌%◌, ◌^◌, ◌<◌, ◌≤◌, max, Bool, true, false, ◌&&◌, ◌||◌, ◌⊎◌, List, [], ◌∷◌, refl, sym, ap, ◌∙◌, subst, ⊎_elim, inl, inr, arith, bit_or, length, drop, get_or}
use Rattle.std.specs.Prelude.{eqb, leb}
use Rattle.std.specs.Int.{bit_at}
use Rattle.std.specs.Int.Bits.{or_zero_l, or_zero_r}
use Rattle.std.proofs.lemmas.Bool.Decides.{nat_tests}
use Rattle.std.proofs.lemmas.Nat.{one_shl, or_shr, or_mod, or_shifted, mod-pow-add, shl-shr, pow-add, shl_below, mod_below, pow_pos}
use Rattle.std.proofs.lemmas.Nat.Bits.{bit_at_or, same_from_bits}
use Rattle.std.proofs.lemmas.List.{drop_more, drop_all}
use Rattle.std.proofs.Math.Nat.{mod-eq_of_lt, mul-mod_left, pow-le-pow_right, mod-one}
use Rattle.v8m_isa.specs.declared.form.Piece.{Piece}
use Rattle.v8m_isa.specs.Form.{put, got, put_all, got_all, is_in_word}

pub and_parts : (a b : Bool) → (a && b) ≡ true → (a ≡ true) × (b ≡ true)
and_parts true b h = (refl, h)
and_parts false b h = cc

pub or_parts : (a b : Bool) → (a || b) ≡ true → (a ≡ true) ⊎ (b ≡ true)
or_parts true b h = inl refl
or_parts false b h = inr h

max_assoc : (a b c : ℕ) → max (max a b) c ≡ max a (max b c)
max_assoc a b c = omega arith

pub or_assoc : (a b c : ℕ) → bit_or (bit_or a b) c ≡ bit_or a (bit_or b c)
or_assoc a b c =
    same_from_bits _ _
    (λ i. bit_at_or (bit_or a b) c i ∙ ap (λ x. max x (bit_at c i)) (bit_at_or a b i) ∙ max_assoc (bit_at a i) (bit_at b i) (bit_at c i) ∙ sym (bit_at_or a (bit_or b c) i ∙ ap (max (bit_at a i)) (bit_at_or b c i)))

abbrev pub slot : ℕ → ℕ → ℕ → ℕ
slot at wide w = w / 2 ^ at % 2 ^ wide

pub slot_or : (at wide a b : ℕ) → slot at wide (bit_or a b) ≡ bit_or (slot at wide a) (slot at wide b)
slot_or at wide a b = ap (λ x. x % 2 ^ wide) (or_shr a b at) ∙ or_mod (a / 2 ^ at) (b / 2 ^ at) wide

-- two slots have no bit in common
abbrev pub apart : ℕ → ℕ → ℕ → ℕ → Bool
apart at wide at' wide' = leb (at + wide) at' || leb (at' + wide') at

slot_own : (at wide x : ℕ) → x < 2 ^ wide → slot at wide (x * 2 ^ at) ≡ x
slot_own at wide x lt = ap (λ y. y % 2 ^ wide) (shl-shr x at) ∙ mod-eq_of_lt lt

pub above : (at wide k x : ℕ) → slot at wide (x * 2 ^ (at + wide + k)) ≡ 0
above at wide k x =
    let e : x * 2 ^ (at + wide + k) ≡ x * 2 ^ k * 2 ^ wide * 2 ^ at = rw (pow-add, pow-add) (grind arith) in
    ap (λ y. y / 2 ^ at % 2 ^ wide) e ∙ ap (λ y. y % 2 ^ wide) (shl-shr (x * 2 ^ k * 2 ^ wide) at) ∙ mul-mod_left (x * 2 ^ k) (2 ^ wide)

below : (at wide at' wide' x : ℕ) → x < 2 ^ wide' → at' + wide' ≤ at → slot at wide (x * 2 ^ at') ≡ 0
below at wide at' wide' x lt le =
    let small : x * 2 ^ at' < 2 ^ (wide' + at') = shl_below x wide' at' lt in
    let top : 2 ^ (wide' + at') ≤ 2 ^ at = pow-le-pow_right {n = 2} (omega arith) {i = wide' + at'} {j = at} (omega arith) in
    let none : x * 2 ^ at' / 2 ^ at ≡ 0 = grind arith in
    ap (λ y. y % 2 ^ wide) none ∙ mod-eq_of_lt (pow_pos wide)

pub slot_other : (at wide at' wide' x : ℕ) → apart at wide at' wide' ≡ true → x < 2 ^ wide' → slot at wide (x * 2 ^ at') ≡ 0
slot_other at wide at' wide' x h lt =
    ⊎_elim
    (λ e. let le : at + wide ≤ at' = grind (arith, nat_tests) in let k : at' ≡ at + wide + (at' - (at + wide)) = omega arith in ap (λ y. slot at wide (x * 2 ^ y)) k ∙ above at wide (at' - (at + wide)) x)
    (λ e. let le : at' + wide' ≤ at = grind (arith, nat_tests) in below at wide at' wide' x lt le)
    (or_parts (leb (at + wide) at') (leb (at' + wide') at) h)

pub slot_zero : (at wide : ℕ) → slot at wide 0 ≡ 0
slot_zero at wide = let z : 0 * 2 ^ (at + wide) ≡ 0 = omega arith in subst (λ y. slot at wide y ≡ 0) z (slot_other at wide (at + wide) 0 0 (grind (arith, nat_tests)) (omega arith))

-- a piece's bits in its slot, and in one apart from it
pub slot-put : (p : Piece) (x : ℕ) → slot p.at p.wide (put p x) ≡ x / 2 ^ p.from % 2 ^ p.wide
slot-put p x = slot_own p.at p.wide (x / 2 ^ p.from % 2 ^ p.wide) (mod_below (x / 2 ^ p.from) (2 ^ p.wide) (pow_pos p.wide))

pub slot_apart-put : (at wide : ℕ) (p : Piece) (x : ℕ) → apart at wide p.at p.wide ≡ true → slot at wide (put p x) ≡ 0
slot_apart-put at wide p x h = slot_other at wide p.at p.wide (x / 2 ^ p.from % 2 ^ p.wide) h (mod_below (x / 2 ^ p.from) (2 ^ p.wide) (pow_pos p.wide))

-- a slot apart from each piece
abbrev pub is_clear : ℕ → ℕ → List Piece → Bool
is_clear at wide [] = true
is_clear at wide (p ∷ ps) = apart at wide p.at p.wide && is_clear at wide ps

pub slot_or_zero : (at wide a b : ℕ) → slot at wide a ≡ 0 → slot at wide b ≡ 0 → slot at wide (bit_or a b) ≡ 0
slot_or_zero at wide a b e f = slot_or at wide a b ∙ ap (λ x. bit_or x (slot at wide b)) e ∙ or_zero_l (slot at wide b) ∙ f

pub slot-put_all : (at wide : ℕ) (ps : List Piece) (x : ℕ) → is_clear at wide ps ≡ true → slot at wide (put_all ps x) ≡ 0
unfolding put_all
slot-put_all at wide [] x h = slot_zero at wide
slot-put_all at wide (p ∷ ps) x h =
    let parts = and_parts (apart at wide p.at p.wide) (is_clear at wide ps) h in
    slot_or_zero at wide (put p x) (put_all ps x) (slot_apart-put at wide p x parts.0) (slot-put_all at wide ps x parts.1)

-- no piece has a bit of the word
abbrev pub AreZero : List Piece → ℕ → Type 0
AreZero [] w = Unit {0}
AreZero (p ∷ ps) w = (slot p.at p.wide w ≡ 0) × AreZero ps w

pub AreZero-or : (ps : List Piece) (a b : ℕ) → AreZero ps a → AreZero ps b → AreZero ps (bit_or a b)
AreZero-or [] a b g h = tt
AreZero-or (p ∷ ps) a b g h = (slot_or_zero p.at p.wide a b g.0 h.0, AreZero-or ps a b g.1 h.1)

pub AreZero-zero : (ps : List Piece) → AreZero ps 0
AreZero-zero [] = tt
AreZero-zero (p ∷ ps) = (slot_zero p.at p.wide, AreZero-zero ps)

turned : (at wide at' wide' : ℕ) → apart at wide at' wide' ≡ true → apart at' wide' at wide ≡ true
turned at wide at' wide' h = grind (arith, nat_tests)

pub AreZero-put : (p : Piece) (ps : List Piece) (x : ℕ) → is_clear p.at p.wide ps ≡ true → AreZero ps (put p x)
AreZero-put p [] x h = tt
AreZero-put p (q ∷ ps) x h =
    let parts = and_parts (apart p.at p.wide q.at q.wide) (is_clear p.at p.wide ps) h in
    (slot_apart-put q.at q.wide p x (turned p.at p.wide q.at q.wide parts.0), AreZero-put p ps x parts.1)

-- each piece of a word has its bits of a field's
abbrev pub Show : List Piece → ℕ → ℕ → Type 0
Show [] w x = Unit {0}
Show (p ∷ ps) w x = (slot p.at p.wide w ≡ x / 2 ^ p.from % 2 ^ p.wide) × Show ps w x

-- how many bits the pieces have, and whether they stand one below the other down to bit 0
abbrev pub width : List Piece → ℕ
width [] = 0
width (p ∷ ps) = p.wide + width ps

abbrev pub is_whole : List Piece → Bool
is_whole [] = true
is_whole (p ∷ ps) = eqb p.from (width ps) && is_whole ps

pub got_all-show : (ps : List Piece) (w x : ℕ) → is_whole ps ≡ true → Show ps w x → got_all ps w ≡ x % 2 ^ width ps
unfolding got_all
got_all-show [] w x h s = sym (mod-one x)
got_all-show (p ∷ ps) w x h s =
    let parts = and_parts (eqb p.from (width ps)) (is_whole ps) h in
    let e : p.from ≡ width ps = (let t = parts.0 in grind (arith, nat_tests)) in
    let rest : got_all ps w ≡ x % 2 ^ p.from = got_all-show ps w x parts.1 s.1 ∙ ap (λ k. x % 2 ^ k) (sym e) in
    ap (λ y. bit_or (y * 2 ^ p.from) (got_all ps w)) s.0
    ∙ ap (bit_or (x / 2 ^ p.from % 2 ^ p.wide * 2 ^ p.from)) rest
    ∙ or_shifted (x / 2 ^ p.from % 2 ^ p.wide) p.from (x % 2 ^ p.from) (mod_below x (2 ^ p.from) (pow_pos p.from))
    ∙ sym (mod-pow-add x p.wide p.from)
    ∙ ap (λ k. x % 2 ^ (p.wide + k)) e

-- the pieces of a field are apart from each other
abbrev pub are_apart : List Piece → Bool
are_apart [] = true
are_apart (p ∷ ps) = is_clear p.at p.wide ps && are_apart ps

-- a field that was put into a word is seen there, where the rest of the word has none of its bits
pub show-put_all : (ps : List Piece) (x y : ℕ) → are_apart ps ≡ true → AreZero ps y → Show ps (bit_or y (put_all ps x)) x
unfolding put_all
show-put_all [] x y h z = tt
show-put_all (p ∷ ps) x y h z =
    let parts = and_parts (is_clear p.at p.wide ps) (are_apart ps) h in
    let here : slot p.at p.wide (bit_or y (bit_or (put p x) (put_all ps x))) ≡ x / 2 ^ p.from % 2 ^ p.wide =
    slot_or p.at p.wide y (bit_or (put p x) (put_all ps x))
    ∙ ap (λ s. bit_or s (slot p.at p.wide (bit_or (put p x) (put_all ps x)))) z.0
    ∙ or_zero_l (slot p.at p.wide (bit_or (put p x) (put_all ps x)))
    ∙ slot_or p.at p.wide (put p x) (put_all ps x)
    ∙ ap (bit_or (slot p.at p.wide (put p x))) (slot-put_all p.at p.wide ps x parts.0)
    ∙ or_zero_r (slot p.at p.wide (put p x))
    ∙ slot-put p x
    in
    (here, subst (λ w. Show ps w x) (or_assoc y (put p x) (put_all ps x)) (show-put_all ps x (bit_or y (put p x)) parts.1 (AreZero-or ps y (put p x) z.1 (AreZero-put p ps x parts.0))))

-- the shifts that put and get a piece
pub shifts : (p : Piece) (x from at : ℕ) → is_in_word p ≡ true → at + p.wide ≤ 32 → x / 2 ^ from % (1 * 2 ^ p.wide % 4294967296) * 2 ^ at % 4294967296 ≡ x / 2 ^ from % 2 ^ p.wide * 2 ^ at
shifts p x from at h le =
    let few : p.wide < 32 = grind (arith, nat_tests) in
    let one : 1 * 2 ^ p.wide % 4294967296 ≡ 2 ^ p.wide = one_shl p.wide 32 few in
    let small : x / 2 ^ from % 2 ^ p.wide < 2 ^ p.wide = mod_below (x / 2 ^ from) (2 ^ p.wide) (pow_pos p.wide) in
    let fits : x / 2 ^ from % 2 ^ p.wide * 2 ^ at < 2 ^ (p.wide + at) = shl_below (x / 2 ^ from % 2 ^ p.wide) p.wide at small in
    let top : 2 ^ (p.wide + at) ≤ 2 ^ 32 = pow-le-pow_right {n = 2} (omega arith) {i = p.wide + at} {j = 32} (omega arith) in
    ap (λ m. x / 2 ^ from % m * 2 ^ at % 4294967296) one ∙ mod-eq_of_lt (omega arith)

pub put_is : (p : Piece) (x : ℕ) → is_in_word p ≡ true → x / 2 ^ p.from % (1 * 2 ^ p.wide % 4294967296) * 2 ^ p.at % 4294967296 ≡ put p x
put_is p x h = shifts p x p.from p.at h (grind (arith, nat_tests))

pub got_is : (p : Piece) (w : ℕ) → is_in_word p ≡ true → w / 2 ^ p.at % (1 * 2 ^ p.wide % 4294967296) * 2 ^ p.from % 4294967296 ≡ got p w
got_is p w h = shifts p w p.at p.from h (grind (arith, nat_tests))

-- the loops over the pieces
pub put_all_more : (ps : List Piece) (i x w y : ℕ) (d : Piece) → i < length ps → y ≡ put (get_or ps i d) x → bit_or (bit_or w y) (put_all (drop (i + 1) ps) x) ≡ bit_or w (put_all (drop i ps) x)
unfolding put_all
put_all_more ps i x w y d lt e = or_assoc w y (put_all (drop (i + 1) ps) x) ∙ ap (λ b. bit_or w (bit_or b (put_all (drop (i + 1) ps) x))) e ∙ sym (ap (λ qs. bit_or w (put_all qs x)) (drop_more ps i d lt))

pub put_all_end : (ps : List Piece) (i x w : ℕ) → length ps ≤ i → bit_or w (put_all (drop i ps) x) ≡ w
unfolding put_all
put_all_end ps i x w le = ap (λ qs. bit_or w (put_all qs x)) (drop_all i ps le) ∙ or_zero_r w

pub got_all_more : (ps : List Piece) (i w x y : ℕ) (d : Piece) → i < length ps → y ≡ got (get_or ps i d) w → bit_or (bit_or x y) (got_all (drop (i + 1) ps) w) ≡ bit_or x (got_all (drop i ps) w)
unfolding got_all
got_all_more ps i w x y d lt e = or_assoc x y (got_all (drop (i + 1) ps) w) ∙ ap (λ b. bit_or x (bit_or b (got_all (drop (i + 1) ps) w))) e ∙ sym (ap (λ qs. bit_or x (got_all qs w)) (drop_more ps i d lt))

pub got_all_end : (ps : List Piece) (i w x : ℕ) → length ps ≤ i → bit_or x (got_all (drop i ps) w) ≡ x
unfolding got_all
got_all_end ps i w x le = ap (λ qs. bit_or x (got_all qs w)) (drop_all i ps le) ∙ or_zero_r x
