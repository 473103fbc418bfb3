-- Characters, escapes and strings.
use Rattle.std.proofs.Common.{◌≡◌, ℕ, zero, suc, ◌+◌, ◌*◌, ◌<◌, Bool, true, false, not, cond, ◌&&◌, leb, eqb, List, [], ◌∷◌, length, drop, Option, Some, None, Ok, Err, refl, sym, ap, subst, ◌∙◌, arith}
use Rattle.std.proofs.lemmas.Bool.{eqb-true}
use Rattle.std.proofs.lemmas.Bool.Decides.{nat_tests}
use Rattle.c_lex.specs.declared.fault.Flaw.{Flaw}
use Rattle.c_lex.specs.declared.fault.Flaw.TheVariants as flaw
use Rattle.c_lex.specs.Classes.{is_octal, is_hex, is_plain, digit_value, begins, begins_with}
use Rattle.c_lex.specs.Spelling.{simple_escape, goes_on, Item, plain, simple, hex_one, hex_two, octal_one, octal_two, octal_three, IsCut, at_end, at_backslash, at_x, Items}
use Rattle.c_lex.proofs.Right.{Right, done, faults, either, and_so}
use Rattle.c_lex.specs.Reading.{◌>>=◌, Seen, fault, hex_behind, hex_at, third_at, octal_at, simple_at, escape_at, item_at, placed, literal_item, string_at}

-- ---- items are read again

plain_not : (b : ℕ) → is_plain b ≡ true → eqb b 92 ≡ false
unfolding is_plain
plain_not b h = grind (arith, nat_tests)

octal_not_x : (b : ℕ) → is_octal b ≡ true → eqb b 120 ≡ false
unfolding is_octal
octal_not_x b h = grind (arith, nat_tests)

octal_not_simple : (b : ℕ) → is_octal b ≡ true → simple_escape b ≡ None
unfolding is_octal
octal_not_simple b h = grind (arith, nat_tests)

simple_not_x : (e v : ℕ) → simple_escape e ≡ Some v → eqb e 120 ≡ false
simple_not_x e v h = go (eqb e 120) refl
  where
    go : (c : Bool) → eqb e 120 ≡ c → c ≡ false
    go true q = absurd (let k : simple_escape e ≡ None = ap simple_escape (eqb-true e 120 q) in cc)
    go false q = refl

simple_not_octal : (e v : ℕ) → simple_escape e ≡ Some v → is_octal e ≡ false
simple_not_octal e v h = go (is_octal e) refl
  where
    go : (c : Bool) → is_octal e ≡ c → c ≡ false
    go true q = absurd (let k = octal_not_simple e q in cc)
    go false q = refl

hex_stays : (v : ℕ) (rest : List ℕ) → begins is_hex rest ≡ false → hex_behind v rest ≡ (v, rest)
hex_stays v [] h = refl
hex_stays v (i ∷ r) h = rw h refl

octal_stays : (v : ℕ) (rest : List ℕ) → begins is_octal rest ≡ false → octal_at v rest ≡ (v, rest)
unfolding octal_at
octal_stays v [] h = refl
octal_stays v (b ∷ r) h = rw h refl

third_stays : (v : ℕ) (rest : List ℕ) → goes_on v rest ≡ false → third_at v rest ≡ (v, rest)
third_stays v [] h = refl
third_stays v (c ∷ r) h = rw h refl

pub item_again : {quote : ℕ} {text : List ℕ} {v : ℕ} {rest : List ℕ} → Item quote text v rest → item_at quote text ≡ Ok (v, rest)
unfolding item_at escape_at hex_at octal_at
item_again {quote = quote} (plain {b = b} h k) = rw (plain_not b h, h, k) refl
item_again {quote = quote} (simple {e = e} {v = v} h) = rw (simple_not_x e v h, simple_not_octal e v h, h) refl
item_again {quote = quote} (hex_one {h = h} {rest = rest} e f) = rw (e, hex_stays (digit_value h) rest f) refl
item_again {quote = quote} (hex_two e f) = rw (e, f) refl
item_again {quote = quote} (octal_one {a = a} {rest = rest} e f) = rw (octal_not_x a e, e, octal_stays (digit_value a) rest f) refl
item_again {quote = quote} (octal_two {a = a} {b = b} {rest = rest} e f g) = rw (octal_not_x a e, e, f, third_stays (8 * digit_value a + digit_value b) rest g) refl
item_again {quote = quote} (octal_three {a = a} e f g h) = rw (octal_not_x a e, e, f, g, h) refl

pub cut_again : (quote : ℕ) {text : List ℕ} → IsCut text → item_at quote text ≡ Err flaw.Cut
unfolding item_at escape_at hex_at
cut_again quote at_end = refl
cut_again quote at_backslash = refl
cut_again quote at_x = refl

-- ---- and what is read is an item

abbrev IsRead : ℕ → List ℕ → Seen → Type 0
IsRead quote text (Ok x) = Item quote text x.0 x.1
IsRead quote text (Err flaw.Cut) = IsCut text
IsRead quote text (Err flaw.Bad) = Unit {0}

abbrev Took : ℕ → List ℕ → ℕ × List ℕ → Type 0
Took quote text x = Item quote text x.0 x.1

hex_behind_right : (quote h : ℕ) → is_hex h ≡ true → (r : List ℕ) → Took quote (92 ∷ 120 ∷ h ∷ r) (hex_behind (digit_value h) r)
hex_behind_right quote h e [] = hex_one e refl
hex_behind_right quote h e (i ∷ r) = go (is_hex i) refl
  where
    go : (c : Bool) → is_hex i ≡ c → Took quote (92 ∷ 120 ∷ h ∷ i ∷ r) (cond c (16 * digit_value h + digit_value i, r) (digit_value h, i ∷ r))
    go true q = hex_two e q
    go false q = hex_one e q

hex_right : (quote : ℕ) (r : List ℕ) → IsRead quote (92 ∷ 120 ∷ r) (hex_at r)
unfolding hex_at
hex_right quote [] = at_x
hex_right quote (h ∷ r) = go (is_hex h) refl
  where
    go : (c : Bool) → is_hex h ≡ c → IsRead quote (92 ∷ 120 ∷ h ∷ r) (cond c (Ok (hex_behind (digit_value h) r)) (Err flaw.Bad))
    go true q = hex_behind_right quote h q r
    go false q = tt

third_right : (quote a b : ℕ) → is_octal a ≡ true → is_octal b ≡ true → (r : List ℕ) → Took quote (92 ∷ a ∷ b ∷ r) (third_at (8 * digit_value a + digit_value b) r)
third_right quote a b e f [] = octal_two e f refl
third_right quote a b e f (c ∷ r) = go (is_octal c) (leb (8 * (8 * digit_value a + digit_value b) + digit_value c) 255) refl refl
  where
    go : (x y : Bool) → is_octal c ≡ x → leb (8 * (8 * digit_value a + digit_value b) + digit_value c) 255 ≡ y →
        Took quote (92 ∷ a ∷ b ∷ c ∷ r) (cond (x && y) (8 * (8 * digit_value a + digit_value b) + digit_value c, r) (8 * digit_value a + digit_value b, c ∷ r))
    go true true p q = octal_three e f p q
    go true false p q = octal_two e f (rw (p, q) refl)
    go false y p q = octal_two e f (rw p refl)

octal_right : (quote a : ℕ) → is_octal a ≡ true → (r : List ℕ) → Took quote (92 ∷ a ∷ r) (octal_at (digit_value a) r)
unfolding octal_at
octal_right quote a e [] = octal_one e refl
octal_right quote a e (b ∷ r) = go (is_octal b) refl
  where
    go : (c : Bool) → is_octal b ≡ c → Took quote (92 ∷ a ∷ b ∷ r) (cond c (third_at (8 * digit_value a + digit_value b) r) (digit_value a, b ∷ r))
    go true q = third_right quote a b e q r
    go false q = octal_one e q

simple_right : (quote e : ℕ) (r : List ℕ) (o : Option ℕ) → simple_escape e ≡ o → IsRead quote (92 ∷ e ∷ r) (simple_at o r)
simple_right quote e r None q = tt
simple_right quote e r (Some v) q = simple q

escape_right : (quote : ℕ) (r : List ℕ) → IsRead quote (92 ∷ r) (escape_at r)
unfolding escape_at
escape_right quote [] = at_backslash
escape_right quote (e ∷ r) = go (eqb e 120) (is_octal e) refl refl
  where
    go : (x y : Bool) → eqb e 120 ≡ x → is_octal e ≡ y → IsRead quote (92 ∷ e ∷ r) (cond x (hex_at r) (cond y (Ok (octal_at (digit_value e) r)) (simple_at (simple_escape e) r)))
    go true y p q = subst (λ (k : ℕ). IsRead quote (92 ∷ k ∷ r) (hex_at r)) (sym (eqb-true e 120 p)) (hex_right quote r)
    go false true p q = octal_right quote e q r
    go false false p q = simple_right quote e r (simple_escape e) refl

pub item_right : (quote : ℕ) (text : List ℕ) → IsRead quote text (item_at quote text)
unfolding item_at
item_right quote [] = at_end
item_right quote (b ∷ r) = go (eqb b 92) (is_plain b) (eqb b quote) refl refl refl
  where
    go : (x y z : Bool) → eqb b 92 ≡ x → is_plain b ≡ y → eqb b quote ≡ z → IsRead quote (b ∷ r) (cond x (escape_at r) (cond (y && not z) (Ok (b, r)) (Err flaw.Bad)))
    go true y z p q s = subst (λ (k : ℕ). IsRead quote (k ∷ r) (escape_at r)) (sym (eqb-true b 92 p)) (escape_right quote r)
    go false true true p q s = tt
    go false true false p q s = plain q s
    go false false z p q s = tt

-- ---- what may go wrong with an item

-- no item stands here, nor does the text end here or inside an escape
pub record IsBad (quote : ℕ) (text : List ℕ) : Type 0 where
  pub none : (v : ℕ) (r : List ℕ) → Item quote text v r → ⊥
  pub whole : IsCut text → ⊥

seen_apart : (x : ℕ × List ℕ) (e : Flaw) (o : Seen) → o ≡ Ok x → o ≡ Err e → ⊥
seen_apart x e o p q = absurd cc

bad_is : (quote : ℕ) (text : List ℕ) → item_at quote text ≡ Err flaw.Bad → IsBad quote text
bad_is quote text e = record {
  none = λ v r i. seen_apart (v, r) flaw.Bad (item_at quote text) (item_again i) e;
  whole = λ c. absurd (let k = cut_again quote c in cc);
}

pub bad_again : (quote : ℕ) (text : List ℕ) → IsBad quote text → item_at quote text ≡ Err flaw.Bad
bad_again quote text h = go (item_at quote text) (item_right quote text)
  where
    go : (o : Seen) → IsRead quote text o → o ≡ Err flaw.Bad
    go (Ok x) i = absurd (h.none x.0 x.1 i)
    go (Err flaw.Cut) c = absurd (h.whole c)
    go (Err flaw.Bad) u = refl

pub shrinks : {quote : ℕ} {text : List ℕ} {v : ℕ} {rest : List ℕ} → Item quote text v rest → length rest < length text
shrinks (plain h k) = omega arith
shrinks (simple h) = omega arith
shrinks (hex_one e f) = omega arith
shrinks (hex_two e f) = omega arith
shrinks (octal_one e f) = omega arith
shrinks (octal_two e f g) = omega arith
shrinks (octal_three e f g h) = omega arith

-- no item begins with its quote
pub not_quote : {quote : ℕ} {text : List ℕ} {v : ℕ} {rest : List ℕ} → eqb 92 quote ≡ false → Item quote text v rest → begins_with quote text ≡ false
not_quote q (plain h k) = k
not_quote q (simple h) = q
not_quote q (hex_one e f) = q
not_quote q (hex_two e f) = q
not_quote q (octal_one e f) = q
not_quote q (octal_two e f g) = q
not_quote q (octal_three e f g h) = q

cut_not_quote : {text : List ℕ} → IsCut text → begins_with 34 text ≡ false
cut_not_quote at_end = refl
cut_not_quote at_backslash = refl
cut_not_quote at_x = refl

pub item_read : (cut : ℕ) {quote : ℕ} {text : List ℕ} {v : ℕ} {rest : List ℕ} → Item quote text v rest → literal_item cut quote text ≡ Ok (v, rest)
unfolding literal_item
item_read cut i = rw (item_again i) refl

pub cut_read : (cut quote : ℕ) {text : List ℕ} → IsCut text → literal_item cut quote text ≡ Err (record { code = 1; left = cut })
unfolding literal_item
cut_read cut quote c = rw (cut_again quote c) refl

pub bad_read : (cut quote : ℕ) (text : List ℕ) → IsBad quote text → literal_item cut quote text ≡ Err (fault 1 text)
unfolding literal_item
bad_read cut quote text h = rw (bad_again quote text h) refl

-- what a reader of an item answers
pub data ItemFault (cut quote : ℕ) (text : List ℕ) : ℕ → ℕ → Type 0 where
  is_cut : IsCut text → ItemFault cut quote text 1 cut
  is_bad : IsBad quote text → ItemFault cut quote text 1 (length text)

pub item_answers : (cut quote : ℕ) (text : List ℕ) → Right (Item quote text) (ItemFault cut quote text) (literal_item cut quote text)
unfolding literal_item
item_answers cut quote text = go (item_at quote text) refl (item_right quote text)
  where
    go : (o : Seen) → item_at quote text ≡ o → IsRead quote text o → Right (Item quote text) (ItemFault cut quote text) (placed cut text o)
    go (Ok x) e i = done i
    go (Err flaw.Cut) e c = faults (record { code = 1; left = cut }) (is_cut c)
    go (Err flaw.Bad) e u = faults (fault 1 text) (is_bad (bad_is quote text e))

-- ---- strings

-- the items before a fault
pub record StringFault (cut : ℕ) (text : List ℕ) (code left : ℕ) : Type 0 where
  pub before : List ℕ
  pub at : List ℕ
  pub items : Items 34 text before at
  pub closes : begins_with 34 at ≡ false
  pub is : ItemFault cut 34 at code left

at_quote : (text : List ℕ) → begins_with 34 text ≡ true → text ≡ 34 ∷ drop 1 text
at_quote [] h = absurd cc
at_quote (b ∷ r) h = ap (λ (x : ℕ). x ∷ r) (eqb-true b 34 h)

abbrev pub StringOf : List ℕ → List ℕ → List ℕ → Type 0
StringOf text vs rest = Items 34 text vs (34 ∷ rest)

pub string_answers : (cut n : ℕ) (text : List ℕ) → length text < n → Right (StringOf text) (StringFault cut text) (string_at cut n text)
unfolding string_at
string_answers cut zero text lt = absurd (omega arith)
string_answers cut (suc n) text lt =
    either (begins_with 34 text) (Ok ([], drop 1 text)) (literal_item cut 34 text >>= λ x. string_at cut n x.1 >>= λ y. Ok (x.0 ∷ y.0, y.1))
    (λ h. done (at_quote text h))
    (λ h. and_so _ (item_answers cut 34 text) (λ code left i. record { before = []; at = text; items = refl; closes = h; is = i })
    (λ v r i. and_so _ (string_answers cut n r (let k = shrinks i in omega arith)) (λ code left f. record { before = v ∷ f.before; at = f.at; items = (r, i, f.items); closes = f.closes; is = f.is })
    (λ vs rest is. done (r, i, is))))

string_step : (cut n : ℕ) (text : List ℕ) (v : ℕ) (t : List ℕ) → Item 34 text v t → string_at cut (suc n) text ≡ (string_at cut n t >>= λ y. Ok (v ∷ y.0, y.1))
unfolding string_at
string_step cut n text v t i = rw (not_quote refl i, item_read cut i) refl

pub string_again : (cut n : ℕ) (text vs rest : List ℕ) → length text < n → Items 34 text vs (34 ∷ rest) → string_at cut n text ≡ Ok (vs, rest)
unfolding string_at
string_again cut zero text vs rest lt h = absurd (omega arith)
string_again cut (suc n) text [] rest lt h = rw h refl
string_again cut (suc n) text (v ∷ vs) rest lt h = string_step cut n text v h.0 h.1 ∙ rw (string_again cut n h.0 vs rest (let k = shrinks h.1 in omega arith) h.2) refl

pub string_cut_again : (cut n : ℕ) (text vs at : List ℕ) → length text < n → Items 34 text vs at → IsCut at → string_at cut n text ≡ Err (record { code = 1; left = cut })
unfolding string_at
string_cut_again cut zero text vs at lt h c = absurd (omega arith)
string_cut_again cut (suc n) text [] at lt h c = let k : IsCut text = subst IsCut (sym h) c in rw (cut_not_quote k, cut_read cut 34 k) refl
string_cut_again cut (suc n) text (v ∷ vs) at lt h c = string_step cut n text v h.0 h.1 ∙ rw (string_cut_again cut n h.0 vs at (let k = shrinks h.1 in omega arith) h.2 c) refl

pub string_bad_again : (cut n : ℕ) (text vs at : List ℕ) → length text < n → Items 34 text vs at → begins_with 34 at ≡ false → IsBad 34 at → string_at cut n text ≡ Err (fault 1 at)
unfolding string_at
string_bad_again cut zero text vs at lt h q b = absurd (omega arith)
string_bad_again cut (suc n) text [] at lt h q b = let k : begins_with 34 text ≡ false = ap (begins_with 34) h ∙ q in let e : IsBad 34 text = subst (IsBad 34) (sym h) b in rw (k, bad_read cut 34 text e) (ap (λ (t : List ℕ). Err (fault 1 t)) h)
string_bad_again cut (suc n) text (v ∷ vs) at lt h q b = string_step cut n text v h.0 h.1 ∙ rw (string_bad_again cut n h.0 vs at (let k = shrinks h.1 in omega arith) h.2 q b) refl
