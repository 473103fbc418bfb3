-- Numbers.
use Rattle.std.proofs.Common.{◌≡◌, ◌≢◌, ℕ, ◌^◌, ◌<◌, ◌≤◌, Bool, true, false, cond, ◌&&◌, ◌||◌, ltb, List, [], ◌∷◌, ◌++◌, drop, Option, Some, None, Ok, Err, refl, sym, ap, subst, ◌∙◌, arith}
use Rattle.std.proofs.lemmas.Bool.{le-ltb, lt-ltb}
use Rattle.std.proofs.lemmas.Bool.Decides.{nat_tests}
use Rattle.c_lex.specs.declared.token.Kind.{Kind}
use Rattle.c_lex.specs.Classes.{is_digit, is_octal, is_hex, is_name_byte, is_letter, is_u, is_l, begins, begins_with}
use Rattle.c_lex.specs.Spelling.{begins_hex, Digits, hex, octal, decimal, value_of, suffix_of, begins_long_long}
use Rattle.c_lex.specs.Tokens.{Spelled, number, Faulty, large, long_long, point, tail, number_kind, E01, E02, E06}
use Rattle.c_lex.specs.Reading.{Read, fault, front, back, behind, digits_at, suffix_at, begun_by_u, begun_by_l, l_behind, u_behind, number_with, number_at}
use Rattle.c_lex.proofs.RunLaws.{run_is, run_front, run_back}
use Rattle.c_lex.proofs.Right.{Right, done, faults, either, ltb_no, ltb_yes}

-- ---- digits

abbrev chosen_digits : List ℕ → Bool → Bool → ℕ × List ℕ × List ℕ
chosen_digits text a b = cond a (16, front is_hex (drop 2 text), back is_hex (drop 2 text)) (cond b (8, front is_octal text, back is_octal text) (10, front is_digit text, back is_digit text))

digits_by : (text : List ℕ) → begins is_digit text ≡ true → (a b : Bool) → begins_hex text ≡ a → begins_with 48 text ≡ b →
    Digits text (chosen_digits text a b).0 (chosen_digits text a b).1 (chosen_digits text a b).2
digits_by text h true b e f = hex e (run_is is_hex (drop 2 text))
digits_by text h false true e f = octal e f (run_is is_octal text)
digits_by text h false false e f = decimal f h (run_is is_digit text)

pub digits_right : (text : List ℕ) → begins is_digit text ≡ true → Digits text (digits_at text).0 (digits_at text).1 (digits_at text).2
digits_right text h = digits_by text h (begins_hex text) (begins_with 48 text) refl refl

no_hex : (text : List ℕ) → begins_with 48 text ≡ false → begins_hex text ≡ false
no_hex [] h = refl
no_hex (a ∷ []) h = refl
no_hex (a ∷ x ∷ []) h = refl
no_hex (a ∷ x ∷ b ∷ r) h = rw h refl

pub digits_again : {text : List ℕ} {base : ℕ} {ds more : List ℕ} → Digits text base ds more → digits_at text ≡ (base, ds, more)
digits_again {text = text} (hex e r) = rw (e, run_front r, run_back r) refl
digits_again {text = text} (octal e f r) = rw (e, f, run_front r, run_back r) refl
digits_again {text = text} (decimal f h r) = rw (no_hex text f, f, run_front r, run_back r) refl

-- ---- suffixes

-- what is behind a number's digits: a suffix, and then what is no part of it
pub record Suffix (more : List ℕ) (says : Bool × Bool) (rest : List ℕ) : Type 0 where
  pub suffix : List ℕ
  pub parts : more ≡ suffix ++ rest
  pub is : suffix_of suffix ≡ Some says
  pub ends : (b : ℕ) (r : List ℕ) → rest ≡ b ∷ r → suffix_of (suffix ++ b ∷ []) ≡ None

u_no_l : (a : ℕ) → is_u a ≡ true → is_l a ≡ false
unfolding is_u is_l
u_no_l a h = grind (arith, nat_tests)

l_no_u : (a : ℕ) → is_l a ≡ true → is_u a ≡ false
unfolding is_u is_l
l_no_u a h = grind (arith, nat_tests)

none_then : (p : ℕ → Bool) (b : ℕ) (r : List ℕ) → behind p (b ∷ r) ≡ None → p b ≡ false
none_then p b r h = go (p b) h
  where
    go : (c : Bool) → cond c (Some r) None ≡ None → c ≡ false
    go true e = absurd cc
    go false e = refl

some_then : (p : ℕ → Bool) (text r : List ℕ) → behind p text ≡ Some r → (b : ℕ) × (text ≡ b ∷ r) × (p b ≡ true)
some_then p [] r h = absurd cc
some_then p (b ∷ t) r h = go (p b) refl h
  where
    go : (c : Bool) → p b ≡ c → cond c (Some t) None ≡ Some r → (b' : ℕ) × (b ∷ t ≡ b' ∷ r) × (p b' ≡ true)
    go true e q = (b, cc, e)
    go false e q = absurd cc

u_l : (a : ℕ) (r : List ℕ) → is_u a ≡ true → (o : Option (List ℕ)) → behind is_l r ≡ o → Suffix (a ∷ r) (l_behind r o).0 (l_behind r o).1
u_l a r h (Some rest) e =
    let s = some_then is_l r rest e in
    record { suffix = a ∷ s.0 ∷ []; parts = ap (λ (t : List ℕ). a ∷ t) s.1; is = rw (h, s.2) refl; ends = λ b t q. refl }
u_l a r h None e = record {
  suffix = a ∷ [];
  parts = refl;
  is = rw h refl;
  ends = λ b t q.
      let n : is_l b ≡ false = none_then is_l b t (ap (behind is_l) (sym q) ∙ e) in rw (h, n, u_no_l a h) refl;
}

l_u : (a : ℕ) (r : List ℕ) → is_l a ≡ true → (o : Option (List ℕ)) → behind is_u r ≡ o → Suffix (a ∷ r) (u_behind r o).0 (u_behind r o).1
l_u a r h (Some rest) e =
    let s = some_then is_u r rest e in
    record { suffix = a ∷ s.0 ∷ []; parts = ap (λ (t : List ℕ). a ∷ t) s.1; is = rw (h, s.2, l_no_u a h) refl; ends = λ b t q. refl }
l_u a r h None e = record {
  suffix = a ∷ [];
  parts = refl;
  is = rw (l_no_u a h, h) refl;
  ends = λ b t q.
      let n : is_u b ≡ false = none_then is_u b t (ap (behind is_u) (sym q) ∙ e) in rw (h, n, l_no_u a h) refl;
}

by_l : (text : List ℕ) → behind is_u text ≡ None → (o : Option (List ℕ)) → behind is_l text ≡ o → Suffix text (begun_by_l text o).0 (begun_by_l text o).1
by_l text k (Some r) e =
    let s = some_then is_l text r e in
    subst (λ (t : List ℕ). Suffix t (u_behind r (behind is_u r)).0 (u_behind r (behind is_u r)).1) (sym s.1) (l_u s.0 r s.2 (behind is_u r) refl)
by_l text k None e = record {
  suffix = [];
  parts = refl;
  is = refl;
  ends = λ b t q.
      let n : is_l b ≡ false = none_then is_l b t (ap (behind is_l) (sym q) ∙ e) in
      let m : is_u b ≡ false = none_then is_u b t (ap (behind is_u) (sym q) ∙ k) in rw (m, n) refl;
}

by_u : (text : List ℕ) (o : Option (List ℕ)) → behind is_u text ≡ o → Suffix text (begun_by_u text o).0 (begun_by_u text o).1
by_u text (Some r) e =
    let s = some_then is_u text r e in
    subst (λ (t : List ℕ). Suffix t (l_behind r (behind is_l r)).0 (l_behind r (behind is_l r)).1) (sym s.1) (u_l s.0 r s.2 (behind is_l r) refl)
by_u text None e = by_l text e (behind is_l text) refl

pub suffix_right : (text : List ℕ) → Suffix text (suffix_at text).0 (suffix_at text).1
unfolding suffix_at
suffix_right text = by_u text (behind is_u text) refl

-- ---- a suffix is read again

says_same : (x y : Bool × Bool) → Some x ≡ Some y → x ≡ y
says_same x y e = cc

behind_yes : (p : ℕ → Bool) (b : ℕ) (r : List ℕ) → p b ≡ true → behind p (b ∷ r) ≡ Some r
behind_yes p b r h = rw h refl

behind_no : (p : ℕ → Bool) (rest : List ℕ) → begins p rest ≡ false → behind p rest ≡ None
behind_no p [] h = refl
behind_no p (b ∷ r) h = rw h refl

-- whether one more byte of the class would still be a suffix
stops : (suffix rest : List ℕ) (p : ℕ → Bool) → ((b : ℕ) (r : List ℕ) → rest ≡ b ∷ r → suffix_of (suffix ++ b ∷ []) ≡ None) →
    ((b : ℕ) → p b ≡ true → suffix_of (suffix ++ b ∷ []) ≢ None) → begins p rest ≡ false
stops suffix [] p h k = refl
stops suffix (b ∷ r) p h k = go (p b) refl
  where
    go : (c : Bool) → p b ≡ c → c ≡ false
    go true e = absurd (k b e (h b r refl))
    go false e = refl

not_none : (x : Bool × Bool) (o : Option (Bool × Bool)) → o ≡ Some x → o ≢ None
not_none x o e q = absurd cc

one_u : (a : ℕ) → is_u a ≡ true → suffix_of (a ∷ []) ≡ Some (true, false)
one_u a h = rw h refl

one_l : (a : ℕ) → is_l a ≡ true → suffix_of (a ∷ []) ≡ Some (false, true)
one_l a h = rw (l_no_u a h, h) refl

both_ul : (a b : ℕ) → is_u a ≡ true → is_l b ≡ true → suffix_of (a ∷ b ∷ []) ≡ Some (true, true)
both_ul a b h k = rw (h, k) refl

both_lu : (a b : ℕ) → is_l a ≡ true → is_u b ≡ true → suffix_of (a ∷ b ∷ []) ≡ Some (true, true)
both_lu a b h k = rw (l_no_u a h, h, k) refl

abbrev Stops : List ℕ → List ℕ → Type 0
Stops suffix rest = (b : ℕ) (r : List ℕ) → rest ≡ b ∷ r → suffix_of (suffix ++ b ∷ []) ≡ None

again_none : (rest : List ℕ) → Stops [] rest → suffix_at rest ≡ ((false, false), rest)
unfolding suffix_at
again_none rest h =
    let u = behind_no is_u rest (stops [] rest is_u h (λ b e. not_none _ _ (one_u b e))) in
    let l = behind_no is_l rest (stops [] rest is_l h (λ b e. not_none _ _ (one_l b e))) in rw (u, l) refl

again_u : (a : ℕ) (rest : List ℕ) → is_u a ≡ true → Stops (a ∷ []) rest → suffix_at (a ∷ rest) ≡ ((true, false), rest)
unfolding suffix_at
again_u a rest e h =
    let l = behind_no is_l rest (stops (a ∷ []) rest is_l h (λ b q. not_none _ _ (both_ul a b e q))) in rw (e, l) refl

again_l : (a : ℕ) (rest : List ℕ) → is_l a ≡ true → Stops (a ∷ []) rest → suffix_at (a ∷ rest) ≡ ((false, true), rest)
unfolding suffix_at
again_l a rest e h =
    let u = behind_no is_u rest (stops (a ∷ []) rest is_u h (λ b q. not_none _ _ (both_lu a b e q))) in rw (l_no_u a e, e, u) refl

again_ul : (a b : ℕ) (rest : List ℕ) → is_u a ≡ true → is_l b ≡ true → suffix_at (a ∷ b ∷ rest) ≡ ((true, true), rest)
unfolding suffix_at
again_ul a b rest e f = rw (e, f) refl

again_lu : (a b : ℕ) (rest : List ℕ) → is_l a ≡ true → is_u b ≡ true → suffix_at (a ∷ b ∷ rest) ≡ ((true, true), rest)
unfolding suffix_at
again_lu a b rest e f = rw (l_no_u a e, e, f) refl

abbrev Same : List ℕ → Bool × Bool → List ℕ → Type 0
Same text says rest = suffix_at text ≡ (says, rest)

one_again : (a : ℕ) (says : Bool × Bool) (rest : List ℕ) → Stops (a ∷ []) rest → suffix_of (a ∷ []) ≡ Some says → Same (a ∷ rest) says rest
one_again a says rest h e = go (is_u a) (is_l a) refl refl e
  where
    go : (u l : Bool) → is_u a ≡ u → is_l a ≡ l → cond u (Some (true, false)) (cond l (Some (false, true)) None) ≡ Some says → Same (a ∷ rest) says rest
    go true l p q k = subst (λ (x : Bool × Bool). Same (a ∷ rest) x rest) (says_same _ _ k) (again_u a rest p h)
    go false true p q k = subst (λ (x : Bool × Bool). Same (a ∷ rest) x rest) (says_same _ _ k) (again_l a rest q h)
    go false false p q k = absurd cc

two_again : (a b : ℕ) (says : Bool × Bool) (rest : List ℕ) → suffix_of (a ∷ b ∷ []) ≡ Some says → Same (a ∷ b ∷ rest) says rest
two_again a b says rest e = go (is_u a) (is_l b) (is_l a) (is_u b) refl refl refl refl e
  where
    go : (ua lb la ub : Bool) → is_u a ≡ ua → is_l b ≡ lb → is_l a ≡ la → is_u b ≡ ub → cond ((ua && lb) || (la && ub)) (Some (true, true)) None ≡ Some says → Same (a ∷ b ∷ rest) says rest
    go true true la ub p q r s k = subst (λ (x : Bool × Bool). Same (a ∷ b ∷ rest) x rest) (says_same _ _ k) (again_ul a b rest p q)
    go true false true true p q r s k = subst (λ (x : Bool × Bool). Same (a ∷ b ∷ rest) x rest) (says_same _ _ k) (again_lu a b rest r s)
    go false lb true true p q r s k = subst (λ (x : Bool × Bool). Same (a ∷ b ∷ rest) x rest) (says_same _ _ k) (again_lu a b rest r s)
    go true false true false p q r s k = absurd cc
    go true false false ub p q r s k = absurd cc
    go false lb true false p q r s k = absurd cc
    go false lb false ub p q r s k = absurd cc

pub suffix_again : (suffix rest : List ℕ) (says : Bool × Bool) → suffix_of suffix ≡ Some says → Stops suffix rest → suffix_at (suffix ++ rest) ≡ (says, rest)
suffix_again [] rest says e h = subst (λ (x : Bool × Bool). Same rest x rest) (says_same _ _ e) (again_none rest h)
suffix_again (a ∷ []) rest says e h = one_again a says rest h e
suffix_again (a ∷ b ∷ []) rest says e h = two_again a b says rest e
suffix_again (a ∷ b ∷ c ∷ r) rest says e h = absurd cc

-- what no name goes on with, no suffix does
name_u : (b : ℕ) → is_u b ≡ true → is_name_byte b ≡ true
unfolding is_u is_name_byte is_letter is_digit
name_u b h = grind (arith, nat_tests)

name_l : (b : ℕ) → is_l b ≡ true → is_name_byte b ≡ true
unfolding is_l is_name_byte is_letter is_digit
name_l b h = grind (arith, nat_tests)

no_u : (b : ℕ) → is_name_byte b ≡ false → is_u b ≡ false
no_u b h = go (is_u b) refl
  where
    go : (c : Bool) → is_u b ≡ c → c ≡ false
    go true e = absurd (let k = name_u b e in cc)
    go false e = refl

no_l : (b : ℕ) → is_name_byte b ≡ false → is_l b ≡ false
no_l b h = go (is_l b) refl
  where
    go : (c : Bool) → is_l b ≡ c → c ≡ false
    go true e = absurd (let k = name_l b e in cc)
    go false e = refl

abbrev maybe_both : Bool → Option (Bool × Bool)
maybe_both c = cond c (Some (true, true)) None

longer : (s : List ℕ) (b : ℕ) → is_u b ≡ false → is_l b ≡ false → suffix_of (s ++ b ∷ []) ≡ None
longer [] b u l = rw (u, l) refl
longer (a ∷ []) b u l = rw (u, l) (go (is_u a) (is_l a))
  where
    go : (x y : Bool) → maybe_both ((x && false) || (y && false)) ≡ None
    go true true = refl
    go true false = refl
    go false true = refl
    go false false = refl
longer (a ∷ c ∷ []) b u l = refl
longer (a ∷ c ∷ d ∷ s) b u l = refl

pub no_name_stops : (suffix rest : List ℕ) → begins is_name_byte rest ≡ false → Stops suffix rest
no_name_stops suffix rest h b r e =
    let k : is_name_byte b ≡ false = ap (begins is_name_byte) (sym e) ∙ h in longer suffix b (no_u b k) (no_l b k)

pub one_stops : (suffix rest : List ℕ) (b : ℕ) → suffix_of (suffix ++ b ∷ []) ≡ None → Stops suffix (b ∷ rest)
one_stops suffix rest b h c r e = let k : b ≡ c = cc in subst (λ (x : ℕ). suffix_of (suffix ++ x ∷ []) ≡ None) k h

-- ---- whole numbers

module _ (fresh : Bool) (text : List ℕ) (base : ℕ) (ds more : List ℕ) (d : Digits text base ds more) (lt : value_of base ds < 2 ^ 32) where
  tail_right : (says : Bool × Bool) (rest : List ℕ) → Suffix more says rest → begins_long_long more ≡ false → begins_with 46 more ≡ false → (t : List ℕ) → rest ≡ t → begins is_name_byte t ≡ true →
      Right (Spelled fresh text) (Faulty fresh text) (Err (fault E01 t))
  tail_right says rest s n m [] e h = absurd cc
  tail_right says rest s n m (b ∷ r) e h = faults (fault E01 (b ∷ r)) (tail s.suffix b r d lt n m (s.parts ∙ ap (λ (x : List ℕ). s.suffix ++ x) e) s.is (s.ends b r e) h)

  number_with_right : Right (Spelled fresh text) (Faulty fresh text) (number_with text (value_of base ds) more)
  unfolding number_with
  number_with_right = go (begins_long_long more) (begins_with 46 more) refl refl
    where
      s : Suffix more (suffix_at more).0 (suffix_at more).1
      s = suffix_right more

      go : (a b : Bool) → begins_long_long more ≡ a → begins_with 46 more ≡ b → Right (Spelled fresh text) (Faulty fresh text)
          (cond (a || b) (Err (fault E06 text)) (cond (begins is_name_byte (suffix_at more).1) (Err (fault E01 (suffix_at more).1)) (Ok (number_kind (value_of base ds) (suffix_at more).0, (suffix_at more).1))))
      go true b p q = faults (fault E06 text) (long_long d lt p)
      go false true p q = faults (fault E06 text) (point d lt q)
      go false false p q = either (begins is_name_byte (suffix_at more).1) _ _ (λ h. tail_right (suffix_at more).0 (suffix_at more).1 s p q (suffix_at more).1 refl h)
          (λ h. done (number s.suffix d lt p q s.parts s.is h))

pub number_right : (fresh : Bool) (text : List ℕ) → begins is_digit text ≡ true → Right (Spelled fresh text) (Faulty fresh text) (number_at text)
unfolding number_at
number_right fresh text h =
    let d = digits_right text h in
    either (ltb (value_of (digits_at text).0 (digits_at text).1) (2 ^ 32)) _ _
    (λ e. number_with_right fresh text (digits_at text).0 (digits_at text).1 (digits_at text).2 d (ltb_yes _ _ e))
    (λ e. faults (fault E02 text) (large d (ltb_no _ _ e)))

abbrev number_by : List ℕ → ℕ → List ℕ → Read Kind
number_by text v more = cond (ltb v (2 ^ 32)) (number_with text v more) (Err (fault E02 text))

at_digits : {text : List ℕ} {base : ℕ} {ds more : List ℕ} → Digits text base ds more → number_at text ≡ number_by text (value_of base ds) more
unfolding number_at
at_digits {text = text} d = ap (λ (x : ℕ × List ℕ × List ℕ). number_by text (value_of x.0 x.1) x.2) (digits_again d)

pub read_large : {text : List ℕ} {base : ℕ} {ds more : List ℕ} → Digits text base ds more → 2 ^ 32 ≤ value_of base ds → number_at text ≡ Err (fault E02 text)
read_large d h = at_digits d ∙ rw (le-ltb _ _ h) refl

at_small : {text : List ℕ} {base : ℕ} {ds more : List ℕ} → Digits text base ds more → value_of base ds < 2 ^ 32 → number_at text ≡ number_with text (value_of base ds) more
at_small d h = at_digits d ∙ rw (lt-ltb _ _ h) refl

abbrev choice : List ℕ → ℕ → List ℕ → Bool → Bool → Read Kind
choice text v more a b = cond (a || b) (Err (fault E06 text)) (cond (begins is_name_byte (suffix_at more).1) (Err (fault E01 (suffix_at more).1)) (Ok (number_kind v (suffix_at more).0, (suffix_at more).1)))

with_long : (text : List ℕ) (v : ℕ) (more : List ℕ) → begins_long_long more ≡ true → number_with text v more ≡ Err (fault E06 text)
unfolding number_with
with_long text v more h = rw h refl

with_point : (text : List ℕ) (v : ℕ) (more : List ℕ) → begins_with 46 more ≡ true → number_with text v more ≡ Err (fault E06 text)
unfolding number_with
with_point text v more h = go (begins_long_long more) (begins_with 46 more) h
  where
    go : (a b : Bool) → b ≡ true → choice text v more a b ≡ Err (fault E06 text)
    go true b e = refl
    go false true e = refl
    go false false e = absurd cc

pub read_long_long : {text : List ℕ} {base : ℕ} {ds more : List ℕ} → Digits text base ds more → value_of base ds < 2 ^ 32 → begins_long_long more ≡ true → number_at text ≡ Err (fault E06 text)
read_long_long {text = text} d h e = at_small d h ∙ with_long text _ _ e

pub read_point : {text : List ℕ} {base : ℕ} {ds more : List ℕ} → Digits text base ds more → value_of base ds < 2 ^ 32 → begins_with 46 more ≡ true → number_at text ≡ Err (fault E06 text)
read_point {text = text} d h e = at_small d h ∙ with_point text _ _ e

-- a number that a name byte doesn't follow is no long long
with_suffix : (text : List ℕ) (v : ℕ) (more : List ℕ) (says : Bool × Bool) (rest : List ℕ) → begins_long_long more ≡ false → begins_with 46 more ≡ false → suffix_at more ≡ (says, rest) →
    number_with text v more ≡ cond (begins is_name_byte rest) (Err (fault E01 rest)) (Ok (number_kind v says, rest))
unfolding number_with
with_suffix text v more says rest a b e = rw (a, b, e) refl

pub read_number : {text : List ℕ} {base : ℕ} {ds more : List ℕ} (suffix rest : List ℕ) (says : Bool × Bool) → Digits text base ds more → value_of base ds < 2 ^ 32 → begins_long_long more ≡ false → begins_with 46 more ≡ false →
    more ≡ suffix ++ rest → suffix_of suffix ≡ Some says → begins is_name_byte rest ≡ false → number_at text ≡ Ok (number_kind (value_of base ds) says, rest)
read_number {text = text} {base = base} {ds = ds} {more = more} suffix rest says d lt a b e f h =
    let s : suffix_at more ≡ (says, rest) = ap suffix_at e ∙ suffix_again suffix rest says f (no_name_stops suffix rest h) in
    at_small d lt ∙ with_suffix text (value_of base ds) more says rest a b s ∙ rw h refl

pub read_tail : {text : List ℕ} {base : ℕ} {ds more : List ℕ} (suffix : List ℕ) (b : ℕ) (rest : List ℕ) (says : Bool × Bool) → Digits text base ds more → value_of base ds < 2 ^ 32 → begins_long_long more ≡ false → begins_with 46 more ≡ false →
    more ≡ suffix ++ (b ∷ rest) → suffix_of suffix ≡ Some says → suffix_of (suffix ++ b ∷ []) ≡ None → is_name_byte b ≡ true → number_at text ≡ Err (fault E01 (b ∷ rest))
read_tail {text = text} {base = base} {ds = ds} {more = more} suffix b rest says d lt p q e f n h =
    let s : suffix_at more ≡ (says, b ∷ rest) = ap suffix_at e ∙ suffix_again suffix (b ∷ rest) says f (one_stops suffix rest b n) in
    at_small d lt ∙ with_suffix text (value_of base ds) more says (b ∷ rest) p q s ∙ rw h refl
