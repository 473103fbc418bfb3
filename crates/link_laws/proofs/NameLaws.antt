-- Symbols are found by their names.
use Rattle.std.proofs.Common.{◌≡◌, ◌≢◌, ℕ, zero, suc, ◌+◌, ◌<◌, ◌≤◌, ◌&&◌, Bool, true, false, cond, List, [], ◌∷◌, length, map, get_or, count_by, sum_by, Contains, All, bytes_eq, Option, Some, None, if◌then◌else◌, refl, sym, ap, ◌∙◌, subst, true≢false, arith}
use Rattle.std.proofs.lemmas.List.Elements.{All-head, All-tail}
use Rattle.std.proofs.lemmas.List.Sums.{sum_by-cons}
use Rattle.ns_types.specs.declared.event.Veneer.{Veneer}
use Rattle.elf_object.specs.declared.object.Home.{Home}
use Rattle.elf_object.specs.declared.object.Home.TheVariants.{Undefined, Text, Init, Absolute}
use Rattle.elf_object.specs.declared.object.Object.{Object}
use Rattle.elf_object.specs.declared.object.Sited.{Sited}
use Rattle.elf_object.specs.declared.object.Symbol.{Symbol}
use Rattle.elf_object.specs.CanLink.{is_defined, definitions, DefinesCode, IsCode}
use Rattle.elf_object.specs.Linked.{or_else, veneer_of, place_in, defined_place, named_in, place_named}
use Rattle.veneer_laws.proofs.Counts.{same_name, equal_names}
use Rattle.link_laws.proofs.Choices.{or_else_some}

module _ (veneers : List Veneer) (name : List ℕ) where
  -- the symbol is a definition of the name
  is_it : Symbol → Bool
  is_it s = bytes_eq s.name name && is_defined s.home

  counted : (s : Symbol) (ss : List Symbol) → count_by (λ x. bytes_eq x.name name && is_defined x.home) (s ∷ ss) ≡ cond (bytes_eq s.name name && is_defined s.home) 1 0 + count_by (λ x. bytes_eq x.name name && is_defined x.home) ss
  counted s ss = sum_by-cons (λ x. cond (bytes_eq x.name name && is_defined x.home) 1 0) s ss

  -- the number of definitions among symbols
  abbrev count : List Symbol → ℕ
  count ss = count_by (λ x. bytes_eq x.name name && is_defined x.home) ss

  -- ---- where a name isn't defined

  none_step : (s : Sited) (x : Symbol) (h : Home) (b : Bool) (rest : Option ℕ) (n : ℕ) → cond (b && is_defined h) 1 0 + n ≡ 0 → (n ≡ 0 → rest ≡ None) → or_else (if b then place_in veneers s x.name x.value h else None) rest ≡ None
  none_step s x Undefined true rest n e ih = ih (omega (arith, e))
  none_step s x Text true rest n e ih = absurd (omega (arith, e))
  none_step s x Init true rest n e ih = absurd (omega (arith, e))
  none_step s x Absolute true rest n e ih = absurd (omega (arith, e))
  none_step s x h false rest n e ih = ih (omega (arith, e))

  none_in : (s : Sited) (ss : List Symbol) → count ss ≡ 0 → named_in veneers s ss name ≡ None
  none_in s [] e = refl
  none_in s (x ∷ ss) e =
      none_step s x x.home (bytes_eq x.name name) (named_in veneers s ss name) (count ss) (sym (counted x ss) ∙ e) (none_in s ss)

  -- ---- where it is

  abbrev pub Is : Option ℕ → Type 0
  Is o = (p : ℕ) × (o ≡ Some p)

  or_is : (a : Option ℕ) (p : ℕ) (rest : Option ℕ) → Is (or_else (or_else a (Some p)) rest)
  or_is None p rest = (p, refl)
  or_is (Some q) p rest = (q, refl)

  some_step : (s : Sited) (x : Symbol) (h : Home) (b : Bool) (rest : Option ℕ) (n : ℕ) → 1 ≤ cond (b && is_defined h) 1 0 + n → (1 ≤ n → Is rest) → Is (or_else (if b then place_in veneers s x.name x.value h else None) rest)
  some_step s x Undefined true rest n e ih = ih (omega (arith, e))
  some_step s x Text true rest n e ih = or_is (veneer_of veneers x.name) (s.text_at + x.value) rest
  some_step s x Init true rest n e ih = or_is (veneer_of veneers x.name) (s.init_at + x.value) rest
  some_step s x Absolute true rest n e ih = (x.value, refl)
  some_step s x h false rest n e ih = ih (omega (arith, e))

  some_in : (s : Sited) (ss : List Symbol) → 1 ≤ count ss → Is (named_in veneers s ss name)
  some_in s [] e = absurd (omega (arith, e))
  some_in s (x ∷ ss) e =
      some_step s x x.home (bytes_eq x.name name) (named_in veneers s ss name) (count ss) (subst (λ n. 1 ≤ n) (counted x ss) e) (some_in s ss)

  or_some : (o rest : Option ℕ) (n m : ℕ) → 1 ≤ n + m → (1 ≤ n → Is o) → (n ≡ 0 → o ≡ None) → (1 ≤ m → Is rest) → Is (or_else o rest)
  or_some o rest zero m e is none ih = subst (λ x. Is (or_else x rest)) (sym (none refl)) (ih (omega (arith, e)))
  or_some o rest (suc n) m e is none ih = let i = is (omega arith) in subst (λ x. Is (or_else x rest)) (sym i.1) (i.0, refl)

  -- a defined name has a place
  pub some_named : (all : List Sited) → 1 ≤ definitions (map (λ s. s.object) all) name → Is (place_named veneers all name)
  some_named [] e = absurd (omega (arith, e))
  some_named (s ∷ all) e =
      or_some (named_in veneers s s.object.symbols name) (place_named veneers all name) (count s.object.symbols) (definitions (map (λ s. s.object) all) name)
      (subst (λ n. 1 ≤ n) (sum_by-cons (λ o. count o.symbols) s.object (map (λ s. s.object) all)) e)
      (some_in s s.object.symbols) (none_in s s.object.symbols) (some_named all)

  -- ---- the place of code

  -- the place of code at a value
  abbrev pub code_at : Sited → ℕ → Option ℕ
  code_at s value = or_else (veneer_of veneers name) (Some (s.text_at + value))

  one_here : (x : Symbol) → x.home ≡ Text → x.name ≡ name → ◌≡◌ {A = ℕ} (cond (bytes_eq x.name name && is_defined x.home) 1 0) 1
  one_here x h n = rw h (by (bytes_eq x.name name) (ap (λ m. bytes_eq m name) n ∙ same_name name))
    where
      by : (b : Bool) → b ≡ true → ◌≡◌ {A = ℕ} (cond (b && true) 1 0) 1
      by true e = refl
      by false e = absurd (true≢false (sym e))

  -- a symbol that is there is counted
  counts : (ss : List Symbol) (x : Symbol) (k : ℕ) → k < length ss → get_or ss k x ≡ x → x.home ≡ Text → x.name ≡ name → 1 ≤ count ss
  counts [] x k lt e h n = absurd (omega (arith, lt))
  counts (y ∷ ss) x zero lt e h n =
      let one = one_here y (ap (λ z. z.home) e ∙ h) (ap (λ z. z.name) e ∙ n) in omega (arith, one, counted y ss)
  counts (y ∷ ss) x (suc k) lt e h n =
      let more = counts ss x k (omega (arith, lt)) e h n in omega (arith, more, counted y ss)

  found_step : (s : Sited) (x : Symbol) (rest : Option ℕ) (b : Bool) (h : Home) → b ≡ true → h ≡ Text → x.name ≡ name → or_else (if b then place_in veneers s x.name x.value h else None) rest ≡ code_at s x.value
  found_step s x rest true Text e h n =
      or_else_some (veneer_of veneers x.name) (s.text_at + x.value) rest ∙ ap (λ m. or_else (veneer_of veneers m) (Some (s.text_at + x.value))) n
  found_step s x rest true Undefined e h n = cc
  found_step s x rest true Init e h n = cc
  found_step s x rest true Absolute e h n = cc
  found_step s x rest false h e ht n = absurd (true≢false (sym e))

  skip_step : (s : Sited) (x : Symbol) (rest : Option ℕ) (b : Bool) (h : Home) (n : ℕ) → cond (b && is_defined h) 1 0 + n ≤ 1 → 1 ≤ n → or_else (if b then place_in veneers s x.name x.value h else None) rest ≡ rest
  skip_step s x rest true Undefined n le more = refl
  skip_step s x rest true Text n le more = absurd (omega (arith, le, more))
  skip_step s x rest true Init n le more = absurd (omega (arith, le, more))
  skip_step s x rest true Absolute n le more = absurd (omega (arith, le, more))
  skip_step s x rest false h n le more = refl

  code_in : (s : Sited) (ss : List Symbol) (x : Symbol) (k : ℕ) → k < length ss → get_or ss k x ≡ x → x.home ≡ Text → x.name ≡ name → count ss ≤ 1 → named_in veneers s ss name ≡ code_at s x.value
  code_in s [] x k lt e h n le = absurd (omega (arith, lt))
  code_in s (y ∷ ss) x zero lt e h n le =
      found_step s y (named_in veneers s ss name) (bytes_eq y.name name) y.home (ap (λ z. bytes_eq z.name name) e ∙ (ap (λ m. bytes_eq m name) n ∙ same_name name)) (ap (λ z. z.home) e ∙ h) (ap (λ z. z.name) e ∙ n)
      ∙ ap (λ z. code_at s z.value) e
  code_in s (y ∷ ss) x (suc k) lt e h n le =
      let more = counts ss x k (omega (arith, lt)) e h n in
      let few : count ss ≤ 1 = omega (arith, le, counted y ss) in
      skip_step s y (named_in veneers s ss name) (bytes_eq y.name name) y.home (count ss) (omega (arith, le, counted y ss)) more ∙ code_in s ss x k (omega (arith, lt)) e h n few

  -- how often the first object and the others define the name
  split : (s : Sited) (all : List Sited) → definitions (map (λ s. s.object) (s ∷ all)) name ≡ count s.object.symbols + definitions (map (λ s. s.object) all) name
  split s all = sum_by-cons (λ o. count o.symbols) s.object (map (λ s. s.object) all)

  code_counts : (all : List Sited) (s : Sited) (value k : ℕ) → k < length all → get_or all k s ≡ s → DefinesCode s.object name value → 1 ≤ definitions (map (λ s. s.object) all) name
  code_counts [] s value k lt e d = absurd (omega (arith, lt))
  code_counts (y ∷ all) s value zero lt e d =
      let here = subst (λ z. 1 ≤ count z.object.symbols) (sym e) (counts s.object.symbols d.symbol d.among.0 d.among.1 d.among.2 d.home_is d.name_is) in
      omega (arith, here, split y all)
  code_counts (y ∷ all) s value (suc k) lt e d =
      let more = code_counts all s value k (omega (arith, lt)) e d in omega (arith, more, split y all)

  code_here : (s : Sited) (value : ℕ) → DefinesCode s.object name value → count s.object.symbols ≤ 1 → named_in veneers s s.object.symbols name ≡ code_at s value
  code_here s value d le =
      code_in s s.object.symbols d.symbol d.among.0 d.among.1 d.among.2 d.home_is d.name_is le ∙ ap (code_at s) d.value_is

  -- the place of a name that is defined once, as code
  pub code_named : (all : List Sited) (s : Sited) (value k : ℕ) → k < length all → get_or all k s ≡ s → DefinesCode s.object name value → definitions (map (λ s. s.object) all) name ≤ 1 → place_named veneers all name ≡ code_at s value
  code_named [] s value k lt e d le = absurd (omega (arith, lt))
  code_named (y ∷ all) s value zero lt e d le =
      let few : count y.object.symbols ≤ 1 = omega (arith, le, split y all) in
      let there : named_in veneers y y.object.symbols name ≡ code_at s value = subst (λ z. count z.object.symbols ≤ 1 → named_in veneers z z.object.symbols name ≡ code_at s value) (sym e) (code_here s value d) few in
      ap (λ o. or_else o (place_named veneers all name)) there ∙ or_else_some (veneer_of veneers name) (s.text_at + value) (place_named veneers all name)
  code_named (y ∷ all) s value (suc k) lt e d le =
      let more = code_counts all s value k (omega (arith, lt)) e d in
      let none : count y.object.symbols ≡ 0 = omega (arith, le, more, split y all) in
      ap (λ o. or_else o (place_named veneers all name)) (none_in y y.object.symbols none) ∙ code_named all s value k (omega (arith, lt)) e d (omega (arith, le, split y all))

-- ---- the address of a veneer

pub veneer_all : (P : ℕ → Type 0) (veneers : List Veneer) (name : List ℕ) (a : ℕ) → All (λ v. P v.address) veneers → veneer_of veneers name ≡ Some a → P a
veneer_all P [] name a all e = cc
veneer_all P (v ∷ vs) name a all e =
    by (bytes_eq v.name name) e (veneer_all P vs name a (All-tail (λ w. P w.address) v vs all))
  where
    by : (b : Bool) → (if b then Some v.address else veneer_of vs name) ≡ Some a → (veneer_of vs name ≡ Some a → P a) → P a
    by true is ih = let same : v.address ≡ a = cc in subst P same (All-head (λ w. P w.address) v vs all)
    by false is ih = ih is

pub veneer_none : (veneers : List Veneer) (name : List ℕ) → All (λ v. v.name ≢ name) veneers → veneer_of veneers name ≡ None
veneer_none [] name apart = refl
veneer_none (v ∷ vs) name apart =
    by (bytes_eq v.name name) refl (veneer_none vs name (All-tail (λ w. w.name ≢ name) v vs apart))
  where
    by : (b : Bool) → bytes_eq v.name name ≡ b → veneer_of vs name ≡ None → (if b then Some v.address else veneer_of vs name) ≡ None
    by true is ih = absurd (All-head (λ w. w.name ≢ name) v vs apart (equal_names v.name name is))
    by false is ih = ih
