-- What a reader answers is right.
use Rattle.std.proofs.Common.{◌≡◌, ℕ, ◌<◌, ◌≤◌, Bool, true, false, cond, ltb, List, Ok, Err, refl, subst}
use Rattle.std.proofs.lemmas.Bool.{ltb-true, ltb-false}
use Rattle.c_lex.specs.declared.fault.Fault.{Fault}
use Rattle.c_lex.specs.Reading.{◌>>=◌, Read}

pub record Right {A : Type 0} (P : A → List ℕ → Type 0) (Q : ℕ → ℕ → Type 0) (r : Read A) : Type 0 where
  pub holds : (a : A) (rest : List ℕ) → r ≡ Ok (a, rest) → P a rest
  pub fails : (f : Fault) → r ≡ Err f → Q f.code f.left

abbrev found : {A : Type 0} → A × List ℕ → Read A
found x = Ok x

same_found : {A : Type 0} (x y : A × List ℕ) → found x ≡ found y → x ≡ y
same_found x y e = cc

abbrev failed : (A : Type 0) → Fault → Read A
failed A f = Err f

same_failed : {A : Type 0} (f g : Fault) → failed A f ≡ failed A g → f ≡ g
same_failed f g e = cc

at_ok : {A : Type 0} (P : A → List ℕ → Type 0) (x y : A × List ℕ) → P x.0 x.1 → x ≡ y → P y.0 y.1
at_ok P x y h e = subst (λ z. P z.0 z.1) e h

pub done : {A : Type 0} {P : A → List ℕ → Type 0} {Q : ℕ → ℕ → Type 0} {a : A} {rest : List ℕ} → P a rest → Right P Q (Ok (a, rest))
done {A = A} {P = P} {a = a} {rest = rest} h = record { holds = λ b r e. at_ok P (a, rest) (b, r) h (same_found _ _ e); fails = λ f e. absurd cc }

pub faults : {A : Type 0} {P : A → List ℕ → Type 0} {Q : ℕ → ℕ → Type 0} (f : Fault) → Q f.code f.left → Right P Q (Err f)
faults {A = A} {Q = Q} f h = record { holds = λ b r e. absurd cc; fails = λ g e. subst (λ (x : Fault). Q x.code x.left) (same_failed {A = A} f g e) h }

-- either way
pub either : {A : Type 0} {P : A → List ℕ → Type 0} {Q : ℕ → ℕ → Type 0} (b : Bool) (x y : Read A) → (b ≡ true → Right P Q x) → (b ≡ false → Right P Q y) → Right P Q (cond b x y)
either true x y f g = f refl
either false x y f g = g refl

pub weaker : {A : Type 0} {P P' : A → List ℕ → Type 0} {Q Q' : ℕ → ℕ → Type 0} {r : Read A} → ((a : A) (rest : List ℕ) → P a rest → P' a rest) → ((code left : ℕ) → Q code left → Q' code left) → Right P Q r → Right P' Q' r
weaker k m h = record { holds = λ b rest e. k b rest (h.holds b rest e); fails = λ f e. m f.code f.left (h.fails f e) }

same_err : {A B : Type 0} (e g : Fault) → failed B e ≡ failed B g → failed A e ≡ failed A g
same_err e g q = cc

pub and_so : {A B : Type 0} {P : A → List ℕ → Type 0} {P' : B → List ℕ → Type 0} {Q Q' : ℕ → ℕ → Type 0} {r : Read A} (f : A × List ℕ → Read B) →
    Right P Q r → ((code left : ℕ) → Q code left → Q' code left) → ((a : A) (rest : List ℕ) → P a rest → Right P' Q' (f (a, rest))) → Right P' Q' (r >>= f)
and_so {P = P} {r = Ok x} f h m k = k x.0 x.1 (h.holds x.0 x.1 refl)
and_so {r = Err e} f h m k = record { holds = λ b rest q. absurd cc; fails = λ g q. m g.code g.left (h.fails g (same_err e g q)) }

pub ltb_no : (a b : ℕ) → ltb a b ≡ false → b ≤ a
ltb_no a b e = ltb-false a b e

pub ltb_yes : (a b : ℕ) → ltb a b ≡ true → a < b
ltb_yes a b e = ltb-true a b e
