-- Character constants and strings, as tokens.
use Rattle.std.proofs.Common.{◌≡◌, ℕ, ◌<◌, Bool, false, eqb, List, [], ◌∷◌, length, Ok, Err, refl, subst}
use Rattle.std.proofs.lemmas.Bool.{eqb-true}
use Rattle.c_lex.specs.declared.token.Kind.TheVariants as kind
use Rattle.c_lex.specs.Classes.{begins_with}
use Rattle.c_lex.specs.Spelling.{Item, IsCut, Items}
use Rattle.c_lex.specs.Tokens.{Spelled, char, str, Faulty, char_bad, char_second, char_cut, char_open, str_bad, str_cut}
use Rattle.c_lex.specs.Reading.{◌>>=◌, fault, close_char, char_at, string_at}
use Rattle.c_lex.proofs.Right.{Right, done, faults, either, and_so}
use Rattle.c_lex.proofs.LiteralLaws.{IsBad, ItemFault, is_cut, is_bad, item_answers, item_read, cut_read, bad_read, string_answers}

module _ (fresh : Bool) (text body : List ℕ) where
  char_fault : text ≡ 39 ∷ body → (code left : ℕ) → ItemFault (length text) 39 body code left → Faulty fresh text code left
  char_fault e code left (is_cut c) = char_cut e c
  char_fault e code left (is_bad b) = char_bad body e b.none b.whole

  close_right : text ≡ 39 ∷ body → (v : ℕ) (r : List ℕ) → Item 39 body v r → Right (Spelled fresh text) (Faulty fresh text) (close_char (length text) v r)
  close_right e v [] i = faults (record { code = 1; left = length text }) (char_open e i)
  close_right e v (b ∷ r) i = either (eqb b 39) (Ok (kind.Char v, r)) (Err (fault 1 (b ∷ r)))
      (λ h. done (char e (subst (λ (x : ℕ). Item 39 body v (x ∷ r)) (eqb-true b 39 h) i)))
      (λ h. faults (fault 1 (b ∷ r)) (char_second b r e i h))

  pub char_right : text ≡ 39 ∷ body → Right (Spelled fresh text) (Faulty fresh text) (char_at (length text) body)
  unfolding char_at
  char_right e = and_so _ (item_answers (length text) 39 body) (λ code left i. char_fault e code left i) (λ v r i. close_right e v r i)

  string_fault_at : text ≡ 34 ∷ body → (code left : ℕ) (vs at : List ℕ) → Items 34 body vs at → begins_with 34 at ≡ false → ItemFault (length text) 34 at code left → Faulty fresh text code left
  string_fault_at e code left vs at is q (is_cut c) = str_cut vs at e is c
  string_fault_at e code left vs at is q (is_bad h) = str_bad vs at e is q h.none h.whole

  pub string_right : text ≡ 34 ∷ body → (n : ℕ) → length body < n → Right (Spelled fresh text) (Faulty fresh text) (string_at (length text) n body >>= λ x. Ok (kind.Str x.0, x.1))
  string_right e n lt = and_so _ (string_answers (length text) n body lt) (λ code left f. string_fault_at e code left f.before f.at f.items f.closes f.is) (λ vs rest is. done (str e is))

pub read_char : (cut v : ℕ) (body rest : List ℕ) → Item 39 body v (39 ∷ rest) → char_at cut body ≡ Ok (kind.Char v, rest)
unfolding char_at
read_char cut v body rest i = rw (item_read cut i) refl

pub read_char_bad : (cut : ℕ) (at : List ℕ) → IsBad 39 at → char_at cut at ≡ Err (fault 1 at)
unfolding char_at
read_char_bad cut at h = rw (bad_read cut 39 at h) refl

pub read_char_second : (cut v b : ℕ) (body rest : List ℕ) → Item 39 body v (b ∷ rest) → eqb b 39 ≡ false → char_at cut body ≡ Err (fault 1 (b ∷ rest))
unfolding char_at
read_char_second cut v b body rest i h = rw (item_read cut i, h) refl

pub read_char_cut : (cut : ℕ) (body : List ℕ) → IsCut body → char_at cut body ≡ Err (record { code = 1; left = cut })
unfolding char_at
read_char_cut cut body c = rw (cut_read cut 39 c) refl

pub read_char_open : (cut v : ℕ) (body : List ℕ) → Item 39 body v [] → char_at cut body ≡ Err (record { code = 1; left = cut })
unfolding char_at
read_char_open cut v body i = rw (item_read cut i) refl
