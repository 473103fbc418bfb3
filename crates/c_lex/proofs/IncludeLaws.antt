-- Includes.
use Rattle.std.proofs.Common.{◌≡◌, ℕ, Bool, true, false, cond, ◌&&◌, ◌||◌, eqb, List, [], ◌∷◌, ◌++◌, length, take, drop, Option, Some, None, Ok, Err, refl, sym, ap, subst, ◌∙◌}
use Rattle.std.proofs.lemmas.Bool.{eqb-true}
use Rattle.std.proofs.lemmas.Bool.Decides.{Decides-eqb}
use Rattle.std.proofs.lemmas.Slice.Eq.{slice_eq-Decides}
use Rattle.std.proofs.lemmas.List.{take_at, drop_at, take-append-drop}
use Rattle.std.specs.Prelude.{codes}
use Rattle.c_lex.specs.declared.token.Kind.TheVariants as kind
use Rattle.c_lex.specs.declared.token.Header.{Header}
use Rattle.c_lex.specs.declared.token.Header.TheVariants as header
use Rattle.c_lex.specs.Classes.{is_blank, begins}
use Rattle.c_lex.specs.Spelling.{header_text}
use Rattle.c_lex.specs.Tokens.{Spelled, include, Include, Faulty, hash, ends_line}
use Rattle.c_lex.specs.Reading.{same_text, fault, front, back, strip, header_found, header_at, if_line_ends, named_header, include_at, included, hash_at}
use Rattle.c_lex.proofs.RunLaws.{run_is, run_back}
use Rattle.c_lex.proofs.Right.{Right, done, faults}

same_is : (a b : List ℕ) → same_text a b ≡ true → a ≡ b
same_is a b = (slice_eq-Decides Decides-eqb a b (same_text a b) refl).0

is_same : (a b : List ℕ) → a ≡ b → same_text a b ≡ true
is_same a b = (slice_eq-Decides Decides-eqb a b (same_text a b) refl).1

same_some : {A : Type 0} (x y : A) → Some x ≡ Some y → x ≡ y
same_some x y e = cc

pub strip_some : (text p r : List ℕ) → strip text p ≡ Some r → text ≡ p ++ r
unfolding strip
strip_some text p r e = go (same_text (take (length p) text) p) refl e
  where
    go : (c : Bool) → same_text (take (length p) text) p ≡ c → cond c (Some (drop (length p) text)) None ≡ Some r → text ≡ p ++ r
    go true h k = sym (take-append-drop (length p) text) ∙ ap (λ (t : List ℕ). t ++ drop (length p) text) (same_is _ _ h) ∙ ap (λ (t : List ℕ). p ++ t) (same_some (drop (length p) text) r k)
    go false h k = absurd cc

pub strip_again : (p r : List ℕ) → strip (p ++ r) p ≡ Some r
unfolding strip
strip_again p r = rw (is_same _ _ (take_at p r (length p) refl), drop_at p r (length p) refl) refl

header_some : (text : List ℕ) (h : Header) (r : List ℕ) → header_at text ≡ Some (h, r) → text ≡ header_text h ++ r
unfolding header_at
header_some text h r e = go (strip text (codes "<stdint.h>")) (strip text (codes "<arm_cmse.h>")) refl refl e
  where
    go : (a b : Option (List ℕ)) → strip text (codes "<stdint.h>") ≡ a → strip text (codes "<arm_cmse.h>") ≡ b → header_found a b ≡ Some (h, r) → text ≡ header_text h ++ r
    go (Some x) b p q k = subst (λ (y : Header × List ℕ). text ≡ header_text y.0 ++ y.1) (same_some (header.StdInt, x) (h, r) k) (strip_some text (codes "<stdint.h>") x p)
    go None (Some x) p q k = subst (λ (y : Header × List ℕ). text ≡ header_text y.0 ++ y.1) (same_some (header.ArmCmse, x) (h, r) k) (strip_some text (codes "<arm_cmse.h>") x q)
    go None None p q k = absurd cc

other_header : (r : List ℕ) → strip (codes "<arm_cmse.h>" ++ r) (codes "<stdint.h>") ≡ None
unfolding strip
other_header r = refl

header_again : (h : Header) (r : List ℕ) → header_at (header_text h ++ r) ≡ Some (h, r)
unfolding header_at
header_again header.StdInt r = rw (strip_again (codes "<stdint.h>") r) refl
header_again header.ArmCmse r = rw (other_header r, strip_again (codes "<arm_cmse.h>") r) refl

-- what is read behind a # is an include
pub include_some : (body : List ℕ) (h : Header) (rest : List ℕ) → include_at body ≡ Some (h, rest) → Include (35 ∷ body) h rest
unfolding include_at
include_some body h rest e = first (strip (back is_blank body) (codes "include")) refl e
  where
    third : (r : List ℕ) → back is_blank body ≡ codes "include" ++ r → back is_blank r ≡ header_text h ++ rest → ends_line (back is_blank rest) ≡ true → Include (35 ∷ body) h rest
    third r p q k =
        let a = run_is is_blank body in let b = run_is is_blank r in let c = run_is is_blank rest in
        record {
          before = front is_blank body;
          between = front is_blank r;
          behind = front is_blank rest;
          end = back is_blank rest;
          parts = ap (λ (t : List ℕ). 35 ∷ t) (a.parts ∙ ap (λ (t : List ℕ). front is_blank body ++ t) (p ∙ ap (λ (t : List ℕ). codes "include" ++ t) (b.parts ∙ ap (λ (t : List ℕ). front is_blank r ++ t) q)));
          before_blank = a.each;
          between_blank = b.each;
          rest_parts = c.parts;
          behind_blank = c.each;
          line_ends = k;
        }

    tested : (r : List ℕ) → back is_blank body ≡ codes "include" ++ r → (x : Header × List ℕ) → header_at (back is_blank r) ≡ Some x → (c : Bool) → ends_line (back is_blank x.1) ≡ c → cond c (Some x) None ≡ Some (h, rest) → Include (35 ∷ body) h rest
    tested r p x q true k m =
        let s = same_some x (h, rest) m in
        third r p (header_some (back is_blank r) h rest (q ∙ ap (λ (y : Header × List ℕ). Some y) s)) (ap (λ (y : Header × List ℕ). ends_line (back is_blank y.1)) (sym s) ∙ k)
    tested r p x q false k m = absurd cc

    second : (r : List ℕ) → back is_blank body ≡ codes "include" ++ r → (o : Option (Header × List ℕ)) → header_at (back is_blank r) ≡ o → if_line_ends o ≡ Some (h, rest) → Include (35 ∷ body) h rest
    second r p None q k = absurd cc
    second r p (Some x) q k = tested r p x q (ends_line (back is_blank x.1)) refl k

    first : (o : Option (List ℕ)) → strip (back is_blank body) (codes "include") ≡ o → named_header o ≡ Some (h, rest) → Include (35 ∷ body) h rest
    first None p k = absurd cc
    first (Some r) p k = second r (strip_some _ _ r p) (header_at (back is_blank r)) refl k

-- ---- an include is read again

no_blank_i : (t : List ℕ) → begins is_blank (codes "include" ++ t) ≡ false
unfolding is_blank
no_blank_i t = refl

no_blank_h : (h : Header) (t : List ℕ) → begins is_blank (header_text h ++ t) ≡ false
unfolding is_blank
no_blank_h header.StdInt t = refl
no_blank_h header.ArmCmse t = refl

ends_not_blank : (t : List ℕ) → ends_line t ≡ true → begins is_blank t ≡ false
unfolding is_blank
ends_not_blank [] e = refl
ends_not_blank (a ∷ []) e = let k = eqb-true a 10 e in rw k refl
ends_not_blank (a ∷ b ∷ r) e = go (eqb a 10) (eqb a 47) refl refl e
  where
    go : (x y : Bool) → eqb a 10 ≡ x → eqb a 47 ≡ y → (x || (y && eqb b 47)) ≡ true → (eqb a 32 || eqb a 9 || eqb a 13) ≡ false
    go true y p q k = rw (eqb-true a 10 p) refl
    go false true p q k = rw (eqb-true a 47 q) refl
    go false false p q k = absurd cc

same_tail : (a b : ℕ) (s t : List ℕ) → a ∷ s ≡ b ∷ t → s ≡ t
same_tail a b s t e = cc

pub include_again : (body : List ℕ) (h : Header) (rest : List ℕ) → Include (35 ∷ body) h rest → include_at body ≡ Some (h, rest)
unfolding include_at
include_again body h rest i =
    let inside : List ℕ = i.between ++ (header_text h ++ rest) in
    let body_is : body ≡ i.before ++ (codes "include" ++ inside) = same_tail 35 35 _ _ i.parts in
    let a : back is_blank body ≡ codes "include" ++ inside = run_back (record { parts = body_is; each = i.before_blank; ends = no_blank_i inside }) in
    let b : back is_blank inside ≡ header_text h ++ rest = run_back (record { parts = refl; each = i.between_blank; ends = no_blank_h h rest }) in
    let c : back is_blank rest ≡ i.end = run_back (record { parts = i.rest_parts; each = i.behind_blank; ends = ends_not_blank i.end i.line_ends }) in
    let d : ends_line (back is_blank rest) ≡ true = ap ends_line c ∙ i.line_ends in
    rw (a, strip_again (codes "include") inside, b, header_again h rest, d) refl

same_include : (text : List ℕ) (body : List ℕ) (h : Header) (r : List ℕ) → text ≡ 35 ∷ body → Include text h r → Include (35 ∷ body) h r
same_include text body h r e i = subst (λ (t : List ℕ). Include t h r) e i

pub hash_right : (fresh : Bool) (text body : List ℕ) → text ≡ 35 ∷ body → Right (Spelled fresh text) (Faulty fresh text) (hash_at fresh text body)
unfolding hash_at
hash_right fresh text body e = go fresh refl
  where
    found : fresh ≡ true → (o : Option (Header × List ℕ)) → include_at body ≡ o → Right (Spelled fresh text) (Faulty fresh text) (included text o)
    found f None q = faults (fault 4 text) (hash e (λ h r g i. absurd (let k = include_again body h r (same_include text body h r e i) in cc)))
    found f (Some x) q = done (include f (subst (λ (t : List ℕ). Include t x.0 x.1) (sym e) (include_some body x.0 x.1 q)))

    go : (b : Bool) → fresh ≡ b → Right (Spelled fresh text) (Faulty fresh text) (cond b (included text (include_at body)) (Err (fault 4 text)))
    go true f = found f (include_at body) refl
    go false f = faults (fault 4 text) (hash e (λ h r g i. absurd cc))

pub read_include : (text body : List ℕ) (h : Header) (rest : List ℕ) → text ≡ 35 ∷ body → Include text h rest → hash_at true text body ≡ Ok (kind.Include h, rest)
unfolding hash_at
read_include text body h rest e i = rw (include_again body h rest (same_include text body h rest e i)) refl

pub read_hash : (fresh : Bool) (text body : List ℕ) → text ≡ 35 ∷ body → ((h : Header) (r : List ℕ) → fresh ≡ true → Include text h r → ⊥) → hash_at fresh text body ≡ Err (fault 4 text)
unfolding hash_at
read_hash false text body e h = refl
read_hash true text body e h = go (include_at body) refl
  where
    go : (o : Option (Header × List ℕ)) → include_at body ≡ o → included text o ≡ Err (fault 4 text)
    go None q = refl
    go (Some x) q = absurd (h x.0 x.1 refl (subst (λ (t : List ℕ). Include t x.0 x.1) (sym e) (include_some body x.0 x.1 q)))
