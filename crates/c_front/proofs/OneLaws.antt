-- Sources have at most one program or first fault.
use Rattle.std.proofs.Common.{◌≡◌, ℕ, ◌+◌, List, [], ◌∷◌, Option, Some, None, Result, Ok, Err, refl, sym, ap, ap₂, ◌∙◌, subst}
use Rattle.join_laws.specs.Joined.{joined}
use Rattle.cm_base.specs.declared.place.Place.{Place}
use Rattle.cm_base.specs.declared.place.Refusal.{Refusal}
use Rattle.cm_base.specs.declared.place.Refusal.TheVariants as refusal
use Rattle.c_ast.specs.declared.stmt.External.{External}
use Rattle.c_ast.specs.declared.stmt.Unit.{Unit as Tree}
use Rattle.c_lex.specs.declared.token.Token.{Token}
use Rattle.c_lex.proofs.SplitLaws.{one_list, not_both, one_fault}
use Rattle.c_grammar.specs.declared.tokens.Fault.{Fault}
use Rattle.c_parse.specs.Answer.{read_whole, told}
use Rattle.c_define.specs.Units.{unit_typed}
use Rattle.join_laws.specs.declared.fault.JoinFault.{JoinFault}
use Rattle.join_laws.specs.declared.fault.JoinFault.TheVariants as fails
use Rattle.c_tree.specs.Conditions.{Program, TUnit}
use Rattle.c_rows.specs.Answers.{Checked, fault}
use Rattle.c_front.specs.declared.sources.Source.{Source}
use Rattle.c_front.specs.Front.{AllSay, no_source, next_source, Faults, here, later, Says, no_tokens, some_tokens, TokensSay, no_unit, a_unit, Front, of_source, of_names, of_counts, a_program}

-- ---- one source

same_ok : {A E : Type 0} (a b : A) (r : Result A E) → r ≡ Ok a → r ≡ Ok b → a ≡ b
same_ok a b r p q = cc

same_err : {A E : Type 0} (a b : E) (r : Result A E) → r ≡ Err a → r ≡ Err b → a ≡ b
same_err a b r p q = cc

not_ok_err : {A E : Type 0} (a : A) (b : E) (r : Result A E) → r ≡ Ok a → r ≡ Err b → ⊥
not_ok_err a b r p q = absurd cc

same_fault : (code more : ℕ) (place there : Place) → code ≡ more → place ≡ there → fault {X = TUnit} code place ≡ fault more there
same_fault code more place there p q = ap₂ (λ (n : ℕ) (k : Place). fault {X = TUnit} n k) p q

told_once : (ts : List Token) (f g : Fault) (code more : ℕ) (place there : Place) → f ≡ g → told ts f ≡ (code, place) → told ts g ≡ (more, there) → fault {X = TUnit} code place ≡ fault more there
told_once ts f g code more place there e p q =
    let pair : ◌≡◌ {A = ℕ × Place} (code, place) (more, there) = sym p ∙ ap (told ts) e ∙ q in
    same_fault code more place there (ap (λ (x : ℕ × Place). x.0) pair) (ap (λ (x : ℕ × Place). x.1) pair)

one_of_tokens : (ts : List Token) (a b : Checked TUnit) → TokensSay ts a → TokensSay ts b → a ≡ b
one_of_tokens ts _ _ (no_unit {f = f} {code = code} {place = place} r t) (no_unit {f = g} {code = more} {place = there} q v) =
    told_once ts f g code more place there (same_err f g (read_whole ts) r q) t v
one_of_tokens ts _ b (no_unit {f = f} r t) (a_unit {tree = u} q v) = absurd (not_ok_err u.parts f (read_whole ts) q r)
one_of_tokens ts a _ (a_unit {tree = u} q v) (no_unit {f = f} r t) = absurd (not_ok_err u.parts f (read_whole ts) q r)
one_of_tokens ts a b (a_unit {tree = u} r t) (a_unit {tree = v} q w) =
    let parts : u.parts ≡ v.parts = same_ok u.parts v.parts (read_whole ts) r q in
    sym t ∙ ap (λ (ps : List External). unit_typed (record { parts = ps })) parts ∙ w

pub one_source : (n : ℕ) (text : List ℕ) (a b : Checked TUnit) → Says n text a → Says n text b → a ≡ b
one_source n text _ _ (no_tokens {code = code} {place = place} f) (no_tokens {code = more} {place = there} g) =
    let e = one_fault n text code more place there f g in same_fault code more place there e.0 e.1
one_source n text _ b (no_tokens {code = code} {place = place} f) (some_tokens {tokens = ts} h t) = absurd (not_both n text ts code place h f)
one_source n text a _ (some_tokens {tokens = ts} h t) (no_tokens {code = code} {place = place} f) = absurd (not_both n text ts code place h f)
one_source n text a b (some_tokens {tokens = ts} h t) (some_tokens {tokens = us} k u) =
    one_of_tokens us a b (subst (λ (xs : List Token). TokensSay xs a) (one_list n text ts us h k) t) u

-- ---- all of them

one_said : (n : ℕ) (text : List ℕ) (a b : TUnit) → Says n text (Ok a) → Says n text (Ok b) → a ≡ b
one_said n text a b p q = same_ok a b (Ok a) refl (one_source n text (Ok a) (Ok b) p q)

one_all : (n : ℕ) (ss : List Source) (us vs : List TUnit) → AllSay n ss us → AllSay n ss vs → us ≡ vs
one_all n [] _ _ no_source no_source = refl
one_all n (s ∷ ss) _ _ (next_source {u = u} {us = us} a more) (next_source {u = v} {us = vs} b rest) =
    ap₂ (λ (x : TUnit) (xs : List TUnit). x ∷ xs) (one_said n s.bytes u v a b) (one_all (n + 1) ss us vs more rest)

one_refusal : (s : Source) (code more : ℕ) (place there : Place) → fault {X = TUnit} code place ≡ fault more there
    → refusal.At code s.name place.line place.col ≡ refusal.At more s.name there.line there.col
one_refusal s code more place there e = cc

one_fault_in : (n : ℕ) (ss : List Source) (r q : Refusal) → Faults n ss r → Faults n ss q → r ≡ q
one_fault_in n [] r q f _ = elim f [ ]
one_fault_in n (s ∷ ss) _ _ (here {code = code} {place = place} a) (here {code = more} {place = there} b) =
    one_refusal s code more place there (one_source n s.bytes (fault code place) (fault more there) a b)
one_fault_in n (s ∷ ss) _ q (here {code = code} {place = place} a) (later {u = u} b more) =
    absurd (let e = one_source n s.bytes (fault code place) (Ok u) a b in cc)
one_fault_in n (s ∷ ss) r _ (later {u = u} b more) (here {code = code} {place = place} a) =
    absurd (let e = one_source n s.bytes (fault code place) (Ok u) a b in cc)
one_fault_in n (s ∷ ss) r q (later a more) (later b rest) = one_fault_in (n + 1) ss r q more rest

no_fault_in : (n : ℕ) (ss : List Source) (us : List TUnit) (r : Refusal) → AllSay n ss us → Faults n ss r → ⊥
no_fault_in n [] us r _ f = elim f [ ]
no_fault_in n (s ∷ ss) _ _ (next_source {u = u} a more) (here {code = code} {place = place} b) =
    absurd (let e = one_source n s.bytes (fault code place) (Ok u) b a in cc)
no_fault_in n (s ∷ ss) _ r (next_source {us = us} a more) (later b rest) = no_fault_in (n + 1) ss us r more rest

-- ---- the whole

-- what a join answers, as it is told
abbrev told_join : Result Program JoinFault → Option (Result Program Refusal)
told_join (Ok p) = Some (Ok p)
told_join (Err (fails.Named code name)) = Some (Err (refusal.Named code name))
told_join (Err (fails.Count code found)) = Some (Err (refusal.Count code found))
told_join (Err fails.NoMemory) = None

data Whole (sources : List Source) : Result Program Refusal → Type 0 where
  a_fault : {r : Refusal} → Faults 0 sources r → Whole sources (Err r)
  joins : {us : List TUnit} {what : Result Program Refusal} → AllSay 0 sources us → told_join (joined us) ≡ Some what → Whole sources what

whole_of : (sources : List Source) (a : Result Program Refusal) → Front sources a → Whole sources a
whole_of sources _ (of_source f) = a_fault f
whole_of sources _ (of_names all e) = joins all (ap told_join e)
whole_of sources _ (of_counts all e) = joins all (ap told_join e)
whole_of sources _ (a_program all e) = joins all (ap told_join e)

one_whole : (sources : List Source) (a b : Result Program Refusal) → Whole sources a → Whole sources b → a ≡ b
one_whole sources _ _ (a_fault {r = r} f) (a_fault {r = q} g) = ap Err (one_fault_in 0 sources r q f g)
one_whole sources _ b (a_fault {r = r} f) (joins {us = us} all e) = absurd (no_fault_in 0 sources us r all f)
one_whole sources a _ (joins {us = us} all e) (a_fault {r = r} f) = absurd (no_fault_in 0 sources us r all f)
one_whole sources a b (joins {us = us} all e) (joins {us = vs} both f) =
    let same : us ≡ vs = one_all 0 sources us vs all both in
    let both : Some a ≡ Some b = sym e ∙ ap (λ (ws : List TUnit). told_join (joined ws)) same ∙ f in cc

pub one_front : (sources : List Source) (a b : Result Program Refusal) → Front sources a → Front sources b → a ≡ b
one_front sources a b p q = one_whole sources a b (whole_of sources a p) (whole_of sources b q)
