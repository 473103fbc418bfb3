-- What the parser answers, by what reading the unit gives.
use Rattle.std.proofs.Common.{◌≡◌, ◌≢◌, ℕ, List, [], ◌∷◌, Option, Some, None, Result, Ok, Err, IfOk, refl, ap, sym, ◌∙◌, arith}
use Rattle.cm_base.specs.declared.place.Place.{Place}
use Rattle.c_lex.specs.declared.token.Token.{Token}
use Rattle.c_ast.specs.declared.stmt.External.{External}
use Rattle.c_grammar.specs.declared.tokens.Fault.{Fault}
use Rattle.c_grammar.specs.declared.tokens.Fault.TheVariants.{Syntax, Deep}
use Rattle.c_grammar.specs.declared.tokens.ParseError.{ParseError}
use Rattle.c_grammar.specs.declared.tokens.ParseError.TheVariants as errors
use Rattle.c_grammar.specs.Tokens.{Fails, Read, fault}
use Rattle.c_grammar.specs.Reading.{Unit_so_far, read_unit}
use Rattle.c_grammar.specs.Units.{Derives}
use Rattle.c_grammar.specs.Nesting.{deep_unit}
use Rattle.c_ast.specs.declared.stmt.Unit as the
use Rattle.c_parse.specs.declared.parser.SyntaxFault.{SyntaxFault}
use Rattle.c_parse.specs.declared.parser.SyntaxFault.TheVariants.{At, NoMemory}
use Rattle.c_parse.specs.Answer.{Answers, GivesUnit, GivesFault, to_end, whole_of, read_whole, told, told_error, place_left}

abbrev gives : Unit_so_far → List Token → Read Unit_so_far
gives u rest = Ok (u, rest)

pub ended : (ts : List Token) (u : Unit_so_far) (rest : List Token) → rest ≡ [] → read_unit 200 ts ≡ Ok (u, rest) → read_whole ts ≡ Ok u.1
ended ts u rest e h = rw (h, e) refl

stuck : (ts : List Token) (u : Unit_so_far) (rest : List Token) → rest ≢ [] → read_unit 200 ts ≡ Ok (u, rest) → read_whole ts ≡ Err (fault rest)
stuck ts u [] ne h = absurd (ne refl)
stuck ts u (k ∷ r) ne h = rw h refl

told_by : (ts : List Token) (f : Fault) → read_whole ts ≡ Err f → Answers ts (Err (told_error ts (errors.Fault f))) (read_whole ts)
told_by ts (Syntax n) h = (Syntax n, h, refl)
told_by ts (Deep n) h = (Deep n, h, refl)

pub more_follows : (ts : List Token) (u : Unit_so_far) (rest : List Token) → rest ≢ [] → read_unit 200 ts ≡ Ok (u, rest) → Answers ts (Err (told_error ts (errors.Fault (fault rest)))) (read_whole ts)
more_follows ts u rest ne h = told_by ts (fault rest) (stuck ts u rest ne h)

pub fails : (ts : List Token) (e : ParseError) → Fails e (read_unit 200 ts) → Answers ts (Err (told_error ts e)) (read_whole ts)
fails ts errors.Memory h = tt
fails ts (errors.Fault f) h = told_by ts f (rw h refl)

-- ---- what follows for the units that the tokens derive

abbrev got : List External → Result (List External) Fault
got a = Ok a

abbrev lost : Fault → Result (List External) Fault
lost f = Err f

ended_at : (u : Unit_so_far) (rest : List Token) (all : List External) → to_end u rest ≡ Ok all → (names : List (List ℕ)) × (gives u rest ≡ gives (names, all) [])
ended_at u [] all h = (u.0, ap (λ a. gives (u.0, a) []) (inner u.1 all h))
  where
    inner : (a b : List External) → got a ≡ got b → a ≡ b
    inner a b e = cc
ended_at u (k ∷ r) all h = absurd cc

ended_by : (r : Read Unit_so_far) (all : List External) → whole_of r ≡ Ok all → (names : List (List ℕ)) × (r ≡ gives (names, all) [])
ended_by (Ok x) all h = ended_at x.0 x.1 all h
ended_by (Err f) all h = absurd cc

abbrev pub Sound_law : Type 0
Sound_law = (n : ℕ) (ts : List Token) (u : Unit_so_far) (rest : List Token) → rest ≡ [] → read_unit n ts ≡ Ok (u, rest) → Derives ts u.1

pub derived : Sound_law → (ts : List Token) (r : Result the.Unit SyntaxFault) → Answers ts r (read_whole ts) → IfOk r (λ u. Derives ts u.parts)
derived law ts (Ok u) h = let p = ended_by (read_unit 200 ts) u.parts h in law 200 ts (p.0, u.parts) [] refl p.1
derived law ts (Err e) h = tt

-- ---- what is answered of the units that the tokens derive

same_parts : (a b : List External) → got a ≡ got b → a ≡ b
same_parts a b e = cc

no_fault : (a : List External) (f : Fault) → lost f ≡ got a → ⊥
no_fault a f e = cc

same_fault : (f g : Fault) → lost f ≡ lost g → f ≡ g
same_fault f g e = cc

given_by : (ts : List Token) (r : Result the.Unit SyntaxFault) (all : List External) (read : Result (List External) Fault) → Answers ts r read → read ≡ Ok all → GivesUnit r all
given_by ts (Ok u) all read h e = same_parts u.parts all (sym h ∙ e)
given_by ts (Err (At code place)) all read h e = no_fault all h.0 (sym h.1 ∙ e)
given_by ts (Err NoMemory) all read h e = tt

abbrev pub Complete_law : Type 0
Complete_law = (n : ℕ) (ts : List Token) (all : List External) (d : Derives ts all) → deep_unit d n ≡ None → (names : List (List ℕ)) × (read_unit n ts ≡ Ok ((names, all), []))

pub given : Complete_law → (ts : List Token) (r : Result the.Unit SyntaxFault) → Answers ts r (read_whole ts) → (all : List External) (d : Derives ts all) → deep_unit d 200 ≡ None → GivesUnit r all
given law ts r h all d e = let p = law 200 ts all d e in given_by ts r all (read_whole ts) h (ended ts (p.0, all) [] refl p.1)

refused_by : (ts : List Token) (r : Result the.Unit SyntaxFault) (left : ℕ) (read : Result (List External) Fault) → Answers ts r read → read ≡ Err (Deep left) → GivesFault r 11 (place_left left ts)
refused_by ts (Ok u) left read h e = no_fault u.parts (Deep left) (sym e ∙ h)
refused_by ts (Err (At code place)) left read h e =
    let q : (code, place) ≡ told ts (Deep left) = sym h.2 ∙ ap (told ts) (same_fault h.0 (Deep left) (sym h.1 ∙ e)) in
    (ap (λ x. x.0) q, ap (λ x. x.1) q)
refused_by ts (Err NoMemory) left read h e = tt

abbrev pub Deep_law : Type 0
Deep_law = (n : ℕ) (ts : List Token) (all : List External) (d : Derives ts all) (left : ℕ) → deep_unit d n ≡ Some left → read_unit n ts ≡ Err (Deep left)

pub refused : Deep_law → (ts : List Token) (r : Result the.Unit SyntaxFault) → Answers ts r (read_whole ts) → (all : List External) (d : Derives ts all) (left : ℕ) → deep_unit d 200 ≡ Some left → GivesFault r 11 (place_left left ts)
refused law ts r h all d left e = let p = law 200 ts all d left e in refused_by ts r left (read_whole ts) h (rw p refl)

pub not_derived : Complete_law → Deep_law → (ts : List Token) (place : Place) → Answers ts (Err (At 10 place)) (read_whole ts) → (all : List External) → Derives ts all → ⊥
not_derived complete deep ts place h all d = by_depth (deep_unit d 200) refl
  where
    ten : (a b : ℕ) → a ≡ 10 → b ≡ 11 → a ≡ b → ⊥
    ten a b p q e = absurd (omega arith)

    by_depth : (o : Option ℕ) → deep_unit d 200 ≡ o → ⊥
    by_depth None e = given complete ts (Err (At 10 place)) h all d e
    by_depth (Some left) e = let p = refused deep ts (Err (At 10 place)) h all d left e in ten _ _ refl refl p.0

pub ruleset answers = (ended, more_follows, fails)
