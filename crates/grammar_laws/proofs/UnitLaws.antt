-- What the laws state.
use Rattle.std.proofs.Common.{Err, List, None, Ok, Option, Some, [], sym, ℕ, ◌≡◌, ◌∙◌}
use Rattle.c_lex.specs.declared.token.Token.{Token}
use Rattle.c_grammar.specs.declared.tokens.Fault.TheVariants.{Deep, Syntax}
use Rattle.c_ast.specs.declared.stmt.External.{External}
use Rattle.c_grammar.specs.Tokens.{Read}
use Rattle.c_grammar.specs.Units.{Derives}
use Rattle.c_grammar.specs.Reading.{read_unit}
use Rattle.c_grammar.specs.Nesting.{deep_unit}
use Rattle.grammar_laws.proofs.UnitComplete.{unit_read}
use Rattle.grammar_laws.proofs.Steps.{Answers, answer}

found_by : {A : Type 0} (r : Read A) (o : Option ℕ) (x : A × List Token) → Answers r o x → o ≡ None → r ≡ Ok x
found_by r o x h e = rw e at h.holds

pub complete : (n : ℕ) (ts : List Token) (all : List External) (d : Derives ts all) → deep_unit d n ≡ None → (names : List (List ℕ)) × (read_unit n ts ≡ Ok ((names, all), []))
complete n ts all d h = let p = unit_read n ts all d in (p.0, found_by _ _ _ p.1 h)

deep_by : {A : Type 0} (r : Read A) (o : Option ℕ) (k : ℕ) (x : A × List Token) → Answers r o x → o ≡ Some k → r ≡ Err (Deep k)
deep_by r o k x h e = rw e at h.holds

pub too_deep_at : (n : ℕ) (ts : List Token) (all : List External) (d : Derives ts all) (left : ℕ) → deep_unit d n ≡ Some left → read_unit n ts ≡ Err (Deep left)
too_deep_at n ts all d left h = let p = unit_read n ts all d in deep_by _ _ _ _ p.1 h

no_syntax : {A : Type 0} (o : Option ℕ) (k : ℕ) (x : A × List Token) → answer o x ≡ Err (Syntax k) → ⊥
no_syntax None k x e = absurd cc
no_syntax (Some l) k x e = absurd cc

pub refused : (n : ℕ) (ts : List Token) (all : List External) (left : ℕ) → read_unit n ts ≡ Err (Syntax left) → Derives ts all → ⊥
refused n ts all left e d = let p = unit_read n ts all d in no_syntax (deep_unit d n) left ((p.0, all), []) (sym p.1.holds ∙ e)
