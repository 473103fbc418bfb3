-- A unit that is read derives.
use Rattle.std.proofs.Common.{◌≡◌, ℕ, List, [], ◌∷◌, ◌++◌, length, Ok, refl, sym, subst}
use Rattle.c_lex.specs.declared.token.Punct.TheVariants as mark
use Rattle.c_lex.specs.declared.token.Token.{Token}
use Rattle.c_grammar.specs.declared.tokens.Sign.TheVariants.{Mark}
use Rattle.c_ast.specs.declared.expr.Attr.{Attr}
use Rattle.c_ast.specs.declared.expr.Spec.{Spec}
use Rattle.c_ast.specs.declared.expr.Declarator.{Declarator}
use Rattle.c_ast.specs.declared.stmt.External.{External}
use Rattle.c_ast.specs.declared.stmt.External.TheVariants as external
use Rattle.c_grammar.specs.Tokens.{next_is, has, include_of, with_names}
use Rattle.c_grammar.specs.Grammar.{Attrs, SpecsAt, DeclaratorAt}
use Rattle.c_grammar.specs.Units.{bare_decl, inits_decl, DeclAt, FunctionAt, a_function, UnitAt, unit_end, unit_include, unit_decl, unit_function, Derives}
use Rattle.c_grammar.specs.Reading.{Readers, Unit_so_far, added, levels, read_after_attrs, read_after_specs, read_bare, read_declared, read_external, read_function_body, read_include, read_no_include, read_other_inits, read_part_of_unit, read_unit}
use Rattle.c_grammar.proofs.Soundness.{Sound, and_so, done, either, repeat_sound, expect_sound, take_sound}
use Rattle.c_grammar.proofs.Sound.{Sounds, levels_sound, attrs_sound, specs_sound, block_sound, init_end_sound, more_inits_sound}

-- a declaration or a function
abbrev pub ExternalAt : List (List ℕ) → List Token → External → List Token → Type 0
ExternalAt names ts (external.Include p h) r = ⊥
ExternalAt names ts (external.Decl d) r = DeclAt names ts d r
ExternalAt names ts (external.Function f) r = FunctionAt names ts f r

module _ (names : List (List ℕ)) (below : Readers) (h : Sounds names below) where
  after_attrs_sound : (s : List Spec) (d : Declarator) (xs : List Attr) (ts r1 r2 r3 : List Token) → SpecsAt names ts s r1 → DeclaratorAt names r1 d r2 → Attrs names r2 [] xs r3 →
      Sound (ExternalAt names ts) (read_after_attrs names below s d xs r3)
  unfolding read_after_attrs read_function_body read_other_inits
  after_attrs_sound s d xs ts r1 r2 r3 d0 d1 d2 = either (next_is (Mark mark.BraceOpen) r3) (read_function_body names below s d xs r3) (read_other_inits names below s d xs r3)
      (λ _. and_so _ (block_sound names below h r3) (λ b rest d3. done (a_function d0 d1 d2 d3)))
      (λ _. and_so _ (init_end_sound names below h d xs r1 r2 r3 d1 d2) (λ i r4 d3. and_so _ (more_inits_sound names below h (i ∷ []) r4) (λ is r5 d4. and_so _ (expect_sound (Mark mark.Semicolon) r5) (λ c rest d5. done (inits_decl d0 d3 d4 d5)))))

  pub external_sound : (ts : List Token) → Sound (ExternalAt names ts) (read_external names below ts)
  unfolding read_external read_after_specs read_bare read_declared
  external_sound ts = and_so _ (specs_sound names below h ts) (λ s r1 d0. either (next_is (Mark mark.Semicolon) r1) (read_bare s r1) (read_declared names below s r1)
      (λ _. and_so _ (expect_sound (Mark mark.Semicolon) r1) (λ c rest d1. done (bare_decl d0 d1)))
      (λ _. and_so _ (h.declarator r1) (λ d r2 d1. and_so _ (attrs_sound names [] r2) (λ xs r3 d2. after_attrs_sound s d xs ts r1 r2 r3 d0 d1 d2))))

-- to the end of the tokens
abbrev Whole : List Token → Unit_so_far → Unit_so_far → List Token → Type 0
Whole ts u all rest = rest ≡ [] → UnitAt u.0 ts u.1 all.1

unit_by : (u : Unit_so_far) (x : External) (ts r rest : List Token) (all : Unit_so_far) → ExternalAt u.0 ts x r → Whole r (with_names u.0 (added x), u.1 ++ x ∷ []) all rest → Whole ts u all rest
unit_by u (external.Include p h) ts r rest all d k e = absurd d
unit_by u (external.Decl x) ts r rest all d k e = unit_decl d (k e)
unit_by u (external.Function f) ts r rest all d k e = unit_function d (k e)

part_sound_of : (n : ℕ) (u : Unit_so_far) (ts : List Token) → Sound (λ v r. (all : Unit_so_far) (rest : List Token) → Whole r v all rest → Whole ts u all rest) (read_part_of_unit n u ts)
unfolding read_part_of_unit read_include read_no_include
part_sound_of n u ts = either (has include_of ts) (read_include u ts) (read_no_include n u ts)
    (λ _. and_so _ (take_sound include_of ts) (λ h r d. done (λ all rest k e. unit_include d (k e))))
    (λ _. and_so _ (external_sound u.0 (levels u.0 n) (levels_sound u.0 n) ts) (λ x r d. done (λ all rest k. unit_by u x ts r rest all d k)))

pub unit_sound : (n : ℕ) (ts : List Token) → Sound (λ all rest. rest ≡ [] → Derives ts all.1) (read_unit n ts)
unfolding read_unit
unit_sound n ts = repeat_sound Whole _ _ (λ ts u e. subst (λ r. UnitAt u.0 r u.1 u.1) (sym e) unit_end) (part_sound_of n) (length ts) ([], []) ts

-- a unit that is read to the end derives
pub found_by : (n : ℕ) (ts : List Token) (u : Unit_so_far) (rest : List Token) → rest ≡ [] → read_unit n ts ≡ Ok (u, rest) → Derives ts u.1
found_by n ts u rest e h = (unit_sound n ts).holds u rest h e
