-- A unit that is read ends with the tokens.
use Rattle.std.proofs.Common.{◌≡◌, ℕ, ◌<◌, false, List, [], ◌∷◌, length, Ok, refl, arith}
use Rattle.c_lex.specs.declared.token.Token.{Token}
use Rattle.c_ast.specs.declared.stmt.External.{External}
use Rattle.c_ast.specs.declared.stmt.External.TheVariants as external
use Rattle.c_grammar.specs.Tokens.{has, include_of}
use Rattle.c_grammar.specs.Reading.{Unit_so_far, levels, read_include, read_no_include, read_part_of_unit, read_unit, is_some_token}
use Rattle.c_grammar.proofs.Shrinks.{takes_shrinks}
use Rattle.c_grammar.proofs.UnitShrinks.{decl_shrinks, function_shrinks}
use Rattle.c_grammar.proofs.Soundness.{Sound, and_so, done, either, repeat_sound_end, take_sound}
use Rattle.c_grammar.proofs.Sound.{levels_sound}
use Rattle.c_grammar.proofs.UnitSound.{ExternalAt, external_sound}

external_shorter : (names : List (List ℕ)) (ts : List Token) (x : External) (r : List Token) → ExternalAt names ts x r → length r < length ts
external_shorter names ts (external.Include p h) r d = absurd d
external_shorter names ts (external.Decl x) r d = decl_shrinks d
external_shorter names ts (external.Function f) r d = function_shrinks d

part_shorter : (n : ℕ) (u : Unit_so_far) (ts : List Token) → Sound (λ v r. (length r < length ts) × ((e : Unit_so_far) (rest : List Token) → rest ≡ [] → rest ≡ [])) (read_part_of_unit n u ts)
unfolding read_part_of_unit read_include read_no_include
part_shorter n u ts = either (has include_of ts) (read_include u ts) (read_no_include n u ts)
    (λ _. and_so _ (take_sound include_of ts) (λ h r d. done (omega (arith, takes_shrinks d), λ e rest k. k)))
    (λ _. and_so _ (external_sound u.0 (levels u.0 n) (levels_sound u.0 n) ts) (λ x r d. done (external_shorter u.0 ts x r d, λ e rest k. k)))

nothing : (ts : List Token) → is_some_token ts ≡ false → ts ≡ []
nothing [] h = refl
nothing (k ∷ r) h = absurd cc

pub whole : (n : ℕ) (ts : List Token) (u : Unit_so_far) (rest : List Token) → read_unit n ts ≡ Ok (u, rest) → rest ≡ []
unfolding read_unit
whole n ts u rest e = (repeat_sound_end (λ ts a all rest. rest ≡ []) is_some_token (read_part_of_unit n) refl (λ ts a h. nothing ts h) (part_shorter n) (length ts) ([], []) ts (omega arith)).holds u rest e
