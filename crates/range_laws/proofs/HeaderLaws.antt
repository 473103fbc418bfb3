-- Headers only add names, and a unit begins with fit tables.
use Rattle.std.proofs.Common.{◌≡◌, true, List, [], ◌∷◌, refl}
use Rattle.std.specs.List.{list_all}
use Rattle.cm_base.specs.declared.place.Place.{Place}
use Rattle.c_lex.specs.declared.token.Header.{Header}
use Rattle.c_lex.specs.declared.token.Header.TheVariants.{StdInt, ArmCmse}
use Rattle.c_types.specs.declared.arith.Arith.TheVariants as a
use Rattle.c_scope.specs.declared.tables.Tables.{Tables}
use Rattle.c_scope.specs.FileScope.{is_declared, with_meaning}
use Rattle.c_scope.specs.Headers.{arm_cmse, header_name, header_names, include, meaning_of, std_int, text_of}
use Rattle.c_scope.specs.Lookup.{nothing}
use Rattle.later_laws.specs.Later.{AreSound}
use Rattle.later_laws.proofs.LaterLaws.{not_extern}
use Rattle.range_laws.specs.Few.{IsFit, meaning_few}
use Rattle.range_laws.specs.Steps.{Anything, Goes}
use Rattle.range_laws.proofs.Both.{both, left, right}
use Rattle.range_laws.proofs.FewLaws.{few_arith}
use Rattle.range_laws.proofs.Moves.{behind, comes, goes_cond, goes_then, goes_unless, stays}
use Rattle.range_laws.proofs.TableLaws.{grows_beside, meaning_leads}

pub nothing_fits : IsFit nothing
nothing_fits = record { meanings = refl; locals = refl; structs = refl; externs = refl }

pub nothing_sound : AreSound nothing
nothing_sound = record { aligned = refl; keyed = λ i n h. cc; differ = refl; free = refl; listed = refl }

name_law : (n : _) (place : Place) (s : Tables) → IsFit s → not_extern (meaning_of n) ≡ true → meaning_few (meaning_of n) ≡ true → Goes Anything s (header_name n place s)
unfolding header_name
name_law n place s fit plain f = goes_unless s (is_declared s (text_of n)) 21 place _ (λ k.
    let d = meaning_leads (text_of n) (meaning_of n) s fit k plain f in
    comes s (with_meaning (text_of n) (meaning_of n) s) tt d.grows d.fit tt)

-- no name of a header is a function or a global
names_law : (ns : List _) (place : Place) (s : Tables) → IsFit s → list_all (λ n. not_extern (meaning_of n)) ns ≡ true → list_all (λ n. meaning_few (meaning_of n)) ns ≡ true → Goes Anything s (header_names ns place s)
names_law [] place s fit plain f = stays s tt fit tt
names_law (n ∷ ns) place s fit plain f =
    goes_then s (header_name n place s) _ (name_law n place s fit (left (not_extern (meaning_of n)) _ plain) (left (meaning_few (meaning_of n)) _ f)) (λ done u c. names_law ns place u c.fit (right (not_extern (meaning_of n)) _ plain) (right (meaning_few (meaning_of n)) _ f))

int_few : list_all (λ n. meaning_few (meaning_of n)) std_int ≡ true
int_few =
    both (few_arith a.SignedChar) (both (few_arith a.UnsignedChar) (both (few_arith a.Short) (both (few_arith a.UnsignedShort)
    (both (few_arith a.Int) (both (few_arith a.Unsigned) (both (few_arith a.Int) (both (few_arith a.Unsigned) refl)))))))

cmse_few : list_all (λ n. meaning_few (meaning_of n)) arm_cmse ≡ true
cmse_few = both (few_arith a.Unsigned) refl

pub include_law : (h : Header) (place : Place) (s : Tables) → IsFit s → Goes Anything s (include h place s)
include_law StdInt place s fit =
    let u : Tables = record s { has_std_int = true } in
    goes_cond s s.has_std_int _ _ (stays s tt fit tt)
    (behind s u _ (grows_beside s u refl refl refl refl) (names_law std_int place u (record { meanings = fit.meanings; locals = fit.locals; structs = fit.structs; externs = fit.externs }) refl int_few))
include_law ArmCmse place s fit =
    let u : Tables = record s { has_arm_cmse = true } in
    goes_cond s s.has_arm_cmse _ _ (stays s tt fit tt)
    (behind s u _ (grows_beside s u refl refl refl refl) (names_law arm_cmse place u (record { meanings = fit.meanings; locals = fit.locals; structs = fit.structs; externs = fit.externs }) refl cmse_few))
