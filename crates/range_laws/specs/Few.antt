-- Types in which each Non-secure function type has at most four parameters (ECM0359818, 5.5).
use Rattle.std.specs.Prelude.{◌≡◌, Bool, true, not, ◌&&◌, ◌||◌, nat_le, List, length, Option, Some, None}
use Rattle.std.specs.List.{list_all}
use Rattle.c_types.specs.declared.ctype.CType.{CType}
use Rattle.c_types.specs.declared.ctype.Shape.{Shape}
use Rattle.c_types.specs.declared.ctype.Shape.TheOpen as shape
use Rattle.c_types.specs.declared.ctype.Shape.TheOpen.{Shape-F, CType-F}
use Rattle.c_types.specs.declared.ctype.Shape.TheFolds.{fold-Shape}
use Rattle.c_tree.specs.declared.program.TLocal.{TLocal}
use Rattle.c_tree.specs.Numbers.{all_true}
use Rattle.c_scope.specs.declared.tables.Known.{Known}
use Rattle.c_scope.specs.declared.tables.Meaning.{Meaning}
use Rattle.c_scope.specs.declared.tables.Meaning.TheVariants.{Extern, Constant, Null, Typedef, Intrinsic}
use Rattle.c_scope.specs.declared.tables.Member.{Member}
use Rattle.c_scope.specs.declared.tables.StructInfo.{StructInfo}
use Rattle.c_scope.specs.declared.tables.Tables.{Tables}
use Rattle.c_derive.specs.declared.derivations.Derivation.{Derivation}
use Rattle.c_derive.specs.declared.derivations.Derivation.TheVariants as by
use Rattle.c_derive.specs.declared.derivations.Param.{Param}
use Rattle.c_derive.specs.declared.specifiers.Base.{Base}
use Rattle.c_derive.specs.declared.specifiers.Base.TheVariants as base
use Rattle.c_derive.specs.declared.specifiers.Words.{Words}

-- the members of a struct are types of their own
abbrev pub shape_few : Shape-F Bool Bool → Bool
shape_few shape.Void = true
shape_few (shape.Arith a) = true
shape_few (shape.Pointer to) = to
shape_few (shape.Array of len) = of
shape_few (shape.Struct number name size align) = true
shape_few (shape.Function gives params nonsecure) = gives && (all_true params && (not nonsecure || nat_le (length params) 4))

abbrev pub type_few : CType-F Bool Bool → Bool
type_few t = t.shape

abbrev pub few_in : Shape → Bool
few_in = fold-Shape Bool Bool shape_few type_few

-- each Non-secure function type in it has at most four parameters
abbrev pub few : CType → Bool
few t = few_in t.shape

abbrev pub all_few : List CType → Bool
all_few ts = list_all few ts

abbrev pub few_or : Option CType → Bool
few_or (Some t) = few t
few_or None = true

-- ---- the types in tables

abbrev pub meaning_few : Meaning → Bool
meaning_few (Typedef t) = few t
meaning_few (Extern n) = true
meaning_few (Constant n) = true
meaning_few Null = true
meaning_few (Intrinsic i) = true

abbrev pub members_few : List Member → Bool
members_few ms = list_all (λ (m : Member). few m.ctype) ms

-- each type that stands in the tables is such a type
pub record IsFit (s : Tables) : Type 0 where
  pub meanings : list_all meaning_few s.meanings ≡ true
  pub locals : list_all (λ (l : TLocal). few l.ctype) s.locals ≡ true
  pub structs : list_all (λ (i : StructInfo). members_few i.members) s.structs ≡ true
  pub externs : list_all (λ (k : Known). few k.ctype) s.externs ≡ true

-- ---- and in derivations

abbrev pub params_few : List Param → Bool
params_few ps = list_all (λ (p : Param). few p.ctype) ps

abbrev pub derivation_few : Derivation → Bool
derivation_few by.Pointer = true
derivation_few by.Const = true
derivation_few by.Volatile = true
derivation_few (by.Array len) = true
derivation_few (by.Function ps) = params_few ps

abbrev pub derivations_few : List Derivation → Bool
derivations_few ds = list_all derivation_few ds

-- ---- and in words

abbrev pub base_few : Base → Bool
base_few (base.Type t) = few t
base_few _ = true

abbrev pub words_few : Words → Bool
words_few w = base_few w.base
