-- What later declarations keep of those before them: of the functions and globals of a unit, and of the locals of the function at
-- hand.
use Rattle.std.specs.Prelude.{◌≡◌, ℕ, Bool, true, false, not, List, map, length, drop, slice_get, bytes_eq, Some}
use Rattle.std.specs.List.{list_all, list_any}
use Rattle.c_types.specs.Kind.{look}
use Rattle.c_tree.specs.Conditions.{all_differ, is_twin}
use Rattle.c_tree.specs.Slots.{all_fit}
use Rattle.c_scope.specs.declared.tables.Known.{Known}
use Rattle.c_scope.specs.declared.tables.Meaning.TheVariants.{Extern}
use Rattle.c_scope.specs.declared.tables.Tables.{Tables}
use Rattle.c_scope.specs.FileScope.{is_unsized}

-- An extern keeps its name, its type once its length is known, and its body, and the linkage that it had with the body.
pub record IsLater (k l : Known) : Type 0 where
  pub name : l.name ≡ k.name
  pub type : is_unsized (look k.ctype) ≡ false → l.ctype ≡ k.ctype
  pub body : k.state.has_body ≡ true → l.state.has_body ≡ true
  pub linkage : k.state.has_body ≡ true → l.state.is_static ≡ k.state.is_static

-- the extern that stands in a place where this one stood
pub record Stands (k : Known) (ks : List Known) (n : ℕ) : Type 0 where
  pub now : Known
  pub there : slice_get ks n ≡ Some now
  pub later : IsLater k now

abbrev pub names_of : List Known → List (List ℕ)
names_of ks = map (λ (k : Known). k.name) ks

abbrev pub is_listed : List (List ℕ) → List ℕ → Bool
is_listed names name = list_any (bytes_eq name) names

abbrev pub is_free : List ℕ → Bool
is_free name = not (is_twin name)

-- the extern of this number, whose name stands in this place among the names of file scope
pub record Keyed (s : Tables) (i n : ℕ) : Type 0 where
  pub known : Known
  pub there : slice_get s.externs n ≡ Some known
  pub name : slice_get s.names i ≡ Some known.name

-- Each name of file scope has a meaning. The names of externs stand among them, where they mean these; they differ, and none is
-- one of those that the tools reserve.
pub record AreSound (s : Tables) : Type 0 where
  pub aligned : length s.names ≡ length s.meanings
  pub keyed : (i n : ℕ) → slice_get s.meanings i ≡ Some (Extern n) → Keyed s i n
  pub differ : all_differ (names_of s.externs) ≡ true
  pub free : list_all is_free (names_of s.externs) ≡ true
  pub listed : list_all (is_listed s.names) (names_of s.externs) ≡ true

-- at file scope, from the tables s to the tables t
pub record Later (s t : Tables) : Type 0 where
  pub externs : (n : ℕ) (k : Known) → slice_get s.externs n ≡ Some k → Stands k t.externs n
  pub sound : AreSound s → AreSound t

-- In a function, where no extern is declared. The locals from any one on stay such that none is too large.
pub record Kept (s t : Tables) : Type 0 where
  pub externs : t.externs ≡ s.externs
  pub sound : AreSound s → AreSound t
  pub locals : (from : ℕ) → all_fit (drop from s.locals) ≡ true → all_fit (drop from t.locals) ≡ true
