-- Declarations add numbers and take none away.
use Rattle.std.proofs.Common.{◌≡◌, ℕ, zero, suc, ◌<◌, ◌≤◌, Bool, true, false, ◌||◌, not, cond, is_some, List, [], ◌∷◌, ◌++◌, length, ap, sym, ◌∙◌, subst, refl, arith, le_refl, Option, None, Some, Ok, Err, slice_get, slice_set, option_map, length-take, length-set}
use Rattle.std.proofs.lemmas.List.{length_push}
use Rattle.std.proofs.lemmas.Option.{none-some, slice_get-map}
use Rattle.cm_base.specs.declared.place.Place.{Place}
use Rattle.c_ast.specs.declared.expr.Name.{Name}
use Rattle.c_types.specs.declared.ctype.CType.{CType}
use Rattle.c_types.specs.declared.ctype.Shape.TheOpen as shape
use Rattle.c_types.specs.Kind.{Look, is_function, look, looks_function}
use Rattle.c_types.specs.Same.{same_type}
use Rattle.c_types.specs.Sizes.{align_of, fits, size_of}
use Rattle.c_tree.specs.declared.program.TLocal.{TLocal}
use Rattle.c_tree.specs.Conditions.{is_twin}
use Rattle.c_tree.specs.Numbers.{is_called, is_object, looks_called}
use Rattle.cmse_rules.specs.Names.{is_reserved}
use Rattle.cmse_rules.specs.Pointers.{has_secure_pointer}
use Rattle.c_rows.specs.Answers.{Checked}
use Rattle.c_scope.specs.declared.tables.Known.{Known}
use Rattle.c_scope.specs.declared.tables.Layout.{Layout}
use Rattle.c_scope.specs.declared.tables.Linkage.{Linkage}
use Rattle.c_scope.specs.declared.tables.Meaning.{Meaning}
use Rattle.c_scope.specs.declared.tables.Meaning.TheVariants.{Extern, Constant, Null, Typedef, Intrinsic}
use Rattle.c_scope.specs.declared.tables.Member.{Member}
use Rattle.c_scope.specs.declared.tables.Scope.{Scope}
use Rattle.c_scope.specs.declared.tables.StructInfo.{StructInfo}
use Rattle.c_scope.specs.declared.tables.Tables.{Tables}
use Rattle.c_scope.specs.declared.tables.Tag.{Tag}
use Rattle.c_scope.specs.declared.tables.Tag.TheVariants.{Struct, Enum}
use Rattle.c_scope.specs.Index.{place_of}
use Rattle.c_scope.specs.Blocks as blocks
use Rattle.c_scope.specs.Blocks.{close_block, close_parameters, complete_as, complete_local, declare_local, declare_named, declare_parameter, declare_unnamed, open_parameters, parameter_fault, with_local, with_named}
use Rattle.c_scope.specs.Layout.{added, placed, placed_as}
use Rattle.c_scope.specs.Tags.{begin_enum, begin_struct, begun_again, begun_as, declare_struct, end_struct, ended, finished, first_seen, known_type, struct_as, struct_type, struct_use, tag_in, tag_of, file_tag, unknown, with_block_tag, with_file_tag, with_struct, with_tag}
use Rattle.c_scope.specs.FileScope.{clashes, clashes_as, clashes_at, clashes_with, complete_object, completed, completed_as, declare_constant, declare_function, declare_object, declare_typedef, declared, declared_again, declared_as, declared_at, define_function, defined_as, first_known, is_declared, is_unsized, together, with_body, with_known, with_meaning, with_state}
use Rattle.later_laws.specs.Later.{IsLater}
use Rattle.later_laws.proofs.LaterLaws.{kept_beside, kept_closed, kept_completed, kept_local, kept_meaning, kept_named, later_body, later_new, later_object, later_set, later_together, not_extern}
use Rattle.range_laws.specs.Ranges.{Follows, Grows, NamesWithin, extern_of, names}
use Rattle.range_laws.specs.Few.{IsFit, few, meaning_few, members_few}
use Rattle.range_laws.specs.Steps.{Answers, Anything, Brings, Came, Goes, HasFew, IsLocal, IsObjectAt, Leads, Passes, TypeIsFew}
use Rattle.range_laws.proofs.Both.{all_get, all_push, all_set, all_take, no, or_pass}
use Rattle.range_laws.proofs.FewLaws.{few_struct}
use Rattle.range_laws.proofs.SameLaws.{functions_alike}
use Rattle.range_laws.proofs.Moves.{answers_unless, comes, follows_same, goes_unless, grows_same, grows_trans, keeps, passes_not, passes_on, passes_unless, silent, stays, stops, told}

-- ---- the externs of two tables

-- what an extern is, another is too
pub record IsKept (o p : Option Known) : Type 0 where
  pub objects : is_object (option_map extern_of o) ≡ true → is_object (option_map extern_of p) ≡ true
  pub functions : (many : ℕ) → is_called many (option_map extern_of o) ≡ true → is_called many (option_map extern_of p) ≡ true

kept_same : (o : Option Known) → IsKept o o
kept_same o = record { objects = λ h. h; functions = λ many h. h }

kept_none : (p : Option Known) → IsKept None p
kept_none p = record { objects = λ h. no h; functions = λ many h. no h }

names_kept : (s t : Tables) → ((n : ℕ) → IsKept (slice_get s.externs n) (slice_get t.externs n)) → NamesWithin (names s) (names t)
names_kept s t f = record {
  globals = λ n h. ap is_object (slice_get-map extern_of t.externs n) ∙ (f n).objects (sym (ap is_object (slice_get-map extern_of s.externs n)) ∙ h);
  functions = λ n many h. ap (is_called many) (slice_get-map extern_of t.externs n) ∙ (f n).functions many (sym (ap (is_called many) (slice_get-map extern_of s.externs n)) ∙ h);
}

kept_push : (xs : List Known) (k : Known) (n : ℕ) → IsKept (slice_get xs n) (slice_get (xs ++ k ∷ []) n)
kept_push [] k n = kept_none (slice_get (k ∷ []) n)
kept_push (x ∷ xs) k zero = kept_same (Some x)
kept_push (x ∷ xs) k (suc n) = kept_push xs k n

kept_set : (xs : List Known) (i : ℕ) (k y : Known) → slice_get xs i ≡ Some k → IsKept (Some k) (Some y) → (n : ℕ) → IsKept (slice_get xs n) (slice_get (slice_set xs i y) n)
kept_set [] i k y is f n = kept_none (slice_get (slice_set [] i y) n)
kept_set (x ∷ xs) zero k y is f zero = subst (λ o. IsKept o (Some y)) (sym is) f
kept_set (x ∷ xs) zero k y is f (suc n) = kept_same (slice_get xs n)
kept_set (x ∷ xs) (suc i) k y is f zero = kept_same (Some x)
kept_set (x ∷ xs) (suc i) k y is f (suc n) = kept_set xs i k y is f n

kept_type : (k y : Known) → k.ctype ≡ y.ctype → IsKept (Some k) (Some y)
kept_type k y is = record { objects = λ h. subst (λ t. not (is_function t) ≡ true) is h; functions = λ many h. subst (λ t. looks_called many (look t) ≡ true) is h }

-- the type of a function is that of no object
no_object : (many : ℕ) (x : Look) → looks_called many x ≡ true → looks_function x ≡ true
no_object many (shape.Function g p n) h = refl
no_object many shape.Void h = h
no_object many (shape.Arith a) h = no h
no_object many (shape.Pointer a) h = no h
no_object many (shape.Array a l) h = no h
no_object many (shape.Struct k m s l) h = no h

clash : (b : Bool) → b ≡ true → b ≡ false → {A : Type 0} → A
clash b h k = no (sym k ∙ h)

-- an object whose type is completed
kept_object : (k y : Known) → is_function k.ctype ≡ false → is_function y.ctype ≡ false → IsKept (Some k) (Some y)
kept_object k y f g = record { objects = λ h. ap not g; functions = λ many h. clash (is_function k.ctype) (no_object many (look k.ctype) h) f }

-- tables with the same functions and globals, the same locals, and the same names that mean the same
pub grows_beside : (s t : Tables) → t.externs ≡ s.externs → t.locals ≡ s.locals → t.names ≡ s.names → t.meanings ≡ s.meanings → Grows s t
grows_beside s t e l n m = record { locals = subst (λ xs. length s.locals ≤ length xs) (sym l) (le_refl (length s.locals)); kept = kept_beside s t e l n m }

pub not_false : (b : Bool) → not b ≡ false → b ≡ true
not_false true h = refl
not_false false h = no (sym h)

pub or_left : (x y : Bool) → (x || y) ≡ false → x ≡ false
or_left true y h = h
or_left false y h = refl

-- ---- blocks and parameter lists

abbrev local_few : TLocal → Bool
local_few l = few l.ctype

one_local : (s : Tables) (l : TLocal) → length s.locals ≤ length (s.locals ++ l ∷ [])
one_local s l = let n = length_push s.locals l in omega (arith, n)

last_local : (s : Tables) (l : TLocal) → length s.locals < length (s.locals ++ l ∷ [])
last_local s l = let n = length_push s.locals l in omega (arith, n)

named_came : (text : List ℕ) (t : CType) (s : Tables) → IsFit s → few t ≡ true → fits t ≡ true → Came IsLocal s (length s.locals) (with_named text t s)
named_came text t s fit f g = record {
  grows = record { locals = one_local s (record { name = text; ctype = t }); kept = kept_named text t s g };
  fit = record { meanings = fit.meanings; locals = all_push local_few s.locals (record { name = text; ctype = t }) fit.locals f; structs = fit.structs; externs = fit.externs };
  holds = last_local s (record { name = text; ctype = t });
}

pub local_law : (scope : Scope) (name : Name) (t : CType) (initialised : Bool) (s : Tables) → IsFit s → few t ≡ true → Goes IsLocal s (declare_local scope name t initialised s)
local_law scope name t initialised s fit f =
    goes_unless s (blocks.is_declared s.blocks scope.names name.text) 21 name.place _ (λ a.
    goes_unless s (not (fits t)) 24 name.place _ (λ b.
    goes_unless s (not (blocks.is_made initialised t)) 25 name.place _ (λ c.
    goes_unless s (has_secure_pointer t) 29 name.place _ (λ d.
    goes_unless s (is_reserved name.text) 45 name.place _ (λ e.
    record { it = named_came name.text t s fit f (not_false (fits t) b) })))))

anything : {A : Type 0} {Q : A → Tables → Type 0} (s t : Tables) (x : A) → Came Q s x t → {B : Type 0} (y : B) → Came Anything s y t
anything s t x h y = record { grows = h.grows; fit = h.fit; holds = tt }

-- the type of a parameter that breaks no rule isn't too large
fits_by : (b : Bool) (code : ℕ) (rest : Option ℕ) → cond (not b) (Some code) rest ≡ None → b ≡ true
fits_by true code rest e = refl
fits_by false code rest e = absurd (none-some code (sym e))

fits_unless : (t : CType) (o : Option ℕ) → parameter_fault t ≡ o → o ≡ None → fits t ≡ true
fits_unless t o is none = fits_by (fits t) 24 _ (is ∙ none)

unnamed_by : (t : CType) (first : Place) (o : Option ℕ) (s : Tables) → parameter_fault t ≡ o → IsFit s → few t ≡ true → Goes Anything s (declare_unnamed t first o s)
unnamed_by t first (Some code) s is fit f = stops
unnamed_by t first None s is fit f = record {
  it = record {
    grows = record { locals = one_local s (record { name = []; ctype = t }); kept = kept_local s (record { name = []; ctype = t }) (fits_unless t None is refl) };
    fit = record { meanings = fit.meanings; locals = all_push local_few s.locals (record { name = []; ctype = t }) fit.locals f; structs = fit.structs; externs = fit.externs };
    holds = tt;
  };
}

parameter_by : (name : Name) (t : CType) (o : Option ℕ) (s : Tables) → parameter_fault t ≡ o → IsFit s → few t ≡ true → Goes Anything s (declare_named name t o s)
parameter_by name t (Some code) s is fit f = stops
parameter_by name t None s is fit f = goes_unless s (is_reserved name.text) 45 name.place _ (λ e. record { it = anything s (with_named name.text t s) (length s.locals) (named_came name.text t s fit f (fits_unless t None is refl)) tt })

pub parameter_law : (scope : Scope) (name : Option Name) (t : CType) (first : Place) (s : Tables) → IsFit s → few t ≡ true → Goes Anything s (declare_parameter scope name t first s)
parameter_law scope (Some name) t first s fit f = goes_unless s (blocks.is_declared s.blocks scope.names name.text) 21 name.place _ (λ a. parameter_by name t (parameter_fault t) s refl fit f)
parameter_law scope None t first s fit f = unnamed_by t first (parameter_fault t) s refl fit f

completed_by : (n : ℕ) (t : CType) (s : Tables) (o : Option TLocal) → IsFit s → few t ≡ true → fits t ≡ true → Leads s (complete_as n t s o)
completed_by n t s (Some l) fit f g = record {
  grows = record { locals = let e = length-set s.locals n (blocks.completed t l) in omega (arith, e); kept = kept_completed n t s l g };
  fit = record { meanings = fit.meanings; locals = all_set local_few s.locals n (blocks.completed t l) fit.locals f; structs = fit.structs; externs = fit.externs };
}
completed_by n t s None fit f g = record { grows = grows_same s; fit = fit }

pub complete_local_law : (n : ℕ) (t : CType) (s : Tables) → IsFit s → few t ≡ true → fits t ≡ true → Leads s (complete_local n t s)
complete_local_law n t s fit f g = completed_by n t s (slice_get s.locals n) fit f g

pub close_block_law : (scope : Scope) (s : Tables) → IsFit s → Leads s (close_block scope s)
close_block_law scope s fit = record {
  grows = grows_beside s (close_block scope s) refl refl refl refl;
  fit = record { meanings = fit.meanings; locals = fit.locals; structs = fit.structs; externs = fit.externs };
}

-- a parameter list that began at s
pub close_parameters_law : (outer : Scope) (s t : Tables) → Grows s t → IsFit t → Leads s (close_parameters (open_parameters outer s) t)
close_parameters_law outer s t g fit = record {
  grows = record { locals = let e = length-take (length s.locals) t.locals in omega (arith, e, g.locals); kept = kept_closed outer s t g.kept };
  fit = record { meanings = fit.meanings; locals = all_take local_few (length s.locals) t.locals fit.locals; structs = fit.structs; externs = fit.externs };
}

-- ---- tags and structs

pub tag_leads : (scope : Scope) (text : List ℕ) (tag : Tag) (s : Tables) → IsFit s → Leads s (with_tag scope text tag s)
tag_leads scope text tag s fit = by scope.is_file
  where
    by : (b : Bool) → Leads s (cond b (with_file_tag text tag s) (with_block_tag text tag s))
    by true = record { grows = grows_beside s (with_file_tag text tag s) refl refl refl refl; fit = record { meanings = fit.meanings; locals = fit.locals; structs = fit.structs; externs = fit.externs } }
    by false = record { grows = grows_beside s (with_block_tag text tag s) refl refl refl refl; fit = record { meanings = fit.meanings; locals = fit.locals; structs = fit.structs; externs = fit.externs } }

abbrev struct_few : StructInfo → Bool
struct_few i = members_few i.members

struct_leads : (i : StructInfo) (s : Tables) → IsFit s → members_few i.members ≡ true → Leads s (with_struct i s)
struct_leads i s fit f = record {
  grows = grows_beside s (with_struct i s) refl refl refl refl;
  fit = record { meanings = fit.meanings; locals = fit.locals; structs = all_push struct_few s.structs i fit.structs f; externs = fit.externs };
}

set_leads : (n : ℕ) (i : StructInfo) (s : Tables) → IsFit s → members_few i.members ≡ true → Leads s (record s { structs = slice_set s.structs n i })
set_leads n i s fit f = record {
  grows = grows_beside s (record s { structs = slice_set s.structs n i }) refl refl refl refl;
  fit = record { meanings = fit.meanings; locals = fit.locals; structs = all_set struct_few s.structs n i fit.structs f; externs = fit.externs };
}

leads_trans : (s t u : Tables) → Leads s t → Leads t u → Leads s u
leads_trans s t u f g = record { grows = grows_trans s t u f.grows g.grows; fit = g.fit }

came_by : {A : Type 0} {Q : A → Tables → Type 0} (s t : Tables) (x : A) → Leads s t → Q x t → Goes Q s (Ok (x, t))
came_by s t x h q = comes s t x h.grows h.fit q

first_seen_law : (scope : Scope) (name : Name) (s : Tables) → IsFit s → Goes TypeIsFew s (first_seen scope name s)
first_seen_law scope name s fit =
    let i : StructInfo = unknown name.text false in
    let one = struct_leads i s fit refl in
    came_by s (with_tag scope name.text (Struct (length s.structs)) (with_struct i s)) (struct_type (length s.structs) i)
    (leads_trans s (with_struct i s) (with_tag scope name.text (Struct (length s.structs)) (with_struct i s)) one (tag_leads scope name.text (Struct (length s.structs)) (with_struct i s) one.fit))
    (few_struct (length s.structs) name.text 0 0)

known_law : (n : ℕ) (place : Place) (o : Option StructInfo) → Answers (λ t. few t ≡ true) (known_type n place o)
known_law n place (Some i) = told _ (few_struct n i.tag i.size i.align)
known_law n place None = silent

struct_by : (scope : Scope) (name : Name) (o : Option Tag) (s : Tables) → IsFit s → Goes TypeIsFew s (struct_as scope name o s)
struct_by scope name (Some (Struct n)) s fit = keeps s (known_type n name.place (slice_get s.structs n)) fit (known_law n name.place (slice_get s.structs n))
struct_by scope name (Some Enum) s fit = stops
struct_by scope name None s fit = first_seen_law scope name s fit

pub struct_use_law : (scope : Scope) (name : Name) (s : Tables) → IsFit s → Goes TypeIsFew s (struct_use scope name s)
struct_use_law scope name s fit = struct_by scope name (tag_of s name.text) s fit

pub declare_struct_law : (scope : Scope) (name : Name) (s : Tables) → IsFit s → Goes TypeIsFew s (declare_struct scope name s)
declare_struct_law scope name s fit = struct_by scope name (tag_in scope s name.text) s fit

again_by : (n : ℕ) (name : Name) (o : Option StructInfo) (s : Tables) → IsFit s → Goes Anything s (begun_again n name o s)
again_by n name (Some i) s fit = goes_unless s i.is_defined 21 name.place _ (λ a. came_by s (record s { structs = slice_set s.structs n (unknown name.text true) }) n (set_leads n (unknown name.text true) s fit refl) tt)
again_by n name None s fit = stops

begun_by : (name : Name) (o : Option Tag) (s : Tables) → IsFit s → Goes Anything s (begun_as name o s)
begun_by name (Some (Struct n)) s fit = again_by n name (slice_get s.structs n) s fit
begun_by name (Some Enum) s fit = stops
begun_by name None s fit =
    let i : StructInfo = unknown name.text true in
    let one = struct_leads i s fit refl in
    came_by s (with_file_tag name.text (Struct (length s.structs)) (with_struct i s)) (length s.structs)
    (record { grows = grows_beside s (with_file_tag name.text (Struct (length s.structs)) (with_struct i s)) refl refl refl refl; fit = record { meanings = one.fit.meanings; locals = one.fit.locals; structs = one.fit.structs; externs = one.fit.externs } }) tt

pub begin_struct_law : (tag : Option Name) (s : Tables) → IsFit s → Goes Anything s (begin_struct tag s)
begin_struct_law (Some name) s fit = begun_by name (file_tag s name.text) s fit
begin_struct_law None s fit = came_by s (with_struct (unknown [] true) s) (length s.structs) (struct_leads (unknown [] true) s fit refl) tt

ended_by : (n : ℕ) (l : Layout) (place : Place) (o : Option StructInfo) (s : Tables) → IsFit s → members_few l.members ≡ true → Goes TypeIsFew s (ended n l place o s)
ended_by n l place (Some i) s fit f =
    came_by s (record s { structs = slice_set s.structs n (finished i l) }) (struct_type n (finished i l)) (set_leads n (finished i l) s fit f) (few_struct n i.tag (finished i l).size l.align)
ended_by n l place None s fit f = stops

pub end_struct_law : (n : ℕ) (l : Layout) (place : Place) (s : Tables) → IsFit s → members_few l.members ≡ true → Goes TypeIsFew s (end_struct n l place s)
end_struct_law n l place s fit f = goes_unless s _ 24 place _ (λ a. ended_by n l place (slice_get s.structs n) s fit f)

pub begin_enum_law : (tag : Option Name) (s : Tables) → IsFit s → Goes Anything s (begin_enum tag s)
begin_enum_law (Some name) s fit = goes_unless s (is_some (file_tag s name.text)) 21 name.place _ (λ a.
    came_by s (with_file_tag name.text Enum s) tt (record { grows = grows_beside s (with_file_tag name.text Enum s) refl refl refl refl; fit = record { meanings = fit.meanings; locals = fit.locals; structs = fit.structs; externs = fit.externs } }) tt)
begin_enum_law None s fit = stays s tt fit tt

-- ---- members

placed_by : (name : Name) (t : CType) (l : Layout) (o p : Option ℕ) → few t ≡ true → members_few l.members ≡ true → Answers HasFew (placed_as name t l o p)
placed_by name t l (Some size) (Some align) f h = answers_unless (has_secure_pointer t) 29 name.place _ (λ a. told (tt, placed name t l size align) (all_push (λ (m : Member). few m.ctype) l.members _ h f))
placed_by name t l (Some size) None f h = silent
placed_by name t l None p f h = silent

pub added_law : (name : Name) (t : CType) (l : Layout) → few t ≡ true → members_few l.members ≡ true → Answers HasFew (added name t l)
added_law name t l f h =
    answers_unless _ 21 name.place _ (λ a.
    answers_unless (not (fits t)) 24 name.place _ (λ b. placed_by name t l (size_of t) (align_of t) f h))

-- ---- file scope

-- a name that isn't declared has no place
pub no_name : (s : Tables) (text : List ℕ) → is_declared s text ≡ false → place_of s.names text ≡ None
no_name s text h = by (place_of s.names text) h
  where
    by : (o : Option ℕ) → is_some o ≡ false → o ≡ None
    by (Some i) g = no (sym g)
    by None g = refl

pub meaning_leads : (text : List ℕ) (m : Meaning) (s : Tables) → IsFit s → is_declared s text ≡ false → not_extern m ≡ true → meaning_few m ≡ true → Leads s (with_meaning text m s)
meaning_leads text m s fit new plain f = record {
  grows = record { locals = le_refl (length s.locals); kept = kept_meaning s text m (no_name s text new) plain };
  fit = record { meanings = all_push meaning_few s.meanings m fit.meanings f; locals = fit.locals; structs = fit.structs; externs = fit.externs };
}

pub typedef_law : (name : Name) (t : CType) (s : Tables) → IsFit s → few t ≡ true → Goes Anything s (declare_typedef name t s)
typedef_law name t s fit f =
    goes_unless s _ 21 name.place _ (λ a.
    goes_unless s (not (fits t)) 24 name.place _ (λ b.
    goes_unless s (has_secure_pointer t) 29 name.place _ (λ c.
    goes_unless s (is_reserved name.text) 45 name.place _ (λ d.
    came_by s (with_meaning name.text (Typedef t) s) tt (meaning_leads name.text (Typedef t) s fit a refl f) tt))))

pub constant_law : (name : Name) (n : ℕ) (s : Tables) → IsFit s → Goes Anything s (declare_constant name n s)
constant_law name n s fit =
    goes_unless s _ 21 name.place _ (λ a.
    goes_unless s (is_reserved name.text) 45 name.place _ (λ b.
    came_by s (with_meaning name.text (Constant n) s) tt (meaning_leads name.text (Constant n) s fit a refl refl) tt))

abbrev known_few : Known → Bool
known_few k = few k.ctype

-- an extern in the place of another that is like it
known_leads : (n : ℕ) (k y : Known) (s : Tables) → IsFit s → slice_get s.externs n ≡ Some k → IsLater k y → IsKept (Some k) (Some y) → few y.ctype ≡ true → Brings s (record s { externs = slice_set s.externs n y })
known_leads n k y s fit is later like f = record {
  follows = record { names = names_kept s (record s { externs = slice_set s.externs n y }) (kept_set s.externs n k y is like); later = later_set s n k y is later };
  fit = record { meanings = fit.meanings; locals = fit.locals; structs = fit.structs; externs = all_set known_few s.externs n y fit.externs f };
}

type_few_at : (n : ℕ) (k : Known) (s : Tables) → IsFit s → slice_get s.externs n ≡ Some k → few k.ctype ≡ true
type_few_at n k s fit is = subst (λ o. or_pass known_few o ≡ true) is (all_get known_few s.externs n fit.externs)

new_leads : (k : Known) (s : Tables) → IsFit s → place_of s.names k.name ≡ None → is_twin k.name ≡ false → few k.ctype ≡ true → Brings s (with_known k s)
new_leads k s fit new free f = record {
  follows = record { names = names_kept s (with_known k s) (kept_push s.externs k); later = later_new s k new free };
  fit = record { meanings = all_push meaning_few s.meanings (Extern (length s.externs)) fit.meanings refl; locals = fit.locals; structs = fit.structs; externs = all_push known_few s.externs k fit.externs f };
}

-- ---- a function or a global that is declared: what holds of its number, where that holds of a new one and of an old one

known_object : (n : ℕ) (k : Known) (s : Tables) → slice_get s.externs n ≡ Some k → is_function k.ctype ≡ false → IsObjectAt n s
known_object n k s is h = ap is_object (slice_get-map extern_of s.externs n ∙ ap (option_map extern_of) is) ∙ ap not h

pub get_push : (xs : List Known) (k : Known) → slice_get (xs ++ k ∷ []) (length xs) ≡ Some k
get_push [] k = refl
get_push (x ∷ xs) k = get_push xs k

-- a number, where it is one of a function or a global
abbrev Numbered : Bool → ℕ → Tables → Type 0
Numbered true n t = Unit {0}
Numbered false n t = IsObjectAt n t

old_number : (b : Bool) (n : ℕ) (k : Known) (s t : Tables) → slice_get s.externs n ≡ Some k → is_function k.ctype ≡ b → Follows s t → Numbered b n t
old_number true n k s t is h g = tt
old_number false n k s t is h g = g.names.globals n (known_object n k s is h)

new_number : (b : Bool) (k : Known) (s : Tables) → is_function k.ctype ≡ b → Numbered b (length s.externs) (with_known k s)
new_number true k s h = tt
new_number false k s h = known_object (length s.externs) k (with_known k s) (get_push s.externs k) h

same_kind : (t : CType) (how : Linkage) (k : Known) (b : Bool) → clashes_with t how (Some k) ≡ false → is_function t ≡ b → is_function k.ctype ≡ b
same_kind t how k b h is = functions_alike k.ctype t (not_false (same_type k.ctype t) (or_left (not (same_type k.ctype t)) _ h)) ∙ is

brought : {A : Type 0} {Q : A → Tables → Type 0} (s t : Tables) (x : A) → Brings s t → Q x t → Passes Q s (Ok (x, t))
brought s t x h q = passes_on s t x h.follows h.fit q

module _ (name : Name) (t : CType) (how : Linkage) (b : Bool) (is_b : is_function t ≡ b) (f : few t ≡ true) (free : is_twin name.text ≡ false) (s : Tables) (fit : IsFit s) where
  again_law : (n : ℕ) (o : Option Known) → slice_get s.externs n ≡ o → clashes_with t how o ≡ false → Passes (Numbered b) s (declared_again n name how o s)
  again_law n (Some k) is c = passes_unless s _ 40 name.place _ (λ a.
      let y : Known = with_state (together k.state how) k in
      let brings = known_leads n k y s fit is (later_together k how) (kept_type k y refl) (type_few_at n k s fit is) in
      brought s (record s { externs = slice_set s.externs n y }) n brings (old_number b n k s (record s { externs = slice_set s.externs n y }) is (same_kind t how k b c is_b) brings.follows))
  again_law n None is c = passes_not

  declared_by : (o : Option Meaning) → clashes_as s t how o ≡ false → Passes (Numbered b) s (declared_as name how o s)
  declared_by (Some (Extern n)) c = again_law n (slice_get s.externs n) refl c
  declared_by (Some (Constant n)) c = passes_not
  declared_by (Some Null) c = passes_not
  declared_by (Some (Typedef u)) c = passes_not
  declared_by (Some (Intrinsic i)) c = passes_not
  declared_by None c = passes_not

  declared_at_law : (o : Option ℕ) → place_of s.names name.text ≡ o → clashes_at s t how o ≡ false → Passes (Numbered b) s (declared_at name t how o s)
  declared_at_law (Some i) is c = declared_by (slice_get s.meanings i) c
  declared_at_law None is c = brought s (with_known (first_known name t how) s) (length s.externs) (new_leads (first_known name t how) s fit is free f) (new_number b (first_known name t how) s is_b)

  declared_law : clashes s name t how ≡ false → Passes (Numbered b) s (declared name t how s)
  declared_law c = declared_at_law (place_of s.names name.text) refl c

pub object_law : (name : Name) (t : CType) (how : Linkage) (initialised : Bool) (s : Tables) → IsFit s → few t ≡ true → is_function t ≡ false → Passes IsObjectAt s (declare_object name t how initialised s)
object_law name t how initialised s fit f is =
    passes_unless s (clashes s name t how) 21 name.place _ (λ a.
    passes_unless s (not (fits t)) 24 name.place _ (λ b.
    passes_unless s _ 25 name.place _ (λ c.
    passes_unless s (has_secure_pointer t) 29 name.place _ (λ d.
    passes_unless s (is_reserved name.text) 45 name.place _ (λ e.
    declared_law name t how false is f (or_left (is_twin name.text) _ e) s fit a)))))

any_number : (b : Bool) (s : Tables) (r : Checked (ℕ × Tables)) → Passes (Numbered b) s r → Passes Anything s r
any_number b s (Ok p) h = record { it = record { follows = h.it.follows; fit = h.it.fit; holds = tt } }
any_number b s (Err e) h = record { it = tt }

pub function_law : (name : Name) (t : CType) (how : Linkage) (s : Tables) → IsFit s → few t ≡ true → Passes Anything s (declare_function name t how s)
function_law name t how s fit f =
    passes_unless s (clashes s name t how) 21 name.place _ (λ a.
    passes_unless s (not (fits t)) 24 name.place _ (λ b.
    passes_unless s _ 29 name.place _ (λ c.
    passes_unless s (is_reserved name.text) 45 name.place _ (λ d.
    any_number (is_function t) s _ (declared_law name t how (is_function t) refl f (or_left (is_twin name.text) _ d) s fit a)))))

nothing_new : (s : Tables) → IsFit s → Brings s s
nothing_new s fit = record { follows = follows_same s; fit = fit }

defined_by : (n : ℕ) (s : Tables) (o : Option Known) → IsFit s → slice_get s.externs n ≡ o → Brings s (defined_as n s o)
defined_by n s (Some k) fit is = known_leads n k (with_state (with_body k.state) k) s fit is (later_body k) (kept_type k (with_state (with_body k.state) k) refl) (type_few_at n k s fit is)
defined_by n s None fit is = nothing_new s fit

pub define_function_law : (n : ℕ) (s : Tables) → IsFit s → Brings s (define_function n s)
define_function_law n s fit = defined_by n s (slice_get s.externs n) fit refl

object_leads : (b : Bool) (n : ℕ) (t : CType) (s : Tables) (k : Known) → is_unsized (look k.ctype) ≡ b → IsFit s → few t ≡ true → is_function t ≡ false → slice_get s.externs n ≡ Some k → is_function k.ctype ≡ false → Brings s (cond b (record s { externs = slice_set s.externs n (completed t k) }) s)
object_leads true n t s k without fit f g is h = known_leads n k (completed t k) s fit is (later_object k t without) (kept_object k (completed t k) h g) f
object_leads false n t s k without fit f g is h = nothing_new s fit

not_function : (b : Bool) → not b ≡ true → b ≡ false
not_function true e = no e
not_function false e = refl

object_by : (n : ℕ) (t : CType) (s : Tables) (o : Option Known) → IsFit s → few t ≡ true → is_function t ≡ false → slice_get s.externs n ≡ o → is_object (option_map extern_of o) ≡ true → Brings s (completed_as n t s o)
object_by n t s (Some k) fit f g is h = object_leads (is_unsized (look k.ctype)) n t s k refl fit f g is (not_function (is_function k.ctype) h)
object_by n t s None fit f g is h = nothing_new s fit

pub complete_object_law : (n : ℕ) (t : CType) (s : Tables) → IsFit s → few t ≡ true → is_function t ≡ false → IsObjectAt n s → Brings s (complete_object n t s)
complete_object_law n t s fit f g h = object_by n t s (slice_get s.externs n) fit f g refl (sym (ap is_object (slice_get-map extern_of s.externs n)) ∙ h)
