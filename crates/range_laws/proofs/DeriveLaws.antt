-- Types that declarations name and derive.
use Rattle.std.proofs.Common.{◌≡◌, ℕ, zero, suc, Bool, true, false, not, List, [], ◌∷◌, ◌++◌, reverse, length, ap, sym, ◌∙◌, refl, Option, None, Some, Ok, Err, option_map, rules}
use Rattle.std.proofs.lemmas.Bool.{le-leb, ltb-false}
use Rattle.std.proofs.lemmas.List.{length-map}
use Rattle.cm_base.specs.declared.place.Place.{Place}
use Rattle.c_ast.specs.declared.expr.SpecWord.{SpecWord}
use Rattle.c_ast.specs.declared.expr.SpecWord.TheVariants as word
use Rattle.c_ast.specs.declared.expr.Star.{Star}
use Rattle.c_ast.specs.declared.expr.Star.TheVariants as star
use Rattle.c_types.specs.declared.ctype.CType.{CType}
use Rattle.c_types.specs.declared.ctype.Shape.TheVariants as made
use Rattle.c_types.specs.declared.ctype.Shape.TheVariants.{rolls-Array, rolls-Pointer}
use Rattle.c_types.specs.declared.ctype.Shape.TheOpen as shape
use Rattle.c_types.specs.declared.ctype.Shape.TheOpen.{Shape-F, CType-F}
use Rattle.c_types.specs.declared.ctype.Shape.TheFolds.{map-Shape, fold-Shape, fold_out-Shape, the_lemmas}
use Rattle.c_types.specs.Derived.{array_of}
use Rattle.c_types.specs.Kind.{Look, is_complete, is_function, is_result, is_struct, look, looks_function}
use Rattle.c_types.specs.Sizes.{fits}
use Rattle.c_rows.specs.Answers.{Checked}
use Rattle.cmse_rules.specs.Pointers.{is_many, marked, marked_behind, marked_function, marked_in, nonsecure_declared, or_fault, reached_params, reshaped, shape_params, steps, type_params}
use Rattle.c_derive.specs.declared.derivations.Derivation.{Derivation}
use Rattle.c_derive.specs.declared.derivations.Derivation.TheVariants as by
use Rattle.c_derive.specs.declared.derivations.Param.{Param}
use Rattle.c_derive.specs.declared.specifiers.Base.{Base}
use Rattle.c_derive.specs.declared.specifiers.Base.TheVariants as base
use Rattle.c_derive.specs.declared.specifiers.Words.{Words}
use Rattle.c_derive.specs.Derivations.{array_type, derivations, derive, derived, function_type, param_types, pointer_part, pointer_parts}
use Rattle.c_derive.specs.Specifiers.{if_goes, is_bare, named, specified, with_long, with_qualifiers, with_type, with_word}
use Rattle.range_laws.specs.Few.{all_few, base_few, derivation_few, derivations_few, few, few_or, params_few, words_few}
use Rattle.range_laws.specs.Steps.{Answers, IsFew}
use Rattle.range_laws.proofs.Both.{all_append, all_reversed, both, left, no, right}
use Rattle.range_laws.proofs.FewLaws.{few_arith, few_array, few_at, few_decayed, few_function, few_pointer, few_qualified, few_void, look_few, shape_out_is}
use Rattle.range_laws.proofs.Moves.{answers_cond, answers_then, answers_unless, silent, told}

-- ---- derivations

params_are_few : (ps : List Param) → params_few ps ≡ true → all_few (param_types ps) ≡ true
params_are_few [] h = refl
params_are_few (p ∷ ps) h = both (few_decayed p.ctype (left (few p.ctype) (params_few ps) h)) (params_are_few ps (right (few p.ctype) (params_few ps) h))

array_law : (t : CType) (len : Option ℕ) (place : Place) → few t ≡ true → Answers IsFew (array_type t len place)
array_law t len place h =
    answers_unless (is_function t) 27 place _ (λ a.
    answers_cond (is_complete t) _ _ (λ b. answers_cond (fits (array_of t len)) _ _ (λ c. told _ (few_array t len ∙ h)) (λ c. silent)) (λ b. silent))

function_law : (t : CType) (ps : List Param) (place : Place) → few t ≡ true → params_few ps ≡ true → Answers IsFew (function_type t ps place)
function_law t ps place h f =
    answers_cond (is_result t) _ _ (λ a. answers_unless (is_struct t) 29 place _ (λ b.
    told _ (few_function t (param_types ps) false ∙ both h (both (params_are_few ps f) refl)))) (λ a. silent)

derive_law : (t : CType) (d : Derivation) (place : Place) → few t ≡ true → derivation_few d ≡ true → Answers IsFew (derive t d place)
derive_law t by.Pointer place h f = told _ (few_pointer t ∙ h)
derive_law t by.Const place h f = told _ h
derive_law t by.Volatile place h f = told _ h
derive_law t (by.Array len) place h f = array_law t len place h
derive_law t (by.Function ps) place h f = function_law t ps place h f

pub derived_law : (t : CType) (ds : List Derivation) (place : Place) → few t ≡ true → derivations_few ds ≡ true → Answers IsFew (derived t ds place)
derived_law t [] place h f = told t h
derived_law t (d ∷ ds) place h f =
    answers_then (derive t d place) _ (derive_law t d place h (left (derivation_few d) (derivations_few ds) f))
    (λ u g. derived_law u ds place g (right (derivation_few d) (derivations_few ds) f))

part_few : (x : Star) → derivations_few (pointer_part x) ≡ true
part_few (star.Star place) = refl
part_few (star.Const place) = refl
part_few (star.Volatile place) = refl
part_few (star.Attr a) = refl

pub parts_few : (done : List Derivation) (xs : List Star) → derivations_few done ≡ true → derivations_few (pointer_parts done xs) ≡ true
parts_few done [] h = h
parts_few done (x ∷ xs) h = parts_few (done ++ pointer_part x) xs (all_append derivation_few done (pointer_part x) h (part_few x))

pub derivations_law : (stars suffixes inner : List Derivation) → derivations_few stars ≡ true → derivations_few suffixes ≡ true → derivations_few inner ≡ true → derivations_few (derivations stars suffixes inner) ≡ true
derivations_law stars suffixes inner f g h = all_append derivation_few (stars ++ reverse suffixes) inner (all_append derivation_few stars (reverse suffixes) f (all_reversed derivation_few suffixes g)) h

-- ---- Non-secure function types

-- how many parameters one look sees
abbrev seen : Look → Option ℕ
seen (shape.Pointer to) = reached_params to
seen (shape.Array of len) = reached_params of
seen (shape.Function g p n) = Some (length p)
seen _ = None

seen_in : (x : Look) → shape_params (map-Shape _ _ (Option ℕ) (Option ℕ) (fold-Shape (Option ℕ) (Option ℕ) shape_params type_params) reached_params x) ≡ seen x
seen_in shape.Void = refl
seen_in (shape.Arith a) = refl
seen_in (shape.Pointer to) = refl
seen_in (shape.Array of len) = refl
seen_in (shape.Struct m name size align) = refl
seen_in (shape.Function g p n) = ap Some (length-map p reached_params)

whole_params : (t : CType) → reached_params t ≡ fold-Shape (Option ℕ) (Option ℕ) shape_params type_params t.shape
whole_params t = search (rules, the_lemmas)

reached_is : (t : CType) → reached_params t ≡ seen (look t)
reached_is t = whole_params t ∙ (fold_out-Shape (Option ℕ) (Option ℕ) shape_params type_params t.shape ∙ seen_in (look t))

function_marked : (t : CType) (x : Look) → look_few x ≡ true → is_many (seen x) ≡ false → few_or (marked_function t x) ≡ true
function_marked t (shape.Function g p n) h k = few_function g p true ∙ both (left (few g) _ h) (both (left (all_few p) _ (right (few g) _ h)) (le-leb (length p) 4 (ltb-false 4 (length p) k)))
function_marked t shape.Void h k = refl
function_marked t (shape.Arith a) h k = refl
function_marked t (shape.Pointer to) h k = refl
function_marked t (shape.Array of len) h k = refl
function_marked t (shape.Struct m name size align) h k = refl

pointer_marked : (t : CType) (o : Option CType) → few_or o ≡ true → few_or (option_map (λ x. reshaped t (made.Pointer x)) o) ≡ true
pointer_marked t (Some x) h = few_pointer x ∙ h
pointer_marked t None h = refl

array_marked : (t : CType) (len : Option ℕ) (o : Option CType) → few_or o ≡ true → few_or (option_map (λ x. reshaped t (made.Array x len)) o) ≡ true
array_marked t len (Some x) h = few_array x len ∙ h
array_marked t len None h = refl

behind_marked : (mark : CType → Option CType) (t : CType) (x : Look) → look_few x ≡ true → is_many (seen x) ≡ false → ((u : CType) → few u ≡ true → is_many (reached_params u) ≡ false → few_or (mark u) ≡ true) → few_or (marked_behind mark t x) ≡ true
behind_marked mark t (shape.Pointer to) h k f = pointer_marked t (mark to) (f to h k)
behind_marked mark t (shape.Array of len) h k f = array_marked t len (mark of) (f of h k)
behind_marked mark t shape.Void h k f = refl
behind_marked mark t (shape.Arith a) h k f = refl
behind_marked mark t (shape.Struct m name size align) h k f = refl
behind_marked mark t (shape.Function g p n) h k f = refl

marked_law : (n : ℕ) (t : CType) → few t ≡ true → is_many (reached_params t) ≡ false → few_or (marked_in n t) ≡ true
marked_law zero t h k = function_marked t (look t) (few_at t h) (ap is_many (sym (reached_is t)) ∙ k)
marked_law (suc n) t h k = behind_marked (marked_in n) t (look t) (few_at t h) (ap is_many (sym (reached_is t)) ∙ k) (marked_law n)

or_law : (o : Option CType) (place : Place) → few_or o ≡ true → Answers IsFew (or_fault o place)
or_law (Some t) place h = told t h
or_law None place h = silent

pub nonsecure_declared_law : (t : CType) (place : Place) → few t ≡ true → Answers IsFew (nonsecure_declared t place)
nonsecure_declared_law t place h = answers_unless (is_many (reached_params t)) 42 place _ (λ k. or_law (marked t) place (marked_law (steps t) t h k))

-- what is no function stays none
abbrev pub IsObject : CType → Type 0
IsObject t = is_function t ≡ false

abbrev object_or : Option CType → Bool
object_or (Some t) = not (is_function t)
object_or None = true

function_object : (t : CType) (x : Look) → looks_function x ≡ false → object_or (marked_function t x) ≡ true
function_object t (shape.Function g p n) h = no (sym h)
function_object t shape.Void h = refl
function_object t (shape.Arith a) h = refl
function_object t (shape.Pointer to) h = refl
function_object t (shape.Array of len) h = refl
function_object t (shape.Struct m name size align) h = refl

pointer_object : (t : CType) (o : Option CType) → object_or (option_map (λ x. reshaped t (made.Pointer x)) o) ≡ true
pointer_object t (Some x) = ap (λ z. not (looks_function z)) (shape_out_is (shape.Pointer x) (made.Pointer x) (rolls-Pointer x))
pointer_object t None = refl

array_object : (t : CType) (len : Option ℕ) (o : Option CType) → object_or (option_map (λ x. reshaped t (made.Array x len)) o) ≡ true
array_object t len (Some x) = ap (λ z. not (looks_function z)) (shape_out_is (shape.Array x len) (made.Array x len) (rolls-Array x len))
array_object t len None = refl

behind_object : (mark : CType → Option CType) (t : CType) (x : Look) → object_or (marked_behind mark t x) ≡ true
behind_object mark t (shape.Pointer to) = pointer_object t (mark to)
behind_object mark t (shape.Array of len) = array_object t len (mark of)
behind_object mark t shape.Void = refl
behind_object mark t (shape.Arith a) = refl
behind_object mark t (shape.Struct m name size align) = refl
behind_object mark t (shape.Function g p n) = refl

marked_object : (n : ℕ) (t : CType) → is_function t ≡ false → object_or (marked_in n t) ≡ true
marked_object zero t h = function_object t (look t) h
marked_object (suc n) t h = behind_object (marked_in n) t (look t)

not_true : (b : Bool) → not b ≡ true → b ≡ false
not_true true h = no h
not_true false h = refl

or_object : (o : Option CType) (place : Place) → object_or o ≡ true → Answers IsObject (or_fault o place)
or_object (Some t) place h = told t (not_true (is_function t) h)
or_object None place h = silent

pub nonsecure_object : (t : CType) (place : Place) → is_function t ≡ false → Answers IsObject (nonsecure_declared t place)
nonsecure_object t place h = answers_unless (is_many (reached_params t)) 42 place _ (λ k. or_object (marked t) place (marked_object (steps t) t h))

-- ---- words

abbrev pub WordsFew : Words → Type 0
WordsFew w = words_few w ≡ true

goes_law : (goes : Bool) (place : Place) (w : Words) → words_few w ≡ true → Answers WordsFew (if_goes goes place w)
goes_law true place w h = told w h
goes_law false place w h = silent

long_law : (w : Words) (b : Base) (place : Place) → Answers WordsFew (with_long w b place)
long_law w base.Nothing place = told _ refl
long_law w base.Long place = silent
long_law w base.Void place = silent
long_law w base.Char place = silent
long_law w base.Short place = silent
long_law w (base.Type t) place = silent

pub with_word_law : (stored : Bool) (w : Words) (x : SpecWord) (place : Place) → words_few w ≡ true → Answers WordsFew (with_word stored w x place)
with_word_law stored w word.Typedef place h = goes_law _ place _ h
with_word_law stored w word.Extern place h = goes_law _ place _ h
with_word_law stored w word.Static place h = goes_law _ place _ h
with_word_law stored w word.Inline place h = goes_law _ place _ h
with_word_law stored w word.Const place h = told _ h
with_word_law stored w word.Volatile place h = told _ h
with_word_law stored w word.Void place h = goes_law _ place _ refl
with_word_law stored w word.Char place h = goes_law _ place _ refl
with_word_law stored w word.Short place h = goes_law _ place _ refl
with_word_law stored w word.Int place h = goes_law _ place _ h
with_word_law stored w word.Long place h = long_law w w.base place
with_word_law stored w word.Signed place h = goes_law _ place _ h
with_word_law stored w word.Unsigned place h = goes_law _ place _ h

pub with_type_law : (w : Words) (t : CType) (place : Place) → few t ≡ true → Answers WordsFew (with_type w t place)
with_type_law w t place h = goes_law _ place _ h

named_law : (w : Words) (b : Base) (first : Place) → base_few b ≡ true → Answers IsFew (named w b first)
named_law w base.Nothing first h = answers_unless (is_bare w) 27 first _ (λ a. told _ (few_arith _))
named_law w base.Void first h = told _ few_void
named_law w base.Char first h = told _ (few_arith _)
named_law w base.Short first h = told _ (few_arith _)
named_law w base.Long first h = told _ (few_arith _)
named_law w (base.Type t) first h = told t h

qualifiers_law : (w : Words) (r : Checked CType) → Answers IsFew r → Answers IsFew (with_qualifiers w r)
qualifiers_law w (Ok t) h = told _ (few_qualified w.is_const w.is_volatile t h.it)
qualifiers_law w (Err e) h = record { it = tt }

pub specified_law : (w : Words) (first : Place) → words_few w ≡ true → Answers IsFew (specified w first)
specified_law w first h = qualifiers_law w (named w w.base first) (named_law w w.base first h)
