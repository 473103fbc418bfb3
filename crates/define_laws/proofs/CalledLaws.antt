-- The type of a function that is defined has as many parameters as its declarator names.
use Rattle.std.proofs.Common.{◌≡◌, ℕ, zero, suc, ◌-◌, Bool, true, false, List, [], ◌∷◌, length, ap, sym, ◌∙◌, subst, refl, Option, None, Some, Ok, Err, arith, option_and_then, slice_get}
use Rattle.std.proofs.lemmas.Bool.{eq-eqb}
use Rattle.std.proofs.lemmas.List.{length-map}
use Rattle.std.proofs.lemmas.Option.{none-some}
use Rattle.cm_base.specs.declared.place.Place.{Place}
use Rattle.c_ast.specs.declared.expr.Attr.{Attr}
use Rattle.c_types.specs.declared.ctype.CType.{CType}
use Rattle.c_types.specs.declared.ctype.Shape.TheOpen as shape
use Rattle.c_types.specs.declared.ctype.Shape.TheVariants.{rolls-Function}
use Rattle.c_types.specs.Derived.{parameter}
use Rattle.c_types.specs.Kind.{Look, is_result, is_struct, look}
use Rattle.c_tree.specs.Numbers.{looks_called}
use Rattle.c_rows.specs.Answers.{Checked, ◌>>=◌}
use Rattle.cmse_rules.specs.declared.attributes.Attributes.{Attributes}
use Rattle.cmse_rules.specs.declared.attributes.Subject.{Subject}
use Rattle.cmse_rules.specs.Attributes.{attributes, misplaced}
use Rattle.cmse_rules.specs.Pointers.{is_many, marked_behind, marked_function, marked_in, or_fault, reached_params, steps}
use Rattle.c_derive.specs.declared.derivations.Derivation.{Derivation}
use Rattle.c_derive.specs.declared.derivations.Derivation.TheVariants as by
use Rattle.c_derive.specs.declared.derivations.Param.{Param}
use Rattle.c_derive.specs.Derivations.{derive, derived, function_type, param_types}
use Rattle.c_scope.specs.FileScope.{is_unsized}
use Rattle.c_check.specs.declared.formed.Formed.{Formed}
use Rattle.c_check.specs.Formed.{attributed, nonsecure_if}
use Rattle.c_decl.specs.declared.headings.Declared.{Declared}
use Rattle.c_decl.specs.declared.headings.Heading.{Heading}
use Rattle.c_decl.specs.Headings.{declared_as, declared_type, if_inline, is_typedef}
use Rattle.c_define.specs.Functions.{own_params, params_in}
use Rattle.range_laws.specs.Few.{derivation_few, derivations_few, params_few}
use Rattle.range_laws.specs.Steps.{Answers}
use Rattle.range_laws.proofs.Both.{all_get, no, or_pass}
use Rattle.range_laws.proofs.FewLaws.{shape_out_is}
use Rattle.range_laws.proofs.Moves.{answers_cond, answers_then, answers_unless, silent, told}

-- a type of functions of as many parameters
abbrev pub Called : List Param → CType → Type 0
Called ps t = looks_called (length ps) (look t) ≡ true

-- it is no array without a length
pub called_sized : (many : ℕ) (x : Look) → looks_called many x ≡ true → is_unsized x ≡ false
called_sized many (shape.Array of None) h = no h
called_sized many _ h = refl

-- ---- derivations

function_called : (t : CType) (qs ps : List Param) (place : Place) → qs ≡ ps → Answers (Called ps) (function_type t qs place)
function_called t qs ps place e =
    answers_cond (is_result t) _ _ (λ a. answers_unless (is_struct t) 29 place _ (λ b.
    told _ (ap (looks_called (length ps)) (shape_out_is (shape.Function t (param_types qs) false) _ (rolls-Function t (param_types qs) false))
    ∙ eq-eqb (length (param_types qs)) (length ps) (length-map qs (λ (p : Param). parameter p.ctype) ∙ ap (λ (xs : List Param). length xs) e)))) (λ a. silent)

-- what is no function has no parameters of its own
not_own : {A : Type 0} (ps : List Param) → None ≡ Some ps → A
not_own ps e = absurd (none-some ps e)

one_called : (t : CType) (d : Derivation) (ps : List Param) (place : Place) → params_in d ≡ Some ps → Answers (Called ps) (derive t d place)
one_called t by.Pointer ps place e = not_own ps e
one_called t by.Const ps place e = not_own ps e
one_called t by.Volatile ps place e = not_own ps e
one_called t (by.Array len) ps place e = not_own ps e
one_called t (by.Function qs) ps place e = function_called t qs ps place (let f : Some qs ≡ Some ps = e in cc)

anything : {A : Type 0} (r : Checked A) → Answers (λ x. Unit {0}) r
anything (Ok x) = record { it = tt }
anything (Err e) = record { it = tt }

-- the last derivation is the same behind another
own_behind : (d x : Derivation) (ds : List Derivation) → own_params (d ∷ x ∷ ds) ≡ own_params (x ∷ ds)
own_behind d x ds =
    let here : length (d ∷ x ∷ ds) - 1 ≡ suc (length ds) = omega arith in
    let there : length (x ∷ ds) - 1 ≡ length ds = omega arith in
    ap (λ n. option_and_then params_in (slice_get (d ∷ x ∷ ds) n)) here ∙ sym (ap (λ n. option_and_then params_in (slice_get (x ∷ ds) n)) there)

derived_called : (ps : List Param) (t : CType) (ds : List Derivation) (place : Place) → own_params ds ≡ Some ps → Answers (Called ps) (derived t ds place)
derived_called ps t [] place e = not_own ps e
derived_called ps t (d ∷ []) place e = answers_then (derive t d place) _ (one_called t d ps place e) (λ u k. told u k)
derived_called ps t (d ∷ x ∷ ds) place e = answers_then (derive t d place) _ (anything (derive t d place)) (λ u k. derived_called ps u (x ∷ ds) place (sym (own_behind d x ds) ∙ e))

-- the same of whichever parameters a declarator has
abbrev pub CalledAs : List Derivation → CType → Type 0
CalledAs ds t = (ps : List Param) → own_params ds ≡ Some ps → Called ps t

whichever : (ds : List Derivation) (r : Checked CType) → ((ps : List Param) → own_params ds ≡ Some ps → Answers (Called ps) r) → Answers (CalledAs ds) r
whichever ds (Ok t) h = record { it = λ ps e. (h ps e).it }
whichever ds (Err x) h = record { it = tt }

inline_called : (ds : List Derivation) (named : Bool) (o : Option Place) (t : CType) → CalledAs ds t → Answers (CalledAs ds) (if_inline named o t)
inline_called ds named (Some at) t h = answers_cond _ _ _ (λ k. told t h) (λ k. silent)
inline_called ds named None t h = told t h

type_called : (h : Heading) (f : Formed) (place : Place) → Answers (CalledAs f.derivations) (declared_type h f place)
type_called h f place = answers_then (derived h.base f.derivations place) _ (whichever f.derivations _ (λ ps e. derived_called ps h.base f.derivations place e)) (λ t k. inline_called f.derivations (is_typedef h.storage) h.inline t k)

with_all : (ds : List Derivation) (r : Checked Attributes) (t : CType) → CalledAs ds t → Answers (λ (d : Declared). CalledAs ds d.ctype) (r >>= (λ all. Ok (record { ctype = t; attributes = all })))
with_all ds (Ok all) t h = told _ h
with_all ds (Err e) t h = record { it = tt }

pub declared_called : (h : Heading) (place : Place) (attrs : List Attr) (f : Formed) → Answers (λ (d : Declared). CalledAs f.derivations d.ctype) (declared_as h place attrs f)
declared_called h place attrs f = answers_then (declared_type h f place) _ (type_called h f place) (λ t k. with_all f.derivations (attributes attrs f.attributes) t k)

-- ---- parameters

few_params_in : (o : Option Derivation) (ps : List Param) → or_pass derivation_few o ≡ true → option_and_then params_in o ≡ Some ps → params_few ps ≡ true
few_params_in None ps h e = not_own ps e
few_params_in (Some by.Pointer) ps h e = not_own ps e
few_params_in (Some by.Const) ps h e = not_own ps e
few_params_in (Some by.Volatile) ps h e = not_own ps e
few_params_in (Some (by.Array len)) ps h e = not_own ps e
few_params_in (Some (by.Function qs)) ps h e = subst (λ xs. params_few xs ≡ true) (let f : Some qs ≡ Some ps = e in cc) h

pub own_few : (ds : List Derivation) (ps : List Param) → derivations_few ds ≡ true → own_params ds ≡ Some ps → params_few ps ≡ true
own_few ds ps h e = few_params_in (slice_get ds (length ds - 1)) ps (all_get derivation_few ds (length ds - 1) h) e

-- ---- attributes

marked_called : (ps : List Param) (t : CType) (x : Look) (place : Place) → looks_called (length ps) x ≡ true → Answers (Called ps) (or_fault (marked_function t x) place)
marked_called ps t (shape.Function g p n) place h = told _ (ap (looks_called (length ps)) (shape_out_is (shape.Function g p true) _ (rolls-Function g p true)) ∙ h)
marked_called ps t shape.Void place h = silent
marked_called ps t (shape.Arith a) place h = silent
marked_called ps t (shape.Pointer to) place h = silent
marked_called ps t (shape.Array of len) place h = silent
marked_called ps t (shape.Struct m name size align) place h = silent

behind_called : (mark : CType → Option CType) (ps : List Param) (t : CType) (x : Look) (place : Place) → looks_called (length ps) x ≡ true → Answers (Called ps) (or_fault (marked_behind mark t x) place)
behind_called mark ps t (shape.Function g p n) place h = silent
behind_called mark ps t shape.Void place h = silent
behind_called mark ps t (shape.Arith a) place h = silent
behind_called mark ps t (shape.Pointer to) place h = no h
behind_called mark ps t (shape.Array of len) place h = no h
behind_called mark ps t (shape.Struct m name size align) place h = silent

in_called : (n : ℕ) (ps : List Param) (t : CType) (place : Place) → Called ps t → Answers (Called ps) (or_fault (marked_in n t) place)
in_called zero ps t place h = marked_called ps t (look t) place h
in_called (suc n) ps t place h = behind_called (marked_in n) ps t (look t) place h

nonsecure_called : (o : Option Place) (ps : List Param) (t : CType) (place : Place) → Called ps t → Answers (Called ps) (nonsecure_if o t place)
nonsecure_called (Some at) ps t place h = answers_unless (is_many (reached_params t)) 42 place _ (λ k. in_called (steps t) ps t place h)
nonsecure_called None ps t place h = told t h

pub attributed_called : (attrs : Attributes) (on : Subject) (ps : List Param) (t : CType) (place : Place) → Called ps t → Answers (Called ps) (attributed attrs on t place)
attributed_called attrs on ps t place h = answers_unless (misplaced attrs on) 40 place _ (λ k. nonsecure_called attrs.call ps t place h)
