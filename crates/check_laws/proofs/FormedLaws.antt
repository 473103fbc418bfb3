-- Types that declarators and specifiers make.
use Rattle.std.proofs.Common.{◌≡◌, ℕ, Bool, true, false, List, [], ◌∷◌, refl, Option, None, Some, Ok, Err}
use Rattle.cm_base.specs.declared.place.Place.{Place}
use Rattle.c_ast.specs.declared.expr.Attr.{Attr}
use Rattle.c_ast.specs.declared.expr.Name.{Name}
use Rattle.c_ast.specs.declared.expr.SpecWord.{SpecWord}
use Rattle.c_ast.specs.declared.expr.Star.{Star}
use Rattle.c_types.specs.Derived.{decayed}
use Rattle.c_types.specs.declared.ctype.CType.{CType}
use Rattle.c_rows.specs.Answers.{Checked, ◌>>=◌}
use Rattle.cmse_rules.specs.declared.attributes.Attributes.{Attributes}
use Rattle.cmse_rules.specs.declared.attributes.Subject.{Subject}
use Rattle.cmse_rules.specs.declared.attributes.Subject.TheVariants.{Other}
use Rattle.cmse_rules.specs.Attributes.{misplaced, ones}
use Rattle.cmse_rules.specs.Pointers.{has_secure_pointer}
use Rattle.c_derive.specs.declared.derivations.Derivation.{Derivation}
use Rattle.c_derive.specs.declared.derivations.Param.{Param}
use Rattle.c_derive.specs.declared.specifiers.Words.{Words}
use Rattle.c_derive.specs.Derivations.{derived, pointer_parts}
use Rattle.c_derive.specs.Specifiers.{with_type, with_word}
use Rattle.c_scope.specs.declared.tables.Layout.{Layout}
use Rattle.c_scope.specs.declared.tables.Tables.{Tables}
use Rattle.c_scope.specs.Blocks.{declare_parameter}
use Rattle.c_scope.specs.Layout.{added}
use Rattle.c_scope.specs.Lookup.{type_named}
use Rattle.c_check.specs.declared.around.Around.{Around}
use Rattle.c_check.specs.declared.formed.Formed.{Formed}
use Rattle.c_check.specs.declared.specified.Head.{Head}
use Rattle.c_check.specs.declared.specified.Specified.{Specified}
use Rattle.c_check.specs.Formed.{attributed, declared, formed, inner_type, nonsecure_if, parameter, place_or, type_of_name, with_member, without_pointer}
use Rattle.c_check.specs.Specified.{base_of, head_of, named_type, start_of, tagged_type, with_attr, with_attributes, with_name, worded}
use Rattle.range_laws.specs.Few.{IsFit, derivations_few, few, members_few, words_few}
use Rattle.range_laws.specs.Steps.{Answers, Goes, IsFew}
use Rattle.range_laws.proofs.DeriveLaws.{derivations_law, derived_law, nonsecure_declared_law, parts_few, specified_law, with_type_law, with_word_law}
use Rattle.range_laws.proofs.FewLaws.{few_decayed}
use Rattle.range_laws.proofs.LookupLaws.{type_named_law}
use Rattle.range_laws.proofs.Moves.{answers_then, answers_unless, goes_then, silent, stays, then_goes, told}
use Rattle.range_laws.proofs.TableLaws.{added_law, parameter_law}
use Rattle.check_laws.specs.Keeps.{ParamAt}

pub formed_few : (stars : List Star) (suffixes inner : List Derivation) (attrs : Attributes) → derivations_few suffixes ≡ true → derivations_few inner ≡ true → derivations_few (formed stars suffixes inner attrs).derivations ≡ true
formed_few stars suffixes inner attrs f g = derivations_law (pointer_parts [] stars) suffixes inner (parts_few [] stars refl) f g

nonsecure_by : (o : Option Place) (t : CType) (place : Place) → few t ≡ true → Answers IsFew (nonsecure_if o t place)
nonsecure_by (Some at) t place h = nonsecure_declared_law t place h
nonsecure_by None t place h = told t h

pub attributed_law : (attrs : Attributes) (on : Subject) (t : CType) (place : Place) → few t ≡ true → Answers IsFew (attributed attrs on t place)
attributed_law attrs on t place h = answers_unless (misplaced attrs on) 40 place _ (λ k. nonsecure_by attrs.call t place h)

pub inner_law : (base : CType) (f : Formed) (place : Place) → few base ≡ true → derivations_few f.derivations ≡ true → Answers IsFew (inner_type base f place)
inner_law base f place h g = answers_then (derived base f.derivations place) _ (derived_law base f.derivations place h g) (λ t k. attributed_law f.attributes Other t place k)

pub type_of_name_law : (h : Head) (f : Formed) → few h.base ≡ true → derivations_few f.derivations ≡ true → Answers IsFew (type_of_name h f)
type_of_name_law h f b g = answers_then (inner_type h.base f h.first) _ (inner_law h.base f h.first b g) (λ t k. answers_unless (has_secure_pointer t) 29 h.first _ (λ l. told t k))

abbrev pub LayoutFew : Layout → Type 0
LayoutFew l = members_few l.members ≡ true

pub with_member_law : (base : CType) (name : Name) (f : Formed) (l : Layout) → few base ≡ true → derivations_few f.derivations ≡ true → members_few l.members ≡ true → Answers LayoutFew (with_member base name f l)
with_member_law base name f l h g m =
    answers_then (inner_type base f name.place) _ (inner_law base f name.place h g) (λ t k.
    answers_then (added name t l) _ (added_law name t l k m) (λ both n. told both.1 n))

declared_law : (name : Option Name) (place : Place) (t : CType) (around : Around) (s : Tables) → IsFit s → few t ≡ true → Goes ParamAt s (declared name place t around s)
declared_law name place t around s fit h = goes_then s (declare_parameter around.scope name t place s) _ (parameter_law around.scope name t place s fit h) (λ x u c. stays u _ c.fit h)

pub parameter_keeps : (name : Option Name) (h : Head) (f : Formed) (around : Around) (s : Tables) → IsFit s → few h.base ≡ true → derivations_few f.derivations ≡ true → Goes ParamAt s (parameter name h f around s)
parameter_keeps name h f around s fit b g =
    then_goes s (inner_type h.base f (place_or h.first name)) _ (inner_law h.base f (place_or h.first name) b g)
    (λ t k. declared_law name (place_or h.first name) (decayed t) around s fit (few_decayed t k))

-- ---- specifiers

abbrev pub SpecifiedFew : Specified → Type 0
SpecifiedFew it = words_few it.words ≡ true

pub worded_law : (it : Specified) (place : Place) (w : SpecWord) (stored : Bool) → words_few it.words ≡ true → Answers SpecifiedFew (worded it place w stored)
worded_law it place w stored h = answers_then (with_word stored it.words w place) _ (with_word_law stored it.words w place h) (λ ws k. told _ k)

named_type_law : (it : Specified) (place : Place) (t : CType) → few t ≡ true → Answers SpecifiedFew (named_type it place t)
named_type_law it place t h = answers_then (with_type it.words t place) _ (with_type_law it.words t place h) (λ ws k. told _ k)

pub tagged_type_law : (it : Specified) (place : Place) (t : CType) → few t ≡ true → Answers SpecifiedFew (tagged_type it place t)
tagged_type_law it place t h = answers_then (named_type it place t) _ (named_type_law it place t h) (λ more k. told _ k)

pub with_name_law : (s : Tables) (name : Name) (it : Specified) → IsFit s → Answers SpecifiedFew (with_name s name it)
with_name_law s name it fit = answers_then (type_named s name) (named_type it name.place) (type_named_law s fit name) (λ t h. named_type_law it name.place t h)

attr_by : (it : Specified) (place : Place) (r : Checked Attributes) → words_few it.words ≡ true → Answers SpecifiedFew (r >>= (λ all. Ok (with_attributes it place all)))
attr_by it place (Ok all) h = told _ h
attr_by it place (Err e) h = record { it = tt }

pub with_attr_law : (x : Attr) (it : Specified) → words_few it.words ≡ true → Answers SpecifiedFew (with_attr x it)
with_attr_law x it h = attr_by it x.place (ones x.list it.attributes) h

abbrev pub HeadFew : Head → Type 0
HeadFew h = few h.base ≡ true

pub head_of_law : (it : Specified) → words_few it.words ≡ true → Answers HeadFew (head_of it)
head_of_law it h = answers_then (base_of it) _ (specified_law it.words (start_of it) h) (λ t k. told _ k)
