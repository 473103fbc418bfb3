-- A function that is defined is within the limits, and stands among the externs.
use Rattle.std.proofs.Common.{◌≡◌, ℕ, ◌+◌, ◌≤◌, ◌&&◌, Bool, true, false, cond, nat_lt, List, [], ◌∷◌, length, drop, ap, sym, ◌∙◌, subst, refl, Option, None, Some, Ok, Err, arith, slice_get, ltb-false}
use Rattle.std.proofs.lemmas.List.{drop_all, length-drop, length-take-le, length_push}
use Rattle.std.proofs.lemmas.Option.{none-some}
use Rattle.c_ast.specs.declared.expr.Name.{Name}
use Rattle.c_ast.specs.declared.stmt.Block.{Block}
use Rattle.c_ast.specs.declared.stmt.Function.{Function}
use Rattle.c_types.specs.declared.ctype.CType.{CType}
use Rattle.c_types.specs.Kind.{look}
use Rattle.c_tree.specs.declared.program.TFunction.{TFunction}
use Rattle.c_tree.specs.declared.program.TLocal.{TLocal}
use Rattle.c_tree.specs.declared.stmt.Stmt.{Stmt}
use Rattle.c_tree.specs.Conditions.{is_twin}
use Rattle.c_tree.specs.Nodes.{function_nodes}
use Rattle.c_tree.specs.Numbers.{looks_called}
use Rattle.c_tree.specs.Slots.{all_fit, placed_bytes, slots}
use Rattle.c_rows.specs.Answers.{Checked, ◌>>=◌}
use Rattle.cmse_rules.specs.declared.attributes.Subject.TheVariants as on
use Rattle.cmse_rules.specs.Entry.{entry_rule}
use Rattle.c_derive.specs.declared.derivations.Param.{Param}
use Rattle.c_scope.specs.declared.tables.Known.{Known}
use Rattle.c_scope.specs.declared.tables.State.{State}
use Rattle.c_scope.specs.declared.tables.Tables.{Tables}
use Rattle.c_scope.specs.FileScope as file
use Rattle.c_scope.specs.FileScope.{declare_function, define_function, defined_as, with_state}
use Rattle.c_scope.specs.Steps.{◌>>>◌, keeping}
use Rattle.c_check.specs.declared.formed.Formed.{Formed}
use Rattle.c_check.specs.Formed.{attributed}
use Rattle.c_check.specs.Typed.{forming}
use Rattle.c_decl.specs.declared.headings.Declared.{Declared}
use Rattle.c_decl.specs.declared.headings.Heading.{Heading}
use Rattle.c_decl.specs.Globals.{at_file}
use Rattle.c_decl.specs.Headings.{declared_as, heading_of, is_typedef, linkage}
use Rattle.c_body.specs.Stmts.{body}
use Rattle.c_define.specs.Functions.{defined, defined_params, entered, first_of, function_declared, function_formed, function_made, function_of, gives_of, if_function, in_body, is_too_large, many_params, outside, own_params, rule_broken, state_of, unless, with_body, with_param, within_limits}
use Rattle.later_laws.specs.Later.{AreSound}
use Rattle.later_laws.proofs.LaterLaws.{sound_beside, stands_same}
use Rattle.range_laws.specs.Few.{IsFit, derivations_few, few, params_few}
use Rattle.range_laws.specs.Ranges.{Follows, names}
use Rattle.range_laws.specs.Steps.{Answers, Goes, Passes}
use Rattle.range_laws.specs.Stood.{IsDeclared, Standing, Stood}
use Rattle.range_laws.proofs.Both.{all_push, left, no, right}
use Rattle.range_laws.proofs.Moves.{answers_unless, goes_passes, names_as, names_same, passes_and, passes_behind, passes_not, passes_then, then_passes, told}
use Rattle.range_laws.proofs.SameLaws.{unsized_alike}
use Rattle.range_laws.proofs.StoodLaws.{function_stood, get_set}
use Rattle.range_laws.proofs.TableLaws.{define_function_law, function_law}
use Rattle.check_laws.proofs.FormedLaws.{attributed_law}
use Rattle.check_laws.proofs.Layers.{forming_walk}
use Rattle.unit_laws.specs.Stmts.{StmtAt}
use Rattle.unit_laws.proofs.BodyLaws.{body_keeps}
use Rattle.unit_laws.proofs.DeclLaws.{declared_law, heading_keeps}
use Rattle.unit_laws.proofs.FunctionLaws.{function_at_end}
use Rattle.define_laws.specs.Parts.{DefinedAt, FunctionAt}
use Rattle.define_laws.proofs.CalledLaws.{Called, CalledAs, attributed_called, called_sized, declared_called, own_few}

and_so : {A : Type 0} {Q R : A → Type 0} (r : Checked A) → Answers Q r → Answers R r → Answers (λ x. Q x × R x) r
and_so (Ok x) h g = record { it = (h.it, g.it) }
and_so (Err e) h g = record { it = tt }

-- ---- parameters

-- the same externs and names, and so many more locals
pub record Enters (s u : Tables) (many : ℕ) : Type 0 where
  pub externs : u.externs ≡ s.externs
  pub names : u.names ≡ s.names
  pub meanings : u.meanings ≡ s.meanings
  pub locals : length u.locals ≡ many + length s.locals
  pub fit : IsFit u

param_enters : (text : List ℕ) (t : CType) (s : Tables) → IsFit s → few t ≡ true → Enters s (with_param text t s) 1
param_enters [] t s fit f = record {
  externs = refl;
  names = refl;
  meanings = refl;
  locals = let n = length_push s.locals (record { name = []; ctype = t }) in omega (arith, n);
  fit = record { meanings = fit.meanings; locals = all_push (λ (l : TLocal). few l.ctype) s.locals (record { name = []; ctype = t }) fit.locals f; structs = fit.structs; externs = fit.externs };
}
param_enters (b ∷ bs) t s fit f = record {
  externs = refl;
  names = refl;
  meanings = refl;
  locals = let n = length_push s.locals (record { name = b ∷ bs; ctype = t }) in omega (arith, n);
  fit = record { meanings = fit.meanings; locals = all_push (λ (l : TLocal). few l.ctype) s.locals (record { name = b ∷ bs; ctype = t }) fit.locals f; structs = fit.structs; externs = fit.externs };
}

all_enter : (ps : List Param) (s : Tables) → IsFit s → params_few ps ≡ true → Enters s (entered ps s) (length ps)
all_enter [] s fit f = record { externs = refl; names = refl; meanings = refl; locals = omega arith; fit = fit }
all_enter (p ∷ ps) s fit f =
    let one = param_enters p.name p.ctype s fit (left (few p.ctype) (params_few ps) f) in
    let all = all_enter ps (with_param p.name p.ctype s) one.fit (right (few p.ctype) (params_few ps) f) in
    record {
      externs = all.externs ∙ one.externs;
      names = all.names ∙ one.names;
      meanings = all.meanings ∙ one.meanings;
      locals = let a = all.locals in let b = one.locals in omega (arith, a, b);
      fit = all.fit;
    }

outside_fits : (s : Tables) → IsFit s → IsFit (outside s)
outside_fits s fit = record { meanings = fit.meanings; locals = refl; structs = fit.structs; externs = fit.externs }

-- ---- limits

no_fault : {A : Type 0} (code : ℕ) → Some code ≡ None → A
no_fault code e = absurd (none-some code (sym e))

first_none : (a b : Option ℕ) → first_of a b ≡ None → (a ≡ None) × (b ≡ None)
first_none (Some code) b e = no_fault code e
first_none None b e = (refl, e)

one_by : (b : Bool) (x : ℕ) → cond b (Some x) None ≡ None → b ≡ false
one_by true x e = no_fault x e
one_by false x e = refl

few_enough : (many : ℕ) → many_params many ≡ None → many ≤ 8
few_enough many e = ltb-false 8 many (one_by (nat_lt 8 many) 56 e)

two_by : (b c : Bool) (x y : ℕ) → cond b (Some x) (cond c (Some y) None) ≡ None → (b ≡ false) × (c ≡ false)
two_by true c x y e = no_fault x e
two_by false true x y e = no_fault y e
two_by false false x y e = (refl, refl)

entry_holds : (many : ℕ) (entry is_static : Bool) → entry_rule entry many is_static ≡ None → entry ≡ true → (many ≤ 4) × (is_static ≡ false)
entry_holds many false is_static e h = no h
entry_holds many true is_static e h = let r = two_by (nat_lt 4 many) is_static 41 43 e in (ltb-false 4 many r.0, r.1)

not_large : (f : TFunction) → all_fit f.locals ≡ true → is_too_large f ≡ false → placed_bytes f ≤ 16384
not_large f h k = ltb-false 16384 (placed_bytes f) (by (all_fit f.locals) h k)
  where
    by : (b : Bool) → b ≡ true → (b && nat_lt 16384 (placed_bytes f)) ≡ false → nat_lt 16384 (placed_bytes f) ≡ false
    by true e g = g
    by false e g = no e

-- ---- a function with its body

passes_keeping : {A : Type 0} {Q : A → Tables → Type 0} (s u : Tables) (r : Checked A) → Follows s u → IsFit u → Answers (λ x. Q x u) r → Passes Q s (keeping u r)
passes_keeping s u (Ok x) f fit h = record { it = record { follows = f; fit = fit; holds = h.it } }
passes_keeping s u (Err e) f fit h = record { it = tt }

-- a function that is about to be defined stands under this number
pub record IsDefined (name : Name) (t : CType) (st : State) (n : ℕ) (s : Tables) : Type 0 where
  pub standing : Standing name.text t n s
  pub body : standing.stood.known.state.has_body ≡ true
  pub linkage : standing.stood.known.state.is_static ≡ st.is_static

module _ (name : Name) (t : CType) (st : State) (ps : List Param) (b : Block) (n : ℕ) (s : Tables) (fit : IsFit s) (sound : AreSound s) (called : Called ps t) (f : params_few ps ≡ true) (rule : rule_broken st (length ps) ≡ None) (free : is_twin name.text ≡ false) (here : IsDefined name t st n s) where
  abbrev begun : Tables
  begun = entered ps (outside s)

  enters : Enters (outside s) begun (length ps)
  enters = all_enter ps (outside s) (outside_fits s fit) f

  rules : (entry_rule st.is_entry (length ps) st.is_static ≡ None) × (many_params (length ps) ≡ None)
  rules = first_none (entry_rule st.is_entry (length ps) st.is_static) (many_params (length ps)) rule

  module _ (x : Stmt) (u : Tables) (goes : Goes (StmtAt st.is_entry) begun (Ok (x, u))) where
    same : (outside u).externs ≡ s.externs
    same = goes.it.grows.kept.externs ∙ enters.externs

    follows : Follows s (outside u)
    follows = record {
      names = names_as s (outside u) same;
      later = record {
        externs = λ i k h. stands_same (outside u).externs i k (ap (λ ks. slice_get ks i) same ∙ h);
        sound = λ h. sound_beside u (outside u) refl refl refl (goes.it.grows.kept.sound (sound_beside s begun enters.externs enters.names enters.meanings h));
      };
    }

    abbrev made : TFunction
    made = function_of name t st (length ps) x u.locals

    enough : length ps ≤ length u.locals
    enough = let a = enters.locals in let g = goes.it.grows.locals in omega (arith, a, g)

    many : length made.params ≡ length ps
    many = length-take-le (length ps) u.locals enough

    all : length made.params + length made.locals ≡ length u.locals
    all = let a = many in let d = length-drop (length ps) u.locals in let e = enough in omega (arith, a, d, e)

    small : all_fit made.locals ≡ true
    small =
        let none : drop (length ps) begun.locals ≡ [] = drop_all (length ps) begun.locals (let a = enters.locals in omega (arith, a)) in
        goes.it.grows.kept.locals (length ps) (ap all_fit none)

    limited : function_nodes made ≤ 2000 → slots made ≤ 900 → placed_bytes made ≤ 16384 → FunctionAt (outside u) made
    limited nodes places bytes = record {
      holds = record {
        params = subst (λ m. m ≤ 8) (sym many) (few_enough (length ps) rules.1);
        nodes = nodes;
        slots = places;
        placed = bytes;
        types = small;
        typed = subst (λ m. looks_called m (look t) ≡ true) (sym many) called;
        named = free;
        entry = λ h. subst (λ m. (m ≤ 4) × (st.is_static ≡ false)) (sym many) (entry_holds (length ps) st.is_entry st.is_static rules.0 h);
        numbers = function_at_end made u (outside u) goes.it.holds all (names_same (names u));
      };
      number = n;
      standing = record { stood = record { known = here.standing.stood.known; there = ap (λ ks. slice_get ks n) same ∙ here.standing.stood.there; name = here.standing.stood.name; typed = here.standing.stood.typed }; sized = here.standing.sized };
      body = here.body;
      linkage = here.linkage;
    }

    limits : Answers (λ g. DefinedAt g (outside u)) (within_limits made)
    limits =
        answers_unless (nat_lt 2000 (function_nodes made)) 50 name.place _ (λ a.
        answers_unless (nat_lt 900 (slots made)) 53 name.place _ (λ c.
        answers_unless (is_too_large made) 55 name.place _ (λ d.
        told made (limited (ltb-false 2000 (function_nodes made) a) (ltb-false 900 (slots made) c) (not_large made small d)))))

    ends : Passes DefinedAt s (keeping (outside u) (within_limits made))
    ends = passes_keeping s (outside u) (within_limits made) follows (outside_fits u goes.it.fit) limits

  after : (r : Checked (Stmt × Tables)) → Goes (StmtAt st.is_entry) begun r → Passes DefinedAt s (r >>> (λ x u. keeping (outside u) (within_limits (function_of name t st (length ps) x u.locals))))
  after (Ok p) goes = ends p.0 p.1 goes
  after (Err e) goes = record { it = tt }

  pub body_passes : Passes DefinedAt s (with_body name t st ps b s)
  body_passes = after (body b (gives_of t) (in_body st.is_entry) begun) (body_keeps b (gives_of t) (in_body st.is_entry) begun enters.fit)

-- ---- its heading

defined_here : (name : Name) (t : CType) (ps : List Param) (n : ℕ) (s : Tables) → Called ps t → (here : Stood name.text t n s) → IsDefined name t here.known.state n (defined_as n s (Some here.known))
defined_here name t ps n s called here =
    let k = here.known in
    let y : Known = with_state (file.with_body k.state) k in
    record {
      standing = record {
        stood = record { known = y; there = get_set s.externs n k y here.there; name = here.name; typed = here.typed };
        sized = unsized_alike k.ctype t here.typed ∙ called_sized (length ps) (look t) called;
      };
      body = refl;
      linkage = refl;
    }

module _ (name : Name) (t : CType) (ps : List Param) (b : Block) (n : ℕ) (s : Tables) (fit : IsFit s) (sound : AreSound s) (called : Called ps t) (f : params_few ps ≡ true) (d : IsDeclared name t n s) where
  abbrev known : Known
  known = d.stood.known

  is_here : IsDefined name t known.state n (define_function n s)
  is_here = subst (λ o. IsDefined name t known.state n (defined_as n s o)) (sym d.stood.there) (defined_here name t ps n s called d.stood)

  ruled : (o : Option ℕ) → rule_broken known.state (length ps) ≡ o → Passes DefinedAt s (unless o name.place (with_body name t known.state ps b (define_function n s)))
  ruled (Some code) is = passes_not
  ruled None is =
      let brings = define_function_law n s fit in
      passes_behind s (define_function n s) _ brings.follows
      (body_passes name t known.state ps b n (define_function n s) brings.fit (brings.follows.later.sound sound) called f is d.free is_here)

  pub made_passes : Passes DefinedAt s (function_made n name t ps b s)
  made_passes = subst (λ o. Passes DefinedAt s (state_of o name.place >>= (λ st. unless (rule_broken st (length ps)) name.place (with_body name t st ps b (define_function n s))))) (sym d.stood.there)
      (ruled (rule_broken known.state (length ps)) refl)

declared_passes : (h : Heading) (name : Name) (d : Declared) (ps : List Param) (b : Block) (s : Tables) → IsFit s → AreSound s → few d.ctype ≡ true → Called ps d.ctype → params_few ps ≡ true → Passes DefinedAt s (function_declared h name d ps b s)
declared_passes h name d ps b s fit sound f called g =
    then_passes s (attributed d.attributes on.Function d.ctype name.place) _
    (and_so _ (attributed_law d.attributes on.Function d.ctype name.place f) (attributed_called d.attributes on.Function ps d.ctype name.place called)) (λ t k.
    passes_then s (declare_function name t (linkage h d.attributes) s) _
    (passes_and s _ (function_law name t (linkage h d.attributes) s fit k.0) (function_stood name t (linkage h d.attributes) s sound)) (λ n u c.
    made_passes name t ps b n u c.fit (c.follows.later.sound sound) k.1 g c.holds.1))

-- only what isn't `typedef` has parameters here
own_of : (typedef : Bool) (o : Option (List Param)) (ps : List Param) → cond typedef None o ≡ Some ps → o ≡ Some ps
own_of true o ps e = absurd (none-some ps e)
own_of false o ps e = e

formed_passes : (h : Heading) (f : Function) (it : Formed) (s : Tables) → IsFit s → AreSound s → few h.base ≡ true → derivations_few it.derivations ≡ true → Passes DefinedAt s (function_formed h f it s)
formed_passes h f it s fit sound g k =
    then_passes s (declared_as h f.declarator.name.place f.attrs it) _ (and_so _ (declared_law h f.declarator.name.place f.attrs it s g k) (declared_called h f.declarator.name.place f.attrs it)) (λ d c.
    by d c.0.typed c.1 (defined_params h it) refl)
  where
    by : (d : Declared) → few d.ctype ≡ true → CalledAs it.derivations d.ctype → (o : Option (List Param)) → defined_params h it ≡ o → Passes DefinedAt s (if_function o f.declarator.name.place (λ ps. function_declared h f.declarator.name d ps f.body s))
    by d few-type called None is = passes_not
    by d few-type called (Some ps) is =
        let own : own_params it.derivations ≡ Some ps = own_of (is_typedef h.storage) (own_params it.derivations) ps is in
        declared_passes h f.declarator.name d ps f.body s fit sound few-type (called ps own) (own_few it.derivations ps k own)

pub defined_passes : (f : Function) (s : Tables) → IsFit s → AreSound s → Passes DefinedAt s (defined f s)
defined_passes f s fit sound =
    goes_passes s (heading_of true at_file f.specs s) _ (heading_keeps true at_file f.specs s fit) (λ h u c.
    goes_passes u (forming f.declarator.form h.attributes at_file u) _ ((forming_walk f.declarator.form).goes h.attributes at_file u c.fit) (λ it v d.
    formed_passes h f it v d.fit (d.grows.kept.sound (c.grows.kept.sound sound)) c.holds.base d.holds))
