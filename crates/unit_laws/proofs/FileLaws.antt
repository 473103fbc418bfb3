-- Declarations at file scope keep what stands before them, and the globals that they define are whole.
use Rattle.std.proofs.Common.{◌≡◌, ℕ, ◌&&◌, ◌||◌, Bool, true, false, not, cond, eqb, is_some, List, [], ◌∷◌, ◌++◌, length, ap, sym, ◌∙◌, subst, refl, Option, None, Some, Ok, Err, slice_get}
use Rattle.std.proofs.lemmas.List.Elements.{All-push}
use Rattle.cm_base.specs.declared.place.Place.{Place}
use Rattle.c_ast.specs.declared.expr.Name.{Name}
use Rattle.c_ast.specs.declared.stmt.Decl.{Decl}
use Rattle.c_ast.specs.declared.stmt.Init.{Init}
use Rattle.c_ast.specs.declared.stmt.Initial.{Initial}
use Rattle.c_types.specs.declared.ctype.CType.{CType}
use Rattle.c_types.specs.Kind.{is_complete, is_function, look}
use Rattle.c_types.specs.Same.{same_type}
use Rattle.c_tree.specs.declared.program.TGlobal.{TGlobal}
use Rattle.c_rows.specs.Answers.{Checked}
use Rattle.cmse_rules.specs.declared.attributes.Attributes.{Attributes}
use Rattle.cmse_rules.specs.declared.attributes.Subject.{Subject}
use Rattle.cmse_rules.specs.declared.attributes.Subject.TheVariants.{Function, Global, Other}
use Rattle.cmse_rules.specs.Attributes.{misplaced}
use Rattle.c_scope.specs.declared.tables.Linkage.{Linkage}
use Rattle.c_scope.specs.declared.tables.Tables.{Tables}
use Rattle.c_scope.specs.Blocks.{awaits_length, is_made}
use Rattle.c_scope.specs.FileScope.{complete_object, declare_object, is_unsized}
use Rattle.c_scope.specs.Steps.{◌>>>◌, refuse}
use Rattle.c_check.specs.Formed.{attributed, nonsecure_if}
use Rattle.c_init.specs.Initials.{initialise}
use Rattle.c_decl.specs.declared.headings.Declared.{Declared}
use Rattle.c_decl.specs.declared.headings.Heading.{Heading}
use Rattle.c_decl.specs.Globals.{at_file, file_declaration, file_declared, file_init, file_inits, function_declared, global_made, global_value, new_global, object_declared, typedef_declared, with_global}
use Rattle.c_decl.specs.Headings.{bare, declared_by, heading_of, is_typedef, linkage}
use Rattle.later_laws.specs.Later.{AreSound}
use Rattle.later_laws.proofs.LaterLaws.{kept_later}
use Rattle.range_laws.specs.Few.{IsFit, few}
use Rattle.range_laws.specs.Steps.{Answers, Anything, Goes, IsObjectAt, Passes}
use Rattle.range_laws.specs.Stood.{IsDeclaredObject}
use Rattle.range_laws.proofs.Both.{no}
use Rattle.range_laws.proofs.DeriveLaws.{IsObject, nonsecure_object}
use Rattle.range_laws.proofs.Moves.{answers_unless, goes_and, goes_passes, names_as, passes_and, passes_cond, passes_on, passes_same, passes_then, passes_unless, then_goes, then_passes, told}
use Rattle.range_laws.proofs.SameLaws.{unsized_alike}
use Rattle.range_laws.proofs.StoodLaws.{complete_standing, object_stood}
use Rattle.range_laws.proofs.TableLaws.{complete_object_law, function_law, object_law, typedef_law}
use Rattle.check_laws.proofs.FormedLaws.{attributed_law}
use Rattle.unit_laws.specs.Globals.{GlobalAt, GlobalsAt}
use Rattle.unit_laws.proofs.DeclLaws.{bare_keeps, declared_keeps, heading_keeps}
use Rattle.unit_laws.proofs.GlobalLaws.{IsCompleted, complete_sized, initialise_completes, later_globals, new_global_holds}
use Rattle.unit_laws.proofs.InitLaws.{initialised_object}

-- ---- functions and typedefs

pub function_keeps : (h : Heading) (name : Name) (d : Declared) (s : Tables) → IsFit s → few d.ctype ≡ true → Passes Anything s (function_declared h name d s)
function_keeps h name d s fit f = then_passes s (attributed d.attributes Function d.ctype name.place) _ (attributed_law d.attributes Function d.ctype name.place f) (λ t g. function_law name t (linkage h d.attributes) s fit g)

typedef_keeps : (name : Name) (d : Declared) (s : Tables) → IsFit s → few d.ctype ≡ true → Goes Anything s (typedef_declared name d s)
typedef_keeps name d s fit f = then_goes s (attributed d.attributes Other d.ctype name.place) _ (attributed_law d.attributes Other d.ctype name.place f) (λ t g. typedef_law name t s fit g)

-- ---- globals

nonsecure_if_object : (o : Option Place) (t : CType) (place : Place) → is_function t ≡ false → Answers IsObject (nonsecure_if o t place)
nonsecure_if_object (Some at) t place h = nonsecure_object t place h
nonsecure_if_object None t place h = told t h

attributed_object : (attrs : Attributes) (on : Subject) (t : CType) (place : Place) → is_function t ≡ false → Answers IsObject (attributed attrs on t place)
attributed_object attrs on t place h = answers_unless (misplaced attrs on) 40 place _ (λ k. nonsecure_if_object attrs.call t place h)

and_so : {A : Type 0} {Q R : A → Type 0} (r : Checked A) → Answers Q r → Answers R r → Answers (λ x. Q x × R x) r
and_so (Ok x) h g = record { it = (h.it, g.it) }
and_so (Err e) h g = record { it = tt }

-- a declaration that isn't extern and has no initialiser is one of a complete type
complete_alone : (t : CType) (is_extern : Bool) → ((is_extern && not false) || is_made false t) ≡ true → is_extern ≡ false → is_complete t ≡ true
complete_alone t true h e = no (sym e)
complete_alone t false h e = by (is_complete t) h
  where
    by : (b : Bool) → (b || (false && awaits_length (look t))) ≡ true → b ≡ true
    by true g = refl
    by false g = g

-- behind the globals that are made
made_push : (s : Tables) (made : List TGlobal) (g : TGlobal) → GlobalsAt made s → GlobalAt s g → GlobalsAt (made ++ g ∷ []) s
made_push s made g h k = All-push (GlobalAt s) made g h k

alone_keeps : (n : ℕ) (name : Name) (t : CType) (is_extern noinit : Bool) (made : List TGlobal) (s : Tables) (how : Linkage) → how.is_extern ≡ is_extern → IsDeclaredObject name t how false n s → GlobalsAt made s → GlobalsAt (cond is_extern made (with_global name t noinit [] made)) s
alone_keeps n name t true noinit made s how is d m = m
alone_keeps n name t false noinit made s how is d m =
    let sized = complete_sized t (complete_alone t how.is_extern d.made is) in
    made_push s made (new_global name t noinit []) m (record {
      holds = new_global_holds name t noinit [] d.declared.small d.declared.free;
      small = d.declared.small;
      number = n;
      standing = record { stood = d.declared.stood; sized = unsized_alike d.declared.stood.known.ctype t d.declared.stood.typed ∙ sized };
    })

-- the type that a global has already is one with its completed type, where it has a length
same_later : (a t u : CType) → IsCompleted t u → same_type a t ≡ true → is_unsized (look a) ≡ false → same_type a u ≡ true
same_later a t u done h sized = subst (λ z. same_type a z ≡ true) (sym (done.same (sym (unsized_alike a t h) ∙ sized))) h

value_passes : (n : ℕ) (name : Name) (t : CType) (how : Linkage) (noinit : Bool) (o : Option Initial) (made : List TGlobal) (s : Tables) → IsFit s → few t ≡ true → is_function t ≡ false → IsObjectAt n s → IsDeclaredObject name t how (is_some o) n s → GlobalsAt made s → Passes GlobalsAt s (global_value n name t how.is_extern noinit o made s)
value_passes n name t how noinit None made s fit f k h d m = passes_same s _ fit (alone_keeps n name t how.is_extern noinit made s how refl d m)
value_passes n name t how noinit (Some x) made s fit f k h d m =
    goes_passes s (initialise t x name.place at_file s) _ (goes_and s _ (initialised_object t x name.place at_file s fit f k) (initialise_completes t x name.place at_file s)) (λ it u c.
    let known = d.declared.stood.known in
    let done = c.holds.1 in
    let b = complete_object_law n it.ctype u c.fit c.holds.0.0.typed c.holds.0.1 ((names_as s u c.grows.kept.externs).globals n h) in
    let v : Tables = complete_object n it.ctype u in
    passes_on u v _ b.follows b.fit
    (made_push v made (new_global name it.ctype noinit it.items) (later_globals u v made b.follows.later (later_globals s u made (kept_later s u c.grows.kept) m)) (record {
      holds = new_global_holds name it.ctype noinit it.items done.small d.declared.free;
      small = done.small;
      number = n;
      standing = complete_standing name.text it.ctype n u known (ap (λ ks. slice_get ks n) c.grows.kept.externs ∙ d.declared.stood.there) d.declared.stood.name done.sized (same_later known.ctype t it.ctype done d.declared.stood.typed);
    })))

global_passes : (name : Name) (t : CType) (how : Linkage) (noinit : Bool) (o : Option Initial) (made : List TGlobal) (s : Tables) → IsFit s → AreSound s → few t ≡ true → is_function t ≡ false → GlobalsAt made s → Passes GlobalsAt s (global_made name t how noinit o made s)
global_passes name t how noinit o made s fit sound f k m =
    passes_then s (declare_object name t how (is_some o) s) _ (passes_and s _ (object_law name t how (is_some o) s fit f k) (object_stood name t how s sound (is_some o)))
    (λ n u c. value_passes n name t how noinit o made u c.fit f k c.holds.0 c.holds.1 (later_globals s u made c.follows.later m))

object_passes : (h : Heading) (name : Name) (d : Declared) (o : Option Initial) (made : List TGlobal) (s : Tables) → IsFit s → AreSound s → few d.ctype ≡ true → is_function d.ctype ≡ false → GlobalsAt made s → Passes GlobalsAt s (object_declared h name d o made s)
object_passes h name d o made s fit sound f k m =
    then_passes s (attributed d.attributes (Global (is_some o)) d.ctype name.place) _
    (and_so _ (attributed_law d.attributes (Global (is_some o)) d.ctype name.place f) (attributed_object d.attributes (Global (is_some o)) d.ctype name.place k))
    (λ t g. global_passes name t (linkage h d.attributes) (is_some d.attributes.noinit) o made s fit sound g.0 g.1 m)

-- ---- whole declarations

declared_passes : (h : Heading) (name : Name) (d : Declared) (o : Option Initial) (made : List TGlobal) (s : Tables) → IsFit s → AreSound s → few d.ctype ≡ true → GlobalsAt made s → Passes GlobalsAt s (file_declared h name d o made s)
declared_passes h name d o made s fit sound f m = passes_cond s (is_typedef h.storage) _ _
    (passes_unless s (is_some o) 28 name.place _ (λ k. goes_passes s (typedef_declared name d s) _ (typedef_keeps name d s fit f) (λ x u c. passes_same u made c.fit (later_globals s u made (kept_later s u c.grows.kept) m))))
    (by (is_function d.ctype) refl)
  where
    by : (b : Bool) → is_function d.ctype ≡ b → Passes GlobalsAt s (cond b (refuse (is_some o) 28 name.place (function_declared h name d s >>> (λ n u. Ok (made, u)))) (object_declared h name d o made s))
    by true k = passes_unless s (is_some o) 28 name.place _ (λ l. passes_then s (function_declared h name d s) _ (function_keeps h name d s fit f) (λ n u c. passes_same u made c.fit (later_globals s u made c.follows.later m)))
    by false k = object_passes h name d o made s fit sound f k m

inits_pass : (h : Heading) (made : List TGlobal) (xs : List Init) (s : Tables) → IsFit s → AreSound s → few h.base ≡ true → GlobalsAt made s → Passes GlobalsAt s (file_inits h made xs s)
inits_pass h made [] s fit sound b m = passes_same s made fit m
inits_pass h made (x ∷ xs) s fit sound b m =
    passes_then s (file_init h x made s) _
    (goes_passes s (declared_by h x.declarator x.attrs at_file s) _ (declared_keeps h x.declarator x.attrs at_file s fit b) (λ d u c. declared_passes h x.declarator.name d x.value made u c.fit (c.grows.kept.sound sound) c.holds.typed (later_globals s u made (kept_later s u c.grows.kept) m)))
    (λ more u c. inits_pass h more xs u c.fit (c.follows.later.sound sound) b c.holds)

pub file_declaration_passes : (d : Decl) (made : List TGlobal) (s : Tables) → IsFit s → AreSound s → GlobalsAt made s → Passes GlobalsAt s (file_declaration d made s)
file_declaration_passes d made s fit sound m = passes_cond s (eqb (length d.inits) 0) _ _
    (goes_passes s (bare true at_file d.specs s) _ (bare_keeps true at_file d.specs s fit) (λ done u c. passes_same u made c.fit (later_globals s u made (kept_later s u c.grows.kept) m)))
    (goes_passes s (heading_of true at_file d.specs s) _ (heading_keeps true at_file d.specs s fit) (λ h u c. inits_pass h made d.inits u c.fit (c.grows.kept.sound sound) c.holds.base (later_globals s u made (kept_later s u c.grows.kept) m)))
