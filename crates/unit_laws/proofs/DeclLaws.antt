-- Declarations keep what stands before them in range.
use Rattle.std.proofs.Common.{◌≡◌, ℕ, ◌<◌, Bool, true, false, eqb, is_some, List, [], ◌∷◌, ◌++◌, length, ap, sym, ◌∙◌, refl, Option, None, Some, Ok, Err, arith}
use Rattle.std.specs.List.{list_all}
use Rattle.std.proofs.lemmas.Bool.{lt-ltb}
use Rattle.cm_base.specs.declared.place.Place.{Place}
use Rattle.c_ast.specs.declared.expr.Attr.{Attr}
use Rattle.c_ast.specs.declared.expr.Declarator.{Declarator}
use Rattle.c_ast.specs.declared.expr.Name.{Name}
use Rattle.c_ast.specs.declared.expr.Spec.{Spec}
use Rattle.c_ast.specs.declared.stmt.Decl.{Decl}
use Rattle.c_ast.specs.declared.stmt.Init.{Init}
use Rattle.c_ast.specs.declared.stmt.Initial.{Initial}
use Rattle.c_types.specs.declared.ctype.CType.{CType}
use Rattle.c_types.specs.Kind.{is_function}
use Rattle.c_tree.specs.declared.stmt.Item.{Item}
use Rattle.c_tree.specs.declared.stmt.Stmt.{Stmt}
use Rattle.c_tree.specs.declared.stmt.Stmt.TheVariants as stmt
use Rattle.c_tree.specs.declared.stmt.Stmt.TheVariants.{rolls-Declare}
use Rattle.c_tree.specs.declared.stmt.Part.TheOpen as layer
use Rattle.c_tree.specs.declared.stmt.Part.TheFolds.{fold-roll-Stmt}
use Rattle.c_tree.specs.Numbers.{items_in_range, part_step, stmt_in_range, stmt_step}
use Rattle.c_tree.specs.Numbers.{Around as Range}
use Rattle.c_rows.specs.Answers.{Checked, ◌>>=◌}
use Rattle.cmse_rules.specs.declared.attributes.Attributes.{Attributes}
use Rattle.cmse_rules.specs.declared.attributes.Subject.TheVariants.{Other}
use Rattle.cmse_rules.specs.Attributes.{attributes}
use Rattle.c_derive.specs.Derivations.{derived}
use Rattle.c_scope.specs.declared.tables.Tables.{Tables}
use Rattle.c_scope.specs.Blocks.{complete_local, declare_local}
use Rattle.c_scope.specs.Steps.{keeping}
use Rattle.c_scope.specs.Tags.{declare_struct}
use Rattle.c_check.specs.declared.around.Around.{Around}
use Rattle.c_check.specs.declared.formed.Formed.{Formed}
use Rattle.c_check.specs.declared.specified.Specified.{Specified}
use Rattle.c_check.specs.Formed.{attributed}
use Rattle.c_check.specs.Specified.{base_of, start_of}
use Rattle.c_check.specs.Typed.{forming, specifiers}
use Rattle.c_init.specs.Initials.{initialise}
use Rattle.c_decl.specs.declared.headings.Declared.{Declared}
use Rattle.c_decl.specs.declared.headings.Heading.{Heading}
use Rattle.c_decl.specs.Headings.{as_heading, bare, bare_as, declared_as, declared_by, declared_type, declares, heading_of, if_inline, is_typedef, lone_tag}
use Rattle.c_decl.specs.Locals.{local_declaration, local_declared, local_init, local_inits, local_made, local_value}
use Rattle.range_laws.specs.Few.{IsFit, derivations_few, few, words_few}
use Rattle.range_laws.specs.Ranges.{Grows, range}
use Rattle.range_laws.specs.Steps.{Answers, Anything, Goes, IsFew}
use Rattle.range_laws.proofs.Both.{all_push, both, left, right}
use Rattle.range_laws.proofs.DeriveLaws.{derived_law, specified_law}
use Rattle.range_laws.proofs.Moves.{answers_cond, answers_then, comes, goes_cond, goes_then, goes_unless, keeps, silent, stays, then_goes, told, within}
use Rattle.range_laws.proofs.TableLaws.{complete_local_law, declare_struct_law, local_law}
use Rattle.range_laws.proofs.Wider.{items_wider, stmt_wider}
use Rattle.check_laws.proofs.FormedLaws.{attributed_law}
use Rattle.check_laws.proofs.Layers.{forming_walk, specifiers_goes}
use Rattle.unit_laws.specs.Stmts.{StmtAt, StmtsAt}
use Rattle.unit_laws.proofs.InitLaws.{initialise_keeps}

-- ---- headings

pub record IsHeading (h : Heading) (t : Tables) : Type 0 where
  pub base : few h.base ≡ true

pub heading_law : (it : Specified) (t : Tables) → words_few it.words ≡ true → Answers (λ h. IsHeading h t) (as_heading it)
heading_law it t h = answers_then (base_of it) _ (specified_law it.words (start_of it) h) (λ ty k. told _ (record { base = k }))

pub heading_keeps : (stored : Bool) (around : Around) (specs : List Spec) (s : Tables) → IsFit s → Goes IsHeading s (heading_of stored around specs s)
heading_keeps stored around specs s fit = goes_then s (specifiers stored around specs s) _ (specifiers_goes specs stored around s fit) (λ it u c. keeps u (as_heading it) c.fit (heading_law it u c.holds))

pub record IsDeclared (d : Declared) (t : Tables) : Type 0 where
  pub typed : few d.ctype ≡ true

inline_law : (named : Bool) (o : Option Place) (t : CType) → few t ≡ true → Answers IsFew (if_inline named o t)
inline_law named (Some at) t h = answers_cond _ _ _ (λ k. told t h) (λ k. silent)
inline_law named None t h = told t h

type_law : (h : Heading) (f : Formed) (place : Place) → few h.base ≡ true → derivations_few f.derivations ≡ true → Answers IsFew (declared_type h f place)
type_law h f place b d = answers_then (derived h.base f.derivations place) _ (derived_law h.base f.derivations place b d) (λ t k. inline_law (is_typedef h.storage) h.inline t k)

with_all : (r : Checked Attributes) (ty : CType) (t : Tables) → few ty ≡ true → Answers (λ d. IsDeclared d t) (r >>= (λ all. Ok (record { ctype = ty; attributes = all })))
with_all (Ok all) ty t h = told _ (record { typed = h })
with_all (Err e) ty t h = record { it = tt }

pub declared_law : (h : Heading) (place : Place) (attrs : List Attr) (f : Formed) (t : Tables) → few h.base ≡ true → derivations_few f.derivations ≡ true → Answers (λ d. IsDeclared d t) (declared_as h place attrs f)
declared_law h place attrs f t b d = answers_then (declared_type h f place) _ (type_law h f place b d) (λ ty k. with_all (attributes attrs f.attributes) ty t k)

pub declared_keeps : (h : Heading) (d : Declarator) (attrs : List Attr) (around : Around) (s : Tables) → IsFit s → few h.base ≡ true → Goes IsDeclared s (declared_by h d attrs around s)
declared_keeps h d attrs around s fit b = goes_then s (forming d.form h.attributes around s) _ ((forming_walk d.form).goes h.attributes around s fit) (λ f u c. keeps u _ c.fit (declared_law h d.name.place attrs f u b c.holds))

any_kept : {A : Type 0} (s : Tables) (r : Checked A) → IsFit s → Goes Anything s (keeping s r)
any_kept s (Ok x) fit = stays s x fit tt
any_kept s (Err e) fit = record { it = tt }

bare_by : (stored : Bool) (around : Around) (specs : List Spec) (o : Option Name) (s : Tables) → IsFit s → Goes Anything s (bare_as stored around specs o s)
bare_by stored around specs (Some name) s fit = goes_then s (declare_struct around.scope name s) _ (declare_struct_law around.scope name s fit) (λ ty u c. stays u tt c.fit tt)
bare_by stored around specs None s fit = goes_then s (specifiers stored around specs s) _ (specifiers_goes specs stored around s fit) (λ it u c. any_kept u (declares it) c.fit)

pub bare_keeps : (stored : Bool) (around : Around) (specs : List Spec) (s : Tables) → IsFit s → Goes Anything s (bare stored around specs s)
bare_keeps stored around specs s fit = bare_by stored around specs (lone_tag specs) s fit

-- ---- locals

declare_in : (a : Range) (n : ℕ) (items : List Item) → n < a.locals → items_in_range a items ≡ true → stmt_in_range a (stmt.Declare n items) ≡ true
declare_in a n items l h = ap (stmt_in_range a) (sym (rolls-Declare n items)) ∙ (fold-roll-Stmt Bool Bool part_step (stmt_step a) (layer.Declare n items) ∙ both (lt-ltb n a.locals l) h)

pub later_stmt : (entry : Bool) (s t : Tables) (x : Stmt) → Grows s t → stmt_in_range (range entry s) x ≡ true → stmt_in_range (range entry t) x ≡ true
later_stmt entry s t x g h = stmt_wider (range entry s) (range entry t) (within entry s t g) x h

pub later_stmts : (entry : Bool) (s t : Tables) (xs : List Stmt) → Grows s t → list_all (stmt_in_range (range entry s)) xs ≡ true → list_all (stmt_in_range (range entry t)) xs ≡ true
later_stmts entry s t [] g h = refl
later_stmts entry s t (x ∷ xs) g h = both (later_stmt entry s t x g (left (stmt_in_range (range entry s) x) _ h)) (later_stmts entry s t xs g (right (stmt_in_range (range entry s) x) _ h))

value_keeps : (n : ℕ) (t : CType) (place : Place) (o : Option Initial) (around : Around) (s : Tables) → IsFit s → few t ≡ true → n < length s.locals → Goes (StmtAt around.in_entry) s (local_value n t place o around s)
value_keeps n t place None around s fit f l = stays s _ fit (declare_in (range around.in_entry s) n [] l refl)
value_keeps n t place (Some x) around s fit f l =
    goes_then s (initialise t x place around s) _ (initialise_keeps t x place around s fit f) (λ it u c.
    let d = complete_local_law n it.ctype u c.fit c.holds.typed c.holds.small in
    comes u (complete_local n it.ctype u) (stmt.Declare n it.items) d.grows d.fit
    (declare_in (range around.in_entry (complete_local n it.ctype u)) n it.items (omega (arith, l, c.grows.locals, d.grows.locals))
    (items_wider (range around.in_entry u) (range around.in_entry (complete_local n it.ctype u)) (within around.in_entry u (complete_local n it.ctype u) d.grows) it.items c.holds.items)))

made_keeps : (name : Name) (t : CType) (o : Option Initial) (around : Around) (s : Tables) → IsFit s → few t ≡ true → Goes (StmtAt around.in_entry) s (local_made name t o around s)
made_keeps name t o around s fit f = goes_then s (declare_local around.scope name t (is_some o) s) _ (local_law around.scope name t (is_some o) s fit f) (λ n u c. value_keeps n t name.place o around u c.fit f c.holds)

pub local_keeps : (name : Name) (d : Declared) (o : Option Initial) (around : Around) (s : Tables) → IsFit s → few d.ctype ≡ true → Goes (StmtAt around.in_entry) s (local_declared name d o around s)
local_keeps name d o around s fit f = goes_unless s (is_function d.ctype) 27 name.place _ (λ k.
    then_goes s (attributed d.attributes Other d.ctype name.place) _ (attributed_law d.attributes Other d.ctype name.place f) (λ t g. made_keeps name t o around s fit g))

pub init_keeps : (h : Heading) (x : Init) (around : Around) (s : Tables) → IsFit s → few h.base ≡ true → Goes (StmtAt around.in_entry) s (local_init h x around s)
init_keeps h x around s fit b = goes_then s (declared_by h x.declarator x.attrs around s) _ (declared_keeps h x.declarator x.attrs around s fit b) (λ d u c. local_keeps x.declarator.name d x.value around u c.fit c.holds.typed)

inits_keep : (h : Heading) (around : Around) (done : List Stmt) (xs : List Init) (s : Tables) → IsFit s → few h.base ≡ true → list_all (stmt_in_range (range around.in_entry s)) done ≡ true → Goes (StmtsAt around.in_entry) s (local_inits h around done xs s)
inits_keep h around done [] s fit b k = stays s done fit k
inits_keep h around done (x ∷ xs) s fit b k =
    goes_then s (local_init h x around s) _ (init_keeps h x around s fit b) (λ d u c.
    inits_keep h around (done ++ d ∷ []) xs u c.fit b (all_push (stmt_in_range (range around.in_entry u)) done d (later_stmts around.in_entry s u done c.grows k) c.holds))

pub local_declaration_keeps : (d : Decl) (around : Around) (s : Tables) → IsFit s → Goes (StmtsAt around.in_entry) s (local_declaration d around s)
local_declaration_keeps d around s fit = goes_cond s (eqb (length d.inits) 0) _ _
    (goes_then s (bare false around d.specs s) _ (bare_keeps false around d.specs s fit) (λ done u c. stays u [] c.fit refl))
    (goes_then s (heading_of false around d.specs s) _ (heading_keeps false around d.specs s fit) (λ h u c. inits_keep h around [] d.inits u c.fit c.holds.base refl))
