-- What the parts of a unit define, one after another, makes a unit.
use Rattle.std.proofs.Common.{◌≡◌, ℕ, Bool, true, false, not, List, [], ◌∷◌, ap, ◌∙◌, subst, refl, Some, Ok, All, option_map}
use Rattle.std.specs.List.{list_all}
use Rattle.std.proofs.lemmas.List.Elements.{All-cons, All-head, All-nil, All-push, All-tail, All-weaker}
use Rattle.std.proofs.lemmas.Option.{slice_get-map}
use Rattle.c_ast.specs.declared.stmt.External.{External}
use Rattle.c_ast.specs.declared.stmt.External.TheVariants.{Include, Decl, Function}
use Rattle.c_types.specs.declared.ctype.CType.{CType}
use Rattle.c_types.specs.Kind.{look}
use Rattle.c_types.specs.Same.{same_flag, same_type}
use Rattle.c_tree.specs.declared.program.Extern.{Extern}
use Rattle.c_tree.specs.declared.program.TFunction.{TFunction}
use Rattle.c_tree.specs.declared.program.TGlobal.{TGlobal}
use Rattle.c_tree.specs.Conditions.{IsFunction, IsGlobal, IsUnit, all_differ, declared, extern_names, function_declared, global_declared, has_linkage, has_type, is_twin}
use Rattle.c_tree.specs.Globals as g
use Rattle.c_tree.specs.Numbers.{names_of_unit}
use Rattle.c_scope.specs.declared.tables.Known.{Known}
use Rattle.c_scope.specs.declared.tables.Tables.{Tables}
use Rattle.c_scope.specs.FileScope.{is_unsized}
use Rattle.c_scope.specs.Headers.{include}
use Rattle.c_scope.specs.Lookup.{nothing}
use Rattle.c_decl.specs.Globals.{file_declaration}
use Rattle.c_define.specs.declared.units.Made.{Made}
use Rattle.c_define.specs.Functions.{defined}
use Rattle.c_define.specs.Units.{extern_of, externs_of, no_definitions, part_typed, parts_typed, unit_of, with_function, with_globals}
use Rattle.join_laws.proofs.Declared.{declared_itself}
use Rattle.later_laws.specs.Later.{AreSound, is_free, names_of}
use Rattle.range_laws.specs.Few.{IsFit}
use Rattle.range_laws.specs.Ranges.{Follows, names}
use Rattle.range_laws.specs.Steps.{Passes}
use Rattle.range_laws.specs.Stood.{Standing}
use Rattle.range_laws.proofs.Both.{both, left, no, right}
use Rattle.range_laws.proofs.HeaderLaws.{include_law, nothing_fits, nothing_sound}
use Rattle.range_laws.proofs.Moves.{goes_passes, grows_follows, passes_same, passes_then}
use Rattle.range_laws.proofs.Wider.{function_wider}
use Rattle.unit_laws.specs.Globals.{GlobalAt, GlobalsAt}
use Rattle.unit_laws.proofs.FileLaws.{file_declaration_passes}
use Rattle.unit_laws.proofs.GlobalLaws.{later_globals}
use Rattle.define_laws.specs.Parts.{FunctionAt, MadeAt}
use Rattle.define_laws.proofs.FunctionLaws.{defined_passes}

-- ---- what is defined stays so

later_function : (s t : Tables) (f : TFunction) → Follows s t → FunctionAt s f → FunctionAt t f
later_function s t f l h =
    let k = h.standing.stood.known in
    let z = l.later.externs h.number k h.standing.stood.there in
    let e : z.now.ctype ≡ k.ctype = z.later.type h.standing.sized in
    let w = h.holds in
    record {
      holds = record { params = w.params; nodes = w.nodes; slots = w.slots; placed = w.placed; types = w.types; typed = w.typed; named = w.named; entry = w.entry; numbers = function_wider (names s) (names t) l.names f w.numbers };
      number = h.number;
      standing = record {
        stood = record { known = z.now; there = z.there; name = z.later.name ∙ h.standing.stood.name; typed = ap (λ c. same_type c f.ctype) e ∙ h.standing.stood.typed };
        sized = ap (λ c. is_unsized (look c)) e ∙ h.standing.sized;
      };
      body = z.later.body h.body;
      linkage = z.later.linkage h.body ∙ h.linkage;
    }

later_functions : (s t : Tables) (fs : List TFunction) → Follows s t → All (FunctionAt s) fs → All (FunctionAt t) fs
later_functions s t fs l h = All-weaker (FunctionAt s) (FunctionAt t) (λ f k. later_function s t f l k) fs h

later_made : (s t : Tables) (all : Made) → Follows s t → MadeAt all s → MadeAt all t
later_made s t all l h = record { functions = later_functions s t all.functions l h.functions; globals = later_globals s t all.globals l.later h.globals }

-- ---- the parts

part_passes : (p : External) (all : Made) (s : Tables) → IsFit s → AreSound s → MadeAt all s → Passes MadeAt s (part_typed p all s)
part_passes (Include place header) all s fit sound m =
    goes_passes s (include header place s) _ (include_law header place s fit) (λ done u c. passes_same u all c.fit (later_made s u all (grows_follows s u c.grows) m))
part_passes (Decl d) all s fit sound m =
    passes_then s (file_declaration d all.globals s) _ (file_declaration_passes d all.globals s fit sound m.globals) (λ gs u c.
    passes_same u (with_globals gs all) c.fit (record { functions = later_functions s u all.functions c.follows m.functions; globals = c.holds }))
part_passes (Function f) all s fit sound m =
    passes_then s (defined f s) _ (defined_passes f s fit sound) (λ x u c.
    passes_same u (with_function x all) c.fit (record { functions = All-push (FunctionAt u) all.functions x (later_functions s u all.functions c.follows m.functions) c.holds; globals = later_globals s u all.globals c.follows.later m.globals }))

-- all of them, and what holds of the tables at their end
abbrev pub Whole : Made → Tables → Type 0
Whole all t = MadeAt all t × AreSound t

parts_pass : (ps : List External) (all : Made) (s : Tables) → IsFit s → AreSound s → MadeAt all s → Passes Whole s (parts_typed ps all s)
parts_pass [] all s fit sound m = passes_same s all fit (m, sound)
parts_pass (p ∷ ps) all s fit sound m =
    passes_then s (part_typed p all s) _ (part_passes p all s fit sound m) (λ more u c. parts_pass ps more u c.fit (c.follows.later.sound sound) c.holds)

-- ---- the unit

listed_names : (ks : List Known) → extern_names (externs_of ks) ≡ names_of ks
listed_names [] = refl
listed_names (k ∷ ks) = ap (λ ns. k.name ∷ ns) (listed_names ks)

not_true : (b : Bool) → not b ≡ true → b ≡ false
not_true true h = no h
not_true false h = refl

free_names : (ks : List Known) → list_all is_free (names_of ks) ≡ true → All (λ (x : Extern). is_twin x.name ≡ false) (externs_of ks)
free_names [] h = All-nil (λ (x : Extern). is_twin x.name ≡ false)
free_names (k ∷ ks) h = All-cons (λ (x : Extern). is_twin x.name ≡ false) (extern_of k) (externs_of ks) (not_true (is_twin k.name) (left (is_free k.name) _ h)) (free_names ks (right (is_free k.name) _ h))

small_globals : (t : Tables) (gs : List TGlobal) → GlobalsAt gs t → g.all_fit gs ≡ true
small_globals t [] h = refl
small_globals t (x ∷ xs) h = both (All-head (GlobalAt t) x xs h).small (small_globals t xs (All-tail (GlobalAt t) x xs h))

same_flags : (a b : Bool) → a ≡ b → same_flag a b ≡ true
same_flags a b e = subst (λ c. same_flag a c ≡ true) e (by a)
  where
    by : (c : Bool) → same_flag c c ≡ true
    by true = refl
    by false = refl

module _ (t : Tables) (sound : AreSound t) where
  abbrev xs : List Extern
  xs = externs_of t.externs

  differ : all_differ (extern_names xs) ≡ true
  differ = ap all_differ (listed_names t.externs) ∙ sound.differ

  -- the extern of a name that stands under a number
  found : (text : List ℕ) (c : CType) (n : ℕ) (h : Standing text c n t) → declared xs text ≡ Some (extern_of h.stood.known)
  found text c n h =
      let k = h.stood.known in
      subst (λ z. declared xs z ≡ Some (extern_of k)) h.stood.name
      (declared_itself xs n (extern_of k) differ (slice_get-map extern_of t.externs n ∙ ap (option_map extern_of) h.stood.there))

  function_stands : (f : TFunction) → FunctionAt t f → function_declared xs f ≡ true
  function_stands f h =
      let e = found f.name f.ctype h.number h.standing in
      both (ap (has_type f.ctype) e ∙ h.standing.stood.typed) (ap (has_linkage f.is_static) e ∙ same_flags h.standing.stood.known.state.is_static f.is_static h.linkage)

  global_stands : (x : TGlobal) → GlobalAt t x → global_declared xs x ≡ true
  global_stands x h = ap (has_type x.ctype) (found x.name x.ctype h.number h.standing) ∙ h.standing.stood.typed

  is_unit : (all : Made) → MadeAt all t → IsUnit (unit_of all t.externs)
  is_unit all m = record {
    functions = All-weaker (FunctionAt t) (IsFunction (names_of_unit xs)) (λ f h. h.holds) all.functions m.functions;
    globals = All-weaker (GlobalAt t) IsGlobal (λ x h. h.holds) all.globals m.globals;
    types = small_globals t all.globals m.globals;
    named = free_names t.externs sound.free;
    differ = differ;
    functions_declared = All-weaker (FunctionAt t) (λ f. function_declared xs f ≡ true) function_stands all.functions m.functions;
    globals_declared = All-weaker (GlobalAt t) (λ x. global_declared xs x ≡ true) global_stands all.globals m.globals;
  }

pub parts_make : (ps : List External) (all : Made) (t : Tables) → parts_typed ps no_definitions nothing ≡ Ok (all, t) → IsUnit (unit_of all t.externs)
parts_make ps all t is =
    let start : MadeAt no_definitions nothing = record { functions = All-nil (FunctionAt nothing); globals = All-nil (GlobalAt nothing) } in
    let h = subst (λ r. Passes Whole nothing r) is (parts_pass ps no_definitions nothing nothing_fits nothing_sound start) in
    is_unit t h.it.holds.1 all h.it.holds.0
