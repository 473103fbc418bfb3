-- What names mean is in range.
use Rattle.std.proofs.Common.{◌≡◌, ℕ, Bool, true, false, not, eqb, List, length, ap, ◌∙◌, subst, refl, Option, None, Some, Ok, slice_get, option_map, eq-eqb}
use Rattle.std.specs.List.{list_all}
use Rattle.std.proofs.lemmas.Bool.{lt-ltb}
use Rattle.std.proofs.lemmas.Option.{slice_get-map, slice_get_within}
use Rattle.cm_base.specs.declared.place.Place.{Place}
use Rattle.c_ast.specs.declared.expr.Name.{Name}
use Rattle.c_types.specs.declared.ctype.CType.{CType}
use Rattle.c_types.specs.declared.ctype.Shape.TheOpen as shape
use Rattle.c_types.specs.Kind.{Look, is_function, look, looks_function}
use Rattle.c_tree.specs.declared.expr.ExprKind.TheVariants as kind
use Rattle.c_tree.specs.declared.expr.ExprKind.TheVariants.{rolls-Global, rolls-Local}
use Rattle.c_tree.specs.declared.expr.ExprKind.TheOpen.{Global, Local}
use Rattle.c_tree.specs.declared.program.TLocal.{TLocal}
use Rattle.c_tree.specs.Numbers.{is_called, is_object, looks_called}
use Rattle.c_rows.specs.Nodes.{int_type, node, void_pointer}
use Rattle.c_scope.specs.declared.layout.Found.{Found}
use Rattle.c_scope.specs.declared.tables.Known.{Known}
use Rattle.c_scope.specs.declared.tables.Meaning.{Meaning}
use Rattle.c_scope.specs.declared.tables.Meaning.TheVariants.{Extern, Constant, Null, Typedef, Intrinsic}
use Rattle.c_scope.specs.declared.tables.Member.{Member}
use Rattle.c_scope.specs.declared.tables.StructInfo.{StructInfo}
use Rattle.c_scope.specs.declared.tables.Tables.{Tables}
use Rattle.c_scope.specs.Layout.{found_as, found_at, found_in, member_of, member_place}
use Rattle.c_scope.specs.Lookup.{at_place, extern_node, file_meaning, local_node, meant, named, named_as, newest, type_meant, type_named}
use Rattle.c_scope.specs.Index.{place_of}
use Rattle.c_scope.specs.Refresh.{refreshed}
use Rattle.range_laws.specs.Few.{IsFit, few, meaning_few, members_few}
use Rattle.range_laws.specs.Fits.{IsTree, kind_fits, names_fit}
use Rattle.range_laws.specs.Ranges.{extern_of, externs_of, range}
use Rattle.range_laws.specs.Steps.{Answers}
use Rattle.range_laws.proofs.Both.{all_get, or_pass}
use Rattle.range_laws.proofs.Moves.{answers_unless, silent, told}
use Rattle.range_laws.proofs.RefreshLaws.{few_now, names_now}
use Rattle.range_laws.proofs.TreeLaws.{const_made, few_int, few_void_pointer, made_of, out_is}

at_passes : {X : Type 0} (p : X → Bool) (xs : List X) (o : Option ℕ) → list_all p xs ≡ true → or_pass p (at_place xs o) ≡ true
at_passes p xs (Some i) h = all_get p xs i h
at_passes p xs None h = refl

module _ (entry : Bool) (s : Tables) (fit : IsFit s) where
  local_by : (n : ℕ) (place : Place) (o : Option TLocal) → slice_get s.locals n ≡ o → Answers (IsTree (range entry s)) (local_node s n place o)
  local_by n place (Some l) is =
      let typed : few l.ctype ≡ true = subst (λ o. or_pass (λ (l : TLocal). few l.ctype) o ≡ true) is (all_get (λ (l : TLocal). few l.ctype) s.locals n fit.locals) in
      told _ (made_of (range entry s) (Local n) (kind.Local n) (refreshed s.structs l.ctype) place (rolls-Local n) (λ e. refl) (lt-ltb n (length s.locals) (slice_get_within s.locals n l is)) (few_now s.structs l.ctype ∙ typed)).tree
  local_by n place None is = silent

  -- an extern's number, by its type
  known_look : (n : ℕ) (k : Known) (x : Look) → look k.ctype ≡ x → slice_get (externs_of s) n ≡ Some (extern_of k) → names_fit (range entry s) n x ≡ true
  known_look n k (shape.Function g p ns) is at = ap (is_called (length p)) at ∙ (ap (looks_called (length p)) is ∙ eq-eqb (length p) (length p) refl)
  known_look n k shape.Void is at = ap is_object at ∙ ap (λ x. not (looks_function x)) is
  known_look n k (shape.Arith b) is at = ap is_object at ∙ ap (λ x. not (looks_function x)) is
  known_look n k (shape.Pointer to) is at = ap is_object at ∙ ap (λ x. not (looks_function x)) is
  known_look n k (shape.Array of len) is at = ap is_object at ∙ ap (λ x. not (looks_function x)) is
  known_look n k (shape.Struct m name size align) is at = ap is_object at ∙ ap (λ x. not (looks_function x)) is

  pub known_fits : (n : ℕ) (k : Known) → slice_get s.externs n ≡ Some k → names_fit (range entry s) n (look k.ctype) ≡ true
  known_fits n k is = known_look n k (look k.ctype) refl (slice_get-map extern_of s.externs n ∙ ap (option_map extern_of) is)

  extern_by : (n : ℕ) (place : Place) (o : Option Known) → slice_get s.externs n ≡ o → Answers (IsTree (range entry s)) (extern_node s n place o)
  extern_by n place (Some k) is =
      let typed : few k.ctype ≡ true = subst (λ o. or_pass (λ (k : Known). few k.ctype) o ≡ true) is (all_get (λ (k : Known). few k.ctype) s.externs n fit.externs) in
      told _ (record {
        numbers = ap (kind_fits (range entry s) (node (kind.Global n) (refreshed s.structs k.ctype) place)) (out_is (range entry s) (Global n) (kind.Global n) (rolls-Global n)) ∙ (names_now s.structs (range entry s) n k.ctype ∙ known_fits n k is);
        typed = few_now s.structs k.ctype ∙ typed;
      })
  extern_by n place None is = silent

  meant_law : (place : Place) (o : Option Meaning) → Answers (IsTree (range entry s)) (meant s place o)
  meant_law place (Some (Extern n)) = extern_by n place (slice_get s.externs n) refl
  meant_law place (Some (Constant n)) = told _ (const_made (range entry s) n int_type place few_int).tree
  meant_law place (Some Null) = told _ (const_made (range entry s) 0 void_pointer place few_void_pointer).tree
  meant_law place (Some (Typedef t)) = silent
  meant_law place (Some (Intrinsic i)) = silent
  meant_law place None = silent

  named_by : (name : Name) (o : Option ℕ) → Answers (IsTree (range entry s)) (named_as s name o)
  named_by name (Some n) = local_by n name.place (slice_get s.locals n) refl
  named_by name None = meant_law name.place (file_meaning s name.text)

  -- a name as an expression
  pub named_law : (name : Name) → Answers (IsTree (range entry s)) (named s name)
  named_law name = named_by name (newest s.blocks name.text)

module _ (s : Tables) (fit : IsFit s) where
  type_by : (place : Place) (o : Option Meaning) → or_pass meaning_few o ≡ true → Answers (λ t. few t ≡ true) (type_meant s place o)
  type_by place (Some (Typedef t)) h = told _ (few_now s.structs t ∙ h)
  type_by place (Some (Extern n)) h = silent
  type_by place (Some (Constant n)) h = silent
  type_by place (Some Null) h = silent
  type_by place (Some (Intrinsic i)) h = silent
  type_by place None h = silent

  -- a name as a type
  pub type_named_law : (name : Name) → Answers (λ t. few t ≡ true) (type_named s name)
  type_named_law name = type_by name.place (file_meaning s name.text) (at_passes meaning_few s.meanings (place_of s.names name.text) fit.meanings)

  found_by : (name : Name) (o : Option Member) → or_pass (λ (m : Member). few m.ctype) o ≡ true → Answers (λ (m : Found). few m.ctype ≡ true) (found_as s name o)
  found_by name (Some m) h = told _ (few_now s.structs m.ctype ∙ h)
  found_by name None h = silent

  struct_by : (dot : Place) (name : Name) (o : Option StructInfo) → or_pass (λ (i : StructInfo). members_few i.members) o ≡ true → Answers (λ (m : Found). few m.ctype ≡ true) (found_in s dot name o)
  struct_by dot name (Some i) h = answers_unless (eqb i.size 0) 25 dot _ (λ k. found_by name (at_place i.members (member_place i.members name.text)) (at_passes (λ (m : Member). few m.ctype) i.members (member_place i.members name.text) h))
  struct_by dot name None h = silent

  look_by : (dot : Place) (name : Name) (x : Look) → Answers (λ (m : Found). few m.ctype ≡ true) (found_at s dot name x)
  look_by dot name (shape.Struct number tag size align) = struct_by dot name (slice_get s.structs number) (all_get (λ (i : StructInfo). members_few i.members) s.structs number fit.structs)
  look_by dot name shape.Void = silent
  look_by dot name (shape.Arith b) = silent
  look_by dot name (shape.Pointer to) = silent
  look_by dot name (shape.Array of len) = silent
  look_by dot name (shape.Function g p n) = silent

  -- a member of a struct
  pub member_of_law : (t : CType) (dot : Place) (name : Name) → Answers (λ (m : Found). few m.ctype ≡ true) (member_of s t dot name)
  member_of_law t dot name = look_by dot name (look t)

  -- only a struct has members
  has_look : (dot : Place) (name : Name) (x : Look) (m : Found) → found_at s dot name x ≡ Ok m → looks_function x ≡ false
  has_look dot name (shape.Function g p n) m h = cc
  has_look dot name _ m h = refl

  pub has_member : (t : CType) (dot : Place) (name : Name) (m : Found) → member_of s t dot name ≡ Ok m → is_function t ≡ false
  has_member t dot name m h = has_look dot name (look t) m h
