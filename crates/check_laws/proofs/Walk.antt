-- Each layer of the syntax tree keeps what its parts keep.
use Rattle.std.proofs.Common.{◌≡◌, ℕ, Bool, true, false, cond, List, [], ◌∷◌, ◌++◌, map, ap, sym, ◌∙◌, subst, refl, Option, None, Some, option_map, Ok, Err}
use Rattle.cm_base.specs.declared.place.Place.{Place}
use Rattle.c_ast.specs.declared.expr.Name.{Name}
use Rattle.c_ast.specs.declared.expr.Star.{Star}
use Rattle.c_ast.specs.declared.expr.Expr.{Expr as Tree, roll-Expr}
use Rattle.c_ast.specs.declared.expr.Link.{Link, roll-Link}
use Rattle.c_ast.specs.declared.expr.Next.{Next, roll-Next}
use Rattle.c_ast.specs.declared.expr.Access.{Access, roll-Access}
use Rattle.c_ast.specs.declared.expr.TypeName.{TypeName, roll-TypeName}
use Rattle.c_ast.specs.declared.expr.EnumSpec.{EnumSpec, roll-EnumSpec}
use Rattle.c_ast.specs.declared.expr.Enumerator.{Enumerator, roll-Enumerator}
use Rattle.c_ast.specs.declared.expr.Member.{Member, roll-Member}
use Rattle.c_ast.specs.declared.expr.Param.{Param, roll-Param}
use Rattle.c_ast.specs.declared.expr.Params.{Params, roll-Params}
use Rattle.c_ast.specs.declared.expr.StructSpec.{StructSpec, roll-StructSpec}
use Rattle.c_ast.specs.declared.expr.Suffix.{Suffix, roll-Suffix}
use Rattle.c_ast.specs.declared.expr.Spec.{Spec, roll-Spec}
use Rattle.c_ast.specs.declared.expr.Declarator.{Declarator, roll-Declarator}
use Rattle.c_ast.specs.declared.expr.Abstract.{Abstract, roll-Abstract}
use Rattle.c_ast.specs.declared.expr.Abstract.TheOpen.{Abstract-F, Access-F, EnumSpec-F, Expr-F, Member-F, Param-F, Params-F, Spec-F, StructSpec-F, Suffix-F, Declarator-F, Enumerator-F, Link-F, Next-F, TypeName-F}
use Rattle.c_ast.specs.declared.expr.Abstract.TheOpen as t
use Rattle.ns_types.specs.Operators.{add}
use Rattle.c_types.specs.declared.ctype.CType.{CType}
use Rattle.c_tree.specs.declared.expr.Expr.{Expr}
use Rattle.c_rows.specs.declared.calls.Arg.{Arg}
use Rattle.c_rows.specs.Answers.{Checked, ◌>>=◌}
use Rattle.c_rows.specs.Nodes.{number, number_kind, constant_node, int_type}
use Rattle.c_types.specs.Derived.{arith_type}
use Rattle.cmse_rules.specs.declared.attributes.Attributes.{Attributes}
use Rattle.c_derive.specs.declared.derivations.Derivation.{Derivation}
use Rattle.c_derive.specs.declared.derivations.Derivation.TheVariants as by
use Rattle.c_derive.specs.declared.derivations.Param.{Param as Parameter}
use Rattle.c_check.specs.declared.around.Around.{Around}
use Rattle.c_check.specs.declared.formed.Formed.{Formed}
use Rattle.c_check.specs.declared.specified.Head.{Head}
use Rattle.c_check.specs.declared.specified.Specified.{Specified}
use Rattle.c_check.specs.declared.operands.Operand.{Operand}
use Rattle.c_check.specs.Operands.{operand, tree_of, value_of, named_operand, from, joined, followed, unary_operand, stepped_operand, sized_operand, sized_type, cast_operand, chosen_operand, assigned_operand, element_operand, called_operand, argument, member_operand, arrow_operand, length_operand, constant_operand}
use Rattle.c_check.specs.Specified.{none_yet, tagged_type, with_attr, with_name, worded, head_of}
use Rattle.c_check.specs.Formed.{formed, inside, parameter, star_attributes, type_of_name, with_member}
use Rattle.c_check.specs.Typed.{Typing, Reach, Naming, Forming, Declaring, Specifying, Tagged, Adding, Counting, Linked, Following, Passing, Listing, Deriving, abstract_step, access_step, accesses_from, arguments_from, commas_from, declarator_step, declarators_from, enum_body, enum_step, enumerator_step, enumerators_from, expr_step, head, if_file, in_list, length_step, link_step, links_from, member_step, members_from, next_step, no_members, param_step, params_from, params_step, spec_step, specifiers, specifiers_from, value, struct_body, struct_step, suffix_step, suffixes_from, type_step, value_or}
use Rattle.c_scope.specs.declared.tables.Layout.{Layout}
use Rattle.c_scope.specs.declared.tables.Scope.{Scope}
use Rattle.c_scope.specs.declared.tables.Tables.{Tables}
use Rattle.c_scope.specs.Steps.{Step, ◌>>>◌, keeping}
use Rattle.c_scope.specs.Tags.{begin_enum, begin_struct, end_struct, enum_use, struct_use}
use Rattle.c_scope.specs.Blocks.{close_parameters, open_parameters}
use Rattle.c_scope.specs.FileScope.{declare_constant}
use Rattle.range_laws.specs.Few.{IsFit, derivation_few, derivations_few, few, members_few, params_few, words_few}
use Rattle.range_laws.specs.Fits.{AreArgs, IsMade}
use Rattle.range_laws.specs.Ranges.{Grows, range}
use Rattle.range_laws.specs.Steps.{Answers, Anything, Came, Goes}
use Rattle.range_laws.proofs.Both.{all_push}
use Rattle.range_laws.proofs.FewLaws.{few_arith}
use Rattle.range_laws.proofs.Moves.{answers_then, behind, comes, goes_cond, goes_then, grows_trans, keeps, stays, stops, then_goes, told, within}
use Rattle.range_laws.proofs.TableLaws.{begin_enum_law, begin_struct_law, close_parameters_law, constant_law, end_struct_law, struct_use_law}
use Rattle.range_laws.proofs.TreeLaws.{const_made, few_int, made_wider, tree_wider}
use Rattle.check_laws.specs.Operands.{IsOperand}
use Rattle.check_laws.specs.Keeps.{AddingKeeps, CountingKeeps, DeclaringKeeps, DerivationAt, DerivationsAt, DerivingKeeps, FollowingKeeps, FormedAt, FormingKeeps, HeadAt, LayoutAt, LinkedKeeps, ListingKeeps, NamingKeeps, OperandAt, ParamAt, ParamsAt, PassingKeeps, ReachKeeps, SpecifiedAt, SpecifyingKeeps, TaggedKeeps, TypeAt, TypingKeeps, option_keeps}
use Rattle.check_laws.proofs.FormedLaws.{formed_few, head_of_law, parameter_keeps, tagged_type_law, type_of_name_law, with_attr_law, with_member_law, with_name_law, worded_law}
use Rattle.check_laws.proofs.OperandLaws as laws
use Rattle.check_laws.proofs.OperandLaws.{args_push, args_wider, operand_wider, tree_law, value_law}

-- parts, each with what it keeps
abbrev pub Of : {T F : Type 0} → (F → Type 0) → (T → F) → Type 0
Of {T} K g = (x : T) × K (g x)

abbrev pub firsts : {T : Type 0} {P : T → Type 0} → List ((x : T) × P x) → List T
firsts xs = map (λ x. x.0) xs

pub later_operand : (entry : Bool) (s t : Tables) (o : Operand) → Grows s t → IsOperand (range entry s) o → IsOperand (range entry t) o
later_operand entry s t o g h = operand_wider (range entry s) (range entry t) (within entry s t g) o h

pub later_made : (entry : Bool) (s t : Tables) (e : Expr) → Grows s t → IsMade (range entry s) e → IsMade (range entry t) e
later_made entry s t e g h = made_wider (range entry s) (range entry t) (within entry s t g) e h

-- ---- lists, from left to right

pub links_keep : {T : Type 0} (g : T → Linked) (ls : List (Of LinkedKeeps g)) (around : Around) (first : Place) (left : Expr) (s : Tables) → IsFit s → IsMade (range around.in_entry s) left → Goes (OperandAt around.in_entry) s (links_from around first left (map g (firsts ls)) s)
links_keep g [] around first left s fit h = stays s (operand first left) fit (record { tree = h.tree })
links_keep g (l ∷ ls) around first left s fit h =
    goes_then s ((g l.0).operand around s) _ (l.1.operand.goes around s fit) (λ o u c.
    then_goes u (joined (g l.0).op (g l.0).place left o) _ (laws.joined_law (range around.in_entry u) (g l.0).op (g l.0).place left o (later_made around.in_entry s u left c.grows h) c.holds)
    (λ x m. links_keep g ls around first x u c.fit m))

pub commas_keep : {T : Type 0} (g : T → Following) (cs : List (Of FollowingKeeps g)) (around : Around) (first : Place) (left : Expr) (s : Tables) → IsFit s → IsMade (range around.in_entry s) left → Goes (OperandAt around.in_entry) s (commas_from around first left (map g (firsts cs)) s)
commas_keep g [] around first left s fit h = stays s (operand first left) fit (record { tree = h.tree })
commas_keep g (l ∷ ls) around first left s fit h =
    goes_then s ((g l.0).value around s) _ (l.1.value.goes around s fit) (λ o u c.
    then_goes u (followed (g l.0).place left o) _ (laws.followed_law (range around.in_entry u) (g l.0).place left o (later_made around.in_entry s u left c.grows h) c.holds)
    (λ x m. commas_keep g ls around first x u c.fit m))

pub accesses_keep : {T : Type 0} (g : T → Reach) (fs : List (Of ReachKeeps g)) (around : Around) (left : Operand) (s : Tables) → IsFit s → IsOperand (range around.in_entry s) left → Goes (OperandAt around.in_entry) s (accesses_from around left (map g (firsts fs)) s)
accesses_keep g [] around left s fit h = stays s left fit h
accesses_keep g (f ∷ fs) around left s fit h = goes_then s (g f.0 around left s) _ (f.1.goes around left s fit h) (λ x u c. accesses_keep g fs around x u c.fit c.holds)

abbrev pub ArgsAt : Bool → List Arg → Tables → Type 0
ArgsAt entry xs t = AreArgs (range entry t) xs

pub arguments_keep : {T : Type 0} (g : T → Typing) (es : List (Of TypingKeeps g)) (around : Around) (done : List Arg) (s : Tables) → IsFit s → AreArgs (range around.in_entry s) done → Goes (ArgsAt around.in_entry) s (arguments_from around done (map g (firsts es)) s)
arguments_keep g [] around done s fit h = stays s done fit h
arguments_keep g (e ∷ es) around done s fit h =
    goes_then s (g e.0 around s) _ (e.1.goes around s fit) (λ o u c.
    then_goes u (argument o) _ (laws.argument_law (range around.in_entry u) o c.holds) (λ x m.
    arguments_keep g es around (done ++ x ∷ []) u c.fit (args_push (range around.in_entry u) done x (args_wider (range around.in_entry s) (range around.in_entry u) (within around.in_entry s u c.grows) done h) m)))

pub suffixes_keep : {T : Type 0} (g : T → Deriving) (ds : List (Of DerivingKeeps g)) (around : Around) (done : List Derivation) (s : Tables) → IsFit s → derivations_few done ≡ true → Goes DerivationsAt s (suffixes_from around done (map g (firsts ds)) s)
suffixes_keep g [] around done s fit h = stays s done fit h
suffixes_keep g (d ∷ ds) around done s fit h = goes_then s (g d.0 around s) _ (d.1.goes around s fit) (λ x u c. suffixes_keep g ds around (done ++ x ∷ []) u c.fit (all_push derivation_few done x h c.holds))

pub params_keep : {T : Type 0} (g : T → Passing) (ps : List (Of PassingKeeps g)) (around : Around) (done : List Parameter) (s : Tables) → IsFit s → params_few done ≡ true → Goes ParamsAt s (params_from around done (map g (firsts ps)) s)
params_keep g [] around done s fit h = stays s done fit h
params_keep g (p ∷ ps) around done s fit h = goes_then s (g p.0 around s) _ (p.1.goes around s fit) (λ x u c. params_keep g ps around (done ++ x ∷ []) u c.fit (all_push (λ (p : Parameter). few p.ctype) done x h c.holds))

pub specifiers_keep : {T : Type 0} (g : T → Specifying) (xs : List (Of SpecifyingKeeps g)) (stored : Bool) (around : Around) (it : Specified) (s : Tables) → IsFit s → words_few it.words ≡ true → Goes SpecifiedAt s (specifiers_from stored around it (map g (firsts xs)) s)
specifiers_keep g [] stored around it s fit h = stays s it fit h
specifiers_keep g (x ∷ xs) stored around it s fit h = goes_then s (g x.0 stored around it s) _ (x.1.goes stored around it s fit h) (λ more u c. specifiers_keep g xs stored around more u c.fit c.holds)

pub members_keep : {T : Type 0} (g : T → Adding) (ms : List (Of AddingKeeps g)) (around : Around) (l : Layout) (s : Tables) → IsFit s → members_few l.members ≡ true → Goes LayoutAt s (members_from around l (map g (firsts ms)) s)
members_keep g [] around l s fit h = stays s l fit h
members_keep g (m ∷ ms) around l s fit h = goes_then s (g m.0 around l s) _ (m.1.goes around l s fit h) (λ all u c. members_keep g ms around all u c.fit c.holds)
