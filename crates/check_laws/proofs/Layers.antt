-- The whole walk keeps what each layer keeps.
use Rattle.std.proofs.Common.{◌≡◌, ℕ, Bool, true, false, cond, List, [], ◌∷◌, ◌++◌, map, ap, sym, ◌∙◌, subst, refl, Option, None, Some, option_map, Ok, Err}
use Rattle.cm_base.specs.declared.place.Place.{Place}
use Rattle.c_ast.specs.declared.expr.Name.{Name}
use Rattle.c_ast.specs.declared.expr.Star.{Star}
use Rattle.c_ast.specs.declared.expr.Expr.{Expr as Tree, roll-Expr}
use Rattle.c_ast.specs.declared.expr.Link.{Link, roll-Link}
use Rattle.c_ast.specs.declared.expr.Next.{Next, roll-Next}
use Rattle.c_ast.specs.declared.expr.Access.{Access, roll-Access}
use Rattle.c_ast.specs.declared.expr.TypeName.{TypeName, roll-TypeName}
use Rattle.c_ast.specs.declared.expr.EnumSpec.{EnumSpec, roll-EnumSpec}
use Rattle.c_ast.specs.declared.expr.Enumerator.{Enumerator, roll-Enumerator}
use Rattle.c_ast.specs.declared.expr.Member.{Member, roll-Member}
use Rattle.c_ast.specs.declared.expr.Param.{Param, roll-Param}
use Rattle.c_ast.specs.declared.expr.Params.{Params, roll-Params}
use Rattle.c_ast.specs.declared.expr.StructSpec.{StructSpec, roll-StructSpec}
use Rattle.c_ast.specs.declared.expr.Suffix.{Suffix, roll-Suffix}
use Rattle.c_ast.specs.declared.expr.Spec.{Spec, roll-Spec}
use Rattle.c_ast.specs.declared.expr.Declarator.{Declarator, roll-Declarator}
use Rattle.c_ast.specs.declared.expr.Abstract.{Abstract, roll-Abstract}
use Rattle.c_ast.specs.declared.expr.Abstract.TheOpen.{Abstract-F, Access-F, EnumSpec-F, Expr-F, Member-F, Param-F, Params-F, Spec-F, StructSpec-F, Suffix-F, Declarator-F, Enumerator-F, Link-F, Next-F, TypeName-F}
use Rattle.c_ast.specs.declared.expr.Abstract.TheOpen as t
use Rattle.c_ast.specs.declared.expr.Abstract.TheFolds.{map-Abstract, map-Access, map-EnumSpec, map-Expr, map-Member, map-Param, map-Params, map-Spec, map-StructSpec, map-Suffix, map-Declarator, map-Enumerator, map-Link, map-Next, map-TypeName, fold-roll-Abstract, fold-roll-Access, fold-roll-EnumSpec, fold-roll-Expr, fold-roll-Member, fold-roll-Param, fold-roll-Params, fold-roll-Spec, fold-roll-StructSpec, fold-roll-Suffix, fold-roll-Declarator, fold-roll-Enumerator, fold-roll-Link, fold-roll-Next, fold-roll-TypeName, ind-Expr, ind-TypeName, ind-Abstract, ind-Spec, ind-Declarator}
use Rattle.ns_types.specs.Operators.{add}
use Rattle.c_types.specs.declared.ctype.CType.{CType}
use Rattle.c_tree.specs.declared.expr.Expr.{Expr}
use Rattle.c_rows.specs.declared.calls.Arg.{Arg}
use Rattle.c_rows.specs.Answers.{Checked, ◌>>=◌}
use Rattle.c_rows.specs.Nodes.{number, number_kind, constant_node, int_type}
use Rattle.c_types.specs.Derived.{arith_type}
use Rattle.cmse_rules.specs.declared.attributes.Attributes.{Attributes}
use Rattle.c_derive.specs.declared.derivations.Derivation.{Derivation}
use Rattle.c_derive.specs.declared.derivations.Derivation.TheVariants as by
use Rattle.c_derive.specs.declared.derivations.Param.{Param as Parameter}
use Rattle.c_check.specs.declared.around.Around.{Around}
use Rattle.c_check.specs.declared.formed.Formed.{Formed}
use Rattle.c_check.specs.declared.specified.Head.{Head}
use Rattle.c_check.specs.declared.specified.Specified.{Specified}
use Rattle.c_check.specs.declared.operands.Operand.{Operand}
use Rattle.c_check.specs.Operands.{operand, tree_of, value_of, named_operand, from, joined, followed, unary_operand, stepped_operand, sized_operand, sized_type, cast_operand, chosen_operand, assigned_operand, element_operand, called_operand, argument, member_operand, arrow_operand, length_operand, constant_operand}
use Rattle.c_check.specs.Specified.{none_yet, tagged_type, with_attr, with_name, worded, head_of}
use Rattle.c_check.specs.Formed.{formed, inside, parameter, star_attributes, type_of_name, with_member}
use Rattle.c_check.specs.Typed.{Typing, Reach, Naming, Forming, Declaring, Specifying, Tagged, Adding, Counting, Linked, Following, Passing, Listing, Deriving, abstract_step, access_step, accesses_from, arguments_from, commas_from, declarator_step, declarators_from, enum_body, enum_step, enumerator_step, enumerators_from, expr_step, head, if_file, in_list, length_step, link_step, links_from, member_step, members_from, next_step, no_members, param_step, params_from, params_step, spec_step, specifiers, specifiers_from, value, forming, reach_of, enum_of, typed, adding, passing, listing, specifying, struct_of, derives, declaring, counting, linked_of, following_of, type_name, struct_body, struct_step, suffix_step, suffixes_from, type_step, value_or}
use Rattle.c_scope.specs.declared.tables.Layout.{Layout}
use Rattle.c_scope.specs.declared.tables.Scope.{Scope}
use Rattle.c_scope.specs.declared.tables.Tables.{Tables}
use Rattle.c_scope.specs.Steps.{Step, ◌>>>◌, keeping}
use Rattle.c_scope.specs.Tags.{begin_enum, begin_struct, end_struct, enum_use, struct_use}
use Rattle.c_scope.specs.Blocks.{close_parameters, open_parameters}
use Rattle.c_scope.specs.FileScope.{declare_constant}
use Rattle.range_laws.specs.Few.{IsFit, derivation_few, derivations_few, few, members_few, params_few, words_few}
use Rattle.range_laws.specs.Fits.{AreArgs, IsMade}
use Rattle.range_laws.specs.Ranges.{Grows, range}
use Rattle.range_laws.specs.Steps.{Answers, Anything, Came, Goes}
use Rattle.range_laws.proofs.Both.{all_push}
use Rattle.range_laws.proofs.FewLaws.{few_arith}
use Rattle.range_laws.proofs.Moves.{answers_then, behind, comes, goes_cond, goes_then, grows_trans, keeps, stays, stops, then_goes, told, within}
use Rattle.range_laws.proofs.TableLaws.{begin_enum_law, begin_struct_law, close_parameters_law, constant_law, end_struct_law, struct_use_law}
use Rattle.range_laws.proofs.TreeLaws.{const_made, few_int, made_wider, tree_wider}
use Rattle.check_laws.specs.Operands.{IsOperand}
use Rattle.check_laws.specs.Keeps.{AddingKeeps, CountingKeeps, DeclaringKeeps, DerivationAt, DerivationsAt, DerivingKeeps, FollowingKeeps, FormedAt, FormingKeeps, HeadAt, LayoutAt, LinkedKeeps, ListingKeeps, NamingKeeps, OperandAt, ParamAt, ParamsAt, PassingKeeps, ReachKeeps, SpecifiedAt, SpecifyingKeeps, TaggedKeeps, TypeAt, TypingKeeps, option_keeps}
use Rattle.check_laws.proofs.FormedLaws.{formed_few, head_of_law, parameter_keeps, tagged_type_law, type_of_name_law, with_attr_law, with_member_law, with_name_law, worded_law}
use Rattle.check_laws.proofs.OperandLaws as laws
use Rattle.check_laws.proofs.Walk.{Of, accesses_keep, arguments_keep, commas_keep, firsts, later_made, later_operand, links_keep, members_keep, params_keep, specifiers_keep, suffixes_keep}
use Rattle.check_laws.proofs.OperandLaws.{args_push, args_wider, operand_wider, tree_law, value_law}

-- a part of each kind, with what it keeps
abbrev AnAbstract : Type 0
AnAbstract = Of FormingKeeps forming

abbrev AnAccess : Type 0
AnAccess = Of ReachKeeps reach_of

abbrev AnEnumSpec : Type 0
AnEnumSpec = Of TaggedKeeps enum_of

abbrev AnExpr : Type 0
AnExpr = Of TypingKeeps typed

abbrev AMember : Type 0
AMember = Of AddingKeeps adding

abbrev AParam : Type 0
AParam = Of PassingKeeps passing

abbrev AParams : Type 0
AParams = Of ListingKeeps listing

abbrev ASpec : Type 0
ASpec = Of SpecifyingKeeps specifying

abbrev AStructSpec : Type 0
AStructSpec = Of TaggedKeeps struct_of

abbrev ASuffix : Type 0
ASuffix = Of DerivingKeeps derives

abbrev ADeclarator : Type 0
ADeclarator = Of DeclaringKeeps declaring

abbrev AnEnumerator : Type 0
AnEnumerator = Of CountingKeeps counting

abbrev ALink : Type 0
ALink = Of LinkedKeeps linked_of

abbrev ANext : Type 0
ANext = Of FollowingKeeps following_of

abbrev ATypeName : Type 0
ATypeName = Of NamingKeeps type_name

abbrev tree_Abstract : Abstract-F AnAbstract AnAccess AnEnumSpec AnExpr AMember AParam AParams ASpec AStructSpec ASuffix ADeclarator AnEnumerator ALink ANext ATypeName → Abstract-F Abstract Access EnumSpec Tree Member Param Params Spec StructSpec Suffix Declarator Enumerator Link Next TypeName
tree_Abstract = map-Abstract AnAbstract AnAccess AnEnumSpec AnExpr AMember AParam AParams ASpec AStructSpec ASuffix ADeclarator AnEnumerator ALink ANext ATypeName Abstract Access EnumSpec Tree Member Param Params Spec StructSpec Suffix Declarator Enumerator Link Next TypeName (λ x. x.0) (λ x. x.0) (λ x. x.0) (λ x. x.0) (λ x. x.0) (λ x. x.0) (λ x. x.0) (λ x. x.0) (λ x. x.0) (λ x. x.0) (λ x. x.0) (λ x. x.0) (λ x. x.0) (λ x. x.0) (λ x. x.0)

abbrev part_Abstract : Abstract-F Abstract Access EnumSpec Tree Member Param Params Spec StructSpec Suffix Declarator Enumerator Link Next TypeName → Abstract-F Forming Reach Tagged Typing Adding Passing Listing Specifying Tagged Deriving Declaring Counting Linked Following Naming
part_Abstract = map-Abstract Abstract Access EnumSpec Tree Member Param Params Spec StructSpec Suffix Declarator Enumerator Link Next TypeName Forming Reach Tagged Typing Adding Passing Listing Specifying Tagged Deriving Declaring Counting Linked Following Naming forming reach_of enum_of typed adding passing listing specifying struct_of derives declaring counting linked_of following_of type_name

abbrev tree_Access : Access-F AnAbstract AnAccess AnEnumSpec AnExpr AMember AParam AParams ASpec AStructSpec ASuffix ADeclarator AnEnumerator ALink ANext ATypeName → Access-F Abstract Access EnumSpec Tree Member Param Params Spec StructSpec Suffix Declarator Enumerator Link Next TypeName
tree_Access = map-Access AnAbstract AnAccess AnEnumSpec AnExpr AMember AParam AParams ASpec AStructSpec ASuffix ADeclarator AnEnumerator ALink ANext ATypeName Abstract Access EnumSpec Tree Member Param Params Spec StructSpec Suffix Declarator Enumerator Link Next TypeName (λ x. x.0) (λ x. x.0) (λ x. x.0) (λ x. x.0) (λ x. x.0) (λ x. x.0) (λ x. x.0) (λ x. x.0) (λ x. x.0) (λ x. x.0) (λ x. x.0) (λ x. x.0) (λ x. x.0) (λ x. x.0) (λ x. x.0)

abbrev part_Access : Access-F Abstract Access EnumSpec Tree Member Param Params Spec StructSpec Suffix Declarator Enumerator Link Next TypeName → Access-F Forming Reach Tagged Typing Adding Passing Listing Specifying Tagged Deriving Declaring Counting Linked Following Naming
part_Access = map-Access Abstract Access EnumSpec Tree Member Param Params Spec StructSpec Suffix Declarator Enumerator Link Next TypeName Forming Reach Tagged Typing Adding Passing Listing Specifying Tagged Deriving Declaring Counting Linked Following Naming forming reach_of enum_of typed adding passing listing specifying struct_of derives declaring counting linked_of following_of type_name

abbrev tree_EnumSpec : EnumSpec-F AnAbstract AnAccess AnEnumSpec AnExpr AMember AParam AParams ASpec AStructSpec ASuffix ADeclarator AnEnumerator ALink ANext ATypeName → EnumSpec-F Abstract Access EnumSpec Tree Member Param Params Spec StructSpec Suffix Declarator Enumerator Link Next TypeName
tree_EnumSpec = map-EnumSpec AnAbstract AnAccess AnEnumSpec AnExpr AMember AParam AParams ASpec AStructSpec ASuffix ADeclarator AnEnumerator ALink ANext ATypeName Abstract Access EnumSpec Tree Member Param Params Spec StructSpec Suffix Declarator Enumerator Link Next TypeName (λ x. x.0) (λ x. x.0) (λ x. x.0) (λ x. x.0) (λ x. x.0) (λ x. x.0) (λ x. x.0) (λ x. x.0) (λ x. x.0) (λ x. x.0) (λ x. x.0) (λ x. x.0) (λ x. x.0) (λ x. x.0) (λ x. x.0)

abbrev part_EnumSpec : EnumSpec-F Abstract Access EnumSpec Tree Member Param Params Spec StructSpec Suffix Declarator Enumerator Link Next TypeName → EnumSpec-F Forming Reach Tagged Typing Adding Passing Listing Specifying Tagged Deriving Declaring Counting Linked Following Naming
part_EnumSpec = map-EnumSpec Abstract Access EnumSpec Tree Member Param Params Spec StructSpec Suffix Declarator Enumerator Link Next TypeName Forming Reach Tagged Typing Adding Passing Listing Specifying Tagged Deriving Declaring Counting Linked Following Naming forming reach_of enum_of typed adding passing listing specifying struct_of derives declaring counting linked_of following_of type_name

abbrev tree_Expr : Expr-F AnAbstract AnAccess AnEnumSpec AnExpr AMember AParam AParams ASpec AStructSpec ASuffix ADeclarator AnEnumerator ALink ANext ATypeName → Expr-F Abstract Access EnumSpec Tree Member Param Params Spec StructSpec Suffix Declarator Enumerator Link Next TypeName
tree_Expr = map-Expr AnAbstract AnAccess AnEnumSpec AnExpr AMember AParam AParams ASpec AStructSpec ASuffix ADeclarator AnEnumerator ALink ANext ATypeName Abstract Access EnumSpec Tree Member Param Params Spec StructSpec Suffix Declarator Enumerator Link Next TypeName (λ x. x.0) (λ x. x.0) (λ x. x.0) (λ x. x.0) (λ x. x.0) (λ x. x.0) (λ x. x.0) (λ x. x.0) (λ x. x.0) (λ x. x.0) (λ x. x.0) (λ x. x.0) (λ x. x.0) (λ x. x.0) (λ x. x.0)

abbrev part_Expr : Expr-F Abstract Access EnumSpec Tree Member Param Params Spec StructSpec Suffix Declarator Enumerator Link Next TypeName → Expr-F Forming Reach Tagged Typing Adding Passing Listing Specifying Tagged Deriving Declaring Counting Linked Following Naming
part_Expr = map-Expr Abstract Access EnumSpec Tree Member Param Params Spec StructSpec Suffix Declarator Enumerator Link Next TypeName Forming Reach Tagged Typing Adding Passing Listing Specifying Tagged Deriving Declaring Counting Linked Following Naming forming reach_of enum_of typed adding passing listing specifying struct_of derives declaring counting linked_of following_of type_name

abbrev tree_Member : Member-F AnAbstract AnAccess AnEnumSpec AnExpr AMember AParam AParams ASpec AStructSpec ASuffix ADeclarator AnEnumerator ALink ANext ATypeName → Member-F Abstract Access EnumSpec Tree Member Param Params Spec StructSpec Suffix Declarator Enumerator Link Next TypeName
tree_Member = map-Member AnAbstract AnAccess AnEnumSpec AnExpr AMember AParam AParams ASpec AStructSpec ASuffix ADeclarator AnEnumerator ALink ANext ATypeName Abstract Access EnumSpec Tree Member Param Params Spec StructSpec Suffix Declarator Enumerator Link Next TypeName (λ x. x.0) (λ x. x.0) (λ x. x.0) (λ x. x.0) (λ x. x.0) (λ x. x.0) (λ x. x.0) (λ x. x.0) (λ x. x.0) (λ x. x.0) (λ x. x.0) (λ x. x.0) (λ x. x.0) (λ x. x.0) (λ x. x.0)

abbrev part_Member : Member-F Abstract Access EnumSpec Tree Member Param Params Spec StructSpec Suffix Declarator Enumerator Link Next TypeName → Member-F Forming Reach Tagged Typing Adding Passing Listing Specifying Tagged Deriving Declaring Counting Linked Following Naming
part_Member = map-Member Abstract Access EnumSpec Tree Member Param Params Spec StructSpec Suffix Declarator Enumerator Link Next TypeName Forming Reach Tagged Typing Adding Passing Listing Specifying Tagged Deriving Declaring Counting Linked Following Naming forming reach_of enum_of typed adding passing listing specifying struct_of derives declaring counting linked_of following_of type_name

abbrev tree_Param : Param-F AnAbstract AnAccess AnEnumSpec AnExpr AMember AParam AParams ASpec AStructSpec ASuffix ADeclarator AnEnumerator ALink ANext ATypeName → Param-F Abstract Access EnumSpec Tree Member Param Params Spec StructSpec Suffix Declarator Enumerator Link Next TypeName
tree_Param = map-Param AnAbstract AnAccess AnEnumSpec AnExpr AMember AParam AParams ASpec AStructSpec ASuffix ADeclarator AnEnumerator ALink ANext ATypeName Abstract Access EnumSpec Tree Member Param Params Spec StructSpec Suffix Declarator Enumerator Link Next TypeName (λ x. x.0) (λ x. x.0) (λ x. x.0) (λ x. x.0) (λ x. x.0) (λ x. x.0) (λ x. x.0) (λ x. x.0) (λ x. x.0) (λ x. x.0) (λ x. x.0) (λ x. x.0) (λ x. x.0) (λ x. x.0) (λ x. x.0)

abbrev part_Param : Param-F Abstract Access EnumSpec Tree Member Param Params Spec StructSpec Suffix Declarator Enumerator Link Next TypeName → Param-F Forming Reach Tagged Typing Adding Passing Listing Specifying Tagged Deriving Declaring Counting Linked Following Naming
part_Param = map-Param Abstract Access EnumSpec Tree Member Param Params Spec StructSpec Suffix Declarator Enumerator Link Next TypeName Forming Reach Tagged Typing Adding Passing Listing Specifying Tagged Deriving Declaring Counting Linked Following Naming forming reach_of enum_of typed adding passing listing specifying struct_of derives declaring counting linked_of following_of type_name

abbrev tree_Params : Params-F AnAbstract AnAccess AnEnumSpec AnExpr AMember AParam AParams ASpec AStructSpec ASuffix ADeclarator AnEnumerator ALink ANext ATypeName → Params-F Abstract Access EnumSpec Tree Member Param Params Spec StructSpec Suffix Declarator Enumerator Link Next TypeName
tree_Params = map-Params AnAbstract AnAccess AnEnumSpec AnExpr AMember AParam AParams ASpec AStructSpec ASuffix ADeclarator AnEnumerator ALink ANext ATypeName Abstract Access EnumSpec Tree Member Param Params Spec StructSpec Suffix Declarator Enumerator Link Next TypeName (λ x. x.0) (λ x. x.0) (λ x. x.0) (λ x. x.0) (λ x. x.0) (λ x. x.0) (λ x. x.0) (λ x. x.0) (λ x. x.0) (λ x. x.0) (λ x. x.0) (λ x. x.0) (λ x. x.0) (λ x. x.0) (λ x. x.0)

abbrev part_Params : Params-F Abstract Access EnumSpec Tree Member Param Params Spec StructSpec Suffix Declarator Enumerator Link Next TypeName → Params-F Forming Reach Tagged Typing Adding Passing Listing Specifying Tagged Deriving Declaring Counting Linked Following Naming
part_Params = map-Params Abstract Access EnumSpec Tree Member Param Params Spec StructSpec Suffix Declarator Enumerator Link Next TypeName Forming Reach Tagged Typing Adding Passing Listing Specifying Tagged Deriving Declaring Counting Linked Following Naming forming reach_of enum_of typed adding passing listing specifying struct_of derives declaring counting linked_of following_of type_name

abbrev tree_Spec : Spec-F AnAbstract AnAccess AnEnumSpec AnExpr AMember AParam AParams ASpec AStructSpec ASuffix ADeclarator AnEnumerator ALink ANext ATypeName → Spec-F Abstract Access EnumSpec Tree Member Param Params Spec StructSpec Suffix Declarator Enumerator Link Next TypeName
tree_Spec = map-Spec AnAbstract AnAccess AnEnumSpec AnExpr AMember AParam AParams ASpec AStructSpec ASuffix ADeclarator AnEnumerator ALink ANext ATypeName Abstract Access EnumSpec Tree Member Param Params Spec StructSpec Suffix Declarator Enumerator Link Next TypeName (λ x. x.0) (λ x. x.0) (λ x. x.0) (λ x. x.0) (λ x. x.0) (λ x. x.0) (λ x. x.0) (λ x. x.0) (λ x. x.0) (λ x. x.0) (λ x. x.0) (λ x. x.0) (λ x. x.0) (λ x. x.0) (λ x. x.0)

abbrev part_Spec : Spec-F Abstract Access EnumSpec Tree Member Param Params Spec StructSpec Suffix Declarator Enumerator Link Next TypeName → Spec-F Forming Reach Tagged Typing Adding Passing Listing Specifying Tagged Deriving Declaring Counting Linked Following Naming
part_Spec = map-Spec Abstract Access EnumSpec Tree Member Param Params Spec StructSpec Suffix Declarator Enumerator Link Next TypeName Forming Reach Tagged Typing Adding Passing Listing Specifying Tagged Deriving Declaring Counting Linked Following Naming forming reach_of enum_of typed adding passing listing specifying struct_of derives declaring counting linked_of following_of type_name

abbrev tree_StructSpec : StructSpec-F AnAbstract AnAccess AnEnumSpec AnExpr AMember AParam AParams ASpec AStructSpec ASuffix ADeclarator AnEnumerator ALink ANext ATypeName → StructSpec-F Abstract Access EnumSpec Tree Member Param Params Spec StructSpec Suffix Declarator Enumerator Link Next TypeName
tree_StructSpec = map-StructSpec AnAbstract AnAccess AnEnumSpec AnExpr AMember AParam AParams ASpec AStructSpec ASuffix ADeclarator AnEnumerator ALink ANext ATypeName Abstract Access EnumSpec Tree Member Param Params Spec StructSpec Suffix Declarator Enumerator Link Next TypeName (λ x. x.0) (λ x. x.0) (λ x. x.0) (λ x. x.0) (λ x. x.0) (λ x. x.0) (λ x. x.0) (λ x. x.0) (λ x. x.0) (λ x. x.0) (λ x. x.0) (λ x. x.0) (λ x. x.0) (λ x. x.0) (λ x. x.0)

abbrev part_StructSpec : StructSpec-F Abstract Access EnumSpec Tree Member Param Params Spec StructSpec Suffix Declarator Enumerator Link Next TypeName → StructSpec-F Forming Reach Tagged Typing Adding Passing Listing Specifying Tagged Deriving Declaring Counting Linked Following Naming
part_StructSpec = map-StructSpec Abstract Access EnumSpec Tree Member Param Params Spec StructSpec Suffix Declarator Enumerator Link Next TypeName Forming Reach Tagged Typing Adding Passing Listing Specifying Tagged Deriving Declaring Counting Linked Following Naming forming reach_of enum_of typed adding passing listing specifying struct_of derives declaring counting linked_of following_of type_name

abbrev tree_Suffix : Suffix-F AnAbstract AnAccess AnEnumSpec AnExpr AMember AParam AParams ASpec AStructSpec ASuffix ADeclarator AnEnumerator ALink ANext ATypeName → Suffix-F Abstract Access EnumSpec Tree Member Param Params Spec StructSpec Suffix Declarator Enumerator Link Next TypeName
tree_Suffix = map-Suffix AnAbstract AnAccess AnEnumSpec AnExpr AMember AParam AParams ASpec AStructSpec ASuffix ADeclarator AnEnumerator ALink ANext ATypeName Abstract Access EnumSpec Tree Member Param Params Spec StructSpec Suffix Declarator Enumerator Link Next TypeName (λ x. x.0) (λ x. x.0) (λ x. x.0) (λ x. x.0) (λ x. x.0) (λ x. x.0) (λ x. x.0) (λ x. x.0) (λ x. x.0) (λ x. x.0) (λ x. x.0) (λ x. x.0) (λ x. x.0) (λ x. x.0) (λ x. x.0)

abbrev part_Suffix : Suffix-F Abstract Access EnumSpec Tree Member Param Params Spec StructSpec Suffix Declarator Enumerator Link Next TypeName → Suffix-F Forming Reach Tagged Typing Adding Passing Listing Specifying Tagged Deriving Declaring Counting Linked Following Naming
part_Suffix = map-Suffix Abstract Access EnumSpec Tree Member Param Params Spec StructSpec Suffix Declarator Enumerator Link Next TypeName Forming Reach Tagged Typing Adding Passing Listing Specifying Tagged Deriving Declaring Counting Linked Following Naming forming reach_of enum_of typed adding passing listing specifying struct_of derives declaring counting linked_of following_of type_name

abbrev tree_Declarator : Declarator-F AnAbstract AnAccess AnEnumSpec AnExpr AMember AParam AParams ASpec AStructSpec ASuffix ADeclarator AnEnumerator ALink ANext ATypeName → Declarator-F Abstract Access EnumSpec Tree Member Param Params Spec StructSpec Suffix Declarator Enumerator Link Next TypeName
tree_Declarator = map-Declarator AnAbstract AnAccess AnEnumSpec AnExpr AMember AParam AParams ASpec AStructSpec ASuffix ADeclarator AnEnumerator ALink ANext ATypeName Abstract Access EnumSpec Tree Member Param Params Spec StructSpec Suffix Declarator Enumerator Link Next TypeName (λ x. x.0) (λ x. x.0) (λ x. x.0) (λ x. x.0) (λ x. x.0) (λ x. x.0) (λ x. x.0) (λ x. x.0) (λ x. x.0) (λ x. x.0) (λ x. x.0) (λ x. x.0) (λ x. x.0) (λ x. x.0) (λ x. x.0)

abbrev part_Declarator : Declarator-F Abstract Access EnumSpec Tree Member Param Params Spec StructSpec Suffix Declarator Enumerator Link Next TypeName → Declarator-F Forming Reach Tagged Typing Adding Passing Listing Specifying Tagged Deriving Declaring Counting Linked Following Naming
part_Declarator = map-Declarator Abstract Access EnumSpec Tree Member Param Params Spec StructSpec Suffix Declarator Enumerator Link Next TypeName Forming Reach Tagged Typing Adding Passing Listing Specifying Tagged Deriving Declaring Counting Linked Following Naming forming reach_of enum_of typed adding passing listing specifying struct_of derives declaring counting linked_of following_of type_name

abbrev tree_Enumerator : Enumerator-F AnAbstract AnAccess AnEnumSpec AnExpr AMember AParam AParams ASpec AStructSpec ASuffix ADeclarator AnEnumerator ALink ANext ATypeName → Enumerator-F Abstract Access EnumSpec Tree Member Param Params Spec StructSpec Suffix Declarator Enumerator Link Next TypeName
tree_Enumerator = map-Enumerator AnAbstract AnAccess AnEnumSpec AnExpr AMember AParam AParams ASpec AStructSpec ASuffix ADeclarator AnEnumerator ALink ANext ATypeName Abstract Access EnumSpec Tree Member Param Params Spec StructSpec Suffix Declarator Enumerator Link Next TypeName (λ x. x.0) (λ x. x.0) (λ x. x.0) (λ x. x.0) (λ x. x.0) (λ x. x.0) (λ x. x.0) (λ x. x.0) (λ x. x.0) (λ x. x.0) (λ x. x.0) (λ x. x.0) (λ x. x.0) (λ x. x.0) (λ x. x.0)

abbrev part_Enumerator : Enumerator-F Abstract Access EnumSpec Tree Member Param Params Spec StructSpec Suffix Declarator Enumerator Link Next TypeName → Enumerator-F Forming Reach Tagged Typing Adding Passing Listing Specifying Tagged Deriving Declaring Counting Linked Following Naming
part_Enumerator = map-Enumerator Abstract Access EnumSpec Tree Member Param Params Spec StructSpec Suffix Declarator Enumerator Link Next TypeName Forming Reach Tagged Typing Adding Passing Listing Specifying Tagged Deriving Declaring Counting Linked Following Naming forming reach_of enum_of typed adding passing listing specifying struct_of derives declaring counting linked_of following_of type_name

abbrev tree_Link : Link-F AnAbstract AnAccess AnEnumSpec AnExpr AMember AParam AParams ASpec AStructSpec ASuffix ADeclarator AnEnumerator ALink ANext ATypeName → Link-F Abstract Access EnumSpec Tree Member Param Params Spec StructSpec Suffix Declarator Enumerator Link Next TypeName
tree_Link = map-Link AnAbstract AnAccess AnEnumSpec AnExpr AMember AParam AParams ASpec AStructSpec ASuffix ADeclarator AnEnumerator ALink ANext ATypeName Abstract Access EnumSpec Tree Member Param Params Spec StructSpec Suffix Declarator Enumerator Link Next TypeName (λ x. x.0) (λ x. x.0) (λ x. x.0) (λ x. x.0) (λ x. x.0) (λ x. x.0) (λ x. x.0) (λ x. x.0) (λ x. x.0) (λ x. x.0) (λ x. x.0) (λ x. x.0) (λ x. x.0) (λ x. x.0) (λ x. x.0)

abbrev part_Link : Link-F Abstract Access EnumSpec Tree Member Param Params Spec StructSpec Suffix Declarator Enumerator Link Next TypeName → Link-F Forming Reach Tagged Typing Adding Passing Listing Specifying Tagged Deriving Declaring Counting Linked Following Naming
part_Link = map-Link Abstract Access EnumSpec Tree Member Param Params Spec StructSpec Suffix Declarator Enumerator Link Next TypeName Forming Reach Tagged Typing Adding Passing Listing Specifying Tagged Deriving Declaring Counting Linked Following Naming forming reach_of enum_of typed adding passing listing specifying struct_of derives declaring counting linked_of following_of type_name

abbrev tree_Next : Next-F AnAbstract AnAccess AnEnumSpec AnExpr AMember AParam AParams ASpec AStructSpec ASuffix ADeclarator AnEnumerator ALink ANext ATypeName → Next-F Abstract Access EnumSpec Tree Member Param Params Spec StructSpec Suffix Declarator Enumerator Link Next TypeName
tree_Next = map-Next AnAbstract AnAccess AnEnumSpec AnExpr AMember AParam AParams ASpec AStructSpec ASuffix ADeclarator AnEnumerator ALink ANext ATypeName Abstract Access EnumSpec Tree Member Param Params Spec StructSpec Suffix Declarator Enumerator Link Next TypeName (λ x. x.0) (λ x. x.0) (λ x. x.0) (λ x. x.0) (λ x. x.0) (λ x. x.0) (λ x. x.0) (λ x. x.0) (λ x. x.0) (λ x. x.0) (λ x. x.0) (λ x. x.0) (λ x. x.0) (λ x. x.0) (λ x. x.0)

abbrev part_Next : Next-F Abstract Access EnumSpec Tree Member Param Params Spec StructSpec Suffix Declarator Enumerator Link Next TypeName → Next-F Forming Reach Tagged Typing Adding Passing Listing Specifying Tagged Deriving Declaring Counting Linked Following Naming
part_Next = map-Next Abstract Access EnumSpec Tree Member Param Params Spec StructSpec Suffix Declarator Enumerator Link Next TypeName Forming Reach Tagged Typing Adding Passing Listing Specifying Tagged Deriving Declaring Counting Linked Following Naming forming reach_of enum_of typed adding passing listing specifying struct_of derives declaring counting linked_of following_of type_name

abbrev tree_TypeName : TypeName-F AnAbstract AnAccess AnEnumSpec AnExpr AMember AParam AParams ASpec AStructSpec ASuffix ADeclarator AnEnumerator ALink ANext ATypeName → TypeName-F Abstract Access EnumSpec Tree Member Param Params Spec StructSpec Suffix Declarator Enumerator Link Next TypeName
tree_TypeName = map-TypeName AnAbstract AnAccess AnEnumSpec AnExpr AMember AParam AParams ASpec AStructSpec ASuffix ADeclarator AnEnumerator ALink ANext ATypeName Abstract Access EnumSpec Tree Member Param Params Spec StructSpec Suffix Declarator Enumerator Link Next TypeName (λ x. x.0) (λ x. x.0) (λ x. x.0) (λ x. x.0) (λ x. x.0) (λ x. x.0) (λ x. x.0) (λ x. x.0) (λ x. x.0) (λ x. x.0) (λ x. x.0) (λ x. x.0) (λ x. x.0) (λ x. x.0) (λ x. x.0)

abbrev part_TypeName : TypeName-F Abstract Access EnumSpec Tree Member Param Params Spec StructSpec Suffix Declarator Enumerator Link Next TypeName → TypeName-F Forming Reach Tagged Typing Adding Passing Listing Specifying Tagged Deriving Declaring Counting Linked Following Naming
part_TypeName = map-TypeName Abstract Access EnumSpec Tree Member Param Params Spec StructSpec Suffix Declarator Enumerator Link Next TypeName Forming Reach Tagged Typing Adding Passing Listing Specifying Tagged Deriving Declaring Counting Linked Following Naming forming reach_of enum_of typed adding passing listing specifying struct_of derives declaring counting linked_of following_of type_name

-- ---- expressions

expr_keeps : (y : Expr-F AnAbstract AnAccess AnEnumSpec AnExpr AMember AParam AParams ASpec AStructSpec ASuffix ADeclarator AnEnumerator ALink ANext ATypeName) → TypingKeeps (expr_step (part_Expr (tree_Expr y)))
expr_keeps (t.Name name) = record { goes = λ around s fit. keeps s (named_operand s name) fit (laws.named_operand_law around.in_entry s fit name) }
expr_keeps (t.Number place n ty) = record { goes = λ around s fit. stays s _ fit (record { tree = (const_made (range around.in_entry s) n _ place (few_arith (number_kind ty.unsigned ty.long))).tree }) }
expr_keeps (t.Char place n) = record { goes = λ around s fit. stays s _ fit (record { tree = (const_made (range around.in_entry s) n int_type place few_int).tree }) }
expr_keeps (t.Str place bytes) = record { goes = λ around s fit. stops }
expr_keeps (t.Expr::Group place inner) = record { goes = λ around s fit. goes_then s (typed inner.0 around s) _ (inner.1.goes around s fit) (λ o u c. stays u (from place o) c.fit (record { tree = c.holds.tree })) }
expr_keeps (t.Postfix first more) = record { goes = λ around s fit. goes_then s (typed first.0 around s) _ (first.1.goes around s fit) (λ o u c. accesses_keep reach_of more around o u c.fit c.holds) }
expr_keeps (t.Expr::Step place op e) = record { goes = λ around s fit. goes_then s (typed e.0 around s) _ (e.1.goes around s fit) (λ o u c. keeps u _ c.fit (laws.stepped_law (range around.in_entry u) op place false place o c.holds)) }
expr_keeps (t.Unary place op e) = record { goes = λ around s fit. goes_then s (typed e.0 around s) _ (e.1.goes around s fit) (λ o u c. keeps u _ c.fit (laws.unary_law (range around.in_entry u) op place o c.holds)) }
expr_keeps (t.SizeofExpr place e) = record { goes = λ around s fit. goes_then s (typed e.0 around s) _ (e.1.goes around s fit) (λ o u c. keeps u _ c.fit (laws.sized_law (range around.in_entry u) place o c.holds)) }
expr_keeps (t.SizeofType place name) = record { goes = λ around s fit. goes_then s (type_name name.0 around s) _ (name.1.goes around s fit) (λ to u c. keeps u _ c.fit (laws.sized_type_law (range around.in_entry u) place to)) }
expr_keeps (t.Cast place name e) = record {
  goes = λ around s fit.
      goes_then s (type_name name.0 around s) _ (name.1.goes around s fit) (λ to u c.
      goes_then u (typed e.0 around u) _ (e.1.goes around u c.fit) (λ o v d. keeps v _ d.fit (laws.cast_law (range around.in_entry v) place to o c.holds d.holds)));
}
expr_keeps (t.Binary first more) = record {
  goes = λ around s fit.
      goes_then s (typed first.0 around s) _ (first.1.goes around s fit) (λ o u c.
      then_goes u (value_of o) _ (value_law (range around.in_entry u) o c.holds) (λ x m. links_keep linked_of more around o.first x u c.fit m));
}
expr_keeps (t.Choice place a b e) = record {
  goes = λ around s fit.
      goes_then s (typed a.0 around s) _ (a.1.goes around s fit) (λ o u c.
      then_goes u (value_of o) _ (value_law (range around.in_entry u) o c.holds) (λ x m.
      goes_then u (typed b.0 around u) _ (b.1.goes around u c.fit) (λ p v d.
      then_goes v (value_of p) _ (value_law (range around.in_entry v) p d.holds) (λ y n.
      goes_then v (typed e.0 around v) _ (e.1.goes around v d.fit) (λ q w f.
      keeps w _ f.fit (laws.chosen_law (range around.in_entry w) place o.first x y q (later_made around.in_entry u w x (grows_trans u v w d.grows f.grows) m) (later_made around.in_entry v w y f.grows n) f.holds))))));
}
expr_keeps (t.Assign place op to e) = record {
  goes = λ around s fit.
      goes_then s (typed to.0 around s) _ (to.1.goes around s fit) (λ o u c.
      then_goes u (tree_of o) _ (tree_law (range around.in_entry u) o c.holds) (λ x h.
      goes_then u (typed e.0 around u) _ (e.1.goes around u c.fit) (λ p v d.
      keeps v _ d.fit (laws.assigned_law (range around.in_entry v) op place o.first x p (tree_wider (range around.in_entry u) (range around.in_entry v) (within around.in_entry u v d.grows) x h) d.holds))));
}
expr_keeps (t.Comma first more) = record {
  goes = λ around s fit.
      goes_then s (typed first.0 around s) _ (first.1.goes around s fit) (λ o u c.
      then_goes u (value_of o) _ (value_law (range around.in_entry u) o c.holds) (λ x m. commas_keep following_of more around o.first x u c.fit m));
}

access_keeps : (y : Access-F AnAbstract AnAccess AnEnumSpec AnExpr AMember AParam AParams ASpec AStructSpec ASuffix ADeclarator AnEnumerator ALink ANext ATypeName) → ReachKeeps (access_step (part_Access (tree_Access y)))
access_keeps (t.Index place i) = record {
  goes = λ around left s fit h.
      then_goes s (value_of left) _ (value_law (range around.in_entry s) left h) (λ x m.
      goes_then s (typed i.0 around s) _ (i.1.goes around s fit) (λ o u c. keeps u _ c.fit (laws.element_law (range around.in_entry u) place left.first x o (later_made around.in_entry s u x c.grows m) c.holds)));
}
access_keeps (t.Call place args) = record {
  goes = λ around left s fit h.
      goes_then s _ _ (arguments_keep typed args around [] s fit tt) (λ xs u c. keeps u _ c.fit (laws.called_operand_law (range around.in_entry u) place left xs (later_operand around.in_entry s u left c.grows h) c.holds));
}
access_keeps (t.Member place name) = record { goes = λ around left s fit h. keeps s _ fit (laws.member_law around.in_entry s fit place name left h) }
access_keeps (t.Arrow place name) = record { goes = λ around left s fit h. keeps s _ fit (laws.arrow_law around.in_entry s fit place name left h) }
access_keeps (t.Access::Step place op) = record { goes = λ around left s fit h. keeps s _ fit (laws.stepped_law (range around.in_entry s) op place true left.first left h) }

link_keeps : (y : Link-F AnAbstract AnAccess AnEnumSpec AnExpr AMember AParam AParams ASpec AStructSpec ASuffix ADeclarator AnEnumerator ALink ANext ATypeName) → LinkedKeeps (link_step (part_Link (tree_Link y)))
link_keeps y = record { operand = y.operand.1 }

next_keeps : (y : Next-F AnAbstract AnAccess AnEnumSpec AnExpr AMember AParam AParams ASpec AStructSpec ASuffix ADeclarator AnEnumerator ALink ANext ATypeName) → FollowingKeeps (next_step (part_Next (tree_Next y)))
next_keeps y = record { value = y.value.1 }

-- ---- declarators

stars_then : (stars : List Star) (attrs : Attributes) (s : Tables) (f : Attributes → Checked (Formed × Tables)) → ((bs : Attributes) → Goes FormedAt s (f bs)) → Goes FormedAt s (star_attributes stars attrs >>= f)
stars_then stars attrs s f h = by (star_attributes stars attrs)
  where
    by : (r : Checked Attributes) → Goes FormedAt s (r >>= f)
    by (Ok bs) = h bs
    by (Err e) = record { it = tt }

abstract_keeps : (y : Abstract-F AnAbstract AnAccess AnEnumSpec AnExpr AMember AParam AParams ASpec AStructSpec ASuffix ADeclarator AnEnumerator ALink ANext ATypeName) → FormingKeeps (abstract_step (part_Abstract (tree_Abstract y)))
abstract_keeps (t.Plain stars suffixes) = record {
  goes = λ attrs around s fit.
      stars_then stars attrs s _ (λ bs. goes_then s _ _ (suffixes_keep derives suffixes around [] s fit refl) (λ ds u c. stays u (formed stars ds [] bs) c.fit (formed_few stars ds [] bs c.holds refl)));
}
abstract_keeps (t.Abstract::Group stars place inner suffixes) = record {
  goes = λ attrs around s fit.
      stars_then stars attrs s _ (λ bs.
      goes_then s (forming inner.0 bs around s) _ (inner.1.goes bs around s fit) (λ f u c.
      goes_then u _ _ (suffixes_keep derives suffixes around [] u c.fit refl) (λ ds v d. stays v (formed stars ds f.derivations f.attributes) d.fit (formed_few stars ds f.derivations f.attributes d.holds c.holds))));
}

number_then : (u : Tables) (r : Checked ℕ) (f : ℕ → Checked (Derivation × Tables)) → ((n : ℕ) → Goes DerivationAt u (f n)) → Goes DerivationAt u (r >>= f)
number_then u (Ok n) f h = h n
number_then u (Err e) f h = record { it = tt }

suffix_keeps : (y : Suffix-F AnAbstract AnAccess AnEnumSpec AnExpr AMember AParam AParams ASpec AStructSpec ASuffix ADeclarator AnEnumerator ALink ANext ATypeName) → DerivingKeeps (suffix_step (part_Suffix (tree_Suffix y)))
suffix_keeps (t.Array place None) = record { goes = λ around s fit. stays s (by.Array None) fit refl }
suffix_keeps (t.Array place (Some e)) = record { goes = λ around s fit. goes_then s (typed e.0 around s) _ (e.1.goes around s fit) (λ o u c. number_then u (length_operand o) _ (λ n. stays u (by.Array (Some n)) c.fit refl)) }
suffix_keeps (t.Params place ps) = record { goes = λ around s fit. goes_then s (listing ps.0 around s) _ (ps.1.goes around s fit) (λ params u c. stays u (by.Function params) c.fit c.holds) }

declarator_keeps : (y : Declarator-F AnAbstract AnAccess AnEnumSpec AnExpr AMember AParam AParams ASpec AStructSpec ASuffix ADeclarator AnEnumerator ALink ANext ATypeName) → DeclaringKeeps (declarator_step (part_Declarator (tree_Declarator y)))
declarator_keeps y = record { form = y.form.1 }

-- ---- parameters

list_goes : (ps : List AParam) (around : Around) (s : Tables) → IsFit s → Goes ParamsAt s (in_list around (map passing (firsts ps)) (open_parameters around.scope s) s)
list_goes ps around s fit = by (params_from (inside around (open_parameters around.scope s)) [] (map passing (firsts ps)) s) (params_keep passing ps (inside around (open_parameters around.scope s)) [] s fit refl)
  where
    by : (r : Checked (List Parameter × Tables)) → Goes ParamsAt s r → Goes ParamsAt s (r >>> (λ all u. Ok (all, close_parameters (open_parameters around.scope s) u)))
    by (Ok p) h = let d = close_parameters_law around.scope s p.1 h.it.grows h.it.fit in comes s (close_parameters (open_parameters around.scope s) p.1) p.0 d.grows d.fit h.it.holds
    by (Err e) h = record { it = tt }

params_keeps : (y : Params-F AnAbstract AnAccess AnEnumSpec AnExpr AMember AParam AParams ASpec AStructSpec ASuffix ADeclarator AnEnumerator ALink ANext ATypeName) → ListingKeeps (params_step (part_Params (tree_Params y)))
params_keeps t.Empty = record { goes = λ around s fit. stays s [] fit refl }
params_keeps (t.Void place) = record { goes = λ around s fit. stays s [] fit refl }
params_keeps (t.List ps) = record { goes = λ around s fit. list_goes ps around s fit }

head_goes : (xs : List ASpec) (around : Around) (s : Tables) → IsFit s → Goes HeadAt s (head (map specifying (firsts xs)) around s)
head_goes xs around s fit = goes_then s _ _ (specifiers_keep specifying xs false around none_yet s fit refl) (λ it u c. keeps u (head_of it) c.fit (head_of_law it c.holds))

param_keeps : (y : Param-F AnAbstract AnAccess AnEnumSpec AnExpr AMember AParam AParams ASpec AStructSpec ASuffix ADeclarator AnEnumerator ALink ANext ATypeName) → PassingKeeps (param_step (part_Param (tree_Param y)))
param_keeps (t.Named specs d) = record {
  goes = λ around s fit.
      goes_then s _ _ (head_goes specs around s fit) (λ h u c.
      goes_then u _ _ (d.1.form.goes h.attributes around u c.fit) (λ f v e. parameter_keeps (Some (declaring d.0).name) h f around v e.fit c.holds e.holds));
}
param_keeps (t.Unnamed specs form) = record {
  goes = λ around s fit.
      goes_then s _ _ (head_goes specs around s fit) (λ h u c.
      goes_then u _ _ (form.1.goes h.attributes around u c.fit) (λ f v e. parameter_keeps None h f around v e.fit c.holds e.holds));
}

-- ---- type names and specifiers

type_keeps : (y : TypeName-F AnAbstract AnAccess AnEnumSpec AnExpr AMember AParam AParams ASpec AStructSpec ASuffix ADeclarator AnEnumerator ALink ANext ATypeName) → NamingKeeps (type_step (part_TypeName (tree_TypeName y)))
type_keeps y = record {
  goes = λ around s fit.
      goes_then s _ _ (head_goes y.specs around s fit) (λ h u c.
      goes_then u _ _ (y.declarator.1.goes h.attributes around u c.fit) (λ f v d. keeps v (type_of_name h f) d.fit (type_of_name_law h f c.holds d.holds)));
}

spec_keeps : (y : Spec-F AnAbstract AnAccess AnEnumSpec AnExpr AMember AParam AParams ASpec AStructSpec ASuffix ADeclarator AnEnumerator ALink ANext ATypeName) → SpecifyingKeeps (spec_step (part_Spec (tree_Spec y)))
spec_keeps (t.Word place w) = record { goes = λ stored around it s fit h. keeps s (worded it place w stored) fit (worded_law it place w stored h) }
spec_keeps (t.TypeName name) = record { goes = λ stored around it s fit h. keeps s (with_name s name it) fit (with_name_law s name it fit) }
spec_keeps (t.Struct x) = record { goes = λ stored around it s fit h. goes_then s _ _ (x.1.names.goes around s fit) (λ ty u c. keeps u _ c.fit (tagged_type_law it _ ty c.holds)) }
spec_keeps (t.Enum x) = record { goes = λ stored around it s fit h. goes_then s _ _ (x.1.names.goes around s fit) (λ ty u c. keeps u _ c.fit (tagged_type_law it _ ty c.holds)) }
spec_keeps (t.Attr a) = record { goes = λ stored around it s fit h. keeps s (with_attr a it) fit (with_attr_law a it h) }

-- ---- structs and enums

declarators_keep : (ds : List ADeclarator) (around : Around) (h : Head) (l : Layout) (s : Tables) → IsFit s → few h.base ≡ true → members_few l.members ≡ true → Goes LayoutAt s (declarators_from around h l (map declaring (firsts ds)) s)
declarators_keep [] around h l s fit b m = stays s l fit m
declarators_keep (d ∷ ds) around h l s fit b m =
    goes_then s ((declaring d.0).form h.attributes around s) _ (d.1.form.goes h.attributes around s fit) (λ f u c.
    then_goes u (with_member h.base (declaring d.0).name f l) _ (with_member_law h.base (declaring d.0).name f l b c.holds m) (λ more k. declarators_keep ds around h more u c.fit b k))

member_keeps : (y : Member-F AnAbstract AnAccess AnEnumSpec AnExpr AMember AParam AParams ASpec AStructSpec ASuffix ADeclarator AnEnumerator ALink ANext ATypeName) → AddingKeeps (member_step (part_Member (tree_Member y)))
member_keeps (t.Declares specs ds) = record { goes = λ around l s fit m. goes_then s _ _ (head_goes specs around s fit) (λ h u c. declarators_keep ds around h l u c.fit c.holds m) }

struct_goes : (place : Place) (tag : Option Name) (ms : List AMember) (around : Around) (s : Tables) → IsFit s → Goes TypeAt s (if_file around place (struct_body place tag (map adding (firsts ms)) around s))
struct_goes place tag ms around s fit = goes_cond s around.scope.is_file _ _
    (goes_then s (begin_struct tag s) _ (begin_struct_law tag s fit) (λ n u c.
    goes_then u _ _ (members_keep adding ms around no_members u c.fit refl) (λ l v d. end_struct_law n l place v d.fit d.holds))) stops

struct_keeps : (y : StructSpec-F AnAbstract AnAccess AnEnumSpec AnExpr AMember AParam AParams ASpec AStructSpec ASuffix ADeclarator AnEnumerator ALink ANext ATypeName) → TaggedKeeps (struct_step (part_StructSpec (tree_StructSpec y)))
struct_keeps (t.StructSpec::Body place tag ms) = record { names = record { goes = λ around s fit. struct_goes place tag ms around s fit } }
struct_keeps (t.StructSpec::Tag place name) = record { names = record { goes = λ around s fit. struct_use_law around.scope name s fit } }

value_by : (e : Option Typing) (around : Around) (n : ℕ) (s : Tables) → option_keeps e → IsFit s → Goes Anything s (value_or e around n s)
value_by None around n s h fit = stays s n fit tt
value_by (Some f) around n s h fit = goes_then s (f around s) _ (h.goes around s fit) (λ o u c. number_kept u (constant_operand o) c.fit)
  where
    number_kept : (u : Tables) (r : Checked ℕ) → IsFit u → Goes Anything u (keeping u r)
    number_kept u (Ok m) fit = stays u m fit tt
    number_kept u (Err e) fit = record { it = tt }

enumerators_keep : (es : List AnEnumerator) (around : Around) (n : ℕ) (s : Tables) → IsFit s → Goes Anything s (enumerators_from around n (map counting (firsts es)) s)
enumerators_keep [] around n s fit = stays s tt fit tt
enumerators_keep (e ∷ es) around n s fit =
    goes_then s (value_or (counting e.0).value around n s) _ (value_by (counting e.0).value around n s e.1.value fit) (λ m u c.
    goes_then u (declare_constant (counting e.0).name m u) _ (constant_law (counting e.0).name m u c.fit) (λ done v d. enumerators_keep es around (add m 1) v d.fit))

option_by : (name : Name) (e : Option AnExpr) → CountingKeeps (enumerator_step (part_Enumerator (tree_Enumerator (record { name = name; value = e }))))
option_by name None = record { value = tt }
option_by name (Some e) = record { value = e.1 }

enumerator_keeps : (y : Enumerator-F AnAbstract AnAccess AnEnumSpec AnExpr AMember AParam AParams ASpec AStructSpec ASuffix ADeclarator AnEnumerator ALink ANext ATypeName) → CountingKeeps (enumerator_step (part_Enumerator (tree_Enumerator y)))
enumerator_keeps y = option_by y.name y.value

enum_goes : (place : Place) (tag : Option Name) (es : List AnEnumerator) (around : Around) (s : Tables) → IsFit s → Goes TypeAt s (if_file around place (enum_body tag (map counting (firsts es)) around s))
enum_goes place tag es around s fit = goes_cond s around.scope.is_file _ _
    (goes_then s (begin_enum tag s) _ (begin_enum_law tag s fit) (λ done u c.
    goes_then u _ _ (enumerators_keep es around 0 u c.fit) (λ all v d. stays v int_type d.fit few_int))) stops

tag_goes : (r : Checked (Unit {0})) (s : Tables) → IsFit s → Goes TypeAt s (keeping s (r >>= (λ done. Ok int_type)))
tag_goes (Ok x) s fit = stays s int_type fit few_int
tag_goes (Err e) s fit = record { it = tt }

enum_keeps : (y : EnumSpec-F AnAbstract AnAccess AnEnumSpec AnExpr AMember AParam AParams ASpec AStructSpec ASuffix ADeclarator AnEnumerator ALink ANext ATypeName) → TaggedKeeps (enum_step (part_EnumSpec (tree_EnumSpec y)))
enum_keeps (t.EnumSpec::Body place tag es) = record { names = record { goes = λ around s fit. enum_goes place tag es around s fit } }
enum_keeps (t.EnumSpec::Tag place name) = record { names = record { goes = λ around s fit. tag_goes (enum_use s name) s fit } }

-- ---- whole trees

whole_Abstract : (y : Abstract-F AnAbstract AnAccess AnEnumSpec AnExpr AMember AParam AParams ASpec AStructSpec ASuffix ADeclarator AnEnumerator ALink ANext ATypeName) → FormingKeeps (forming (roll-Abstract (tree_Abstract y)))
whole_Abstract y = subst FormingKeeps (sym (fold-roll-Abstract Forming Reach Tagged Typing Adding Passing Listing Specifying Tagged Deriving Declaring Counting Linked Following Naming abstract_step access_step enum_step expr_step member_step param_step params_step spec_step struct_step suffix_step declarator_step enumerator_step link_step next_step type_step (tree_Abstract y))) (abstract_keeps y)

whole_Access : (y : Access-F AnAbstract AnAccess AnEnumSpec AnExpr AMember AParam AParams ASpec AStructSpec ASuffix ADeclarator AnEnumerator ALink ANext ATypeName) → ReachKeeps (reach_of (roll-Access (tree_Access y)))
whole_Access y = subst ReachKeeps (sym (fold-roll-Access Forming Reach Tagged Typing Adding Passing Listing Specifying Tagged Deriving Declaring Counting Linked Following Naming abstract_step access_step enum_step expr_step member_step param_step params_step spec_step struct_step suffix_step declarator_step enumerator_step link_step next_step type_step (tree_Access y))) (access_keeps y)

whole_EnumSpec : (y : EnumSpec-F AnAbstract AnAccess AnEnumSpec AnExpr AMember AParam AParams ASpec AStructSpec ASuffix ADeclarator AnEnumerator ALink ANext ATypeName) → TaggedKeeps (enum_of (roll-EnumSpec (tree_EnumSpec y)))
whole_EnumSpec y = subst TaggedKeeps (sym (fold-roll-EnumSpec Forming Reach Tagged Typing Adding Passing Listing Specifying Tagged Deriving Declaring Counting Linked Following Naming abstract_step access_step enum_step expr_step member_step param_step params_step spec_step struct_step suffix_step declarator_step enumerator_step link_step next_step type_step (tree_EnumSpec y))) (enum_keeps y)

whole_Expr : (y : Expr-F AnAbstract AnAccess AnEnumSpec AnExpr AMember AParam AParams ASpec AStructSpec ASuffix ADeclarator AnEnumerator ALink ANext ATypeName) → TypingKeeps (typed (roll-Expr (tree_Expr y)))
whole_Expr y = subst TypingKeeps (sym (fold-roll-Expr Forming Reach Tagged Typing Adding Passing Listing Specifying Tagged Deriving Declaring Counting Linked Following Naming abstract_step access_step enum_step expr_step member_step param_step params_step spec_step struct_step suffix_step declarator_step enumerator_step link_step next_step type_step (tree_Expr y))) (expr_keeps y)

whole_Member : (y : Member-F AnAbstract AnAccess AnEnumSpec AnExpr AMember AParam AParams ASpec AStructSpec ASuffix ADeclarator AnEnumerator ALink ANext ATypeName) → AddingKeeps (adding (roll-Member (tree_Member y)))
whole_Member y = subst AddingKeeps (sym (fold-roll-Member Forming Reach Tagged Typing Adding Passing Listing Specifying Tagged Deriving Declaring Counting Linked Following Naming abstract_step access_step enum_step expr_step member_step param_step params_step spec_step struct_step suffix_step declarator_step enumerator_step link_step next_step type_step (tree_Member y))) (member_keeps y)

whole_Param : (y : Param-F AnAbstract AnAccess AnEnumSpec AnExpr AMember AParam AParams ASpec AStructSpec ASuffix ADeclarator AnEnumerator ALink ANext ATypeName) → PassingKeeps (passing (roll-Param (tree_Param y)))
whole_Param y = subst PassingKeeps (sym (fold-roll-Param Forming Reach Tagged Typing Adding Passing Listing Specifying Tagged Deriving Declaring Counting Linked Following Naming abstract_step access_step enum_step expr_step member_step param_step params_step spec_step struct_step suffix_step declarator_step enumerator_step link_step next_step type_step (tree_Param y))) (param_keeps y)

whole_Params : (y : Params-F AnAbstract AnAccess AnEnumSpec AnExpr AMember AParam AParams ASpec AStructSpec ASuffix ADeclarator AnEnumerator ALink ANext ATypeName) → ListingKeeps (listing (roll-Params (tree_Params y)))
whole_Params y = subst ListingKeeps (sym (fold-roll-Params Forming Reach Tagged Typing Adding Passing Listing Specifying Tagged Deriving Declaring Counting Linked Following Naming abstract_step access_step enum_step expr_step member_step param_step params_step spec_step struct_step suffix_step declarator_step enumerator_step link_step next_step type_step (tree_Params y))) (params_keeps y)

whole_Spec : (y : Spec-F AnAbstract AnAccess AnEnumSpec AnExpr AMember AParam AParams ASpec AStructSpec ASuffix ADeclarator AnEnumerator ALink ANext ATypeName) → SpecifyingKeeps (specifying (roll-Spec (tree_Spec y)))
whole_Spec y = subst SpecifyingKeeps (sym (fold-roll-Spec Forming Reach Tagged Typing Adding Passing Listing Specifying Tagged Deriving Declaring Counting Linked Following Naming abstract_step access_step enum_step expr_step member_step param_step params_step spec_step struct_step suffix_step declarator_step enumerator_step link_step next_step type_step (tree_Spec y))) (spec_keeps y)

whole_StructSpec : (y : StructSpec-F AnAbstract AnAccess AnEnumSpec AnExpr AMember AParam AParams ASpec AStructSpec ASuffix ADeclarator AnEnumerator ALink ANext ATypeName) → TaggedKeeps (struct_of (roll-StructSpec (tree_StructSpec y)))
whole_StructSpec y = subst TaggedKeeps (sym (fold-roll-StructSpec Forming Reach Tagged Typing Adding Passing Listing Specifying Tagged Deriving Declaring Counting Linked Following Naming abstract_step access_step enum_step expr_step member_step param_step params_step spec_step struct_step suffix_step declarator_step enumerator_step link_step next_step type_step (tree_StructSpec y))) (struct_keeps y)

whole_Suffix : (y : Suffix-F AnAbstract AnAccess AnEnumSpec AnExpr AMember AParam AParams ASpec AStructSpec ASuffix ADeclarator AnEnumerator ALink ANext ATypeName) → DerivingKeeps (derives (roll-Suffix (tree_Suffix y)))
whole_Suffix y = subst DerivingKeeps (sym (fold-roll-Suffix Forming Reach Tagged Typing Adding Passing Listing Specifying Tagged Deriving Declaring Counting Linked Following Naming abstract_step access_step enum_step expr_step member_step param_step params_step spec_step struct_step suffix_step declarator_step enumerator_step link_step next_step type_step (tree_Suffix y))) (suffix_keeps y)

whole_Declarator : (y : Declarator-F AnAbstract AnAccess AnEnumSpec AnExpr AMember AParam AParams ASpec AStructSpec ASuffix ADeclarator AnEnumerator ALink ANext ATypeName) → DeclaringKeeps (declaring (roll-Declarator (tree_Declarator y)))
whole_Declarator y = subst DeclaringKeeps (sym (fold-roll-Declarator Forming Reach Tagged Typing Adding Passing Listing Specifying Tagged Deriving Declaring Counting Linked Following Naming abstract_step access_step enum_step expr_step member_step param_step params_step spec_step struct_step suffix_step declarator_step enumerator_step link_step next_step type_step (tree_Declarator y))) (declarator_keeps y)

whole_Enumerator : (y : Enumerator-F AnAbstract AnAccess AnEnumSpec AnExpr AMember AParam AParams ASpec AStructSpec ASuffix ADeclarator AnEnumerator ALink ANext ATypeName) → CountingKeeps (counting (roll-Enumerator (tree_Enumerator y)))
whole_Enumerator y = subst CountingKeeps (sym (fold-roll-Enumerator Forming Reach Tagged Typing Adding Passing Listing Specifying Tagged Deriving Declaring Counting Linked Following Naming abstract_step access_step enum_step expr_step member_step param_step params_step spec_step struct_step suffix_step declarator_step enumerator_step link_step next_step type_step (tree_Enumerator y))) (enumerator_keeps y)

whole_Link : (y : Link-F AnAbstract AnAccess AnEnumSpec AnExpr AMember AParam AParams ASpec AStructSpec ASuffix ADeclarator AnEnumerator ALink ANext ATypeName) → LinkedKeeps (linked_of (roll-Link (tree_Link y)))
whole_Link y = subst LinkedKeeps (sym (fold-roll-Link Forming Reach Tagged Typing Adding Passing Listing Specifying Tagged Deriving Declaring Counting Linked Following Naming abstract_step access_step enum_step expr_step member_step param_step params_step spec_step struct_step suffix_step declarator_step enumerator_step link_step next_step type_step (tree_Link y))) (link_keeps y)

whole_Next : (y : Next-F AnAbstract AnAccess AnEnumSpec AnExpr AMember AParam AParams ASpec AStructSpec ASuffix ADeclarator AnEnumerator ALink ANext ATypeName) → FollowingKeeps (following_of (roll-Next (tree_Next y)))
whole_Next y = subst FollowingKeeps (sym (fold-roll-Next Forming Reach Tagged Typing Adding Passing Listing Specifying Tagged Deriving Declaring Counting Linked Following Naming abstract_step access_step enum_step expr_step member_step param_step params_step spec_step struct_step suffix_step declarator_step enumerator_step link_step next_step type_step (tree_Next y))) (next_keeps y)

whole_TypeName : (y : TypeName-F AnAbstract AnAccess AnEnumSpec AnExpr AMember AParam AParams ASpec AStructSpec ASuffix ADeclarator AnEnumerator ALink ANext ATypeName) → NamingKeeps (type_name (roll-TypeName (tree_TypeName y)))
whole_TypeName y = subst NamingKeeps (sym (fold-roll-TypeName Forming Reach Tagged Typing Adding Passing Listing Specifying Tagged Deriving Declaring Counting Linked Following Naming abstract_step access_step enum_step expr_step member_step param_step params_step spec_step struct_step suffix_step declarator_step enumerator_step link_step next_step type_step (tree_TypeName y))) (type_keeps y)

pub typed_walk : (x : Tree) → TypingKeeps (typed x)
typed_walk = ind-Expr (λ x. FormingKeeps (forming x)) (λ x. ReachKeeps (reach_of x)) (λ x. TaggedKeeps (enum_of x)) (λ x. TypingKeeps (typed x)) (λ x. AddingKeeps (adding x)) (λ x. PassingKeeps (passing x)) (λ x. ListingKeeps (listing x)) (λ x. SpecifyingKeeps (specifying x)) (λ x. TaggedKeeps (struct_of x)) (λ x. DerivingKeeps (derives x)) (λ x. DeclaringKeeps (declaring x)) (λ x. CountingKeeps (counting x)) (λ x. LinkedKeeps (linked_of x)) (λ x. FollowingKeeps (following_of x)) (λ x. NamingKeeps (type_name x))
    (λ x y is. subst (λ z. FormingKeeps (forming (roll-Abstract z))) is (whole_Abstract y))
    (λ x y is. subst (λ z. ReachKeeps (reach_of (roll-Access z))) is (whole_Access y))
    (λ x y is. subst (λ z. TaggedKeeps (enum_of (roll-EnumSpec z))) is (whole_EnumSpec y))
    (λ x y is. subst (λ z. TypingKeeps (typed (roll-Expr z))) is (whole_Expr y))
    (λ x y is. subst (λ z. AddingKeeps (adding (roll-Member z))) is (whole_Member y))
    (λ x y is. subst (λ z. PassingKeeps (passing (roll-Param z))) is (whole_Param y))
    (λ x y is. subst (λ z. ListingKeeps (listing (roll-Params z))) is (whole_Params y))
    (λ x y is. subst (λ z. SpecifyingKeeps (specifying (roll-Spec z))) is (whole_Spec y))
    (λ x y is. subst (λ z. TaggedKeeps (struct_of (roll-StructSpec z))) is (whole_StructSpec y))
    (λ x y is. subst (λ z. DerivingKeeps (derives (roll-Suffix z))) is (whole_Suffix y))
    (λ x y is. subst (λ z. DeclaringKeeps (declaring (roll-Declarator z))) is (whole_Declarator y))
    (λ x y is. subst (λ z. CountingKeeps (counting (roll-Enumerator z))) is (whole_Enumerator y))
    (λ x y is. subst (λ z. LinkedKeeps (linked_of (roll-Link z))) is (whole_Link y))
    (λ x y is. subst (λ z. FollowingKeeps (following_of (roll-Next z))) is (whole_Next y))
    (λ x y is. subst (λ z. NamingKeeps (type_name (roll-TypeName z))) is (whole_TypeName y))

pub type_name_walk : (x : TypeName) → NamingKeeps (type_name x)
type_name_walk = ind-TypeName (λ x. FormingKeeps (forming x)) (λ x. ReachKeeps (reach_of x)) (λ x. TaggedKeeps (enum_of x)) (λ x. TypingKeeps (typed x)) (λ x. AddingKeeps (adding x)) (λ x. PassingKeeps (passing x)) (λ x. ListingKeeps (listing x)) (λ x. SpecifyingKeeps (specifying x)) (λ x. TaggedKeeps (struct_of x)) (λ x. DerivingKeeps (derives x)) (λ x. DeclaringKeeps (declaring x)) (λ x. CountingKeeps (counting x)) (λ x. LinkedKeeps (linked_of x)) (λ x. FollowingKeeps (following_of x)) (λ x. NamingKeeps (type_name x))
    (λ x y is. subst (λ z. FormingKeeps (forming (roll-Abstract z))) is (whole_Abstract y))
    (λ x y is. subst (λ z. ReachKeeps (reach_of (roll-Access z))) is (whole_Access y))
    (λ x y is. subst (λ z. TaggedKeeps (enum_of (roll-EnumSpec z))) is (whole_EnumSpec y))
    (λ x y is. subst (λ z. TypingKeeps (typed (roll-Expr z))) is (whole_Expr y))
    (λ x y is. subst (λ z. AddingKeeps (adding (roll-Member z))) is (whole_Member y))
    (λ x y is. subst (λ z. PassingKeeps (passing (roll-Param z))) is (whole_Param y))
    (λ x y is. subst (λ z. ListingKeeps (listing (roll-Params z))) is (whole_Params y))
    (λ x y is. subst (λ z. SpecifyingKeeps (specifying (roll-Spec z))) is (whole_Spec y))
    (λ x y is. subst (λ z. TaggedKeeps (struct_of (roll-StructSpec z))) is (whole_StructSpec y))
    (λ x y is. subst (λ z. DerivingKeeps (derives (roll-Suffix z))) is (whole_Suffix y))
    (λ x y is. subst (λ z. DeclaringKeeps (declaring (roll-Declarator z))) is (whole_Declarator y))
    (λ x y is. subst (λ z. CountingKeeps (counting (roll-Enumerator z))) is (whole_Enumerator y))
    (λ x y is. subst (λ z. LinkedKeeps (linked_of (roll-Link z))) is (whole_Link y))
    (λ x y is. subst (λ z. FollowingKeeps (following_of (roll-Next z))) is (whole_Next y))
    (λ x y is. subst (λ z. NamingKeeps (type_name (roll-TypeName z))) is (whole_TypeName y))

pub forming_walk : (x : Abstract) → FormingKeeps (forming x)
forming_walk = ind-Abstract (λ x. FormingKeeps (forming x)) (λ x. ReachKeeps (reach_of x)) (λ x. TaggedKeeps (enum_of x)) (λ x. TypingKeeps (typed x)) (λ x. AddingKeeps (adding x)) (λ x. PassingKeeps (passing x)) (λ x. ListingKeeps (listing x)) (λ x. SpecifyingKeeps (specifying x)) (λ x. TaggedKeeps (struct_of x)) (λ x. DerivingKeeps (derives x)) (λ x. DeclaringKeeps (declaring x)) (λ x. CountingKeeps (counting x)) (λ x. LinkedKeeps (linked_of x)) (λ x. FollowingKeeps (following_of x)) (λ x. NamingKeeps (type_name x))
    (λ x y is. subst (λ z. FormingKeeps (forming (roll-Abstract z))) is (whole_Abstract y))
    (λ x y is. subst (λ z. ReachKeeps (reach_of (roll-Access z))) is (whole_Access y))
    (λ x y is. subst (λ z. TaggedKeeps (enum_of (roll-EnumSpec z))) is (whole_EnumSpec y))
    (λ x y is. subst (λ z. TypingKeeps (typed (roll-Expr z))) is (whole_Expr y))
    (λ x y is. subst (λ z. AddingKeeps (adding (roll-Member z))) is (whole_Member y))
    (λ x y is. subst (λ z. PassingKeeps (passing (roll-Param z))) is (whole_Param y))
    (λ x y is. subst (λ z. ListingKeeps (listing (roll-Params z))) is (whole_Params y))
    (λ x y is. subst (λ z. SpecifyingKeeps (specifying (roll-Spec z))) is (whole_Spec y))
    (λ x y is. subst (λ z. TaggedKeeps (struct_of (roll-StructSpec z))) is (whole_StructSpec y))
    (λ x y is. subst (λ z. DerivingKeeps (derives (roll-Suffix z))) is (whole_Suffix y))
    (λ x y is. subst (λ z. DeclaringKeeps (declaring (roll-Declarator z))) is (whole_Declarator y))
    (λ x y is. subst (λ z. CountingKeeps (counting (roll-Enumerator z))) is (whole_Enumerator y))
    (λ x y is. subst (λ z. LinkedKeeps (linked_of (roll-Link z))) is (whole_Link y))
    (λ x y is. subst (λ z. FollowingKeeps (following_of (roll-Next z))) is (whole_Next y))
    (λ x y is. subst (λ z. NamingKeeps (type_name (roll-TypeName z))) is (whole_TypeName y))

pub specifying_walk : (x : Spec) → SpecifyingKeeps (specifying x)
specifying_walk = ind-Spec (λ x. FormingKeeps (forming x)) (λ x. ReachKeeps (reach_of x)) (λ x. TaggedKeeps (enum_of x)) (λ x. TypingKeeps (typed x)) (λ x. AddingKeeps (adding x)) (λ x. PassingKeeps (passing x)) (λ x. ListingKeeps (listing x)) (λ x. SpecifyingKeeps (specifying x)) (λ x. TaggedKeeps (struct_of x)) (λ x. DerivingKeeps (derives x)) (λ x. DeclaringKeeps (declaring x)) (λ x. CountingKeeps (counting x)) (λ x. LinkedKeeps (linked_of x)) (λ x. FollowingKeeps (following_of x)) (λ x. NamingKeeps (type_name x))
    (λ x y is. subst (λ z. FormingKeeps (forming (roll-Abstract z))) is (whole_Abstract y))
    (λ x y is. subst (λ z. ReachKeeps (reach_of (roll-Access z))) is (whole_Access y))
    (λ x y is. subst (λ z. TaggedKeeps (enum_of (roll-EnumSpec z))) is (whole_EnumSpec y))
    (λ x y is. subst (λ z. TypingKeeps (typed (roll-Expr z))) is (whole_Expr y))
    (λ x y is. subst (λ z. AddingKeeps (adding (roll-Member z))) is (whole_Member y))
    (λ x y is. subst (λ z. PassingKeeps (passing (roll-Param z))) is (whole_Param y))
    (λ x y is. subst (λ z. ListingKeeps (listing (roll-Params z))) is (whole_Params y))
    (λ x y is. subst (λ z. SpecifyingKeeps (specifying (roll-Spec z))) is (whole_Spec y))
    (λ x y is. subst (λ z. TaggedKeeps (struct_of (roll-StructSpec z))) is (whole_StructSpec y))
    (λ x y is. subst (λ z. DerivingKeeps (derives (roll-Suffix z))) is (whole_Suffix y))
    (λ x y is. subst (λ z. DeclaringKeeps (declaring (roll-Declarator z))) is (whole_Declarator y))
    (λ x y is. subst (λ z. CountingKeeps (counting (roll-Enumerator z))) is (whole_Enumerator y))
    (λ x y is. subst (λ z. LinkedKeeps (linked_of (roll-Link z))) is (whole_Link y))
    (λ x y is. subst (λ z. FollowingKeeps (following_of (roll-Next z))) is (whole_Next y))
    (λ x y is. subst (λ z. NamingKeeps (type_name (roll-TypeName z))) is (whole_TypeName y))

pub declaring_walk : (x : Declarator) → DeclaringKeeps (declaring x)
declaring_walk = ind-Declarator (λ x. FormingKeeps (forming x)) (λ x. ReachKeeps (reach_of x)) (λ x. TaggedKeeps (enum_of x)) (λ x. TypingKeeps (typed x)) (λ x. AddingKeeps (adding x)) (λ x. PassingKeeps (passing x)) (λ x. ListingKeeps (listing x)) (λ x. SpecifyingKeeps (specifying x)) (λ x. TaggedKeeps (struct_of x)) (λ x. DerivingKeeps (derives x)) (λ x. DeclaringKeeps (declaring x)) (λ x. CountingKeeps (counting x)) (λ x. LinkedKeeps (linked_of x)) (λ x. FollowingKeeps (following_of x)) (λ x. NamingKeeps (type_name x))
    (λ x y is. subst (λ z. FormingKeeps (forming (roll-Abstract z))) is (whole_Abstract y))
    (λ x y is. subst (λ z. ReachKeeps (reach_of (roll-Access z))) is (whole_Access y))
    (λ x y is. subst (λ z. TaggedKeeps (enum_of (roll-EnumSpec z))) is (whole_EnumSpec y))
    (λ x y is. subst (λ z. TypingKeeps (typed (roll-Expr z))) is (whole_Expr y))
    (λ x y is. subst (λ z. AddingKeeps (adding (roll-Member z))) is (whole_Member y))
    (λ x y is. subst (λ z. PassingKeeps (passing (roll-Param z))) is (whole_Param y))
    (λ x y is. subst (λ z. ListingKeeps (listing (roll-Params z))) is (whole_Params y))
    (λ x y is. subst (λ z. SpecifyingKeeps (specifying (roll-Spec z))) is (whole_Spec y))
    (λ x y is. subst (λ z. TaggedKeeps (struct_of (roll-StructSpec z))) is (whole_StructSpec y))
    (λ x y is. subst (λ z. DerivingKeeps (derives (roll-Suffix z))) is (whole_Suffix y))
    (λ x y is. subst (λ z. DeclaringKeeps (declaring (roll-Declarator z))) is (whole_Declarator y))
    (λ x y is. subst (λ z. CountingKeeps (counting (roll-Enumerator z))) is (whole_Enumerator y))
    (λ x y is. subst (λ z. LinkedKeeps (linked_of (roll-Link z))) is (whole_Link y))
    (λ x y is. subst (λ z. FollowingKeeps (following_of (roll-Next z))) is (whole_Next y))
    (λ x y is. subst (λ z. NamingKeeps (type_name (roll-TypeName z))) is (whole_TypeName y))

-- the specifiers of a declaration
all_specifiers : (xs : List Spec) (stored : Bool) (around : Around) (it : Specified) (s : Tables) → IsFit s → words_few it.words ≡ true → Goes SpecifiedAt s (specifiers_from stored around it (map specifying xs) s)
all_specifiers [] stored around it s fit h = stays s it fit h
all_specifiers (x ∷ xs) stored around it s fit h = goes_then s (specifying x stored around it s) _ ((specifying_walk x).goes stored around it s fit h) (λ more u c. all_specifiers xs stored around more u c.fit c.holds)

pub specifiers_goes : (xs : List Spec) (stored : Bool) (around : Around) (s : Tables) → IsFit s → Goes SpecifiedAt s (specifiers stored around xs s)
specifiers_goes xs stored around s fit = all_specifiers xs stored around none_yet s fit refl

-- an expression's value
pub value_walk : (e : Tree) (around : Around) (s : Tables) → IsFit s → Goes (λ x u. IsMade (range around.in_entry u) x) s (value e around s)
value_walk e around s fit = goes_then s (typed e around s) _ ((typed_walk e).goes around s fit) (λ o u c. keeps u (value_of o) c.fit (value_law (range around.in_entry u) o c.holds))
