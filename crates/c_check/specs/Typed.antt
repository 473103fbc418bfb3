-- The typed tree of an expression and the type that a declarator gives, or their first fault, in the order of the text (C11 6.5,
-- 6.7): one layer of the syntax tree, each part replaced by what it does.
use Rattle.std.specs.Prelude.{ℕ, ◌+◌, ◌%◌, Bool, true, false, not, cond, List, [], ◌∷◌, ◌++◌, map, length, take, Option, Some, None, option_map, Result, Ok, Err}
use Rattle.cm_base.specs.declared.place.Place.{Place}
use Rattle.c_ast.specs.declared.expr.BinOp.{BinOp}
use Rattle.c_ast.specs.declared.expr.Name.{Name}
use Rattle.c_ast.specs.declared.expr.Expr.{Expr as Tree}
use Rattle.c_ast.specs.declared.expr.Link.{Link}
use Rattle.c_ast.specs.declared.expr.Next.{Next}
use Rattle.c_ast.specs.declared.expr.Access.{Access}
use Rattle.c_ast.specs.declared.expr.TypeName.{TypeName}
use Rattle.c_ast.specs.declared.expr.EnumSpec.{EnumSpec}
use Rattle.c_ast.specs.declared.expr.Enumerator.{Enumerator}
use Rattle.c_ast.specs.declared.expr.Member.{Member}
use Rattle.c_ast.specs.declared.expr.Param.{Param}
use Rattle.c_ast.specs.declared.expr.Params.{Params}
use Rattle.c_ast.specs.declared.expr.StructSpec.{StructSpec}
use Rattle.c_ast.specs.declared.expr.Suffix.{Suffix}
use Rattle.c_ast.specs.declared.expr.Spec.{Spec}
use Rattle.c_ast.specs.declared.expr.Declarator.{Declarator}
use Rattle.c_ast.specs.declared.expr.Abstract.{Abstract}
use Rattle.c_ast.specs.declared.expr.Abstract.TheOpen.{Abstract-F, Access-F, EnumSpec-F, Expr-F, Member-F, Param-F, Params-F, Spec-F, StructSpec-F, Suffix-F, Declarator-F, Enumerator-F, Link-F, Next-F, TypeName-F}
use Rattle.c_ast.specs.declared.expr.Abstract.TheOpen as t
use Rattle.c_ast.specs.declared.expr.Abstract.TheFolds.{fold-Abstract, fold-Access, fold-Declarator, fold-EnumSpec, fold-Enumerator, fold-Expr, fold-Link, fold-Member, fold-Next, fold-Param, fold-Params, fold-Spec, fold-StructSpec, fold-Suffix, fold-TypeName}
use Rattle.ns_types.specs.Operators.{add}
use Rattle.c_types.specs.declared.ctype.CType.{CType}
use Rattle.c_tree.specs.declared.expr.Expr.{Expr}
use Rattle.c_rows.specs.declared.calls.Arg.{Arg}
use Rattle.c_rows.specs.Answers.{Checked, ◌>>=◌, fault}
use Rattle.c_rows.specs.Nodes.{number, constant_node, int_type}
use Rattle.cmse_rules.specs.declared.attributes.Attributes.{Attributes}
use Rattle.c_derive.specs.declared.derivations.Derivation.{Derivation}
use Rattle.c_derive.specs.declared.derivations.Derivation.TheVariants as by
use Rattle.c_derive.specs.declared.derivations.Param.{Param as Parameter}
use Rattle.c_check.specs.declared.around.Around.{Around}
use Rattle.c_check.specs.declared.formed.Formed.{Formed}
use Rattle.c_check.specs.declared.specified.Head.{Head}
use Rattle.c_check.specs.declared.specified.Specified.{Specified}
use Rattle.c_check.specs.declared.operands.Operand.{Operand}
use Rattle.c_check.specs.Operands.{operand, tree_of, value_of, named_operand, from, joined, followed, unary_operand, stepped_operand, sized_operand, sized_type, cast_operand, chosen_operand, assigned_operand, element_operand, called_operand, argument, member_operand, arrow_operand, length_operand, constant_operand}
use Rattle.c_check.specs.Specified.{none_yet, tagged_type, with_attr, with_name, worded, head_of}
use Rattle.c_check.specs.Formed.{formed, inside, parameter, star_attributes, type_of_name, with_member}
use Rattle.c_scope.specs.declared.tables.Layout.{Layout}
use Rattle.c_scope.specs.declared.tables.Scope.{Scope}
use Rattle.c_scope.specs.declared.tables.Tables.{Tables}
use Rattle.c_scope.specs.Steps.{Step, ◌>>>◌, keeping}
use Rattle.c_scope.specs.Tags.{begin_enum, begin_struct, end_struct, enum_use, struct_use}
use Rattle.c_scope.specs.Blocks.{close_parameters, open_parameters}
use Rattle.c_scope.specs.FileScope.{declare_constant}

-- ---- what each part does

-- an expression: what it is here
abbrev pub Typing : Type 0
Typing = Around → Step Operand

-- what stands behind an expression: what it makes of it
abbrev pub Reach : Type 0
Reach = Around → Operand → Step Operand

-- a type
abbrev pub Naming : Type 0
Naming = Around → Step CType

abbrev pub Forming : Type 0
Forming = Attributes → Around → Step Formed

-- a declarator: the name, and what it derives
pub record Declaring : Type 0 where
  pub name : Name
  pub form : Forming

-- a specifier, where a storage class may stand or not
abbrev pub Specifying : Type 0
Specifying = Bool → Around → Specified → Step Specified

-- a struct or an enum, and where it begins
pub record Tagged : Type 0 where
  pub place : Place
  pub names : Naming

-- members of a struct, after those so far
abbrev pub Adding : Type 0
Adding = Around → Layout → Step Layout

-- an enumerator: its name and its value
pub record Counting : Type 0 where
  pub name : Name
  pub value : Option Typing

-- an operator and its right operand
pub record Linked : Type 0 where
  pub place : Place
  pub op : BinOp
  pub operand : Typing

-- a comma and the expression after it
pub record Following : Type 0 where
  pub place : Place
  pub value : Typing

-- a parameter; a parameter list; a suffix of a declarator
abbrev pub Passing : Type 0
Passing = Around → Step Parameter

abbrev pub Listing : Type 0
Listing = Around → Step (List Parameter)

abbrev pub Deriving : Type 0
Deriving = Around → Step Derivation

-- one layer of each kind of tree, its parts replaced by what they do
abbrev pub AbstractLayer : Type 0
AbstractLayer = Abstract-F Forming Reach Tagged Typing Adding Passing Listing Specifying Tagged Deriving Declaring Counting Linked Following Naming

abbrev pub AccessLayer : Type 0
AccessLayer = Access-F Forming Reach Tagged Typing Adding Passing Listing Specifying Tagged Deriving Declaring Counting Linked Following Naming

abbrev pub EnumSpecLayer : Type 0
EnumSpecLayer = EnumSpec-F Forming Reach Tagged Typing Adding Passing Listing Specifying Tagged Deriving Declaring Counting Linked Following Naming

abbrev pub ExprLayer : Type 0
ExprLayer = Expr-F Forming Reach Tagged Typing Adding Passing Listing Specifying Tagged Deriving Declaring Counting Linked Following Naming

abbrev pub MemberLayer : Type 0
MemberLayer = Member-F Forming Reach Tagged Typing Adding Passing Listing Specifying Tagged Deriving Declaring Counting Linked Following Naming

abbrev pub ParamLayer : Type 0
ParamLayer = Param-F Forming Reach Tagged Typing Adding Passing Listing Specifying Tagged Deriving Declaring Counting Linked Following Naming

abbrev pub ParamsLayer : Type 0
ParamsLayer = Params-F Forming Reach Tagged Typing Adding Passing Listing Specifying Tagged Deriving Declaring Counting Linked Following Naming

abbrev pub SpecLayer : Type 0
SpecLayer = Spec-F Forming Reach Tagged Typing Adding Passing Listing Specifying Tagged Deriving Declaring Counting Linked Following Naming

abbrev pub StructSpecLayer : Type 0
StructSpecLayer = StructSpec-F Forming Reach Tagged Typing Adding Passing Listing Specifying Tagged Deriving Declaring Counting Linked Following Naming

abbrev pub SuffixLayer : Type 0
SuffixLayer = Suffix-F Forming Reach Tagged Typing Adding Passing Listing Specifying Tagged Deriving Declaring Counting Linked Following Naming

abbrev pub DeclaratorLayer : Type 0
DeclaratorLayer = Declarator-F Forming Reach Tagged Typing Adding Passing Listing Specifying Tagged Deriving Declaring Counting Linked Following Naming

abbrev pub EnumeratorLayer : Type 0
EnumeratorLayer = Enumerator-F Forming Reach Tagged Typing Adding Passing Listing Specifying Tagged Deriving Declaring Counting Linked Following Naming

abbrev pub LinkLayer : Type 0
LinkLayer = Link-F Forming Reach Tagged Typing Adding Passing Listing Specifying Tagged Deriving Declaring Counting Linked Following Naming

abbrev pub NextLayer : Type 0
NextLayer = Next-F Forming Reach Tagged Typing Adding Passing Listing Specifying Tagged Deriving Declaring Counting Linked Following Naming

abbrev pub TypeNameLayer : Type 0
TypeNameLayer = TypeName-F Forming Reach Tagged Typing Adding Passing Listing Specifying Tagged Deriving Declaring Counting Linked Following Naming

-- ---- lists, from left to right

abbrev pub links_from : Around → Place → Expr → List Linked → Step Operand
links_from around first left [] s = Ok (operand first left, s)
links_from around first left (l ∷ ls) s = l.operand around s >>> (λ o u. joined l.op l.place left o >>= (λ whole. links_from around first whole ls u))

abbrev pub commas_from : Around → Place → Expr → List Following → Step Operand
commas_from around first left [] s = Ok (operand first left, s)
commas_from around first left (c ∷ cs) s = c.value around s >>> (λ o u. followed c.place left o >>= (λ whole. commas_from around first whole cs u))

abbrev pub accesses_from : Around → Operand → List Reach → Step Operand
accesses_from around left [] s = Ok (left, s)
accesses_from around left (f ∷ fs) s = f around left s >>> (λ whole u. accesses_from around whole fs u)

abbrev pub arguments_from : Around → List Arg → List Typing → Step (List Arg)
arguments_from around done [] s = Ok (done, s)
arguments_from around done (e ∷ es) s = e around s >>> (λ o u. argument o >>= (λ a. arguments_from around (done ++ a ∷ []) es u))

abbrev pub suffixes_from : Around → List Derivation → List Deriving → Step (List Derivation)
suffixes_from around done [] s = Ok (done, s)
suffixes_from around done (d ∷ ds) s = d around s >>> (λ x u. suffixes_from around (done ++ x ∷ []) ds u)

abbrev pub params_from : Around → List Parameter → List Passing → Step (List Parameter)
params_from around done [] s = Ok (done, s)
params_from around done (p ∷ ps) s = p around s >>> (λ x u. params_from around (done ++ x ∷ []) ps u)

abbrev pub specifiers_from : Bool → Around → Specified → List Specifying → Step Specified
specifiers_from stored around so_far [] s = Ok (so_far, s)
specifiers_from stored around so_far (x ∷ xs) s = x stored around so_far s >>> (λ more u. specifiers_from stored around more xs u)

abbrev pub members_from : Around → Layout → List Adding → Step Layout
members_from around done [] s = Ok (done, s)
members_from around done (m ∷ ms) s = m around done s >>> (λ all u. members_from around all ms u)

-- ---- one layer of a tree, each part replaced by what it does

abbrev pub expr_step : ExprLayer → Typing
expr_step (t.Name name) around s = keeping s (named_operand s name)
expr_step (t.Number place n ty) around s = Ok (operand place (number place n ty.unsigned ty.long), s)
expr_step (t.Char place n) around s = Ok (operand place (constant_node place n), s)
expr_step (t.Str place bytes) around s = fault 29 place
expr_step (t.Expr::Group place inner) around s = inner around s >>> (λ o u. Ok (from place o, u))
expr_step (t.Postfix first more) around s = first around s >>> (λ o u. accesses_from around o more u)
expr_step (t.Expr::Step place op e) around s = e around s >>> (λ o u. keeping u (stepped_operand op place false place o))
expr_step (t.Unary place op e) around s = e around s >>> (λ o u. keeping u (unary_operand op place o))
expr_step (t.SizeofExpr place e) around s = e around s >>> (λ o u. keeping u (sized_operand place o))
expr_step (t.SizeofType place name) around s = name around s >>> (λ to u. keeping u (sized_type place to))
expr_step (t.Cast place name e) around s = name around s >>> (λ to u. e around u >>> (λ o v. keeping v (cast_operand place to o)))
expr_step (t.Binary first more) around s = first around s >>> (λ o u. value_of o >>= (λ x. links_from around o.first x more u))
expr_step (t.Choice place c a b) around s =
    c around s >>> (λ o u. value_of o >>= (λ x.
    a around u >>> (λ p v. value_of p >>= (λ y.
    b around v >>> (λ q w. keeping w (chosen_operand place o.first x y q))))))
expr_step (t.Assign place op to v) around s = to around s >>> (λ o u. tree_of o >>= (λ x. v around u >>> (λ p w. keeping w (assigned_operand op place o.first x p))))
expr_step (t.Comma first more) around s = first around s >>> (λ o u. value_of o >>= (λ x. commas_from around o.first x more u))

abbrev pub access_step : AccessLayer → Reach
access_step (t.Index place i) around left s = value_of left >>= (λ x. i around s >>> (λ o u. keeping u (element_operand place left.first x o)))
access_step (t.Call place args) around left s = arguments_from around [] args s >>> (λ xs u. keeping u (called_operand place around.in_entry left xs))
access_step (t.Member place name) around left s = keeping s (member_operand s place name left)
access_step (t.Arrow place name) around left s = keeping s (arrow_operand s place name left)
access_step (t.Access::Step place op) around left s = keeping s (stepped_operand op place true left.first left)

abbrev pub link_step : LinkLayer → Linked
link_step l = record { place = l.place; op = l.op; operand = l.operand }

abbrev pub next_step : NextLayer → Following
next_step c = record { place = c.place; value = c.value }

-- ---- declarators

abbrev pub abstract_step : AbstractLayer → Forming
abstract_step (t.Plain stars suffixes) attrs around s = star_attributes stars attrs >>= (λ bs. suffixes_from around [] suffixes s >>> (λ ds u. Ok (formed stars ds [] bs, u)))
abstract_step (t.Abstract::Group stars place inner suffixes) attrs around s =
    star_attributes stars attrs >>= (λ bs.
    inner bs around s >>> (λ f u.
    suffixes_from around [] suffixes u >>> (λ ds v. Ok (formed stars ds f.derivations f.attributes, v))))

abbrev pub length_step : Option Typing → Around → Step Derivation
length_step None around s = Ok (by.Array None, s)
length_step (Some e) around s = e around s >>> (λ o u. length_operand o >>= (λ n. Ok (by.Array (Some n), u)))

abbrev pub suffix_step : SuffixLayer → Around → Step Derivation
suffix_step (t.Array place e) around s = length_step e around s
suffix_step (t.Params place ps) around s = ps around s >>> (λ params u. Ok (by.Function params, u))

abbrev pub declarator_step : DeclaratorLayer → Declaring
declarator_step d = record { name = d.name; form = d.form }

-- ---- parameters

abbrev pub in_list : Around → List Passing → Scope → Step (List Parameter)
in_list around ps scope s = params_from (inside around scope) [] ps s >>> (λ all u. Ok (all, close_parameters scope u))

abbrev pub params_step : ParamsLayer → Around → Step (List Parameter)
params_step t.Empty around s = Ok ([], s)
params_step (t.Void place) around s = Ok ([], s)
params_step (t.List ps) around s = in_list around ps (open_parameters around.scope s) s

-- the type before a parameter, a member or a type name: no storage class stands there
abbrev pub head : List Specifying → Around → Step Head
head xs around s = specifiers_from false around none_yet xs s >>> (λ it u. keeping u (head_of it))

abbrev pub param_step : ParamLayer → Around → Step Parameter
param_step (t.Named specs d) around s = head specs around s >>> (λ h u. d.form h.attributes around u >>> (λ f v. parameter (Some d.name) h f around v))
param_step (t.Unnamed specs form) around s = head specs around s >>> (λ h u. form h.attributes around u >>> (λ f v. parameter None h f around v))

-- ---- type names

abbrev pub type_step : TypeNameLayer → Naming
type_step n around s = head n.specs around s >>> (λ h u. n.declarator h.attributes around u >>> (λ f v. keeping v (type_of_name h f)))

-- ---- specifiers

abbrev pub spec_step : SpecLayer → Specifying
spec_step (t.Word place w) stored around it s = keeping s (worded it place w stored)
spec_step (t.TypeName name) stored around it s = keeping s (with_name s name it)
spec_step (t.Struct x) stored around it s = x.names around s >>> (λ ty u. keeping u (tagged_type it x.place ty))
spec_step (t.Enum x) stored around it s = x.names around s >>> (λ ty u. keeping u (tagged_type it x.place ty))
spec_step (t.Attr a) stored around it s = keeping s (with_attr a it)

-- ---- structs and enums; inside functions none is defined

abbrev pub declarators_from : Around → Head → Layout → List Declaring → Step Layout
declarators_from around h l [] s = Ok (l, s)
declarators_from around h l (d ∷ ds) s = d.form h.attributes around s >>> (λ f u. with_member h.base d.name f l >>= (λ more. declarators_from around h more ds u))

abbrev pub member_step : MemberLayer → Adding
member_step (t.Declares specs ds) around l s = head specs around s >>> (λ h u. declarators_from around h l ds u)

abbrev pub no_members : Layout
no_members = record { members = []; size = 0; align = 0 }

abbrev pub struct_body : Place → Option Name → List Adding → Naming
struct_body place tag ms around s = begin_struct tag s >>> (λ n u. members_from around no_members ms u >>> (λ l v. end_struct n l place v))

abbrev pub if_file : {A : Type 0} → Around → Place → Checked A → Checked A
if_file around place rest = cond around.scope.is_file rest (fault 27 place)

abbrev pub struct_step : StructSpecLayer → Tagged
struct_step (t.StructSpec::Body place tag ms) = record { place = place; names = λ around s. if_file around place (struct_body place tag ms around s) }
struct_step (t.StructSpec::Tag place name) = record { place = place; names = λ around s. struct_use around.scope name s }

abbrev pub value_or : Option Typing → Around → ℕ → Step ℕ
value_or None around n s = Ok (n, s)
value_or (Some e) around n s = e around s >>> (λ o u. keeping u (constant_operand o))

-- each enumerator is one more than the one before it, where it has no value
abbrev pub enumerators_from : Around → ℕ → List Counting → Step (Unit {0})
enumerators_from around n [] s = Ok (tt, s)
enumerators_from around n (e ∷ es) s = value_or e.value around n s >>> (λ m u. declare_constant e.name m u >>> (λ done v. enumerators_from around (add m 1) es v))

abbrev pub enumerator_step : EnumeratorLayer → Counting
enumerator_step e = record { name = e.name; value = e.value }

abbrev pub enum_body : Option Name → List Counting → Naming
enum_body tag es around s = begin_enum tag s >>> (λ done u. enumerators_from around 0 es u >>> (λ all v. Ok (int_type, v)))

abbrev pub enum_step : EnumSpecLayer → Tagged
enum_step (t.EnumSpec::Body place tag es) = record { place = place; names = λ around s. if_file around place (enum_body tag es around s) }
enum_step (t.EnumSpec::Tag place name) = record { place = place; names = λ around s. keeping s (enum_use s name >>= (λ done. Ok int_type)) }

-- ---- whole trees

abbrev pub typed : Tree → Typing
typed = fold-Expr Forming Reach Tagged Typing Adding Passing Listing Specifying Tagged Deriving Declaring Counting Linked Following Naming abstract_step access_step enum_step expr_step member_step param_step params_step spec_step struct_step suffix_step declarator_step enumerator_step link_step next_step type_step

-- an expression's value
abbrev pub value : Tree → Around → Step Expr
value e around s = typed e around s >>> (λ o u. keeping u (value_of o))

abbrev pub reach_of : Access → Reach
reach_of = fold-Access Forming Reach Tagged Typing Adding Passing Listing Specifying Tagged Deriving Declaring Counting Linked Following Naming abstract_step access_step enum_step expr_step member_step param_step params_step spec_step struct_step suffix_step declarator_step enumerator_step link_step next_step type_step

abbrev pub linked_of : Link → Linked
linked_of = fold-Link Forming Reach Tagged Typing Adding Passing Listing Specifying Tagged Deriving Declaring Counting Linked Following Naming abstract_step access_step enum_step expr_step member_step param_step params_step spec_step struct_step suffix_step declarator_step enumerator_step link_step next_step type_step

abbrev pub following_of : Next → Following
following_of = fold-Next Forming Reach Tagged Typing Adding Passing Listing Specifying Tagged Deriving Declaring Counting Linked Following Naming abstract_step access_step enum_step expr_step member_step param_step params_step spec_step struct_step suffix_step declarator_step enumerator_step link_step next_step type_step

abbrev pub type_name : TypeName → Naming
type_name = fold-TypeName Forming Reach Tagged Typing Adding Passing Listing Specifying Tagged Deriving Declaring Counting Linked Following Naming abstract_step access_step enum_step expr_step member_step param_step params_step spec_step struct_step suffix_step declarator_step enumerator_step link_step next_step type_step

abbrev pub specifying : Spec → Specifying
specifying = fold-Spec Forming Reach Tagged Typing Adding Passing Listing Specifying Tagged Deriving Declaring Counting Linked Following Naming abstract_step access_step enum_step expr_step member_step param_step params_step spec_step struct_step suffix_step declarator_step enumerator_step link_step next_step type_step

abbrev pub declaring : Declarator → Declaring
declaring = fold-Declarator Forming Reach Tagged Typing Adding Passing Listing Specifying Tagged Deriving Declaring Counting Linked Following Naming abstract_step access_step enum_step expr_step member_step param_step params_step spec_step struct_step suffix_step declarator_step enumerator_step link_step next_step type_step

abbrev pub forming : Abstract → Forming
forming = fold-Abstract Forming Reach Tagged Typing Adding Passing Listing Specifying Tagged Deriving Declaring Counting Linked Following Naming abstract_step access_step enum_step expr_step member_step param_step params_step spec_step struct_step suffix_step declarator_step enumerator_step link_step next_step type_step

abbrev pub derives : Suffix → Deriving
derives = fold-Suffix Forming Reach Tagged Typing Adding Passing Listing Specifying Tagged Deriving Declaring Counting Linked Following Naming abstract_step access_step enum_step expr_step member_step param_step params_step spec_step struct_step suffix_step declarator_step enumerator_step link_step next_step type_step

abbrev pub listing : Params → Listing
listing = fold-Params Forming Reach Tagged Typing Adding Passing Listing Specifying Tagged Deriving Declaring Counting Linked Following Naming abstract_step access_step enum_step expr_step member_step param_step params_step spec_step struct_step suffix_step declarator_step enumerator_step link_step next_step type_step

abbrev pub passing : Param → Passing
passing = fold-Param Forming Reach Tagged Typing Adding Passing Listing Specifying Tagged Deriving Declaring Counting Linked Following Naming abstract_step access_step enum_step expr_step member_step param_step params_step spec_step struct_step suffix_step declarator_step enumerator_step link_step next_step type_step

abbrev pub adding : Member → Adding
adding = fold-Member Forming Reach Tagged Typing Adding Passing Listing Specifying Tagged Deriving Declaring Counting Linked Following Naming abstract_step access_step enum_step expr_step member_step param_step params_step spec_step struct_step suffix_step declarator_step enumerator_step link_step next_step type_step

abbrev pub struct_of : StructSpec → Tagged
struct_of = fold-StructSpec Forming Reach Tagged Typing Adding Passing Listing Specifying Tagged Deriving Declaring Counting Linked Following Naming abstract_step access_step enum_step expr_step member_step param_step params_step spec_step struct_step suffix_step declarator_step enumerator_step link_step next_step type_step

abbrev pub enum_of : EnumSpec → Tagged
enum_of = fold-EnumSpec Forming Reach Tagged Typing Adding Passing Listing Specifying Tagged Deriving Declaring Counting Linked Following Naming abstract_step access_step enum_step expr_step member_step param_step params_step spec_step struct_step suffix_step declarator_step enumerator_step link_step next_step type_step

abbrev pub counting : Enumerator → Counting
counting = fold-Enumerator Forming Reach Tagged Typing Adding Passing Listing Specifying Tagged Deriving Declaring Counting Linked Following Naming abstract_step access_step enum_step expr_step member_step param_step params_step spec_step struct_step suffix_step declarator_step enumerator_step link_step next_step type_step

-- where a struct's specifier, or an enum's, begins, and the type that it names
abbrev pub struct_place : StructSpec → Place
struct_place x = (struct_of x).place

abbrev pub enum_place : EnumSpec → Place
enum_place x = (enum_of x).place

abbrev pub struct_named : StructSpec → Naming
struct_named x = (struct_of x).names

abbrev pub enum_named : EnumSpec → Naming
enum_named x = (enum_of x).names

-- ---- lists of trees, as the walk goes through them

abbrev pub links : Around → Place → Expr → List Link → Step Operand
links around first left ls = links_from around first left (map linked_of ls)

abbrev pub commas : Around → Place → Expr → List Next → Step Operand
commas around first left cs = commas_from around first left (map following_of cs)

-- the same behind an operand whose value is taken first
abbrev pub links_after : Around → Operand → List Link → Step Operand
links_after around o ls s = value_of o >>= (λ x. links around o.first x ls s)

abbrev pub commas_after : Around → Operand → List Next → Step Operand
commas_after around o cs s = value_of o >>= (λ x. commas around o.first x cs s)

abbrev pub accesses : Around → Operand → List Access → Step Operand
accesses around left fs = accesses_from around left (map reach_of fs)

abbrev pub arguments : Around → List Tree → Step (List Arg)
arguments around es = arguments_from around [] (map typed es)

abbrev pub suffixes : Around → List Suffix → Step (List Derivation)
suffixes around ss = suffixes_from around [] (map derives ss)

abbrev pub params : Around → List Param → Step (List Parameter)
params around ps = params_from around [] (map passing ps)

-- the specifiers of a declaration
abbrev pub specifiers : Bool → Around → List Spec → Step Specified
specifiers stored around xs = specifiers_from stored around none_yet (map specifying xs)

abbrev pub declarators : Around → Head → Layout → List Declarator → Step Layout
declarators around h l ds = declarators_from around h l (map declaring ds)

abbrev pub members : Around → List Member → Step Layout
members around ms = members_from around no_members (map adding ms)

-- an enumerator's value, or the one that is due
abbrev pub enumerator_value : Enumerator → Around → ℕ → Step ℕ
enumerator_value e = value_or (counting e).value

abbrev pub enumerators : Around → ℕ → List Enumerator → Step (Unit {0})
enumerators around n es = enumerators_from around n (map counting es)
