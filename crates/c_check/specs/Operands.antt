-- Expressions before their values are taken: a tree, or the name of a call of arm_cmse.h; and where the text of one begins.
use Rattle.std.specs.Prelude.{ℕ, Bool, true, false, cond, List, Option, Some, None, Ok}
use Rattle.cm_base.specs.declared.place.Place.{Place}
use Rattle.c_ast.specs.declared.expr.AssignOp.{AssignOp}
use Rattle.c_ast.specs.declared.expr.AssignOp.TheVariants as assigns
use Rattle.c_ast.specs.declared.expr.BinOp.{BinOp}
use Rattle.c_ast.specs.declared.expr.BinOp.TheVariants as op
use Rattle.c_ast.specs.declared.expr.StepOp.{StepOp}
use Rattle.c_ast.specs.declared.expr.StepOp.TheVariants as step
use Rattle.c_ast.specs.declared.expr.UnOp.{UnOp}
use Rattle.c_ast.specs.declared.expr.UnOp.TheVariants as un
use Rattle.c_ast.specs.declared.expr.Name.{Name}
use Rattle.c_tree.specs.declared.expr.Expr.{Expr}
use Rattle.c_types.specs.declared.ctype.CType.{CType}
use Rattle.c_types.specs.Kind.{is_struct, referenced}
use Rattle.c_tree.specs.declared.expr.BinOp.{BinOp as TreeOp}
use Rattle.c_tree.specs.declared.expr.BinOp.TheVariants as bin
use Rattle.c_tree.specs.declared.expr.UnOp.TheVariants as tree_un
use Rattle.c_rows.specs.declared.intrinsics.Intrinsic.{Intrinsic}
use Rattle.c_rows.specs.Answers.{Checked, ◌>>=◌, fault}
use Rattle.c_rows.specs.Values.{valued}
use Rattle.c_rows.specs.Arithmetic.{binary, shifted, unary, negated}
use Rattle.c_rows.specs.Pointers.{added, subtracted, dereferenced, element}
use Rattle.c_rows.specs.Compare.{ordered, equated}
use Rattle.c_rows.specs.Logic.{both_or_either, chosen, in_order}
use Rattle.c_rows.specs.Constants.{array_length, integer_constant}
use Rattle.c_rows.specs.Access as access
use Rattle.c_rows.specs.Calls.{called}
use Rattle.c_rows.specs.Intrinsics.{intrinsic_called}
use Rattle.c_rows.specs.declared.calls.Arg.{Arg}
use Rattle.c_rows.specs.Assign.{assigned, assigned_by, stepped}
use Rattle.c_scope.specs.declared.tables.Tables.{Tables}
use Rattle.c_scope.specs.Lookup as names
use Rattle.c_scope.specs.Layout.{member_of}
use Rattle.c_check.specs.declared.operands.Operand.{Operand}
use Rattle.c_check.specs.declared.operands.What.{What}
use Rattle.c_check.specs.declared.operands.What.TheVariants as what

abbrev pub operand : Place → Expr → Operand
operand first e = record { what = what.Tree e; first = first }

-- the tree; what arm_cmse.h declares can only be called
abbrev pub tree_in : What → Place → Checked Expr
tree_in (what.Tree e) first = Ok e
tree_in (what.Intrinsic i) first = fault 29 first

abbrev pub tree_of : Operand → Checked Expr
tree_of o = tree_in o.what o.first

abbrev pub value_of : Operand → Checked Expr
value_of o = tree_of o >>= (λ e. valued e o.first)

-- an operation, whose text begins with this place
abbrev pub whole : Place → Checked Expr → Checked Operand
whole first e = e >>= (λ x. Ok (operand first x))

abbrev pub named_as : Tables → Name → Option Intrinsic → Checked Operand
named_as s name (Some i) = Ok (record { what = what.Intrinsic i; first = name.place })
named_as s name None = whole name.place (names.named s name)

-- a name
abbrev pub named_operand : Tables → Name → Checked Operand
named_operand s name = named_as s name (names.intrinsic_named s name.text)

-- in parentheses, which are its first token
abbrev pub from : Place → Operand → Operand
from first o = record o { first = first }

-- ---- operators

-- an operator between two values
abbrev pub binary_row : BinOp → Place → Expr → Expr → Checked Expr
binary_row op.OrElse = both_or_either false
binary_row op.AndThen = both_or_either true
binary_row op.BitOr = binary bin.Or
binary_row op.BitXor = binary bin.Xor
binary_row op.BitAnd = binary bin.And
binary_row op.Equal = equated bin.Eq
binary_row op.NotEqual = equated bin.Ne
binary_row op.Less = ordered bin.Lt
binary_row op.Greater = ordered bin.Gt
binary_row op.LessEqual = ordered bin.Le
binary_row op.GreaterEqual = ordered bin.Ge
binary_row op.Shl = shifted bin.Shl
binary_row op.Shr = shifted bin.Shr
binary_row op.Add = added
binary_row op.Sub = subtracted
binary_row op.Mul = binary bin.Mul
binary_row op.Div = binary bin.Div
binary_row op.Rem = binary bin.Rem

-- an operator and its right operand, behind a value
abbrev pub joined : BinOp → Place → Expr → Operand → Checked Expr
joined o place left right = value_of right >>= binary_row o place left

-- a comma and its right operand
abbrev pub followed : Place → Expr → Operand → Checked Expr
followed place left right = value_of right >>= (λ x. Ok (in_order place left x))

-- an operator before its operand: all but `&` take its value
abbrev pub unary_row : UnOp → Place → Operand → Checked Expr
unary_row un.Address place o = tree_of o >>= access.address place
unary_row un.Deref place o = value_of o >>= dereferenced place
unary_row un.Plus place o = value_of o >>= unary tree_un.Plus place
unary_row un.Minus place o = value_of o >>= unary tree_un.Minus place
unary_row un.Complement place o = value_of o >>= unary tree_un.Compl place
unary_row un.Not place o = value_of o >>= negated place

-- the operator of an assignment that changes its place
abbrev pub changes : AssignOp → Option TreeOp
changes assigns.Set = None
changes assigns.Mul = Some bin.Mul
changes assigns.Div = Some bin.Div
changes assigns.Rem = Some bin.Rem
changes assigns.Add = Some bin.Add
changes assigns.Sub = Some bin.Sub
changes assigns.Shl = Some bin.Shl
changes assigns.Shr = Some bin.Shr
changes assigns.And = Some bin.And
changes assigns.Xor = Some bin.Xor
changes assigns.Or = Some bin.Or

abbrev pub assign_as : Option TreeOp → Place → Expr → Operand → Checked Expr
assign_as None place to v = tree_of v >>= (λ e. assigned place to e v.first)
assign_as (Some o) place to v = value_of v >>= assigned_by o place to

-- an operator that assigns, on what stands left of it
abbrev pub assign_tree : AssignOp → Place → Expr → Operand → Checked Expr
assign_tree o place to v = assign_as (changes o) place to v

abbrev pub unary_operand : UnOp → Place → Operand → Checked Operand
unary_operand o place e = whole place (unary_row o place e)

-- `++`
abbrev pub is_up : StepOp → Bool
is_up step.Increment = true
is_up step.Decrement = false

-- `++` and `--`, giving the old value where they stand behind
abbrev pub stepped_operand : StepOp → Place → Bool → Place → Operand → Checked Operand
stepped_operand o place old first e = whole first (tree_of e >>= (λ x. stepped place x (is_up o) old))

-- `sizeof` of an expression, and of a type
abbrev pub sized_operand : Place → Operand → Checked Operand
sized_operand place e = whole place (tree_of e >>= (λ x. access.size_of place x.ctype))

abbrev pub sized_type : Place → CType → Checked Operand
sized_type place t = whole place (access.size_of place t)

abbrev pub cast_operand : Place → CType → Operand → Checked Operand
cast_operand place to e = whole place (value_of e >>= access.cast place to)

-- `? :` of the value before it and the one in its middle, and what stands behind it
abbrev pub chosen_operand : Place → Place → Expr → Expr → Operand → Checked Operand
chosen_operand place first c a b = whole first (value_of b >>= chosen place c a)

abbrev pub assigned_operand : AssignOp → Place → Place → Expr → Operand → Checked Operand
assigned_operand o place first to v = whole first (assign_tree o place to v)

-- ---- what stands behind an expression

-- `a[i]`
abbrev pub element_operand : Place → Place → Expr → Operand → Checked Operand
element_operand place first a i = whole first (value_of i >>= element place a)

abbrev pub called_what : Place → Bool → What → List Arg → Checked Expr
called_what place in_entry (what.Tree f) args = called place f args
called_what place in_entry (what.Intrinsic i) args = intrinsic_called place i args in_entry

-- a call of what stands before the parenthesis
abbrev pub called_operand : Place → Bool → Operand → List Arg → Checked Operand
called_operand place in_entry f args = whole f.first (called_what place in_entry f.what args)

-- an argument of a call
abbrev pub argument : Operand → Checked Arg
argument o = value_of o >>= (λ v. Ok (record { value = v; first = o.first }))

abbrev pub member_row : Tables → Place → Name → Expr → Checked Expr
member_row s place name e = member_of s e.ctype place name >>= (λ m. Ok (access.member place e m.ctype m.offset))

-- `e.name`
abbrev pub member_operand : Tables → Place → Name → Operand → Checked Operand
member_operand s place name e = whole e.first (tree_of e >>= member_row s place name)

-- what a pointer points to has members where it is a struct
abbrev pub has_members : Option CType → Bool
has_members (Some to) = is_struct to
has_members None = false

-- where p points to a struct, `p->name` is `(*p).name`
abbrev pub arrow_row : Tables → Place → Name → Expr → Checked Expr
arrow_row s place name p = cond (has_members (referenced p.ctype)) (dereferenced place p >>= member_row s place name) (fault 22 place)

-- `p->name`
abbrev pub arrow_operand : Tables → Place → Name → Operand → Checked Operand
arrow_operand s place name p = whole p.first (value_of p >>= arrow_row s place name)

-- ---- constants

-- an array's length, and an enumerator's value
abbrev pub length_operand : Operand → Checked ℕ
length_operand o = value_of o >>= (λ e. array_length e o.first)

abbrev pub constant_operand : Operand → Checked ℕ
constant_operand o = value_of o >>= (λ e. integer_constant e o.first)
