-- Operations on operands whose numbers are in range.
use Rattle.std.proofs.Common.{◌≡◌, ℕ, Bool, true, false, cond, List, [], ◌∷◌, ◌++◌, refl, Option, None, Some, Ok}
use Rattle.cm_base.specs.declared.place.Place.{Place}
use Rattle.c_ast.specs.declared.expr.AssignOp.{AssignOp}
use Rattle.c_ast.specs.declared.expr.BinOp.{BinOp}
use Rattle.c_ast.specs.declared.expr.BinOp.TheVariants as op
use Rattle.c_ast.specs.declared.expr.Name.{Name}
use Rattle.c_ast.specs.declared.expr.StepOp.{StepOp}
use Rattle.c_ast.specs.declared.expr.UnOp.{UnOp}
use Rattle.c_ast.specs.declared.expr.UnOp.TheVariants as un
use Rattle.c_types.specs.Kind.{is_struct, referenced}
use Rattle.c_types.specs.declared.ctype.CType.{CType}
use Rattle.c_tree.specs.declared.expr.BinOp.{BinOp as TreeOp}
use Rattle.c_tree.specs.declared.expr.BinOp.TheVariants as bin
use Rattle.c_tree.specs.declared.expr.UnOp.TheVariants as tree_un
use Rattle.c_tree.specs.declared.expr.Expr.{Expr}
use Rattle.c_tree.specs.Numbers.{Around as Range}
use Rattle.c_rows.specs.declared.calls.Arg.{Arg}
use Rattle.c_rows.specs.declared.intrinsics.Intrinsic.{Intrinsic}
use Rattle.c_rows.specs.Access as access
use Rattle.c_rows.specs.Answers.{Checked, ◌>>=◌}
use Rattle.c_rows.specs.Assign.{assigned, assigned_by, stepped}
use Rattle.c_rows.specs.Calls.{called}
use Rattle.c_rows.specs.Intrinsics.{intrinsic_called}
use Rattle.c_rows.specs.Logic.{chosen, in_order}
use Rattle.c_rows.specs.Pointers.{dereferenced, element}
use Rattle.c_rows.specs.Values.{valued}
use Rattle.c_scope.specs.declared.tables.Tables.{Tables}
use Rattle.c_scope.specs.declared.layout.Found.{Found}
use Rattle.c_scope.specs.Layout.{member_of}
use Rattle.c_scope.specs.Lookup as names
use Rattle.c_check.specs.declared.operands.Operand.{Operand}
use Rattle.c_check.specs.declared.operands.What.{What}
use Rattle.c_check.specs.declared.operands.What.TheVariants as what
use Rattle.c_check.specs.Operands.{argument, arrow_operand, arrow_row, assign_as, assign_tree, assigned_operand, binary_row, called_operand, called_what, cast_operand, changes, chosen_operand, element_operand, followed, has_members, is_up, joined, member_operand, member_row, named_as, named_operand, operand, sized_operand, sized_type, stepped_operand, tree_in, tree_of, unary_operand, unary_row, value_of, whole}
use Rattle.range_laws.specs.Few.{IsFit, few}
use Rattle.range_laws.specs.Fits.{AreArgs, IsArg, IsMade, IsTree, IsValue}
use Rattle.range_laws.specs.Ranges.{IsWithin, range}
use Rattle.range_laws.specs.Steps.{Answers}
use Rattle.range_laws.proofs.CallLaws.{called_law, intrinsic_law}
use Rattle.range_laws.proofs.LookupLaws.{has_member, member_of_law, named_law}
use Rattle.range_laws.proofs.Moves.{answers_cond, answers_on, answers_then, silent, told}
use Rattle.range_laws.proofs.RowLaws as rows
use Rattle.range_laws.proofs.TreeLaws as trees
use Rattle.range_laws.proofs.TreeLaws.{tree_wider, valued_made}
use Rattle.check_laws.specs.Operands.{IsOperand, what_fits}

pub what_wider : (a b : Range) → IsWithin a b → (w : What) → what_fits a w → what_fits b w
what_wider a b w (what.Tree e) h = tree_wider a b w e h
what_wider a b w (what.Intrinsic i) h = tt

pub operand_wider : (a b : Range) → IsWithin a b → (o : Operand) → IsOperand a o → IsOperand b o
operand_wider a b w o h = record { tree = what_wider a b w o.what h.tree }

pub args_wider : (a b : Range) → IsWithin a b → (xs : List Arg) → AreArgs a xs → AreArgs b xs
args_wider a b w [] h = tt
args_wider a b w (x ∷ xs) h = (trees.value_wider a b w x.value h.0, args_wider a b w xs h.1)

pub args_push : (a : Range) (xs : List Arg) (x : Arg) → AreArgs a xs → IsArg a x → AreArgs a (xs ++ x ∷ [])
args_push a [] x h k = (k, tt)
args_push a (y ∷ xs) x h k = (h.0, args_push a xs x h.1 k)

module _ (a : Range) where
  tree_by : (w : What) (first : Place) → what_fits a w → Answers (IsTree a) (tree_in w first)
  tree_by (what.Tree e) first h = told e h
  tree_by (what.Intrinsic i) first h = silent

  pub tree_law : (o : Operand) → IsOperand a o → Answers (IsTree a) (tree_of o)
  tree_law o h = tree_by o.what o.first h.tree

  pub value_law : (o : Operand) → IsOperand a o → Answers (IsMade a) (value_of o)
  value_law o h = answers_then (tree_of o) (λ e. valued e o.first) (tree_law o h) (λ e t. valued_made a e o.first t)

  whole_tree : (first : Place) (r : Checked Expr) → Answers (IsTree a) r → Answers (IsOperand a) (whole first r)
  whole_tree first r h = answers_then r (λ x. Ok (operand first x)) h (λ x t. told (operand first x) (record { tree = t }))

  whole_law : (first : Place) (r : Checked Expr) → Answers (IsMade a) r → Answers (IsOperand a) (whole first r)
  whole_law first r h = answers_then r (λ x. Ok (operand first x)) h (λ x m. told (operand first x) (record { tree = m.tree }))

  -- ---- operators

  binary_row_law : (o : BinOp) (place : Place) (x y : Expr) → IsValue a x → IsValue a y → Answers (IsMade a) (binary_row o place x y)
  binary_row_law op.OrElse place x y h g = rows.either_law a false place x y h g
  binary_row_law op.AndThen place x y h g = rows.either_law a true place x y h g
  binary_row_law op.BitOr place x y h g = rows.binary_law a bin.Or place x y h g
  binary_row_law op.BitXor place x y h g = rows.binary_law a bin.Xor place x y h g
  binary_row_law op.BitAnd place x y h g = rows.binary_law a bin.And place x y h g
  binary_row_law op.Equal place x y h g = rows.equated_law a bin.Eq place x y h g
  binary_row_law op.NotEqual place x y h g = rows.equated_law a bin.Ne place x y h g
  binary_row_law op.Less place x y h g = rows.ordered_law a bin.Lt place x y h g
  binary_row_law op.Greater place x y h g = rows.ordered_law a bin.Gt place x y h g
  binary_row_law op.LessEqual place x y h g = rows.ordered_law a bin.Le place x y h g
  binary_row_law op.GreaterEqual place x y h g = rows.ordered_law a bin.Ge place x y h g
  binary_row_law op.Shl place x y h g = rows.shifted_law a bin.Shl place x y h g
  binary_row_law op.Shr place x y h g = rows.shifted_law a bin.Shr place x y h g
  binary_row_law op.Add place x y h g = rows.added_law a place x y h g
  binary_row_law op.Sub place x y h g = rows.subtracted_law a place x y h g
  binary_row_law op.Mul place x y h g = rows.binary_law a bin.Mul place x y h g
  binary_row_law op.Div place x y h g = rows.binary_law a bin.Div place x y h g
  binary_row_law op.Rem place x y h g = rows.binary_law a bin.Rem place x y h g

  pub joined_law : (o : BinOp) (place : Place) (left : Expr) (right : Operand) → IsMade a left → IsOperand a right → Answers (IsMade a) (joined o place left right)
  joined_law o place left right h g = answers_then (value_of right) (binary_row o place left) (value_law right g) (λ x m. binary_row_law o place left x h.value m.value)

  pub followed_law : (place : Place) (left : Expr) (right : Operand) → IsMade a left → IsOperand a right → Answers (IsMade a) (followed place left right)
  followed_law place left right h g = answers_then (value_of right) _ (value_law right g) (λ x m. told _ (rows.in_order_law a place left x h.value m.value))

  unary_row_law : (o : UnOp) (place : Place) (e : Operand) → IsOperand a e → Answers (IsMade a) (unary_row o place e)
  unary_row_law un.Address place e h = answers_then (tree_of e) (access.address place) (tree_law e h) (λ x t. rows.address_law a place x t)
  unary_row_law un.Deref place e h = answers_then (value_of e) _ (value_law e h) (λ x m. rows.dereferenced_law a place x m.value)
  unary_row_law un.Plus place e h = answers_then (value_of e) _ (value_law e h) (λ x m. rows.unary_law a tree_un.Plus place x m.value)
  unary_row_law un.Minus place e h = answers_then (value_of e) _ (value_law e h) (λ x m. rows.unary_law a tree_un.Minus place x m.value)
  unary_row_law un.Complement place e h = answers_then (value_of e) _ (value_law e h) (λ x m. rows.unary_law a tree_un.Compl place x m.value)
  unary_row_law un.Not place e h = answers_then (value_of e) _ (value_law e h) (λ x m. rows.negated_law a place x m.value)

  pub unary_law : (o : UnOp) (place : Place) (e : Operand) → IsOperand a e → Answers (IsOperand a) (unary_operand o place e)
  unary_law o place e h = whole_law place (unary_row o place e) (unary_row_law o place e h)

  assign_by : (o : Option TreeOp) (place : Place) (to : Expr) (v : Operand) → IsTree a to → IsOperand a v → Answers (IsMade a) (assign_as o place to v)
  assign_by None place to v h g = answers_then (tree_of v) _ (tree_law v g) (λ e t. rows.assigned_law a place to e v.first h t)
  assign_by (Some o) place to v h g = answers_then (value_of v) _ (value_law v g) (λ e m. rows.assigned_by_law a o place to e h m.value)

  pub assigned_law : (o : AssignOp) (place first : Place) (to : Expr) (v : Operand) → IsTree a to → IsOperand a v → Answers (IsOperand a) (assigned_operand o place first to v)
  assigned_law o place first to v h g = whole_law first (assign_tree o place to v) (assign_by (changes o) place to v h g)

  pub stepped_law : (o : StepOp) (place : Place) (old : Bool) (first : Place) (e : Operand) → IsOperand a e → Answers (IsOperand a) (stepped_operand o place old first e)
  stepped_law o place old first e h = whole_law first _ (answers_then (tree_of e) (λ x. stepped place x (is_up o) old) (tree_law e h) (λ x t. rows.stepped_law a place x (is_up o) old t))

  pub sized_law : (place : Place) (e : Operand) → IsOperand a e → Answers (IsOperand a) (sized_operand place e)
  sized_law place e h = whole_law place _ (answers_then (tree_of e) (λ x. access.size_of place x.ctype) (tree_law e h) (λ x t. rows.size_law a place x.ctype))

  pub sized_type_law : (place : Place) (t : CType) → Answers (IsOperand a) (sized_type place t)
  sized_type_law place t = whole_law place (access.size_of place t) (rows.size_law a place t)

  pub cast_law : (place : Place) (to : CType) (e : Operand) → few to ≡ true → IsOperand a e → Answers (IsOperand a) (cast_operand place to e)
  cast_law place to e f h = whole_law place _ (answers_then (value_of e) (access.cast place to) (value_law e h) (λ x m. rows.cast_law a place to x f m.value))

  pub chosen_law : (place first : Place) (c x : Expr) (y : Operand) → IsMade a c → IsMade a x → IsOperand a y → Answers (IsOperand a) (chosen_operand place first c x y)
  chosen_law place first c x y f h g = whole_law first _ (answers_then (value_of y) (chosen place c x) (value_law y g) (λ z m. rows.chosen_law a place c x z f.value h.value m.value))

  -- ---- what stands behind an expression

  pub element_law : (place first : Place) (x : Expr) (i : Operand) → IsMade a x → IsOperand a i → Answers (IsOperand a) (element_operand place first x i)
  element_law place first x i h g = whole_law first _ (answers_then (value_of i) (element place x) (value_law i g) (λ y m. rows.element_law a place x y h.value m.value))

  called_by : (place : Place) (w : What) (args : List Arg) → what_fits a w → AreArgs a args → Answers (IsMade a) (called_what place a.entry w args)
  called_by place (what.Tree f) args h g = called_law a place f args h g
  called_by place (what.Intrinsic i) args h g = intrinsic_law a place i args g

  pub called_operand_law : (place : Place) (f : Operand) (args : List Arg) → IsOperand a f → AreArgs a args → Answers (IsOperand a) (called_operand place a.entry f args)
  called_operand_law place f args h g = whole_law f.first (called_what place a.entry f.what args) (called_by place f.what args h.tree g)

  pub argument_law : (o : Operand) → IsOperand a o → Answers (IsArg a) (argument o)
  argument_law o h = answers_then (value_of o) _ (value_law o h) (λ v m. told _ m.value)

-- ---- with the tables

module _ (entry : Bool) (s : Tables) (fit : IsFit s) where
  named_by : (name : Name) (o : Option Intrinsic) → Answers (IsOperand (range entry s)) (named_as s name o)
  named_by name (Some i) = told _ (record { tree = tt })
  named_by name None = whole_tree (range entry s) name.place (names.named s name) (named_law entry s fit name)

  pub named_operand_law : (name : Name) → Answers (IsOperand (range entry s)) (named_operand s name)
  named_operand_law name = named_by name (names.intrinsic_named s name.text)

  member_row_law : (place : Place) (name : Name) (e : Expr) → IsTree (range entry s) e → Answers (IsMade (range entry s)) (member_row s place name e)
  member_row_law place name e h =
      answers_on (member_of s e.ctype place name) _ (member_of_law s fit e.ctype place name) (λ m is f.
      told _ (rows.member_law (range entry s) place e m.ctype m.offset (trees.value_of (range entry s) e h (has_member s fit e.ctype place name m is)) f))

  pub member_law : (place : Place) (name : Name) (e : Operand) → IsOperand (range entry s) e → Answers (IsOperand (range entry s)) (member_operand s place name e)
  member_law place name e h = whole_law (range entry s) e.first _ (answers_then (tree_of e) (member_row s place name) (tree_law (range entry s) e h) (λ x t. member_row_law place name x t))

  arrow_row_law : (place : Place) (name : Name) (p : Expr) → IsValue (range entry s) p → Answers (IsMade (range entry s)) (arrow_row s place name p)
  arrow_row_law place name p h = answers_cond (has_members (referenced p.ctype)) _ _
      (λ k. answers_then (dereferenced place p) (member_row s place name) (rows.dereferenced_law (range entry s) place p h) (λ x m. member_row_law place name x m.tree)) (λ k. silent)

  pub arrow_law : (place : Place) (name : Name) (p : Operand) → IsOperand (range entry s) p → Answers (IsOperand (range entry s)) (arrow_operand s place name p)
  arrow_law place name p h = whole_law (range entry s) p.first _ (answers_then (value_of p) (arrow_row s place name) (value_law (range entry s) p h) (λ x m. arrow_row_law place name x m.value))
