-- Each part takes tokens: declarations, statements and units.
use Rattle.std.proofs.Common.{ℕ, ◌<◌, ◌≤◌, List, length, Option, arith}
use Rattle.c_lex.specs.declared.token.Token.{Token}
use Rattle.c_ast.specs.declared.expr.Expr.{Expr}
use Rattle.c_ast.specs.declared.stmt.Initial.{Initial}
use Rattle.c_ast.specs.declared.stmt.Init.{Init}
use Rattle.c_ast.specs.declared.stmt.Decl.{Decl}
use Rattle.c_ast.specs.declared.stmt.First.{First}
use Rattle.c_ast.specs.declared.stmt.Label.{Label}
use Rattle.c_ast.specs.declared.stmt.Block.{Block}
use Rattle.c_ast.specs.declared.stmt.Item.{Item}
use Rattle.c_ast.specs.declared.stmt.Part.{Part}
use Rattle.c_ast.specs.declared.stmt.Stmt.{Stmt}
use Rattle.c_ast.specs.declared.stmt.Function.{Function}
use Rattle.c_grammar.specs.Units.{braced_initial, assign_initial, InitialAt, no_initial, next_initial, MoreInitials, init_value, init_plain, InitAt, no_init, next_init, MoreInits, bare_decl, inits_decl, DeclAt, an_expr, without_expr, OptExpr, first_decl, first_expr, FirstAt, case_label, default_label, LabelAt, braces, BlockAt, no_item, next_item, Items, decl_item, stmt_item, ItemAt, block_stmt, empty_stmt, return_stmt, break_stmt, continue_stmt, if_else, if_only, while_stmt, do_stmt, for_stmt, switch_stmt, expr_stmt, StmtAt, no_part, next_part, Parts, label_part, decl_part, stmt_part, PartAt, FunctionAt, a_function}
use Rattle.c_grammar.proofs.Shrinks.{next_shrinks, attrs_shrinks, opt_comma_shrinks, expr_shrinks, assign_shrinks, cond_shrinks, specs_shrinks, declarator_shrinks}

mutual
  pub initial_shrinks : {names : List (List ℕ)} {ts rest : List Token} {a : Initial} → InitialAt names ts a rest → length rest < length ts
  initial_shrinks (braced_initial d0 d1 d2 d3 d4) = omega (arith, next_shrinks d0, initial_shrinks d1, more_initials_shrinks d2, opt_comma_shrinks d3, next_shrinks d4)
  initial_shrinks (assign_initial d0) = omega (arith, assign_shrinks d0)

  pub more_initials_shrinks : {names : List (List ℕ)} {ts rest : List Token} {so_far all : List Initial} → MoreInitials names ts so_far all rest → length rest ≤ length ts
  more_initials_shrinks no_initial = omega arith
  more_initials_shrinks (next_initial d0 d1 m) = omega (arith, next_shrinks d0, initial_shrinks d1, more_initials_shrinks m)

pub init_shrinks : {names : List (List ℕ)} {ts rest : List Token} {a : Init} → InitAt names ts a rest → length rest < length ts
init_shrinks (init_value d0 d1 d2 d3) = omega (arith, declarator_shrinks d0, attrs_shrinks d1, next_shrinks d2, initial_shrinks d3)
init_shrinks (init_plain d0 d1) = omega (arith, declarator_shrinks d0, attrs_shrinks d1)

pub more_inits_shrinks : {names : List (List ℕ)} {ts rest : List Token} {so_far all : List Init} → MoreInits names ts so_far all rest → length rest ≤ length ts
more_inits_shrinks no_init = omega arith
more_inits_shrinks (next_init d0 d1 m) = omega (arith, next_shrinks d0, init_shrinks d1, more_inits_shrinks m)

pub decl_shrinks : {names : List (List ℕ)} {ts rest : List Token} {a : Decl} → DeclAt names ts a rest → length rest < length ts
decl_shrinks (bare_decl d0 d1) = omega (arith, specs_shrinks d0, next_shrinks d1)
decl_shrinks (inits_decl d0 d1 d2 d3) = omega (arith, specs_shrinks d0, init_shrinks d1, more_inits_shrinks d2, next_shrinks d3)

pub opt_expr_shrinks : {names : List (List ℕ)} {ts rest : List Token} {a : Option Expr} → OptExpr names ts a rest → length rest ≤ length ts
opt_expr_shrinks (an_expr d0) = omega (arith, expr_shrinks d0)
opt_expr_shrinks without_expr = omega arith

pub first_shrinks : {names : List (List ℕ)} {ts rest : List Token} {a : First} → FirstAt names ts a rest → length rest < length ts
first_shrinks (first_decl d0) = omega (arith, decl_shrinks d0)
first_shrinks (first_expr d0 d1) = omega (arith, opt_expr_shrinks d0, next_shrinks d1)

pub label_shrinks : {names : List (List ℕ)} {ts rest : List Token} {a : Label} → LabelAt names ts a rest → length rest < length ts
label_shrinks (case_label d0 d1 d2) = omega (arith, next_shrinks d0, cond_shrinks d1, next_shrinks d2)
label_shrinks (default_label d0 d1) = omega (arith, next_shrinks d0, next_shrinks d1)

mutual
  pub block_shrinks : {names : List (List ℕ)} {ts rest : List Token} {a : Block} → BlockAt names ts a rest → length rest < length ts
  block_shrinks (braces d0 d1 d2) = omega (arith, next_shrinks d0, items_shrinks d1, next_shrinks d2)

  pub items_shrinks : {names : List (List ℕ)} {ts rest : List Token} {so_far all : List Item} → Items names ts so_far all rest → length rest ≤ length ts
  items_shrinks no_item = omega arith
  items_shrinks (next_item d0 m) = omega (arith, item_shrinks d0, items_shrinks m)

  pub item_shrinks : {names : List (List ℕ)} {ts rest : List Token} {a : Item} → ItemAt names ts a rest → length rest < length ts
  item_shrinks (decl_item d0) = omega (arith, decl_shrinks d0)
  item_shrinks (stmt_item d0) = omega (arith, stmt_shrinks d0)

  pub stmt_shrinks : {names : List (List ℕ)} {ts rest : List Token} {a : Stmt} → StmtAt names ts a rest → length rest < length ts
  stmt_shrinks (block_stmt d0) = omega (arith, block_shrinks d0)
  stmt_shrinks (empty_stmt d0) = omega (arith, next_shrinks d0)
  stmt_shrinks (return_stmt d0 d1 d2) = omega (arith, next_shrinks d0, opt_expr_shrinks d1, next_shrinks d2)
  stmt_shrinks (break_stmt d0 d1) = omega (arith, next_shrinks d0, next_shrinks d1)
  stmt_shrinks (continue_stmt d0 d1) = omega (arith, next_shrinks d0, next_shrinks d1)
  stmt_shrinks (if_else d0 d1 d2 d3 d4 d5 d6) = omega (arith, next_shrinks d0, next_shrinks d1, expr_shrinks d2, next_shrinks d3, stmt_shrinks d4, next_shrinks d5, stmt_shrinks d6)
  stmt_shrinks (if_only d0 d1 d2 d3 d4 e0) = omega (arith, next_shrinks d0, next_shrinks d1, expr_shrinks d2, next_shrinks d3, stmt_shrinks d4)
  stmt_shrinks (while_stmt d0 d1 d2 d3 d4) = omega (arith, next_shrinks d0, next_shrinks d1, expr_shrinks d2, next_shrinks d3, stmt_shrinks d4)
  stmt_shrinks (do_stmt d0 d1 d2 d3 d4 d5 d6) = omega (arith, next_shrinks d0, stmt_shrinks d1, next_shrinks d2, next_shrinks d3, expr_shrinks d4, next_shrinks d5, next_shrinks d6)
  stmt_shrinks (for_stmt d0 d1 d2 d3 d4 d5 d6 d7) = omega (arith, next_shrinks d0, next_shrinks d1, first_shrinks d2, opt_expr_shrinks d3, next_shrinks d4, opt_expr_shrinks d5, next_shrinks d6, stmt_shrinks d7)
  stmt_shrinks (switch_stmt d0 d1 d2 d3 d4 d5 d6) = omega (arith, next_shrinks d0, next_shrinks d1, expr_shrinks d2, next_shrinks d3, next_shrinks d4, parts_shrinks d5, next_shrinks d6)
  stmt_shrinks (expr_stmt d0 d1) = omega (arith, expr_shrinks d0, next_shrinks d1)

  pub parts_shrinks : {names : List (List ℕ)} {ts rest : List Token} {so_far all : List Part} → Parts names ts so_far all rest → length rest ≤ length ts
  parts_shrinks no_part = omega arith
  parts_shrinks (next_part d0 m) = omega (arith, part_shrinks d0, parts_shrinks m)

  pub part_shrinks : {names : List (List ℕ)} {ts rest : List Token} {a : Part} → PartAt names ts a rest → length rest < length ts
  part_shrinks (label_part d0) = omega (arith, label_shrinks d0)
  part_shrinks (decl_part d0) = omega (arith, decl_shrinks d0)
  part_shrinks (stmt_part d0) = omega (arith, stmt_shrinks d0)

pub function_shrinks : {names : List (List ℕ)} {ts rest : List Token} {f : Function} → FunctionAt names ts f rest → length rest < length ts
function_shrinks (a_function d0 d1 d2 d3) = omega (arith, specs_shrinks d0, declarator_shrinks d1, attrs_shrinks d2, block_shrinks d3)
