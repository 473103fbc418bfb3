-- What derives is read: initialisers, declarations and statements.
use Rattle.std.proofs.Common.{Bool, List, Option, arith, false, length, refl, suc, zero, ℕ, ◌≡◌, ◌<◌, ◌≤◌}
use Rattle.cm_base.specs.declared.place.Place.{Place}
use Rattle.c_lex.specs.declared.token.Token.{Token}
use Rattle.c_grammar.specs.declared.tokens.Sign.TheVariants.{Mark, Word}
use Rattle.c_ast.specs.declared.expr.Expr.{Expr}
use Rattle.c_ast.specs.declared.stmt.Initial.{Initial}
use Rattle.c_ast.specs.declared.stmt.Init.{Init}
use Rattle.c_ast.specs.declared.stmt.Decl.{Decl}
use Rattle.c_ast.specs.declared.stmt.First.{First}
use Rattle.c_ast.specs.declared.stmt.Label.{Label}
use Rattle.c_ast.specs.declared.stmt.Block.{Block}
use Rattle.c_ast.specs.declared.stmt.Item.{Item}
use Rattle.c_ast.specs.declared.stmt.Part.{Part}
use Rattle.c_ast.specs.declared.stmt.Stmt.{Stmt}
use Rattle.c_grammar.specs.Tokens.{at, begins_expr, comma_more, expr_token, is_sign, next_is}
use Rattle.c_grammar.specs.Grammar.{ExprAt, Next}
use Rattle.c_grammar.specs.Units.{BlockAt, DeclAt, FirstAt, InitAt, InitialAt, ItemAt, Items, LabelAt, MoreInitials, MoreInits, OptExpr, PartAt, Parts, StmtAt, an_expr, assign_initial, bare_decl, block_stmt, braced_initial, braces, break_stmt, case_label, continue_stmt, decl_item, decl_part, default_label, do_stmt, empty_stmt, expr_stmt, first_decl, first_expr, for_stmt, if_else, if_only, init_plain, init_value, inits_decl, label_part, next_init, next_initial, next_item, next_part, no_init, no_initial, no_item, no_part, return_stmt, stmt_item, stmt_part, switch_stmt, while_stmt, without_expr}
use Rattle.c_grammar.specs.Reading.{in_braces}
use Rattle.grammar_laws.specs.Follow.{follow}
use Rattle.grammar_laws.proofs.Complete.{assign_read, cond_read, declarator_read, expr_read, specs_read}
use Rattle.grammar_laws.proofs.Answered.{ExprReads}
use Rattle.grammar_laws.proofs.StmtSteps.{an_expr_by, assign_initial_by, bare_by, block_by, braced_by, braces_by, break_by, case_by, continue_by, decl_item_by, decl_part_by, default_by, do_by, empty_by, expr_stmt_by, first_decl_by, first_expr_by, for_by, if_else_by, if_only_by, init_plain_by, init_value_by, initial_deep, inits_by, items_end, items_turn, label_part_by, more_initials_end, more_initials_turn, more_inits_end, more_inits_turn, parts_end, parts_turn, return_by, stmt_deep, stmt_item_by, stmt_part_by, switch_by, while_by, without_expr_by}
use Rattle.grammar_laws.proofs.StmtBegins.{close_in}
use Rattle.grammar_laws.proofs.UnitAnswered.{BlockReads, DeclReads, FirstReads, InitReads, InitialReads, ItemReads, ItemsReads, LabelReads, MoreInitialsReads, MoreInitsReads, OptExprReads, PartReads, PartsReads, StmtReads}
use Rattle.grammar_laws.proofs.Steps.{next_follow, not_next, other, sign_at}
use Rattle.grammar_laws.proofs.Attributes.{attrs_follow, no_more, opt_comma_follow}
use Rattle.c_lex.specs.declared.token.Keyword.TheVariants as word
use Rattle.c_lex.specs.declared.token.Punct.TheVariants as mark
use Rattle.c_lex.specs.declared.token.Kind.TheVariants as kind

more_initials_follow : {names : List (List ℕ)} {ts rest : List Token} {so_far all : List Initial} → MoreInitials names ts so_far all rest → follow rest < 2 → follow ts < 2
more_initials_follow no_initial lt = lt
more_initials_follow (next_initial d0 d1 m) lt = omega (arith, next_follow d0)

mutual
  pub initial_read : {names : List (List ℕ)} {ts rest : List Token} {a : Initial} (d : InitialAt names ts a rest) (n : ℕ) → follow rest < 2 → InitialReads d n
  initial_read d zero stop = initial_deep d
  initial_read (braced_initial {r3 = r3} d0 d1 d2 d3 d4) (suc n) stop =
      let last : follow r3 < 2 = opt_comma_follow d3 (omega (arith, next_follow d4)) in
      braced_by d0 d1 d2 d3 d4 n (initial_read d1 n (more_initials_follow d2 last)) (more_initials_read d2 n last (no_more d3 d4) _ (omega arith))
  initial_read (assign_initial d0) (suc n) stop = assign_initial_by d0 n (assign_read d0 n stop)

  pub more_initials_read : {names : List (List ℕ)} {ts rest : List Token} {so_far all : List Initial} (d : MoreInitials names ts so_far all rest) (n : ℕ) → follow rest < 2 → comma_more rest ≡ false → (fuel : ℕ) → length ts ≤ fuel → MoreInitialsReads d n fuel
  more_initials_read {names = names} {ts = ts} {so_far = so_far} no_initial n stop last fuel fits = more_initials_end names ts so_far n fuel last
  more_initials_read {so_far = so_far} (next_initial d0 d1 m) n stop last fuel fits = more_initials_turn so_far d0 d1 m n fuel (initial_read d1 n (more_initials_follow m stop)) fits (λ f h. more_initials_read m n stop last f h)

-- ---- declarations

-- what follows an init: "," or ";"
pub more_inits_at : {names : List (List ℕ)} {ts rest r : List Token} {so_far all : List Init} {c : Place} (test : Token → Bool) (b : Bool) → ((q : Place) → test (record { kind = kind.Mark mark.Comma; place = q }) ≡ b) →
    ((q : Place) → test (record { kind = kind.Mark mark.Semicolon; place = q }) ≡ b) → MoreInits names ts so_far all rest → Next (Mark mark.Semicolon) rest c r → at test ts ≡ b
more_inits_at test b h1 h2 no_init c = sign_at test b h2 c
more_inits_at test b h1 h2 (next_init d0 d1 m) c = sign_at test b h1 d0

pub more_inits_follow : {names : List (List ℕ)} {ts rest r : List Token} {so_far all : List Init} {c : Place} → MoreInits names ts so_far all rest → Next (Mark mark.Semicolon) rest c r → follow ts < 2
more_inits_follow no_init c = omega (arith, next_follow c)
more_inits_follow (next_init d0 d1 m) c = omega (arith, next_follow d0)

pub more_inits_no_attr : {names : List (List ℕ)} {ts rest r : List Token} {so_far all : List Init} {c : Place} → MoreInits names ts so_far all rest → Next (Mark mark.Semicolon) rest c r → next_is (Word word.Attribute) ts ≡ false
more_inits_no_attr m c = more_inits_at (is_sign (Word word.Attribute)) false (λ q. refl) (λ q. refl) m c

wide : (ts : List Token) → follow ts < 2 → follow ts < 14
wide ts lt = omega arith

pub init_read : {names : List (List ℕ)} {ts rest : List Token} {a : Init} (d : InitAt names ts a rest) (n : ℕ) → follow rest < 2 → next_is (Word word.Attribute) rest ≡ false → InitReads d n
init_read (init_value d0 d1 d2 d3) n stop plain = init_value_by d0 d1 d2 d3 n (declarator_read d0 n (attrs_follow d1 (omega (arith, next_follow d2)))) (initial_read d3 n stop)
init_read {rest = rest} (init_plain d0 d1) n stop plain = init_plain_by d0 d1 n plain (not_next (Mark mark.Assign) rest stop) (declarator_read d0 n (attrs_follow d1 (wide rest stop)))

pub more_inits_read : {names : List (List ℕ)} {ts rest r : List Token} {so_far all : List Init} {c : Place} (d : MoreInits names ts so_far all rest) (n : ℕ) → Next (Mark mark.Semicolon) rest c r → (fuel : ℕ) → length ts ≤ fuel → MoreInitsReads d n fuel
more_inits_read {names = names} {ts = ts} {so_far = so_far} no_init n stop fuel fits = more_inits_end names ts so_far n fuel (other (Mark mark.Comma) stop refl)
more_inits_read {so_far = so_far} (next_init d0 d1 m) n stop fuel fits =
    more_inits_turn so_far d0 d1 m n fuel (init_read d1 n (more_inits_follow m stop) (more_inits_no_attr m stop)) fits (λ f h. more_inits_read m n stop f h)

pub decl_read : {names : List (List ℕ)} {ts rest : List Token} {a : Decl} (d : DeclAt names ts a rest) (n : ℕ) → DeclReads d n
decl_read (bare_decl d0 d1) n = bare_by d0 d1 n (specs_read d0 n)
decl_read (inits_decl d0 d1 d2 d3) n = inits_by d0 d1 d2 d3 n (specs_read d0 n) (init_read d1 n (more_inits_follow d2 d3) (more_inits_no_attr d2 d3)) (more_inits_read d2 n d3 _ (omega arith))

-- ---- the parts of statements

pub opt_expr_read : {names : List (List ℕ)} {ts rest : List Token} {a : Option Expr} (d : OptExpr names ts a rest) (n : ℕ) → follow rest < 1 → begins_expr names rest ≡ false → OptExprReads d n
opt_expr_read (an_expr d0) n stop none = an_expr_by d0 n (expr_read d0 n stop)
opt_expr_read {names = names} {ts = ts} without_expr n stop none = without_expr_by names ts n none

-- an expression, if any, before a ";"
opt_before : {names : List (List ℕ)} {ts r1 rest : List Token} {a : Option Expr} {c : Place} (d : OptExpr names ts a r1) (n : ℕ) → Next (Mark mark.Semicolon) r1 c rest → OptExprReads d n
opt_before {names = names} d n c = opt_expr_read d n (omega (arith, next_follow c)) (sign_at (expr_token names) false (λ q. refl) c)

pub first_read : {names : List (List ℕ)} {ts rest : List Token} {a : First} (d : FirstAt names ts a rest) (n : ℕ) → FirstReads d n
first_read (first_decl d0) n = first_decl_by d0 n (decl_read d0 n)
first_read (first_expr d0 d1) n = first_expr_by d0 d1 n (opt_before d0 n d1)

pub label_read : {names : List (List ℕ)} {ts rest : List Token} {a : Label} (d : LabelAt names ts a rest) (n : ℕ) → LabelReads d n
label_read (case_label d0 d1 d2) n = case_by d0 d1 d2 n (cond_read d1 n (omega (arith, next_follow d2)))
label_read {names = names} (default_label d0 d1) n = default_by names d0 d1 n

-- an expression before a ")"
before_close : {names : List (List ℕ)} {ts r1 rest : List Token} {a : Expr} {c : Place} (d : ExprAt names ts a r1) (n : ℕ) → Next (Mark mark.ParenClose) r1 c rest → ExprReads d n
before_close d n c = expr_read d n (omega (arith, next_follow c))

-- ---- statements

mutual
  pub block_read : {names : List (List ℕ)} {ts rest : List Token} {a : Block} (d : BlockAt names ts a rest) (n : ℕ) → BlockReads d n
  block_read (braces d0 d1 d2) n = braces_by d0 d1 d2 n (items_read d1 n (close_in d2) _ (omega arith))

  pub items_read : {names : List (List ℕ)} {ts rest : List Token} {so_far all : List Item} (d : Items names ts so_far all rest) (n : ℕ) → in_braces rest ≡ false → (fuel : ℕ) → length ts ≤ fuel → ItemsReads d n fuel
  items_read {names = names} {ts = ts} {so_far = so_far} no_item n stop fuel fits = items_end names ts so_far n fuel stop
  items_read {so_far = so_far} (next_item d0 m) n stop fuel fits = items_turn so_far d0 m n fuel (item_read d0 n) fits (λ f h. items_read m n stop f h)

  pub item_read : {names : List (List ℕ)} {ts rest : List Token} {a : Item} (d : ItemAt names ts a rest) (n : ℕ) → ItemReads d n
  item_read (decl_item d0) n = decl_item_by d0 n (decl_read d0 n)
  item_read (stmt_item d0) n = stmt_item_by d0 n (stmt_read d0 n)

  pub stmt_read : {names : List (List ℕ)} {ts rest : List Token} {a : Stmt} (d : StmtAt names ts a rest) (n : ℕ) → StmtReads d n
  stmt_read d zero = stmt_deep d
  stmt_read (block_stmt d0) (suc n) = block_by d0 n (block_read d0 n)
  stmt_read {names = names} (empty_stmt d0) (suc n) = empty_by names d0 n
  stmt_read (return_stmt d0 d1 d2) (suc n) = return_by d0 d1 d2 n (opt_before d1 n d2)
  stmt_read {names = names} (break_stmt d0 d1) (suc n) = break_by names d0 d1 n
  stmt_read {names = names} (continue_stmt d0 d1) (suc n) = continue_by names d0 d1 n
  stmt_read (if_else d0 d1 d2 d3 d4 d5 d6) (suc n) = if_else_by d0 d1 d2 d3 d4 d5 d6 n (before_close d2 n d3) (stmt_read d4 n) (stmt_read d6 n)
  stmt_read (if_only d0 d1 d2 d3 d4 h) (suc n) = if_only_by d0 d1 d2 d3 d4 h n (before_close d2 n d3) (stmt_read d4 n)
  stmt_read (while_stmt d0 d1 d2 d3 d4) (suc n) = while_by d0 d1 d2 d3 d4 n (before_close d2 n d3) (stmt_read d4 n)
  stmt_read (do_stmt d0 d1 d2 d3 d4 d5 d6) (suc n) = do_by d0 d1 d2 d3 d4 d5 d6 n (stmt_read d1 n) (before_close d4 n d5)
  stmt_read {names = names} (for_stmt d0 d1 d2 d3 d4 d5 d6 d7) (suc n) =
      for_by d0 d1 d2 d3 d4 d5 d6 d7 n (first_read d2 n) (opt_before d3 n d4) (opt_expr_read d5 n (omega (arith, next_follow d6)) (sign_at (expr_token names) false (λ q. refl) d6)) (stmt_read d7 n)
  stmt_read (switch_stmt d0 d1 d2 d3 d4 d5 d6) (suc n) = switch_by d0 d1 d2 d3 d4 d5 d6 n (before_close d2 n d3) (parts_read d5 n (close_in d6) _ (omega arith))
  stmt_read (expr_stmt d0 d1) (suc n) = expr_stmt_by d0 d1 n (expr_read d0 n (omega (arith, next_follow d1)))

  pub parts_read : {names : List (List ℕ)} {ts rest : List Token} {so_far all : List Part} (d : Parts names ts so_far all rest) (n : ℕ) → in_braces rest ≡ false → (fuel : ℕ) → length ts ≤ fuel → PartsReads d n fuel
  parts_read {names = names} {ts = ts} {so_far = so_far} no_part n stop fuel fits = parts_end names ts so_far n fuel stop
  parts_read {so_far = so_far} (next_part d0 m) n stop fuel fits = parts_turn so_far d0 m n fuel (part_read d0 n) fits (λ f h. parts_read m n stop f h)

  pub part_read : {names : List (List ℕ)} {ts rest : List Token} {a : Part} (d : PartAt names ts a rest) (n : ℕ) → PartReads d n
  part_read (label_part d0) n = label_part_by d0 n (label_read d0 n)
  part_read (decl_part d0) n = decl_part_by d0 n (decl_read d0 n)
  part_read (stmt_part d0) n = stmt_part_by d0 n (stmt_read d0 n)
