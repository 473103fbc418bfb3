-- What it is that a reader of declarations and statements answers what derives.
use Rattle.std.proofs.Common.{List, Option, ℕ}
use Rattle.c_lex.specs.declared.token.Token.{Token}
use Rattle.c_grammar.specs.declared.tokens.Sign.TheVariants.{Mark}
use Rattle.c_ast.specs.declared.expr.Expr.{Expr}
use Rattle.c_ast.specs.declared.stmt.Initial.{Initial}
use Rattle.c_ast.specs.declared.stmt.Init.{Init}
use Rattle.c_ast.specs.declared.stmt.Decl.{Decl}
use Rattle.c_ast.specs.declared.stmt.First.{First}
use Rattle.c_ast.specs.declared.stmt.Label.{Label}
use Rattle.c_ast.specs.declared.stmt.Block.{Block}
use Rattle.c_ast.specs.declared.stmt.Item.{Item}
use Rattle.c_ast.specs.declared.stmt.Part.{Part}
use Rattle.c_ast.specs.declared.stmt.Stmt.{Stmt}
use Rattle.c_grammar.specs.Tokens.{comma_more, next_is}
use Rattle.c_grammar.specs.Units.{BlockAt, DeclAt, FirstAt, InitAt, InitialAt, ItemAt, Items, LabelAt, MoreInitials, MoreInits, OptExpr, PartAt, Parts, StmtAt}
use Rattle.c_grammar.specs.Reading.{in_braces, levels, read_block, read_decl, read_first, read_init, read_init_item, read_initial_item, read_item, read_item_item, read_label, read_opt_expr, read_part, read_part_item, repeat}
use Rattle.c_grammar.specs.Nesting.{deep_block, deep_decl, deep_first, deep_init, deep_initial, deep_item, deep_items, deep_label, deep_more_initials, deep_more_inits, deep_opt_expr, deep_part, deep_parts, deep_stmt}
use Rattle.grammar_laws.proofs.Steps.{Answers}
use Rattle.c_lex.specs.declared.token.Punct.TheVariants as mark

abbrev pub InitialReads : {names : List (List ℕ)} {ts rest : List Token} {a : Initial} → InitialAt names ts a rest → ℕ → Type 0
InitialReads {names = names} {ts = ts} {rest = rest} {a = a} d n = Answers ((levels names n).initials ts) (deep_initial d n) (a, rest)

abbrev pub InitReads : {names : List (List ℕ)} {ts rest : List Token} {a : Init} → InitAt names ts a rest → ℕ → Type 0
InitReads {names = names} {ts = ts} {rest = rest} {a = a} d n = Answers (read_init names (levels names n) ts) (deep_init d n) (a, rest)

abbrev pub DeclReads : {names : List (List ℕ)} {ts rest : List Token} {a : Decl} → DeclAt names ts a rest → ℕ → Type 0
DeclReads {names = names} {ts = ts} {rest = rest} {a = a} d n = Answers (read_decl names (levels names n) ts) (deep_decl d n) (a, rest)

abbrev pub OptExprReads : {names : List (List ℕ)} {ts rest : List Token} {a : Option Expr} → OptExpr names ts a rest → ℕ → Type 0
OptExprReads {names = names} {ts = ts} {rest = rest} {a = a} d n = Answers (read_opt_expr names (levels names n) ts) (deep_opt_expr d n) (a, rest)

abbrev pub FirstReads : {names : List (List ℕ)} {ts rest : List Token} {a : First} → FirstAt names ts a rest → ℕ → Type 0
FirstReads {names = names} {ts = ts} {rest = rest} {a = a} d n = Answers (read_first names (levels names n) ts) (deep_first d n) (a, rest)

abbrev pub LabelReads : {names : List (List ℕ)} {ts rest : List Token} {a : Label} → LabelAt names ts a rest → ℕ → Type 0
LabelReads {names = names} {ts = ts} {rest = rest} {a = a} d n = Answers (read_label names (levels names n) ts) (deep_label d n) (a, rest)

abbrev pub BlockReads : {names : List (List ℕ)} {ts rest : List Token} {a : Block} → BlockAt names ts a rest → ℕ → Type 0
BlockReads {names = names} {ts = ts} {rest = rest} {a = a} d n = Answers (read_block names (levels names n) ts) (deep_block d n) (a, rest)

abbrev pub ItemReads : {names : List (List ℕ)} {ts rest : List Token} {a : Item} → ItemAt names ts a rest → ℕ → Type 0
ItemReads {names = names} {ts = ts} {rest = rest} {a = a} d n = Answers (read_item names (levels names n) ts) (deep_item d n) (a, rest)

abbrev pub StmtReads : {names : List (List ℕ)} {ts rest : List Token} {a : Stmt} → StmtAt names ts a rest → ℕ → Type 0
StmtReads {names = names} {ts = ts} {rest = rest} {a = a} d n = Answers ((levels names n).stmts ts) (deep_stmt d n) (a, rest)

abbrev pub PartReads : {names : List (List ℕ)} {ts rest : List Token} {a : Part} → PartAt names ts a rest → ℕ → Type 0
PartReads {names = names} {ts = ts} {rest = rest} {a = a} d n = Answers (read_part names (levels names n) ts) (deep_part d n) (a, rest)

abbrev pub MoreInitialsReads : {names : List (List ℕ)} {ts rest : List Token} {so_far all : List Initial} → MoreInitials names ts so_far all rest → ℕ → ℕ → Type 0
MoreInitialsReads {names = names} {ts = ts} {rest = rest} {so_far = so_far} {all = all} d n fuel = Answers (repeat comma_more (read_initial_item names (levels names n)) fuel so_far ts) (deep_more_initials d n) (all, rest)

abbrev pub MoreInitsReads : {names : List (List ℕ)} {ts rest : List Token} {so_far all : List Init} → MoreInits names ts so_far all rest → ℕ → ℕ → Type 0
MoreInitsReads {names = names} {ts = ts} {rest = rest} {so_far = so_far} {all = all} d n fuel = Answers (repeat (next_is (Mark mark.Comma)) (read_init_item names (levels names n)) fuel so_far ts) (deep_more_inits d n) (all, rest)

abbrev pub ItemsReads : {names : List (List ℕ)} {ts rest : List Token} {so_far all : List Item} → Items names ts so_far all rest → ℕ → ℕ → Type 0
ItemsReads {names = names} {ts = ts} {rest = rest} {so_far = so_far} {all = all} d n fuel = Answers (repeat in_braces (read_item_item names (levels names n)) fuel so_far ts) (deep_items d n) (all, rest)

abbrev pub PartsReads : {names : List (List ℕ)} {ts rest : List Token} {so_far all : List Part} → Parts names ts so_far all rest → ℕ → ℕ → Type 0
PartsReads {names = names} {ts = ts} {rest = rest} {so_far = so_far} {all = all} d n fuel = Answers (repeat in_braces (read_part_item names (levels names n)) fuel so_far ts) (deep_parts d n) (all, rest)
