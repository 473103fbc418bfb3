-- What initialisers, declarations and statements begin with.
use Rattle.std.proofs.Common.{Bool, List, [], false, not, refl, true, ℕ, ◌≡◌, ◌∷◌, ◌||◌}
use Rattle.std.specs.Option.{is_some}
use Rattle.cm_base.specs.declared.place.Place.{Place}
use Rattle.c_lex.specs.declared.token.Kind.{Kind}
use Rattle.c_lex.specs.declared.token.Token.{Token}
use Rattle.c_grammar.specs.declared.tokens.Sign.TheVariants.{Mark, Word}
use Rattle.c_ast.specs.declared.expr.Declarator.{Declarator}
use Rattle.c_ast.specs.declared.stmt.Initial.{Initial}
use Rattle.c_ast.specs.declared.stmt.Init.{Init}
use Rattle.c_ast.specs.declared.stmt.Decl.{Decl}
use Rattle.c_ast.specs.declared.stmt.Label.{Label}
use Rattle.c_ast.specs.declared.stmt.Block.{Block}
use Rattle.c_ast.specs.declared.stmt.Item.{Item}
use Rattle.c_ast.specs.declared.stmt.Part.{Part}
use Rattle.c_ast.specs.declared.stmt.Stmt.{Stmt}
use Rattle.c_grammar.specs.Tokens.{at, begins_expr, begins_initial, begins_label, begins_spec, begins_stmt, expr_token, has, include_by, include_of, initial_token, is, is_sign, known, label_token, next_is, spec_token, stmt_token}
use Rattle.c_grammar.specs.Grammar.{DeclaratorAt, Next}
use Rattle.c_grammar.specs.Units.{BlockAt, DeclAt, InitAt, InitialAt, ItemAt, LabelAt, PartAt, StmtAt, assign_initial, bare_decl, block_stmt, braced_initial, braces, break_stmt, case_label, continue_stmt, decl_item, decl_part, default_label, do_stmt, empty_stmt, expr_stmt, for_stmt, if_else, if_only, init_plain, init_value, inits_decl, label_part, return_stmt, stmt_item, stmt_part, switch_stmt, while_stmt}
use Rattle.c_grammar.specs.Reading.{in_braces}
use Rattle.grammar_laws.proofs.TypeBegins.{declarator_at, specs_begins}
use Rattle.grammar_laws.proofs.Steps.{next_test, other, sign_at}
use Rattle.grammar_laws.proofs.ExprBegins.{assign_begins, expr_begins}
use Rattle.c_lex.specs.declared.token.Keyword.TheVariants as word
use Rattle.c_lex.specs.declared.token.Punct.TheVariants as mark
use Rattle.c_lex.specs.declared.token.Kind.TheVariants as kind

or_later : (a b : Bool) → b ≡ true → (a || b) ≡ true
or_later true b h = refl
or_later false b h = h

-- what begins an expression begins an initialiser and a statement
pub expr_initial : (names : List (List ℕ)) (ts : List Token) → begins_expr names ts ≡ true → begins_initial names ts ≡ true
expr_initial names [] h = absurd cc
expr_initial names (k ∷ r) h = or_later _ (expr_token names k) h

pub expr_stmt_begins : (names : List (List ℕ)) (ts : List Token) → begins_expr names ts ≡ true → begins_stmt names ts ≡ true
expr_stmt_begins names [] h = absurd cc
expr_stmt_begins names (k ∷ r) h = or_later _ (expr_token names k) h

pub initial_begins : {names : List (List ℕ)} {ts rest : List Token} {a : Initial} → InitialAt names ts a rest → begins_initial names ts ≡ true
initial_begins {names = names} (braced_initial d0 d1 d2 d3 d4) = sign_at (initial_token names) true (λ q. refl) d0
initial_begins {names = names} {ts = ts} (assign_initial d0) = expr_initial names ts (assign_begins d0)

-- the words and marks that begin no expression
pub record NoExpr (k : Token) : Type 0 where
  pub no_open : is_sign (Mark mark.BraceOpen) k ≡ false
  pub no_close : is_sign (Mark mark.BraceClose) k ≡ false
  pub no_semicolon : is_sign (Mark mark.Semicolon) k ≡ false
  pub no_return : is_sign (Word word.Return) k ≡ false
  pub no_break : is_sign (Word word.Break) k ≡ false
  pub no_continue : is_sign (Word word.Continue) k ≡ false
  pub no_if : is_sign (Word word.If) k ≡ false
  pub no_while : is_sign (Word word.While) k ≡ false
  pub no_do : is_sign (Word word.Do) k ≡ false
  pub no_for : is_sign (Word word.For) k ≡ false
  pub no_switch : is_sign (Word word.Switch) k ≡ false
  pub no_label : label_token k ≡ false

expr_is_none : (names : List (List ℕ)) (q : Place) (c : Kind) → expr_token names (record { kind = c; place = q }) ≡ true → NoExpr (record { kind = c; place = q })
expr_is_none names q (kind.Mark mark.BraceOpen) h = absurd cc
expr_is_none names q (kind.Mark mark.BraceClose) h = absurd cc
expr_is_none names q (kind.Mark mark.Semicolon) h = absurd cc
expr_is_none names q (kind.Word word.Sizeof) h =
    record { no_open = refl; no_close = refl; no_semicolon = refl; no_return = refl; no_break = refl; no_continue = refl; no_if = refl; no_while = refl; no_do = refl; no_for = refl; no_switch = refl; no_label = refl }
expr_is_none names q (kind.Word _) h = absurd cc
expr_is_none names q _ h =
    record { no_open = refl; no_close = refl; no_semicolon = refl; no_return = refl; no_break = refl; no_continue = refl; no_if = refl; no_while = refl; no_do = refl; no_for = refl; no_switch = refl; no_label = refl }

-- so of the next token
pub expr_not : (names : List (List ℕ)) (ts : List Token) (test : Token → Bool) → ((k : Token) → NoExpr k → test k ≡ false) → begins_expr names ts ≡ true → at test ts ≡ false
expr_not names [] test f h = refl
expr_not names (k ∷ r) test f h = f k (expr_is_none names k.place k.kind h)

-- ---- declarations

-- what begins with a specifier begins with no "}" and no label
spec_is_none : (names : List (List ℕ)) (q : Place) (c : Kind) → spec_token names (record { kind = c; place = q }) ≡ true →
    (is c (Mark mark.BraceClose) ≡ false) × (label_token (record { kind = c; place = q }) ≡ false) × (is_some (include_by q c) ≡ false)
spec_is_none names q (kind.Mark _) h = absurd cc
spec_is_none names q (kind.Word word.Case) h = absurd cc
spec_is_none names q (kind.Word word.Default) h = absurd cc
spec_is_none names q (kind.Include x) h = absurd cc
spec_is_none names q _ h = (refl, refl, refl)

pub spec_no_close : (names : List (List ℕ)) (ts : List Token) → begins_spec names ts ≡ true → next_is (Mark mark.BraceClose) ts ≡ false
spec_no_close names [] h = refl
spec_no_close names (k ∷ r) h = (spec_is_none names k.place k.kind h).0

pub spec_no_label : (names : List (List ℕ)) (ts : List Token) → begins_spec names ts ≡ true → begins_label ts ≡ false
spec_no_label names [] h = refl
spec_no_label names (k ∷ r) h = (spec_is_none names k.place k.kind h).1

pub spec_no_include : (names : List (List ℕ)) (ts : List Token) → begins_spec names ts ≡ true → has include_of ts ≡ false
spec_no_include names [] h = refl
spec_no_include names (k ∷ r) h = (spec_is_none names k.place k.kind h).2

pub decl_begins : {names : List (List ℕ)} {ts rest : List Token} {a : Decl} → DeclAt names ts a rest → begins_spec names ts ≡ true
decl_begins (bare_decl d0 d1) = specs_begins d0
decl_begins (inits_decl d0 d1 d2 d3) = specs_begins d0

-- a declarator begins with no ";"
pub declarator_no_semicolon : {names : List (List ℕ)} {ts rest : List Token} {a : Declarator} → DeclaratorAt names ts a rest → next_is (Mark mark.Semicolon) ts ≡ false
declarator_no_semicolon d = declarator_at (is_sign (Mark mark.Semicolon)) false (λ q. refl) (λ q. refl) (λ q x h. refl) (λ q. refl) d

pub init_no_semicolon : {names : List (List ℕ)} {ts rest : List Token} {a : Init} → InitAt names ts a rest → next_is (Mark mark.Semicolon) ts ≡ false
init_no_semicolon (init_value d0 d1 d2 d3) = declarator_no_semicolon d0
init_no_semicolon (init_plain d0 d1) = declarator_no_semicolon d0

pub initial_no_close : {names : List (List ℕ)} {ts rest : List Token} {a : Initial} → InitialAt names ts a rest → next_is (Mark mark.BraceClose) ts ≡ false
initial_no_close (braced_initial d0 d1 d2 d3 d4) = other (Mark mark.BraceClose) d0 refl
initial_no_close {names = names} {ts = ts} (assign_initial d0) = expr_not names ts (is_sign (Mark mark.BraceClose)) (λ k h. h.no_close) (assign_begins d0)

-- ---- statements

pub block_at : {names : List (List ℕ)} {ts rest : List Token} {a : Block} (test : Token → Bool) (b : Bool) → ((q : Place) → test (record { kind = kind.Mark mark.BraceOpen; place = q }) ≡ b) → BlockAt names ts a rest → at test ts ≡ b
block_at test b h (braces d0 d1 d2) = sign_at test b h d0

pub stmt_begins : {names : List (List ℕ)} {ts rest : List Token} {a : Stmt} → StmtAt names ts a rest → begins_stmt names ts ≡ true
stmt_begins {names = names} (block_stmt d0) = block_at (stmt_token names) true (λ q. refl) d0
stmt_begins {names = names} (empty_stmt d0) = sign_at (stmt_token names) true (λ q. refl) d0
stmt_begins {names = names} (return_stmt d0 d1 d2) = sign_at (stmt_token names) true (λ q. refl) d0
stmt_begins {names = names} (break_stmt d0 d1) = sign_at (stmt_token names) true (λ q. refl) d0
stmt_begins {names = names} (continue_stmt d0 d1) = sign_at (stmt_token names) true (λ q. refl) d0
stmt_begins {names = names} (if_else d0 d1 d2 d3 d4 d5 d6) = sign_at (stmt_token names) true (λ q. refl) d0
stmt_begins {names = names} (if_only d0 d1 d2 d3 d4 h) = sign_at (stmt_token names) true (λ q. refl) d0
stmt_begins {names = names} (while_stmt d0 d1 d2 d3 d4) = sign_at (stmt_token names) true (λ q. refl) d0
stmt_begins {names = names} (do_stmt d0 d1 d2 d3 d4 d5 d6) = sign_at (stmt_token names) true (λ q. refl) d0
stmt_begins {names = names} (for_stmt d0 d1 d2 d3 d4 d5 d6 d7) = sign_at (stmt_token names) true (λ q. refl) d0
stmt_begins {names = names} (switch_stmt d0 d1 d2 d3 d4 d5 d6) = sign_at (stmt_token names) true (λ q. refl) d0
stmt_begins {names = names} {ts = ts} (expr_stmt d0 d1) = expr_stmt_begins names ts (expr_begins d0)

-- what begins a statement is no specifier, no "}" and no label
stmt_is_none : (names : List (List ℕ)) (q : Place) (c : Kind) → stmt_token names (record { kind = c; place = q }) ≡ true →
    (spec_token names (record { kind = c; place = q }) ≡ false) × (is c (Mark mark.BraceClose) ≡ false) × (label_token (record { kind = c; place = q }) ≡ false)
stmt_is_none names q (kind.Mark mark.BraceClose) h = absurd cc
stmt_is_none names q (kind.Mark _) h = (refl, refl, refl)
stmt_is_none names q (kind.Word word.Sizeof) h = (refl, refl, refl)
stmt_is_none names q (kind.Word word.Return) h = (refl, refl, refl)
stmt_is_none names q (kind.Word word.Break) h = (refl, refl, refl)
stmt_is_none names q (kind.Word word.Continue) h = (refl, refl, refl)
stmt_is_none names q (kind.Word word.If) h = (refl, refl, refl)
stmt_is_none names q (kind.Word word.While) h = (refl, refl, refl)
stmt_is_none names q (kind.Word word.Do) h = (refl, refl, refl)
stmt_is_none names q (kind.Word word.For) h = (refl, refl, refl)
stmt_is_none names q (kind.Word word.Switch) h = (refl, refl, refl)
stmt_is_none names q (kind.Word _) h = absurd cc
stmt_is_none names q (kind.Name x) h = (by_known (known names x) h, refl, refl)
  where
    by_known : (b : Bool) → (not b || false || false || false || false || false) ≡ true → (false || false || false || false || b) ≡ false
    by_known true h = absurd cc
    by_known false h = refl
stmt_is_none names q _ h = (refl, refl, refl)

pub stmt_no_spec : (names : List (List ℕ)) (ts : List Token) → begins_stmt names ts ≡ true → begins_spec names ts ≡ false
stmt_no_spec names [] h = refl
stmt_no_spec names (k ∷ r) h = (stmt_is_none names k.place k.kind h).0

pub stmt_no_close : (names : List (List ℕ)) (ts : List Token) → begins_stmt names ts ≡ true → next_is (Mark mark.BraceClose) ts ≡ false
stmt_no_close names [] h = refl
stmt_no_close names (k ∷ r) h = (stmt_is_none names k.place k.kind h).1

pub stmt_no_label : (names : List (List ℕ)) (ts : List Token) → begins_stmt names ts ≡ true → begins_label ts ≡ false
stmt_no_label names [] h = refl
stmt_no_label names (k ∷ r) h = (stmt_is_none names k.place k.kind h).2

-- ---- labels

pub label_begins : {names : List (List ℕ)} {ts rest : List Token} {a : Label} → LabelAt names ts a rest → begins_label ts ≡ true
label_begins (case_label d0 d1 d2) = sign_at label_token true (λ q. refl) d0
label_begins (default_label d0 d1) = sign_at label_token true (λ q. refl) d0

pub label_no_close : {names : List (List ℕ)} {ts rest : List Token} {a : Label} → LabelAt names ts a rest → next_is (Mark mark.BraceClose) ts ≡ false
label_no_close (case_label d0 d1 d2) = other (Mark mark.BraceClose) d0 refl
label_no_close (default_label d0 d1) = other (Mark mark.BraceClose) d0 refl

-- ---- items and parts

pub no_close_in : (ts : List Token) → next_is (Mark mark.BraceClose) ts ≡ false → in_braces ts ≡ true
no_close_in ts h = rw h refl

pub close_in : {ts r : List Token} {c : Place} → Next (Mark mark.BraceClose) ts c r → in_braces ts ≡ false
close_in d = rw (next_test d) refl

pub item_in : {names : List (List ℕ)} {ts rest : List Token} {a : Item} → ItemAt names ts a rest → in_braces ts ≡ true
item_in {names = names} {ts = ts} (decl_item d0) = no_close_in ts (spec_no_close names ts (decl_begins d0))
item_in {names = names} {ts = ts} (stmt_item d0) = no_close_in ts (stmt_no_close names ts (stmt_begins d0))

pub part_in : {names : List (List ℕ)} {ts rest : List Token} {a : Part} → PartAt names ts a rest → in_braces ts ≡ true
part_in {ts = ts} (label_part d0) = no_close_in ts (label_no_close d0)
part_in {names = names} {ts = ts} (decl_part d0) = no_close_in ts (spec_no_close names ts (decl_begins d0))
part_in {names = names} {ts = ts} (stmt_part d0) = no_close_in ts (stmt_no_close names ts (stmt_begins d0))
