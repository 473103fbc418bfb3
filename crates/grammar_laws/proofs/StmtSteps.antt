-- What a reader of declarations and statements answers, from what the readers that it calls answer: one law for each alternative.
use Rattle.std.proofs.Common.{Bool, List, Ok, Option, [], arith, false, length, refl, suc, true, ℕ, ◌≡◌, ◌≤◌, ◌∷◌, ◌++◌, if◌then◌else◌}
use Rattle.cm_base.specs.declared.place.Place.{Place}
use Rattle.c_lex.specs.declared.token.Keyword.{Keyword}
use Rattle.c_lex.specs.declared.token.Token.{Token}
use Rattle.c_grammar.specs.declared.tokens.Sign.TheVariants.{Mark, Word}
use Rattle.c_ast.specs.declared.expr.Attr.{Attr}
use Rattle.c_ast.specs.declared.expr.Expr.{Expr}
use Rattle.c_ast.specs.declared.expr.Spec.{Spec}
use Rattle.c_ast.specs.declared.expr.Declarator.{Declarator}
use Rattle.c_ast.specs.declared.stmt.Initial.{Initial}
use Rattle.c_ast.specs.declared.stmt.Init.{Init}
use Rattle.c_ast.specs.declared.stmt.Decl.{Decl}
use Rattle.c_ast.specs.declared.stmt.First.{First}
use Rattle.c_ast.specs.declared.stmt.Label.{Label}
use Rattle.c_ast.specs.declared.stmt.Block.{Block}
use Rattle.c_ast.specs.declared.stmt.Item.{Item}
use Rattle.c_ast.specs.declared.stmt.Part.{Part}
use Rattle.c_ast.specs.declared.stmt.Stmt.{Stmt}
use Rattle.c_grammar.specs.Tokens.{begins_expr, begins_spec, comma_more, expect, is, is_sign, next_is, spec_token, ◌>>=◌}
use Rattle.c_grammar.specs.Grammar.{Assign, Attrs, Cond, DeclaratorAt, ExprAt, Next, OptComma, SpecsAt}
use Rattle.c_grammar.specs.Units.{BlockAt, DeclAt, FirstAt, InitAt, InitialAt, ItemAt, Items, LabelAt, MoreInitials, MoreInits, OptExpr, PartAt, Parts, StmtAt, an_expr, assign_initial, bare_decl, block_stmt, braced_initial, braces, break_stmt, case_label, continue_stmt, decl_item, decl_part, default_label, do_stmt, empty_stmt, expr_stmt, first_decl, first_expr, for_stmt, if_else, if_only, init_plain, init_value, inits_decl, label_part, next_init, next_initial, next_item, next_part, no_init, no_initial, no_item, no_part, return_stmt, stmt_item, stmt_part, switch_stmt, while_stmt, without_expr}
use Rattle.c_grammar.specs.Reading.{Readers, in_braces, levels, read_attrs, read_block, read_braced_initial, read_case_label, read_decl, read_do_stmt, read_expr, read_first, read_for_stmt, read_if_else, read_if_stmt, read_init, read_init_end, read_init_item, read_init_value, read_initial, read_initial_item, read_inits_decl, read_item, read_item_item, read_items, read_label, read_more_initials, read_more_inits, read_opt_expr, read_part, read_part_item, read_parts, read_return_stmt, read_stmt, read_switch_stmt, read_while_stmt}
use Rattle.c_grammar.specs.Nesting.{deep_block, deep_decl, deep_first, deep_init, deep_initial, deep_label, deep_more_inits, deep_opt_expr}
use Rattle.c_grammar.proofs.Shrinks.{next_shrinks}
use Rattle.c_grammar.proofs.UnitShrinks.{init_shrinks, initial_shrinks, item_shrinks, part_shrinks}
use Rattle.grammar_laws.proofs.First.{not_spec}
use Rattle.grammar_laws.proofs.Answered.{AssignReads, CondReads, DeclaratorReads, ExprReads, SpecsReads}
use Rattle.grammar_laws.proofs.StmtBegins.{block_at, decl_begins, expr_not, init_no_semicolon, initial_begins, initial_no_close, item_in, label_begins, part_in, spec_no_label, stmt_begins, stmt_no_label, stmt_no_spec}
use Rattle.grammar_laws.proofs.UnitAnswered.{BlockReads, DeclReads, FirstReads, InitReads, InitialReads, ItemReads, ItemsReads, LabelReads, MoreInitialsReads, MoreInitsReads, OptExprReads, PartReads, PartsReads, StmtReads}
use Rattle.grammar_laws.proofs.Steps.{Answers, and_last, and_so, done, ends, if_not, if_so, next_expect, next_test, other, sign_at, step, too_deep, turns}
use Rattle.grammar_laws.proofs.ExprBegins.{assign_begins, expr_begins}
use Rattle.grammar_laws.proofs.Attributes.{attrs_read, one_more, opt_comma_read}
use Rattle.c_lex.specs.declared.token.Keyword.TheVariants as word
use Rattle.c_lex.specs.declared.token.Punct.TheVariants as mark
use Rattle.c_lex.specs.declared.token.Kind.TheVariants as kind
use Rattle.c_ast.specs.declared.stmt.Stmt.TheVariants as stmt

-- ---- initialisers

pub initial_deep : {names : List (List ℕ)} {ts rest : List Token} {a : Initial} (d : InitialAt names ts a rest) → InitialReads d 0
unfolding levels deep_initial
initial_deep d = too_deep _ (initial_begins d)

pub braced_by : {names : List (List ℕ)} {ts r1 r2 r3 r4 rest : List Token} {p c : Place} {x : Initial} {xs : List Initial} {b : Bool}
    (d0 : Next (Mark mark.BraceOpen) ts p r1) (d1 : InitialAt names r1 x r2) (d2 : MoreInitials names r2 (x ∷ []) xs r3) (d3 : OptComma r3 b r4) (d4 : Next (Mark mark.BraceClose) r4 c rest) (n : ℕ) →
    InitialReads d1 n → MoreInitialsReads d2 n (length r2) → InitialReads (braced_initial d0 d1 d2 d3 d4) (suc n)
unfolding levels read_initial read_braced_initial read_more_initials deep_initial
braced_by d0 d1 d2 d3 d4 n p q = if_so _ (next_test d0) (step _ (next_expect d0) (and_so _ p (and_last _ q (and_last _ (opt_comma_read d3 (other (Mark mark.Comma) d4 refl)) (step _ (next_expect d4) done)))))

pub assign_initial_by : {names : List (List ℕ)} {ts rest : List Token} {e : Expr} (d0 : Assign names ts e rest) (n : ℕ) → AssignReads d0 n → InitialReads (assign_initial d0) (suc n)
unfolding levels read_initial deep_initial
assign_initial_by {names = names} {ts = ts} d0 n p = if_not _ (expr_not names ts (is_sign (Mark mark.BraceOpen)) (λ k h. h.no_open) (assign_begins d0)) (and_last _ p done)

pub more_initials_turn : {names : List (List ℕ)} {ts r1 r2 rest : List Token} {k : Place} {x : Initial} (so_far : List Initial) {all : List Initial}
    (d0 : Next (Mark mark.Comma) ts k r1) (d1 : InitialAt names r1 x r2) (m : MoreInitials names r2 (so_far ++ x ∷ []) all rest) (n fuel : ℕ) →
    InitialReads d1 n → length ts ≤ fuel → ((f : ℕ) → length r2 ≤ f → MoreInitialsReads m n f) → MoreInitialsReads (next_initial d0 d1 m) n fuel
unfolding read_initial_item deep_initial
more_initials_turn so_far d0 d1 m n fuel p fits rec =
    turns _ _ fuel (one_more d0 (initial_no_close d1)) (step _ (next_expect d0) (and_last _ p done)) (omega (arith, next_shrinks d0, initial_shrinks d1)) fits rec

pub more_initials_end : (names : List (List ℕ)) (ts : List Token) (so_far : List Initial) (n fuel : ℕ) → comma_more ts ≡ false →
    MoreInitialsReads {names = names} {ts = ts} {rest = ts} {so_far = so_far} {all = so_far} no_initial n fuel
unfolding deep_initial
more_initials_end names ts so_far n fuel h = ends _ _ fuel so_far ts h

-- ---- declarations

pub init_value_by : {names : List (List ℕ)} {ts r1 r2 r3 rest : List Token} {x : Declarator} {xs : List Attr} {k : Place} {v : Initial}
    (d0 : DeclaratorAt names ts x r1) (d1 : Attrs names r1 [] xs r2) (d2 : Next (Mark mark.Assign) r2 k r3) (d3 : InitialAt names r3 v rest) (n : ℕ) →
    DeclaratorReads d0 n → InitialReads d3 n → InitReads (init_value d0 d1 d2 d3) n
unfolding read_init read_init_end read_init_value read_attrs deep_init
init_value_by d0 d1 d2 d3 n p q = and_so _ p (step _ (attrs_read d1 (other (Word word.Attribute) d2 refl) _ (omega arith)).holds (if_so _ (next_test d2) (step _ (next_expect d2) (and_last _ q done))))

pub init_plain_by : {names : List (List ℕ)} {ts r1 rest : List Token} {x : Declarator} {xs : List Attr} (d0 : DeclaratorAt names ts x r1) (d1 : Attrs names r1 [] xs rest) (n : ℕ) →
    next_is (Word word.Attribute) rest ≡ false → next_is (Mark mark.Assign) rest ≡ false → DeclaratorReads d0 n → InitReads (init_plain d0 d1) n
unfolding read_init read_init_end read_attrs deep_init
init_plain_by d0 d1 n h1 h2 p = and_last _ p (step _ (attrs_read d1 h1 _ (omega arith)).holds (if_not _ h2 done))

pub more_inits_turn : {names : List (List ℕ)} {ts r1 r2 rest : List Token} {k : Place} {x : Init} (so_far : List Init) {all : List Init}
    (d0 : Next (Mark mark.Comma) ts k r1) (d1 : InitAt names r1 x r2) (m : MoreInits names r2 (so_far ++ x ∷ []) all rest) (n fuel : ℕ) →
    InitReads d1 n → length ts ≤ fuel → ((f : ℕ) → length r2 ≤ f → MoreInitsReads m n f) → MoreInitsReads (next_init d0 d1 m) n fuel
unfolding read_init_item deep_more_inits
more_inits_turn so_far d0 d1 m n fuel p fits rec = turns _ _ fuel (next_test d0) (step _ (next_expect d0) (and_last _ p done)) (omega (arith, next_shrinks d0, init_shrinks d1)) fits rec

pub more_inits_end : (names : List (List ℕ)) (ts : List Token) (so_far : List Init) (n fuel : ℕ) → next_is (Mark mark.Comma) ts ≡ false →
    MoreInitsReads {names = names} {ts = ts} {rest = ts} {so_far = so_far} {all = so_far} no_init n fuel
unfolding deep_more_inits
more_inits_end names ts so_far n fuel h = ends _ _ fuel so_far ts h

pub bare_by : {names : List (List ℕ)} {ts r1 rest : List Token} {s : List Spec} {c : Place} (d0 : SpecsAt names ts s r1) (d1 : Next (Mark mark.Semicolon) r1 c rest) (n : ℕ) → SpecsReads d0 n → DeclReads (bare_decl d0 d1) n
unfolding read_decl deep_decl
bare_by d0 d1 n p = and_last _ p (if_so _ (next_test d1) (step _ (next_expect d1) done))

pub inits_by : {names : List (List ℕ)} {ts r1 r2 r3 rest : List Token} {s : List Spec} {x : Init} {xs : List Init} {c : Place}
    (d0 : SpecsAt names ts s r1) (d1 : InitAt names r1 x r2) (d2 : MoreInits names r2 (x ∷ []) xs r3) (d3 : Next (Mark mark.Semicolon) r3 c rest) (n : ℕ) →
    SpecsReads d0 n → InitReads d1 n → MoreInitsReads d2 n (length r2) → DeclReads (inits_decl d0 d1 d2 d3) n
unfolding read_decl read_inits_decl read_more_inits deep_decl
inits_by d0 d1 d2 d3 n p q r = and_so _ p (if_not _ (init_no_semicolon d1) (and_so _ q (and_last _ r (step _ (next_expect d3) done))))

-- ---- the parts of statements

pub an_expr_by : {names : List (List ℕ)} {ts rest : List Token} {e : Expr} (d0 : ExprAt names ts e rest) (n : ℕ) → ExprReads d0 n → OptExprReads (an_expr d0) n
unfolding read_opt_expr deep_opt_expr
an_expr_by d0 n p = if_so _ (expr_begins d0) (and_last _ p done)

pub without_expr_by : (names : List (List ℕ)) (ts : List Token) (n : ℕ) → begins_expr names ts ≡ false → OptExprReads {names = names} {ts = ts} {rest = ts} without_expr n
unfolding read_opt_expr deep_opt_expr
without_expr_by names ts n h = if_not _ h done

pub first_decl_by : {names : List (List ℕ)} {ts rest : List Token} {a : Decl} (d0 : DeclAt names ts a rest) (n : ℕ) → DeclReads d0 n → FirstReads (first_decl d0) n
unfolding read_first deep_first
first_decl_by d0 n p = if_so _ (decl_begins d0) (and_last _ p done)

opt_no_spec : {names : List (List ℕ)} {ts r1 rest : List Token} {e : Option Expr} {c : Place} → OptExpr names ts e r1 → Next (Mark mark.Semicolon) r1 c rest → begins_spec names ts ≡ false
opt_no_spec {names = names} {ts = ts} (an_expr d0) c = not_spec names ts (expr_begins d0)
opt_no_spec {names = names} without_expr c = sign_at (spec_token names) false (λ q. refl) c

pub first_expr_by : {names : List (List ℕ)} {ts r1 rest : List Token} {e : Option Expr} {c : Place} (d0 : OptExpr names ts e r1) (d1 : Next (Mark mark.Semicolon) r1 c rest) (n : ℕ) → OptExprReads d0 n → FirstReads (first_expr d0 d1) n
unfolding read_first deep_first
first_expr_by d0 d1 n p = if_not _ (opt_no_spec d0 d1) (and_last _ p (step _ (next_expect d1) done))

pub case_by : {names : List (List ℕ)} {ts r1 r2 rest : List Token} {p c : Place} {e : Expr} (d0 : Next (Word word.Case) ts p r1) (d1 : Cond names r1 e r2) (d2 : Next (Mark mark.Colon) r2 c rest) (n : ℕ) →
    CondReads d1 n → LabelReads (case_label d0 d1 d2) n
unfolding read_label read_case_label deep_label
case_by d0 d1 d2 n p = if_so _ (next_test d0) (step _ (next_expect d0) (and_last _ p (step _ (next_expect d2) done)))

pub default_by : (names : List (List ℕ)) {ts r1 rest : List Token} {p c : Place} (d0 : Next (Word word.Default) ts p r1) (d1 : Next (Mark mark.Colon) r1 c rest) (n : ℕ) → LabelReads {names = names} (default_label d0 d1) n
unfolding read_label deep_label
default_by names d0 d1 n = if_not _ (other (Word word.Case) d0 refl) (step _ (next_expect d0) (step _ (next_expect d1) done))

-- ---- blocks

pub braces_by : {names : List (List ℕ)} {ts r1 r2 rest : List Token} {p c : Place} {xs : List Item} (d0 : Next (Mark mark.BraceOpen) ts p r1) (d1 : Items names r1 [] xs r2) (d2 : Next (Mark mark.BraceClose) r2 c rest) (n : ℕ) →
    ItemsReads d1 n (length r1) → BlockReads (braces d0 d1 d2) n
unfolding read_block read_items deep_block
braces_by d0 d1 d2 n p = step _ (next_expect d0) (and_last _ p (step _ (next_expect d2) done))

pub items_turn : {names : List (List ℕ)} {ts r1 rest : List Token} {x : Item} (so_far : List Item) {all : List Item} (d0 : ItemAt names ts x r1) (m : Items names r1 (so_far ++ x ∷ []) all rest) (n fuel : ℕ) →
    ItemReads d0 n → length ts ≤ fuel → ((f : ℕ) → length r1 ≤ f → ItemsReads m n f) → ItemsReads (next_item d0 m) n fuel
unfolding read_item_item deep_block
items_turn so_far d0 m n fuel p fits rec = turns _ _ fuel (item_in d0) (and_last _ p done) (item_shrinks d0) fits rec

pub items_end : (names : List (List ℕ)) (ts : List Token) (so_far : List Item) (n fuel : ℕ) → in_braces ts ≡ false → ItemsReads {names = names} {ts = ts} {rest = ts} {so_far = so_far} {all = so_far} no_item n fuel
unfolding deep_block
items_end names ts so_far n fuel h = ends _ _ fuel so_far ts h

pub decl_item_by : {names : List (List ℕ)} {ts rest : List Token} {a : Decl} (d0 : DeclAt names ts a rest) (n : ℕ) → DeclReads d0 n → ItemReads (decl_item d0) n
unfolding read_item deep_block
decl_item_by d0 n p = if_so _ (decl_begins d0) (and_last _ p done)

pub stmt_item_by : {names : List (List ℕ)} {ts rest : List Token} {a : Stmt} (d0 : StmtAt names ts a rest) (n : ℕ) → StmtReads d0 n → ItemReads (stmt_item d0) n
unfolding read_item deep_block
stmt_item_by {names = names} {ts = ts} d0 n p = if_not _ (stmt_no_spec names ts (stmt_begins d0)) (and_last _ p done)

pub parts_turn : {names : List (List ℕ)} {ts r1 rest : List Token} {x : Part} (so_far : List Part) {all : List Part} (d0 : PartAt names ts x r1) (m : Parts names r1 (so_far ++ x ∷ []) all rest) (n fuel : ℕ) →
    PartReads d0 n → length ts ≤ fuel → ((f : ℕ) → length r1 ≤ f → PartsReads m n f) → PartsReads (next_part d0 m) n fuel
unfolding read_part_item deep_block
parts_turn so_far d0 m n fuel p fits rec = turns _ _ fuel (part_in d0) (and_last _ p done) (part_shrinks d0) fits rec

pub parts_end : (names : List (List ℕ)) (ts : List Token) (so_far : List Part) (n fuel : ℕ) → in_braces ts ≡ false → PartsReads {names = names} {ts = ts} {rest = ts} {so_far = so_far} {all = so_far} no_part n fuel
unfolding deep_block
parts_end names ts so_far n fuel h = ends _ _ fuel so_far ts h

pub label_part_by : {names : List (List ℕ)} {ts rest : List Token} {a : Label} (d0 : LabelAt names ts a rest) (n : ℕ) → LabelReads d0 n → PartReads (label_part d0) n
unfolding read_part deep_block
label_part_by d0 n p = if_so _ (label_begins d0) (and_last _ p done)

pub decl_part_by : {names : List (List ℕ)} {ts rest : List Token} {a : Decl} (d0 : DeclAt names ts a rest) (n : ℕ) → DeclReads d0 n → PartReads (decl_part d0) n
unfolding read_part deep_block
decl_part_by {names = names} {ts = ts} d0 n p = if_not _ (spec_no_label names ts (decl_begins d0)) (if_so _ (decl_begins d0) (and_last _ p done))

pub stmt_part_by : {names : List (List ℕ)} {ts rest : List Token} {a : Stmt} (d0 : StmtAt names ts a rest) (n : ℕ) → StmtReads d0 n → PartReads (stmt_part d0) n
unfolding read_part deep_block
stmt_part_by {names = names} {ts = ts} d0 n p = if_not _ (stmt_no_label names ts (stmt_begins d0)) (if_not _ (stmt_no_spec names ts (stmt_begins d0)) (and_last _ p done))

-- ---- statements

pub stmt_deep : {names : List (List ℕ)} {ts rest : List Token} {a : Stmt} (d : StmtAt names ts a rest) → StmtReads d 0
unfolding levels deep_block
stmt_deep d = too_deep _ (stmt_begins d)

pub block_by : {names : List (List ℕ)} {ts rest : List Token} {b : Block} (d0 : BlockAt names ts b rest) (n : ℕ) → BlockReads d0 n → StmtReads (block_stmt d0) (suc n)
unfolding levels read_stmt deep_block
block_by d0 n p = if_so _ (block_at (is_sign (Mark mark.BraceOpen)) true (λ q. refl) d0) (and_last _ p done)

pub empty_by : (names : List (List ℕ)) {ts rest : List Token} {p : Place} (d0 : Next (Mark mark.Semicolon) ts p rest) (n : ℕ) → StmtReads {names = names} (empty_stmt d0) (suc n)
unfolding levels read_stmt deep_block
empty_by names d0 n = if_not _ (other (Mark mark.BraceOpen) d0 refl) (if_so _ (next_test d0) (step _ (next_expect d0) done))

pub return_by : {names : List (List ℕ)} {ts r1 r2 rest : List Token} {p c : Place} {e : Option Expr} (d0 : Next (Word word.Return) ts p r1) (d1 : OptExpr names r1 e r2) (d2 : Next (Mark mark.Semicolon) r2 c rest) (n : ℕ) →
    OptExprReads d1 n → StmtReads (return_stmt d0 d1 d2) (suc n)
unfolding levels read_stmt read_return_stmt deep_block
return_by d0 d1 d2 n p =
    if_not _ (other (Mark mark.BraceOpen) d0 refl) (if_not _ (other (Mark mark.Semicolon) d0 refl) (if_so _ (next_test d0) (step _ (next_expect d0) (and_last _ p (step _ (next_expect d2) done)))))

pub break_by : (names : List (List ℕ)) {ts r1 rest : List Token} {p c : Place} (d0 : Next (Word word.Break) ts p r1) (d1 : Next (Mark mark.Semicolon) r1 c rest) (n : ℕ) → StmtReads {names = names} (break_stmt d0 d1) (suc n)
unfolding levels read_stmt deep_block
break_by names d0 d1 n =
    if_not _ (other (Mark mark.BraceOpen) d0 refl) (if_not _ (other (Mark mark.Semicolon) d0 refl) (if_not _ (other (Word word.Return) d0 refl) (if_so _ (next_test d0) (step _ (next_expect d0) (step _ (next_expect d1) done)))))

pub continue_by : (names : List (List ℕ)) {ts r1 rest : List Token} {p c : Place} (d0 : Next (Word word.Continue) ts p r1) (d1 : Next (Mark mark.Semicolon) r1 c rest) (n : ℕ) → StmtReads {names = names} (continue_stmt d0 d1) (suc n)
unfolding levels read_stmt deep_block
continue_by names d0 d1 n =
    if_not _ (other (Mark mark.BraceOpen) d0 refl) (if_not _ (other (Mark mark.Semicolon) d0 refl) (if_not _ (other (Word word.Return) d0 refl) (if_not _ (other (Word word.Break) d0 refl)
    (if_so _ (next_test d0) (step _ (next_expect d0) (step _ (next_expect d1) done))))))

-- a statement that begins with a word after "continue" in the order of the tests
abbrev late : Keyword → Bool
late word.If = true
late word.While = true
late word.Do = true
late word.For = true
late word.Switch = true
late _ = false

late_stmt : (names : List (List ℕ)) (below : Readers) {w : Keyword} {ts r : List Token} {p : Place} {o : Option ℕ} {x : Stmt × List Token} → Next (Word w) ts p r → late w ≡ true →
    Answers (if next_is (Word word.If) ts then read_if_stmt names below ts
    else if next_is (Word word.While) ts then read_while_stmt names below ts
    else if next_is (Word word.Do) ts then read_do_stmt names below ts
    else if next_is (Word word.For) ts then read_for_stmt names below ts
    else if next_is (Word word.Switch) ts then read_switch_stmt names below ts
    else read_expr names below ts >>= (λ e. expect (Mark mark.Semicolon) e.1 >>= (λ c. Ok (stmt.Expr e.0, c.1)))) o x →
    Answers (read_stmt names below ts) o x
unfolding read_stmt
late_stmt names below {w = w} d h q =
    if_not _ (other (Mark mark.BraceOpen) d refl) (if_not _ (other (Mark mark.Semicolon) d refl) (if_not _ (other (Word word.Return) d (no_return w h)) (if_not _ (other (Word word.Break) d (no_break w h)) (if_not _ (other (Word word.Continue) d (no_continue w h)) q))))
  where
    no_return : (w : Keyword) → late w ≡ true → is (kind.Word w) (Word word.Return) ≡ false
    no_return word.Return h = absurd cc
    no_return _ h = refl

    no_break : (w : Keyword) → late w ≡ true → is (kind.Word w) (Word word.Break) ≡ false
    no_break word.Break h = absurd cc
    no_break _ h = refl

    no_continue : (w : Keyword) → late w ≡ true → is (kind.Word w) (Word word.Continue) ≡ false
    no_continue word.Continue h = absurd cc
    no_continue _ h = refl

pub if_else_by : {names : List (List ℕ)} {ts r1 r2 r3 r4 r5 r6 rest : List Token} {p o c l : Place} {e : Expr} {a b : Stmt}
    (d0 : Next (Word word.If) ts p r1) (d1 : Next (Mark mark.ParenOpen) r1 o r2) (d2 : ExprAt names r2 e r3) (d3 : Next (Mark mark.ParenClose) r3 c r4) (d4 : StmtAt names r4 a r5) (d5 : Next (Word word.Else) r5 l r6) (d6 : StmtAt names r6 b rest) (n : ℕ) →
    ExprReads d2 n → StmtReads d4 n → StmtReads d6 n → StmtReads (if_else d0 d1 d2 d3 d4 d5 d6) (suc n)
unfolding levels read_if_stmt read_if_else deep_block
if_else_by d0 d1 d2 d3 d4 d5 d6 n p q r =
    late_stmt _ _ d0 refl (if_so _ (next_test d0) (step _ (next_expect d0) (step _ (next_expect d1) (and_so _ p (step _ (next_expect d3) (and_so _ q (if_so _ (next_test d5) (step _ (next_expect d5) (and_last _ r done)))))))))

pub if_only_by : {names : List (List ℕ)} {ts r1 r2 r3 r4 rest : List Token} {p o c : Place} {e : Expr} {a : Stmt}
    (d0 : Next (Word word.If) ts p r1) (d1 : Next (Mark mark.ParenOpen) r1 o r2) (d2 : ExprAt names r2 e r3) (d3 : Next (Mark mark.ParenClose) r3 c r4) (d4 : StmtAt names r4 a rest) (h : next_is (Word word.Else) rest ≡ false) (n : ℕ) →
    ExprReads d2 n → StmtReads d4 n → StmtReads (if_only d0 d1 d2 d3 d4 h) (suc n)
unfolding levels read_if_stmt deep_block
if_only_by d0 d1 d2 d3 d4 h n p q = late_stmt _ _ d0 refl (if_so _ (next_test d0) (step _ (next_expect d0) (step _ (next_expect d1) (and_so _ p (step _ (next_expect d3) (and_last _ q (if_not _ h done)))))))

pub while_by : {names : List (List ℕ)} {ts r1 r2 r3 r4 rest : List Token} {p o c : Place} {e : Expr} {a : Stmt}
    (d0 : Next (Word word.While) ts p r1) (d1 : Next (Mark mark.ParenOpen) r1 o r2) (d2 : ExprAt names r2 e r3) (d3 : Next (Mark mark.ParenClose) r3 c r4) (d4 : StmtAt names r4 a rest) (n : ℕ) →
    ExprReads d2 n → StmtReads d4 n → StmtReads (while_stmt d0 d1 d2 d3 d4) (suc n)
unfolding levels read_while_stmt deep_block
while_by d0 d1 d2 d3 d4 n p q =
    late_stmt _ _ d0 refl (if_not _ (other (Word word.If) d0 refl) (if_so _ (next_test d0) (step _ (next_expect d0) (step _ (next_expect d1) (and_so _ p (step _ (next_expect d3) (and_last _ q done)))))))

pub do_by : {names : List (List ℕ)} {ts r1 r2 r3 r4 r5 r6 rest : List Token} {p w o c c2 : Place} {a : Stmt} {e : Expr}
    (d0 : Next (Word word.Do) ts p r1) (d1 : StmtAt names r1 a r2) (d2 : Next (Word word.While) r2 w r3) (d3 : Next (Mark mark.ParenOpen) r3 o r4) (d4 : ExprAt names r4 e r5) (d5 : Next (Mark mark.ParenClose) r5 c r6) (d6 : Next (Mark mark.Semicolon) r6 c2 rest) (n : ℕ) →
    StmtReads d1 n → ExprReads d4 n → StmtReads (do_stmt d0 d1 d2 d3 d4 d5 d6) (suc n)
unfolding levels read_do_stmt deep_block
do_by d0 d1 d2 d3 d4 d5 d6 n p q =
    late_stmt _ _ d0 refl (if_not _ (other (Word word.If) d0 refl) (if_not _ (other (Word word.While) d0 refl) (if_so _ (next_test d0)
    (step _ (next_expect d0) (and_so _ p (step _ (next_expect d2) (step _ (next_expect d3) (and_last _ q (step _ (next_expect d5) (step _ (next_expect d6) done))))))))))

pub for_by : {names : List (List ℕ)} {ts r1 r2 r3 r4 r5 r6 r7 rest : List Token} {p o c c2 : Place} {f : First} {t x : Option Expr} {a : Stmt}
    (d0 : Next (Word word.For) ts p r1) (d1 : Next (Mark mark.ParenOpen) r1 o r2) (d2 : FirstAt names r2 f r3) (d3 : OptExpr names r3 t r4) (d4 : Next (Mark mark.Semicolon) r4 c r5) (d5 : OptExpr names r5 x r6) (d6 : Next (Mark mark.ParenClose) r6 c2 r7) (d7 : StmtAt names r7 a rest) (n : ℕ) →
    FirstReads d2 n → OptExprReads d3 n → OptExprReads d5 n → StmtReads d7 n → StmtReads (for_stmt d0 d1 d2 d3 d4 d5 d6 d7) (suc n)
unfolding levels read_for_stmt deep_block
for_by d0 d1 d2 d3 d4 d5 d6 d7 n p q r s =
    late_stmt _ _ d0 refl (if_not _ (other (Word word.If) d0 refl) (if_not _ (other (Word word.While) d0 refl) (if_not _ (other (Word word.Do) d0 refl) (if_so _ (next_test d0)
    (step _ (next_expect d0) (step _ (next_expect d1) (and_so _ p (and_so _ q (step _ (next_expect d4) (and_so _ r (step _ (next_expect d6) (and_last _ s done))))))))))))

pub switch_by : {names : List (List ℕ)} {ts r1 r2 r3 r4 r5 r6 rest : List Token} {p o c o2 c2 : Place} {e : Expr} {xs : List Part}
    (d0 : Next (Word word.Switch) ts p r1) (d1 : Next (Mark mark.ParenOpen) r1 o r2) (d2 : ExprAt names r2 e r3) (d3 : Next (Mark mark.ParenClose) r3 c r4) (d4 : Next (Mark mark.BraceOpen) r4 o2 r5) (d5 : Parts names r5 [] xs r6) (d6 : Next (Mark mark.BraceClose) r6 c2 rest) (n : ℕ) →
    ExprReads d2 n → PartsReads d5 n (length r5) → StmtReads (switch_stmt d0 d1 d2 d3 d4 d5 d6) (suc n)
unfolding levels read_switch_stmt read_parts deep_block
switch_by d0 d1 d2 d3 d4 d5 d6 n p q =
    late_stmt _ _ d0 refl (if_not _ (other (Word word.If) d0 refl) (if_not _ (other (Word word.While) d0 refl) (if_not _ (other (Word word.Do) d0 refl) (if_not _ (other (Word word.For) d0 refl) (if_so _ (next_test d0)
    (step _ (next_expect d0) (step _ (next_expect d1) (and_so _ p (step _ (next_expect d3) (step _ (next_expect d4) (and_last _ q (step _ (next_expect d6) done))))))))))))

pub expr_stmt_by : {names : List (List ℕ)} {ts r1 rest : List Token} {e : Expr} {c : Place} (d0 : ExprAt names ts e r1) (d1 : Next (Mark mark.Semicolon) r1 c rest) (n : ℕ) → ExprReads d0 n → StmtReads (expr_stmt d0 d1) (suc n)
unfolding levels read_stmt deep_block
expr_stmt_by {names = names} {ts = ts} d0 d1 n p =
    let b = expr_begins d0 in
    if_not _ (expr_not names ts (is_sign (Mark mark.BraceOpen)) (λ k h. h.no_open) b) (if_not _ (expr_not names ts (is_sign (Mark mark.Semicolon)) (λ k h. h.no_semicolon) b)
    (if_not _ (expr_not names ts (is_sign (Word word.Return)) (λ k h. h.no_return) b) (if_not _ (expr_not names ts (is_sign (Word word.Break)) (λ k h. h.no_break) b)
    (if_not _ (expr_not names ts (is_sign (Word word.Continue)) (λ k h. h.no_continue) b) (if_not _ (expr_not names ts (is_sign (Word word.If)) (λ k h. h.no_if) b)
    (if_not _ (expr_not names ts (is_sign (Word word.While)) (λ k h. h.no_while) b) (if_not _ (expr_not names ts (is_sign (Word word.Do)) (λ k h. h.no_do) b)
    (if_not _ (expr_not names ts (is_sign (Word word.For)) (λ k h. h.no_for) b) (if_not _ (expr_not names ts (is_sign (Word word.Switch)) (λ k h. h.no_switch) b)
    (and_last _ p (step _ (next_expect d1) done)))))))))))
