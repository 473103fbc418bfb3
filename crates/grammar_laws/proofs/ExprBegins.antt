-- What an expression begins with.
use Rattle.std.proofs.Common.{Bool, List, false, refl, true, ℕ, ◌≡◌}
use Rattle.std.specs.Option.{is_some}
use Rattle.cm_base.specs.declared.place.Place.{Place}
use Rattle.c_lex.specs.declared.token.Token.{Token}
use Rattle.c_grammar.specs.declared.tokens.Sign.TheVariants.{Mark}
use Rattle.c_ast.specs.declared.expr.Expr.{Expr}
use Rattle.c_grammar.specs.Tokens.{begins_expr, begins_spec, begins_step, expr_token, has, is_sign, next_is, step_op, step_op_of, step_token, type_follows, un_op, un_op_of}
use Rattle.c_grammar.specs.Grammar.{Assign, Binary, Cast, Cond, ExprAt, Next, Postfix, Primary, SizeofAt, Stepped, Unary, a_char, a_name, a_number, a_sizeof, a_string, assigned, binaries, chosen, converted, counted_unary, exprs, grouped, only_binary, only_cast, only_cond, only_postfix, only_unary, postfixed, prefixed, sizeof_expr, sizeof_type, step_before}
use Rattle.grammar_laws.proofs.First.{after_sign, char_at, mark_at, name_at, not_spec, number_at, step_mark, string_at, un_mark}
use Rattle.grammar_laws.proofs.Steps.{next_test, sign_at}
use Rattle.c_lex.specs.declared.token.Punct.TheVariants as mark

mutual
  pub expr_begins : {names : List (List ℕ)} {ts rest : List Token} {a : Expr} → ExprAt names ts a rest → begins_expr names ts ≡ true
  expr_begins (exprs d0 d1) = assign_begins d0

  pub assign_begins : {names : List (List ℕ)} {ts rest : List Token} {a : Expr} → Assign names ts a rest → begins_expr names ts ≡ true
  assign_begins (assigned d0 d1 d2) = cond_begins d0
  assign_begins (only_cond d0) = cond_begins d0

  pub cond_begins : {names : List (List ℕ)} {ts rest : List Token} {a : Expr} → Cond names ts a rest → begins_expr names ts ≡ true
  cond_begins (chosen d0 d1 d2 d3 d4) = binary_begins d0
  cond_begins (only_binary d0) = binary_begins d0

  binary_begins : {names : List (List ℕ)} {l : ℕ} {ts rest : List Token} {a : Expr} → Binary names l ts a rest → begins_expr names ts ≡ true
  binary_begins (only_cast d0) = cast_begins d0
  binary_begins (binaries d0 d1) = binary_begins d0

  pub cast_begins : {names : List (List ℕ)} {ts rest : List Token} {a : Expr} → Cast names ts a rest → begins_expr names ts ≡ true
  cast_begins {names = names} (converted d0 d1 d2 d3) = sign_at (expr_token names) true (λ q. refl) d0
  cast_begins (only_unary d0) = unary_begins d0

  pub unary_begins : {names : List (List ℕ)} {ts rest : List Token} {a : Expr} → Unary names ts a rest → begins_expr names ts ≡ true
  unary_begins (counted_unary d0) = stepped_begins d0
  unary_begins {names = names} (prefixed d0 d1) = mark_at un_op (expr_token names) true (λ q m e. (un_mark names q m e).0) d0
  unary_begins (only_postfix d0) = postfix_begins d0

  stepped_begins : {names : List (List ℕ)} {ts rest : List Token} {a : Expr} → Stepped names ts a rest → begins_expr names ts ≡ true
  stepped_begins {names = names} (step_before d0 d1) = mark_at step_op (expr_token names) true (λ q m e. (step_mark names q m e).expr) d0
  stepped_begins (a_sizeof d0) = sizeof_begins d0

  sizeof_begins : {names : List (List ℕ)} {ts rest : List Token} {a : Expr} → SizeofAt names ts a rest → begins_expr names ts ≡ true
  sizeof_begins {names = names} (sizeof_type d0 d1 d2 d3) = sign_at (expr_token names) true (λ q. refl) d0
  sizeof_begins {names = names} (sizeof_expr d0 d1) = sign_at (expr_token names) true (λ q. refl) d0

  postfix_begins : {names : List (List ℕ)} {ts rest : List Token} {a : Expr} → Postfix names ts a rest → begins_expr names ts ≡ true
  postfix_begins (postfixed d0 d1) = primary_begins d0

  primary_begins : {names : List (List ℕ)} {ts rest : List Token} {a : Expr} → Primary names ts a rest → begins_expr names ts ≡ true
  primary_begins {names = names} (a_name d0) = name_at names (expr_token names) true (λ q x h. rw h refl) d0
  primary_begins {names = names} (a_number d0) = number_at (expr_token names) true (λ q v u l. refl) d0
  primary_begins {names = names} (a_char d0) = char_at (expr_token names) true (λ q v. refl) d0
  primary_begins {names = names} (a_string d0) = string_at (expr_token names) true (λ q s. refl) d0
  primary_begins {names = names} (grouped d0 d1 d2) = sign_at (expr_token names) true (λ q. refl) d0

-- ---- a primary begins with no operator, and a unary with no type in parentheses

pub primary_no_step : {names : List (List ℕ)} {ts rest : List Token} {a : Expr} → Primary names ts a rest → begins_step ts ≡ false
primary_no_step {names = names} (a_name d0) = name_at names step_token false (λ q x h. refl) d0
primary_no_step (a_number d0) = number_at step_token false (λ q v u l. refl) d0
primary_no_step (a_char d0) = char_at step_token false (λ q v. refl) d0
primary_no_step (a_string d0) = string_at step_token false (λ q s. refl) d0
primary_no_step (grouped d0 d1 d2) = sign_at step_token false (λ q. refl) d0

abbrev is_un : Token → Bool
is_un k = is_some (un_op_of k)

pub primary_no_un : {names : List (List ℕ)} {ts rest : List Token} {a : Expr} → Primary names ts a rest → has un_op_of ts ≡ false
primary_no_un {names = names} (a_name d0) = name_at names is_un false (λ q x h. refl) d0
primary_no_un (a_number d0) = number_at is_un false (λ q v u l. refl) d0
primary_no_un (a_char d0) = char_at is_un false (λ q v. refl) d0
primary_no_un (a_string d0) = string_at is_un false (λ q s. refl) d0
primary_no_un (grouped d0 d1 d2) = sign_at is_un false (λ q. refl) d0

pub postfix_no_step : {names : List (List ℕ)} {ts rest : List Token} {a : Expr} → Postfix names ts a rest → begins_step ts ≡ false
postfix_no_step (postfixed d0 d1) = primary_no_step d0

pub postfix_no_un : {names : List (List ℕ)} {ts rest : List Token} {a : Expr} → Postfix names ts a rest → has un_op_of ts ≡ false
postfix_no_un (postfixed d0 d1) = primary_no_un d0

pub stepped_step : {names : List (List ℕ)} {ts rest : List Token} {a : Expr} → Stepped names ts a rest → begins_step ts ≡ true
stepped_step {names = names} (step_before d0 d1) = mark_at step_op step_token true (λ q m e. (step_mark names q m e).step) d0
stepped_step (a_sizeof (sizeof_type d0 d1 d2 d3)) = sign_at step_token true (λ q. refl) d0
stepped_step (a_sizeof (sizeof_expr d0 d1)) = sign_at step_token true (λ q. refl) d0

abbrev is_step : Token → Bool
is_step k = is_some (step_op_of k)

pub sizeof_no_step : {names : List (List ℕ)} {ts rest : List Token} {a : Expr} → SizeofAt names ts a rest → has step_op_of ts ≡ false
sizeof_no_step (sizeof_type d0 d1 d2 d3) = sign_at is_step false (λ q. refl) d0
sizeof_no_step (sizeof_expr d0 d1) = sign_at is_step false (λ q. refl) d0

pub no_type : (names : List (List ℕ)) (ts : List Token) → next_is (Mark mark.ParenOpen) ts ≡ false → type_follows names ts ≡ false
no_type names ts h = rw h refl

-- "(" and what begins with a specifier
pub type_open : (names : List (List ℕ)) {ts r : List Token} {p : Place} → Next (Mark mark.ParenOpen) ts p r → begins_spec names r ≡ true → type_follows names ts ≡ true
type_open names d h = rw (next_test d, after_sign (begins_spec names) true d h) refl

abbrev is_open : Token → Bool
is_open k = is_sign (Mark mark.ParenOpen) k

primary_no_type : {names : List (List ℕ)} {ts rest : List Token} {a : Expr} → Primary names ts a rest → type_follows names ts ≡ false
primary_no_type {names = names} {ts = ts} (a_name d0) = no_type names ts (name_at names is_open false (λ q x h. refl) d0)
primary_no_type {names = names} {ts = ts} (a_number d0) = no_type names ts (number_at is_open false (λ q v u l. refl) d0)
primary_no_type {names = names} {ts = ts} (a_char d0) = no_type names ts (char_at is_open false (λ q v. refl) d0)
primary_no_type {names = names} {ts = ts} (a_string d0) = no_type names ts (string_at is_open false (λ q s. refl) d0)
primary_no_type {names = names} (grouped {r1 = r1} d0 d1 d2) = rw (next_test d0, after_sign (begins_spec names) false d0 (not_spec names r1 (expr_begins d1))) refl

pub unary_no_type : {names : List (List ℕ)} {ts rest : List Token} {a : Expr} → Unary names ts a rest → type_follows names ts ≡ false
unary_no_type {names = names} {ts = ts} (counted_unary (step_before d0 d1)) = no_type names ts (mark_at step_op is_open false (λ q m e. (step_mark names q m e).no_paren) d0)
unary_no_type {names = names} {ts = ts} (counted_unary (a_sizeof (sizeof_type d0 d1 d2 d3))) = no_type names ts (sign_at is_open false (λ q. refl) d0)
unary_no_type {names = names} {ts = ts} (counted_unary (a_sizeof (sizeof_expr d0 d1))) = no_type names ts (sign_at is_open false (λ q. refl) d0)
unary_no_type {names = names} {ts = ts} (prefixed d0 d1) = no_type names ts (mark_at un_op is_open false (λ q m e. (un_mark names q m e).2) d0)
unary_no_type (only_postfix (postfixed d0 d1)) = primary_no_type d0
