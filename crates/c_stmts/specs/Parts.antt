-- Parts of statements, read from left to right.
use Rattle.std.specs.Prelude.{ℕ, List, Ok}
use Rattle.c_lex.specs.declared.token.Keyword.TheVariants as word
use Rattle.c_lex.specs.declared.token.Punct.TheVariants as mark
use Rattle.c_lex.specs.declared.token.Token.{Token}
use Rattle.c_grammar.specs.declared.tokens.Sign.TheVariants.{Word, Mark}
use Rattle.c_ast.specs.declared.stmt.Stmt.{Stmt}
use Rattle.c_ast.specs.declared.stmt.Stmt.TheVariants as stmt
use Rattle.c_grammar.specs.Tokens.{◌>>=◌, Read, expect}
use Rattle.c_grammar.specs.Reading.{Readers, read_expr}

abbrev pub read_break : List Token → Read Stmt
read_break ts = expect (Word word.Break) ts >>= (λ p. expect (Mark mark.Semicolon) p.1 >>= (λ c. Ok (stmt.Break p.0, c.1)))

abbrev pub read_continue : List Token → Read Stmt
read_continue ts = expect (Word word.Continue) ts >>= (λ p. expect (Mark mark.Semicolon) p.1 >>= (λ c. Ok (stmt.Continue p.0, c.1)))

abbrev pub read_expr_stmt : List (List ℕ) → Readers → List Token → Read Stmt
read_expr_stmt names below ts = read_expr names below ts >>= (λ e. expect (Mark mark.Semicolon) e.1 >>= (λ c. Ok (stmt.Expr e.0, c.1)))
