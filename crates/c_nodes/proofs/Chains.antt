-- A chain of more than one part.
use Rattle.std.proofs.Common.{◌≡◌, ◌≢◌, List, [], ◌∷◌, refl}
use Rattle.c_ast.specs.declared.expr.Expr.{Expr}
use Rattle.c_ast.specs.declared.expr.Expr.TheVariants as tree
use Rattle.c_ast.specs.declared.expr.Link.{Link}
use Rattle.c_ast.specs.declared.expr.Next.{Next as After}
use Rattle.c_ast.specs.declared.expr.Access.{Access}
use Rattle.c_grammar.specs.Grammar.{commas, accessed, joined}

pub commas_none : (a : Expr) (more : List After) → more ≡ [] → commas a more ≡ a
commas_none a more e = rw e refl

pub commas_some : (a : Expr) (more : List After) → more ≢ [] → commas a more ≡ tree.Comma a more
commas_some a [] ne = absurd (ne refl)
commas_some a (b ∷ bs) ne = refl

pub accessed_none : (a : Expr) (more : List Access) → more ≡ [] → accessed a more ≡ a
accessed_none a more e = rw e refl

pub accessed_some : (a : Expr) (more : List Access) → more ≢ [] → accessed a more ≡ tree.Postfix a more
accessed_some a [] ne = absurd (ne refl)
accessed_some a (b ∷ bs) ne = refl

pub joined_none : (a : Expr) (more : List Link) → more ≡ [] → joined a more ≡ a
joined_none a more e = rw e refl

pub joined_some : (a : Expr) (more : List Link) → more ≢ [] → joined a more ≡ tree.Binary a more
joined_some a [] ne = absurd (ne refl)
joined_some a (b ∷ bs) ne = refl

pub ruleset chains = (commas_none, commas_some, accessed_none, accessed_some, joined_none, joined_some)
