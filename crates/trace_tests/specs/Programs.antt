-- Small programs, as contracts see them.
use Rattle.std.specs.Prelude.{ℕ, Bool, true, false, List, [], ◌∷◌, codes, replicate, Some}
use Rattle.cm_base.specs.declared.place.Place.{Place}
use Rattle.c_types.specs.declared.arith.Arith.TheVariants as a
use Rattle.c_types.specs.declared.ctype.CType.{CType}
use Rattle.c_types.specs.Derived.{arith_type, pointer_to, function}
use Rattle.c_tree.specs.declared.expr.BinOp.TheVariants as bin
use Rattle.c_tree.specs.declared.expr.Expr.{Expr}
use Rattle.c_tree.specs.declared.expr.ExprKind.{ExprKind}
use Rattle.c_tree.specs.declared.expr.ExprKind.TheVariants as kind
use Rattle.c_tree.specs.declared.program.TFunction.{TFunction}
use Rattle.c_tree.specs.declared.program.TLocal.{TLocal}
use Rattle.c_tree.specs.declared.stmt.Stmt.{Stmt}
use Rattle.c_tree.specs.declared.stmt.Stmt.TheVariants as stmt

-- ---- nodes

abbrev pub place : Place
place = record { unit = 0; line = 1; col = 1 }

abbrev pub word : CType
word = arith_type a.Unsigned

-- a pointer to a Non-secure function of a word that gives a word
abbrev pub ns_pointer : CType
ns_pointer = pointer_to (function word (word ∷ []) true)

abbrev pub node : ExprKind → CType → Expr
node k t = record { kind = k; ctype = t; place = place }

abbrev pub number : ℕ → Expr
number n = node (kind.Const n) word

abbrev pub local : ℕ → Expr
local n = node (kind.Local n) word

abbrev pub sum : Expr → Expr → Expr
sum e f = node (kind.Binary bin.Add e f) word

abbrev pub calling : ℕ → Expr → Expr
calling n arg = node (kind.Call n (arg ∷ [])) word

abbrev pub returning : Expr → Stmt
returning e = stmt.Return (Some e)

-- a parameter without a name
abbrev pub unnamed : CType → TLocal
unnamed t = record { name = []; ctype = t }

-- a function of so many words that gives a word
abbrev pub of_words : List ℕ → Bool → ℕ → List TLocal → Stmt → TFunction
of_words name entry n locals body = record {
  name = name;
  unit = 0;
  ctype = function word (replicate n word) false;
  entry = entry;
  is_static = false;
  params = replicate n (unnamed word);
  locals = locals;
  body = body;
  place = place;
}

-- ---- a program that calls out

abbrev pub twice_body : Stmt
twice_body = stmt.Block
    (stmt.Declare 2 (record { offset = 0; value = node (kind.Convert (local 0)) ns_pointer } ∷ [])
    ∷ returning (sum (node (kind.NsCall (node (kind.Local 2) ns_pointer) (local 1 ∷ [])) word) (local 1))
    ∷ [])

abbrev pub twice : TFunction
twice = of_words (codes "twice") true 2 (unnamed ns_pointer ∷ []) twice_body

abbrev pub one : TFunction
one = of_words (codes "one") true 1 [] (returning (sum (local 0) (number 1)))

abbrev pub calls_out : List TFunction
calls_out = twice ∷ one ∷ []

-- ---- a program that calls itself

abbrev pub endless : TFunction
endless = of_words (codes "r") false 1 [] (returning (sum (calling 0 (sum (local 0) (number 1))) (number 1)))

abbrev pub go : TFunction
go = of_words (codes "go") true 0 [] (returning (calling 0 (number 0)))

abbrev pub calls_itself : List TFunction
calls_itself = endless ∷ go ∷ []
