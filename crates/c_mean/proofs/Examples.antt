-- Statements at trees that are known. A fold over a tree doesn't compute by itself: it has an equation for each layer.
use Rattle.std.proofs.Common.{◌≡◌, ℕ, ◌+◌, ◌%◌, Bool, false, List, [], ◌∷◌, refl, ap, sym, ◌∙◌, Option, Some, None}
use Rattle.cm_base.specs.declared.place.Place.{Place}
use Rattle.ns_types.specs.declared.event.End.TheVariants as end
use Rattle.ns_types.specs.CRun.{World, Outcome, Over}
use Rattle.c_types.specs.declared.arith.Arith.TheVariants as a
use Rattle.c_types.specs.declared.ctype.CType.{CType}
use Rattle.c_types.specs.Derived.{arith_type}
use Rattle.c_tree.specs.declared.expr.BinOp.{BinOp}
use Rattle.c_tree.specs.declared.expr.BinOp.TheVariants as bin
use Rattle.c_tree.specs.declared.expr.Expr.{Expr}
use Rattle.c_tree.specs.declared.expr.ExprKind.{ExprKind}
use Rattle.c_tree.specs.declared.expr.ExprKind.TheVariants as k
use Rattle.c_tree.specs.declared.expr.ExprKind.TheVariants.{rolls-Const, rolls-Local, rolls-Binary}
use Rattle.c_tree.specs.declared.expr.ExprKind.TheOpen as kind
use Rattle.c_tree.specs.declared.expr.ExprKind.TheFolds.{fold-roll-ExprKind, fold-roll-Expr}
use Rattle.c_tree.specs.declared.stmt.Stmt.{Stmt, roll-Stmt}
use Rattle.c_tree.specs.declared.stmt.Stmt.TheVariants as s
use Rattle.c_tree.specs.declared.stmt.Stmt.TheVariants.{rolls-Return, rolls-While, rolls-Empty}
use Rattle.c_tree.specs.declared.stmt.Part.TheOpen as layer
use Rattle.c_tree.specs.declared.stmt.Part.TheFolds.{fold-roll-Stmt}
use Rattle.c_mean.specs.declared.flow.Flow.TheVariants as flow
use Rattle.c_mean.specs.Parts.{Out, Has, Ends, then_with, loop}
use Rattle.c_mean.specs.Exprs.{Around, Meant, Sense, sense, sense_of, kind_step, expr_step}
use Rattle.c_mean.specs.Stmts.{Does, Arm, does, given, leaves, goes_on, while_so, looped, part_step, stmt_step}

returns : (e : Option Expr) → does (s.Return e) ≡ given e
returns e = ap does (sym (rolls-Return e)) ∙ fold-roll-Stmt Arm Does part_step stmt_step (layer.Return e)

constant_is : (n : ℕ) → sense_of (k.Const n) ≡ kind_step (kind.Const n)
constant_is n = ap sense_of (sym (rolls-Const n)) ∙ fold-roll-ExprKind (CType → Meant) Sense kind_step expr_step (kind.Const n)

binary_is : (op : BinOp) (a b : Expr) → sense_of (k.Binary op a b) ≡ kind_step (kind.Binary op (sense a) (sense b))
binary_is op a b = ap sense_of (sym (rolls-Binary op a b)) ∙ fold-roll-ExprKind (CType → Meant) Sense kind_step expr_step (kind.Binary op a b)

node_is : (x : ExprKind) (t : CType) (p : Place) → sense (record { kind = x; ctype = t; place = p }) ≡ expr_step (record { kind = sense_of x; ctype = t; place = p })
node_is x t p = fold-roll-Expr (CType → Meant) Sense kind_step expr_step (record { kind = x; ctype = t; place = p })

local_is : (n : ℕ) → sense_of (k.Local n) ≡ kind_step (kind.Local n)
local_is n = ap sense_of (sym (rolls-Local n)) ∙ fold-roll-ExprKind (CType → Meant) Sense kind_step expr_step (kind.Local n)

empty_is : does s.Empty ≡ goes_on
empty_is = ap does (sym rolls-Empty) ∙ fold-roll-Stmt Arm Does part_step stmt_step layer.Empty

while_is : (e : Expr) (body : Stmt) → does (s.While e body) ≡ looped (while_so (λ around. (sense e).value around) (does body))
while_is e body = ap does (sym (rolls-While e body)) ∙ fold-roll-Stmt Arm Does part_step stmt_step (layer.While e body)

abbrev word : ExprKind → Expr
word x = record { kind = x; ctype = arith_type a.Unsigned; place = record { unit = 0; line = 1; col = 1 } }

abbrev meant : (CType → Meant) → Sense
meant f = expr_step (record { kind = f; ctype = arith_type a.Unsigned; place = record { unit = 0; line = 1; col = 1 } })

word_is : (x : ExprKind) (f : CType → Meant) → sense_of x ≡ f → sense (word x) ≡ meant f
word_is x f is = node_is x (arith_type a.Unsigned) (record { unit = 0; line = 1; col = 1 }) ∙ ap meant is

-- two unplaced locals, and at most three turns of a loop
abbrev around : Around
around = record {
  block = 0;
  offsets = None ∷ None ∷ [];
  globals = [];
  call = λ n args w. Over end.Stopped w;
  ns_call = λ target args w. Over end.Stopped w;
  from_ns = false;
  turns = 3;
  returned = λ x. x;
}

-- `return 42;`
gives_number : (l : List ℕ) (w : World) → does (s.Return (Some (word (k.Const 42)))) around l w ≡ Has (flow.Return 42) l w
gives_number l w =
    ap (λ d. d around l w) (returns (Some (word (k.Const 42))))
    ∙ ap (λ (z : Sense). then_with (z.value around l w) (λ v. leaves (flow.Return v) around)) (word_is (k.Const 42) (kind_step (kind.Const 42)) (constant_is 42))

abbrev sum : ExprKind
sum = k.Binary bin.Add (word (k.Local 0)) (word (k.Local 1))

abbrev sum_meant : CType → Meant
sum_meant = kind_step (kind.Binary bin.Add (meant (kind_step (kind.Local 0))) (meant (kind_step (kind.Local 1))))

sum_is : sense_of sum ≡ sum_meant
sum_is =
    binary_is bin.Add (word (k.Local 0)) (word (k.Local 1))
    ∙ ap (λ (z : Sense). kind_step (kind.Binary bin.Add z (sense (word (k.Local 1))))) (word_is (k.Local 0) (kind_step (kind.Local 0)) (local_is 0))
    ∙ ap (λ (z : Sense). kind_step (kind.Binary bin.Add (meant (kind_step (kind.Local 0))) z)) (word_is (k.Local 1) (kind_step (kind.Local 1)) (local_is 1))

-- `return a + b;`
gives_sum : (x y : ℕ) (w : World) → does (s.Return (Some (word sum))) around (x ∷ y ∷ []) w ≡ Has (flow.Return ((x + y) % 4294967296)) (x ∷ y ∷ []) w
gives_sum x y w =
    ap (λ d. d around (x ∷ y ∷ []) w) (returns (Some (word sum)))
    ∙ ap (λ (z : Sense). then_with (z.value around (x ∷ y ∷ []) w) (λ v. leaves (flow.Return v) around)) (word_is sum sum_meant sum_is)

-- `while (1) ;` uses up its turns
is_spent : (l : List ℕ) (w : World) → does (s.While (word (k.Const 1)) s.Empty) around l w ≡ Ends end.Spent w
is_spent l w =
    ap (λ d. d around l w) (while_is (word (k.Const 1)) s.Empty)
    ∙ ap (λ (z : Sense). looped (while_so z.value (does s.Empty)) around l w) (word_is (k.Const 1) (kind_step (kind.Const 1)) (constant_is 1))
    ∙ ap (λ d. looped (while_so (meant (kind_step (kind.Const 1))).value d) around l w) empty_is
