-- The code of each kind of expression, as an equation, and what each kind is as a place.
use Rattle.std.proofs.Common.{◌≡◌, ℕ, suc, ◌+◌, Bool, List, [], ◌∷◌, ◌++◌, length, map, refl, sym, ap, ◌∙◌, slice_get, slice_index}
use Rattle.c_types.specs.declared.ctype.CType.{CType}
use Rattle.c_tree.specs.declared.expr.BinOp.{BinOp}
use Rattle.c_tree.specs.declared.expr.UnOp.{UnOp}
use Rattle.c_tree.specs.declared.expr.Expr.{Expr, outs-Expr'}
use Rattle.c_tree.specs.declared.expr.ExprKind.{ExprKind, roll-ExprKind}
use Rattle.c_tree.specs.declared.expr.ExprKind.TheVariants as kind
use Rattle.c_tree.specs.declared.expr.ExprKind.TheOpen as k
use Rattle.c_tree.specs.declared.expr.ExprKind.TheOpen.{ExprKind-F, Expr-F}
use Rattle.c_tree.specs.declared.expr.ExprKind.TheFolds.{map-ExprKind, fold_out-Expr, fold-roll-ExprKind}
use Rattle.c_const.specs.Operate.{is_signed}
use Rattle.mid_ir.specs.declared.stmt.MidStmt.TheVariants as mid
use Rattle.lower_code.specs.Frames.{Frame}
use Rattle.lower_code.specs.Pieces.{kind_of, convert, operation, operation_one, truth, moved_by, apart, cleared, is_even, choose, places}
use Rattle.lower_code.specs.Exprs.{Fixed, Based, Computed, address, place_at, member, read, assigned, assigned_op, stepped, Coded, Operand, kind_step, expr_step, coded, kind_coded, code, place, all_codes}

coded_is : (fr : Frame) (e : Expr) → coded fr e ≡ expr_step (record { kind = kind_coded fr e.kind; ctype = e.ctype; place = e.place })
coded_is fr e = fold_out-Expr (CType → Coded) Operand (kind_step fr) expr_step e ∙ ap (λ z. expr_step (record { kind = kind_coded fr z.kind; ctype = z.ctype; place = z.place })) (outs-Expr' e)

pub ctype_is : (fr : Frame) (e : Expr) → (coded fr e).ctype ≡ e.ctype
ctype_is fr e = ap (λ z. z.ctype) (coded_is fr e)

abbrev layer : Frame → ExprKind-F ExprKind Expr → ExprKind-F (CType → Coded) Operand
layer fr x = map-ExprKind ExprKind Expr (CType → Coded) Operand (kind_coded fr) (coded fr) x

kind_at : (fr : Frame) (e : Expr) (x : ExprKind-F ExprKind Expr) → roll-ExprKind x ≡ e.kind → kind_coded fr e.kind ≡ kind_step fr (layer fr x)
kind_at fr e x h = ap (kind_coded fr) (sym h) ∙ fold-roll-ExprKind (CType → Coded) Operand (kind_step fr) expr_step x

code_at : (fr : Frame) (e : Expr) (x : ExprKind-F ExprKind Expr) (t : ℕ) → roll-ExprKind x ≡ e.kind → code fr e t ≡ (kind_step fr (layer fr x) e.ctype).code t
code_at fr e x t h = ap (λ z. z.code t) (coded_is fr e) ∙ ap (λ z. (z e.ctype).code t) (kind_at fr e x h)

place_is : (fr : Frame) (e : Expr) (x : ExprKind-F ExprKind Expr) → roll-ExprKind x ≡ e.kind → place fr e ≡ (kind_step fr (layer fr x) e.ctype).place
place_is fr e x h = ap (λ z. z.place) (coded_is fr e) ∙ ap (λ z. (z e.ctype).place) (kind_at fr e x h)

module _ (fr : Frame) (e : Expr) where
  -- ---- places

  pub place_Local : (n : ℕ) → e.kind ≡ kind.Local n → place fr e ≡ place_at (slice_get fr.homes n)
  place_Local n h = place_is fr e (k.Local n) (kind.rolls-Local n ∙ sym h)

  pub place_Global : (n : ℕ) → e.kind ≡ kind.Global n → place fr e ≡ Based (Fixed (slice_index fr.globals n))
  place_Global n h = place_is fr e (k.Global n) (kind.rolls-Global n ∙ sym h)

  pub place_Deref : (a : Expr) → e.kind ≡ kind.Deref a → place fr e ≡ Computed (code fr a)
  place_Deref a h = place_is fr e (k.Deref a) (kind.rolls-Deref a ∙ sym h)

  pub place_Member : (a : Expr) (offset : ℕ) → e.kind ≡ kind.Member a offset → place fr e ≡ member fr.bytes (place fr a) offset
  place_Member a offset h = place_is fr e (k.Member a offset) (kind.rolls-Member a offset ∙ sym h)

  -- ---- code

  pub code_Const : (n t : ℕ) → e.kind ≡ kind.Const n → code fr e t ≡ mid.Const t n ∷ []
  code_Const n t h = code_at fr e (k.Const n) t (kind.rolls-Const n ∙ sym h)

  pub code_Local : (n t : ℕ) → e.kind ≡ kind.Local n → code fr e t ≡ read e.ctype (place_at (slice_get fr.homes n)) t
  code_Local n t h = code_at fr e (k.Local n) t (kind.rolls-Local n ∙ sym h)

  pub code_Global : (n t : ℕ) → e.kind ≡ kind.Global n → code fr e t ≡ read e.ctype (Based (Fixed (slice_index fr.globals n))) t
  code_Global n t h = code_at fr e (k.Global n) t (kind.rolls-Global n ∙ sym h)

  pub code_Deref : (a : Expr) (t : ℕ) → e.kind ≡ kind.Deref a → code fr e t ≡ read e.ctype (Computed (code fr a)) t
  code_Deref a t h = code_at fr e (k.Deref a) t (kind.rolls-Deref a ∙ sym h)

  pub code_Member : (a : Expr) (offset t : ℕ) → e.kind ≡ kind.Member a offset → code fr e t ≡ read e.ctype (member fr.bytes (place fr a) offset) t
  code_Member a offset t h = code_at fr e (k.Member a offset) t (kind.rolls-Member a offset ∙ sym h)

  pub code_Addr : (a : Expr) (t : ℕ) → e.kind ≡ kind.Addr a → code fr e t ≡ address (place fr a) t
  code_Addr a t h = code_at fr e (k.Addr a) t (kind.rolls-Addr a ∙ sym h)

  pub code_Convert : (a : Expr) (t : ℕ) → e.kind ≡ kind.Convert a → code fr e t ≡ code fr a t ++ convert e.ctype t
  code_Convert a t h = code_at fr e (k.Convert a) t (kind.rolls-Convert a ∙ sym h)

  pub code_Unary : (o : UnOp) (a : Expr) (t : ℕ) → e.kind ≡ kind.Unary o a → code fr e t ≡ code fr a t ++ operation_one o t
  code_Unary o a t h = code_at fr e (k.Unary o a) t (kind.rolls-Unary o a ∙ sym h)

  pub code_Binary : (o : BinOp) (a b : Expr) (t : ℕ) → e.kind ≡ kind.Binary o a b → code fr e t ≡ code fr a t ++ (code fr b (t + 1) ++ operation o (is_signed a.ctype) t t (t + 1) ∷ [])
  code_Binary o a b t h =
      code_at fr e (k.Binary o a b) t (kind.rolls-Binary o a b ∙ sym h)
      ∙ ap (λ z. code fr a t ++ (code fr b (t + 1) ++ operation o (is_signed z) t t (t + 1) ∷ [])) (ctype_is fr a)

  pub code_PtrAdd : (a b : Expr) (size t : ℕ) → e.kind ≡ kind.PtrAdd a b size → code fr e t ≡ code fr a t ++ (code fr b (t + 1) ++ moved_by size t)
  code_PtrAdd a b size t h = code_at fr e (k.PtrAdd a b size) t (kind.rolls-PtrAdd a b size ∙ sym h)

  pub code_PtrDiff : (a b : Expr) (size t : ℕ) → e.kind ≡ kind.PtrDiff a b size → code fr e t ≡ code fr a t ++ (code fr b (t + 1) ++ apart size t)
  code_PtrDiff a b size t h = code_at fr e (k.PtrDiff a b size) t (kind.rolls-PtrDiff a b size ∙ sym h)

  pub code_And : (a b : Expr) (t : ℕ) → e.kind ≡ kind.And a b → code fr e t ≡ code fr a t ++ choose t (code fr b t ++ truth t) (mid.Const t 0 ∷ []) ∷ []
  code_And a b t h = code_at fr e (k.And a b) t (kind.rolls-And a b ∙ sym h)

  pub code_Or : (a b : Expr) (t : ℕ) → e.kind ≡ kind.Or a b → code fr e t ≡ code fr a t ++ choose t (mid.Const t 1 ∷ []) (code fr b t ++ truth t) ∷ []
  code_Or a b t h = code_at fr e (k.Or a b) t (kind.rolls-Or a b ∙ sym h)

  pub code_Cond : (a b c : Expr) (t : ℕ) → e.kind ≡ kind.Cond a b c → code fr e t ≡ code fr a t ++ choose t (code fr b t) (code fr c t) ∷ []
  code_Cond a b c t h = code_at fr e (k.Cond a b c) t (kind.rolls-Cond a b c ∙ sym h)

  pub code_Assign : (a b : Expr) (t : ℕ) → e.kind ≡ kind.Assign a b → code fr e t ≡ assigned e.ctype (place fr a) (code fr b) t
  code_Assign a b t h = code_at fr e (k.Assign a b) t (kind.rolls-Assign a b ∙ sym h)

  pub code_AssignOp : (o : BinOp) (a b : Expr) (t : ℕ) → e.kind ≡ kind.AssignOp o a b → code fr e t ≡ assigned_op (record { op = o; place = e.ctype; operand = b.ctype }) (place fr a) (code fr b) t
  code_AssignOp o a b t h =
      code_at fr e (k.AssignOp o a b) t (kind.rolls-AssignOp o a b ∙ sym h)
      ∙ ap (λ z. assigned_op (record { op = o; place = e.ctype; operand = z }) (place fr a) (code fr b) t) (ctype_is fr b)

  pub code_Step : (a : Expr) (by : ℕ) (old : Bool) (t : ℕ) → e.kind ≡ kind.Step a by old → code fr e t ≡ stepped e.ctype by old (place fr a) t
  code_Step a by old t h = code_at fr e (k.Step a by old) t (kind.rolls-Step a by old ∙ sym h)

  pub code_Comma : (a b : Expr) (t : ℕ) → e.kind ≡ kind.Comma a b → code fr e t ≡ code fr a t ++ code fr b t
  code_Comma a b t h = code_at fr e (k.Comma a b) t (kind.rolls-Comma a b ∙ sym h)

  many : (es : List Expr) → length (map (coded fr) es) ≡ length es
  many [] = refl
  many (x ∷ es) = ap suc (many es)

  pub code_Call : (n : ℕ) (es : List Expr) (t : ℕ) → e.kind ≡ kind.Call n es → code fr e t ≡ all_codes t (map (coded fr) es) ++ mid.Call t n (places t (length es)) ∷ []
  code_Call n es t h = code_at fr e (k.Call n es) t (kind.rolls-Call n es ∙ sym h) ∙ ap (λ m. all_codes t (map (coded fr) es) ++ mid.Call t n (places t m) ∷ []) (many es)

  pub code_NsCall : (p : Expr) (es : List Expr) (t : ℕ) → e.kind ≡ kind.NsCall p es → code fr e t ≡ code fr p t ++ (all_codes (t + 1) (map (coded fr) es) ++ mid.NsCall t t (places (t + 1) (length es)) (kind_of e.ctype) ∷ [])
  code_NsCall p es t h = code_at fr e (k.NsCall p es) t (kind.rolls-NsCall p es ∙ sym h) ∙ ap (λ m. code fr p t ++ (all_codes (t + 1) (map (coded fr) es) ++ mid.NsCall t t (places (t + 1) m) (kind_of e.ctype) ∷ [])) (many es)

  pub code_Range : (a b c : Expr) (t : ℕ) → e.kind ≡ kind.Range a b c → code fr e t ≡ code fr a t ++ (code fr b (t + 1) ++ (code fr c (t + 2) ++ mid.Range t t (t + 1) (t + 2) ∷ []))
  code_Range a b c t h = code_at fr e (k.Range a b c) t (kind.rolls-Range a b c ∙ sym h)

  pub code_NsCreate : (a : Expr) (t : ℕ) → e.kind ≡ kind.NsCreate a → code fr e t ≡ code fr a t ++ cleared t
  code_NsCreate a t h = code_at fr e (k.NsCreate a) t (kind.rolls-NsCreate a ∙ sym h)

  pub code_NsTest : (a : Expr) (t : ℕ) → e.kind ≡ kind.NsTest a → code fr e t ≡ code fr a t ++ is_even t
  code_NsTest a t h = code_at fr e (k.NsTest a) t (kind.rolls-NsTest a ∙ sym h)

  pub code_NsCaller : (t : ℕ) → e.kind ≡ kind.NsCaller → code fr e t ≡ mid.Caller t ∷ []
  code_NsCaller t h = code_at fr e k.NsCaller t (kind.rolls-NsCaller ∙ sym h)
