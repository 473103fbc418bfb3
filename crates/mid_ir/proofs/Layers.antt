-- One layer of a statement: what a fold makes of it, from what it makes of the statements in it.
use Rattle.std.proofs.Common.{◌≡◌, sym, ap, ◌∙◌}
use Rattle.mid_ir.specs.declared.stmt.MidStmt.{MidStmt, roll-MidStmt}
use Rattle.mid_ir.specs.declared.stmt.MidStmt.TheOpen.{MidStmt-F}
use Rattle.mid_ir.specs.declared.stmt.MidStmt.TheFolds.{map-MidStmt, fold-MidStmt, fold-roll-MidStmt}

pub layer : (A : Type 0) (step : MidStmt-F A → A) (m : MidStmt) (x : MidStmt-F MidStmt) → roll-MidStmt x ≡ m → fold-MidStmt A step m ≡ step (map-MidStmt MidStmt A (fold-MidStmt A step) x)
layer A step m x e = ap (fold-MidStmt A step) (sym e) ∙ fold-roll-MidStmt A step x
