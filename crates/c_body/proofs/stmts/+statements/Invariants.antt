use Rattle.std.proofs.Common.{◌≡◌, drop, map}
use Rattle.c_body.specs.Stmts.{items, items_from, adding, parts, parts_from, choosing}
use Rattle.c_body.proofs.stmts.+statements.Given as goal

-- what is left to read answers as the whole
abbrev pub invariant-items-loop-one : goal.invariant-items-loop-one
invariant-items-loop-one l = items l.list l.gives l.w l.fn.tables ≡ items_from l.all (map adding (drop l.one-index l.list)) l.gives l.w l.tables

abbrev pub invariant-parts-loop-one : goal.invariant-parts-loop-one
invariant-parts-loop-one l = parts l.list l.gives l.w l.fn.tables ≡ parts_from l.arms (map choosing (drop l.one-index l.list)) l.gives l.w l.tables
