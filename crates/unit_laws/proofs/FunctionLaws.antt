-- A function is in range at the end of its unit.
use Rattle.std.proofs.Common.{◌≡◌, ◌+◌, true, length, subst, sym, le_refl}
use Rattle.c_tree.specs.declared.program.TFunction.{TFunction}
use Rattle.c_tree.specs.Numbers.{function_in_range, names_of_unit, stmt_in_range}
use Rattle.c_tree.specs.Numbers.{Around as Range}
use Rattle.c_scope.specs.declared.tables.Tables.{Tables}
use Rattle.range_laws.specs.Ranges.{NamesWithin, externs_of, names}
use Rattle.range_laws.proofs.Wider.{stmt_wider}
use Rattle.unit_laws.specs.Stmts.{StmtAt}

pub function_at_end : (f : TFunction) (s t : Tables) → StmtAt f.entry f.body s → length f.params + length f.locals ≡ length s.locals → NamesWithin (names s) (names t) → function_in_range (names_of_unit (externs_of t)) f ≡ true
function_at_end f s t h many within =
    let a : Range = record { names = names s; locals = length f.params + length f.locals; entry = f.entry } in
    let b : Range = record { names = names t; locals = length f.params + length f.locals; entry = f.entry } in
    stmt_wider a b (record { names = within; locals = le_refl (length f.params + length f.locals); entry = λ e. e }) f.body
    (subst (λ n. stmt_in_range (record { names = names s; locals = n; entry = f.entry }) f.body ≡ true) (sym many) h)
