-- What holds of statements and of elements of initialisers at a place of a unit's text.
use Rattle.std.specs.Prelude.{◌≡◌, Bool, true, List}
use Rattle.std.specs.List.{list_all}
use Rattle.c_tree.specs.declared.stmt.Item.{Item}
use Rattle.c_tree.specs.declared.stmt.Stmt.{Stmt}
use Rattle.c_tree.specs.Numbers.{items_in_range, stmt_in_range}
use Rattle.c_scope.specs.declared.tables.Tables.{Tables}
use Rattle.range_laws.specs.Ranges.{range}

abbrev pub ItemsAt : Bool → List Item → Tables → Type 0
ItemsAt entry items t = items_in_range (range entry t) items ≡ true

abbrev pub StmtAt : Bool → Stmt → Tables → Type 0
StmtAt entry x t = stmt_in_range (range entry t) x ≡ true

abbrev pub StmtsAt : Bool → List Stmt → Tables → Type 0
StmtsAt entry xs t = list_all (stmt_in_range (range entry t)) xs ≡ true
