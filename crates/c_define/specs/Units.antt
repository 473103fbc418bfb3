-- The typed tree of a unit, or its first fault: its parts in the order of the text.
use Rattle.std.specs.Prelude.{List, [], ◌∷◌, ◌++◌, map, Ok}
use Rattle.c_ast.specs.declared.stmt.External.{External}
use Rattle.c_ast.specs.declared.stmt.External.TheVariants.{Include, Decl, Function}
use Rattle.c_ast.specs.declared.stmt.Unit.{Unit as Tree}
use Rattle.c_tree.specs.declared.program.Extern.{Extern}
use Rattle.c_tree.specs.declared.program.TFunction.{TFunction}
use Rattle.c_tree.specs.declared.program.TGlobal.{TGlobal}
use Rattle.c_tree.specs.Conditions.{TUnit}
use Rattle.c_rows.specs.Answers.{Checked, ◌>>=◌}
use Rattle.c_scope.specs.declared.tables.Known.{Known}
use Rattle.c_scope.specs.declared.tables.Tables.{Tables}
use Rattle.c_scope.specs.Headers.{include}
use Rattle.c_scope.specs.Lookup.{nothing}
use Rattle.c_scope.specs.Steps.{Step, ◌>>>◌}
use Rattle.c_decl.specs.Globals.{file_declaration}
use Rattle.c_define.specs.declared.units.Made.{Made}
use Rattle.c_define.specs.Functions.{defined}

abbrev pub no_definitions : Made
no_definitions = record { functions = []; globals = [] }

abbrev pub with_function : TFunction → Made → Made
with_function f all = record { functions = all.functions ++ f ∷ []; globals = all.globals }

abbrev pub with_globals : List TGlobal → Made → Made
with_globals gs all = record { functions = all.functions; globals = gs }

-- a part of the unit, behind what the parts before it define
abbrev pub part_typed : External → Made → Step Made
part_typed (Include place header) all s = include header place s >>> (λ done u. Ok (all, u))
part_typed (Decl d) all s = file_declaration d all.globals s >>> (λ gs u. Ok (with_globals gs all, u))
part_typed (Function f) all s = defined f s >>> (λ x u. Ok (with_function x all, u))

abbrev pub parts_typed : List External → Made → Step Made
parts_typed [] all s = Ok (all, s)
parts_typed (p ∷ ps) all s = part_typed p all s >>> (λ more u. parts_typed ps more u)

-- a function or a global that the unit declares
abbrev pub extern_of : Known → Extern
extern_of k = record { name = k.name; ctype = k.ctype; is_static = k.state.is_static; place = k.place }

abbrev pub externs_of : List Known → List Extern
externs_of ks = map extern_of ks

abbrev pub unit_of : Made → List Known → TUnit
unit_of all ks = record { functions = all.functions; globals = all.globals; externs = externs_of ks }

-- the typed tree of a unit
abbrev pub unit_typed : Tree → Checked TUnit
unit_typed unit = parts_typed unit.parts no_definitions nothing >>= (λ p. Ok (unit_of p.0 p.1.externs))
