use Rattle.std.proofs.Common.{ap, ◌∙◌}
use Rattle.std.proofs.lemmas.Result.{IfOk-weaker}
use Rattle.elf32.specs.Tables.{names_of, symbol_table, string_table}
use Rattle.import_lib.specs.Library.{symbols_of}
use Rattle.import_lib.proofs.Files.{library_from_parts}
use Rattle.import_lib.proofs.write.write_implib.Goals as goal

pub returns : goal.returns
returns c = IfOk-weaker c.joined.result _ _ (λ file e. e ∙ library_from_parts c.args.veneers.now.list _ _ _ _ _
    (c.in_ok-table.ensures.symbols ∙ ap (λ vs. symbol_table (symbols_of vs)) c.as_slice.ensures)
    (c.in_ok-table.ensures.strings ∙ ap (λ vs. string_table (names_of (symbols_of vs))) c.as_slice.ensures)
    c.len-symbols_size.ensures c.len-strings_size.ensures c.aligned.ensures.value) c.joined.ensures
