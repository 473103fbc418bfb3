use Rattle.std.proofs.Common.{◌++◌, ap, ◌∙◌}
use Rattle.elf32.specs.Structures.{header_bytes}
use Rattle.elf32.specs.Tables.{names_of, symbol_table, string_table}
use Rattle.elf_object.specs.Structures.{relocs_bytes, symbols_of}
use Rattle.elf_object.proofs.LayoutLaws.{file_from_parts}
use Rattle.elf_object.proofs.write.write_object.Goals as goal

pub returns : goal.returns
returns c = file_from_parts c.args.object.now _ _ _ _ _ _ _ c.layout_of-layout.result _ _ _ _ _
    (c.in_ok-relocs.ensures ∙ ap relocs_bytes c.as_slice.ensures)
    (c.in_ok-table.ensures.symbols ∙ ap (λ ss. symbol_table (symbols_of ss)) c.as_slice-2.ensures)
    (c.in_ok-table.ensures.strings ∙ ap (λ ss. string_table (names_of (symbols_of ss))) c.as_slice-2.ensures)
    c.len-text_size.ensures c.len-init_size.ensures c.len-relocs_size.ensures c.len-symbols_size.ensures c.len-strings_size.ensures
    c.layout_of-layout.ensures c.new-file.ensures
    (c.in_ok-put_header.ensures ∙ ap (λ h. c.new-file.result ++ header_bytes h) c.object_header.ensures) c.in_ok-put_contents.ensures c.in_ok-put_sections.ensures
