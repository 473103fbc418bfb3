use Rattle.std.proofs.Common.{◌<◌, ◌^◌, ap, ◌∙◌, arith}
use Rattle.cmse_build.specs.Reading.{rom_of_image}
use Rattle.cmse_build.proofs.ReadBack.{image_reads_back}
use Rattle.cmse_build.proofs.FileParts.{image_from_parts}
use Rattle.cmse_build.proofs.image.write_image.Goals as goal

pub returns : goal.returns
returns c =
    let value = image_from_parts c.args.entry c.args.rom_used.now c.args.gateways.now c.args.gates.now _ _ _ _ _ _ c.layout_of-layout.result _ _
    c.in_ok-table.ensures.symbols c.in_ok-table.ensures.strings c.len-symbols_size.ensures c.len-strings_size.ensures
    c.layout_of-layout.ensures.value c.new-file.ensures c.in_ok-put_headers.ensures c.in_ok-put_parts.ensures c.in_ok-put_table_sections.ensures in
    let low : c.args.entry < 2 ^ 32 = omega arith in
    record {
      value = value;
      reads_back = λ some few all is. ap rom_of_image value ∙ image_reads_back c.args.entry c.args.rom_used.now c.args.gateways.now c.args.gates.now low some few all is;
    }
