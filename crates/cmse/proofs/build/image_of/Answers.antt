use Rattle.std.proofs.Common.{◌≡◌, ◌<◌, ◌≤◌, ◌+◌, ◌-◌, ◌++◌, length, true, Ok, ap, sym, subst, ◌∙◌, arith}
use Rattle.std.proofs.lemmas.Result.{IfOk-weaker}
use Rattle.cmse_build.specs.Constant.{is_entry_name}
use Rattle.cmse_build.specs.Reading.{rom_of_image, rom_used_most, gateways_size, zeros, word, is_entry}
use Rattle.cmse_build.specs.Image.{image_of}
use Rattle.cmse_build.proofs.Ready.{image_ready}
use Rattle.constant_entry.specs.Code.{start_place, rom_bytes, used_bytes, gateway_bytes}
use Rattle.constant_entry.proofs.Placed.{used_size, region_size}
use Rattle.cmse.specs.Build.{one_gate}
use Rattle.cmse.proofs.BuildLaws.{entry_word, same_rom, same_file}
use Rattle.cmse.proofs.build.image_of.Goals as goal

pub write_image-requires : goal.write_image-requires
write_image-requires c =
    let rom : c.as_slice.result.now ≡ used_bytes c.args.n = c.as_slice.ensures ∙ c.in_ok-rom.ensures in
    let region : c.as_slice-2.result.now ≡ gateway_bytes = c.as_slice-2.ensures ∙ c.in_ok-region.ensures in
    let a : length c.as_slice.result.now ≡ 234 = ap length rom ∙ used_size c.args.n in
    let b : length c.as_slice-2.result.now ≡ gateways_size = ap length region ∙ region_size in
    image_ready c.in_ok-from_slice.field-0 c.as_slice.result.now c.as_slice-2.result.now _ (subst (λ n. is_entry_name n ≡ true) (sym c.in_ok-from_slice.ensures) c.requires) (omega arith) (omega arith)

pub returns-clause-file : goal.returns-clause-file
returns-clause-file c =
    let rom : c.as_slice.result.now ≡ used_bytes c.args.n = c.as_slice.ensures ∙ c.in_ok-rom.ensures in
    let region : c.as_slice-2.result.now ≡ gateway_bytes = c.as_slice-2.ensures ∙ c.in_ok-region.ensures in
    IfOk-weaker c.write_image.result
    (λ file. file ≡ image_of (start_place + 1) c.as_slice.result.now c.as_slice-2.result.now (one_gate c.in_ok-from_slice.field-0))
    (λ file. file ≡ image_of (start_place + 1) (used_bytes c.args.n) gateway_bytes (one_gate c.args.name.now))
    (λ file e. e ∙ same_file c.args.n c.as_slice.result.now c.as_slice-2.result.now c.in_ok-from_slice.field-0 c.args.name.now rom region c.in_ok-from_slice.ensures)
    c.write_image.ensures.value

pub returns-clause-reads : goal.returns-clause-reads
returns-clause-reads c =
    let rom : c.as_slice.result.now ≡ used_bytes c.args.n = c.as_slice.ensures ∙ c.in_ok-rom.ensures in
    let region : c.as_slice-2.result.now ≡ gateway_bytes = c.as_slice-2.ensures ∙ c.in_ok-region.ensures in
    let a : length c.as_slice.result.now ≡ 234 = ap length rom ∙ used_size c.args.n in
    let b : length c.as_slice-2.result.now ≡ gateways_size = ap length region ∙ region_size in
    let e : is_entry (start_place + 1) (word c.as_slice.result.now 4) ≡ true = ap (λ r. is_entry (start_place + 1) (word r 4)) rom ∙ entry_word c.args.n in
    IfOk-weaker c.write_image.result
    (λ file. 4 < length c.as_slice.result.now → length c.as_slice.result.now ≤ rom_used_most → length c.as_slice-2.result.now ≡ gateways_size → is_entry (start_place + 1) (word c.as_slice.result.now 4) ≡ true → rom_of_image file ≡ Ok ((c.as_slice.result.now ++ zeros (rom_used_most - length c.as_slice.result.now)) ++ c.as_slice-2.result.now))
    (λ file. rom_of_image file ≡ Ok (rom_bytes c.args.n))
    (λ file reads. reads (omega arith) (omega arith) b e ∙ ap Ok (same_rom c.args.n c.as_slice.result.now c.as_slice-2.result.now rom region))
    c.write_image.ensures.reads_back
