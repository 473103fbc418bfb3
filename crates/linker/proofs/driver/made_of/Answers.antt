use Rattle.std.proofs.Common.{◌≡◌, map, flat_map, sym, ap, ◌∙◌, refl}
use Rattle.elf_object.specs.Reading.{object_in}
use Rattle.link_laws.specs.Sites.{sited, used}
use Rattle.linker.specs.Table.{veneer_names, defined}
use Rattle.linker.specs.Passes.{symbols_of_veneer}
use Rattle.linker.proofs.MadeLaws.{put_here, lead_here, stop_here, low_here, made_here}
use Rattle.linker.proofs.driver.made_of.Goals as goal

pub rom_of-requires-clause-put : goal.rom_of-requires-clause-put
rom_of-requires-clause-put c =
    let objs = map object_in c.args.objects.now in
    let vs = c.args.veneers.list in
    let es = c.in_ok-entries.entries in
    let ns = c.in_ok-names.names in
    let al = c.as_slice-3.result.now in
    let ea : al ≡ sited objs = c.as_slice-3.ensures ∙ (c.in_ok-all.ensures ∙ ap sited c.in_ok-objects.ensures) in
    let ee : es ≡ veneer_names vs = c.in_ok-entries.ensures ∙ ap veneer_names c.as_slice.ensures in
    let en : ns ≡ defined es al = c.in_ok-names.ensures ∙ ap (defined es) (c.as_slice-2.ensures ∙ sym c.as_slice-3.ensures) in
    put_here objs vs c.requires.can es ns al c.as_slice-4.result.now ea ee en c.as_slice-4.ensures

pub rom_of-requires-clause-lead : goal.rom_of-requires-clause-lead
rom_of-requires-clause-lead c =
    let objs = map object_in c.args.objects.now in
    let vs = c.args.veneers.list in
    let es = c.in_ok-entries.entries in
    let ns = c.in_ok-names.names in
    let al = c.as_slice-3.result.now in
    let ea : al ≡ sited objs = c.as_slice-3.ensures ∙ (c.in_ok-all.ensures ∙ ap sited c.in_ok-objects.ensures) in
    let ee : es ≡ veneer_names vs = c.in_ok-entries.ensures ∙ ap veneer_names c.as_slice.ensures in
    let en : ns ≡ defined es al = c.in_ok-names.ensures ∙ ap (defined es) (c.as_slice-2.ensures ∙ sym c.as_slice-3.ensures) in
    lead_here objs vs c.requires.can es ns al c.as_slice-4.result.now ea ee en c.as_slice-4.ensures

pub rom_of-requires-clause-stop : goal.rom_of-requires-clause-stop
rom_of-requires-clause-stop c =
    let objs = map object_in c.args.objects.now in
    let vs = c.args.veneers.list in
    let es = c.in_ok-entries.entries in
    let ns = c.in_ok-names.names in
    let al = c.as_slice-3.result.now in
    let ea : al ≡ sited objs = c.as_slice-3.ensures ∙ (c.in_ok-all.ensures ∙ ap sited c.in_ok-objects.ensures) in
    let ee : es ≡ veneer_names vs = c.in_ok-entries.ensures ∙ ap veneer_names c.as_slice.ensures in
    let en : ns ≡ defined es al = c.in_ok-names.ensures ∙ ap (defined es) (c.as_slice-2.ensures ∙ sym c.as_slice-3.ensures) in
    stop_here objs vs c.requires.can es ns al c.as_slice-4.result.now ea ee en c.as_slice-4.ensures

pub rom_of-requires-clause-low : goal.rom_of-requires-clause-low
rom_of-requires-clause-low c =
    let objs = map object_in c.args.objects.now in
    let vs = c.args.veneers.list in
    let es = c.in_ok-entries.entries in
    let ns = c.in_ok-names.names in
    let al = c.as_slice-3.result.now in
    let ea : al ≡ sited objs = c.as_slice-3.ensures ∙ (c.in_ok-all.ensures ∙ ap sited c.in_ok-objects.ensures) in
    let ee : es ≡ veneer_names vs = c.in_ok-entries.ensures ∙ ap veneer_names c.as_slice.ensures in
    let en : ns ≡ defined es al = c.in_ok-names.ensures ∙ ap (defined es) (c.as_slice-2.ensures ∙ sym c.as_slice-3.ensures) in
    low_here objs vs c.requires.can es ns al c.as_slice-4.result.now ea ee en c.as_slice-4.ensures

pub returns : goal.returns
returns c =
    let objs = map object_in c.args.objects.now in
    let vs = c.args.veneers.list in
    let es = c.in_ok-entries.entries in
    let ns = c.in_ok-names.names in
    let al = c.as_slice-3.result.now in
    let ea : al ≡ sited objs = c.as_slice-3.ensures ∙ (c.in_ok-all.ensures ∙ ap sited c.in_ok-objects.ensures) in
    let ee : es ≡ veneer_names vs = c.in_ok-entries.ensures ∙ ap veneer_names c.as_slice.ensures in
    let en : ns ≡ defined es al = c.in_ok-names.ensures ∙ ap (defined es) (c.as_slice-2.ensures ∙ sym c.as_slice-3.ensures) in
    made_here objs vs c.requires.can es ns al c.as_slice-4.result.now ea ee en c.as_slice-4.ensures _ c.in_ok-rom.ensures
    (c.used-used.ensures ∙ ap used (c.as_slice-6.ensures ∙ sym c.as_slice-3.ensures))
    (c.in_ok-symbols.ensures ∙ ap (flat_map (symbols_of_veneer ns)) (c.as_slice-5.ensures ∙ sym c.as_slice-4.ensures))
    refl
