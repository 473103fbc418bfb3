use Rattle.std.proofs.Common.{Err, sym, subst}
use Rattle.elf_object.specs.Reading.{IsFileOf, Reads}
use Rattle.linker.proofs.place.object_of.Goals as goal

pub unreachable-requires : goal.unreachable-requires
unreachable-requires c =
    let file = c.requires.is in
    let bad = subst (λ e. Reads c.as_slice.result.now (Err e)) c.in-Err-BadElf.field-0-is c.in-Err-BadElf.ensures.reads in
    bad.0 file.object file.words (subst (λ b. IsFileOf b file.object) (sym c.as_slice.ensures) file.is)
