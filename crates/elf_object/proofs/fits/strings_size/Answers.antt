use Rattle.std.proofs.Common.{List, length, arith}
use Rattle.std.proofs.lemmas.List.{at_drop_all}
use Rattle.elf32.specs.Tables.{names_of, strings}
use Rattle.elf_object.specs.declared.object.Symbol.{Symbol}
use Rattle.elf_object.specs.Structures.{symbols_of}
use Rattle.elf_object.proofs.fits.strings_size.Goals as goal

pub returns : goal.returns
returns c =
    let none = at_drop_all (λ (ss : List Symbol). length (strings (names_of (symbols_of ss)))) c.args.symbols.now c.loop-s.s-index (omega arith) in
    (omega (arith, none, c.loop-s.invariant.sum, c.loop-s.invariant.fits), omega (arith, none, c.loop-s.invariant.sum))
