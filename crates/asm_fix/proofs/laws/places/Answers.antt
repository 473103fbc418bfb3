use Rattle.std.proofs.Common.{arith, refl}
use Rattle.asm_fix.specs.Fixed.{place_of}
use Rattle.asm_fix.proofs.Labels.{place_of_label, place_is}
use Rattle.asm_fix.proofs.Ranges.{all_in_range, length_fixed}
use Rattle.asm_fix.proofs.laws.places.Goals as goal

pub returns-clause-place : goal.returns-clause-place
returns-clause-place c = place_of_label

pub returns-clause-size : goal.returns-clause-size
returns-clause-size c asm = length_fixed (place_of asm) 0 asm

pub returns-clause-range : goal.returns-clause-range
returns-clause-range c asm f = all_in_range (place_of asm) 0 asm (λ l. place_is asm 512000 l f.short) refl (omega (arith, f.short)) f.range
