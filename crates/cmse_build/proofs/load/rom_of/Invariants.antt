use Rattle.std.proofs.Common.{◌≡◌, ◌-◌, length, take}
use Rattle.std.specs.List.{fold}
use Rattle.cm_base.specs.declared.regions.TheConstants.{SECURE_ROM, NSC}
use Rattle.cmse_build.specs.Reading.{loaded, zeros, rom_size}
use Rattle.cmse_build.proofs.load.rom_of.Given as goal

abbrev pub invariant-loop-s : goal.invariant-loop-s
invariant-loop-s l = record {
  bytes : l.rom.items ≡ fold (loaded l.bytes) (zeros rom_size) (take l.s-index l.segments);
  size : length l.rom.items ≡ NSC.to - SECURE_ROM.from;
}
