use Rattle.std.proofs.Common.{◌≡◌, ◌++◌, flat_map, take}
use Rattle.cm_base.specs.LittleEndian.{le32}
use Rattle.linker.proofs.parts.put_words.Given as goal

abbrev pub invariant-loop-word : goal.invariant-loop-word
invariant-loop-word l = l.to ≡ l.initial.to ++ flat_map le32 (take l.word-index l.words)
