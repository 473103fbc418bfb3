use Rattle.std.proofs.Common.{◌≡◌, ◌++◌, take}
use Rattle.std.specs.List.{flat_map}
use Rattle.cm_base.specs.LittleEndian.{le32}
use Rattle.constant_entry.proofs.put_words.Given as goal

abbrev pub invariant-loop-word : goal.invariant-loop-word
invariant-loop-word l = l.to ≡ l.fn.to ++ flat_map le32 (take l.word-index l.words)
