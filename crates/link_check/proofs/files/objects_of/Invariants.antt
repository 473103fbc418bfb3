use Rattle.std.proofs.Common.{◌≡◌, ℕ, List, ◌<◌, get_or, map, take}
use Rattle.elf_object.specs.Reading.{IsObjectFile, object_in}
use Rattle.link_check.proofs.files.objects_of.Given as goal

abbrev pub invariant-loop-file : goal.invariant-loop-file
invariant-loop-file l = record {
  objects : l.objects ≡ map object_in (take l.file-index l.files);
  files : (k : ℕ) (d : List ℕ) → k < l.file-index → IsObjectFile (get_or l.files k d);
}
