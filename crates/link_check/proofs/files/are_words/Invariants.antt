use Rattle.std.proofs.Common.{◌≡◌, drop}
use Rattle.std.specs.List.{list_all}
use Rattle.link_check.specs.Checks.{is_word}
use Rattle.link_check.proofs.files.are_words.Given as goal

abbrev pub invariant-loop-s : goal.invariant-loop-s
invariant-loop-s l = list_all is_word l.symbols ≡ list_all is_word (drop l.s-index l.symbols)
