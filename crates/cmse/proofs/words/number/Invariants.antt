use Rattle.std.proofs.Common.{◌≡◌, ◌<◌, ◌≤◌, ◌^◌, length, drop}
use Rattle.cmse.specs.Words.{number_after}
use Rattle.cmse.proofs.words.number.Given as goal

abbrev pub invariant-loop-c : goal.invariant-loop-c
invariant-loop-c l = (number_after l.n (drop l.c-index l.word) ≡ number_after 0 l.word) × (l.n < 10 ^ l.c-index) × (length l.word ≤ 10)
