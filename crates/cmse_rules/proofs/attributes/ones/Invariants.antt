use Rattle.std.proofs.Common.{◌≡◌, drop}
use Rattle.cmse_rules.specs.Attributes.{ones}
use Rattle.cmse_rules.proofs.attributes.ones.Given as goal

-- what is left to read answers as the whole
abbrev pub invariant-loop-a : goal.invariant-loop-a
invariant-loop-a l = ones l.list l.fn.so_far ≡ ones (drop l.a-index l.list) l.all
