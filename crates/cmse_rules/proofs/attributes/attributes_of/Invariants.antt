use Rattle.std.proofs.Common.{◌≡◌, drop}
use Rattle.cmse_rules.specs.Attributes.{attributes}
use Rattle.cmse_rules.proofs.attributes.attributes_of.Given as goal

-- what is left to read answers as the whole
abbrev pub invariant-loop-attr : goal.invariant-loop-attr
invariant-loop-attr l = attributes l.attrs l.fn.so_far ≡ attributes (drop l.attr-index l.attrs) l.all
