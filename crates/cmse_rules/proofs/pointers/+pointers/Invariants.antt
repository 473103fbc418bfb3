use Rattle.std.proofs.Common.{◌≡◌, drop}
use Rattle.cmse_rules.specs.Pointers.{any_secure_pointer}
use Rattle.cmse_rules.proofs.pointers.+pointers.Given as goal

-- what is left to look at answers as the whole
abbrev pub invariant-any_secure_pointer-loop-t : goal.invariant-any_secure_pointer-loop-t
invariant-any_secure_pointer-loop-t l = any_secure_pointer l.ts ≡ any_secure_pointer (drop l.t-index l.ts)
