use Rattle.std.proofs.Common.{◌≡◌, drop}
use Rattle.c_types.specs.Sizes.{all_fit}
use Rattle.c_types.proofs.+fits.Given as goal

-- what is left to test answers as the whole
abbrev pub invariant-sizes::all_fit-loop-t : goal.invariant-sizes::all_fit-loop-t
invariant-sizes::all_fit-loop-t l = all_fit l.ts ≡ all_fit (drop l.t-index l.ts)
