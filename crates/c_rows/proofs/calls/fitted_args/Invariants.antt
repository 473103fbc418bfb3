use Rattle.std.proofs.Common.{◌≡◌, [], drop, length}
use Rattle.c_rows.specs.Calls.{fitted_from}
use Rattle.c_rows.proofs.calls.fitted_args.Given as goal

-- what is left to convert, behind what is done, answers as the whole
abbrev pub invariant-loop-i : goal.invariant-loop-i
invariant-loop-i l = (length l.params ≡ length l.args) × (fitted_from [] l.params l.args ≡ fitted_from l.done (drop l.i l.params) (drop l.i l.args))
