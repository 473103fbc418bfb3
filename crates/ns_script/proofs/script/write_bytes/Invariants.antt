use Rattle.std.proofs.Common.{◌≡◌, length, take}
use Rattle.ns_script.specs.Script.{with_bytes}
use Rattle.ns_script.proofs.script.write_bytes.Given as goal

abbrev pub invariant-loop-i : goal.invariant-loop-i
invariant-loop-i l = (l.to ≡ with_bytes l.fn.to l.at (take l.i l.more)) × (length l.to ≡ length l.fn.to)
