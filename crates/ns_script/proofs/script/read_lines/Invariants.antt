use Rattle.std.proofs.Common.{◌≡◌, ◌+◌, ◌≤◌, length}
use Rattle.ns_types.specs.Memory.{IsStart}
use Rattle.ns_script.specs.Text.{lines}
use Rattle.ns_script.specs.Script.{script_from}
use Rattle.ns_script.proofs.script.read_lines.Given as goal

abbrev pub invariant-loop-rest : goal.invariant-loop-rest
invariant-loop-rest l =
    (script_from (l.number + 1) l.script (lines l.rest) ≡ script_from 2 l.fn.first (lines l.text))
    × (l.number + length l.rest ≤ 1 + length l.text) × IsStart l.script.start

abbrev pub decreases-loop-rest : goal.decreases-loop-rest
decreases-loop-rest l = length l.rest
