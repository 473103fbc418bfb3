use Rattle.std.proofs.Common.{◌≡◌, ℕ, ◌+◌, List, ◌∷◌, length, drop, sym, ap, ◌∙◌, arith, length-append}
use Rattle.std.proofs.lemmas.List.{at_drop_more}
use Rattle.cmse_build.specs.declared.image.Gate.{Gate}
use Rattle.elf32.specs.Tables.{names_of, strings}
use Rattle.cmse_build.specs.Image.{symbols_of}
use Rattle.cmse_build.proofs.FileParts.{first_name_fits}
use Rattle.cmse_build.proofs.image.table_of.Goals as goal

pub push-requires : goal.push-requires
push-requires c = omega (arith, length-append {A = ℕ}, ap length c.loop-gate.invariant.strings)

pub push-requires-in-loop-gate : goal.push-requires-in-loop-gate
push-requires-in-loop-gate c =
    let size : List Gate → ℕ = λ gates. length (strings (names_of (symbols_of gates))) in
    let at = at_drop_more size c.args.gates.now c.loop-gate.gate-index c.gate-item.result c.loop-gate-test.true in
    let here = at ∙ ap (λ gate. size (gate ∷ drop (c.loop-gate.gate-index + 1) c.args.gates.now)) (sym c.gate-item.is) in
    let first = first_name_fits c.gate-item.result (drop (c.loop-gate.gate-index + 1) c.args.gates.now) in
    omega (arith, length-append {A = ℕ}, ap length c.loop-gate.invariant.strings, here, first, ap length c.as_slice.ensures, ap length c.in_ok-push.ensures.strings)
