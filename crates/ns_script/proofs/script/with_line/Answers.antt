use Rattle.std.proofs.Common.{◌≡◌, Some, None, IfOk, sym, ap, subst}
use Rattle.std.specs.Option.{option_and_then}
use Rattle.ns_script.specs.Script as spec
use Rattle.ns_script.specs.Script.{with_line}
use Rattle.ns_script.proofs.script.with_line.Goals as goal

pub returns-in-Some-clause-value : goal.returns-in-Some-clause-value
unfolding with_line
returns-in-Some-clause-value c =
    let e : spec.line_said c.args.text.now ≡ Some c.in-Some.said = cc (c.in_ok-said.ensures.value, c.in-Some.is) in
    let f = ap (option_and_then (λ said. spec.with_said said c.args.script)) (sym e) in
    subst (λ z. IfOk c.with_said.result (λ x. x ≡ z)) f c.with_said.ensures.value

pub returns-in-None-clause-value : goal.returns-in-None-clause-value
unfolding with_line
returns-in-None-clause-value c =
    let e : spec.line_said c.args.text.now ≡ None = cc (c.in_ok-said.ensures.value, c.in-None.is) in
    ap (option_and_then (λ said. spec.with_said said c.args.script)) (sym e)
