use Rattle.std.proofs.Common.{[], sym, ap, length, ◌∙◌, arith}
use Rattle.std.proofs.lemmas.Bool.{eqb-true}
use Rattle.std.proofs.lemmas.List.{nil_from_length}
use Rattle.std.proofs.lemmas.Result.{err_from_is_err_and}
use Rattle.c_lex.specs.Classes.{is_space}
use Rattle.c_lex.specs.Spot.{start}
use Rattle.c_lex.proofs.RunLaws.{back_fits}
use Rattle.c_lex.proofs.StepLaws.{so_far_begins, so_far_stuck, so_far_goes, so_far_skips, so_far_ends, step_shrinks}
use Rattle.c_lex.proofs.lexer.split.Goals as goal

pub loop-rest-init : goal.loop-rest-init
loop-rest-init c =
    rw (c.new-tokens.ensures, c.skip.ensures.spot, c.skip.ensures.rest, c.start.ensures) (so_far_skips c.args.unit c.args.text.now [] start c.args.text.now (so_far_begins c.args.unit c.args.text.now))

pub returns-in_err-kind-clause-err : goal.returns-in_err-kind-clause-err
returns-in_err-kind-clause-err c =
    let p = err_from_is_err_and c.from_residual.result c.from_residual.ensures.1 in
    rw (p.1, p.2) (so_far_stuck c.args.unit c.args.text.now c.loop-rest.tokens c.loop-rest.spot c.loop-rest.rest.now c.in_err-kind.field-0.0 c.loop-rest.invariant c.in_err-kind.ensures.err)

pub skip-next-requires-clause-line : goal.skip-next-requires-clause-line
skip-next-requires-clause-line c =
    let s = so_far_goes c.args.unit c.args.text.now c.loop-rest.tokens c.loop-rest.spot c.in_ok-kind.after c.loop-rest.rest.now c.in_ok-kind.kind c.in_ok-kind.behind.now c.loop-rest.invariant c.in_ok-kind.ensures.ok in
    let l = s.line in let r = c.requires in omega arith

pub skip-next-requires-clause-col : goal.skip-next-requires-clause-col
skip-next-requires-clause-col c =
    let s = so_far_goes c.args.unit c.args.text.now c.loop-rest.tokens c.loop-rest.spot c.in_ok-kind.after c.loop-rest.rest.now c.in_ok-kind.kind c.in_ok-kind.behind.now c.loop-rest.invariant c.in_ok-kind.ensures.ok in
    let l = s.col in let r = c.requires in omega arith

pub loop-rest-preserved : goal.loop-rest-preserved
loop-rest-preserved c =
    let s = so_far_goes c.args.unit c.args.text.now c.loop-rest.tokens c.loop-rest.spot c.in_ok-kind.after c.loop-rest.rest.now c.in_ok-kind.kind c.in_ok-kind.behind.now c.loop-rest.invariant c.in_ok-kind.ensures.ok in
    rw (c.in_ok-put.ensures.ok, c.skip-next.ensures.spot, c.skip-next.ensures.rest) (so_far_skips c.args.unit c.args.text.now _ c.in_ok-kind.after c.in_ok-kind.behind.now s)

pub loop-rest-smaller : goal.loop-rest-smaller
loop-rest-smaller c =
    let s = step_shrinks c.loop-rest.spot c.in_ok-kind.after c.loop-rest.rest.now c.in_ok-kind.kind c.in_ok-kind.behind.now c.in_ok-kind.ensures.ok in
    let b = back_fits is_space c.in_ok-kind.behind.now in
    let e = ap length c.skip-next.ensures.rest in omega arith

pub returns-clause-ok : goal.returns-clause-ok
returns-clause-ok c =
    so_far_ends c.args.unit c.args.text.now c.loop-rest.tokens c.loop-rest.spot c.loop-rest.rest.now c.loop-rest.invariant
    (nil_from_length c.loop-rest.rest.now (eqb-true _ _ (sym c.is_empty.ensures ∙ c.loop-rest-test.false)))
