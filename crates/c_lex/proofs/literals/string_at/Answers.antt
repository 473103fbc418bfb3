use Rattle.std.proofs.lemmas.Result.{err_from_is_err_and}
use Rattle.c_lex.proofs.Strings.{string_ends, string_goes, string_fails, string_done}
use Rattle.c_lex.proofs.literals.string_at.Goals as goal

pub returns-in_err-byte : goal.returns-in_err-byte
returns-in_err-byte c =
    let p = err_from_is_err_and c.from_residual-in_err-byte.result c.from_residual-in_err-byte.ensures.1 in
    rw (p.1, p.2) (string_fails c.in_err-byte.field-0.0 c.loop-i.bytes c.args.cut _ c.loop-i.i c.loop-i.rest.now _ c.loop-i-test.true c.in_default.ensures c.in_err-byte.ensures c.loop-i.invariant)

pub returns-in-Some : goal.returns-in-Some
returns-in-Some c = rw c.in-Some.ensures.1 (string_ends c.loop-i.bytes c.args.cut _ c.loop-i.i c.loop-i.rest.now _ c.loop-i-test.true c.in-Some.ensures.0 c.loop-i.invariant)

pub loop-i-preserved : goal.loop-i-preserved
loop-i-preserved c = rw c.in_ok-push.ensures.ok (string_goes c.loop-i.bytes c.args.cut _ c.loop-i.i c.loop-i.rest.now c.in_ok-byte.byte c.in_ok-byte.after.now _ c.loop-i-test.true c.in_default.ensures c.in_ok-byte.ensures c.loop-i.invariant)

pub returns : goal.returns
returns c = string_done c.loop-i.bytes c.args.cut _ c.loop-i.i c.loop-i.rest.now _ c.loop-i-test.false c.loop-i.invariant
