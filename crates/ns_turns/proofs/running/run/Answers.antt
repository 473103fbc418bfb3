use Rattle.std.proofs.Common.{◌≡◌, ◌-◌, ◌<◌, ap, arith, drop, sym, ◌∙◌, Ok, Err}
use Rattle.ns_turns.specs.Run.{event_of, run_of}
use Rattle.ns_turns.specs.Advance.{behind}
use Rattle.ns_turns.proofs.Runs.{behind_end, behind_more, run_more}
use Rattle.ns_turns.proofs.running.run.Goals as goal

pub returns-in-Err-clause-run : goal.returns-in-Err-clause-run
returns-in-Err-clause-run c =
    let l = c.loop-left in
    let turns = c.args.turns.now in
    let fewer : c.go_on-left.result < l.left = omega (arith, c.go_on-left.ensures.most, c.loop-left-test.true) in
    behind_end l.list c.in-Err.end
    ∙ sym (run_more c.args.machine.now.device l.machine.device c.go_on-left.new.machine.device l.left c.go_on-left.result (drop l.next turns) (drop c.advance.new.next turns) l.machine.state c.go_on-left.new.machine.state c.advance.new.machine.state l.list (Err c.in-Err.end) _ fewer l.invariant.device c.go_on-left.ensures.device l.invariant.run (c.go_on-left.ensures.steps (drop l.next turns)) c.in-Err.ensures.step)

pub loop-left-preserved : goal.loop-left-preserved
loop-left-preserved c =
    let l = c.loop-left in
    let turns = c.args.turns.now in
    let rest = run_of c.args.machine.now.device (l.left - c.go_on-left.result - 1) (drop c.advance.new.next turns) c.advance.new.machine.state in
    let fewer : c.go_on-left.result < l.left = omega (arith, c.go_on-left.ensures.most, c.loop-left-test.true) in
    let more = run_more c.args.machine.now.device l.machine.device c.go_on-left.new.machine.device l.left c.go_on-left.result (drop l.next turns) (drop c.advance.new.next turns) l.machine.state c.go_on-left.new.machine.state c.advance.new.machine.state l.list (Ok c.in-Ok.what) _ fewer l.invariant.device c.go_on-left.ensures.device l.invariant.run (c.go_on-left.ensures.steps (drop l.next turns)) c.in-Ok.ensures.step in
    record {
      device = c.advance.ensures.device ∙ c.go_on-left.ensures.device ∙ l.invariant.device;
      run = more ∙ behind_more l.list (event_of c.in-Ok.what) rest ∙ ap (λ e. behind e rest) (sym c.in_ok-note-in-Ok.ensures.ok);
    }

pub returns : goal.returns
returns c =
    let l = c.loop-left in
    let turns = drop l.next c.args.turns.now in
    let none : l.left ≡ 0 = omega arith in
    let last = behind_end l.list c.end_of-end.result ∙ ap (behind l.list) (c.end_of-end.ensures ∙ ap (λ r. run_of r 0 turns l.machine.state) l.invariant.device ∙ ap (λ k. run_of c.args.machine.now.device k turns l.machine.state) (sym none)) in
    record { device = l.invariant.device; run = last ∙ sym l.invariant.run }
