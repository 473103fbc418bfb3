use Rattle.std.proofs.Common.{◌≡◌, ℕ, ◌+◌, ◌-◌, ◌*◌, ◌<◌, ap, arith, drop, map, rules, sym, ◌∙◌}
use Rattle.ns_types.specs.Boundary.{goes_of}
use Rattle.ns_types.specs.Platform.{aligned}
use Rattle.ns_types.specs.Turns.{Turn}
use Rattle.c_mean.specs.Stmts.{arm}
use Rattle.c_tree.specs.declared.stmt.Part.TheOpen as stmt
use Rattle.c_world.specs.Seen.{IsOver, Stops, seen}
use Rattle.c_world.specs.Setups.{enters, function_at}
use Rattle.c_eval.specs.Steps.{chain_at, crossing, entry_at, phase_at, stmt_at}
use Rattle.c_eval.proofs.Steps.{activate_begins, activate_stops, begins, call_of_none, call_spent, calls_out, calls_value, chain_arrives, chain_fills, chain_over, chain_steps, chain_stops, crossing_goes, crossing_halts, enter_activates, entry_gives, entry_over, phase_gives, phase_goes, phase_over, phase_waits, plan_is, seen_entries, switch_goes, switch_halts}
use Rattle.c_eval.proofs.+run.Goals as goal
use Rattle.c_eval.proofs.+run.Goals.{boundary::chain-then-n-eq0-via-then-n-eq0, boundary::chain-then-n-eq0-via-else-n-eq0+then-live-turns}

-- ---- the boundary

pub boundary::call_out-returns : goal.boundary::call_out-returns
boundary::call_out-returns t c =
    let script = c.args.setup.now.script in
    calls_out c.args.setup.now c.args.plan.now c.args.at.now c.args.target c.turns_left-fuel.result c.args.args (seen script c.args.live.now) (seen script c.emit_called.new.live) (seen script c.phase.new.live) c.phase.result
    (c.in_ok-emit_called.ensures script) c.turns_left-fuel.ensures c.phase.ensures

pub boundary::chain-returns-then-n-eq0 : goal.boundary::chain-returns-then-n-eq0
boundary::chain-returns-then-n-eq0 t c next =
    let s = c.args.setup.now in
    let l = c.loop-goes in
    let w = seen s.script l.live in
    elim c.then-n-eq0.branch [
      | boundary::chain-then-n-eq0-via-then-n-eq0 b ↦
          chain_stops s c.args.at.now next c.args.exit c.args.kept l.n c.in-Enter.e l.goes l.args w _ c.in-Enter.is b.if-n-eq0.true (l.invariant next)
      | boundary::chain-then-n-eq0-via-else-n-eq0+then-live-turns b ↦
          chain_fills s c.args.at.now next c.args.exit c.args.kept l.n c.in-Enter.e l.goes l.args w _ c.in-Enter.is
          (omega (arith, b.turns.ensures.value, seen_entries s.script l.live, b.if-live-turns.true)) (l.invariant next)
    ]

pub boundary::chain-returns-in_err-r : goal.boundary::chain-returns-in_err-r
boundary::chain-returns-in_err-r t c next =
    let s = c.args.setup.now in
    let l = c.loop-goes in
    let w = seen s.script l.live in
    let bound : w.entries < s.turns = omega (arith, c.turns.ensures.value, seen_entries s.script l.live, c.if-live-turns.false) in
    let some : 0 < l.n = omega (arith, c.if-n-eq0.false) in
    let over : IsOver c.in_err-r.field-0.0 (seen s.script c.one_entry.new.live) (chain_at s c.args.at.now next c.args.exit c.args.kept c.args.n c.args.goes c.args.args (seen s.script c.args.live.now)) =
    chain_over s c.args.at.now next c.args.exit c.args.kept l.n c.in-Enter.e l.goes l.args w (seen s.script c.one_entry.new.live) c.in_err-r.field-0.0 _ c.in-Enter.is some bound c.in_err-r.ensures (l.invariant next) in
    search rules

pub boundary::chain-loop-goes-preserved : goal.boundary::chain-loop-goes-preserved
boundary::chain-loop-goes-preserved t c next =
    let s = c.args.setup.now in
    let l = c.loop-goes in
    let w = seen s.script l.live in
    let bound : w.entries < s.turns = omega (arith, c.turns.ensures.value, seen_entries s.script l.live, c.if-live-turns.false) in
    let some : 0 < l.n = omega (arith, c.if-n-eq0.false) in
    chain_steps s c.args.at.now next c.args.exit c.args.kept l.n c.in-Enter.e c.in_ok-r.r l.goes c.goes-goes.result l.args w (seen s.script c.one_entry.new.live) _
    c.in-Enter.is some bound c.in_ok-r.ensures c.goes-goes.ensures (l.invariant next)

pub boundary::chain-returns : goal.boundary::chain-returns
boundary::chain-returns t c next =
    let s = c.args.setup.now in
    let l = c.loop-goes in
    chain_arrives s c.args.at.now next c.args.exit c.args.kept l.n l.goes l.args (seen s.script l.live) (seen s.script c.arrive.new.live) c.arrive.result _
    c.in_default.not-Enter (l.invariant next) (c.arrive.ensures s.script next)

pub boundary::cross-returns-in_err-take_turn : goal.boundary::cross-returns-in_err-take_turn
boundary::cross-returns-in_err-take_turn t c next =
    let s = c.args.setup.now in
    let rest = drop (c.args.live.now.next + 1) s.script in
    let u = seen s.script c.take_turn.new.live in
    let over : IsOver c.in_err-take_turn.field-0.0 u (crossing s c.args.at.now next c.args.turn.now rest c.args.n (seen s.script c.args.live.now)) =
    crossing_halts s c.args.at.now next c.args.turn.now rest c.args.n (seen s.script c.args.live.now) u c.in_err-take_turn.field-0.0 (c.in_err-take_turn.ensures s.script) in
    search rules

pub boundary::cross-returns : goal.boundary::cross-returns
boundary::cross-returns t c next =
    let s = c.args.setup.now in
    crossing_goes s c.args.at.now next c.args.turn.now (drop (c.args.live.now.next + 1) s.script) c.align.result c.kept_of.result c.args.n c.goes-goes.result c.first_four.result (seen s.script c.args.live.now)
    (seen s.script c.take_turn.new.live) (seen s.script c.chain.new.live) c.chain.result (c.in_ok-take_turn.ensures s.script) (c.align.ensures ∙ ap (λ (q : Turn). aligned 2 q.lr) c.turn.view_is) c.kept_of.ensures (c.goes-goes.ensures ∙ ap (λ (q : Turn). goes_of (enters s) q.target) c.turn.view_is) c.first_four.ensures (c.chain.ensures next)

pub boundary::one_entry-returns-in_err-r : goal.boundary::one_entry-returns-in_err-r
boundary::one_entry-returns-in_err-r t c go =
    let s = c.args.setup.now in
    let w = seen s.script c.args.live.now in
    let v = seen s.script c.enter.new.live in
    let over : IsOver c.in_err-r.field-0.0 v (entry_at s c.args.at.now go c.args.e c.args.args.now c.args.exit c.args.kept w) =
    entry_over s c.args.at.now go c.args.e c.entry.result c.args.args.now c.args.exit c.args.kept w (seen s.script c.count.new.live) v c.in_err-r.field-0.0 (c.count.ensures s.script) c.entry.ensures c.in_err-r.ensures in
    search rules

pub boundary::one_entry-returns : goal.boundary::one_entry-returns
boundary::one_entry-returns t c go =
    let s = c.args.setup.now in
    entry_gives s c.args.at.now go c.args.e c.entry.result c.args.args.now c.args.exit c.args.kept (seen s.script c.args.live.now) (seen s.script c.count.new.live) (seen s.script c.enter.new.live) (seen s.script c.emit_result.new.live) c.in_ok-r.r
    (c.count.ensures s.script) c.entry.ensures c.in_ok-r.ensures (c.in_ok-emit_result.ensures s.script)

pub boundary::phase-returns-in_default : goal.boundary::phase-returns-in_default
boundary::phase-returns-in_default t c =
    c.loop-fuel.invariant ∙ phase_waits c.args.setup.now c.args.at.now c.loop-fuel.fuel (seen c.args.setup.now.script c.loop-fuel.live) c.in_default.ensures.next

pub boundary::phase-returns-in_err-crossed : goal.boundary::phase-returns-in_err-crossed
boundary::phase-returns-in_err-crossed t c =
    let s = c.args.setup.now in
    let l = c.loop-fuel in
    let many : c.in_ok-n.n ≡ s.turns * l.fuel = c.in_ok-n.ensures ∙ ap (λ (k : ℕ). k * l.fuel) c.turns.ensures.value in
    let v = seen s.script c.cross.new.live in
    let over : IsOver c.in_err-crossed.field-0.0 v (phase_at s c.args.at.now c.args.fuel (seen s.script c.args.live.now)) =
    phase_over s c.args.at.now l.fuel c.in_ok-n.n (seen s.script l.live) v c.in-Some.turn.now (drop (l.live.next + 1) s.script) c.in_err-crossed.field-0.0 _ c.loop-fuel-test.true c.in-Some.ensures.next many c.in_err-crossed.ensures l.invariant in
    search rules

pub boundary::phase-returns-in-Some-crossed : goal.boundary::phase-returns-in-Some-crossed
boundary::phase-returns-in-Some-crossed t c =
    let s = c.args.setup.now in
    let l = c.loop-fuel in
    let many : c.in_ok-n.n ≡ s.turns * l.fuel = c.in_ok-n.ensures ∙ ap (λ (k : ℕ). k * l.fuel) c.turns.ensures.value in
    phase_gives s c.args.at.now l.fuel c.in_ok-n.n c.in-Some-crossed.x (seen s.script l.live) (seen s.script c.cross.new.live) c.in-Some.turn.now (drop (l.live.next + 1) s.script) c.in_ok-crossed.crossed _
    c.loop-fuel-test.true c.in-Some.ensures.next many c.in-Some-crossed.is c.in_ok-crossed.ensures l.invariant

pub boundary::phase-loop-fuel-preserved : goal.boundary::phase-loop-fuel-preserved
boundary::phase-loop-fuel-preserved t c =
    let s = c.args.setup.now in
    let l = c.loop-fuel in
    let many : c.in_ok-n.n ≡ s.turns * l.fuel = c.in_ok-n.ensures ∙ ap (λ (k : ℕ). k * l.fuel) c.turns.ensures.value in
    phase_goes s c.args.at.now l.fuel c.in_ok-n.n (seen s.script l.live) (seen s.script c.cross.new.live) c.in-Some.turn.now (drop (l.live.next + 1) s.script) c.in_ok-crossed.crossed _
    c.loop-fuel-test.true c.in-Some.ensures.next many c.in_default-crossed.is c.in_ok-crossed.ensures l.invariant

-- ---- calls

pub calls::call_value-returns : goal.calls::call_value-returns
calls::call_value-returns t c =
    let s = c.args.setup.now in
    calls_value s c.args.plan.now c.args.at.now c.args.n c.args.args.now (seen s.script c.args.live.now) (seen s.script c.enter.new.live) c.enter.result c.enter.ensures

pub calls::enter-returns-then-at-eq0 : goal.calls::enter-returns-then-at-eq0
calls::enter-returns-then-at-eq0 t c =
    let s = c.args.setup.now in
    call_spent s c.args.at.now.deep c.args.from_ns c.args.at.now.load c.args.at.now.top (function_at s c.args.n) c.args.args.now (seen s.script c.args.live.now) c.if-at-eq0.true

pub calls::enter-returns-in-Some-plan : goal.calls::enter-returns-in-Some-plan
calls::enter-returns-in-Some-plan t c =
    let s = c.args.setup.now in
    enter_activates s c.args.at.now.deep c.args.from_ns c.args.at.now.load c.args.at.now.top (function_at s c.args.n) c.in-Some.f.now c.in-Some-plan.plan.now c.args.args.now (seen s.script c.args.live.now)
    (seen s.script c.activate.new.live) c.activate.result (omega (arith, c.if-at-eq0.false)) (sym c.in-Some.ensures) (plan_is (function_at s c.args.n) c.in-Some.f.now c.in-Some-plan.plan.now c.in-Some.ensures c.in-Some-plan.ensures) c.activate.ensures

pub calls::enter-returns-in-None : goal.calls::enter-returns-in-None
calls::enter-returns-in-None t c =
    let s = c.args.setup.now in
    call_of_none s c.args.at.now.deep c.args.from_ns c.args.at.now.load c.args.at.now.top (function_at s c.args.n) c.args.args.now (seen s.script c.args.live.now) (omega (arith, c.if-at-eq0.false)) (sym c.in-None.ensures)

pub calls::activate-returns-in-Some : goal.calls::activate-returns-in-Some
calls::activate-returns-in-Some t c =
    let s = c.args.setup.now in
    let at = c.args.at.now in
    activate_begins s (at.deep - 1) c.args.from_ns c.in_ok-load.load (at.load + c.args.plan.now.need) at.top c.in-Some.top c.args.plan.now c.args.f.now c.args.args.now (seen s.script c.args.live.now) (seen s.script c.reach.new.live)
    (seen s.script c.begin.new.live) c.begin.result c.requires.plan c.in_ok-load.ensures.load (sym c.in-Some.ensures) (c.in_ok-load.ensures.peak s.script) c.begin.ensures

pub calls::activate-returns-in-None : goal.calls::activate-returns-in-None
calls::activate-returns-in-None t c =
    let s = c.args.setup.now in
    let at = c.args.at.now in
    activate_stops s (at.deep - 1) c.args.from_ns (at.load + c.args.plan.now.need) at.top c.args.plan.now c.args.f.now c.args.args.now (seen s.script c.args.live.now) (seen s.script c.reach.new.live) (seen s.script c.stop.new.live) c.stop.result
    c.requires.plan (sym c.in-None.ensures) (c.in_ok-load.ensures.peak s.script) (c.stop.ensures s.script)

pub calls::begin-returns : goal.calls::begin-returns
calls::begin-returns t c =
    let s = c.args.setup.now in
    begins s c.args.plan.now c.args.at.now c.args.f.now c.args.args.now c.in_ok-locals.locals (seen s.script c.args.live.now) (seen s.script c.clear.new.live) (seen s.script c.run.new.live) c.run.result
    c.in_ok-locals.ensures (c.clear.ensures s.script) c.run.ensures

-- ---- statements

pub stmts::switch-returns : goal.stmts::switch-returns
stmts::switch-returns t c =
    let s = c.args.setup.now in
    switch_goes s c.args.plan.now c.args.at.now c.args.v.now c.args.parts.now c.parts_from-entered.result.now c.in_ok-x.x c.args.locals.now c.value.new.locals c.parts_in_order.new.locals
    (seen s.script c.args.live.now) (seen s.script c.value.new.live) (seen s.script c.parts_in_order.new.live) c.in_ok-flow.flow c.after_switch.result c.in_ok-x.ensures c.parts_from-entered.ensures c.in_ok-flow.ensures
    (c.after_switch.ensures c.parts_in_order.new.locals (seen s.script c.parts_in_order.new.live))

pub stmts::switch-returns-in_err-flow : goal.stmts::switch-returns-in_err-flow
stmts::switch-returns-in_err-flow t c =
    let s = c.args.setup.now in
    let q = seen s.script c.parts_in_order.new.live in
    let over : Stops c.in_err-flow.field-0.0 q (stmt_at s c.args.plan.now c.args.at.now (stmt.Switch c.args.v.now (map arm c.args.parts.now)) c.args.locals.now (seen s.script c.args.live.now)) =
    switch_halts s c.args.plan.now c.args.at.now c.args.v.now c.args.parts.now c.parts_from-entered.result.now c.in_ok-x.x c.args.locals.now c.value.new.locals (seen s.script c.args.live.now) (seen s.script c.value.new.live) q c.in_err-flow.field-0.0
    c.in_ok-x.ensures c.parts_from-entered.ensures c.in_err-flow.ensures in
    search rules
