use Rattle.std.proofs.Common.{◌≡◌, ◌+◌, ◌*◌, drop, map}
use Rattle.ns_types.specs.CRun.{World, Outcome}
use Rattle.c_mean.specs.Exprs.{sense, values_from}
use Rattle.c_mean.specs.Parts.{loop}
use Rattle.c_world.specs.Here.{here}
use Rattle.c_world.specs.Seen.{seen, spot_of}
use Rattle.c_eval.specs.Steps.{all_at, chain_at, do_turn, for_turn, items_at, parts_at, phase_at, values_at, while_turn}
use Rattle.c_eval.proofs.+run.Given as goal

abbrev pub decreases-exprs::value : goal.decreases-exprs::value
decreases-exprs::value l = l.left * 16 + 0

abbrev pub decreases-exprs::place : goal.decreases-exprs::place
decreases-exprs::place l = l.left * 16 + 0

abbrev pub decreases-exprs::values : goal.decreases-exprs::values
decreases-exprs::values l = l.left * 16 + 1

abbrev pub decreases-exprs::binary : goal.decreases-exprs::binary
decreases-exprs::binary l = l.left * 16 + 2

abbrev pub decreases-exprs::moved_pointer : goal.decreases-exprs::moved_pointer
decreases-exprs::moved_pointer l = l.left * 16 + 2

abbrev pub decreases-exprs::pointer_difference : goal.decreases-exprs::pointer_difference
decreases-exprs::pointer_difference l = l.left * 16 + 2

abbrev pub decreases-exprs::both : goal.decreases-exprs::both
decreases-exprs::both l = l.left * 16 + 2

abbrev pub decreases-exprs::either : goal.decreases-exprs::either
decreases-exprs::either l = l.left * 16 + 2

abbrev pub decreases-exprs::chosen : goal.decreases-exprs::chosen
decreases-exprs::chosen l = l.left * 16 + 2

abbrev pub decreases-exprs::assigned : goal.decreases-exprs::assigned
decreases-exprs::assigned l = l.left * 16 + 2

abbrev pub decreases-exprs::changed : goal.decreases-exprs::changed
decreases-exprs::changed l = l.left * 16 + 2

abbrev pub decreases-exprs::stepped : goal.decreases-exprs::stepped
decreases-exprs::stepped l = l.left * 16 + 2

abbrev pub decreases-exprs::call : goal.decreases-exprs::call
decreases-exprs::call l = l.left * 16 + 2

abbrev pub decreases-exprs::range : goal.decreases-exprs::range
decreases-exprs::range l = l.left * 16 + 2

abbrev pub decreases-exprs::ns_call : goal.decreases-exprs::ns_call
decreases-exprs::ns_call l = l.left * 16 + 9

abbrev pub decreases-stmts::exec : goal.decreases-stmts::exec
decreases-stmts::exec l = l.left * 16 + 0

abbrev pub decreases-stmts::exec_part : goal.decreases-stmts::exec_part
decreases-stmts::exec_part l = l.left * 16 + 1

abbrev pub decreases-stmts::in_order : goal.decreases-stmts::in_order
decreases-stmts::in_order l = l.left * 16 + 1

abbrev pub decreases-stmts::parts_in_order : goal.decreases-stmts::parts_in_order
decreases-stmts::parts_in_order l = l.left * 16 + 2

abbrev pub decreases-stmts::declare : goal.decreases-stmts::declare
decreases-stmts::declare l = l.left * 16 + 2

abbrev pub decreases-stmts::set_items : goal.decreases-stmts::set_items
decreases-stmts::set_items l = l.left * 16 + 1

abbrev pub decreases-stmts::either : goal.decreases-stmts::either
decreases-stmts::either l = l.left * 16 + 1

abbrev pub decreases-stmts::while_turn : goal.decreases-stmts::while_turn
decreases-stmts::while_turn l = l.left * 16 + 1

abbrev pub decreases-stmts::while_loop : goal.decreases-stmts::while_loop
decreases-stmts::while_loop l = l.left * 16 + 2

abbrev pub decreases-stmts::do_turn : goal.decreases-stmts::do_turn
decreases-stmts::do_turn l = l.left * 16 + 1

abbrev pub decreases-stmts::do_loop : goal.decreases-stmts::do_loop
decreases-stmts::do_loop l = l.left * 16 + 2

abbrev pub decreases-stmts::test_or : goal.decreases-stmts::test_or
decreases-stmts::test_or l = l.left * 16 + 1

abbrev pub decreases-stmts::done_or : goal.decreases-stmts::done_or
decreases-stmts::done_or l = l.left * 16 + 1

abbrev pub decreases-stmts::for_turn : goal.decreases-stmts::for_turn
decreases-stmts::for_turn l = l.left * 16 + 2

abbrev pub decreases-stmts::for_turns : goal.decreases-stmts::for_turns
decreases-stmts::for_turns l = l.left * 16 + 3

abbrev pub decreases-stmts::for_loop : goal.decreases-stmts::for_loop
decreases-stmts::for_loop l = l.left * 16 + 4

abbrev pub decreases-stmts::switch : goal.decreases-stmts::switch
decreases-stmts::switch l = l.left * 16 + 3

abbrev pub decreases-stmts::gives : goal.decreases-stmts::gives
decreases-stmts::gives l = l.left * 16 + 1

abbrev pub decreases-calls::call_value : goal.decreases-calls::call_value
decreases-calls::call_value l = l.left * 16 + 1

abbrev pub decreases-calls::enter : goal.decreases-calls::enter
decreases-calls::enter l = l.left * 16 + 0

abbrev pub decreases-calls::activate : goal.decreases-calls::activate
decreases-calls::activate l = l.left * 16 + 3

abbrev pub decreases-calls::begin : goal.decreases-calls::begin
decreases-calls::begin l = l.left * 16 + 2

abbrev pub decreases-calls::run : goal.decreases-calls::run
decreases-calls::run l = l.left * 16 + 1

abbrev pub decreases-boundary::ns_value : goal.decreases-boundary::ns_value
decreases-boundary::ns_value l = l.left * 16 + 8

abbrev pub decreases-boundary::call_out : goal.decreases-boundary::call_out
decreases-boundary::call_out l = l.left * 16 + 7

abbrev pub decreases-boundary::phase : goal.decreases-boundary::phase
decreases-boundary::phase l = l.left * 16 + 6

abbrev pub decreases-boundary::cross : goal.decreases-boundary::cross
decreases-boundary::cross l = l.left * 16 + 5

abbrev pub decreases-boundary::chain : goal.decreases-boundary::chain
decreases-boundary::chain l = l.left * 16 + 4

abbrev pub decreases-boundary::one_entry : goal.decreases-boundary::one_entry
decreases-boundary::one_entry l = l.left * 16 + 3

abbrev pub invariant-exprs::values-loop-e : goal.invariant-exprs::values-loop-e
invariant-exprs::values-loop-e l =
    values_at l.setup l.plan l.at l.es l.fn.locals (seen l.setup.script l.fn.live) ≡ values_from l.done (map sense (drop l.e-index l.es)) (here l.setup l.plan l.at) l.locals (seen l.setup.script l.live)

abbrev pub invariant-stmts::set_items-loop-item : goal.invariant-stmts::set_items-loop-item
invariant-stmts::set_items-loop-item l =
    items_at l.setup l.plan l.at l.items (spot_of l.spot) l.fn.locals (seen l.setup.script l.fn.live) ≡ items_at l.setup l.plan l.at (drop l.item-index l.items) (spot_of l.spot) l.locals (seen l.setup.script l.live)

abbrev pub invariant-stmts::in_order-loop-x : goal.invariant-stmts::in_order-loop-x
invariant-stmts::in_order-loop-x l =
    all_at l.setup l.plan l.at l.list l.fn.locals (seen l.setup.script l.fn.live) ≡ all_at l.setup l.plan l.at (drop l.x-index l.list) l.locals (seen l.setup.script l.live)

abbrev pub invariant-stmts::parts_in_order-loop-part : goal.invariant-stmts::parts_in_order-loop-part
invariant-stmts::parts_in_order-loop-part l =
    parts_at l.setup l.plan l.at l.parts l.fn.locals (seen l.setup.script l.fn.live) ≡ parts_at l.setup l.plan l.at (drop l.part-index l.parts) l.locals (seen l.setup.script l.live)

abbrev pub invariant-stmts::while_loop-loop-n : goal.invariant-stmts::while_loop-loop-n
invariant-stmts::while_loop-loop-n l =
    loop (while_turn l.setup l.plan l.at l.test l.body) (here l.setup l.plan l.at).turns l.fn.locals (seen l.setup.script l.fn.live) ≡ loop (while_turn l.setup l.plan l.at l.test l.body) l.n l.locals (seen l.setup.script l.live)

abbrev pub decreases-stmts::while_loop-loop-n : goal.decreases-stmts::while_loop-loop-n
decreases-stmts::while_loop-loop-n l = l.n

abbrev pub invariant-stmts::do_loop-loop-n : goal.invariant-stmts::do_loop-loop-n
invariant-stmts::do_loop-loop-n l =
    loop (do_turn l.setup l.plan l.at l.body l.test) (here l.setup l.plan l.at).turns l.fn.locals (seen l.setup.script l.fn.live) ≡ loop (do_turn l.setup l.plan l.at l.body l.test) l.n l.locals (seen l.setup.script l.live)

abbrev pub decreases-stmts::do_loop-loop-n : goal.decreases-stmts::do_loop-loop-n
decreases-stmts::do_loop-loop-n l = l.n

abbrev pub invariant-stmts::for_turns-loop-n : goal.invariant-stmts::for_turns-loop-n
invariant-stmts::for_turns-loop-n l =
    loop (for_turn l.setup l.plan l.at l.test l.next l.body) (here l.setup l.plan l.at).turns l.fn.locals (seen l.setup.script l.fn.live) ≡ loop (for_turn l.setup l.plan l.at l.test l.next l.body) l.n l.locals (seen l.setup.script l.live)

abbrev pub decreases-stmts::for_turns-loop-n : goal.decreases-stmts::for_turns-loop-n
decreases-stmts::for_turns-loop-n l = l.n

abbrev pub invariant-boundary::phase-loop-fuel : goal.invariant-boundary::phase-loop-fuel
invariant-boundary::phase-loop-fuel l =
    phase_at l.setup l.at l.fn.fuel (seen l.setup.script l.fn.live) ≡ phase_at l.setup l.at l.fuel (seen l.setup.script l.live)

abbrev pub decreases-boundary::phase-loop-fuel : goal.decreases-boundary::phase-loop-fuel
decreases-boundary::phase-loop-fuel l = l.fuel

abbrev pub invariant-boundary::chain-loop-goes : goal.invariant-boundary::chain-loop-goes
invariant-boundary::chain-loop-goes l =
    (next : World → Outcome) → chain_at l.setup l.at next l.exit l.kept l.fn.n l.fn.goes l.fn.args (seen l.setup.script l.fn.live) ≡ chain_at l.setup l.at next l.exit l.kept l.n l.goes l.args (seen l.setup.script l.live)

abbrev pub decreases-boundary::chain-loop-goes : goal.decreases-boundary::chain-loop-goes
decreases-boundary::chain-loop-goes l = l.n
