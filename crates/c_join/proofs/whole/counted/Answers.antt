use Rattle.std.proofs.Common.{◌≡◌, ◌≤◌, ◌∙◌, ℕ, List, length, ap, sym, subst, IsTrue, arith}
use Rattle.c_tree.specs.Globals as g
use Rattle.c_tree.specs.Globals.{globals_bytes}
use Rattle.join_laws.specs.Joined.{all_globals, units_nodes}
use Rattle.c_join.proofs.JoinLaws.{all_are, few_globals, few_seen_functions, few_seen_globals, globals_fit, last_is, makes_program, nodes_within}
use Rattle.c_join.proofs.whole.counted.Goals as goal

pub globals_bytes-requires-clause-few : goal.globals_bytes-requires-clause-few
globals_bytes-requires-clause-few c =
    let us = c.args.units.now in
    let nodes : units_nodes us ≤ 16000 = nodes_within us c.units_nodes.result c.units_nodes.ensures c.in_ok-at_most.ensures.ok in
    let few : length (all_globals us) ≤ units_nodes us = few_globals 0 us in
    let same : length c.as_slice.result.now ≡ length (all_globals us) = ap length (c.as_slice.ensures ∙ c.in_ok-globals.ensures) in
    omega (arith, nodes, few, same)

pub globals_bytes-requires-clause-types : goal.globals_bytes-requires-clause-types
globals_bytes-requires-clause-types c = subst (λ l. IsTrue (g.all_fit l)) (sym (c.as_slice.ensures ∙ c.in_ok-globals.ensures)) (globals_fit 0 c.args.units.now c.requires.units)

pub all_functions-requires-clause-functions : goal.all_functions-requires-clause-functions
all_functions-requires-clause-functions c =
    let us = c.args.units.now in
    few_seen_functions us c.args.seen.now c.requires.seen c.requires.names.0.0 (nodes_within us c.units_nodes.result c.units_nodes.ensures c.in_ok-at_most.ensures.ok)

pub all_functions-requires-clause-globals : goal.all_functions-requires-clause-globals
all_functions-requires-clause-globals c =
    let us = c.args.units.now in
    few_seen_globals us c.args.seen.now c.requires.seen c.requires.names.0.0 (nodes_within us c.units_nodes.result c.units_nodes.ensures c.in_ok-at_most.ensures.ok)

pub finished-requires : goal.finished-requires
finished-requires c =
    let us = c.args.units.now in
    let nodes : units_nodes us ≤ 16000 = nodes_within us c.units_nodes.result c.units_nodes.ensures c.in_ok-at_most.ensures.ok in
    let bytes : globals_bytes (all_globals us) ≤ 49152 = subst (λ n. n ≤ 49152) (c.globals_bytes.ensures ∙ ap globals_bytes (c.as_slice.ensures ∙ c.in_ok-globals.ensures)) c.in_ok-at_most-2.ensures.ok in
    makes_program us c.requires.units c.requires.numbered c.requires.names nodes bytes _ _ (all_are us c.args.seen.now c.requires.seen c.requires.names.0.0 _ c.in_ok-functions.ensures) c.in_ok-globals.ensures

pub returns : goal.returns
returns c =
    let us = c.args.units.now in
    let nodes : units_nodes us ≤ 16000 = nodes_within us c.units_nodes.result c.units_nodes.ensures c.in_ok-at_most.ensures.ok in
    let bytes : globals_bytes (all_globals us) ≤ 49152 = subst (λ n. n ≤ 49152) (c.globals_bytes.ensures ∙ ap globals_bytes (c.as_slice.ensures ∙ c.in_ok-globals.ensures)) c.in_ok-at_most-2.ensures.ok in
    last_is us c.requires.names.0.0 c.requires.names.0.1 c.requires.names.1 nodes _ _ c.finished.result bytes (all_are us c.args.seen.now c.requires.seen c.requires.names.0.0 _ c.in_ok-functions.ensures) c.in_ok-globals.ensures c.finished.ensures
