use Rattle.std.proofs.Common.{◌<◌, ◌+◌, ◌∷◌, ap, arith, drop, length, sym, ◌∙◌}
use Rattle.std.proofs.lemmas.List.{drop_more}
use Rattle.c_tree.specs.declared.program.TLocal.{TLocal}
use Rattle.c_world.proofs.PlaceLaws.{parameter_pushed}
use Rattle.c_world.proofs.places.add_parameters.Goals as goal

pub loop-x-preserved : goal.loop-x-preserved
loop-x-preserved c =
    let l = c.loop-x in
    let params = c.args.params.now in
    let within : l.x-index < length params = omega arith in
    let next = drop_more params l.x-index c.x-item.result within ∙ ap (λ (t : TLocal). t ∷ drop (l.x-index + 1) params) (sym c.x-item.is) in
    record {
      counted = omega arith;
      so_far = parameter_pushed c.args.entry c.x-item.result params c.args.args.now l.x-index l.n c.parameter.result l.list c.push.new.self _ next l.invariant.counted c.parameter.ensures c.in_ok-push.ensures.ok l.invariant.so_far;
    }
