use Rattle.std.proofs.Common.{◌<◌, ◌+◌, ◌∷◌, List, ap, arith, drop, length, sym, ◌∙◌}
use Rattle.std.proofs.lemmas.List.{drop_more}
use Rattle.c_tree.specs.declared.program.TLocal.{TLocal}
use Rattle.c_mean.specs.Homes as homes
use Rattle.c_homes.specs.Blocks.{seen, with_locals}
use Rattle.c_homes.proofs.block.add_locals.Goals as goal

pub loop-x-preserved : goal.loop-x-preserved
loop-x-preserved c =
    let l = c.loop-x in
    let xs = c.args.xs.now in
    let within : l.x-index < length xs = omega arith in
    let next = drop_more xs l.x-index c.x-item.result within ∙ ap (λ (t : TLocal). t ∷ drop (l.x-index + 1) xs) (sym c.x-item.is) in
    record {
      many = omega (arith, c.in_ok-add_local.ensures.many);
      placed = λ taken marks.
          ap (λ (b : homes.Block). with_locals taken b (drop (l.x-index + 1) xs)) (c.in_ok-add_local.ensures.placed taken marks)
          ∙ ap (λ (ys : List TLocal). with_locals taken (seen l.block) ys) (sym next)
          ∙ l.invariant.placed taken marks;
    }
