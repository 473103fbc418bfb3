use Rattle.std.proofs.Common.{◌≤◌, length, arith, rules}
use Rattle.std.proofs.lemmas.Grind.{common_steps}
use Rattle.veneer_link.proofs.AssignLaws.{place_end}
use Rattle.veneer_link.proofs.lists.place.Goals as goal

pub returns-in-None : goal.returns-in-None
returns-in-None c =
    let past : length c.args.names.now ≤ c.loop-i.i = first_of (search rules, grind (arith, common_steps), omega (arith, c.in-None.ensures.lookup)) in
    place_end _ _ _ _ _ past c.loop-i.invariant
