use Rattle.std.proofs.Common.{ap, take, ◌∙◌}
use Rattle.c_join.proofs.NameLaws.{unit_names_take}
use Rattle.c_join.proofs.disputed.disputed.Goals as goal

pub first_disputed-found-requires : goal.first_disputed-found-requires
first_disputed-found-requires c = ap (take c.loop-i.i) c.requires ∙ unit_names_take c.args.units.now c.loop-i.i
