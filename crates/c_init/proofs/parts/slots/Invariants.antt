use Rattle.std.proofs.Common.{◌≡◌, map, take}
use Rattle.c_init.specs.Parts.{slot}
use Rattle.c_init.proofs.parts.slots.Given as goal

abbrev pub invariant-loop-m : goal.invariant-loop-m
invariant-loop-m l = l.done ≡ map (slot l.structs) (take l.m-index l.members)
