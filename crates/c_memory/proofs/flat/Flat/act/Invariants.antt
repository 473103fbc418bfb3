use Rattle.std.proofs.Common.{◌≡◌, drop}
use Rattle.ns_types.specs.Boundary.{acted}
use Rattle.c_memory.proofs.flat.Flat.act.Given as goal

abbrev pub invariant-loop-item : goal.invariant-loop-item
invariant-loop-item l = record {
  acted : acted (drop l.item-index l.items) l.self.ns_ram ≡ acted l.items l.fn.self.ns_ram;
  rest : l.self ≡ record l.fn.self { ns_ram = l.self.ns_ram };
}
