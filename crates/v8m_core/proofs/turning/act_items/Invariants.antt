use Rattle.std.proofs.Common.{◌≡◌, drop}
use Rattle.ns_types.specs.Boundary.{acted}
use Rattle.v8m_core.proofs.turning.act_items.Given as goal

abbrev pub invariant-loop-item : goal.invariant-loop-item
invariant-loop-item l = record {
  acted : acted (drop l.item-index l.items) l.memory.memory.ns_ram ≡ acted l.items l.fn.memory.memory.ns_ram;
  rest : l.memory ≡ record l.fn.memory { memory = record l.fn.memory.memory { ns_ram = l.memory.memory.ns_ram } };
}
