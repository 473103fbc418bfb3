use Rattle.std.proofs.Common.{◌≡◌, ◌++◌, take}
use Rattle.std.specs.List.{flat_map}
use Rattle.v8m_isa.specs.Bytes.{instr_bytes}
use Rattle.constant_entry.proofs.put_code.Given as goal

abbrev pub invariant-loop-instr : goal.invariant-loop-instr
invariant-loop-instr l = l.to ≡ l.fn.to ++ flat_map instr_bytes (take l.instr-index l.code)
