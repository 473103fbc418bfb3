use Rattle.std.proofs.Common.{◌≡◌, ℕ, ◌+◌, ◌%◌, ◌++◌, drop}
use Rattle.v8m_isa.specs.Bytes.{code_bytes}
use Rattle.asm_fix.specs.Fixed.{bytes_in, place_of, fixed_from, fixed}
use Rattle.asm_fix.proofs.fixing.fix.Given as goal

abbrev pub invariant-loop-a : goal.invariant-loop-a
invariant-loop-a l = record {
  bytes : l.bytes ++ code_bytes (fixed_from (place_of l.asm) l.at (drop l.a-index l.asm)) ≡ code_bytes (fixed l.asm);
  at : l.at + bytes_in (drop l.a-index l.asm) ≡ bytes_in l.asm;
  even : l.at % 2 ≡ 0;
}
