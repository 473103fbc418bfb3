use Rattle.std.proofs.Common.{List, All, IsTrue, sym, subst, arith}
use Rattle.v8m_isa.specs.declared.instr.Instr.{Instr}
use Rattle.v8m_isa.specs.Table.{in_range_of}
use Rattle.constant_entry.proofs.Placed.{start_all, entry_all, stop_all}
use Rattle.constant_entry.proofs.used.Goals as goal

pub put_code-requires : goal.put_code-requires
put_code-requires c = subst (λ (l : List Instr). All (λ i. IsTrue (in_range_of i)) l) (sym c.start_code.ensures) start_all

pub put_code-requires-2 : goal.put_code-requires-2
put_code-requires-2 c =
    subst (λ (l : List Instr). All (λ i. IsTrue (in_range_of i)) l) (sym c.entry_code.ensures) (entry_all c.args.n (omega arith))

pub put_code-requires-3 : goal.put_code-requires-3
put_code-requires-3 c = stop_all
