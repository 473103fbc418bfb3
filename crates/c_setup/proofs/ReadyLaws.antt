-- What a run asks of a program holds of each program.
use Rattle.std.proofs.Common.{◌≤◌, length, arith}
use Rattle.std.specs.Prelude.{All}
use Rattle.std.proofs.lemmas.List.Elements.{All-weaker}
use Rattle.c_tree.specs.Conditions.{IsFunction, IsProgram, Program}
use Rattle.c_tree.specs.Nodes.{function_nodes}
use Rattle.c_tree.specs.Numbers.{names_of_program}

pub few_nodes : (p : Program) → IsProgram p → All (λ f. function_nodes f ≤ 2000) p.functions
few_nodes p is = All-weaker (IsFunction (names_of_program p.functions p.globals)) (λ f. function_nodes f ≤ 2000) (λ f h. h.nodes) p.functions is.functions

pub few_globals : (p : Program) → IsProgram p → length p.globals ≤ 16000
few_globals p is = omega (arith, is.nodes)
