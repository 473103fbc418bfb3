-- Steps of the meaning that the evaluator takes in one.
use Rattle.std.specs.Prelude.{◌≡◌, ℕ, Bool, cond, List, ◌++◌, map, Option, Some, None, Result, Ok, Err}
use Rattle.cm_base.specs.declared.memory.NoMemory.{NoMemory}
use Rattle.ns_types.specs.Access.{write_access}
use Rattle.ns_types.specs.Operators as ops
use Rattle.c_types.specs.declared.ctype.CType.{CType}
use Rattle.c_types.specs.Kind.{referenced}
use Rattle.c_tree.specs.declared.expr.BinOp.{BinOp}
use Rattle.c_tree.specs.declared.program.TLocal.{TLocal}
use Rattle.c_mean.specs.Parts.{Part, Has, then_with, or_halt}
use Rattle.c_mean.specs.Values.{Spot, converted, read_spot, write_spot, written, value_size}
use Rattle.c_mean.specs.Exprs.{changed, constant}
use Rattle.c_mean.specs.Homes.{cleared}
use Rattle.ns_types.specs.CRun.{World}

abbrev pub pointed : CType → Option CType
pointed t = referenced t

-- a write at an address
abbrev pub written_at : CType → ℕ → ℕ → Part ℕ
written_at t a x l w = written (write_access (value_size t) a x w.memory) x l w

-- `op=` at a place of type t, with the value y of the right operand
abbrev pub change : BinOp → CType → CType → Spot → ℕ → Part ℕ
change op t right s y l w =
    then_with (read_spot t s l w) (λ x m u.
    then_with (or_halt (changed op t right x y) m u) (λ z n v. write_spot t s (converted t z) n v))

-- `++` and `--` at a place
abbrev pub step : CType → Spot → ℕ → Bool → Part ℕ
step t s by old l w =
    then_with (read_spot t s l w) (λ x m u.
    then_with (write_spot t s (converted t (ops.add x by)) m u) (λ y. constant (cond old x y)))

-- a world whose memory has zeros at the block of an activation
abbrev pub cleared_in : ℕ → ℕ → World → World
cleared_in block n w = record w { memory = cleared block n w.memory }

-- the first value of a parameter, by its argument
abbrev pub parameter : Bool → TLocal → Option ℕ → ℕ
parameter entry x None = 0
parameter entry x (Some a) = cond entry (converted x.ctype a) a

-- 0 for each local
abbrev pub zeros : List TLocal → List ℕ
zeros locals = map (λ x. 0) locals

-- a list with more behind it, unless there is no memory
abbrev pub Adds : Result (Unit {0}) NoMemory → List ℕ → List ℕ → List ℕ → Type 0
Adds (Ok x) old new more = new ≡ old ++ more
Adds (Err e) old new more = Unit {0}
