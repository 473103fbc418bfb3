-- What the evaluator keeps of a function.
use Rattle.std.specs.Prelude.{◌≡◌, ℕ, ◌+◌, ◌*◌, ◌<◌, Bool, cond, eqb, Option, Some, None, Result, Ok, Err}
use Rattle.cm_base.specs.declared.memory.NoMemory.{NoMemory}
use Rattle.c_types.specs.Arithmetic.{arith_size}
use Rattle.c_types.specs.declared.arith.Arith.{Arith}
use Rattle.c_types.specs.declared.ctype.CType.{CType}
use Rattle.c_types.specs.declared.ctype.Shape.TheOpen as shape
use Rattle.c_types.specs.Kind.{Look, look, is_void, arithmetic}
use Rattle.c_const.specs.Operate.{narrowed}
use Rattle.c_tree.specs.declared.program.TFunction.{TFunction}
use Rattle.c_mean.specs.Homes.{block_of, block_bytes}
use Rattle.c_mean.specs.Calls.{need}
use Rattle.c_world.specs.declared.plan.Gives.{Gives}
use Rattle.c_world.specs.declared.plan.Gives.TheVariants as gives
use Rattle.c_world.specs.declared.plan.Plan.{Plan}

-- a word in an arithmetic type
abbrev pub in_type : Arith → ℕ → ℕ
in_type a x = cond (eqb (arith_size a) 4) x (narrowed a x)

-- what `return` makes of a value
abbrev pub finished : Gives → ℕ → ℕ
finished gives.Same x = x
finished gives.Nothing x = 0
finished (gives.Narrowed a) x = in_type a x

abbrev pub narrowed_or : Option Arith → Gives
narrowed_or (Some a) = gives.Narrowed a
narrowed_or None = gives.Same

abbrev pub gives_as : CType → Gives
gives_as t = cond (is_void t) gives.Nothing (narrowed_or (arithmetic t))

abbrev pub gives_by : Look → Gives
gives_by (shape.Function t params nonsecure) = gives_as t
gives_by _ = gives.Same

-- what a function makes of the value that it gives
abbrev pub gives_of : TFunction → Gives
gives_of f = cond f.entry (gives_by (look f.ctype)) gives.Same

abbrev pub plan_of : TFunction → Plan
plan_of f = record { offsets = (block_of f).offsets; bytes = block_bytes f; need = need f; gives = gives_of f }

-- the need of so many slots, where they are as many as a number of 32 bits at most
abbrev pub IsNeed : Result ℕ NoMemory → ℕ → Type 0
IsNeed (Ok n) slots = (n ≡ 128 + 4 * slots) × (slots < 4294967296)
IsNeed (Err e) slots = Unit {0}
