-- Where the parameters and locals of a function stand in the middle form, and what its code looks up.
use Rattle.std.specs.Prelude.{ℕ, zero, suc, ◌+◌, cond, List, [], ◌∷◌, length, Option, Some, None}
use Rattle.c_types.specs.Kind.{Look, look, arithmetic}
use Rattle.c_types.specs.declared.arith.Arith.{Arith}
use Rattle.c_types.specs.declared.ctype.Shape.TheOpen as shape
use Rattle.c_types.specs.declared.ctype.Shape.TheOpen.{Shape-F}
use Rattle.c_tree.specs.declared.program.TFunction.{TFunction}
use Rattle.c_mean.specs.Homes.{block_of, block_bytes}

-- a parameter or local: its variable, or its offset in the block where it is placed
pub data Home : Type 0 where
  Variable : ℕ → Home
  Placed : ℕ → Home

abbrev pub home_or : ℕ → Option ℕ → Home
home_or v None = Variable v
home_or v (Some offset) = Placed offset

-- The homes of parameters and locals by where each stands in the block, if it does. Of the first ones, so many are
-- parameters. Each parameter has a variable, placed or not, and each local that isn't placed; v is the next one.
abbrev pub homes_from : ℕ → ℕ → List (Option ℕ) → List Home
homes_from params v [] = []
homes_from (suc params) v (o ∷ os) = home_or v o ∷ homes_from params (v + 1) os
homes_from zero v (None ∷ os) = Variable v ∷ homes_from zero (v + 1) os
homes_from zero v (Some offset ∷ os) = Placed offset ∷ homes_from zero v os

-- the first variable behind theirs
abbrev pub free_from : ℕ → ℕ → List (Option ℕ) → ℕ
free_from params v [] = v
free_from (suc params) v (o ∷ os) = free_from params (v + 1) os
free_from zero v (None ∷ os) = free_from zero (v + 1) os
free_from zero v (Some offset ∷ os) = free_from zero v os

abbrev pub gives_in : Look → Option Arith
gives_in (shape.Function gives params nonsecure) = arithmetic gives
gives_in _ = None

-- the arithmetic type that `return` converts to, if it converts: an entry function's result
abbrev pub return_type : TFunction → Option Arith
return_type f = cond f.entry (gives_in (look f.ctype)) None

-- what the code of a function looks up: the homes of its parameters and locals, the first free variable, the bytes of its
-- block, where each global stands, and the type that `return` converts to
pub record Frame : Type 0 where
  pub homes : List Home
  pub free : ℕ
  pub bytes : ℕ
  pub globals : List ℕ
  pub gives : Option Arith

-- the frame of a function, where globals stand at these addresses
abbrev pub frame_of : List ℕ → TFunction → Frame
frame_of globals f = record {
  homes = homes_from (length f.params) 0 (block_of f).offsets;
  free = free_from (length f.params) 0 (block_of f).offsets;
  bytes = block_bytes f;
  globals = globals;
  gives = return_type f;
}
