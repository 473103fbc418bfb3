-- Blocks as they are made.
use Rattle.std.specs.Prelude.{ℕ, List}
use Rattle.std.specs.List.{fold}
use Rattle.c_tree.specs.declared.program.TLocal.{TLocal}
use Rattle.c_mean.specs.Homes as homes
use Rattle.c_mean.specs.Homes.{with_local}
use Rattle.c_homes.specs.declared.block.Block.{Block}

-- a block that isn't rounded up yet
abbrev pub seen : Block → homes.Block
seen b = record { offsets = b.offsets; bytes = b.bytes }

-- and with more parameters or locals, where the addresses of these are taken
abbrev pub with_locals : List ℕ → homes.Block → List TLocal → homes.Block
with_locals taken b xs = fold (with_local taken) b xs
