-- The block of a function: its parameters, and then its locals.
use Rattle.std.proofs.Common.{◌≡◌, ℕ, [], sym, ap, ◌∙◌}
use Rattle.std.proofs.lemmas.List.Sums.{fold-append}
use Rattle.c_tree.specs.declared.program.TFunction.{TFunction}
use Rattle.c_tree.specs.Placed.{stmt_taken}
use Rattle.c_mean.specs.Homes as homes
use Rattle.c_mean.specs.Homes.{block_of, with_local}
use Rattle.c_homes.specs.Blocks.{seen, with_locals}
use Rattle.c_homes.specs.declared.block.Block.{Block}

pub block_is : (f : TFunction) (a b c : Block) → seen a ≡ record { offsets = []; bytes = 0 } → seen b ≡ with_locals (stmt_taken f.body) (seen a) f.params → seen c ≡ with_locals (stmt_taken f.body) (seen b) f.locals → seen c ≡ block_of f
block_is f a b c first params locals =
    locals
    ∙ ap (λ (x : homes.Block). with_locals (stmt_taken f.body) x f.locals) (params ∙ ap (λ (x : homes.Block). with_locals (stmt_taken f.body) x f.params) first)
    ∙ sym (fold-append (with_local (stmt_taken f.body)) (record { offsets = []; bytes = 0 }) f.params f.locals)
