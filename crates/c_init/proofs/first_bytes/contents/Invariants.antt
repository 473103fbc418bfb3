use Rattle.std.proofs.Common.{◌≡◌, drop}
use Rattle.c_init.specs.Contents.{contents, put_items}
use Rattle.c_init.proofs.first_bytes.contents.Given as goal

abbrev pub invariant-loop-item : goal.invariant-loop-item
invariant-loop-item l = contents l.t l.items ≡ put_items l.bytes (drop l.item-index l.items)
