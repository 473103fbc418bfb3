use Rattle.std.proofs.Common.{◌≡◌, false, take, bytes_eq}
use Rattle.std.specs.List.{list_any}
use Rattle.c_tree.specs.Conditions.{extern_names}
use Rattle.c_join.proofs.NameLaws.{is_new, item_at}
use Rattle.c_join.proofs.names.Names.of.Goals as goal

pub add-requires : goal.add-requires
add-requires c =
    let at = item_at c.args.externs.now c.loop-x.x-index c.x-item.result c.loop-x-test.true c.x-item.is in
    rw (c.as_slice.ensures, c.loop-x.invariant) (is_new c.args.externs.now c.loop-x.x-index c.x-item.result c.requires at)
