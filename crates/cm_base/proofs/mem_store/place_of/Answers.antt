use Rattle.std.proofs.Common.{◌≡◌, false, bytes_eq, get_or, arith}
use Rattle.cm_base.proofs.OutsideLaws.{file_at-take_more}
use Rattle.cm_base.proofs.mem_store.place_of.Goals as goal

pub loop-place-preserved : goal.loop-place-preserved
loop-place-preserved c =
    let other : bytes_eq (get_or c.args.files.now c.loop-place.place c.index-files-place.result).0 c.args.name.now ≡ false = cc in
    file_at-take_more c.args.files.now c.args.name.now c.loop-place.place c.index-files-place.result (omega arith) c.loop-place.invariant other
