use Rattle.std.proofs.Common.{◌≡◌, None, take}
use Rattle.cm_base.specs.Outside.{file_at}
use Rattle.cm_base.proofs.mem_store.place_of.Given as goal

abbrev pub invariant-loop-place : goal.invariant-loop-place
invariant-loop-place l = file_at (take l.place l.files) l.name ≡ None
