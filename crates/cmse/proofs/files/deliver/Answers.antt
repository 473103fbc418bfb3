use Rattle.std.proofs.Common.{ap, Err}
use Rattle.cmse.proofs.BuildLaws.{second_ends}
use Rattle.cm_base.specs.Outside.{Rose}
use Rattle.cmse.proofs.files.deliver.Goals as goal

pub returns-in-Err-NoMemory-write-clause-delivers : goal.returns-in-Err-NoMemory-write-clause-delivers
returns-in-Err-NoMemory-write-clause-delivers g c =
    let files = g.S.Store.files in
    let faults = g.S.Store.write_faults in
    second_ends (files c.args.store.now) (files c.write.new.self) (files c.write-2.new.self) (Rose (faults c.args.store.now) (faults c.write-2.new.self)) c.args.library.now c.args.library_bytes.now c.args.image.now c.args.image_bytes.now c.requires c.in-Ok-write.ensures.value c.in-Ok-write.ensures.others_stay (c.in-Err-NoMemory-write.ensures.no_memory (ap Err c.in-Err-NoMemory-write.field-0-is)) c.in-Err-NoMemory-write.ensures.others_stay c.in-Ok-write.ensures.telling_stays c.in-Err-NoMemory-write.ensures.telling_stays
