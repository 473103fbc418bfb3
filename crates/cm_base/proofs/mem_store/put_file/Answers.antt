use Rattle.cm_base.proofs.OutsideLaws.{with_file_found, with_file_new}
use Rattle.cm_base.proofs.mem_store.put_file.Goals as goal

pub returns-in-Some-clause-ok : goal.returns-in-Some-clause-ok
returns-in-Some-clause-ok c =
    with_file_found c.args.files.now c.as_slice.result.now c.set.new.self c.args.name.now c.args.bytes.now _ _ c.in-Some.place c.in-Some.ensures.found c.as_slice.ensures c.in_ok-from_slice.ensures c.in_ok-from_slice-2.ensures c.set.ensures

pub returns-in_ok-push-in-None-clause-ok : goal.returns-in_ok-push-in-None-clause-ok
returns-in_ok-push-in-None-clause-ok c =
    with_file_new c.args.files.now c.as_slice.result.now c.push.new.self c.args.name.now c.args.bytes.now _ _ c.in-None.ensures.absent c.as_slice.ensures c.in_ok-from_slice.ensures c.in_ok-from_slice-2.ensures c.in_ok-push-in-None.ensures.ok
