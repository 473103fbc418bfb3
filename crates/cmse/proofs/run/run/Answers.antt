use Rattle.std.proofs.Common.{Some, Ok, Err, refl, ap, sym, ◌∙◌}
use Rattle.cm_base.specs.Outside.{Rose}
use Rattle.cmse.specs.Files.{Change}
use Rattle.cmse.specs.Run.{in_image, in_script}
use Rattle.cmse.proofs.RunLaws.{plays, put_ends, unfit_ends, read_later}
use Rattle.cmse.proofs.run.run.Goals as goal

pub returns-in-Ok-play-clause-ends : goal.returns-in-Ok-play-clause-ends
returns-in-Ok-play-clause-ends g c =
    let files = g.S.Store.files in
    let reads = g.S.Store.read_faults in
    let writes = g.S.Store.write_faults in
    let given = g.K.Sink.given in
    let faults = g.K.Sink.faults in
    let old = files c.args.store.now in
    let change : Change = record {
      files = record {
        old = old;
        new = files c.read_file-2.new.store;
        reads = Rose (reads c.args.store.now) (reads c.read_file-2.new.store);
        writes = Rose (writes c.args.store.now) (writes c.read_file-2.new.store);
      };
      output = record {
        before = given c.args.out.now;
        after = given c.put.new.out;
        puts = Rose (faults c.args.out.now) (faults c.put.new.out);
      };
    } in
    let text = c.as_slice-in-Ok-play.result.now in
    put_ends change c.args.steps c.args.image.now c.args.script.now text c.put.result c.put.ensures.ends
    (plays old c.args.image.now c.args.script.now c.args.steps c.as_slice.result.now c.as_slice-2.result.now (Ok text)
    (λ t. c.in-Ok.ensures.value t ∙ ap Some (sym c.as_slice.ensures))
    (λ t. read_later old (files c.read_file.new.store) c.args.script.now c.in-Ok-read_file.bytes c.in-Ok.ensures.files_stay c.in-Ok-read_file.ensures.value t ∙ ap Some (sym c.as_slice-2.ensures))
    (c.in-Ok-play.ensures ∙ ap Ok (sym c.as_slice-in-Ok-play.ensures)))

pub returns-in-Err-Image-clause-ends : goal.returns-in-Err-Image-clause-ends
returns-in-Err-Image-clause-ends g c =
    let files = g.S.Store.files in
    let reads = g.S.Store.read_faults in
    let writes = g.S.Store.write_faults in
    let given = g.K.Sink.given in
    let faults = g.K.Sink.faults in
    let old = files c.args.store.now in
    let change : Change = record {
      files = record {
        old = old;
        new = files c.read_file-2.new.store;
        reads = Rose (reads c.args.store.now) (reads c.read_file-2.new.store);
        writes = Rose (writes c.args.store.now) (writes c.read_file-2.new.store);
      };
      output = record {
        before = given c.args.out.now;
        after = given c.args.out.now;
        puts = Rose (faults c.args.out.now) (faults c.args.out.now);
      };
    } in
    unfit_ends change c.args.steps c.args.image.now c.args.script.now (in_image c.in-Err-Image.at) c.unfit.result refl c.unfit.ensures
    (plays old c.args.image.now c.args.script.now c.args.steps c.as_slice.result.now c.as_slice-2.result.now (Err (in_image c.in-Err-Image.at))
    (λ t. c.in-Ok.ensures.value t ∙ ap Some (sym c.as_slice.ensures))
    (λ t. read_later old (files c.read_file.new.store) c.args.script.now c.in-Ok-read_file.bytes c.in-Ok.ensures.files_stay c.in-Ok-read_file.ensures.value t ∙ ap Some (sym c.as_slice-2.ensures))
    (rw c.in-Err-Image.field-0-is at c.in-Err-Image.ensures))

pub returns-in-Err-Script-clause-ends : goal.returns-in-Err-Script-clause-ends
returns-in-Err-Script-clause-ends g c =
    let files = g.S.Store.files in
    let reads = g.S.Store.read_faults in
    let writes = g.S.Store.write_faults in
    let given = g.K.Sink.given in
    let faults = g.K.Sink.faults in
    let old = files c.args.store.now in
    let change : Change = record {
      files = record {
        old = old;
        new = files c.read_file-2.new.store;
        reads = Rose (reads c.args.store.now) (reads c.read_file-2.new.store);
        writes = Rose (writes c.args.store.now) (writes c.read_file-2.new.store);
      };
      output = record {
        before = given c.args.out.now;
        after = given c.args.out.now;
        puts = Rose (faults c.args.out.now) (faults c.args.out.now);
      };
    } in
    unfit_ends change c.args.steps c.args.image.now c.args.script.now (in_script c.in-Err-Script.at) c.unfit-in-Err-Script.result refl c.unfit-in-Err-Script.ensures
    (plays old c.args.image.now c.args.script.now c.args.steps c.as_slice.result.now c.as_slice-2.result.now (Err (in_script c.in-Err-Script.at))
    (λ t. c.in-Ok.ensures.value t ∙ ap Some (sym c.as_slice.ensures))
    (λ t. read_later old (files c.read_file.new.store) c.args.script.now c.in-Ok-read_file.bytes c.in-Ok.ensures.files_stay c.in-Ok-read_file.ensures.value t ∙ ap Some (sym c.as_slice-2.ensures))
    (rw c.in-Err-Script.field-0-is at c.in-Err-Script.ensures))
