use Rattle.std.proofs.Common.{Some, is_some, ap, sym, subst, ◌∙◌}
use Rattle.cm_base.specs.Outside.{Rose, held}
use Rattle.cmse.specs.Files.{FilesChange}
use Rattle.cmse.specs.Build.{Builds}
use Rattle.cmse.specs.Steps.{Delivers}
use Rattle.cmse.proofs.BuildLaws.{deliver_ends, refused_ends, read_form, read_other}
use Rattle.cmse.proofs.build.build.Goals as goal

pub returns-in-Ok-Some-clause-ends : goal.returns-in-Ok-Some-clause-ends
returns-in-Ok-Some-clause-ends g c =
    let files = g.S.Store.files in
    let reads = g.S.Store.read_faults in
    let writes = g.S.Store.write_faults in
    let old = files c.args.store.now in
    let new = files c.deliver.new.store in
    let rose = Rose (writes c.args.store.now) (writes c.deliver.new.store) in
    let change : FilesChange = record {
      old = old;
      new = new;
      reads = Rose (reads c.args.store.now) (reads c.deliver.new.store);
      writes = rose;
    } in
    let text = c.as_slice.result.now in
    let lib = c.as_slice-in-Ok-Some.result.now in
    let img = c.as_slice-in-Ok-Some-2.result.now in
    let made = rw c.in-Ok-Some.field-0-is at c.in-Ok-Some.ensures in
    let builds : Builds text lib img = subst (λ l. Builds text l img) (sym c.as_slice-in-Ok-Some.ensures) (subst (λ i. Builds text c.in-Ok-Some.built.library i) (sym c.as_slice-in-Ok-Some-2.ensures) made) in
    let mid = files c.read_source.new.store in
    let delivers : Delivers old new rose c.args.library.now lib c.args.image.now img c.deliver.result = subst (λ f. Delivers f new rose c.args.library.now lib c.args.image.now img c.deliver.result) c.in-Ok.ensures.files_stay (subst (λ k. Delivers mid new (Rose k (writes c.deliver.new.store)) c.args.library.now lib c.args.image.now img c.deliver.result) c.in-Ok.ensures.writes_stay c.deliver.ensures.delivers) in
    deliver_ends change c.args.library.now lib c.args.image.now img c.args.source.now text c.deliver.result (c.deliver.ensures.telling_stays ∙ ap is_some c.in-Ok.ensures.files_stay) delivers builds
    (λ t. read_form (held old c.args.source.now) text lib img (c.in-Ok.ensures.value t ∙ ap Some (sym c.as_slice.ensures)) builds)

pub returns-in-Ok-None-clause-ends : goal.returns-in-Ok-None-clause-ends
returns-in-Ok-None-clause-ends g c =
    let files = g.S.Store.files in
    let reads = g.S.Store.read_faults in
    let writes = g.S.Store.write_faults in
    let old = files c.args.store.now in
    let change : FilesChange = record {
      old = old;
      new = files c.read_source.new.store;
      reads = Rose (reads c.args.store.now) (reads c.read_source.new.store);
      writes = Rose (writes c.args.store.now) (writes c.read_source.new.store);
    } in
    refused_ends change c.args.image.now c.args.library.now c.args.source.now c.refused.result c.in-Ok.ensures.files_stay c.refused.ensures
    (λ t. read_other (held old c.args.source.now) c.as_slice.result.now (c.in-Ok.ensures.value t ∙ ap Some (sym c.as_slice.ensures)) (rw c.in-Ok-None.field-0-is at c.in-Ok-None.ensures))
