use Rattle.std.proofs.Common.{ℕ, List, Some, ap, sym, ◌∙◌}
use Rattle.cm_base.specs.InMemory.{StoreState}
use Rattle.cm_base.specs.Outside.{Files, file_at}
use Rattle.cm_base.proofs.OutsideLaws.{file_at_found}
use Rattle.cm_base.proofs.mem_store.MemStore.get.Goals as goal

pub returns : goal.returns
returns c =
    ap Some c.as_slice.ensures
    ∙ ap (λ (file : List ℕ × List ℕ). Some file.1) (sym c.index-files-place.is)
    ∙ sym (file_at_found c.as_slice-files.result.now c.as_bytes.result.now c.in_ok-place.place c.index-files-place.result c.in_ok-place.ensures.found c.index-files-place.is)
    ∙ ap (λ (files : Files). file_at files c.as_bytes.result.now) c.as_slice-files.ensures
    ∙ ap (λ (s : StoreState). file_at s.files c.as_bytes.result.now) c.self.view_is
    ∙ ap (file_at c.args.self.now.files) c.as_bytes.ensures.value
