use Rattle.std.proofs.Common.{◌∙◌, ap, sym, subst}
use Rattle.cm_base.specs.Outside.{file_at, NamesDiffer}
use Rattle.cm_base.specs.InMemory.{StoreState}
use Rattle.cm_base.proofs.OutsideLaws.{file_at-with_same, file_at-with_other, NamesDiffer-with_file}
use Rattle.cm_base.proofs.mem_store.MemStoreStore.write.Goals as goal

pub returns-clause-value : goal.returns-clause-value
returns-clause-value c =
    ap (λ (s : StoreState). file_at s.files c.args.name.now) c.in_ok-replace.ensures.ok
    ∙ file_at-with_same c.count.new.self.files c.args.name.now c.args.bytes.now

pub returns-clause-others_stay : goal.returns-clause-others_stay
returns-clause-others_stay c = λ other ne.
    ap (λ (s : StoreState). file_at s.files other) c.in_ok-replace.ensures.ok
    ∙ file_at-with_other c.count.new.self.files c.args.name.now c.args.bytes.now other ne
    ∙ ap (λ (s : StoreState). file_at s.files other) c.count.ensures.counted

pub returns-clause-names_differ : goal.returns-clause-names_differ
returns-clause-names_differ c = λ differ.
    subst (λ (s : StoreState). NamesDiffer s.files) (sym c.in_ok-replace.ensures.ok)
    (NamesDiffer-with_file c.count.new.self.files c.args.name.now c.args.bytes.now
    (subst (λ (s : StoreState). NamesDiffer s.files) (sym c.count.ensures.counted) differ))
