use Rattle.std.proofs.Common.{ap, sym, ◌∙◌}
use Rattle.std.specs.Vec.{vec_items}
use Rattle.linker.specs.Table.{found}
use Rattle.linker.proofs.NamesLaws.{found_map}
use Rattle.linker.proofs.names.Names.find.Goals as goal

pub returns : goal.returns
returns c =
    c.copied.ensures
    ∙ (c.get.ensures.value
    ∙ (sym (found_map vec_items c.self.inside.kept.entries c.args.name.now) ∙ ap (λ names. found names c.args.name.now) c.self.view_is))
