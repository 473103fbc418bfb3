use Rattle.std.proofs.Common.{sym, ap, ◌∙◌, not, bytes_eq}
use Rattle.std.specs.List.{list_any}
use Rattle.import_lib.proofs.NameLaws.{list_any_map}
use Rattle.import_lib.proofs.names.Names.add.Goals as goal

pub returns-clause-new : goal.returns-clause-new
returns-clause-new c =
    c.in_ok-added.ensures.added
    ∙ ap not (sym (list_any_map (λ k. k.now) (bytes_eq c.args.name.now) c.self.inside.set.keys) ∙ ap (list_any (bytes_eq c.args.name.now)) c.self.view_is)
