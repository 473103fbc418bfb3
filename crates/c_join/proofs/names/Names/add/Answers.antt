use Rattle.std.proofs.Common.{◌∷◌, [], ◌++◌, ap, ◌∙◌, map, bytes_eq}
use Rattle.std.specs.List.{list_any}
use Rattle.c_join.proofs.SetLaws.{added_new}
use Rattle.c_join.proofs.names.Names.add.Goals as goal

pub returns : goal.returns
returns c =
    ap (map (λ k. k.now)) c.in_ok-insert_full.ensures.keys
    ∙ (added_new (λ k. k.now) (bytes_eq c.args.name.now) c.self.inside.set.keys c.args.name (ap (list_any (bytes_eq c.args.name.now)) c.self.view_is ∙ c.requires)
    ∙ ap (λ names. names ++ c.args.name.now ∷ []) c.self.view_is)
