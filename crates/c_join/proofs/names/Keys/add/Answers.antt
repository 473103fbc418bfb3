use Rattle.std.proofs.Common.{◌∷◌, [], ◌++◌, ap, ◌∙◌, map}
use Rattle.join_laws.specs.Keys.{place_of_key, same_key}
use Rattle.c_join.proofs.SetLaws.{added_new, none_there}
use Rattle.c_join.proofs.names.Keys.add.Goals as goal

pub returns : goal.returns
returns c =
    ap (map (λ k. (k.0, k.1.now))) c.in_ok-insert_full.ensures.keys
    ∙ (added_new (λ k. (k.0, k.1.now)) (same_key (c.args.scope, c.args.name.now)) c.self.inside.set.keys (c.args.scope, c.args.name) (none_there (same_key (c.args.scope, c.args.name.now)) (map (λ k. (k.0, k.1.now)) c.self.inside.set.keys) (ap (λ keys. place_of_key keys (c.args.scope, c.args.name.now)) c.self.view_is ∙ c.requires))
    ∙ ap (λ keys. keys ++ (c.args.scope, c.args.name.now) ∷ []) c.self.view_is)
