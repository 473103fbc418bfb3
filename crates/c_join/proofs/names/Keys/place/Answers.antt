use Rattle.std.proofs.Common.{sym, ap, ◌∙◌}
use Rattle.join_laws.specs.Keys.{place_of_key, same_key}
use Rattle.c_join.proofs.SetLaws.{position_map}
use Rattle.c_join.proofs.names.Keys.place.Goals as goal

pub returns : goal.returns
returns c =
    c.get_index_of.ensures.index
    ∙ (sym (position_map (λ k. (k.0, k.1.now)) (same_key (c.args.scope, c.args.name.now)) c.self.inside.set.keys)
    ∙ ap (λ keys. place_of_key keys (c.args.scope, c.args.name.now)) c.self.view_is)
