use Rattle.std.proofs.Common.{sym, ap, ◌∙◌, bytes_eq}
use Rattle.c_tree.specs.Conditions.{place_of}
use Rattle.c_join.proofs.SetLaws.{position_map}
use Rattle.c_join.proofs.names.Names.place.Goals as goal

pub returns : goal.returns
returns c =
    c.get_index_of.ensures.index
    ∙ (sym (position_map (λ k. k.now) (bytes_eq c.args.name.now) c.self.inside.set.keys)
    ∙ ap (λ names. place_of names c.args.name.now) c.self.view_is)
