use Rattle.std.proofs.Common.{sym, ap, ◌∙◌, bytes_eq}
use Rattle.std.specs.Vec.{vec_items}
use Rattle.c_scope.specs.Index as spec
use Rattle.c_scope.proofs.IndexLaws.{position_map}
use Rattle.c_scope.proofs.index.Index.place_of.Goals as goal

pub returns : goal.returns
returns c =
    c.get_index_of.ensures.index
    ∙ (sym (position_map vec_items (λ name. bytes_eq c.args.text.now name) c.self.inside.set.keys)
    ∙ ap (λ names. spec.place_of names c.args.text.now) c.self.view_is)
