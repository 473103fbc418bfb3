use Rattle.std.proofs.Common.{ap, ◌∙◌, map, bytes_eq}
use Rattle.std.specs.Vec.{vec_items}
use Rattle.c_scope.specs.Index as spec
use Rattle.c_scope.proofs.IndexLaws.{added_map}
use Rattle.c_scope.proofs.index.Index.add.Goals as goal

pub returns : goal.returns
returns c =
    ap (λ keys. map vec_items keys) c.in_ok-insert.ensures.keys
    ∙ (added_map vec_items (λ name. bytes_eq (vec_items c.in_ok-name.name) name) c.self.inside.set.keys c.in_ok-name.name
    ∙ (ap (λ text. spec.added (map vec_items c.self.inside.set.keys) text) c.in_ok-name.ensures.items
    ∙ ap (λ names. spec.added names c.args.text.now) c.self.view_is))
