use Rattle.std.proofs.Common.{◌≡◌, ◌+◌, ◌≤◌, ◌∷◌, drop, sym, ap, ◌∙◌, arith}
use Rattle.std.proofs.lemmas.List.{at_drop_more}
use Rattle.link_laws.specs.Sites.{behind, behind_texts}
use Rattle.link_laws.proofs.SiteLaws.{least}
use Rattle.linker.proofs.place.behind_texts.Goals as goal

pub behind-end-requires : goal.behind-end-requires
behind-end-requires c =
    let l = c.loop-object in
    let rest = drop (l.object-index + 1) c.args.objects.now in
    let at = at_drop_more (behind_texts l.end) c.args.objects.now l.object-index c.object-item.result c.loop-object-test.true in
    let here : behind_texts l.end (drop l.object-index c.args.objects.now) ≡ behind_texts (behind l.end c.object-item.result.text) rest = at ∙ ap (λ o. behind_texts l.end (o ∷ rest)) (sym c.object-item.is) in
    let low : behind l.end c.object-item.result.text ≤ behind_texts (behind l.end c.object-item.result.text) rest = least (λ o. o.text) (behind l.end c.object-item.result.text) rest in
    omega (arith, here, low, l.invariant, c.requires)
