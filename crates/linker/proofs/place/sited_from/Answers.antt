use Rattle.std.proofs.Common.{◌≡◌, ℕ, ◌≤◌, List, [], ◌∷◌, ◌++◌, sym, ap, ◌∙◌, append_assoc, arith}
use Rattle.std.specs.Vec.Iter.{into_iter_items}
use Rattle.elf_object.specs.declared.object.Object.{Object}
use Rattle.elf_object.specs.declared.object.Sited.{Sited}
use Rattle.link_laws.specs.Sites.{behind, behind_texts, behind_inits, sited_from}
use Rattle.link_laws.proofs.SiteLaws.{least}
use Rattle.linker.proofs.place.sited_from.Goals as goal

-- one step of the loop over objects
sited_step : (t i t2 i2 : ℕ) (o : Object) (items rest : List Object) (old new total : List Sited) → items ≡ o ∷ rest → old ++ sited_from t i items ≡ total → new ≡ old ++ (let s : Sited = record { object = o; text_at = t; init_at = i } in s) ∷ [] → t2 ≡ behind t o.text → i2 ≡ behind i o.init → new ++ sited_from t2 i2 rest ≡ total
sited_step t i t2 i2 o items rest old new total steps inv en et ei =
    let s : Sited = record { object = o; text_at = t; init_at = i } in
    ap (λ l. l ++ sited_from t2 i2 rest) en
    ∙ (append_assoc old (s ∷ []) (sited_from t2 i2 rest)
    ∙ (ap (λ a. old ++ s ∷ sited_from a i2 rest) et
    ∙ (ap (λ a. old ++ s ∷ sited_from (behind t o.text) a rest) ei
    ∙ (sym (ap (λ os. old ++ sited_from t i os) steps) ∙ inv))))

pub behind-next_text-requires : goal.behind-next_text-requires
behind-next_text-requires c =
    let l = c.loop-object in
    let o = c.in-Some.object in
    let rest = into_iter_items c.next.new.self in
    let here : behind_texts l.text_at (into_iter_items l.object-iterator) ≡ behind_texts (behind l.text_at o.text) rest = ap (behind_texts l.text_at) c.in-Some.ensures.steps.0 in
    let low : behind l.text_at o.text ≤ behind_texts (behind l.text_at o.text) rest = least (λ x. x.text) (behind l.text_at o.text) rest in
    omega (arith, here, low, l.invariant.texts, c.requires.texts)

pub behind-next_init-requires : goal.behind-next_init-requires
behind-next_init-requires c =
    let l = c.loop-object in
    let o = c.in-Some.object in
    let rest = into_iter_items c.next.new.self in
    let here : behind_inits l.init_at (into_iter_items l.object-iterator) ≡ behind_inits (behind l.init_at o.init) rest = ap (behind_inits l.init_at) c.in-Some.ensures.steps.0 in
    let low : behind l.init_at o.init ≤ behind_inits (behind l.init_at o.init) rest = least (λ x. x.init) (behind l.init_at o.init) rest in
    omega (arith, here, low, l.invariant.inits, c.requires.inits)

pub loop-object-preserved : goal.loop-object-preserved
loop-object-preserved c =
    let l = c.loop-object in
    let o = c.in-Some.object in
    let rest = into_iter_items c.next.new.self in
    let steps = c.in-Some.ensures.steps.0 in
    record {
      all = sited_step l.text_at l.init_at c.behind-next_text.result c.behind-next_init.result o (into_iter_items l.object-iterator) rest l.all _ _ steps l.invariant.all c.in_ok-push.ensures.ok c.behind-next_text.ensures c.behind-next_init.ensures;
      texts = ap (λ a. behind_texts a rest) c.behind-next_text.ensures ∙ (sym (ap (behind_texts l.text_at) steps) ∙ l.invariant.texts);
      inits = ap (λ a. behind_inits a rest) c.behind-next_init.ensures ∙ (sym (ap (behind_inits l.init_at) steps) ∙ l.invariant.inits);
    }
