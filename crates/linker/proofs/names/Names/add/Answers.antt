use Rattle.std.proofs.Common.{ap, sym, ◌∙◌, refl, map, cond, is_some, bytes_eq, ◌++◌, ◌∷◌, []}
use Rattle.std.specs.Map.{lookup}
use Rattle.std.specs.Vec.{vec_items}
use Rattle.linker.specs.Table.{added, found}
use Rattle.linker.proofs.NamesLaws.{added_new, found_map}
use Rattle.linker.proofs.names.Names.add.Goals as goal

pub returns-then-contains_key : goal.returns-then-contains_key
returns-then-contains_key c =
    let there = ap (λ names. is_some (found names c.args.name.now)) (sym c.self.view_is) ∙ (ap is_some (found_map vec_items c.self.inside.kept.entries c.args.name.now) ∙ (sym c.contains_key.ensures ∙ c.if-contains_key.true)) in
    sym (ap (λ b. cond b c.args.self.now (c.args.self.now ++ (c.args.name.now, c.args.place) ∷ [])) there)

pub returns : goal.returns
returns c =
    let es = c.self.inside.kept.entries in
    let items = c.in_ok-owned.ensures.items in
    ap (map (λ e. (vec_items e.0, e.1))) c.in_ok-insert.ensures.entries
    ∙ (added_new vec_items (λ a b. bytes_eq (vec_items a) (vec_items b)) (λ a b. refl) c.in_ok-owned.owned c.args.place es (ap (λ t. is_some (lookup (λ x. bytes_eq t (vec_items x)) es)) items ∙ (sym c.contains_key.ensures ∙ c.if-contains_key.false))
    ∙ (ap (λ t. added (map (λ e. (vec_items e.0, e.1)) es) t c.args.place) items ∙ ap (λ names. added names c.args.name.now c.args.place) c.self.view_is))
