use Rattle.std.proofs.Common.{◌≡◌, sym, ap, ◌∙◌, map}
use Rattle.c_grammar.specs.Tokens as spec
use Rattle.c_grammar.proofs.KnownLaws.{with_kept}
use Rattle.c_grammar.proofs.names.TypeNames.add.Goals as goal

pub returns-clause-ok : goal.returns-clause-ok
returns-clause-ok c =
    ap (map (λ k. k.items)) c.in_ok-insert.ensures.keys ∙ with_kept (λ k. k.items) c.self.inside.kept.keys c.in_ok-from_slice.field-0
    ∙ ap (spec.with_name (map (λ k. k.items) c.self.inside.kept.keys)) c.in_ok-from_slice.ensures.items ∙ ap (λ l. spec.with_name l c.args.text.now) c.self.view_is
