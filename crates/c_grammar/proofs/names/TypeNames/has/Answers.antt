use Rattle.std.proofs.Common.{◌≡◌, sym, ap, ◌∙◌}
use Rattle.c_grammar.specs.Tokens as spec
use Rattle.c_grammar.proofs.KnownLaws.{known_kept}
use Rattle.c_grammar.proofs.names.TypeNames.has.Goals as goal

pub returns : goal.returns
returns c = c.contains.ensures ∙ sym (known_kept (λ k. k.items) c.self.inside.kept.keys c.args.text.now) ∙ ap (λ l. spec.known l c.args.text.now) c.self.view_is
