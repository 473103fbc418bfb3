use Rattle.std.proofs.Common.{◌≡◌, map, drop}
use Rattle.c_grammar.specs.Tokens.{with_names}
use Rattle.c_parse.proofs.names.add_inits.Given as goal

abbrev pub invariant-loop-init : goal.invariant-loop-init
invariant-loop-init l = with_names l.names (map (λ i. i.declarator.name.text) (drop l.init-index l.inits)) ≡ with_names l.fn.names (map (λ i. i.declarator.name.text) l.inits)
