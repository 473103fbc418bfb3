use Rattle.std.proofs.Common.{sym, ◌∙◌}
use Rattle.std.proofs.lemmas.Bool.{eqb-true}
use Rattle.std.proofs.lemmas.List.{nil_from_length}
use Rattle.c_lex.proofs.NameLaws.{word_empty}
use Rattle.c_lex.proofs.words.word_of.Goals as goal

pub returns-then-is_empty : goal.returns-then-is_empty
returns-then-is_empty c = sym (word_empty c.args.name.now (nil_from_length c.args.name.now (eqb-true _ _ (sym c.is_empty.ensures ∙ c.if-is_empty.true))))
