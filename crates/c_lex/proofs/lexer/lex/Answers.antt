use Rattle.std.proofs.Common.{subst, sym, ap, ◌∙◌}
use Rattle.cm_base.specs.declared.place.Place.{Place}
use Rattle.c_lex.specs.Spot.{place_of}
use Rattle.c_lex.specs.Tokens.{FirstFault, too_long}
use Rattle.c_lex.proofs.AnswerLaws.{tokens_are, fault_no_tokens, fault_gives}
use Rattle.c_lex.proofs.SplitLaws.{one_list, not_both}
use Rattle.c_lex.proofs.lexer.lex.Goals as goal

pub returns-then-bytes-gt-MAX_SOURCE-clause-fault : goal.returns-then-bytes-gt-MAX_SOURCE-clause-fault
returns-then-bytes-gt-MAX_SOURCE-clause-fault c =
    subst (λ (p : Place). FirstFault c.args.unit c.args.bytes.now 5 p) (sym (c.place.ensures ∙ ap (place_of c.args.unit) c.start.ensures)) (too_long c.if-bytes-gt-MAX_SOURCE.true)

pub returns-in-Ok-clause-only_tokens : goal.returns-in-Ok-clause-only_tokens
returns-in-Ok-clause-only_tokens c = λ tokens h.
    one_list c.args.unit c.args.bytes.now c.in-Ok.tokens tokens (tokens_are c.args.unit c.args.bytes.now c.in-Ok.tokens c.if-bytes-gt-MAX_SOURCE.false c.in-Ok.ensures.ok) h

pub returns-in-Ok-clause-only_fault : goal.returns-in-Ok-clause-only_fault
returns-in-Ok-clause-only_fault c = λ code place f.
    not_both c.args.unit c.args.bytes.now c.in-Ok.tokens code place (tokens_are c.args.unit c.args.bytes.now c.in-Ok.tokens c.if-bytes-gt-MAX_SOURCE.false c.in-Ok.ensures.ok) f

pub returns-in-Err-At-clause-only_tokens : goal.returns-in-Err-At-clause-only_tokens
returns-in-Err-At-clause-only_tokens c = λ tokens h. fault_no_tokens c.args.unit c.args.bytes.now c.placed.result c.placed.ensures tokens h

pub returns-in-Err-At-clause-only_fault : goal.returns-in-Err-At-clause-only_fault
returns-in-Err-At-clause-only_fault c = λ code place f. fault_gives c.args.unit c.args.bytes.now c.placed.result c.placed.ensures code place f
