use Rattle.std.proofs.Common.{sym, ap, ◌∙◌, arith}
use Rattle.std.proofs.lemmas.Bool.Decides.{nat_tests}
use Rattle.v8m_isa.specs.Form.{is_kept}
use Rattle.v8m_isa.proofs.KindLaws.{kept_two, kept_few}
use Rattle.v8m_isa.proofs.form.Rule.is_kept.Goals as goal

pub returns-then-first-ne13 : goal.returns-then-first-ne13
returns-then-first-ne13 c =
    let kept = ap (λ r. is_kept r c.args.numbers.now) c.in-SpFromSp.is ∙ kept_two c.args.numbers.now c.in-len2-up.len_at_least in
    grind (arith, nat_tests)

pub returns-else-first-ne13 : goal.returns-else-first-ne13
returns-else-first-ne13 c =
    let kept = ap (λ r. is_kept r c.args.numbers.now) c.in-SpFromSp.is ∙ kept_two c.args.numbers.now c.in-len2-up.len_at_least in
    grind (arith, nat_tests)

pub returns-in_default : goal.returns-in_default
returns-in_default c = sym (ap (λ r. is_kept r c.args.numbers.now) c.in-SpFromSp.is ∙ kept_few c.args.numbers.now (omega arith))

pub returns-in-Free : goal.returns-in-Free
unfolding is_kept
returns-in-Free c = sym (ap (λ r. is_kept r c.args.numbers.now) c.in-Free.is)
