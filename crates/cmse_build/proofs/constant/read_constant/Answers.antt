use Rattle.std.proofs.Common.{◌≡◌, ◌++◌, subst, take, drop, true, sym, ap, ◌∙◌, codes}
use Rattle.std.specs.Fmt.{decimal}
use Rattle.cmse_build.specs.Constant.{IsEnd, is_entry_name}
use Rattle.std.proofs.lemmas.List.{take-append-drop}
use Rattle.std.proofs.lemmas.Bool.{false≢true}
use Rattle.cmse_build.proofs.Texts.{no_constant, name_at, number_at}
use Rattle.cmse_build.proofs.constant.read_constant.Goals as goal

pub returns-in_err-rest-clause-none : goal.returns-in_err-rest-clause-none
returns-in_err-rest-clause-none c = no_constant _ c.args.text.now (λ name n k. c.in_err-rest.ensures _ k.spelled)

pub returns-then-not-is_entry_name-clause-none : goal.returns-then-not-is_entry_name-clause-none
returns-then-not-is_entry_name-clause-none c = λ name n k.
    let at = name_at _ name c.in_ok-rest.rest.now n k c.in_ok-rest.ensures in
    let same : c.split_at.result.0.now ≡ name = c.split_at.ensures.front ∙ (ap (λ i. take i c.in_ok-rest.rest.now) c.word_len.ensures.value ∙ at.0) in
    let e : is_entry_name c.split_at.result.0.now ≡ true = ap is_entry_name same ∙ k.is_name in
    false≢true (sym c.if-not-is_entry_name.true ∙ (c.is_entry_name.ensures ∙ e))

pub returns-in_err-rest-2-clause-none : goal.returns-in_err-rest-2-clause-none
returns-in_err-rest-2-clause-none c = no_constant _ c.args.text.now (λ name n k.
    let at = name_at _ name c.in_ok-rest.rest.now n k c.in_ok-rest.ensures in
    c.in_err-rest-2.ensures _ (c.split_at.ensures.back ∙ (ap (λ i. drop i c.in_ok-rest.rest.now) c.word_len.ensures.value ∙ at.1)))

pub returns-in_err-n-clause-none : goal.returns-in_err-n-clause-none
returns-in_err-n-clause-none c = no_constant _ c.args.text.now (λ name n k.
    let at = name_at _ name c.in_ok-rest.rest.now n k c.in_ok-rest.ensures in
    let middle = sym (c.split_at.ensures.back ∙ (ap (λ i. drop i c.in_ok-rest.rest.now) c.word_len.ensures.value ∙ at.1)) ∙ c.in_ok-rest-2.ensures in
    let num = number_at _ name c.in_ok-rest-2.rest.now n k middle in
    c.in_err-n.ensures n k.is_int (c.split_at-2.ensures.front ∙ (ap (λ i. take i c.in_ok-rest-2.rest.now) c.digits_len.ensures.value ∙ num.0)))

pub returns-then-is_end-clause-found : goal.returns-then-is_end-clause-found
returns-then-is_end-clause-found c = record {
  rest = c.split_at-2.result.1.now;
  is_name = sym c.is_entry_name.ensures ∙ c.if-not-is_entry_name.false;
  is_int = c.in_ok-n.ensures.0;
  is_end = c.is_end.ensures.0 c.if-is_end.true;
  spelled = c.in_ok-rest.ensures ∙ ap (λ s. codes "int __attribute__((cmse_nonsecure_entry)) " ++ s)
      (sym (take-append-drop c.word_len.result c.in_ok-rest.rest.now) ∙ (ap (λ s. s ++ drop c.word_len.result c.in_ok-rest.rest.now) (sym c.split_at.ensures.front)
      ∙ ap (λ s. c.split_at.result.0.now ++ s) (sym c.split_at.ensures.back ∙ (c.in_ok-rest-2.ensures ∙ ap (λ s. codes "(void) { return " ++ s)
      (sym (take-append-drop c.digits_len.result c.in_ok-rest-2.rest.now) ∙ (ap (λ s. s ++ drop c.digits_len.result c.in_ok-rest-2.rest.now) (sym c.split_at-2.ensures.front ∙ c.in_ok-n.ensures.1)
      ∙ ap (λ s. decimal c.in_ok-n.n ++ s) (sym c.split_at-2.ensures.back)))))));
}

pub returns-else-is_end-clause-none : goal.returns-else-is_end-clause-none
returns-else-is_end-clause-none c = λ name n k.
    let at = name_at _ name c.in_ok-rest.rest.now n k c.in_ok-rest.ensures in
    let middle = sym (c.split_at.ensures.back ∙ (ap (λ i. drop i c.in_ok-rest.rest.now) c.word_len.ensures.value ∙ at.1)) ∙ c.in_ok-rest-2.ensures in
    let num = number_at _ name c.in_ok-rest-2.rest.now n k middle in
    let same : c.split_at-2.result.1.now ≡ k.rest = c.split_at-2.ensures.back ∙ (ap (λ i. drop i c.in_ok-rest-2.rest.now) c.digits_len.ensures.value ∙ num.1) in
    false≢true (sym c.if-is_end.false ∙ c.is_end.ensures.1 (subst IsEnd (sym same) k.is_end))
