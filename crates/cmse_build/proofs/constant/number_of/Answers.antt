use Rattle.std.proofs.Common.{◌≡◌, true, sym, ap, ◌∙◌, arith}
use Rattle.std.proofs.lemmas.Fmt.{IsAscii-decimal}
use Rattle.std.proofs.lemmas.Str.{IsUtf8-from_ascii}
use Rattle.std.specs.Str.{IsUtf8}
use Rattle.std.specs.Str.Parse.{digits_value}
use Rattle.std.specs.Fmt.{decimal}
use Rattle.std.proofs.lemmas.Result.{OkIff-at_ok, OkIff-at_err}
use Rattle.cmse_build.specs.Constant.{is_decimal}
use Rattle.cmse_build.proofs.Texts.{is_decimal-decimal, parsed, decimal-parsed, digits_value-decimal_int}
use Rattle.cmse_build.proofs.constant.number_of.Goals as goal

pub returns-then-not-is_decimal : goal.returns-then-not-is_decimal
returns-then-not-is_decimal c = λ n le e.
    let d : is_decimal c.args.digits.now ≡ true = ap is_decimal e ∙ is_decimal-decimal n le in
    cc

pub returns-in_default : goal.returns-in_default
returns-in_default c = λ n le e.
    let u : IsUtf8 c.args.digits.now = rw e (IsUtf8-from_ascii _ (IsAscii-decimal n (omega arith))) in
    c.in_default.ensures.cases.0 u

pub returns-in-Ok-parse : goal.returns-in-Ok-parse
returns-in-Ok-parse c =
    let same : c.in-Ok.text.now ≡ c.args.digits.now = c.in-Ok.ensures.cases.0 in
    let d : is_decimal c.in-Ok.text.now ≡ true = ap is_decimal same ∙ cc in
    let p = OkIff-at_ok c.parse.result _ _ _ (parsed c.in-Ok.text.now c.parse.result c.parse.ensures.value.0 d) c.in-Ok-parse.is in
    (c.if-n-le-MOST.true, sym same ∙ (decimal-parsed c.in-Ok.text.now d p.0 ∙ ap decimal (sym p.1)))

pub returns-in_default-parse : goal.returns-in_default-parse
returns-in_default-parse c = λ n le e.
    let same : c.in-Ok.text.now ≡ c.args.digits.now = c.in-Ok.ensures.cases.0 in
    let d : is_decimal c.in-Ok.text.now ≡ true = ap is_decimal same ∙ cc in
    let p = OkIff-at_ok c.parse.result _ _ _ (parsed c.in-Ok.text.now c.parse.result c.parse.ensures.value.0 d) c.in-Ok-parse.is in
    let v : digits_value 10 c.in-Ok.text.now ≡ n = ap (digits_value 10) (same ∙ e) ∙ digits_value-decimal_int n le in
    absurd (omega (arith, p.1, c.if-n-le-MOST.false))

pub returns-in_default-parse-2 : goal.returns-in_default-parse-2
returns-in_default-parse-2 c = λ n le e.
    let same : c.in-Ok.text.now ≡ c.args.digits.now = c.in-Ok.ensures.cases.0 in
    let d : is_decimal c.in-Ok.text.now ≡ true = ap is_decimal same ∙ cc in
    let p = OkIff-at_err c.parse.result _ _ _ (parsed c.in-Ok.text.now c.parse.result c.parse.ensures.value.0 d) c.in_default-parse.is in
    let v : digits_value 10 c.in-Ok.text.now ≡ n = ap (digits_value 10) (same ∙ e) ∙ digits_value-decimal_int n le in
    p (omega arith)
