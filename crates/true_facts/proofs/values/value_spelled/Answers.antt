use Rattle.std.proofs.Common.{◌≡◌, Option, Some, None, sym, ◌∙◌, ap, subst}
use Rattle.std.specs.Str.{IsUtf8}
use Rattle.ml_image.specs.Tokens.{hexadecimal}
use Rattle.ml_image.proofs.ImageLaws.{if_ok}
use Rattle.term_core.specs.declared.values.Value.{Value}
use Rattle.true_facts.specs.Digits.{AreBytes, AreSpelled}
use Rattle.true_facts.specs.Only.{IsOnly}
use Rattle.true_facts.specs.Values.{HasValueText, value_found}
use Rattle.true_facts.proofs.ValueLaws.{not_digits, not_text, digits_only, HasDigits}
use Rattle.true_facts.proofs.values.value_spelled.Goals as goal

pub returns-in_default : goal.returns-in_default
returns-in_default c =
    let spelled : AreSpelled c.as_bytes.result.now None =
    subst (AreSpelled c.as_bytes.result.now) c.in_default.is c.in_ok-bytes.ensures in
    not_digits c.args.kind c.args.digits.now
    (λ bytes are e. spelled bytes are (c.as_bytes.ensures.value ∙ e))

pub returns-in-Ok : goal.returns-in-Ok
returns-in-Ok c =
    let spelled : AreSpelled c.as_bytes.result.now (Some c.in-Some.bytes) =
    subst (AreSpelled c.as_bytes.result.now) c.in-Some.is c.in_ok-bytes.ensures in
    let same : c.in-Ok.text.now ≡ c.in-Some.bytes.items =
    c.in-Ok.ensures.cases.0 ∙ c.deref.ensures.value in
    if_ok (λ (r : Option Value). IsOnly (HasValueText c.args.kind c.in-Ok.text.now) (value_found r))
    (λ (r : Option Value). IsOnly (HasDigits c.args.kind c.args.digits.now) (value_found r))
    c.value_in.result
    (λ r one. digits_only c.args.kind c.args.digits.now c.in-Ok.text.now (value_found r)
    (subst AreBytes (sym same) spelled.0)
    (sym c.as_bytes.ensures.value ∙ spelled.1 ∙ ap hexadecimal (sym same)) one)
    c.value_in.ensures

pub returns : goal.returns
returns c =
    let spelled : AreSpelled c.as_bytes.result.now (Some c.in-Some.bytes) =
    subst (AreSpelled c.as_bytes.result.now) c.in-Some.is c.in_ok-bytes.ensures in
    not_text c.args.kind c.args.digits.now c.in-Some.bytes.items spelled.0
    (sym c.as_bytes.ensures.value ∙ spelled.1) (λ u. c.in-Err.ensures.cases.0
    (subst IsUtf8 (sym c.deref.ensures.value) u))
