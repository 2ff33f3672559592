use Rattle.std.proofs.Common.{◌≡◌, ◌≤◌, ℕ, List, true, length, arith, ap, ◌∙◌, subst}
use Rattle.std.specs.Str.{all_ascii_digits}
use Rattle.std.specs.Str.Parse.{ParsesUnsigned}
use Rattle.kore_axioms.proofs.DigitTexts.{parsed}
use Rattle.kore_axioms.proofs.priorities.short_number.Goals as goal

pub returns : goal.returns
returns c =
    let all : all_ascii_digits c.args.text.now ≡ true = cc in
    let short : length c.args.text.now ≤ 9 =
    omega (arith, c.if-digits-gt-MAX_DIGITS.false, ap length c.as_str-digits.ensures) in
    c.ok.ensures.value
    ∙ parsed c.args.text.now c.parse.result (subst
    (λ (bs : List ℕ). ParsesUnsigned 32 10 bs c.parse.result) c.as_str-digits.ensures
    c.parse.ensures.value.0) short all
