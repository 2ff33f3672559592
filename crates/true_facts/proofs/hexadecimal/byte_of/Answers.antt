use Rattle.std.proofs.Common.{◌≡◌, ◌+◌, ◌*◌, ◌/◌, ◌%◌, ap, ◌∙◌, arith}
use Rattle.std.specs.Char.{digit_char}
use Rattle.true_facts.proofs.hexadecimal.byte_of.Goals as goal

pub returns-in_default : goal.returns-in_default
returns-in_default c = λ b low first second. c.in_default.ensures _ (omega arith) first

pub returns : goal.returns
returns c =
    let high : c.in-Some.first ≡ (c.in-Some.first * 16 + c.in-Some-digit_of.second) / 16 =
    omega (arith, c.in-Some-digit_of.ensures.0) in
    let low : c.in-Some-digit_of.second
    ≡ (c.in-Some.first * 16 + c.in-Some-digit_of.second) % 16 =
    omega (arith, c.in-Some-digit_of.ensures.0) in (
      omega (arith, c.in-Some.ensures.0, c.in-Some-digit_of.ensures.0),
      c.in-Some.ensures.1 ∙ ap digit_char high,
      c.in-Some-digit_of.ensures.1 ∙ ap digit_char low,
    )
