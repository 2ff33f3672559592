use Rattle.std.proofs.Common.{◌≡◌, true, drop, refl, arith}
use Rattle.std.specs.Str.{all_ascii_digits}
use Rattle.hint_file.proofs.DigitNumbers.{ten_digits, at_least}
use Rattle.hint_file.proofs.lines.short_number.Goals as goal

pub loop-digit-init : goal.loop-digit-init
loop-digit-init c =
    let all : all_ascii_digits c.args.digits.now ≡ true = cc in
    record {
      value = refl;
      small = ten_digits c.args.digits.now all (omega (arith, c.if-digits-gt-MAX_DIGITS.false));
    }

pub overflow_mul-number : goal.overflow_mul-number
overflow_mul-number c =
    omega (
      arith,
      at_least c.loop-digit.number (drop c.loop-digit.digit-index c.args.digits.now),
      c.loop-digit.invariant.value,
      c.loop-digit.invariant.small,
    )

pub overflow_add-number : goal.overflow_add-number
overflow_add-number c =
    omega (
      arith,
      at_least c.loop-digit.number (drop c.loop-digit.digit-index c.args.digits.now),
      c.loop-digit.invariant.value,
      c.loop-digit.invariant.small,
      c.from.ensures,
      c.saturating_sub.ensures,
    )
