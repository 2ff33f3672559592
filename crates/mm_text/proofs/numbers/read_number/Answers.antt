use Rattle.std.proofs.Common.{◌∙◌, ◌+◌, ◌*◌, drop, ap, sym, arith}
use Rattle.mm_text.specs.Compressed.{within_limit}
use Rattle.mm_text.proofs.Digits.{begin, digit-pass, number-large}
use Rattle.mm_text.proofs.numbers.read_number.Goals as goal

pub loop-at-init : goal.loop-at-init
loop-at-init c = record {
  small = omega arith;
  same = ap within_limit (sym (begin c.args.letters.now));
}

pub returns-then-before : goal.returns-then-before
returns-then-before c =
    sym (sym c.loop-at.invariant.same
    ∙ digit-pass c.args.letters.now c.loop-at.at c.loop-at.before c.in-Some.digit (omega arith)
    (sym c.leading_digit.ensures ∙ c.in-Some.is)
    ∙ number-large (drop (c.loop-at.at + 1) c.args.letters.now)
    (5 * c.loop-at.before + c.in-Some.digit) (omega arith))
