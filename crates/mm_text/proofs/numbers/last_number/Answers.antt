use Rattle.std.proofs.Common.{sym, arith}
use Rattle.mm_text.proofs.Digits.{number-many}
use Rattle.mm_text.proofs.numbers.last_number.Goals as goal

pub returns-in_default-2 : goal.returns-in_default-2
returns-in_default-2 c =
    sym (number-many c.args.before c.args.letters.now (omega (arith, c.in_default.len_at_least))
    c.requires.last)
