use Rattle.std.proofs.Common.{◌∙◌, ◌++◌, ap, drop, arith, if◌then◌else◌}
use Rattle.std.specs.Prelude.{is_ok}
use Rattle.mm_text.specs.Compressed.{digits, steps_from, number_of_steps}
use Rattle.mm_text.proofs.Digits.{begin, spelled}
use Rattle.mm_text.proofs.numbers.push_number.Goals as goal

pub returns-clause-spelled : goal.returns-clause-spelled
returns-clause-spelled c =
    let letters = drop c.loop-before.at c.loop-before.letters in
    spelled c.extend_from_slice.result c.args.n c.args.to.now.items _ letters
    (c.extend_from_slice.ensures.items
    ∙ ap (λ ls. if is_ok c.extend_from_slice.result then c.args.to.now.items ++ ls
    else c.args.to.now.items) c.behind.ensures)
    (begin letters ∙ ap (λ v. number_of_steps (steps_from (digits v) letters)) (omega arith)
    ∙ c.loop-before.invariant.same)
