use Rattle.std.proofs.Common.{◌<◌, ◌+◌, ◌∙◌, sym, arith, length}
use Rattle.std.proofs.lemmas.List.{length-drop}
use Rattle.mm_check.proofs.Words.{word_first, word_last, to_end}
use Rattle.mm_check.proofs.header.first_word.Goals as goal

pub returns-in_err-at : goal.returns-in_err-at
returns-in_err-at c =
    rw c.from_residual.ensures
    (word_last c.args.text.now (sym c.next_space.ensures.place ∙ c.in_err-at.was))

pub returns : goal.returns
returns c =
    let text = c.args.text.now in
    let k = c.in_ok-at.at in
    let rest = to_end text (k + 1) in
    let first = word_first text k (sym c.next_space.ensures.place ∙ c.in_ok-at.was) in
    let within : k < length text = c.in_ok-at.ensures.within in
    rw rest (first, omega (arith, length-drop (k + 1) text, within))
