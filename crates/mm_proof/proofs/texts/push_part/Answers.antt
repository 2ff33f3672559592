use Rattle.mm_proof.proofs.Stacking.{on_ok}
use Rattle.mm_proof.proofs.TextStacking.{written_pattern, written_word}
use Rattle.mm_proof.proofs.texts.push_part.Goals as goal

pub returns-in-One : goal.returns-in-One
returns-in-One c =
    rw c.in-One.is (on_ok c.push_word.result (written_word c.args.names.now c.args.serial c.in-One.word
    c.args.stack.now.items c.args.to.now.items c.push_word.new.to.items) c.push_word.ensures)

pub returns-in-Pattern : goal.returns-in-Pattern
returns-in-Pattern c =
    rw c.in-Pattern.is (on_ok c.expand_text.result (written_pattern c.args.names.now c.args.serial c.in-Pattern.pat
    c.args.stack.now.items c.expand_text.new.stack.items c.args.to.now.items) c.expand_text.ensures)
