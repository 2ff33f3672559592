use Rattle.std.proofs.Common.{drop, length, sym, subst, ◌∙◌, ℕ, ◌<◌}
use Rattle.mm_verify.specs.Filling.{IsWithin}
use Rattle.mm_verify.specs.LongStatementView.{part_by, long_symbols}
use Rattle.mm_verify.proofs.Presence.{present-at, part-within}
use Rattle.mm_verify.proofs.present.is_present.Goals as goal

pub part-part-requires : goal.part-part-requires
part-part-requires c =
    subst (λ (n : ℕ). n < length (long_symbols c.args.statement.now)) (sym c.position_of.ensures)
    c.requires.at

pub text_of-requires : goal.text_of-requires
text_of-requires c =
    subst (IsWithin (length (drop c.args.base c.args.stack.now))) (sym c.part-part.ensures)
    (part-within _ (part_by c.args.statement.now.places.value) (long_symbols c.args.statement.now)
    c.position_of.result c.requires.within
    (subst (λ (n : ℕ). n < length (long_symbols c.args.statement.now))
    (sym c.position_of.ensures) c.requires.at))

pub returns : goal.returns
returns c =
    present-at (drop c.args.base c.args.stack.now) (part_by c.args.statement.now.places.value)
    (long_symbols c.args.statement.now) c.args.spot c.position_of.result c.part-part.result
    c.text_of.result.now c.is_empty.result c.requires.at c.position_of.ensures c.part-part.ensures
    c.text_of.ensures c.is_empty.ensures
