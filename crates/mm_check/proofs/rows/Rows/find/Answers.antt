use Rattle.std.proofs.Common.{ap, sym, ◌∙◌, List, ℕ, subst, ◌≡◌}
use Rattle.std.proofs.lemmas.Bool.{both_ways}
use Rattle.mm_check.specs.Stated.{words}
use Rattle.mm_check.specs.RowTexts.{key_of}
use Rattle.mm_check.specs.HeaderLookup.{StatesNothing, IsRowOf}
use Rattle.mm_check.proofs.HeaderTexts.{found_words, other_words, no_words}
use Rattle.mm_check.proofs.rows.Rows.find.Goals as goal

pub returns-in_default : goal.returns-in_default
returns-in_default c =
    let key : c.deref.result.now ≡ key_of (words c.args.statement.now) =
    c.deref.ensures.value ∙ c.in_ok-key.ensures in
    no_words (words c.args.statement.now) (subst StatesNothing key c.in_default.ensures)

pub returns-then-same_words : goal.returns-then-same_words
returns-then-same_words c =
    let key : c.deref.result.now ≡ key_of (words c.args.statement.now) =
    c.deref.ensures.value ∙ c.in_ok-key.ensures in
    let row = c.in-Some.row.now in
    let found = subst (λ (k : List ℕ). IsRowOf k row) key c.in-Some.ensures in
    found_words (words c.args.statement.now) row found
    (c.same_words.ensures.0 c.if-same_words.true
    ∙ ap words c.deref-2.ensures.value ∙ c.in_ok-expected.ensures)

pub returns : goal.returns
returns c =
    let key : c.deref.result.now ≡ key_of (words c.args.statement.now) =
    c.deref.ensures.value ∙ c.in_ok-key.ensures in
    let row = c.in-Some.row.now in
    let found = subst (λ (k : List ℕ). IsRowOf k row) key c.in-Some.ensures in
    other_words (words c.args.statement.now) row found
    (λ same. both_ways c.same_words.result c.if-same_words.false (c.same_words.ensures.1
    (same ∙ sym c.in_ok-expected.ensures ∙ sym (ap words c.deref-2.ensures.value))))
