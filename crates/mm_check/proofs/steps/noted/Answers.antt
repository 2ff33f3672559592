use Rattle.std.proofs.Common.{ap, subst, true, false}
use Rattle.mm_text.specs.Bytes.{Token}
use Rattle.mm_text.specs.Reader.{words_of}
use Rattle.mm_database.specs.Database.{first_label}
use Rattle.mm_scope.specs.FormsRead.{keyword_read}
use Rattle.mm_scope.specs.ScopeState.{scope_state}
use Rattle.mm_check.specs.AxiomsView.{theory_for}
use Rattle.mm_check.proofs.StepLaws.{about_label, axiom_fits, axiom_offends, theorem_fits}
use Rattle.mm_check.proofs.StepLaws.{AnswersProven}
use Rattle.mm_check.proofs.steps.noted.Goals as goal

pub returns-in-Ok-true-clause-notes : goal.returns-in-Ok-true-clause-notes
returns-in-Ok-true-clause-notes c = λ d is_taken.
    axiom_fits (theory_for c.args.axioms.now) d (scope_state c.args.scopes.now)
    (words_of c.args.bytes.now c.args.plain.now.labels.now)
    (words_of c.args.bytes.now c.args.plain.now.symbols.now)
    (words_of c.args.bytes.now c.args.plain.now.proof.now) (keyword_read c.args.plain.now.keyword)
    c.args.at (ap keyword_read c.in-Axiom.is)
    (about_label (theory_for c.args.axioms.now) (scope_state c.args.scopes.now)
    c.label_of-label.result.now
    (first_label (words_of c.args.bytes.now c.args.plain.now.labels.now))
    c.in-Ok-true.field-0 true c.label_of-label.ensures c.in-Ok-true.field-0-test
    c.in-Ok-true.ensures.axiom) is_taken

pub returns-in-Ok-false-clause-notes : goal.returns-in-Ok-false-clause-notes
returns-in-Ok-false-clause-notes c = λ d is_taken.
    axiom_offends (theory_for c.args.axioms.now) d (scope_state c.args.scopes.now)
    (words_of c.args.bytes.now c.args.plain.now.labels.now)
    (words_of c.args.bytes.now c.args.plain.now.symbols.now)
    (words_of c.args.bytes.now c.args.plain.now.proof.now) (keyword_read c.args.plain.now.keyword)
    c.args.at (ap keyword_read c.in-Axiom.is)
    (about_label (theory_for c.args.axioms.now) (scope_state c.args.scopes.now)
    c.label_of-label.result.now
    (first_label (words_of c.args.bytes.now c.args.plain.now.labels.now))
    c.in-Ok-false.field-0 false c.label_of-label.ensures c.in-Ok-false.field-0-test
    c.in-Ok-false.ensures.axiom) is_taken

pub returns-in-Ok-clause-notes : goal.returns-in-Ok-clause-notes
returns-in-Ok-clause-notes c = λ d is_taken.
    theorem_fits (theory_for c.args.axioms.now) d (scope_state c.args.scopes.now)
    (words_of c.args.bytes.now c.args.plain.now.labels.now)
    (words_of c.args.bytes.now c.args.plain.now.symbols.now)
    (words_of c.args.bytes.now c.args.plain.now.proof.now) (keyword_read c.args.plain.now.keyword)
    c.args.at c.in-Ok.words (ap keyword_read c.in-Theorem.is)
    (subst (λ (l : Token). AnswersProven (scope_state c.args.scopes.now) l
    (words_of c.args.bytes.now c.args.plain.now.symbols.now) c.in-Ok.words)
    c.label_of-label.ensures c.in-Ok.ensures) is_taken
