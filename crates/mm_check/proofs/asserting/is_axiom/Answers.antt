use Rattle.std.proofs.Common.{ap}
use Rattle.mm_frame.specs.PlainFrames.{plain_frame}
use Rattle.mm_scope.specs.ScopeState.{scope_state}
use Rattle.mm_check.specs.AxiomsView.{theory_for}
use Rattle.mm_check.specs.Stated.{PlainStated, plain_stated}
use Rattle.mm_check.proofs.AssertingLaws.{found_axioms, labelled_words, nothing_found}
use Rattle.mm_check.proofs.asserting.is_axiom.Goals as goal

pub returns-in-None-clause-axiom : goal.returns-in-None-clause-axiom
returns-in-None-clause-axiom c = λ d tokens stands is once.
    absurd (nothing_found (scope_state c.args.scopes.now) c.args.label.now d _
    c.in-None.ensures.tells stands is)

pub has-requires-clause-text : goal.has-requires-clause-text
has-requires-clause-text c =
    labelled_words (scope_state c.args.scopes.now) c.args.label.now
    (plain_frame c.in-Some.frame.now) c.in_ok-stated-in-Some.stated.words.items
    c.in-Some.ensures.tells
    (ap (λ (s : PlainStated). s.words) c.in_ok-stated-in-Some.ensures) c.requires.labelled

pub returns-in_ok-stated-in-Some-clause-axiom : goal.returns-in_ok-stated-in-Some-clause-axiom
returns-in_ok-stated-in-Some-clause-axiom c =
    found_axioms (theory_for c.args.axioms.now) (scope_state c.args.scopes.now) c.args.label.now
    (plain_frame c.in-Some.frame.now) (plain_stated c.in_ok-stated-in-Some.stated) c.has.result
    c.in-Some.ensures.tells c.in_ok-stated-in-Some.ensures c.has.ensures.says
