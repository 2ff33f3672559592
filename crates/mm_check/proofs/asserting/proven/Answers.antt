use Rattle.std.proofs.Common.{◌≡◌, ◌∙◌, sym, ap, length, arith}
use Rattle.mm_frame.specs.PlainFrames.{plain_frame, mandatory_hypotheses}
use Rattle.mm_scope.specs.ScopeState.{scope_state}
use Rattle.mm_check.proofs.AssertingLaws.{found_none, found_some, nothing_found}
use Rattle.mm_check.proofs.asserting.proven.Goals as goal

pub returns-in-None : goal.returns-in-None
returns-in-None c = λ d f stands is said none.
    nothing_found (scope_state c.args.scopes.now) c.args.label.now d f c.in-None.ensures.tells
    stands is

pub returns-then-count-gt0 : goal.returns-then-count-gt0
returns-then-count-gt0 c = λ d f stands is said none.
    let empty =
    found_some (scope_state c.args.scopes.now) c.args.label.now (plain_frame c.in-Some.frame.now) d
    f
    c.in-Some.ensures.tells stands is none in
    let same = ap (λ m. length (mandatory_hypotheses m)) c.deref.ensures in
    omega (arith, c.count.ensures, same, empty, c.if-count-gt0.true)

pub returns-in_ok-words-in-Some : goal.returns-in_ok-words-in-Some
returns-in_ok-words-in-Some c = λ d f stands is said.
    let same = ap (λ m. length (mandatory_hypotheses m)) c.deref.ensures in
    let empty : length (plain_frame c.in-Some.frame.now).hypotheses ≡ 0 =
    omega (arith, c.count.ensures, same, c.if-count-gt0.false) in (
      found_none (scope_state c.args.scopes.now) c.args.label.now
          (plain_frame c.in-Some.frame.now) d f c.in-Some.ensures.tells stands is empty,
      said ∙ sym c.in_ok-words-in-Some.ensures,
    )
