use Rattle.std.proofs.Common.{◌∙◌, sym}
use Rattle.std.proofs.lemmas.Bool.{false≢true}
use Rattle.match_tree.proofs.Walks.{same_test, same_test_turned, lifted_same}
use Rattle.match_tree.proofs.standing.same.Goals as goal
use Rattle.match_tree.proofs.standing.same.Goals.{then-eq, else-eq}

pub returns-in-None-None : goal.returns-in-None-None
returns-in-None-None c =
    rw (c.in-None-None.is-0, c.in-None-None.is-1) (same_test _ _ _ c.same.ensures)

pub returns-in-None-Some : goal.returns-in-None-Some
returns-in-None-Some c =
    rw (c.in-None-Some.is-0, c.in-None-Some.is-1) (same_test _ _ _ c.same_inj.ensures)

pub returns-in-Some-None : goal.returns-in-Some-None
returns-in-Some-None c =
    rw (c.in-Some-None.is-0, c.in-Some-None.is-1)
    (same_test_turned _ _ _ c.same_inj-in-Some-None.ensures)

pub returns-then-eq-2 : goal.returns-then-eq-2
returns-then-eq-2 c =
    elim c.if-eq.branch [
      | then-eq w ↦
          rw (c.in-Some-Some.is-0, c.in-Some-Some.is-1)
          (lifted_same _ _ _ _ c.args.x.now.term.now c.args.y.now.term.now _
          (sym c.eq.ensures ∙ w.if-eq.true)
          (sym w.eq-then-eq.ensures ∙ sym w.value-is ∙ c.if-eq-2.true)
          (same_test _ _ _ c.same-then-eq-2.ensures))
      | else-eq w ↦ absurd (false≢true (sym w.if-eq.false ∙ sym w.value-is ∙ c.if-eq-2.true))
    ]
