use Rattle.std.proofs.Common.{◌≡◌, ℕ, List, map, ap, sym, ◌∙◌}
use Rattle.std.proofs.lemmas.Bool.{false≢true}
use Rattle.rule_core.specs.ProgramView.{sorts_of, names_of}
use Rattle.kore_equations.proofs.MadeEquations.{sorts_named}
use Rattle.kore_equations.proofs.guards.has_same_variables.Goals as goal

pub returns-then-same_sorts : goal.returns-then-same_sorts
returns-then-same_sorts c =
    let one = c.deref-then-same_sorts.ensures.value in
    let two = c.deref-then-same_sorts-2.ensures.value in (
      λ yes. record {
        sorts =
            ap sorts_of (sym c.deref.ensures.value) ∙ c.same_sorts.ensures.0 c.if-same_sorts.true
            ∙ sorts_named c.infos.result.now ∙ ap (map (λ (v : List ℕ × ℕ). v.1)) c.infos.ensures;
        names =
            ap names_of (sym one) ∙ c.same_named.ensures.0 yes ∙ ap names_of two;
      },
      λ same. c.same_named.ensures.1 (ap names_of one ∙ same.names ∙ ap names_of (sym two)),
    )

pub returns-else-same_sorts : goal.returns-else-same_sorts
returns-else-same_sorts c = (
  λ yes. absurd (false≢true (sym c.if-same_sorts.false ∙ yes)),
  λ same. c.same_sorts.ensures.1 (ap sorts_of c.deref.ensures.value ∙ same.sorts
      ∙ sym (sorts_named c.infos.result.now
      ∙ ap (map (λ (v : List ℕ × ℕ). v.1)) c.infos.ensures)),
)
