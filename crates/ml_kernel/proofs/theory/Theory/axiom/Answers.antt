use Rattle.std.proofs.Common.{List, [], sym, subst}
use Rattle.ml_pat.specs.Patterns.{Pattern}
use Rattle.ml_pat.specs.declared.numbers.VarNo.{VarNo}
use Rattle.ml_kernel.specs.Renamings.{Renames, by_place}
use Rattle.ml_kernel.specs.StepView.{numbers_of}
use Rattle.ml_kernel.proofs.RenamingLaws.{renames-none}
use Rattle.ml_kernel.proofs.theory.Theory.axiom.Goals as goal

pub of_axiom-requires-clause-renames : goal.of_axiom-requires-clause-renames
of_axiom-requires-clause-renames c =
    subst (λ (xs : List VarNo). Renames (by_place (numbers_of xs)) c.at-pattern.result.now
    c.in_ok-share.field-0) (sym c.new.ensures.items)
    (subst (λ (q : Pattern). Renames (by_place []) c.at-pattern.result.now q)
    (sym c.in_ok-share.ensures) (renames-none c.at-pattern.result.now))
