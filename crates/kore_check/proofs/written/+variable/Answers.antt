use Rattle.std.proofs.Common.{List, ap, sym, ◌∙◌, inl, inr, ⊎_elim}
use Rattle.kore_ast.specs.declared.tree.Pat.{Pat}
use Rattle.kore_check.specs.Folds.{only_of}
use Rattle.kore_check.specs.Variables.{variable_of as the_variable}
use Rattle.kore_check.proofs.Applications.{reads}
use Rattle.kore_check.proofs.FoldChecks.{only_other}
use Rattle.kore_check.proofs.NameFolds.{application_variable, connective_variable}
use Rattle.kore_check.proofs.written.+variable.Goals as goal

pub only_variable-returns-then-args-ne1 : goal.only_variable-returns-then-args-ne1
only_variable-returns-then-args-ne1 t c = λ at.
    sym (ap the_variable (only_other at c.args.args.now c.if-args-ne1.true))

pub variable_in_fold-returns-in-App : goal.variable_in_fold-returns-in-App
variable_in_fold-returns-in-App t c = λ left.
    c.only_variable.ensures c.args.inner.now.at
    ∙ ap (λ (ps : List Pat). the_variable (only_of c.args.inner.now.at (reads ps)))
    c.deref.ensures.value
    ∙ ⊎_elim
    (λ app. application_variable left c.args.inner.now app.0 app.1 c.in-App.args app.2)
    (λ built. connective_variable left c.args.inner.now built.0 built.1 c.in-App.args built.2)
    c.in-App.is
