use Rattle.std.proofs.Common.{rules, ◌≡◌, ◌+◌, ◌++◌, ◌∷◌, [], ℕ, List, map, drop, Some, true, false}
use Rattle.std.proofs.Common.{sym, ◌∙◌, subst, arith}
use Rattle.kore_ast.specs.Plain.{plain_sort}
use Rattle.term_core.specs.Patterns.{Pattern}
use Rattle.term_core.specs.Instances.{patterns}
use Rattle.term_core.specs.RulePatterns.{plain_pattern}
use Rattle.term_core.specs.declared.rule_patterns.RulePat.{RulePat}
use Rattle.kore_check.specs.PatternMeanings.{AllMean}
use Rattle.kore_check.specs.Building.{Built, AllBuilt, IsHead, Extends}
use Rattle.kore_check.proofs.Applications.{reads}
use Rattle.kore_check.proofs.BuildLaws.{extends-trans, all-more}
use Rattle.kore_check.proofs.BuildSteps.{app_none, app_no_arguments, app_built, variable_built}
use Rattle.kore_check.proofs.BuildSteps.{value_built, folded_built, only_none, short_built}
use Rattle.kore_check.proofs.BuildSteps.{carried, pair_none, pair_made}
use Rattle.kore_check.proofs.Connectives.{connective_read, only_read, others_read}
use Rattle.kore_check.specs.Folds.{only_of, connective_of}
use Rattle.kore_check.proofs.BuildSteps.{fold_none, fold_no_arguments, fold_ready, good-more}
use Rattle.kore_check.proofs.BuildSteps.{variables-more, all_done}
use Rattle.kore_check.proofs.build.+build.Goals as goal

pub build-returns-in_default-clause-built : goal.build-returns-in_default-clause-built
build-returns-in_default-clause-built t c =
    app_no_arguments c.args.sig.now c.args.pat.now c.in-App.name c.in-App.sorts c.in-App.args
    c.deref.result.now c.args.vars.now c.build_all.new.vars c.in-App.is c.deref.ensures.value
    (subst (AllBuilt c.args.sig.now c.args.vars.now c.build_all.new.vars (reads c.deref.result.now))
    c.in_default.is c.in_ok-args-in-App.ensures.built)

pub build-returns-in_default-2-clause-built : goal.build-returns-in_default-2-clause-built
build-returns-in_default-2-clause-built t c =
    app_none c.args.sig.now c.args.pat.now c.in-App.name c.in-App.sorts c.in-App.args
    c.deref-in-App.result.now c.in-App.is c.deref-in-App.ensures.value
    (subst (IsHead c.args.sig.now c.in-App.name (map plain_sort c.deref-in-App.result.now))
    c.in_default-2.is c.in_ok-head-in-App.ensures)

pub build-returns-in-Elem-clause-built : goal.build-returns-in-Elem-clause-built
build-returns-in-Elem-clause-built t c =
    variable_built c.args.sig.now c.args.pat.now c.in-Elem.name c.in-Elem.sort _ _
    c.build_variable.result c.in-Elem.is c.build_variable.ensures.built

pub build-returns-in-Value-clause-built : goal.build-returns-in-Value-clause-built
build-returns-in-Value-clause-built t c =
    value_built c.args.sig.now c.args.pat.now c.in-Value.sort c.in-Value.text c.in-Value.field-2 _
    c.build_value.result c.in-Value.is c.build_value.ensures

pub build-returns-in-Some-2-clause-built : goal.build-returns-in-Some-2-clause-built
build-returns-in-Some-2-clause-built t c =
    app_built c.args.sig.now c.args.pat.now c.in-App.name c.in-App.sorts c.in-App.args
    c.deref-in-App.result.now c.deref.result.now c.args.vars.now c.build_all.new.vars
    c.in-Some-2.head c.in-Some.args c.applied.result c.requires.signature c.in-App.is
    c.deref-in-App.ensures.value c.deref.ensures.value
    (subst (IsHead c.args.sig.now c.in-App.name (map plain_sort c.deref-in-App.result.now))
    c.in-Some-2.is c.in_ok-head-in-App.ensures)
    (subst (AllBuilt c.args.sig.now c.args.vars.now c.build_all.new.vars (reads c.deref.result.now))
    c.in-Some.is c.in_ok-args-in-App.ensures.built)
    c.applied.ensures

pub build-returns-in-Fold-clause-built : goal.build-returns-in-Fold-clause-built
build-returns-in-Fold-clause-built t c =
    folded_built c.args.sig.now c.args.pat.now c.deref-in-Fold.result.now c.in-Fold.left
    c.in-Fold.inner _ _ c.build_fold.result c.in-Fold.is c.deref-in-Fold.ensures
    c.build_fold.ensures.built

pub build_all-loop-arg-preserved : goal.build_all-loop-arg-preserved
build_all-loop-arg-preserved t c =
    let built : Built c.args.sig.now c.loop-arg.vars c.build.new.vars _ (Some c.in-Some.pat) =
    subst (Built c.args.sig.now c.loop-arg.vars c.build.new.vars _) c.in-Some.is
    c.in_ok-pat.ensures.built in
    let pushed : c.push.new.self.items ≡ c.loop-arg.pats.items ++ c.in-Some.pat ∷ [] =
    search rules in
    let means : (more : List (List ℕ × ℕ)) (qs : List Pattern) → Extends c.build.new.vars more →
    AllMean c.args.sig.now more (reads (drop (c.loop-arg.arg-index + 1) c.args.args.now))
    (patterns qs) →
    AllMean c.args.sig.now more (reads c.args.args.now)
    (patterns (map plain_pattern (c.loop-arg.pats.items ++ c.in-Some.pat ∷ []) ++ qs)) =
    all-more c.args.sig.now c.args.vars.now c.loop-arg.vars c.build.new.vars c.args.args.now
    c.loop-arg.arg-index c.arg-item.result c.loop-arg.pats.items c.in-Some.pat c.loop-arg-test.true
    c.arg-item.is c.build.ensures.grows built.1 c.loop-arg.invariant.means in
    record {
      grows =
          extends-trans c.args.vars.now c.loop-arg.vars c.build.new.vars c.loop-arg.invariant.grows
          c.build.ensures.grows;
      good =
          λ g. (good-more c.args.sig.now c.args.args.now c.loop-arg.arg-index c.arg-item.result
          c.loop-arg-test.true c.arg-item.is c.loop-arg.invariant.good g).1;
      vars =
          variables-more c.args.sig.now c.args.args.now c.loop-arg.arg-index c.arg-item.result
          c.loop-arg.vars c.build.new.vars _ c.loop-arg-test.true c.arg-item.is built.0
          c.loop-arg.invariant.vars;
      means =
          λ more qs ext rest. subst (λ (ps : List RulePat). AllMean c.args.sig.now more
          (reads c.args.args.now) (patterns (map plain_pattern ps ++ qs))) (sym pushed)
          (means more qs ext rest);
    }

pub build_all-returns-clause-built : goal.build_all-returns-clause-built
build_all-returns-clause-built t c =
    all_done c.args.sig.now c.args.args.now c.loop-arg.arg-index c.args.vars.now c.loop-arg.vars
    c.loop-arg.pats
    c.loop-arg-test.false c.loop-arg.invariant.vars c.loop-arg.invariant.means

pub build_only-returns-then-args-ne1-clause-built :
    goal.build_only-returns-then-args-ne1-clause-built
build_only-returns-then-args-ne1-clause-built t c =
    λ at good. only_none c.args.sig.now at c.args.args.now c.if-args-ne1.true good

pub build_fold-returns-then-len-lt2-clause-built : goal.build_fold-returns-then-len-lt2-clause-built
build_fold-returns-then-len-lt2-clause-built t c =
    short_built c.args.sig.now c.args.left c.args.inner.now c.in-App.name c.in-App.sorts
    c.in-App.args c.deref.result.now _ _ c.build_only.result c.in-App.is c.deref.ensures.value
    (omega (arith, c.len.ensures, c.if-len-lt2.true)) c.build_only.ensures.built

pub build_fold-returns-in_default-clause-built : goal.build_fold-returns-in_default-clause-built
build_fold-returns-in_default-clause-built t c =
    fold_no_arguments c.args.sig.now c.args.left c.args.inner.now c.in-App.name c.in-App.sorts
    c.in-App.args c.deref-in-App.result.now c.args.vars.now c.build_all.new.vars c.in-App.is
    c.deref-in-App.ensures.value (omega (arith, c.len.ensures, c.if-len-lt2.false))
    (subst (AllBuilt c.args.sig.now c.args.vars.now c.build_all.new.vars
    (reads c.deref-in-App.result.now)) c.in_default.is c.in_ok-args-in-App.ensures.built)

pub build_fold-returns-in_default-2-clause-built : goal.build_fold-returns-in_default-2-clause-built
build_fold-returns-in_default-2-clause-built t c =
    fold_none c.args.sig.now c.args.left c.args.inner.now c.in-App.name c.in-App.sorts c.in-App.args
    c.deref-in-App-2.result.now c.in-App.is c.deref-in-App-2.ensures.value
    (omega (arith, c.len.ensures, c.if-len-lt2.false))
    (subst (IsHead c.args.sig.now c.in-App.name (map plain_sort c.deref-in-App-2.result.now))
    c.in_default-2.is c.in_ok-head-in-App.ensures)

pub build_fold-returns-then-left-clause-built : goal.build_fold-returns-then-left-clause-built
build_fold-returns-then-left-clause-built t c =
    fold_ready c.args.sig.now c.args.left true c.args.inner.now c.in-App.name c.in-App.sorts
    c.in-App.args c.deref-in-App-2.result.now c.deref-in-App.result.now c.args.vars.now
    c.build_all.new.vars c.in-Some-2.head c.in-Some.args c.folded_left.result
    c.requires.signature c.if-left.true c.in-App.is c.deref-in-App-2.ensures.value
    c.deref-in-App.ensures.value (omega (arith, c.len.ensures, c.if-len-lt2.false))
    (subst (IsHead c.args.sig.now c.in-App.name (map plain_sort c.deref-in-App-2.result.now))
    c.in-Some-2.is c.in_ok-head-in-App.ensures)
    (subst (AllBuilt c.args.sig.now c.args.vars.now c.build_all.new.vars
    (reads c.deref-in-App.result.now)) c.in-Some.is c.in_ok-args-in-App.ensures.built)
    c.folded_left.ensures

pub build_fold-returns-in-App-clause-built : goal.build_fold-returns-in-App-clause-built
build_fold-returns-in-App-clause-built t c =
    fold_ready c.args.sig.now c.args.left false c.args.inner.now c.in-App.name c.in-App.sorts
    c.in-App.args c.deref-in-App-2.result.now c.deref-in-App.result.now c.args.vars.now
    c.build_all.new.vars c.in-Some-2.head c.in-Some.args c.folded_right.result
    c.requires.signature c.if-left.false c.in-App.is c.deref-in-App-2.ensures.value
    c.deref-in-App.ensures.value (omega (arith, c.len.ensures, c.if-len-lt2.false))
    (subst (IsHead c.args.sig.now c.in-App.name (map plain_sort c.deref-in-App-2.result.now))
    c.in-Some-2.is c.in_ok-head-in-App.ensures)
    (subst (AllBuilt c.args.sig.now c.args.vars.now c.build_all.new.vars
    (reads c.deref-in-App.result.now)) c.in-Some.is c.in_ok-args-in-App.ensures.built)
    c.folded_right.ensures

pub build-returns-in-Built-clause-built : goal.build-returns-in-Built-clause-built
build-returns-in-Built-clause-built t c =
    carried c.args.sig.now _ _ (λ at. connective_of at c.in-Built.op
    (map plain_sort c.deref-in-Built-2.result.now) (reads c.deref-in-Built.result.now))
    c.args.pat.now.at _ c.build_connective.result (connective_read c.args.pat.now c.in-Built.op
    c.in-Built.sorts c.in-Built.args c.deref-in-Built-2.result.now c.deref-in-Built.result.now
    c.in-Built.is c.deref-in-Built-2.ensures.value c.deref-in-Built.ensures.value)
    c.build_connective.ensures.built

pub build_connective-returns-in_default-clause-built :
    goal.build_connective-returns-in_default-clause-built
build_connective-returns-in_default-clause-built t c = λ at good.
    pair_none c.args.sig.now at c.args.op (map plain_sort c.args.sorts.now) (reads c.args.args.now)
    c.args.vars.now c.build_all.new.vars
    (subst (AllBuilt c.args.sig.now c.args.vars.now c.build_all.new.vars (reads c.args.args.now))
    c.in_default.is c.in_ok-pair.ensures.built) good

pub build_connective-returns-clause-built : goal.build_connective-returns-clause-built
build_connective-returns-clause-built t c = λ at.
    pair_made c.args.sig.now at c.args.op c.args.sorts.now c.args.args.now c.args.vars.now
    c.build_all.new.vars c.in-Some.pair c.named_part.result
    (sym c.is_pair.ensures ∙ c.if-not-is_pair.false)
    (subst (AllBuilt c.args.sig.now c.args.vars.now c.build_all.new.vars (reads c.args.args.now))
    c.in-Some.is c.in_ok-pair.ensures.built) c.named_part.ensures

pub build_fold-returns-then-len-eq1-clause-built : goal.build_fold-returns-then-len-eq1-clause-built
build_fold-returns-then-len-eq1-clause-built t c =
    carried c.args.sig.now _ _ (λ at. only_of at (reads c.deref-then-len-eq1.result.now))
    c.args.inner.now.at _ c.build_only-then-len-eq1.result (only_read c.args.left c.args.inner.now
    c.in-Built.op c.in-Built.sorts c.in-Built.args c.deref-then-len-eq1.result.now c.in-Built.is
    c.deref-then-len-eq1.ensures.value (omega (arith, c.len-in-Built.ensures, c.if-len-eq1.true)))
    c.build_only-then-len-eq1.ensures.built

pub build_fold-returns-in-Built-clause-built : goal.build_fold-returns-in-Built-clause-built
build_fold-returns-in-Built-clause-built t c =
    carried c.args.sig.now _ _ (λ at. connective_of at c.in-Built.op
    (map plain_sort c.deref-in-Built-2.result.now) (reads c.deref-in-Built.result.now))
    c.args.inner.now.at _ c.build_connective.result (others_read c.args.left c.args.inner.now
    c.in-Built.op c.in-Built.sorts c.in-Built.args c.deref-in-Built-2.result.now
    c.deref-in-Built.result.now c.in-Built.is c.deref-in-Built-2.ensures.value
    c.deref-in-Built.ensures.value
    (λ one. c.if-len-eq1.false (omega (arith, c.len-in-Built.ensures, one))))
    c.build_connective.ensures.built
