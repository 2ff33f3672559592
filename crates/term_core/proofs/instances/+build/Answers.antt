use Rattle.std.proofs.Common.{[], ◌∷◌, List, Some, append_assoc, sym, ◌∙◌, ap}
use Rattle.std.proofs.lemmas.List.{append-nil, drop_all}
use Rattle.term_core.specs.Terms.{Tree, Forest, no_tree}
use Rattle.term_core.specs.Forests.{forest, trees}
use Rattle.term_core.specs.Patterns.{instances_of}
use Rattle.term_core.specs.PatternLists.{plain_patterns}
use Rattle.term_core.specs.declared.rule_patterns.RulePat.{RulePat}
use Rattle.term_core.proofs.Forests.{forest-trees}
use Rattle.term_core.proofs.PatternLaws.{rest_fits, rest_built}
use Rattle.term_core.proofs.instances.+build.Goals as goal

pub build_all-loop-pat-init : goal.build_all-loop-pat-init
build_all-loop-pat-init t c = record {
  fits = c.requires;
  built =
      λ others e. rw c.in_ok-terms.ensures.items
      (e ∙ ap (λ (ts : Forest). Some ts) (sym (forest-trees others)));
}

pub build_all-loop-pat-preserved : goal.build_all-loop-pat-preserved
build_all-loop-pat-preserved t c =
    let i = c.loop-pat.pat-index in
    record {
      fits =
          ((rest_fits 499 c.args.subst.now c.args.pats.now i c.pat-item.result c.pat-item.is
          c.loop-pat-test.true).0 c.loop-pat.invariant.fits).1;
      built = λ others e.
          let rest =
          rest_built c.args.subst.now c.args.pats.now i c.pat-item.result c.in_ok-build.field-0
          others c.pat-item.is c.loop-pat-test.true c.in_ok-build.ensures e in
          rw c.in_ok-push.ensures.items (c.loop-pat.invariant.built _ rest
          ∙ ap (λ (ts : List Tree). Some (forest ts)) (sym (append_assoc c.loop-pat.terms.items
          (c.in_ok-build.field-0 ∷ []) (trees others))));
    }

pub build_all-returns : goal.build_all-returns
build_all-returns t c =
    c.loop-pat.invariant.built no_tree (ap
    (λ (ps : List RulePat). instances_of c.args.subst.now (plain_patterns ps))
    (drop_all c.loop-pat.pat-index c.args.pats.now c.loop-pat-test.false))
    ∙ ap (λ (ts : List Tree). Some (forest ts)) (append-nil c.loop-pat.terms.items)
