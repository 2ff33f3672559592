use Rattle.std.proofs.Common.{sym, subst}
use Rattle.term_core.specs.Patterns.{Pattern, ground_pattern}
use Rattle.term_core.specs.RulePatterns.{plain_pattern}
use Rattle.term_core.specs.GroundPatterns.{IsGround}
use Rattle.term_core.proofs.PatternLaws.{IsGround-ground_pattern}
use Rattle.rule_core.specs.Subsorts.{IsBelow}
use Rattle.rule_core.specs.declared.rules.Program.{Program}
use Rattle.prove_term.specs.Comparing.{IsFactOn}
use Rattle.prove_term.specs.InjectionTables.{InjectsBelow}
use Rattle.prove_term.proofs.ResultLaws.{if_ok, if_ok_two}
use Rattle.prove_term.proofs.CollapsedTerms.{term_fact, lemma_read, may_collapse, says_collapse_of}
use Rattle.prove_term.proofs.CollapsedTerms.{collapse_assumes_nothing, collapse_stays}
use Rattle.prove_term.proofs.collapsing.collapse_eq.Goals as goal
use Rattle.prove_term.proofs.collapsing.collapse_eq.Goals.{In_ok-place}

-- what is proved of the term, once the lemma is there
fact_there : (c : In_ok-place)
    → IsFactOn c.collapse.new.self (ground_pattern c.args.term.now) c.args.from.0 c.in_ok-fact.fact
fact_there c =
    term_fact c.args.cx.now c.element.new.cx c.collapse.new.self c.args.term.now
    (plain_pattern c.in_ok-pattern.pattern) c.args.from.0 c.in_ok-fact.fact
    c.in_ok-fact.ensures.grown c.in_ok-place.ensures.grown c.in_ok-pattern.ensures.tree
    c.requires.sorted c.in_ok-fact.ensures.says c.in_ok-fact.ensures.no_hypotheses
    c.in_ok-fact.ensures.stays

pub element-requires-clause-ground : goal.element-requires-clause-ground
element-requires-clause-ground c =
    subst (λ (p : Pattern). IsGround p) (sym c.in_ok-pattern.ensures.tree)
    (IsGround-ground_pattern c.args.term.now)

pub collapse-requires-clause-below : goal.collapse-requires-clause-below
collapse-requires-clause-below c =
    subst (λ (program : Program). IsBelow program.sig.subsorts c.args.from.0 c.args.through.0)
    (sym c.in_ok-fact.ensures.grown.program) c.requires.below

pub collapse-requires-clause-above : goal.collapse-requires-clause-above
collapse-requires-clause-above c =
    subst (λ (program : Program). InjectsBelow program.sig c.args.through.0 c.args.to.0)
    (sym c.in_ok-fact.ensures.grown.program) c.requires.above

pub at_once-requires : goal.at_once-requires
at_once-requires c =
    may_collapse c.collapse.new.self c.args.from.0 c.args.through.0 c.args.to.0
    c.in_ok-place.place c.args.term.now c.index-lemmas-place.result c.in_ok-fact.fact
    c.in_ok-place.ensures.lemma
    (lemma_read c.in_ok-place.ensures.lemma c.lemmas.ensures c.index-lemmas-place.is)
    (fact_there (goal.at.at_once-requires c).In_ok-place)

pub returns-clause-says : goal.returns-clause-says
returns-clause-says c =
    if_ok c.at_once.result
    (λ t to. says_collapse_of c.collapse.new.self c.args.from.0 c.args.through.0 c.args.to.0
    c.in_ok-place.place c.args.term.now c.index-lemmas-place.result c.in_ok-fact.fact t
    c.in_ok-place.ensures.lemma
    (lemma_read c.in_ok-place.ensures.lemma c.lemmas.ensures c.index-lemmas-place.is)
    (fact_there (goal.at.returns-clause-says c).In_ok-place) to)
    c.at_once.ensures.conclusion

pub returns-clause-no_hypotheses : goal.returns-clause-no_hypotheses
returns-clause-no_hypotheses c =
    if_ok c.at_once.result
    (λ t by. collapse_assumes_nothing c.collapse.new.self c.args.from.0 c.args.through.0
    c.args.to.0 c.in_ok-place.place c.args.term.now c.index-lemmas-place.result
    c.in_ok-fact.fact t c.in_ok-place.ensures.lemma
    (lemma_read c.in_ok-place.ensures.lemma c.lemmas.ensures c.index-lemmas-place.is)
    (fact_there (goal.at.returns-clause-no_hypotheses c).In_ok-place) by)
    c.at_once.ensures.by

pub returns-clause-stays : goal.returns-clause-stays
returns-clause-stays c =
    if_ok_two c.at_once.result
    (λ t to by. collapse_stays c.collapse.new.self c.args.from.0 c.args.through.0 c.args.to.0
    c.in_ok-place.place c.args.term.now c.index-lemmas-place.result c.in_ok-fact.fact t
    c.in_ok-place.ensures.lemma
    (lemma_read c.in_ok-place.ensures.lemma c.lemmas.ensures c.index-lemmas-place.is)
    (fact_there (goal.at.returns-clause-stays c).In_ok-place) to by)
    c.at_once.ensures.conclusion c.at_once.ensures.by
