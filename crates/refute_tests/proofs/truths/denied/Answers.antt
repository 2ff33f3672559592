use Rattle.std.proofs.Common.{◌≡◌, [], Option, ◌∙◌, sym, subst, false, true}
use Rattle.std.specs.Prelude.{IfSome}
use Rattle.term_core.specs.Terms.{Tree, leaf, truth}
use Rattle.term_core.specs.RulePatterns.{plain_pattern}
use Rattle.term_core.specs.declared.ids.SortId.{SortId}
use Rattle.rule_core.specs.AcSymbols.{IsAcFree}
use Rattle.rule_core.specs.ProgramView.{theory_of}
use Rattle.rule_core.specs.Records.{Records}
use Rattle.rule_core.specs.RecordView.{plain_record}
use Rattle.rule_core.specs.Sorting.{HasValue, IsTermOf}
use Rattle.rule_core.specs.WellSorted.{IsStart}
use Rattle.rule_core.specs.declared.rules.Program.{Program}
use Rattle.rewriter.specs.Configurations.{IsConfiguration}
use Rattle.prove_term.proofs.ContextLaws.{grown_none, grown_twice}
use Rattle.refute.specs.Refutations.{EqualsTerm}
use Rattle.refute_tests.proofs.Starts.{true_there, false_sorted, false_differs}
use Rattle.refute_tests.proofs.truths.denied.Goals as goal

pub new-requires-2 : goal.new-requires-2
new-requires-2 c =
    subst (λ (p : Program). IsStart (theory_of p) (plain_pattern c.args.start.now))
    (sym (c.in_ok-engine.ensures ∙ c.program.ensures)) c.requires.start

pub equality-requires-clause-recorded : goal.equality-requires-clause-recorded
equality-requires-clause-recorded c =
    subst (λ (p : Program). Records (theory_of p) [] (plain_pattern c.args.start.now)
    (plain_record c.in-Ok.evaluation)) (c.in_ok-engine.ensures ∙ c.program.ensures)
    c.in-Ok.ensures.recorded

pub not_true-requires-clause-no_ac : goal.not_true-requires-clause-no_ac
not_true-requires-clause-no_ac c =
    subst (λ (p : Program). IsAcFree p.sig) (sym c.equality.ensures.grown.program)
    c.requires.no_ac

pub not_true-requires-clause-truths : goal.not_true-requires-clause-truths
not_true-requires-clause-truths c =
    let is : IsConfiguration (theory_of c.args.cx.now.program) c.config-2.result.now =
    subst (λ (t : Tree). IsConfiguration (theory_of c.args.cx.now.program) t)
    (sym c.config-2.ensures)
    (subst (λ (p : Program). IsConfiguration (theory_of p) c.in-Ok.run'.config)
    (c.in_ok-engine.ensures ∙ c.program.ensures) c.in-Ok.ensures.sorted) in
    let value : c.config-2.result.now ≡ leaf c.in-Some.sort.0 (truth false) =
    c.config-2.ensures ∙ sym c.config.ensures
    ∙ subst (λ (o : Option SortId).
    IfSome o (λ s. c.config.result.now ≡ leaf s.0 (truth false))) c.in-Some.is
    c.in_ok-sort.ensures in
    subst (λ (p : Program). HasValue p.sig c.in-Some.sort.0 (truth true))
    (sym c.equality.ensures.grown.program)
    (true_there c.args.cx.now.program c.config-2.result.now c.in-Some.sort.0 is value)

pub not_true-requires-clause-sorted : goal.not_true-requires-clause-sorted
not_true-requires-clause-sorted c =
    let is : IsConfiguration (theory_of c.args.cx.now.program) c.config-2.result.now =
    subst (λ (t : Tree). IsConfiguration (theory_of c.args.cx.now.program) t)
    (sym c.config-2.ensures)
    (subst (λ (p : Program). IsConfiguration (theory_of p) c.in-Ok.run'.config)
    (c.in_ok-engine.ensures ∙ c.program.ensures) c.in-Ok.ensures.sorted) in
    let value : c.config-2.result.now ≡ leaf c.in-Some.sort.0 (truth false) =
    c.config-2.ensures ∙ sym c.config.ensures
    ∙ subst (λ (o : Option SortId).
    IfSome o (λ s. c.config.result.now ≡ leaf s.0 (truth false))) c.in-Some.is
    c.in_ok-sort.ensures in
    subst (λ (p : Program). IsTermOf p.sig c.config-2.result.now c.in-Some.sort.0)
    (sym c.equality.ensures.grown.program)
    (false_sorted c.args.cx.now.program c.config-2.result.now c.in-Some.sort.0 is value)

pub not_true-requires-clause-differs : goal.not_true-requires-clause-differs
not_true-requires-clause-differs c =
    let value : c.config-2.result.now ≡ leaf c.in-Some.sort.0 (truth false) =
    c.config-2.ensures ∙ sym c.config.ensures
    ∙ subst (λ (o : Option SortId).
    IfSome o (λ s. c.config.result.now ≡ leaf s.0 (truth false))) c.in-Some.is
    c.in_ok-sort.ensures in
    false_differs c.config-2.result.now c.in-Some.sort.0 value

pub not_true-requires-clause-eq : goal.not_true-requires-clause-eq
not_true-requires-clause-eq c =
    subst (λ (t : Tree). EqualsTerm c.equality.new.cx t c.in_ok-eq.eq.conclusion)
    (c.in-Ok.ensures.value ∙ sym c.config-2.ensures) c.in_ok-eq.ensures.says

pub returns-in_err-engine-clause-grown : goal.returns-in_err-engine-clause-grown
returns-in_err-engine-clause-grown c = grown_none c.args.cx.now

pub returns-in_default-clause-grown : goal.returns-in_default-clause-grown
returns-in_default-clause-grown c = grown_none c.args.cx.now

pub returns-in_err-sort-clause-grown : goal.returns-in_err-sort-clause-grown
returns-in_err-sort-clause-grown c = grown_none c.args.cx.now

pub returns-in_default-2-clause-grown : goal.returns-in_default-2-clause-grown
returns-in_default-2-clause-grown c = grown_none c.args.cx.now

pub returns-in_err-not_true-clause-grown : goal.returns-in_err-not_true-clause-grown
returns-in_err-not_true-clause-grown c =
    grown_twice c.args.cx.now c.equality.new.cx c.not_true.new.cx c.equality.ensures.grown
    c.not_true.ensures.grown

pub returns-clause-grown : goal.returns-clause-grown
returns-clause-grown c =
    grown_twice c.args.cx.now c.equality.new.cx c.not_true.new.cx c.equality.ensures.grown
    c.not_true.ensures.grown
