use Rattle.std.proofs.Common.{[], Option, sym, ap, subst}
use Rattle.std.specs.Prelude.{option_copied}
use Rattle.term_core.specs.Terms.{Tree}
use Rattle.term_core.specs.RulePatterns.{plain_pattern}
use Rattle.rule_core.specs.ProgramView.{theory_of}
use Rattle.rule_core.specs.Records.{Records}
use Rattle.rule_core.specs.RecordView.{plain_record}
use Rattle.rule_core.specs.Sorting.{HasSort}
use Rattle.rule_core.specs.WellSorted.{IsSignature}
use Rattle.rule_core.specs.declared.rules.Program.{Program}
use Rattle.prove_term.proofs.ContextLaws.{grown_twice}
use Rattle.prove_term.proofs.ResultLaws.{if_ok}
use Rattle.prove_run.specs.RunProof.{configuration}
use Rattle.prove_run.specs.Proving.{value_told}
use Rattle.prove_run.specs.Starting.{IsStarting, SaysReached}
use Rattle.prove_run.proofs.StartingLaws.{start_has_image, itself_reached, itself_stays}
use Rattle.prove_run.proofs.starting.start_reaches.Goals as goal

pub image-requires : goal.image-requires
image-requires c =
    start_has_image c.args.prover.now.program.sig (plain_pattern c.args.start.now)
    c.requires.start.sort c.requires.start.well_sorted.signature c.requires.start.sorted

pub valued-requires-clause-start : goal.valued-requires-clause-start
valued-requires-clause-start c =
    subst (λ (p : Program). IsStarting p (plain_pattern c.args.start.now))
    (sym c.in_ok-here.ensures.grown.program) c.requires.start

pub valued-requires-clause-recorded : goal.valued-requires-clause-recorded
valued-requires-clause-recorded c =
    subst (λ (p : Program). Records (theory_of p) [] (plain_pattern c.args.start.now)
    (plain_record c.in-Some.evaluation.now)) (sym c.in_ok-here.ensures.grown.program)
    (rw c.in-Some.is at c.requires.value)

pub valued-requires-clause-says : goal.valued-requires-clause-says
valued-requires-clause-says c =
    let start = plain_pattern c.args.start.now in
    let ok : IsSignature c.image.new.self.program.sig =
    subst (λ (p : Program). IsSignature p.sig) (sym c.in_ok-here.ensures.grown.program)
    c.requires.start.well_sorted.signature in
    let sorted : HasSort c.image.new.self.program.sig [] start c.requires.start.sort =
    subst (λ (p : Program). HasSort p.sig [] start c.requires.start.sort)
    (sym c.in_ok-here.ensures.grown.program) c.requires.start.sorted in
    itself_reached c.image.new.self start c.requires.start.sort c.in_ok-here.here
    c.in_ok-itself.itself ok sorted c.in_ok-here.ensures.image c.in_ok-itself.ensures.conclusion

pub valued-requires-clause-stays : goal.valued-requires-clause-stays
valued-requires-clause-stays c =
    itself_stays c.image.new.self (plain_pattern c.args.start.now) c.in_ok-here.here
    c.in_ok-itself.itself c.in_ok-here.ensures.image c.in_ok-itself.ensures.stays

pub returns-in-Some-clause-grown : goal.returns-in-Some-clause-grown
returns-in-Some-clause-grown c =
    grown_twice c.args.prover.now c.image.new.self c.valued.new.prover c.in_ok-here.ensures.grown
    c.valued.ensures.grown

pub returns-clause-says : goal.returns-clause-says
returns-clause-says c =
    let start = plain_pattern c.args.start.now in
    let ok : IsSignature c.image.new.self.program.sig =
    subst (λ (p : Program). IsSignature p.sig) (sym c.in_ok-here.ensures.grown.program)
    c.requires.start.well_sorted.signature in
    let sorted : HasSort c.image.new.self.program.sig [] start c.requires.start.sort =
    subst (λ (p : Program). HasSort p.sig [] start c.requires.start.sort)
    (sym c.in_ok-here.ensures.grown.program) c.requires.start.sorted in
    subst (λ (v : Option Tree).
    SaysReached c.image.new.self start (configuration start v) c.in_ok-itself.itself)
    (sym (ap (λ o. value_told (option_copied o)) c.in-None.is))
    (itself_reached c.image.new.self start c.requires.start.sort c.in_ok-here.here
    c.in_ok-itself.itself ok sorted c.in_ok-here.ensures.image
    c.in_ok-itself.ensures.conclusion)

pub returns-clause-stays : goal.returns-clause-stays
returns-clause-stays c =
    itself_stays c.image.new.self (plain_pattern c.args.start.now) c.in_ok-here.here
    c.in_ok-itself.itself c.in_ok-here.ensures.image c.in_ok-itself.ensures.stays

pub returns-in-Some-clause-says : goal.returns-in-Some-clause-says
returns-in-Some-clause-says c =
    let start = plain_pattern c.args.start.now in
    if_ok c.valued.result
    (λ t says. subst
    (λ (v : Option Tree). SaysReached c.valued.new.prover start (configuration start v) t)
    (sym (ap (λ o. value_told (option_copied o)) c.in-Some.is)) says)
    c.valued.ensures.says
