use Rattle.std.proofs.Common.{true, refl, sym, ◌∙◌, subst}
use Rattle.term_core.specs.Terms.{Tree, truth}
use Rattle.term_core.specs.Patterns.{ground_pattern}
use Rattle.rule_core.specs.Sorting.{HasValue, IsTermOf}
use Rattle.rule_core.specs.declared.rules.Program.{Program}
use Rattle.ml_image.specs.Sentences.{term, not, equals}
use Rattle.prove_term.proofs.ContextLaws.{stays_grown}
use Rattle.refute.specs.Refutations.{SaysSentence}
use Rattle.refute.proofs.Growing.{program_grown}
use Rattle.prove_term.proofs.ResultLaws.{if_ok}
use Rattle.prove_open.proofs.ScopeLaws.{stays_no_hypotheses}
use Rattle.refute.proofs.Switched.{can_switch, switched_says, two_stay}
use Rattle.refute.proofs.truths.not_true.Goals as goal

pub differ-requires-clause-sorted : goal.differ-requires-clause-sorted
differ-requires-clause-sorted c = (
  c.args.sort.0,
  c.requires.sorted,
  subst (λ (t : Tree). IsTermOf c.args.cx.now.program.sig t c.args.sort.0)
      (sym c.in_ok-truth.ensures) (refl, c.requires.truths),
)

pub differ-requires-clause-differ : goal.differ-requires-clause-differ
differ-requires-clause-differ c = λ same. c.requires.differs (same ∙ c.in_ok-truth.ensures)

pub switched-requires : goal.switched-requires
switched-requires c =
    can_switch c.args.cx.now c.differ.new.cx c.args.term.now c.in_ok-truth.truth c.args.sort.0 0
    c.args.eq.now.conclusion c.in_ok-differ.differ.conclusion c.in_ok-differ.ensures.grown
    c.requires.eq c.in_ok-differ.ensures.says
    (subst (λ (t : Tree). IsTermOf c.differ.new.cx.program.sig t c.args.sort.0)
    (sym c.in_ok-truth.ensures) (
      refl,
      program_grown c.args.cx.now c.differ.new.cx
          (λ (program : Program). HasValue program.sig c.args.sort.0 (truth true))
          c.in_ok-differ.ensures.grown c.requires.truths,
    ))

pub returns-clause-says : goal.returns-clause-says
returns-clause-says c =
    if_ok c.switched.result
    (λ t is. switched_says c.args.cx.now c.differ.new.cx c.args.term.now c.args.sort.0
    c.args.eq.now.conclusion c.in_ok-differ.differ.conclusion t.conclusion
    c.in_ok-differ.ensures.grown c.requires.eq
    (subst (λ (d : Tree). SaysSentence c.differ.new.cx
    (not (equals (term (ground_pattern c.args.term.now)) (term (ground_pattern d))))
    c.in_ok-differ.differ.conclusion) c.in_ok-truth.ensures c.in_ok-differ.ensures.says) is)
    c.switched.ensures.conclusion

pub returns-clause-no_hypotheses : goal.returns-clause-no_hypotheses
returns-clause-no_hypotheses c =
    if_ok c.switched.result
    (λ t stays. stays_no_hypotheses c.differ.new.cx t
    (two_stay c.differ.new.cx 0 c.args.eq.now c.in_ok-differ.differ t
    (stays_grown c.args.cx.now c.differ.new.cx c.args.eq.now c.in_ok-differ.ensures.grown
    c.requires.eq_stays) c.in_ok-differ.ensures.stays stays))
    c.switched.ensures.stays

pub returns-clause-stays : goal.returns-clause-stays
returns-clause-stays c =
    if_ok c.switched.result
    (λ t stays. two_stay c.differ.new.cx 0 c.args.eq.now c.in_ok-differ.differ t
    (stays_grown c.args.cx.now c.differ.new.cx c.args.eq.now c.in_ok-differ.ensures.grown
    c.requires.eq_stays) c.in_ok-differ.ensures.stays stays)
    c.switched.ensures.stays
