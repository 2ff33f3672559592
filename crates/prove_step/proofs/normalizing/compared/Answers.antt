use Rattle.std.proofs.Common.{rules, ◌≡◌, List, false, length, refl, sym, subst}
use Rattle.term_core.specs.Patterns.{more_patterns, no_pattern}
use Rattle.term_core.specs.RulePatterns.{plain_pattern}
use Rattle.rule_core.specs.ProgramView.{names_of}
use Rattle.rule_core.specs.declared.rules.Named.{Named}
use Rattle.prove_term.specs.FilledSides.{AreBoundToParts}
use Rattle.prove_step.specs.Meeting.{meet_in}
use Rattle.prove_step.proofs.MeetingLaws.{unmet_side}
use Rattle.prove_step.proofs.normalizing.compared.Goals as goal

pub returns-then-not-meet_in-clause-says : goal.returns-then-not-meet_in-clause-says
returns-then-not-meet_in-clause-says c =
    let unmet : meet_in c.args.subst.now (plain_pattern c.args.rule.now.left) ≡ false =
    search rules in
    let none : length c.args.rule.now.named.items ≡ 0 = search rules in
    unmet_side c.args.cx.now c.args.subst.now c.args.rule.now.named.items
    (plain_pattern c.args.rule.now.left) none unmet

pub inj_eq_named-requires-clause-named : goal.inj_eq_named-requires-clause-named
inj_eq_named-requires-clause-named c = (
  more_patterns (plain_pattern c.args.rule.now.left) no_pattern,
  refl,
  subst (λ (ns : List Named). AreBoundToParts c.args.subst.now
      (more_patterns (plain_pattern c.args.rule.now.left) no_pattern) (names_of ns))
      (sym c.deref.ensures.value) c.requires.named,
)
