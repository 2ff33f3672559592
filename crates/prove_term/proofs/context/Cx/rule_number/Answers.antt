use Rattle.std.proofs.Common.{◌≡◌, Some, slice_get, subst, sym}
use Rattle.rule_core.specs.declared.rules.Program.{Program}
use Rattle.prove_term.proofs.ContextLaws.{grown_none}
use Rattle.prove_term.proofs.KeptLaws.{rule_assumed, says_rule_grown}
use Rattle.prove_term.proofs.context.Cx.rule_number.Goals as goal

pub returns-in-Some-clause-grown : goal.returns-in-Some-clause-grown
returns-in-Some-clause-grown c = grown_none c.args.self.now

pub state-requires : goal.state-requires
state-requires c =
    rule_assumed c.rule_image.new.self c.args.rule c.requires.0 c.in_ok-image.image
    (subst (λ (program : Program). slice_get program.rules.items c.args.rule ≡ Some c.requires.0)
    (sym c.in_ok-image.ensures.grown.program) c.requires.1)
    c.in_ok-image.ensures.image

pub keep_rule-requires : goal.keep_rule-requires
keep_rule-requires c = record {
  stated = c.in_ok-image.image;
  there = c.in_ok-no.ensures.there;
  says =
      says_rule_grown c.rule_image.new.self c.state.new.self c.args.rule c.in_ok-image.image
      c.in_ok-no.ensures.grown c.in_ok-image.ensures.image;
}
