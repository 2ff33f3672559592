use Rattle.std.proofs.Common.{subst, sym}
use Rattle.term_core.specs.RulePatterns.{plain_pattern}
use Rattle.rule_core.specs.declared.rules.Program.{Program}
use Rattle.ml_image.specs.HasImages.{HaveApartImages}
use Rattle.prove_term.proofs.ResultLaws.{if_ok}
use Rattle.prove_term.proofs.ApartImages.{unequal_bound}
use Rattle.prove_term.proofs.OpenAxiomLaws.{unequal_assumed, unequal_raised}
use Rattle.prove_term.proofs.context.Cx.unequal_from.Goals as goal

pub stated_from-requires-clause-assumed : goal.stated_from-requires-clause-assumed
stated_from-requires-clause-assumed c =
    unequal_assumed c.unequal_image.new.self (plain_pattern c.args.left.now)
    (plain_pattern c.args.right.now) c.in_ok-image.image c.in_ok-image.ensures.says

pub stated_from-requires-clause-bound : goal.stated_from-requires-clause-bound
stated_from-requires-clause-bound c =
    unequal_bound c.unequal_image.new.self.program.sig c.unequal_image.new.self.names
    (plain_pattern c.args.left.now) (plain_pattern c.args.right.now) c.in_ok-image.image
    (subst (λ (program : Program). HaveApartImages program.sig (plain_pattern c.args.left.now)
    (plain_pattern c.args.right.now)) (sym c.in_ok-image.ensures.grown.program) c.requires)
    c.in_ok-image.ensures.says

pub returns-clause-says : goal.returns-clause-says
returns-clause-says c =
    if_ok c.stated_from.result
    (λ t says. unequal_raised c.unequal_image.new.self c.stated_from.new.self
    (plain_pattern c.args.left.now) (plain_pattern c.args.right.now) c.args.k
    c.in_ok-image.image t.conclusion c.stated_from.ensures.grown c.in_ok-image.ensures.says says)
    c.stated_from.ensures.says
