use Rattle.term_core.specs.RulePatterns.{plain_pattern}
use Rattle.rule_core.specs.ProgramView.{names_of}
use Rattle.ml_image.specs.NamedSides.{of_child}
use Rattle.prove_term.proofs.ContextLaws.{grown_none}
use Rattle.prove_schema.proofs.ResultLaws.{if_ok_two}
use Rattle.prove_equation.proofs.MembershipLaws.{IsShown, shown, shown_enters, shown_member}
use Rattle.prove_equation.proofs.parameters.membership.Goals as goal

pub in_itself-requires : goal.in_itself-requires
in_itself-requires c = (c.requires.fact.0.image, c.requires.fact.0.number, c.requires.fact.0.says)

pub in_written-requires : goal.in_written-requires
in_written-requires c =
    let w : IsShown c.inj_eq_named.new.cx c.args.subst.now
    (of_child c.args.argument (names_of c.args.named.now)) (plain_pattern c.args.pat.now)
    c.args.term.now c.in_ok-itself.itself c.in_ok-equality.equality =
    shown c.args.cx.now c.inj_eq_named.new.cx c.args.subst.now
    (of_child c.args.argument (names_of c.args.named.now)) (plain_pattern c.args.pat.now)
    c.args.term.now c.args.fact.now c.in_ok-itself.itself c.in_ok-equality.equality
    c.inj_eq_named.ensures.grown c.requires.fact c.in_ok-itself.ensures.says c.in_ok-itself.ensures.stays
    c.in_ok-equality.ensures.says c.requires.makes in
    shown_enters c.inj_eq_named.new.cx c.args.subst.now
    (of_child c.args.argument (names_of c.args.named.now)) (plain_pattern c.args.pat.now)
    c.args.term.now
    c.in_ok-itself.itself c.in_ok-equality.equality w

pub returns-clause-member : goal.returns-clause-member
returns-clause-member c =
    let w : IsShown c.inj_eq_named.new.cx c.args.subst.now
    (of_child c.args.argument (names_of c.args.named.now)) (plain_pattern c.args.pat.now)
    c.args.term.now c.in_ok-itself.itself c.in_ok-equality.equality =
    shown c.args.cx.now c.inj_eq_named.new.cx c.args.subst.now
    (of_child c.args.argument (names_of c.args.named.now)) (plain_pattern c.args.pat.now)
    c.args.term.now c.args.fact.now c.in_ok-itself.itself c.in_ok-equality.equality
    c.inj_eq_named.ensures.grown c.requires.fact c.in_ok-itself.ensures.says c.in_ok-itself.ensures.stays
    c.in_ok-equality.ensures.says c.requires.makes in
    if_ok_two c.in_written.result
    (λ t is stays. shown_member c.inj_eq_named.new.cx c.args.subst.now
    (of_child c.args.argument (names_of c.args.named.now)) (plain_pattern c.args.pat.now)
    c.args.term.now c.in_ok-itself.itself t c.in_ok-equality.equality w is stays)
    c.in_written.ensures.says c.in_written.ensures.stays

pub returns-in_err-itself-clause-grown : goal.returns-in_err-itself-clause-grown
returns-in_err-itself-clause-grown c = grown_none c.args.cx.now
