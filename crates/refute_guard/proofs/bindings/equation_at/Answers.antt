use Rattle.prove_term.proofs.ResultLaws.{if_ok_two}
use Rattle.term_core.specs.RulePatterns.{sort_numbers}
use Rattle.term_core.specs.Patterns.{binding}
use Rattle.refute.specs.Refutations.{all_bound}
use Rattle.refute_body.specs.Implications.{first_equation}
use Rattle.guard_body.specs.Arguments.{IsArgument}
use Rattle.refute_guard.specs.Bodies.{variables_of}
use Rattle.refute_guard.specs.Repeated.{IsOfBody}
use Rattle.refute_guard.proofs.BoundEquations.{IsFound, equation_found}
use Rattle.guard_body.proofs.FoundLists.{all_there}
use Rattle.refute_guard.proofs.MatchedVariables.{bound_written}
use Rattle.refute_guard.proofs.bindings.equation_at.Goals.{In_ok-equations}
use Rattle.refute_guard.proofs.bindings.equation_at.Goals as goal

says : (c : In_ok-equations) → IsOfBody c.inverted.new.cx c.args.guard.now
    (all_bound c.args.theta.now (variables_of c.requires.matches.0)) c.in_ok-equations.equations
says c = c.in_ok-equations.ensures.says c.requires.matches.0 c.requires.matches.1

found : (c : In_ok-equations)
    → IsFound c.inverted.new.cx c.args.x (binding c.args.theta.now c.args.x) (says c).says.image
found c =
    equation_found c.inverted.new.cx c.args.theta.now (variables_of c.requires.matches.0) c.args.x
    c.requires.bound.0 (says c).says.image c.requires.bound.1
    (bound_written c.args.cx.now.program.sig (sort_numbers c.args.guard.now.sorts.items)
    c.requires.matches.0 c.args.theta.now c.args.x c.requires.bound.0
    (all_there (IsArgument c.args.cx.now.program.sig (sort_numbers c.args.guard.now.sorts.items))
    c.args.guard.now.arguments.items c.args.place c.requires.matches.0
    c.requires.guard.1.arguments c.requires.matches.1) c.requires.matches.2 c.requires.bound.1)
    (says c).says.is_image

pub equation_of-requires : goal.equation_of-requires
equation_of-requires c =
    let at : In_ok-equations = (goal.at.equation_of-requires c).In_ok-equations in (
      c.args.guard.now.given.hypothesis,
      c.args.guard.now.body,
      (says at).says.image,
      (says at).says.says,
      (found at).has,
    )

pub returns-clause-says : goal.returns-clause-says
returns-clause-says c =
    let at : In_ok-equations = (goal.at.returns-clause-says c).In_ok-equations in
    if_ok_two c.equation_of.result
    (λ t made stays. record {
      says = record {
        image = first_equation c.args.x (says at).says.image;
        is_image = (found at).is;
        says = made c.args.guard.now.given.hypothesis c.args.guard.now.body (says at).says.image
            (says at).says.says;
      };
      stays = λ s has. stays s tt ((says at).stays s has, tt);
    })
    c.equation_of.ensures.conclusion c.equation_of.ensures.stays
