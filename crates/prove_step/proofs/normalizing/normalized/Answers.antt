use Rattle.std.specs.Prelude.{IfSome}
use Rattle.term_core.specs.RulePatterns.{plain_pattern}
use Rattle.rule_core.specs.ProgramView.{names_of, rewrite_rule}
use Rattle.rule_core.specs.RecordView.{plain_step}
use Rattle.ml_image.specs.NamedSides.{of_child}
use Rattle.prove_term.specs.Contexts.{HasGrown, StaysIn}
use Rattle.prove_term.proofs.ContextLaws.{grown_twice}
use Rattle.prove_term.proofs.ResultLaws.{if_ok}
use Rattle.prove_fun.proofs.KeptLaws.{kept_grown}
use Rattle.prove_step.proofs.SideLaws.{side_lemmas_grown}
use Rattle.prove_step.proofs.StepFacts.{StepFacts, facts_found, facts_later, left_fits}
use Rattle.prove_step.proofs.NormalizingLaws.{Turning, turning, can_turn_left, can_turn_right}
use Rattle.prove_step.proofs.NormalizingLaws.{says_step_grown, side_stays, step_turned}
use Rattle.prove_step.proofs.NormalizingLaws.{turned_stays}
use Rattle.prove_step.proofs.normalizing.normalized.Goals as goal

pub compared-requires-clause-sorted : goal.compared-requires-clause-sorted
compared-requires-clause-sorted c =
    let r = c.index-rule.result.now in
    let f : StepFacts c.args.cx.now.program (plain_step c.args.step.now) r =
    facts_found c.args.cx.now.program c.program.result.now (plain_step c.args.step.now) r
    c.program.ensures c.index-rule.ensures c.requires.step in
    ((rewrite_rule r).variables, f.sort, f.fits.left, f.matches.binds.sorted)

pub compared-requires-clause-named : goal.compared-requires-clause-named
compared-requires-clause-named c =
    let r = c.index-rule.result.now in
    let f : StepFacts c.args.cx.now.program (plain_step c.args.step.now) r =
    facts_found c.args.cx.now.program c.program.result.now (plain_step c.args.step.now) r
    c.program.ensures c.index-rule.ensures c.requires.step in
    f.matches.named

pub compared-requires-clause-fits : goal.compared-requires-clause-fits
compared-requires-clause-fits c =
    let r = c.index-rule.result.now in
    let f : StepFacts c.args.cx.now.program (plain_step c.args.step.now) r =
    facts_found c.args.cx.now.program c.program.result.now (plain_step c.args.step.now) r
    c.program.ensures c.index-rule.ensures c.requires.step in
    left_fits c.args.cx.now.program (plain_step c.args.step.now) r f

pub compared-requires-clause-signature : goal.compared-requires-clause-signature
compared-requires-clause-signature c = c.requires.step.well_sorted.signature

pub eval_eq-requires-clause-well_sorted : goal.eval_eq-requires-clause-well_sorted
eval_eq-requires-clause-well_sorted c =
    let r = c.index-rule.result.now in
    let f : StepFacts c.args.cx.now.program (plain_step c.args.step.now) r =
    facts_found c.args.cx.now.program c.program.result.now (plain_step c.args.step.now) r
    c.program.ensures c.index-rule.ensures c.requires.step in
    (facts_later c.args.cx.now c.compared.new.cx (plain_step c.args.step.now) r
    c.in_ok-left.ensures.grown f).ready.well_sorted

pub eval_eq-requires-clause-bound : goal.eval_eq-requires-clause-bound
eval_eq-requires-clause-bound c =
    let r = c.index-rule.result.now in
    let f : StepFacts c.args.cx.now.program (plain_step c.args.step.now) r =
    facts_found c.args.cx.now.program c.program.result.now (plain_step c.args.step.now) r
    c.program.ensures c.index-rule.ensures c.requires.step in
    (facts_later c.args.cx.now c.compared.new.cx (plain_step c.args.step.now) r
    c.in_ok-left.ensures.grown f).ready.bound

pub eval_eq-requires-clause-sorted : goal.eval_eq-requires-clause-sorted
eval_eq-requires-clause-sorted c =
    let r = c.index-rule.result.now in
    let f : StepFacts c.args.cx.now.program (plain_step c.args.step.now) r =
    facts_found c.args.cx.now.program c.program.result.now (plain_step c.args.step.now) r
    c.program.ensures c.index-rule.ensures c.requires.step in
    let later : StepFacts c.compared.new.cx.program (plain_step c.args.step.now) r =
    facts_later c.args.cx.now c.compared.new.cx (plain_step c.args.step.now) r
    c.in_ok-left.ensures.grown f in
    (later.right.variables, later.right.sort, later.right.sorted, later.right.serves)

pub eval_eq-requires-clause-recorded : goal.eval_eq-requires-clause-recorded
eval_eq-requires-clause-recorded c =
    let r = c.index-rule.result.now in
    let f : StepFacts c.args.cx.now.program (plain_step c.args.step.now) r =
    facts_found c.args.cx.now.program c.program.result.now (plain_step c.args.step.now) r
    c.program.ensures c.index-rule.ensures c.requires.step in
    (facts_later c.args.cx.now c.compared.new.cx (plain_step c.args.step.now) r
    c.in_ok-left.ensures.grown f).right.records

pub turned-requires-clause-can : goal.turned-requires-clause-can
turned-requires-clause-can c =
    let r = c.index-rule.result.now in
    let f : StepFacts c.args.cx.now.program (plain_step c.args.step.now) r =
    facts_found c.args.cx.now.program c.program.result.now (plain_step c.args.step.now) r
    c.program.ensures c.index-rule.ensures c.requires.step in
    let w : Turning c.eval_eq.new.cx (plain_step c.args.step.now) r c.in_ok-left.left
    c.in_ok-right.right c.args.written =
    turning c.args.cx.now c.compared.new.cx c.eval_eq.new.cx (plain_step c.args.step.now) r
    c.in_ok-left.left c.in_ok-right.right c.args.written c.in_ok-left.ensures.grown
    c.in_ok-right.ensures.grown f
    c.requires.says c.in_ok-left.ensures.says c.in_ok-right.ensures.says in
    can_turn_left c.eval_eq.new.cx (plain_step c.args.step.now) r c.in_ok-left.left
    c.in_ok-right.right c.args.written w

pub turned-requires-2-clause-can : goal.turned-requires-2-clause-can
turned-requires-2-clause-can c =
    let r = c.index-rule.result.now in
    let f : StepFacts c.args.cx.now.program (plain_step c.args.step.now) r =
    facts_found c.args.cx.now.program c.program.result.now (plain_step c.args.step.now) r
    c.program.ensures c.index-rule.ensures c.requires.step in
    let w : Turning c.eval_eq.new.cx (plain_step c.args.step.now) r c.in_ok-left.left
    c.in_ok-right.right c.args.written =
    turning c.args.cx.now c.compared.new.cx c.eval_eq.new.cx (plain_step c.args.step.now) r
    c.in_ok-left.left c.in_ok-right.right c.args.written c.in_ok-left.ensures.grown
    c.in_ok-right.ensures.grown f
    c.requires.says c.in_ok-left.ensures.says c.in_ok-right.ensures.says in
    can_turn_right c.eval_eq.new.cx (plain_step c.args.step.now) r c.in_ok-left.left
    c.in_ok-right.right c.args.written c.in_ok-from.from w c.in_ok-from.ensures.conclusion

pub returns-clause-says : goal.returns-clause-says
returns-clause-says c =
    let r = c.index-rule.result.now in
    let f : StepFacts c.args.cx.now.program (plain_step c.args.step.now) r =
    facts_found c.args.cx.now.program c.program.result.now (plain_step c.args.step.now) r
    c.program.ensures c.index-rule.ensures c.requires.step in
    let w : Turning c.eval_eq.new.cx (plain_step c.args.step.now) r c.in_ok-left.left
    c.in_ok-right.right c.args.written =
    turning c.args.cx.now c.compared.new.cx c.eval_eq.new.cx (plain_step c.args.step.now) r
    c.in_ok-left.left c.in_ok-right.right c.args.written c.in_ok-left.ensures.grown
    c.in_ok-right.ensures.grown f
    c.requires.says c.in_ok-left.ensures.says c.in_ok-right.ensures.says in
    let g : HasGrown c.eval_eq.new.cx c.turned-2.new.cx =
    grown_twice c.eval_eq.new.cx c.turned.new.cx c.turned-2.new.cx c.turned.ensures.grown
    c.turned-2.ensures.grown in
    if_ok c.turned-2.result
    (λ t turned. says_step_grown c.eval_eq.new.cx c.turned-2.new.cx (plain_step c.args.step.now)
    t.conclusion g
    (step_turned c.eval_eq.new.cx (plain_step c.args.step.now) r c.in_ok-left.left
    c.in_ok-right.right c.args.written c.in_ok-from.from t w c.in_ok-from.ensures.conclusion
    turned))
    c.turned-2.ensures.conclusion

pub returns-clause-stays : goal.returns-clause-stays
returns-clause-stays c =
    let r = c.index-rule.result.now in
    let f : StepFacts c.args.cx.now.program (plain_step c.args.step.now) r =
    facts_found c.args.cx.now.program c.program.result.now (plain_step c.args.step.now) r
    c.program.ensures c.index-rule.ensures c.requires.step in
    let left_stays : IfSome c.in_ok-left.left (StaysIn c.compared.new.cx) =
    side_stays c.compared.new.cx c.args.step.now.subst (of_child 0 (names_of r.named.items))
    (plain_pattern r.left) c.in_ok-left.left f.term c.in_ok-left.ensures.says f.from in
    if_ok c.turned-2.result
    (λ t turned. turned_stays c.args.cx.now c.compared.new.cx c.eval_eq.new.cx c.turned.new.cx
    c.turned-2.new.cx c.in_ok-left.left c.in_ok-right.right c.args.written c.in_ok-from.from t
    c.in_ok-left.ensures.grown c.in_ok-right.ensures.grown c.turned.ensures.grown
    c.turned-2.ensures.grown
    c.requires.stays left_stays c.in_ok-right.ensures.stays
    c.in_ok-from.ensures.stays turned)
    c.turned-2.ensures.stays

pub returns-in_err-right-clause-grown : goal.returns-in_err-right-clause-grown
returns-in_err-right-clause-grown c =
    grown_twice c.args.cx.now c.compared.new.cx c.eval_eq.new.cx c.in_ok-left.ensures.grown
    c.in_err-right.ensures.grown

pub returns-in_err-from-clause-grown : goal.returns-in_err-from-clause-grown
returns-in_err-from-clause-grown c =
    grown_twice c.args.cx.now c.eval_eq.new.cx c.turned.new.cx
    (grown_twice c.args.cx.now c.compared.new.cx c.eval_eq.new.cx c.in_ok-left.ensures.grown
    c.in_ok-right.ensures.grown) c.in_err-from.ensures.grown

pub returns-clause-grown : goal.returns-clause-grown
returns-clause-grown c =
    let at_eval : HasGrown c.args.cx.now c.eval_eq.new.cx =
    grown_twice c.args.cx.now c.compared.new.cx c.eval_eq.new.cx c.in_ok-left.ensures.grown
    c.in_ok-right.ensures.grown in
    let at_from : HasGrown c.args.cx.now c.turned.new.cx =
    grown_twice c.args.cx.now c.eval_eq.new.cx c.turned.new.cx at_eval
    c.in_ok-from.ensures.grown in
    grown_twice c.args.cx.now c.turned.new.cx c.turned-2.new.cx at_from c.turned-2.ensures.grown

pub turned-requires-clause-lemmas : goal.turned-requires-clause-lemmas
turned-requires-clause-lemmas c =
    side_lemmas_grown c.compared.new.cx c.eval_eq.new.cx c.args.lemmas.now
    c.in_ok-right.ensures.grown
    (side_lemmas_grown c.args.cx.now c.compared.new.cx c.args.lemmas.now c.in_ok-left.ensures.grown
    c.requires.lemmas)

pub returns-in_err-right-clause-lemmas : goal.returns-in_err-right-clause-lemmas
returns-in_err-right-clause-lemmas c =
    side_lemmas_grown c.compared.new.cx c.eval_eq.new.cx c.args.lemmas.now
    c.in_err-right.ensures.grown
    (side_lemmas_grown c.args.cx.now c.compared.new.cx c.args.lemmas.now c.in_ok-left.ensures.grown
    c.requires.lemmas)

pub returns-clause-kept : goal.returns-clause-kept
returns-clause-kept c =
    kept_grown c.turned.new.cx c.turned-2.new.cx c.eval_eq.new.kept c.turned-2.ensures.grown
    (kept_grown c.eval_eq.new.cx c.turned.new.cx c.eval_eq.new.kept c.in_ok-from.ensures.grown
    c.in_ok-right.ensures.kept)
