use Rattle.std.proofs.Common.{◌≡◌, List, Option, Some, option_map, sym, ◌∙◌, ap, subst}
use Rattle.term_core.specs.Terms.{Tree}
use Rattle.term_core.specs.Patterns.{Pattern as RulePattern}
use Rattle.term_core.specs.RulePatterns.{plain_pattern}
use Rattle.term_core.specs.declared.ids.SortId.{SortId}
use Rattle.term_core.specs.declared.rule_patterns.RulePat.{RulePat}
use Rattle.rule_core.specs.ProgramView.{function_equation, sorts_of}
use Rattle.rule_core.specs.RecordView.{plain_record}
use Rattle.rule_core.specs.Sorting.{IsTermOf}
use Rattle.rule_core.specs.declared.rules.Program.{Program}
use Rattle.rule_core.specs.declared.rules.VarInfo.{VarInfo}
use Rattle.ml_image.specs.Premises.{sort_of}
use Rattle.prove_term.proofs.ResultLaws.{if_ok_three}
use Rattle.prove_fun.proofs.FalseConditions.{condition_sorted, fails_at}
use Rattle.prove_fun.proofs.denying.condition_untrue.Goals as goal

sort_is : (program : Program) (own : Program) (vars given : List VarInfo) (p : RulePattern)
    (pat : RulePat) (o : Option RulePat) (s : Option SortId) (sort : SortId) → own ≡ program
    → given ≡ vars → o ≡ Some pat → option_map plain_pattern o ≡ Some p
    → option_map (λ (x : SortId). x.0) s ≡ sort_of own.sig (sorts_of given) (plain_pattern pat)
    → s ≡ Some sort → sort_of program.sig (sorts_of vars) p ≡ Some sort.0
sort_is program own vars given p pat o s sort same is there condition found some =
    let whole : plain_pattern pat ≡ p =
    first (plain_pattern pat) p (sym (ap (option_map plain_pattern) there) ∙ condition) in
    ap (λ (x : Program). sort_of x.sig (sorts_of vars) p) (sym same)
    ∙ ap (λ (vs : List VarInfo). sort_of own.sig (sorts_of vs) p) (sym is)
    ∙ ap (sort_of own.sig (sorts_of given)) (sym whole) ∙ sym found
    ∙ ap (option_map (λ (x : SortId). x.0)) some
  where
    first : (p q : RulePattern) → Some p ≡ Some q → p ≡ q
    first p q e = cc

pub not_true-requires-clause-truths : goal.not_true-requires-clause-truths
not_true-requires-clause-truths c =
    let w = c.requires.untrue.2 in
    (condition_sorted c.args.cx.now.program _ _ _ _ c.requires.fits.0 c.in-Some-sort_of.sort.0
    c.requires.fits.1 w (sort_is c.args.cx.now.program c.program.result.now
    c.args.equation.now.vars.items c.deref.result.now w.condition c.in-Some.pat
    c.args.equation.now.cond c.sort_of.result c.in-Some-sort_of.sort c.program.ensures
    c.deref.ensures.value c.in-Some.is w.conditional c.sort_of.ensures c.in-Some-sort_of.is)).0

pub not_true-requires-clause-sorted : goal.not_true-requires-clause-sorted
not_true-requires-clause-sorted c =
    let w = c.requires.untrue.2 in
    subst (λ (t : Tree). IsTermOf c.args.cx.now.program.sig t c.in-Some-sort_of.sort.0)
    (sym c.result.ensures)
    (condition_sorted c.args.cx.now.program _ _ _ _ c.requires.fits.0 c.in-Some-sort_of.sort.0
    c.requires.fits.1 w (sort_is c.args.cx.now.program c.program.result.now
    c.args.equation.now.vars.items c.deref.result.now w.condition c.in-Some.pat
    c.args.equation.now.cond c.sort_of.result c.in-Some-sort_of.sort c.program.ensures
    c.deref.ensures.value c.in-Some.is w.conditional c.sort_of.ensures c.in-Some-sort_of.is)).1

pub returns-clause-fails : goal.returns-clause-fails
returns-clause-fails c =
    if_ok_three c.not_true.result
    (λ t says none stays. λ ts sigma w v. fails_at c.args.cx.now c.not_true.new.cx
    (function_equation c.args.equation.now) ts sigma (plain_record c.args.evaluation.now)
    c.in-Some-sort_of.sort.0 c.args.value.now t c.not_true.ensures.grown w
    (sort_is c.args.cx.now.program c.program.result.now c.args.equation.now.vars.items
    c.deref.result.now w.condition c.in-Some.pat c.args.equation.now.cond c.sort_of.result
    c.in-Some-sort_of.sort c.program.ensures c.deref.ensures.value c.in-Some.is w.conditional
    c.sort_of.ensures c.in-Some-sort_of.is) v says none stays) c.not_true.ensures.says
    c.not_true.ensures.no_hypotheses c.not_true.ensures.stays
