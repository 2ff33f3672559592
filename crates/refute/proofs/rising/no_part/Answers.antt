use Rattle.std.proofs.Common.{◌≡◌, ◌<◌, length, sym, ◌∙◌, ap, subst, arith}
use Rattle.std.proofs.lemmas.Option.{slice_get_within}
use Rattle.ml_pat.specs.Patterns.{Pattern, imp, bot}
use Rattle.ml_derived.specs.Scopes.{IsOver}
use Rattle.prove_term.proofs.ResultLaws.{if_ok}
use Rattle.refute.proofs.Applications.{next_application, whole_application, over_rest}
use Rattle.refute.proofs.Applications.{over_applied}
use Rattle.refute.proofs.rising.no_part.Goals as goal

pub loop-j-preserved : goal.loop-j-preserved
loop-j-preserved c =
    let within : c.args.i < length c.args.parts.now.arguments.items =
    slice_get_within _ _ _ c.requires.none.1 in
    c.in_ok-function-2.ensures
    ∙ next_application c.args.parts.now.head c.loop-j.function c.args.parts.now.arguments.items
    c.loop-j.j c.index.result.now (omega (arith, c.loop-j-test.true, within)) c.index.ensures
    c.loop-j.invariant

pub returns-clause-conclusion : goal.returns-clause-conclusion
returns-clause-conclusion c =
    let within : c.args.i < length c.args.parts.now.arguments.items =
    slice_get_within _ _ _ c.requires.none.1 in
    let all : c.loop-j.j ≡ c.args.i = omega (arith, c.loop-j-test.false, c.loop-j.auto.j-end) in
    if_ok c.no_application.result
    (λ t says. says ∙ ap (λ (p : Pattern). imp c.args.h.now (imp p bot))
    (whole_application c.args.parts.now.head c.loop-j.function c.in_ok-made.made
    c.args.parts.now.arguments.items c.deref.result.now c.args.i c.loop-j.j
    c.index-argument.result.now within c.index-argument.ensures all c.loop-j.invariant
    c.in_ok-made.ensures c.deref.ensures.value))
    c.no_application.ensures.conclusion

pub returns-clause-stays : goal.returns-clause-stays
returns-clause-stays c =
    if_ok c.no_application.result
    (λ t stays s hp ht.
    let over : IsOver s c.loop-j.function =
    subst (IsOver s) (sym c.loop-j.invariant)
    (over_applied s c.args.parts.now.head c.args.parts.now.arguments.items c.loop-j.j hp.0 hp.1) in
    stays s
    (over_rest s c.args.parts.now.arguments.items c.deref.result.now _ hp.1 c.deref.ensures.value)
    (c.in_ok-at.ensures.stays s (over, tt) ht, tt))
    c.no_application.ensures.stays
