use Rattle.std.proofs.Common.{◌≡◌, ◌∙◌, sym, ap, false, refl}
use Rattle.std.proofs.lemmas.Bool.{false≢true}
use Rattle.term_core.specs.Patterns.{Pattern, injection, instance_of}
use Rattle.term_core.specs.RulePatterns.{plain_pattern}
use Rattle.term_core.proofs.PatternLaws.{rest_fits, refused, instance_of-injections}
use Rattle.term_core.proofs.PlainPatterns.{plain-Inj}
use Rattle.term_core.proofs.instances.+fits_within.Goals as goal

pub all_fit_within-returns-then-not-fits_within : goal.all_fit_within-returns-then-not-fits_within
all_fit_within-returns-then-not-fits_within t c =
    let step =
    rest_fits c.args.limit c.args.subst.now c.args.pats.now c.loop-pat.pat-index
    c.pat-item.result c.pat-item.is c.loop-pat-test.true in
    refused false _ refl
    (λ h. false≢true (c.if-not-fits_within.ensures.1 (step.0 (c.loop-pat.invariant.1 h)).0))

pub all_fit_within-loop-pat-preserved : goal.all_fit_within-loop-pat-preserved
all_fit_within-loop-pat-preserved t c =
    let step =
    rest_fits c.args.limit c.args.subst.now c.args.pats.now c.loop-pat.pat-index
    c.pat-item.result c.pat-item.is c.loop-pat-test.true in (
      λ h. c.loop-pat.invariant.0 (step.1 (c.if-not-fits_within.ensures.0 refl, h)),
      λ h. (step.0 (c.loop-pat.invariant.1 h)).1,
    )

pub fits_within-returns-in-Inj : goal.fits_within-returns-in-Inj
fits_within-returns-in-Inj t c =
    let is : plain_pattern c.args.pat.now ≡ injection c.in-Inj.field-0.0 c.in-Inj.field-1.0
    (plain_pattern c.deref-in-Inj.result.now) =
    ap plain_pattern c.in-Inj.is
    ∙ (plain-Inj _ _ _
    ∙ ap (λ p. injection c.in-Inj.field-0.0 c.in-Inj.field-1.0 (plain_pattern p))
    (sym c.deref-in-Inj.ensures)) in
    rw is (c.injection_fits_within.ensures _ _)

pub injection_fits_within-returns-in-Inj : goal.injection_fits_within-returns-in-Inj
injection_fits_within-returns-in-Inj t c a b =
    let is : plain_pattern c.args.pat.now ≡ injection c.in-Inj.field-0.0 c.in-Inj.field-1.0
    (plain_pattern c.deref.result.now) =
    ap plain_pattern c.in-Inj.is
    ∙ (plain-Inj _ _ _
    ∙ ap (λ p. injection c.in-Inj.field-0.0 c.in-Inj.field-1.0 (plain_pattern p))
    (sym c.deref.ensures)) in
    let joined : instance_of c.args.subst.now (injection a b (plain_pattern c.args.pat.now)) ≡
    instance_of c.args.subst.now
    (injection c.in-Inj.field-0.0 b (plain_pattern c.deref.result.now)) =
    ap (λ (p : Pattern). instance_of c.args.subst.now (injection a b p)) is
    ∙ instance_of-injections c.args.subst.now a b c.in-Inj.field-0.0 c.in-Inj.field-1.0
    (plain_pattern c.deref.result.now) in
    rw joined (c.injection_fits_within.ensures _ _)
