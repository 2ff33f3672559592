-- The answers for an injection: the pattern below it stays.
use Rattle.std.proofs.Common.{◌≡◌, ℕ, List, Some, refl, ap, sym, ◌∙◌, subst, arith}
use Rattle.std.proofs.lemmas.Bool.{eqb-true}
use Rattle.ml_pat.specs.Patterns.{Pattern, app}
use Rattle.ml_kernel.specs.Lemmas.{HasNoVariable}
use Rattle.term_core.specs.Patterns.{Pattern as RulePattern, injection}
use Rattle.term_core.specs.RulePatterns.{plain_pattern}
use Rattle.term_core.specs.declared.rule_patterns.RulePat.{RulePat}
use Rattle.term_core.proofs.PlainPatterns.{plain-Inj}
use Rattle.rule_core.specs.NamedParts.{Name}
use Rattle.rule_core.specs.WellSorted.{IsSignature}
use Rattle.rule_core.specs.declared.rules.Program.{Program}
use Rattle.rule_core.specs.declared.signature.Signature.{Signature}
use Rattle.ml_image.specs.Images.{image_of}
use Rattle.ml_image.specs.PartNames.{part_names}
use Rattle.ml_image.specs.Sentences.{term}
use Rattle.prove_term.specs.Contexts.{Context, HasGrown}
use Rattle.prove_term.specs.Naming.{MakesNamed, MakesBelow, ComparesBelow}
use Rattle.prove_term.proofs.ComparingInjections.{HasHalves, halves_of, halves_there, same_end}
use Rattle.prove_term.proofs.ComparingLaws.{closed-injection}
use Rattle.prove_term.proofs.ContextLaws.{grown_none, grown_twice, image_grown}
use Rattle.prove_term.proofs.NamingCalls.{named_says, named_closed, makes_grown, named_grown}
use Rattle.prove_term.proofs.NamingCalls.{beneath_named}
use Rattle.prove_term.proofs.NamingParts.{below_makes, below_stays_made}
use Rattle.prove_term.proofs.ResultLaws.{if_ok}
use Rattle.prove_term.proofs.naming.+named.Goals as goal
use Rattle.prove_term.proofs.naming.+named.Goals.{injection_named-In-Inj}

-- ---- injections

-- the term is an injection to the sort to which the pattern is one
same_ends : (sig : Signature) (names : List Name) (from to lowest last : ℕ) (p : RulePattern)
    (whole base w : RulePat) → MakesBelow sig names from to p (plain_pattern whole)
    → plain_pattern whole ≡ injection lowest last (plain_pattern base) → w ≡ base
    → plain_pattern whole ≡ injection lowest to (plain_pattern w)
same_ends sig names from to lowest last p whole base w made is same =
    is
    ∙ ap (λ (n : ℕ). injection lowest n (plain_pattern base))
    (same_end sig from to lowest last p (plain_pattern base) (plain_pattern whole)
    (below_makes sig names from to p (plain_pattern whole) made) is)
    ∙ ap (λ (q : RulePat). injection lowest to (plain_pattern q)) (sym same)

pub whole_ends : (t : ℕ) (c : injection_named-In-Inj t) (w : RulePat) → w ≡ c.in-Inj.base.value
    → plain_pattern c.args.whole.now ≡ injection c.in-Inj.lowest.0 c.args.to.0 (plain_pattern w)
whole_ends t c w base =
    same_ends c.args.cx.now.program.sig (part_names c.args.names.now) c.args.from.0 c.args.to.0
    c.in-Inj.lowest.0 c.in-Inj.field-1.0 (plain_pattern c.args.below.now) c.args.whole.now
    c.in-Inj.base.value w c.requires.made (ap plain_pattern c.in-Inj.is ∙ plain-Inj _ _ _) base

pub ends_made : (t : ℕ) (c : injection_named-In-Inj t) (w : RulePat) → w ≡ c.in-Inj.base.value
    → MakesBelow c.args.cx.now.program.sig (part_names c.args.names.now) c.args.from.0 c.args.to.0
    (plain_pattern c.args.below.now) (injection c.in-Inj.lowest.0 c.args.to.0 (plain_pattern w))
ends_made t c w base =
    subst (MakesBelow c.args.cx.now.program.sig (part_names c.args.names.now) c.args.from.0
    c.args.to.0 (plain_pattern c.args.below.now)) (whole_ends t c w base) c.requires.made

-- the pattern below stays
whole_stays : (t : ℕ) (c : injection_named-In-Inj t) (w : RulePat) → w ≡ c.in-Inj.base.value
    → c.in-Inj.lowest.0 ≡ c.args.from.0
    → plain_pattern c.args.whole.now ≡ injection c.args.from.0 c.args.to.0 (plain_pattern w)
whole_stays t c w base same =
    whole_ends t c w base
    ∙ ap (λ (n : ℕ). injection n c.args.to.0 (plain_pattern w)) same

below_made : (t : ℕ) (c : injection_named-In-Inj t) (w : RulePat) → w ≡ c.in-Inj.base.value
    → c.in-Inj.lowest.0 ≡ c.args.from.0
    → MakesNamed c.args.cx.now.program.sig (part_names c.args.names.now)
    (plain_pattern c.args.below.now) (plain_pattern w)
below_made t c w base same =
    (below_stays_made c.args.cx.now.program.sig (part_names c.args.names.now) c.args.from.0
    c.args.to.0 c.args.to.0 (plain_pattern c.args.below.now) (plain_pattern w)
    c.requires.signature
    (subst (MakesBelow c.args.cx.now.program.sig (part_names c.args.names.now) c.args.from.0
    c.args.to.0 (plain_pattern c.args.below.now)) (whole_stays t c w base same)
    c.requires.made)).1

stays_image : (t : ℕ) (c : injection_named-In-Inj t) (w : RulePat) → w ≡ c.in-Inj.base.value
    → c.in-Inj.lowest.0 ≡ c.args.from.0
    → image_of c.args.cx.now.program.sig c.args.cx.now.names
    (injection c.args.from.0 c.args.to.0 (plain_pattern w)) ≡ Some c.args.image.now
stays_image t c w base same =
    ap (image_of c.args.cx.now.program.sig c.args.cx.now.names) (sym (whole_stays t c w base same))
    ∙ c.requires.image

-- the two halves of the image
stays_halves : (t : ℕ) (c : injection_named-In-Inj t) (w : RulePat) (cx : Context)
    (head argument : Pattern) → w ≡ c.in-Inj.base.value → c.in-Inj.lowest.0 ≡ c.args.from.0
    → HasGrown c.args.cx.now cx → c.args.image.now ≡ app head argument
    → HasHalves cx c.args.from.0 c.args.to.0 (plain_pattern w) head argument
stays_halves t c w cx head argument base same g split =
    halves_of cx c.args.from.0 c.args.to.0 (plain_pattern w) c.args.image.now head argument
    (image_grown c.args.cx.now cx (term (injection c.args.from.0 c.args.to.0 (plain_pattern w)))
    c.args.image.now g (stays_image t c w base same)) split

pub injection_named-halves-requires : goal.injection_named-halves-requires
injection_named-halves-requires t c =
    halves_there c.args.cx.now c.args.from.0 c.args.to.0 (plain_pattern c.in-Inj.base.value)
    c.args.image.now
    (stays_image t (goal.at.injection_named-halves-requires t c).In-Inj c.in-Inj.base.value refl
    (eqb-true c.in-Inj.lowest.0 c.args.from.0 (sym c.eq.ensures ∙ c.if-eq.true)))

pub injection_named-named_compared-requires : goal.injection_named-named_compared-requires
injection_named-named_compared-requires t c =
    let at = (goal.at.injection_named-named_compared-requires t c).In-Inj in
    let same : c.in-Inj.lowest.0 ≡ c.args.from.0 =
    eqb-true c.in-Inj.lowest.0 c.args.from.0 (sym c.eq.ensures ∙ c.if-eq.true) in (
      omega (arith, c.decreases),
      (
        c.requires.signature,
        (
          below_made t at c.deref.result.now c.deref.ensures same,
          (stays_halves t at c.deref.result.now c.args.cx.now c.halves.result.0.now
              c.halves.result.1.now c.deref.ensures same (grown_none c.args.cx.now)
              c.halves.ensures).is_argument,
        ),
      ),
    )

pub injection_named-applied-requires-clause-argument :
    goal.injection_named-applied-requires-clause-argument
injection_named-applied-requires-clause-argument t c =
    let at = (goal.at.injection_named-applied-requires-clause-argument t c).In-Inj in
    named_says c.named_compared.new.cx (part_names c.args.names.now) (plain_pattern c.args.below.now)
    (plain_pattern c.deref.result.now) c.halves.result.1.now c.in_ok-one.one
    (makes_grown c.args.cx.now c.named_compared.new.cx (part_names c.args.names.now)
    (plain_pattern c.args.below.now) (plain_pattern c.deref.result.now) c.in_ok-one.ensures.grown
    (below_made t at c.deref.result.now c.deref.ensures
    (eqb-true c.in-Inj.lowest.0 c.args.from.0 (sym c.eq.ensures ∙ c.if-eq.true))))
    c.in_ok-one.ensures.says

pub injection_named-applied-requires-clause-closed :
    goal.injection_named-applied-requires-clause-closed
injection_named-applied-requires-clause-closed t c =
    let at = (goal.at.injection_named-applied-requires-clause-closed t c).In-Inj in
    let same : c.in-Inj.lowest.0 ≡ c.args.from.0 =
    eqb-true c.in-Inj.lowest.0 c.args.from.0 (sym c.eq.ensures ∙ c.if-eq.true) in
    let split : HasHalves c.args.cx.now c.args.from.0 c.args.to.0 (plain_pattern c.deref.result.now)
    c.halves.result.0.now c.halves.result.1.now =
    stays_halves t at c.deref.result.now c.args.cx.now c.halves.result.0.now
    c.halves.result.1.now c.deref.ensures same (grown_none c.args.cx.now) c.halves.ensures in (
      closed-injection c.args.cx.now.program.sig c.args.cx.now.names c.args.from.0 c.args.to.0
          c.halves.result.0.now split.is_head,
      named_closed c.args.cx.now (part_names c.args.names.now) (plain_pattern c.args.below.now)
          (plain_pattern c.deref.result.now) c.halves.result.1.now
          (below_made t at c.deref.result.now c.deref.ensures same) split.is_argument,
    )

pub injection_named-returns-then-eq-clause-grown :
    goal.injection_named-returns-then-eq-clause-grown
injection_named-returns-then-eq-clause-grown t c =
    grown_twice c.args.cx.now c.named_compared.new.cx c.applied.new.cx c.in_ok-one.ensures.grown
    c.applied.ensures.grown

pub injection_named-returns-then-eq-clause-says : goal.injection_named-returns-then-eq-clause-says
injection_named-returns-then-eq-clause-says t c =
    let at = (goal.at.injection_named-returns-then-eq-clause-says t c).In-Inj in
    let same : c.in-Inj.lowest.0 ≡ c.args.from.0 =
    eqb-true c.in-Inj.lowest.0 c.args.from.0 (sym c.eq.ensures ∙ c.if-eq.true) in
    let g : HasGrown c.args.cx.now c.applied.new.cx =
    grown_twice c.args.cx.now c.named_compared.new.cx c.applied.new.cx c.in_ok-one.ensures.grown
    c.applied.ensures.grown in
    let split : HasHalves c.applied.new.cx c.args.from.0 c.args.to.0
    (plain_pattern c.deref.result.now) c.halves.result.0.now c.halves.result.1.now =
    stays_halves t at c.deref.result.now c.applied.new.cx c.halves.result.0.now
    c.halves.result.1.now c.deref.ensures same g c.halves.ensures in
    let closed : HasNoVariable c.halves.result.1.now =
    named_closed c.applied.new.cx (part_names c.args.names.now) (plain_pattern c.args.below.now)
    (plain_pattern c.deref.result.now) c.halves.result.1.now
    (makes_grown c.args.cx.now c.applied.new.cx (part_names c.args.names.now)
    (plain_pattern c.args.below.now) (plain_pattern c.deref.result.now) g
    (below_made t at c.deref.result.now c.deref.ensures same)) split.is_argument in
    if_ok c.applied.result
    (λ o made. subst (λ (q : RulePattern). ComparesBelow c.applied.new.cx
    (part_names c.args.names.now) c.args.from.0 c.args.to.0 (plain_pattern c.args.below.now) q
    c.args.image.now o) (sym (whole_stays t at c.deref.result.now c.deref.ensures same))
    (beneath_named c.applied.new.cx (part_names c.args.names.now) c.args.from.0 c.args.to.0
    (plain_pattern c.args.below.now) (plain_pattern c.deref.result.now) c.halves.result.0.now
    c.halves.result.1.now c.args.image.now c.in_ok-one.one o
    (subst (λ (program : Program). IsSignature program.sig) (sym g.program) c.requires.signature)
    split.is_head closed c.halves.ensures
    (named_grown c.named_compared.new.cx c.applied.new.cx (part_names c.args.names.now)
    (plain_pattern c.args.below.now) (plain_pattern c.deref.result.now) c.halves.result.1.now
    c.in_ok-one.one c.applied.ensures.grown c.in_ok-one.ensures.says) made))
    c.applied.ensures.says
