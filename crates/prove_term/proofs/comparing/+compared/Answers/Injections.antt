-- The answers for an injection: the pattern below it stays, or the two injections become one.
use Rattle.std.proofs.Common.{◌≡◌, ◌+◌, ℕ, [], Some, eq-eqb, ap, sym, ◌∙◌, subst, arith}
use Rattle.std.specs.Prelude.{◌≢◌}
use Rattle.std.proofs.lemmas.Bool.{eqb-true, false≢true}
use Rattle.term_core.specs.Patterns.{Pattern as RulePattern, injection, ground_pattern}
use Rattle.term_core.specs.Terms.{Tree}
use Rattle.term_core.specs.GroundPatterns.{IsGround}
use Rattle.term_core.specs.RulePatterns.{plain_pattern}
use Rattle.term_core.specs.declared.rule_patterns.RulePat.{RulePat}
use Rattle.term_core.proofs.PatternLaws.{depth, IsGround-ground_pattern}
use Rattle.term_core.proofs.PlainPatterns.{plain-Inj}
use Rattle.rule_core.specs.Sorting.{HasSort}
use Rattle.rule_core.specs.WellSorted.{IsSignature}
use Rattle.rule_core.specs.declared.rules.Program.{Program}
use Rattle.rule_core.specs.declared.signature.Signature.{Signature}
use Rattle.ml_image.specs.Images.{image_of}
use Rattle.ml_image.specs.Sentences.{term}
use Rattle.prove_term.specs.Elements.{IsElement}
use Rattle.prove_term.specs.Comparing.{MakesTerm, Compares, IsFactOn}
use Rattle.prove_term.proofs.ComparingInjections.{HasHalves, halves_of, halves_there, stayed_made}
use Rattle.prove_term.proofs.ComparingInjections.{base_sorted, fact_of, same_end}
use Rattle.prove_term.proofs.ResultLaws.{if_ok}
use Rattle.prove_term.specs.Contexts.{HasGrown}
use Rattle.prove_term.proofs.ContextLaws.{grown_twice, image_grown}
use Rattle.prove_term.proofs.ComparingCalls.{beneath_compares, compares_grown, made_closed}
use Rattle.prove_term.proofs.ComparingCalls.{made_again}
use Rattle.prove_term.proofs.ComparingLoop.{compared_says}
use Rattle.prove_term.proofs.ComparingLaws.{closed-injection}
use Rattle.prove_term.proofs.comparing.+compared.Goals as goal
use Rattle.prove_term.proofs.comparing.+compared.Goals.{compared-After-deref-in-Inj}
use Rattle.prove_term.proofs.comparing.+compared.Goals.{injection_compared-After-deref}
use Rattle.prove_term.proofs.comparing.+compared.Goals.{injection_compared-After-deref-2}

-- the pattern, with the one below it as it is passed on
pattern_is : (t : ℕ) (c : compared-After-deref-in-Inj t)
    → plain_pattern c.args.pat.now
    ≡ injection c.in-Inj.from.0 c.in-Inj.to.0 (plain_pattern c.deref-in-Inj.result.now)
pattern_is t c =
    ap plain_pattern c.in-Inj.is ∙ plain-Inj _ _ _
    ∙ ap (λ (p : RulePat). injection c.in-Inj.from.0 c.in-Inj.to.0 (plain_pattern p))
    (sym c.deref-in-Inj.ensures)

pub compared-injection_compared-requires : goal.compared-injection_compared-requires
compared-injection_compared-requires t c =
    let is = pattern_is t (goal.at.compared-injection_compared-requires t c).After-deref-in-Inj in
    let high : depth (plain_pattern c.args.pat.now) ≡ depth
    (plain_pattern c.deref-in-Inj.result.now) + 1 =
    ap depth is in (
      omega (arith, high, c.decreases),
      (
        c.requires.signature,
        (
          subst (λ (p : RulePattern).
              MakesTerm c.args.cx.now.program.sig p (plain_pattern c.args.whole.now)) is
              c.requires.made,
          c.requires.image,
        ),
      ),
    )

pub compared-returns-in-Inj-clause-says : goal.compared-returns-in-Inj-clause-says
compared-returns-in-Inj-clause-says t c =
    let is = pattern_is t (goal.at.compared-returns-in-Inj-clause-says t c).After-deref-in-Inj in
    if_ok c.injection_compared.result
    (λ o says. subst (λ (p : RulePattern). Compares c.injection_compared.new.cx p
    (plain_pattern c.args.whole.now) c.args.image.now o) (sym is) says)
    c.injection_compared.ensures.says

-- ---- the pattern below stays

pub beneath-halves-requires : goal.beneath-halves-requires
beneath-halves-requires t c =
    halves_there c.args.cx.now c.requires.image.0 c.requires.image.1 (plain_pattern c.args.base.now)
    c.args.image.now c.requires.image.2

pub beneath-compared-requires : goal.beneath-compared-requires
beneath-compared-requires t c =
    let split : HasHalves c.args.cx.now c.requires.image.0 c.requires.image.1
    (plain_pattern c.args.base.now) c.halves.result.0.now c.halves.result.1.now =
    halves_of c.args.cx.now c.requires.image.0 c.requires.image.1 (plain_pattern c.args.base.now)
    c.args.image.now c.halves.result.0.now c.halves.result.1.now c.requires.image.2
    c.halves.ensures in
    (omega (arith, c.decreases), (c.requires.signature, (c.requires.made, split.is_argument)))

pub beneath-applied-requires-clause-argument : goal.beneath-applied-requires-clause-argument
beneath-applied-requires-clause-argument t c =
    compared_says c.compared.new.cx (plain_pattern c.args.below.now) (plain_pattern c.args.base.now)
    c.halves.result.1.now c.in_ok-one.one
    (made_again c.args.cx.now c.compared.new.cx (plain_pattern c.args.below.now)
    (plain_pattern c.args.base.now) c.in_ok-one.ensures.grown c.requires.made)
    c.in_ok-one.ensures.says

pub beneath-applied-requires-clause-closed : goal.beneath-applied-requires-clause-closed
beneath-applied-requires-clause-closed t c =
    let split : HasHalves c.args.cx.now c.requires.image.0 c.requires.image.1
    (plain_pattern c.args.base.now) c.halves.result.0.now c.halves.result.1.now =
    halves_of c.args.cx.now c.requires.image.0 c.requires.image.1 (plain_pattern c.args.base.now)
    c.args.image.now c.halves.result.0.now c.halves.result.1.now c.requires.image.2
    c.halves.ensures in (
      closed-injection c.args.cx.now.program.sig c.args.cx.now.names c.requires.image.0
          c.requires.image.1 c.halves.result.0.now split.is_head,
      made_closed c.args.cx.now (plain_pattern c.args.below.now) (plain_pattern c.args.base.now)
          c.halves.result.1.now c.requires.made split.is_argument,
    )

pub beneath-returns-clause-says : goal.beneath-returns-clause-says
beneath-returns-clause-says t c =
    let g : HasGrown c.args.cx.now c.applied.new.cx =
    grown_twice c.args.cx.now c.compared.new.cx c.applied.new.cx c.in_ok-one.ensures.grown
    c.applied.ensures.grown in
    if_ok c.applied.result
    (λ o made. λ a b is one. beneath_compares c.args.cx.now c.applied.new.cx a b
    (plain_pattern c.args.below.now) (plain_pattern c.args.base.now) c.args.image.now
    c.halves.result.0.now c.halves.result.1.now c.in_ok-one.one o
    (subst (λ (program : Program). IsSignature program.sig) (sym g.program)
    c.requires.signature) g is c.halves.ensures
    (compares_grown c.compared.new.cx c.applied.new.cx (plain_pattern c.args.below.now)
    (plain_pattern c.args.base.now) c.halves.result.1.now c.in_ok-one.one c.applied.ensures.grown
    c.in_ok-one.ensures.says) made)
    c.applied.ensures.says

-- ---- both injections

-- the term is an injection to the sort to which the pattern is one
same_ends : (sig : Signature) (from to lowest last : ℕ) (p : RulePattern) (whole base w : RulePat)
    → MakesTerm sig (injection from to p) (plain_pattern whole)
    → plain_pattern whole ≡ injection lowest last (plain_pattern base) → w ≡ base
    → plain_pattern whole ≡ injection lowest to (plain_pattern w)
same_ends sig from to lowest last p whole base w made is same =
    is
    ∙ ap (λ (n : ℕ). injection lowest n (plain_pattern base))
    (same_end sig from to lowest last p (plain_pattern base) (plain_pattern whole) made is)
    ∙ ap (λ (q : RulePat). injection lowest to (plain_pattern q)) (sym same)

-- if it is one from the same sort, the pattern below stays
whole_stays : (t : ℕ) (c : injection_compared-After-deref t)
    → plain_pattern c.args.whole.now
    ≡ injection c.args.from.0 c.args.to.0 (plain_pattern c.deref.result.now)
whole_stays t c =
    same_ends c.args.cx.now.program.sig c.args.from.0 c.args.to.0 c.in-Inj.lowest.0
    c.in-Inj.field-1.0 (plain_pattern c.args.below.now) c.args.whole.now c.in-Inj.base.value
    c.deref.result.now c.requires.made (ap plain_pattern c.in-Inj.is ∙ plain-Inj _ _ _)
    c.deref.ensures
    ∙ ap (λ (n : ℕ). injection n c.args.to.0 (plain_pattern c.deref.result.now))
    (eqb-true c.in-Inj.lowest.0 c.args.from.0 (sym c.eq.ensures ∙ c.if-eq.true))

below_made : (t : ℕ) (c : injection_compared-After-deref t)
    → MakesTerm c.args.cx.now.program.sig (plain_pattern c.args.below.now)
    (plain_pattern c.deref.result.now)
below_made t c =
    (stayed_made c.args.cx.now.program.sig c.args.from.0 c.args.to.0 c.args.to.0
    (plain_pattern c.args.below.now) (plain_pattern c.deref.result.now) c.requires.signature
    (subst (λ (q : RulePattern). MakesTerm c.args.cx.now.program.sig
    (injection c.args.from.0 c.args.to.0 (plain_pattern c.args.below.now)) q) (whole_stays t c)
    c.requires.made)).1

-- else the term is an injection from a lower sort
whole_moves : (t : ℕ) (c : injection_compared-After-deref-2 t) (w : RulePat)
    → w ≡ c.in-Inj.base.value
    → plain_pattern c.args.whole.now ≡ injection c.in-Inj.lowest.0 c.args.to.0 (plain_pattern w)
whole_moves t c w base =
    same_ends c.args.cx.now.program.sig c.args.from.0 c.args.to.0 c.in-Inj.lowest.0
    c.in-Inj.field-1.0 (plain_pattern c.args.below.now) c.args.whole.now c.in-Inj.base.value w
    c.requires.made (ap plain_pattern c.in-Inj.is ∙ plain-Inj _ _ _) base

whole_made : (t : ℕ) (c : injection_compared-After-deref-2 t) (w : RulePat)
    → w ≡ c.in-Inj.base.value
    → MakesTerm c.args.cx.now.program.sig
    (injection c.args.from.0 c.args.to.0 (plain_pattern c.args.below.now))
    (injection c.in-Inj.lowest.0 c.args.to.0 (plain_pattern w))
whole_made t c w base =
    subst (λ (q : RulePattern). MakesTerm c.args.cx.now.program.sig
    (injection c.args.from.0 c.args.to.0 (plain_pattern c.args.below.now)) q)
    (whole_moves t c w base) c.requires.made

-- the base is the pattern of a term of the lowest sort
base_is : (t : ℕ) (c : injection_compared-After-deref-2 t) (w : RulePat) → w ≡ c.in-Inj.base.value
    → (v : Tree) × (plain_pattern w ≡ ground_pattern v)
    × HasSort c.args.cx.now.program.sig [] (plain_pattern w) c.in-Inj.lowest.0
base_is t c w base =
    base_sorted c.args.cx.now.program.sig
    (injection c.args.from.0 c.args.to.0 (plain_pattern c.args.below.now)) c.in-Inj.lowest.0
    c.args.to.0 (plain_pattern w) (whole_made t c w base)

pub injection_compared-beneath-requires : goal.injection_compared-beneath-requires
injection_compared-beneath-requires t c =
    let at = (goal.at.injection_compared-beneath-requires t c).After-deref in
    let is = whole_stays t at in (
      omega (arith, c.decreases),
      (
        c.requires.signature,
        (
          below_made t at,
          (
            c.args.from.0,
            c.args.to.0,
            ap (image_of c.args.cx.now.program.sig c.args.cx.now.names) (sym is)
                ∙ c.requires.image,
          ),
        ),
      ),
    )

pub injection_compared-returns-then-eq-clause-says :
    goal.injection_compared-returns-then-eq-clause-says
injection_compared-returns-then-eq-clause-says t c =
    let at = (goal.at.injection_compared-returns-then-eq-clause-says t c).After-deref in
    let is = whole_stays t at in
    if_ok c.beneath.result
    (λ o says. subst (λ (q : RulePattern). Compares c.beneath.new.cx
    (injection c.args.from.0 c.args.to.0 (plain_pattern c.args.below.now)) q
    c.args.image.now o) (sym is) (says c.args.from.0 c.args.to.0
    (ap (image_of c.args.cx.now.program.sig c.args.cx.now.names) (sym is) ∙ c.requires.image)
    (below_made t at)))
    c.beneath.ensures.says

pub injection_compared-element-requires-clause-sorted :
    goal.injection_compared-element-requires-clause-sorted
injection_compared-element-requires-clause-sorted t c =
    let at = (goal.at.injection_compared-element-requires-clause-sorted t c).After-deref-2 in
    (c.in-Inj.lowest.0, (base_is t at c.deref-2.result.now c.deref-2.ensures).2)

pub injection_compared-element-requires-clause-ground :
    goal.injection_compared-element-requires-clause-ground
injection_compared-element-requires-clause-ground t c =
    let at = (goal.at.injection_compared-element-requires-clause-ground t c).After-deref-2 in
    let base = base_is t at c.deref-2.result.now c.deref-2.ensures in
    subst (λ (q : RulePattern). IsGround q) (sym base.1) (IsGround-ground_pattern base.0)

pub injection_compared-joined_compared-requires : goal.injection_compared-joined_compared-requires
injection_compared-joined_compared-requires t c =
    let at = (goal.at.injection_compared-joined_compared-requires t c).After-deref-2 in
    let g : HasGrown c.args.cx.now c.element.new.cx = c.in_ok-fact.ensures.grown in
    let apart : c.in-Inj.lowest.0 ≢ c.args.from.0 =
    λ same. false≢true (sym (sym c.eq.ensures ∙ c.if-eq.false)
    ∙ eq-eqb c.in-Inj.lowest.0 c.args.from.0 same) in
    let fact : IsFactOn c.element.new.cx (plain_pattern c.deref-3.result.now) c.in-Inj.lowest.0
    c.in_ok-fact.fact =
    fact_of c.element.new.cx (plain_pattern c.deref-3.result.now) c.in-Inj.lowest.0
    c.in_ok-fact.fact
    (subst (λ (program : Program).
    HasSort program.sig [] (plain_pattern c.deref-3.result.now) c.in-Inj.lowest.0)
    (sym g.program) (base_is t at c.deref-3.result.now c.deref-3.ensures).2)
    (subst (λ (p : RulePat).
    IsElement c.element.new.cx (plain_pattern p) c.in_ok-fact.fact.conclusion)
    (c.deref-2.ensures ∙ sym c.deref-3.ensures) c.in_ok-fact.ensures.says)
    c.in_ok-fact.ensures.no_hypotheses c.in_ok-fact.ensures.stays in (
      omega (arith, c.decreases),
      (
        subst (λ (program : Program). IsSignature program.sig) (sym g.program) c.requires.signature,
        (
          made_again c.args.cx.now c.element.new.cx
              (injection c.args.from.0 c.args.to.0 (plain_pattern c.args.below.now))
              (injection c.in-Inj.lowest.0 c.args.to.0 (plain_pattern c.deref-3.result.now)) g
              (whole_made t at c.deref-3.result.now c.deref-3.ensures),
          (apart, fact),
        ),
      ),
    )

pub injection_compared-returns-clause-says : goal.injection_compared-returns-clause-says
injection_compared-returns-clause-says t c =
    let at = (goal.at.injection_compared-returns-clause-says t c).After-deref-2 in
    let is = whole_moves t at c.deref-3.result.now c.deref-3.ensures in
    let g : HasGrown c.args.cx.now c.joined_compared.new.cx =
    grown_twice c.args.cx.now c.element.new.cx c.joined_compared.new.cx
    c.in_ok-fact.ensures.grown c.in_ok-made.ensures.grown in
    let image : image_of c.joined_compared.new.cx.program.sig c.joined_compared.new.cx.names
    (injection c.in-Inj.lowest.0 c.args.to.0 (plain_pattern c.deref-3.result.now)) ≡ Some
    c.args.image.now =
    ap (image_of c.joined_compared.new.cx.program.sig c.joined_compared.new.cx.names) (sym is)
    ∙ image_grown c.args.cx.now c.joined_compared.new.cx (term (plain_pattern c.args.whole.now))
    c.args.image.now g c.requires.image in
    subst (λ (q : RulePattern). Compares c.joined_compared.new.cx
    (injection c.args.from.0 c.args.to.0 (plain_pattern c.args.below.now)) q
    c.args.image.now (Some c.in_ok-made.made)) (sym is)
    (c.in_ok-made.ensures.says c.args.image.now image)
