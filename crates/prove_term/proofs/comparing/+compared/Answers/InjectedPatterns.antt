-- The answers for the pattern below such an injection.
use Rattle.std.proofs.Common.{◌≡◌, ◌+◌, ℕ, Some, refl, eq-eqb, ap, sym, ◌∙◌, subst, arith}
use Rattle.std.specs.Prelude.{◌≢◌}
use Rattle.std.proofs.lemmas.Bool.{eqb-true, false≢true}
use Rattle.term_core.specs.Patterns.{Pattern as RulePattern, injection}
use Rattle.term_core.specs.RulePatterns.{plain_pattern}
use Rattle.term_core.specs.declared.rule_patterns.RulePat.{RulePat}
use Rattle.term_core.proofs.PatternLaws.{depth}
use Rattle.term_core.proofs.PlainPatterns.{plain-Inj}
use Rattle.rule_core.specs.declared.signature.Signature.{Signature}
use Rattle.ml_image.specs.Images.{image_of}
use Rattle.ml_image.specs.Sentences.{term}
use Rattle.prove_term.specs.Comparing.{MakesTerm, Compares}
use Rattle.prove_term.proofs.ComparingInjections.{stayed_made, same_end}
use Rattle.prove_term.proofs.ResultLaws.{if_ok}
use Rattle.prove_term.proofs.ContextLaws.{image_grown}
use Rattle.prove_term.proofs.comparing.+compared.Goals as goal
use Rattle.prove_term.proofs.comparing.+compared.Goals.{middle_compared-After-deref}
use Rattle.prove_term.proofs.comparing.+compared.Goals.{middle_compared-After-deref-in-Inj}

-- the pattern is an injection to the sort to which the term is one
same_ends : (sig : Signature) (from last lowest to : ℕ) (base : RulePattern)
    (pat below p : RulePat) → MakesTerm sig (plain_pattern pat) (injection lowest to base)
    → plain_pattern pat ≡ injection from last (plain_pattern below) → p ≡ below
    → plain_pattern pat ≡ injection from to (plain_pattern p)
same_ends sig from last lowest to base pat below p made is same =
    is
    ∙ ap (λ (n : ℕ). injection from n (plain_pattern below))
    (sym (same_end sig from last lowest to (plain_pattern below) base (injection lowest to base)
    (subst (λ (q : RulePattern). MakesTerm sig q (injection lowest to base)) is made) refl))
    ∙ ap (λ (q : RulePat). injection from to (plain_pattern q)) (sym same)

-- if the term is one from the same sort, the pattern below stays
pattern_stays : (t : ℕ) (c : middle_compared-After-deref t)
    → plain_pattern c.args.pat.now
    ≡ injection c.in-Inj.from.0 c.args.to.0 (plain_pattern c.deref.result.now)
pattern_stays t c =
    same_ends c.args.cx.now.program.sig c.in-Inj.from.0 c.in-Inj.field-1.0 c.args.lowest.0
    c.args.to.0 (plain_pattern c.args.base.now) c.args.pat.now c.in-Inj.below.value
    c.deref.result.now c.requires.made (ap plain_pattern c.in-Inj.is ∙ plain-Inj _ _ _)
    c.deref.ensures

base_is : (t : ℕ) (c : middle_compared-After-deref t)
    → injection c.args.lowest.0 c.args.to.0 (plain_pattern c.args.base.now)
    ≡ injection c.in-Inj.from.0 c.args.to.0 (plain_pattern c.args.base.now)
base_is t c =
    ap (λ (n : ℕ). injection n c.args.to.0 (plain_pattern c.args.base.now))
    (eqb-true c.args.lowest.0 c.in-Inj.from.0 (sym c.eq.ensures ∙ c.if-eq.true))

base_image : (t : ℕ) (c : middle_compared-After-deref t)
    → image_of c.args.cx.now.program.sig c.args.cx.now.names
    (injection c.in-Inj.from.0 c.args.to.0 (plain_pattern c.args.base.now))
    ≡ Some c.args.image.now
base_image t c =
    ap (image_of c.args.cx.now.program.sig c.args.cx.now.names) (sym (base_is t c))
    ∙ c.requires.image

below_made : (t : ℕ) (c : middle_compared-After-deref t)
    → MakesTerm c.args.cx.now.program.sig (plain_pattern c.deref.result.now)
    (plain_pattern c.args.base.now)
below_made t c =
    (stayed_made c.args.cx.now.program.sig c.in-Inj.from.0 c.args.to.0 c.args.to.0
    (plain_pattern c.deref.result.now) (plain_pattern c.args.base.now) c.requires.signature
    (subst (λ (q : RulePattern). MakesTerm c.args.cx.now.program.sig
    (injection c.in-Inj.from.0 c.args.to.0 (plain_pattern c.deref.result.now)) q) (base_is t c)
    (subst (λ (q : RulePattern). MakesTerm c.args.cx.now.program.sig q
    (injection c.args.lowest.0 c.args.to.0 (plain_pattern c.args.base.now))) (pattern_stays t c)
    c.requires.made))).1

-- else the term is an injection from a lower sort
pattern_moves : (t : ℕ) (c : middle_compared-After-deref-in-Inj t)
    → plain_pattern c.args.pat.now
    ≡ injection c.in-Inj.from.0 c.args.to.0 (plain_pattern c.deref-in-Inj.result.now)
pattern_moves t c =
    same_ends c.args.cx.now.program.sig c.in-Inj.from.0 c.in-Inj.field-1.0 c.args.lowest.0
    c.args.to.0 (plain_pattern c.args.base.now) c.args.pat.now c.in-Inj.below.value
    c.deref-in-Inj.result.now c.requires.made (ap plain_pattern c.in-Inj.is ∙ plain-Inj _ _ _)
    c.deref-in-Inj.ensures

pub middle_compared-beneath-requires : goal.middle_compared-beneath-requires
middle_compared-beneath-requires t c =
    let at = (goal.at.middle_compared-beneath-requires t c).After-deref in
    let high : depth (plain_pattern c.args.pat.now) ≡ depth (plain_pattern c.deref.result.now) + 1 =
    ap depth (pattern_stays t at) in (
      omega (arith, high, c.decreases),
      (
        c.requires.signature,
        (
          below_made t at,
          (c.in-Inj.from.0, c.args.to.0, base_image t at),
        ),
      ),
    )

pub middle_compared-returns-then-eq-clause-says : goal.middle_compared-returns-then-eq-clause-says
middle_compared-returns-then-eq-clause-says t c =
    let at = (goal.at.middle_compared-returns-then-eq-clause-says t c).After-deref in
    if_ok c.beneath.result
    (λ o says. subst (λ (q : RulePattern). Compares c.beneath.new.cx q
    (injection c.args.lowest.0 c.args.to.0 (plain_pattern c.args.base.now)) c.args.image.now
    o) (sym (pattern_stays t at))
    (subst (λ (q : RulePattern). Compares c.beneath.new.cx
    (injection c.in-Inj.from.0 c.args.to.0 (plain_pattern c.deref.result.now)) q
    c.args.image.now o) (sym (base_is t at))
    (says c.in-Inj.from.0 c.args.to.0 (base_image t at)
    (below_made t at))))
    c.beneath.ensures.says

pub middle_compared-joined_compared-requires : goal.middle_compared-joined_compared-requires
middle_compared-joined_compared-requires t c =
    let at = (goal.at.middle_compared-joined_compared-requires t c).After-deref-in-Inj in
    let high : depth (plain_pattern c.args.pat.now) ≡ depth
    (plain_pattern c.deref-in-Inj.result.now) + 1 =
    ap depth (pattern_moves t at) in
    let made : MakesTerm c.args.cx.now.program.sig
    (injection c.in-Inj.from.0 c.args.to.0 (plain_pattern c.deref-in-Inj.result.now))
    (injection c.args.lowest.0 c.args.to.0 (plain_pattern c.args.base.now)) =
    subst (λ (q : RulePattern). MakesTerm c.args.cx.now.program.sig q
    (injection c.args.lowest.0 c.args.to.0 (plain_pattern c.args.base.now))) (pattern_moves t at)
    c.requires.made in
    let apart : c.args.lowest.0 ≢ c.in-Inj.from.0 =
    λ same. false≢true (sym (sym c.eq.ensures ∙ c.if-eq.false)
    ∙ eq-eqb c.args.lowest.0 c.in-Inj.from.0 same) in
    (omega (arith, high, c.decreases), (c.requires.signature, (made, (apart, c.requires.fact))))

pub middle_compared-returns-in_ok-made-in-Inj-clause-says :
    goal.middle_compared-returns-in_ok-made-in-Inj-clause-says
middle_compared-returns-in_ok-made-in-Inj-clause-says t c =
    let at =
    (goal.at.middle_compared-returns-in_ok-made-in-Inj-clause-says t c).After-deref-in-Inj in
    let image : image_of c.joined_compared.new.cx.program.sig c.joined_compared.new.cx.names
    (injection c.args.lowest.0 c.args.to.0 (plain_pattern c.args.base.now)) ≡ Some
    c.args.image.now =
    image_grown c.args.cx.now c.joined_compared.new.cx
    (term (injection c.args.lowest.0 c.args.to.0 (plain_pattern c.args.base.now)))
    c.args.image.now c.in_ok-made-in-Inj.ensures.grown c.requires.image in
    subst (λ (q : RulePattern). Compares c.joined_compared.new.cx q
    (injection c.args.lowest.0 c.args.to.0 (plain_pattern c.args.base.now)) c.args.image.now
    (Some c.in_ok-made-in-Inj.made))
    (sym (pattern_moves t at))
    (c.in_ok-made-in-Inj.ensures.says c.args.image.now image)
