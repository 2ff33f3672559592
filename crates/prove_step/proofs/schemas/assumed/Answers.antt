use Rattle.std.proofs.Common.{◌≡◌, ◌∷◌, [], sym, subst}
use Rattle.ml_pat.specs.Patterns.{Pattern}
use Rattle.ml_pat.specs.PatternView.{pattern_of}
use Rattle.ml_derived.specs.Scopes.{AssumesWithin}
use Rattle.prove_schema.specs.Schemas.{parts_of}
use Rattle.prove_schema.proofs.ResultLaws.{if_ok}
use Rattle.prove_schema.proofs.OpeningLaws.{whole_held}
use Rattle.prove_step.specs.RuleLemmas.{IsCondition}
use Rattle.prove_step.proofs.LemmaLaws.{only_part}
use Rattle.prove_step.proofs.schemas.assumed.Goals as goal

pub returns-in-Top-clause-stays : goal.returns-in-Top-clause-stays
returns-in-Top-clause-stays c =
    if_ok c.top.result (λ u stays. λ s may. stays s tt tt) c.top.ensures.stays

pub returns-in_ok-share-in_default-clause-stays : goal.returns-in_ok-share-in_default-clause-stays
returns-in_ok-share-in_default-clause-stays c =
    let one : parts_of (pattern_of c.form.result.now) ≡ pattern_of c.form.result.now ∷ [] =
    only_part c.form.result.now (subst IsCondition (sym c.form.ensures) c.requires)
    c.in_default.not-Top in
    let is : parts_of c.args.condition.now ≡ c.args.condition.now ∷ [] =
    subst (λ (p : Pattern). parts_of p ≡ p ∷ []) c.form.ensures one in
    if_ok c.assume.result
    (λ u stays. whole_held c.args.condition.now u is
    (subst (λ (p : Pattern). AssumesWithin p u) c.in_ok-share-in_default.ensures stays))
    c.assume.ensures.stays
