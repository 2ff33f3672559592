use Rattle.std.proofs.Common.{refl, sym, ◌∙◌}
use Rattle.std.proofs.lemmas.Bool.{false≢true}
use Rattle.ml_image.proofs.ImageLaws.{none_some}
use Rattle.true_facts.proofs.OnlyLaws.{is_false}
use Rattle.true_facts.proofs.InjectionLaws.{IsInjectiveFact, about_there, about_this}
use Rattle.true_facts.proofs.InjectionLaws.{injective_fact}
use Rattle.true_facts.proofs.injections.is_injective_fact.Goals as goal

pub returns-in_default-injection_at : goal.returns-in_default-injection_at
returns-in_default-injection_at c =
    is_false (IsInjectiveFact c.args.sig.now c.args.names.now c.args.pattern.now) (λ h.
    let x = about_there c.args.sig.now c.args.names.now c.args.pattern.now c.in-Some.rest.now
    c.in-Some-as_all.body.now c.in-Some-applied_first.head.now _ _ _ _ c.in-Some.sort.0 _ _
    c.in-Some.ensures c.in-Some-as_all.ensures c.in-Some-applied_first.ensures.3 h in
    none_some x.0 ((c.in_default-injection_at.ensures x.0).0 x.1.is_injection))

pub returns-then-not-below : goal.returns-then-not-below
returns-then-not-below c =
    is_false (IsInjectiveFact c.args.sig.now c.args.names.now c.args.pattern.now) (λ h.
    let a = about_this c.args.sig.now c.args.names.now c.args.pattern.now c.in-Some.rest.now
    c.in-Some-as_all.body.now c.in-Some-applied_first.head.now _ _ _ _ c.in-Some.sort.0 _ _
    (c.in-Some-injection_at.found.from.0, c.in-Some-injection_at.found.to.0)
    c.in-Some.ensures c.in-Some-as_all.ensures c.in-Some-applied_first.ensures.3
    c.in-Some-injection_at.ensures h in
    false≢true (sym c.if-not-below.true ∙ c.below.ensures.1 a.below))

pub returns-then-not-is_sort : goal.returns-then-not-is_sort
returns-then-not-is_sort c =
    is_false (IsInjectiveFact c.args.sig.now c.args.names.now c.args.pattern.now) (λ h.
    let a = about_this c.args.sig.now c.args.names.now c.args.pattern.now c.in-Some.rest.now
    c.in-Some-as_all.body.now c.in-Some-applied_first.head.now _ _ _ _ c.in-Some.sort.0 _ _
    (c.in-Some-injection_at.found.from.0, c.in-Some-injection_at.found.to.0)
    c.in-Some.ensures c.in-Some-as_all.ensures c.in-Some-applied_first.ensures.3
    c.in-Some-injection_at.ensures h in
    false≢true (sym c.if-not-is_sort.true ∙ c.is_sort.ensures.1 a.is_sort))

pub returns : goal.returns
returns c = (
  λ t. injective_fact c.args.sig.now c.args.names.now c.args.pattern.now c.in-Some.sort.0
      c.in-Some-applied_first.head.now
      (c.in-Some-injection_at.found.from.0, c.in-Some-injection_at.found.to.0)
      (record {
        below = c.below.ensures.0 c.if-not-below.false;
        is_sort = c.is_sort.ensures.0 c.if-not-is_sort.false;
        is_injection = (c.in-Some-injection_at.ensures
            (c.in-Some-injection_at.found.from.0, c.in-Some-injection_at.found.to.0)).1 refl;
        shape = sym (c.same.ensures.0 t) ∙ c.in_ok-stated.ensures;
      }),
  λ h.
      let a = about_this c.args.sig.now c.args.names.now c.args.pattern.now c.in-Some.rest.now
      c.in-Some-as_all.body.now c.in-Some-applied_first.head.now _ _ _ _ c.in-Some.sort.0 _ _
      (c.in-Some-injection_at.found.from.0, c.in-Some-injection_at.found.to.0)
      c.in-Some.ensures c.in-Some-as_all.ensures c.in-Some-applied_first.ensures.3
      c.in-Some-injection_at.ensures h in
      c.same.ensures.1 (c.in_ok-stated.ensures ∙ sym a.shape),
)
