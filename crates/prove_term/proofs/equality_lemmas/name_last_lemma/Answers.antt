use Rattle.std.proofs.Common.{◌≡◌, Some, refl, sym, ◌∙◌, ap, subst}
use Rattle.ml_pat.specs.Patterns.{Pattern, and, equal, meta, var}
use Rattle.ml_pat.specs.Judgements.{substituted}
use Rattle.ml_derived.specs.Scopes.{IsOver}
use Rattle.ml_image.proofs.ImageLaws.{some_same}
use Rattle.prove_term.specs.EqualityLemmas.{same_metas}
use Rattle.prove_term.proofs.ResultLaws.{if_ok_two}
use Rattle.prove_term.proofs.EqualityLaws.{first_there}
use Rattle.prove_term.proofs.equality_lemmas.name_last_lemma.Goals as goal
use Rattle.prove_term.proofs.equality_lemmas.name_last_lemma.Goals.{In_ok-and_same}

context_is : (c : In_ok-and_same) → c.in_ok-context.context ≡ equal (and (var 0) (meta 1)) (meta 1)
context_is c =
    c.in_ok-context.ensures
    ∙ ap (λ (p : Pattern). equal p c.in_ok-named.named) (c.in_ok-open.ensures
    ∙ ap (λ (p : Pattern). and p c.in_ok-named.named) c.in_ok-var.ensures ∙ ap (and (var 0)) c.in_ok-named.ensures)
    ∙ ap (equal (and (var 0) (meta 1))) c.in_ok-named.ensures

same_is : (c : In_ok-and_same)
    → c.in_ok-and_same.field-0.conclusion ≡ equal (and (meta 1) (meta 1)) (meta 1)
same_is c =
    c.in_ok-and_same.ensures.conclusion
    ∙ ap (λ (p : Pattern). equal (and p p) p) c.in_ok-named.ensures

pub carry-requires : goal.carry-requires
carry-requires c =
    let at = (goal.at.carry-requires c).In_ok-and_same in (
      meta 1,
      (
        meta 0,
        (
          equal (and (meta 0) (meta 1)) (meta 1),
          (
            c.in_ok-turned.ensures.conclusion (meta 0) (meta 1)
                c.in_ok-assumed_same.ensures.conclusion,
            (
              ap (λ (p : Pattern). substituted p 0 (meta 1)) (context_is at)
                  ∙ ap (λ (p : Pattern). Some p) (sym (same_is at)),
              ap (λ (p : Pattern). substituted p 0 (meta 0)) (context_is at),
            ),
          ),
        ),
      ),
    )

pub returns : goal.returns
returns c =
    let at = (goal.at.returns c).In_ok-and_same in
    if_ok_two c.carry.result
    (λ t says stays. record {
      says =
          some_same t.conclusion (equal (and (meta 0) (meta 1)) (meta 1))
          (sym (says (meta 1) (meta 0)
          (c.in_ok-turned.ensures.conclusion (meta 0) (meta 1)
          c.in_ok-assumed_same.ensures.conclusion))
          ∙ ap (λ (p : Pattern). substituted p 0 (meta 0)) (context_is at));
      stays = λ s objects metas may.
          stays s (
            subst (IsOver s) (sym (context_is at)) ((objects 0, metas 1), metas 1),
            (objects 0, tt),
          ) (
            c.in_ok-turned.ensures.stays s (objects 0, tt) (
              c.in_ok-assumed_same.ensures.stays s
                  (may (same_metas 0 1) (first_there (same_metas 0 1) (same_metas 0 1)))
                  (metas 0, metas 1),
              tt,
            ),
            (
              c.in_ok-and_same.ensures.stays s
                  (subst (IsOver s) (sym c.in_ok-named.ensures) (metas 1), tt) tt,
              tt,
            ),
          );
    })
    c.carry.ensures.conclusion c.carry.ensures.stays
