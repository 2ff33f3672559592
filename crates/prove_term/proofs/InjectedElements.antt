-- An injection of one element, and its lemma.
use Rattle.std.proofs.Common.{◌≡◌, ℕ, List, [], ◌∷◌, ◌++◌, Some, sym, ◌∙◌, ap, subst}
use Rattle.ml_pat.specs.Patterns.{Pattern, fun}
use Rattle.ml_kernel.specs.Lemmas.{HasNoVariable, HasNoMeta}
use Rattle.ml_kernel.specs.Theorems.{Theorem, AddsNew, IsByLemma}
use Rattle.ml_derived.proofs.RuleLaws.{lemma_within}
use Rattle.term_core.specs.Patterns.{Pattern as RulePattern, injection}
use Rattle.rule_core.specs.WellSorted.{IsSignature}
use Rattle.rule_core.specs.declared.rules.Program.{Program}
use Rattle.rule_core.specs.declared.signature.Signature.{Signature}
use Rattle.ml_image.specs.Images.{image_of, sort_image}
use Rattle.ml_image.specs.Sentences.{term}
use Rattle.ml_image.proofs.ImageLaws.{some_same}
use Rattle.ml_image.proofs.WellSortedLaws.{sorted_has_image}
use Rattle.prove_term.specs.Contexts.{Context, HasGrown, StaysIn}
use Rattle.prove_term.specs.Injections.{IsInjectionAt}
use Rattle.prove_term.specs.Numbered.{inject}
use Rattle.prove_term.specs.InjectionTables.{InjectsBelow}
use Rattle.prove_term.specs.Carrying.{Cites, CitedFrom, CitedBy}
use Rattle.prove_term.specs.Elements.{IsSorted, IsElement, IsElementAt}
use Rattle.prove_term.proofs.ContextLaws.{contains_there}
use Rattle.prove_term.proofs.ElementLaws.{element_over}
use Rattle.prove_term.proofs.InjectionGrown.{injection_grown}
use Rattle.prove_term.proofs.InjectionShapes.{injection_made}

pub injects_below : (sig : Signature) (a b : ℕ) (p : RulePattern) → IsSignature sig
    → IsSorted sig (injection a b p) → InjectsBelow sig a b
injects_below sig a b p ok (sort, sorted) = record {
  signature = ok;
  symbol = (sorted_has_image sig [] (injection a b p) sort ok sorted).0;
  below = sorted.2;
}

pub below_sorted : (sig : Signature) (a b : ℕ) (p : RulePattern) → IsSorted sig (injection a b p)
    → IsSorted sig p
below_sorted sig a b p (sort, sorted) = (a, sorted.3)

-- an element to be injected, and the lemma
pub record IsInjectedElement (cx : Context) (a b k : ℕ) (p : RulePattern) (proof : Theorem) :
    Type 0 where
  pub at : IsInjectionAt cx a b k
  pub image : Pattern
  pub is_image : image_of cx.program.sig cx.names p ≡ Some image
  pub says : proof.conclusion ≡ fun image at.is.ends.lower
  pub no_variable : HasNoVariable image
  pub no_meta : HasNoMeta image
  pub no_hypotheses : proof.hypotheses ≡ []
  pub stays : StaysIn cx proof
  pub sorted : IsSorted cx.program.sig (injection a b p)

injected_at : (cx : Context) (a b k : ℕ) (p : RulePattern) (proof : Theorem)
    → IsInjectionAt cx a b k → IsSorted cx.program.sig (injection a b p)
    → IsElement cx p proof.conclusion → proof.hypotheses ≡ [] → StaysIn cx proof
    → IsInjectedElement cx a b k p proof
unfolding below_sorted
injected_at cx a b k p proof at sorted element none stays =
    let e : IsElementAt cx p a proof.conclusion =
    element a (below_sorted cx.program.sig a b p sorted).1 in
    record {
      at = at;
      image = e.image;
      is_image = e.is_image;
      says = e.says
          ∙ ap (fun e.image)
          (some_same e.number at.is.ends.lower (sym e.is_number ∙ at.is.ends.is_lower));
      no_variable = e.no_variable;
      no_meta = e.no_meta;
      no_hypotheses = none;
      stays = stays;
      sorted = sorted;
    }

pub injected_from : (a b d : Context) (x y k : ℕ) (p : RulePattern) (proof : Theorem) → HasGrown a b
    → HasGrown b d → IsInjectionAt b x y k → IsSorted a.program.sig (injection x y p)
    → IsElement d p proof.conclusion → proof.hypotheses ≡ [] → StaysIn d proof
    → IsInjectedElement d x y k p proof
injected_from a b d x y k p proof g h at sorted element none stays =
    injected_at d x y k p proof (injection_grown b d x y k h at) (subst
    (λ (program : Program). IsSorted program.sig (injection x y p))
    (sym (h.program ∙ g.program)) sorted) element none stays

pub injected_cites : (cx : Context) (a b k : ℕ) (p : RulePattern) (proof : Theorem)
    (m : IsInjectedElement cx a b k p proof)
    → Cites m.at.is.ends.symbol m.at.is.ends.lower m.at.is.ends.upper m.image m.at.lemma proof
injected_cites cx a b k p proof m = record {
  says = m.at.is.says;
  proved = m.says;
  closed = m.no_variable;
}

pub injected_says : (cx : Context) (a b k : ℕ) (p : RulePattern) (proof : Theorem)
    (m : IsInjectedElement cx a b k p proof) (made : Theorem) → CitedFrom m.at.lemma proof made
    → IsElement cx (injection a b p) made.conclusion
injected_says cx a b k p proof m made from = λ sort sorted. record {
  image = inject m.at.is.ends.symbol m.at.is.ends.lower m.at.is.ends.upper m.image;
  is_image =
      injection_made cx.program.sig cx.names a b m.at.is.ends (image_of cx.program.sig cx.names p)
      m.image m.is_image;
  number = m.at.is.ends.upper;
  is_number = ap (sort_image cx.program.sig cx.names) (sym sorted.1) ∙ m.at.is.ends.is_upper;
  says =
      from m.at.is.ends.symbol m.at.is.ends.lower m.at.is.ends.upper m.image
      (injected_cites cx a b k p proof m);
  no_variable = (tt, m.no_variable);
  no_meta = (tt, m.no_meta);
}

pub injected_assumes_nothing : (cx : Context) (a b k : ℕ) (p : RulePattern) (proof : Theorem)
    (m : IsInjectedElement cx a b k p proof) (made : Theorem) → CitedBy m.at.lemma proof made
    → made.hypotheses ≡ []
injected_assumes_nothing cx a b k p proof m made by =
    let cited : IsByLemma m.at.lemma (m.image ∷ []) (proof ∷ []) made =
    by m.at.is.ends.symbol m.at.is.ends.lower m.at.is.ends.upper m.image
    (injected_cites cx a b k p proof m) in
    subst (λ (hs : List Pattern). AddsNew [] hs made.hypotheses)
    (ap (λ (hs : List Pattern). hs ++ []) m.no_hypotheses) cited.kept_hypotheses

pub injected_stays : (cx : Context) (a b k : ℕ) (p : RulePattern) (proof : Theorem)
    (m : IsInjectedElement cx a b k p proof) (made : Theorem) → CitedFrom m.at.lemma proof made
    → CitedBy m.at.lemma proof made → StaysIn cx made
injected_stays cx a b k p proof m made from by = λ s has.
    let cited : IsByLemma m.at.lemma (m.image ∷ []) (proof ∷ []) made =
    by m.at.is.ends.symbol m.at.is.ends.lower m.at.is.ends.upper m.image
    (injected_cites cx a b k p proof m) in
    lemma_within s m.at.lemma (m.image ∷ []) (proof ∷ []) made cited
    (has.lemmas m.at.lemma (contains_there cx.lemmas k m.at.lemma m.at.there))
    (has.images (term p) m.image m.is_image, tt)
    (element_over cx s (injection a b p) m.sorted.0 made.conclusion has
    (injected_says cx a b k p proof m made from m.sorted.0 m.sorted.1)) (m.stays s has, tt)
