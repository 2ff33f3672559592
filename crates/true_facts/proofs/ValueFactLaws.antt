-- The patterns that state that a value is one element of its sort.
use Rattle.std.proofs.Common.{◌≡◌, ◌↔◌, ℕ, List, Option, Some, Bool, refl, sym, ◌∙◌, ap, subst}
use Rattle.std.specs.Prelude.{IsTrue}
use Rattle.ml_pat.specs.Patterns.{Pattern, fun}
use Rattle.term_core.specs.Terms.{DomainValue}
use Rattle.term_core.specs.Patterns.{domain_value}
use Rattle.rule_core.specs.declared.signature.Signature.{Signature}
use Rattle.ml_image.specs.Images.{both, image_of, sort_image}
use Rattle.ml_image.specs.Sentences.{term, functional, sentence_image, IsImageOf}
use Rattle.ml_image.specs.TrueFacts.{SaysValue}
use Rattle.ml_image.proofs.ImageLaws.{some_same}
use Rattle.true_facts.specs.Only.{IsOnly}
use Rattle.true_facts.specs.Values.{IsValueAt}
use Rattle.true_facts.proofs.BothLaws.{both_parts, both_made}

abbrev pub IsValueFact : Signature → List (List ℕ) → Pattern → Type 0
IsValueFact sig names p =
    (s : ℕ) × (v : DomainValue) × IsImageOf sig names (SaysValue sig s v) p

pub record HasValueShape (sig : Signature) (names : List (List ℕ)) (p : Pattern) : Type 0 where
  pub of : Pattern
  pub number : ℕ
  pub is_fun : p ≡ fun of number
  pub value : ℕ × DomainValue
  pub is_value : IsValueAt sig names of value
  pub is_sort : sort_image sig names value.0 ≡ Some number

pub value_shape : (sig : Signature) (names : List (List ℕ)) (p : Pattern)
    → IsValueFact sig names p → HasValueShape sig names p
value_shape sig names p (s, v, (q, h, image)) =
    let whole : both fun (image_of sig names (domain_value s v)) (sort_image sig names s) ≡ Some p =
    ap (sentence_image sig names) (sym h.says) ∙ image in
    let parts = both_parts fun (image_of sig names (domain_value s v)) (sort_image sig names s) p
    whole in
    record {
      of = parts.0;
      number = parts.1;
      is_fun = parts.4;
      value = (s, v);
      is_value = (h.has, parts.2);
      is_sort = parts.3;
    }

-- there is a value at such a pattern
pub value_found_there : (sig : Signature) (names : List (List ℕ)) (p of : Pattern) (n : ℕ)
    (o : Option (ℕ × DomainValue)) → p ≡ fun of n → IsOnly (IsValueAt sig names of) o
    → IsValueFact sig names p
    → (x : ℕ × DomainValue) × (o ≡ Some x) × (sort_image sig names x.0 ≡ Some n)
value_found_there sig names p of n o is one fact =
    let h : HasValueShape sig names p = value_shape sig names p fact in
    let same : fun of n ≡ fun h.of h.number = sym is ∙ h.is_fun in
    let patterns : of ≡ h.of = cc in
    let numbers : n ≡ h.number = cc in (
      h.value,
      (one h.value).0 (subst (λ (q : Pattern). IsValueAt sig names q h.value) (sym patterns)
          h.is_value),
      h.is_sort ∙ ap (λ (m : ℕ). Some m) (sym numbers),
    )

-- whether it is such a pattern, if there is a value
pub value_fact_test : (sig : Signature) (names : List (List ℕ)) (p of : Pattern) (n : ℕ)
    (x : ℕ × DomainValue) (b : Bool) → p ≡ fun of n → IsOnly (IsValueAt sig names of) (Some x)
    → IsTrue b ↔ (sort_image sig names x.0 ≡ Some n) → IsTrue b ↔ IsValueFact sig names p
value_fact_test sig names p of n x b is one test = (
  λ t.
      let has : IsValueAt sig names of x = (one x).1 refl in (
        x.0,
        x.1,
        (
          functional (term (domain_value x.0 x.1)) x.0,
          record { has = has.0; says = refl },
          both_made fun (image_of sig names (domain_value x.0 x.1)) (sort_image sig names x.0) of n
              has.1 (test.0 t) ∙ ap (λ (q : Pattern). Some q) (sym is),
        ),
      ),
  λ h.
      let found = value_found_there sig names p of n (Some x) is one h in
      test.1 (ap (λ (y : ℕ × DomainValue). sort_image sig names y.0)
      (some_same x found.0 found.1) ∙ found.2),
)
