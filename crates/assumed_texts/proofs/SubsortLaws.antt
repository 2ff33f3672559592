-- The sorts that an axiom about subsorts is about, read off its image.
use Rattle.std.proofs.Common.{◌≡◌, ℕ, ◌<◌, List, Option, Some, refl, sym, ap, ◌∙◌, subst}
use Rattle.std.proofs.Common.{length}
use Rattle.std.specs.Prelude.{IsSome, Contains}
use Rattle.mm_text.specs.Bytes.{Token}
use Rattle.ml_pat.specs.Patterns.{Pattern}
use Rattle.ml_pat.specs.Patterns as logic
use Rattle.rule_core.specs.Subsorts.{IsBelow, by_pair, by_chain}
use Rattle.rule_core.specs.WellSorted.{IsSignature, IsPair}
use Rattle.rule_core.specs.declared.signature.Signature.{Signature}
use Rattle.ml_image.specs.Images.{both, sort_image, injection_symbol, injection_image}
use Rattle.ml_image.specs.Sentences.{Sentence, sentence_image, IsImageOf}
use Rattle.ml_image.specs.OwnAxioms.{SaysSubsort, SaysCollapse}
use Rattle.ml_image.proofs.ImageLaws.{some_same}
use Rattle.assumed_texts.specs.Kinds.{IsSubsortAxiom, IsCollapse}
use Rattle.assumed_texts.specs.Shapes.{two_sorts, three_sorts}
use Rattle.assumed_texts.proofs.Inversions.{both-some, InjectionSome, injection-some}

two-at : (p q r : Pattern) (a b : ℕ) → p ≡ logic.all 0 a q → q ≡ logic.ex 1 b r
    → two_sorts p ≡ Some (a, b)
two-at p q r a b h k = rw (h, k) refl

three-at : (p q r s t u v : Pattern) (a b c : ℕ) → p ≡ logic.all 0 a q → q ≡ logic.equal r s
    → r ≡ logic.app t u → t ≡ logic.at_sort (logic.at_sort v b) c
    → three_sorts p ≡ Some (a, (b, c))
three-at p q r s t u v a b c h k i j = rw (h, k, i, j) refl

-- the sorts of the axiom about a pair of subsorts
pub record SubsortParts (sig : Signature) (names : List Token) (a b : ℕ) (p : Pattern) : Type 0
  where
    pub pair : Contains sig.subsorts (a, b)
    pub has : IsSome (injection_symbol sig)
    pub from : ℕ
    pub to : ℕ
    pub is_from : sort_image sig names a ≡ Some from
    pub is_to : sort_image sig names b ≡ Some to
    pub at : two_sorts p ≡ Some (from, to)

pub subsort-parts : (sig : Signature) (names : List Token) (a b : ℕ) (p : Pattern)
    → IsImageOf sig names (SaysSubsort sig a b) p → SubsortParts sig names a b p
subsort-parts sig names a b p (s, says, is) =
    let made : both (logic.all 0) (sort_image sig names a)
    (both (logic.ex 1) (sort_image sig names b)
    (both logic.equal (Some (logic.var 1))
    (both logic.app (injection_image sig names a b) (Some (logic.var 0))))) ≡ Some p =
    ap (sentence_image sig names) (sym says.says) ∙ is in
    let outer = both-some (logic.all 0) (sort_image sig names a)
    (both (logic.ex 1) (sort_image sig names b)
    (both logic.equal (Some (logic.var 1))
    (both logic.app (injection_image sig names a b) (Some (logic.var 0))))) p made in
    let inner = both-some (logic.ex 1) (sort_image sig names b)
    (both logic.equal (Some (logic.var 1))
    (both logic.app (injection_image sig names a b) (Some (logic.var 0)))) outer.second
    outer.is_second in
    let equal = both-some logic.equal (Some (logic.var 1))
    (both logic.app (injection_image sig names a b) (Some (logic.var 0))) inner.second
    inner.is_second in
    let applied = both-some logic.app (injection_image sig names a b) (Some (logic.var 0))
    equal.second equal.is_second in
    let injected : InjectionSome sig names a b applied.first =
    injection-some sig names a b applied.first applied.is_first in
    record {
      pair = says.pair;
      has = injected.has;
      from = outer.first;
      to = inner.first;
      is_from = outer.is_first;
      is_to = inner.is_first;
      at = two-at p outer.second inner.second outer.first inner.first outer.is inner.is;
    }

pub subsort-unique : (sig : Signature) (a b : ℕ) (s t : Sentence) → SaysSubsort sig a b s
    → SaysSubsort sig a b t → s ≡ t
subsort-unique sig a b s t h k = h.says ∙ sym k.says

-- the sorts of the axiom about two injections in a row
pub record CollapseParts (sig : Signature) (names : List Token) (a b c : ℕ) (p : Pattern) : Type 0
  where
    pub lower : IsBelow sig.subsorts a b
    pub upper : IsBelow sig.subsorts b c
    pub has : IsSome (injection_symbol sig)
    pub from : ℕ
    pub through : ℕ
    pub to : ℕ
    pub is_from : sort_image sig names a ≡ Some from
    pub is_through : sort_image sig names b ≡ Some through
    pub is_to : sort_image sig names c ≡ Some to
    pub at : three_sorts p ≡ Some (from, (through, to))

pub collapse-parts : (sig : Signature) (names : List Token) (a b c : ℕ) (p : Pattern)
    → IsImageOf sig names (SaysCollapse sig a b c) p → CollapseParts sig names a b c p
collapse-parts sig names a b c p (s, says, is) =
    let x : Option Pattern = Some (logic.var 0) in
    let left : Option Pattern =
    both logic.app (injection_image sig names b c)
    (both logic.app (injection_image sig names a b) x) in
    let right : Option Pattern = both logic.app (injection_image sig names a c) x in
    let made : both (logic.all 0) (sort_image sig names a) (both logic.equal left right) ≡ Some p =
    ap (sentence_image sig names) (sym says.says) ∙ is in
    let outer = both-some (logic.all 0) (sort_image sig names a) (both logic.equal left right) p made
    in
    let equal = both-some logic.equal left right outer.second outer.is_second in
    let applied = both-some logic.app (injection_image sig names b c)
    (both logic.app (injection_image sig names a b) x) equal.first equal.is_first in
    let injected : InjectionSome sig names b c applied.first =
    injection-some sig names b c applied.first applied.is_first in
    record {
      lower = says.lower;
      upper = says.upper;
      has = injected.has;
      from = outer.first;
      through = injected.from;
      to = injected.to;
      is_from = outer.is_first;
      is_through = injected.is_from;
      is_to = injected.is_to;
      at = three-at p outer.second equal.first equal.second applied.first applied.second
          injected.head outer.first injected.from injected.to outer.is equal.is applied.is
          injected.is;
    }

pub collapse-unique : (sig : Signature) (a b c : ℕ) (s t : Sentence) → SaysCollapse sig a b c s
    → SaysCollapse sig a b c t → s ≡ t
collapse-unique sig a b c s t h k = h.says ∙ sym k.says

-- sorts of which one is below the other

pair-sorts : (sig : Signature) (a b : ℕ) → IsSignature sig → Contains sig.subsorts (a, b)
    → (a < length sig.sorts) × (b < length sig.sorts)
pair-sorts sig a b ok h =
    subst (IsPair sig) h.2 (ok.pairs h.0 (a, b) h.1)

pub below-sorts : (sig : Signature) → IsSignature sig → {a b : ℕ} → IsBelow sig.subsorts a b
    → (a < length sig.sorts) × (b < length sig.sorts)
below-sorts sig ok (by_pair {a = a} {b = b} h) = pair-sorts sig a b ok h
below-sorts sig ok (by_chain {a = a} {b = b} {c = c} h k) =
    ((pair-sorts sig a b ok h).0, (below-sorts sig ok k).1)

-- the only candidates

abbrev pub two : ℕ → ℕ → Option (ℕ × ℕ)
two a b = Some (a, b)

abbrev pub three : ℕ → ℕ → ℕ → Option (ℕ × (ℕ × ℕ))
three a b c = Some (a, (b, c))

pair-same : (sig : Signature) (names : List Token) (a b c d : ℕ) (p : Pattern)
    → two a b ≡ two c d → IsImageOf sig names (SaysSubsort sig c d) p
    → IsImageOf sig names (SaysSubsort sig a b) p
pair-same sig names a b c d p same =
    subst (λ (x : ℕ × ℕ). IsImageOf sig names (SaysSubsort sig x.0 x.1) p)
    (sym (some_same (a, b) (c, d) same))

pub only-subsort : (sig : Signature) (names : List Token) (a b : ℕ) (p : Pattern)
    → ((c d : ℕ) → IsImageOf sig names (SaysSubsort sig c d) p → two a b ≡ two c d)
    → IsImageOf sig names (IsSubsortAxiom sig) p → IsImageOf sig names (SaysSubsort sig a b) p
only-subsort sig names a b p only (s, (c, d, says), is) =
    pair-same sig names a b c d p (only c d (s, says, is)) (s, says, is)

triple-same : (sig : Signature) (names : List Token) (a b c d e f : ℕ) (p : Pattern)
    → three a b c ≡ three d e f → IsImageOf sig names (SaysCollapse sig d e f) p
    → IsImageOf sig names (SaysCollapse sig a b c) p
triple-same sig names a b c d e f p same =
    subst (λ (x : ℕ × (ℕ × ℕ)). IsImageOf sig names (SaysCollapse sig x.0 x.1.0 x.1.1) p)
    (sym (some_same (a, (b, c)) (d, (e, f)) same))

pub only-collapse : (sig : Signature) (names : List Token) (a b c : ℕ) (p : Pattern)
    → ((d e f : ℕ) → IsImageOf sig names (SaysCollapse sig d e f) p
    → three a b c ≡ three d e f)
    → IsImageOf sig names (IsCollapse sig) p → IsImageOf sig names (SaysCollapse sig a b c) p
only-collapse sig names a b c p only (s, (d, e, f, says), is) =
    triple-same sig names a b c d e f p (only d e f (s, says, is)) (s, says, is)
