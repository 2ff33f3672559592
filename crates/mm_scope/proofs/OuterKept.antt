-- What was common where blocks were opened stays common there.
use Rattle.std.proofs.Common.{◌≡◌, true, ℕ, zero, suc, ◌+◌, ◌<◌, ◌≤◌, List, [], ◌∷◌, ◌++◌, length}
use Rattle.std.proofs.Common.{take, refl, ap, sym, subst, ◌∙◌, arith, inl, inr}
use Rattle.std.specs.Prelude.{slice_get, slice_index, slice_set, Option, Some, None, IfSome, ◌⊎◌}
use Rattle.std.specs.Prelude.{Result, Ok, Err, IfOk, is_ok}
use Rattle.std.proofs.lemmas.List.{take-append-le, length-take-le, length-append}
use Rattle.std.proofs.lemmas.Bool.{cases_eq}
use Rattle.std.proofs.Math.Seq.{take-length}
use Rattle.mm_database.specs.Frames.{floating, essential}
use Rattle.mm_frame.specs.Numbered.{NumberedHypothesis}
use Rattle.mm_frame.specs.Grouping.{Extends}
use Rattle.mm_scope.specs.StateSteps.{types_with}
use Rattle.mm_scope.specs.Sharing.{ArePlacedIn, IsCommon, IsOuter, AreOuter}
use Rattle.mm_scope.specs.declared.common.Common.{Common}
use Rattle.mm_scope.specs.declared.scopes.OpenBlock.{OpenBlock}
use Rattle.mm_scope.proofs.MandatoryTrees.{get-last, get-other}

-- other places that are kept

pub common-typed : (old new : List ℕ) (hs : List NumberedHypothesis) (gs : List (List ℕ))
    (o : Option Common) → (ArePlacedIn new hs → ArePlacedIn old hs)
    → IfSome o (IsCommon old hs gs) → IfSome o (IsCommon new hs gs)
common-typed old new hs gs None back is = is
common-typed old new hs gs (Some c) back is = record {
  tree = λ placed. is.tree (back placed);
  pairs = is.pairs;
}

zero-behind : (xs : List ℕ) (v : ℕ) → slice_index (xs ++ 0 ∷ []) v ≡ slice_index xs v
zero-behind [] zero = refl
zero-behind [] (suc v) = refl
zero-behind (x ∷ xs) zero = refl
zero-behind (x ∷ xs) (suc v) = zero-behind xs v

pub placed-symbol : (types : List ℕ) (hs : List NumberedHypothesis)
    → ArePlacedIn (types ++ 0 ∷ []) hs → ArePlacedIn types hs
placed-symbol types hs placed i l k v at = sym (zero-behind types v) ∙ placed i l k v at

set-index : (types : List ℕ) (v x w i : ℕ) → slice_index (slice_set types v x) w ≡ i → ((x ≡ i) → ⊥)
    → slice_index types w ≡ i
set-index [] v x w i e other = e
set-index (t ∷ types) zero x zero i e other = absurd (other e)
set-index (t ∷ types) zero x (suc w) i e other = e
set-index (t ∷ types) (suc v) x zero i e other = e
set-index (t ∷ types) (suc v) x (suc w) i e other = set-index types v x w i e other

get-within : {X : Type 0} (xs : List X) (i : ℕ) (x : X) → slice_get xs i ≡ Some x → i < length xs
get-within [] i x e = absurd (cc)
get-within (y ∷ xs) zero x e = omega arith
get-within (y ∷ xs) (suc i) x e = let less = get-within xs i x e in omega (arith, less)

pub placed-hypothesis : (types : List ℕ) (hs : List NumberedHypothesis) (n : ℕ)
    (h : NumberedHypothesis) → length hs ≤ n → ArePlacedIn (types_with types n h) hs
    → ArePlacedIn types hs
placed-hypothesis types hs n (floating l k v) long placed i m j w at =
    set-index types v n w i (placed i m j w at)
    (λ same. let less = get-within hs i (floating m j w) at in omega (arith, less, long, same))
placed-hypothesis types hs n (essential l s) long placed i m j w at = placed i m j w at

get-before : {X : Type 0} (xs ys : List X) (i : ℕ) (x : X) → slice_get xs i ≡ Some x
    → slice_get (xs ++ ys) i ≡ Some x
get-before [] ys i x e = absurd (cc)
get-before (y ∷ xs) ys zero x e = e
get-before (y ∷ xs) ys (suc i) x e = get-before xs ys i x e

pub placed-before : (types : List ℕ) (hs more : List NumberedHypothesis)
    → ArePlacedIn types (hs ++ more) → ArePlacedIn types hs
placed-before types hs more placed i l k v at =
    placed i l k v (get-before hs more i (floating l k v) at)

-- one more symbol, hypothesis or group

pub outer-kept : (types types' : List ℕ) (hs hs' : List NumberedHypothesis) (gs gs' : List (List ℕ))
    (blocks : List OpenBlock) (outer : List (Option Common)) → length hs ≤ length hs'
    → ((k : ℕ) → k ≤ length hs → take k hs' ≡ take k hs) → length gs ≤ length gs'
    → ((k : ℕ) → k ≤ length gs → take k gs' ≡ take k gs)
    → ((k : ℕ) → k ≤ length hs → ArePlacedIn types' (take k hs) → ArePlacedIn types (take k hs))
    → AreOuter types hs gs blocks outer → AreOuter types' hs' gs' blocks outer
outer-kept types types' hs hs' gs gs' blocks outer longer same longer' same' back are = record {
  long = are.long;
  each = λ i b o at out.
      let one = are.each i b o at out in
      record {
        hyps = let le = one.hyps in omega (arith, le, longer);
        disjoint = let le = one.disjoint in omega (arith, le, longer');
        nested = one.nested;
        common =
            subst (λ (xs : List NumberedHypothesis).
            IfSome o (IsCommon types' xs (take b.disjoint gs')))
            (sym (same b.hyps one.hyps))
            (subst (λ (ys : List (List ℕ)). IfSome o (IsCommon types' (take b.hyps hs) ys))
            (sym (same' b.disjoint one.disjoint))
            (common-typed types types' (take b.hyps hs) (take b.disjoint gs) o
            (back b.hyps one.hyps) one.common));
      };
}

pub outer-symbol : (types : List ℕ) (hs : List NumberedHypothesis) (gs : List (List ℕ))
    (blocks : List OpenBlock) (outer : List (Option Common)) → AreOuter types hs gs blocks outer
    → AreOuter (types ++ 0 ∷ []) hs gs blocks outer
outer-symbol types hs gs blocks outer are =
    outer-kept types (types ++ 0 ∷ []) hs hs gs gs blocks outer (omega arith) (λ k le. refl)
    (omega arith) (λ k le. refl) (λ k le. placed-symbol types (take k hs)) are

pub outer-hypothesis : (types : List ℕ) (hs : List NumberedHypothesis) (h : NumberedHypothesis)
    (gs : List (List ℕ)) (blocks : List OpenBlock) (outer : List (Option Common))
    → AreOuter types hs gs blocks outer
    → AreOuter (types_with types (length hs) h) (hs ++ h ∷ []) gs blocks outer
outer-hypothesis types hs h gs blocks outer are =
    outer-kept types (types_with types (length hs) h) hs (hs ++ h ∷ []) gs gs blocks outer
    (omega (arith, length-append hs (h ∷ []))) (λ k le. take-append-le k hs (h ∷ []) le)
    (omega arith) (λ k le. refl)
    (λ k le. placed-hypothesis types (take k hs) (length hs) h
    (let size = length-take-le k hs le in omega (arith, size, le))) are

take-part : {X : Type 0} (k n : ℕ) (xs : List X) → k ≤ n → take k (take n xs) ≡ take k xs
take-part zero n xs le = refl
take-part (suc k) zero xs le = absurd (omega (arith, le))
take-part (suc k) (suc n) [] le = refl
take-part (suc k) (suc n) (x ∷ xs) le =
    ap (λ (ys : List _). x ∷ ys) (take-part k n xs (omega (arith, le)))

length-part : {X : Type 0} (n : ℕ) (xs ys : List X) → take n xs ≡ ys → n ≡ length ys → n ≤ length xs
length-part zero xs ys is size = omega arith
length-part (suc n) [] ys is size =
    absurd (let none : length ys ≡ 0 = ap length (sym is) in omega (arith, none, size))
length-part (suc n) (x ∷ xs) [] is size = absurd (omega (arith, size))
length-part (suc n) (x ∷ xs) (y ∷ ys) is size =
    let rest = length-part n xs ys (let e : take n xs ≡ ys = cc in e) (omega (arith, size)) in
    omega (arith, rest)

pub outer-group : (types : List ℕ) (hs : List NumberedHypothesis) (gs gs' : List (List ℕ))
    (group : List ℕ) (blocks : List OpenBlock) (outer : List (Option Common))
    → Extends gs group gs' → AreOuter types hs gs blocks outer → AreOuter types hs gs' blocks outer
outer-group types hs gs gs' group blocks outer more are =
    outer-kept types types hs hs gs gs' blocks outer (omega arith) (λ k le. refl)
    (length-part (length gs) gs' gs more.front refl)
    (λ k le. sym (take-part k (length gs) gs' le) ∙ ap (take k) more.front)
    (λ k le placed. placed) are

-- blocks are opened and closed

get-front : {X : Type 0} (xs : List X) (x : X) (i : ℕ) → i < length xs
    → slice_get (xs ++ x ∷ []) i ≡ slice_get xs i
get-front xs x i lt = get-other xs x i (λ e. omega (arith, e, lt))

some-same : {X : Type 0} (x y : X) (o : Option X) → o ≡ Some x → o ≡ Some y → x ≡ y
some-same x y o e f = let both : Some x ≡ Some y = sym e ∙ f in let same : x ≡ y = cc in same

module _ (types : List ℕ) (hs : List NumberedHypothesis) (gs : List (List ℕ))
    (blocks : List OpenBlock) (outer : List (Option Common)) (b : OpenBlock)
    (o : Option Common) where
  get-block : slice_get (blocks ++ b ∷ []) (length blocks) ≡ Some b
  get-block = get-last blocks b

  abbrev Opened : Type 0
  Opened = AreOuter types hs gs (blocks ++ b ∷ []) (outer ++ o ∷ [])

  module _ (size : b.hyps ≡ length hs) (size' : b.disjoint ≡ length gs)
      (is : IfSome o (IsCommon types hs gs)) (are : AreOuter types hs gs blocks outer) where
    more-blocks : (j : ℕ) (d : OpenBlock) → slice_get (blocks ++ b ∷ []) j ≡ Some d
        → ((j < length blocks) × (slice_get blocks j ≡ Some d)) ⊎ ((j ≡ length blocks) × (b ≡ d))
    more-blocks j d at = elim (cases_eq (length blocks) j) [
      | inl same ↦ inr (
        sym same,
        some-same b d (slice_get (blocks ++ b ∷ []) j)
            (ap (slice_get (blocks ++ b ∷ [])) (sym same) ∙ get-block) at,
      )
      | inr other ↦ let there : slice_get blocks j ≡ Some d =
          sym (get-other blocks b j other) ∙ at in inl (get-within blocks j d there, there)
    ]

    opened-last : IsOuter types hs gs (blocks ++ b ∷ []) (length blocks) b o
    opened-last = record {
      hyps = omega (arith, size);
      disjoint = omega (arith, size');
      nested = λ j d le at. elim (more-blocks j d at) [
        | inl low ↦ absurd (let lt : j < length blocks = low.0 in omega (arith, lt, le))
        | inr last ↦ (
          subst (λ (e : OpenBlock). b.hyps ≤ e.hyps) last.1 (omega arith),
          subst (λ (e : OpenBlock). b.disjoint ≤ e.disjoint) last.1 (omega arith),
        )
      ];
      common =
          subst
          (λ (xs : List NumberedHypothesis). IfSome o (IsCommon types xs (take b.disjoint gs)))
          (sym (ap (λ (n : ℕ). take n hs) size ∙ take-length hs))
          (subst (λ (ys : List (List ℕ)). IfSome o (IsCommon types hs ys))
          (sym (ap (λ (n : ℕ). take n gs) size' ∙ take-length gs)) is);
    }

    opened-before : (i : ℕ) (d : OpenBlock) (p : Option Common) → IsOuter types hs gs blocks i d p
        → IsOuter types hs gs (blocks ++ b ∷ []) i d p
    opened-before i d p one = record {
      hyps = one.hyps;
      disjoint = one.disjoint;
      nested = λ j e le at. elim (more-blocks j e at) [
        | inl low ↦ one.nested j e le low.1
        | inr last ↦ (
          subst (λ (x : OpenBlock). d.hyps ≤ x.hyps) last.1
              (let low = one.hyps in omega (arith, low, size)),
          subst (λ (x : OpenBlock). d.disjoint ≤ x.disjoint) last.1
              (let low = one.disjoint in omega (arith, low, size')),
        )
      ];
      common = one.common;
    }

    pub outer-opened : Opened
    outer-opened = record {
      long =
          let same = are.long in
          omega (arith, same, length-append blocks (b ∷ []), length-append outer (o ∷ []));
      each = λ i d p at out. elim (more-blocks i d at) [
        | inl low ↦
            let there : slice_get outer i ≡ Some p =
            sym (get-front outer o i (let same = are.long in
            let lt : i < length blocks = low.0 in omega (arith, same, lt))) ∙ out in
            opened-before i d p (are.each i d p low.1 there)
        | inr last ↦
            let here : length outer ≡ i = are.long ∙ sym last.0 in
            let same : o ≡ p =
            some-same o p (slice_get (outer ++ o ∷ []) i)
            (ap (slice_get (outer ++ o ∷ [])) (sym here) ∙ get-last outer o) out in
            subst (λ (n : ℕ). IsOuter types hs gs (blocks ++ b ∷ []) n d p) (sym last.0)
            (subst (λ (e : OpenBlock). IsOuter types hs gs (blocks ++ b ∷ []) (length blocks) e p)
            last.1
            (subst
            (λ (q : Option Common). IsOuter types hs gs (blocks ++ b ∷ []) (length blocks) b q)
            same opened-last))
      ];
    }

  module _ (are : Opened) where
    same-length : length outer ≡ length blocks
    same-length =
        let same = are.long in
        omega (arith, same, length-append blocks (b ∷ []), length-append outer (o ∷ []))

    closed-last : IsOuter types hs gs (blocks ++ b ∷ []) (length blocks) b o
    closed-last =
        are.each (length blocks) b o get-block
        (ap (slice_get (outer ++ o ∷ [])) (sym same-length) ∙ get-last outer o)

    pub closed-common : IfSome o (IsCommon types (take b.hyps hs) (take b.disjoint gs))
    closed-common = closed-last.common

    pub closed-outer : AreOuter types (take b.hyps hs) (take b.disjoint gs) blocks outer
    closed-outer = record {
      long = same-length;
      each = λ i d p at out.
          let low : i < length blocks = get-within blocks i d at in
          let one =
          are.each i d p (get-before blocks (b ∷ []) i d at)
          (get-before outer (o ∷ []) i p out) in
          let under = one.nested (length blocks) b (omega (arith, low)) get-block in
          record {
            hyps =
                let le : d.hyps ≤ b.hyps = under.0 in
                let is = length-take-le b.hyps hs closed-last.hyps in omega (arith, le, is);
            disjoint =
                let le : d.disjoint ≤ b.disjoint = under.1 in
                let is = length-take-le b.disjoint gs closed-last.disjoint in
                omega (arith, le, is);
            nested = λ j e le there. one.nested j e le (get-before blocks (b ∷ []) j e there);
            common =
                subst (λ (xs : List NumberedHypothesis).
                IfSome p (IsCommon types xs (take d.disjoint (take b.disjoint gs))))
                (sym (take-part d.hyps b.hyps hs under.0))
                (subst (λ (ys : List (List ℕ)). IfSome p (IsCommon types (take d.hyps hs) ys))
                (sym (take-part d.disjoint b.disjoint gs under.1)) one.common);
          };
    }

pub where-ok : {T E : Type 0} (Q : Type 0) (r : Result T E) → is_ok r ≡ true → IfOk r (λ _. Q) → Q
where-ok Q (Ok x) is q = q
where-ok Q (Err e) is q = absurd (cc)
