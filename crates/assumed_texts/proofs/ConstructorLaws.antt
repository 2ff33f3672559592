-- Each axiom about constructors belongs to one sentence, and has an image if it is one.
use Rattle.std.proofs.Common.{◌≡◌, ◌≢◌, ◌<◌, ℕ, List, [], ◌∷◌, ◌++◌, length, map, Option, Some, None, refl, option_map}
use Rattle.std.proofs.Common.{sym, ap, ◌∙◌, subst, false}
use Rattle.std.proofs.Common.{Bool, true, arith, nat_eq}
use Rattle.std.proofs.Common as bool
use Rattle.std.proofs.lemmas.Bool.{false≢true}
use Rattle.std.proofs.lemmas.Bool.Decides.{nat_tests}
use Rattle.std.specs.Prelude.{◌↔◌, ◌==◌, IsTrue, slice_get}
use Rattle.std.proofs.lemmas.List.{length-map}
use Rattle.mm_text.specs.Bytes.{Token}
use Rattle.ml_pat.specs.Patterns.{Pattern}
use Rattle.term_core.specs.Patterns.{variable}
use Rattle.rule_core.specs.Sorting.{IsSymbol}
use Rattle.rule_core.specs.declared.signature.Signature.{Signature}
use Rattle.rule_core.specs.declared.signature.SymInfo.{SymInfo}
use Rattle.rule_core.specs.declared.signature.SortRef.{SortRef}
use Rattle.rule_core.specs.declared.signature.SortRef.TheVariants.{Param, Sort}
use Rattle.ml_image.specs.Sentences.{Sentence, IsImageOf, term, symbol, not, and, implies, equals}
use Rattle.ml_image.specs.Sentences.{exists, for_all, variables, apply_all, conjunctions}
use Rattle.ml_image.specs.OwnAxioms.{SaysTotal, SaysApart, SaysFree, of_variables, sort_numbered}
use Rattle.ml_image.specs.OwnAxioms.{Declares, IsConstructor}
use Rattle.ml_image.specs.HasImages.{HasTotality, HasDifference, HasFreedom, MakesTerms}
use Rattle.ml_image.proofs.ImageLaws.{some_same, none_some}
use Rattle.assumed_texts.specs.Kinds.{IsTotality, IsDifference, IsFreedom}
use Rattle.assumed_texts.specs.Shapes.{right_side}
use Rattle.assumed_texts.proofs.LeadingLaws.{total-leads, free-leads, apart-leads, apart-right}
use Rattle.assumed_texts.specs.Constructors.{IsCtor, HaveOneSort, Leads}

-- ---- one declaration

pub same-info : (sig : Signature) (f : ℕ) (i j : SymInfo) → IsSymbol sig f i → IsSymbol sig f j
    → i ≡ j
same-info sig f i j h k =
    ap (λ (e : List ℕ × SymInfo). e.1) (some_same (h.0, i) (k.0, j) (sym h.1 ∙ k.1))

abbrev number_of : SortRef → ℕ
number_of (Param i) = 0
number_of (Sort s) = s.0

numbers-back : (sorts : List ℕ) → map number_of (map sort_numbered sorts) ≡ sorts
numbers-back [] = refl
numbers-back (s ∷ sorts) = ap (λ (ss : List ℕ). s ∷ ss) (numbers-back sorts)

pub same-sorts : (sig : Signature) (f : ℕ) (i j : SymInfo) (ss ts : List ℕ) (s t : ℕ)
    → Declares sig f i ss s → Declares sig f j ts t → (ss ≡ ts) × (s ≡ t)
same-sorts sig f i j ss ts s t h k =
    let e : i ≡ j = same-info sig f i j h.there k.there in (
      sym (numbers-back ss)
          ∙ ap (map number_of) (sym h.takes ∙ ap (λ (x : SymInfo). x.args.items) e ∙ k.takes)
          ∙ numbers-back ts,
      ap number_of (sym h.makes ∙ ap (λ (x : SymInfo). x.result) e ∙ k.makes),
    )

-- ---- one sentence

abbrev total_of : ℕ → List ℕ → ℕ → Sentence
total_of f sorts sort =
    for_all 0 sorts
    (exists (length sorts) sort
    (equals (term (variable (length sorts))) (of_variables f 0 (length sorts))))

pub total-unique : (sig : Signature) (f : ℕ) (s t : Sentence) → SaysTotal sig f s
    → SaysTotal sig f t → s ≡ t
total-unique sig f s t h k =
    let e : (h.sorts ≡ k.sorts) × (h.sort ≡ k.sort) =
    same-sorts sig f h.info k.info h.sorts k.sorts h.sort k.sort h.constructs.0 k.constructs.0 in
    h.says ∙ ap (λ (ss : List ℕ). total_of f ss h.sort) e.0
    ∙ ap (λ (x : ℕ). total_of f k.sorts x) e.1 ∙ sym k.says

abbrev apart_of : ℕ → ℕ → List ℕ → List ℕ → Sentence
apart_of f g sorts others =
    for_all 0 (sorts ++ others)
    (not (and (of_variables f 0 (length sorts)) (of_variables g (length sorts) (length others))))

pub apart-unique : (sig : Signature) (f g : ℕ) (s t : Sentence) → SaysApart sig f g s
    → SaysApart sig f g t → s ≡ t
apart-unique sig f g s t h k =
    let d = same-sorts sig f h.info k.info h.sorts k.sorts h.sort k.sort h.first.0 k.first.0 in
    let e = same-sorts sig g h.other k.other h.others k.others h.sort k.sort h.second.0 k.second.0 in
    h.says ∙ ap (λ (ss : List ℕ). apart_of f g ss h.others) d.0
    ∙ ap (λ (ss : List ℕ). apart_of f g k.sorts ss) e.0 ∙ sym k.says

abbrev free_of : ℕ → List ℕ → Sentence
free_of f sorts =
    let n : ℕ = length sorts in for_all 0 (sorts ++ sorts)
    (implies (and (of_variables f 0 n) (of_variables f n n))
    (apply_all (symbol f) (conjunctions (variables 0 n) (variables n n))))

pub free-unique : (sig : Signature) (f : ℕ) (s t : Sentence) → SaysFree sig f s → SaysFree sig f t
    → s ≡ t
free-unique sig f s t h k =
    let d = same-sorts sig f h.info k.info h.sorts k.sorts h.sort k.sort h.constructs.0
    k.constructs.0 in
    h.says ∙ ap (free_of f) d.0 ∙ sym k.says

-- ---- the images exist

-- what a constructor makes, by another declaration of it
makes-same : (sig : Signature) (f : ℕ) (info : SymInfo) (sorts : List ℕ) (sort : ℕ)
    → HasTotality sig f → IsConstructor sig f info sorts sort → MakesTerms sig f info sorts sort
makes-same sig f info sorts sort (i, ss, s, makes) constructs =
    let e : (ss ≡ sorts) × (s ≡ sort) =
    same-sorts sig f i info ss sorts s sort makes.constructs.0 constructs.0 in
    record {
      constructs = constructs;
      are_sorts = rw (sym e.0, sym e.1) makes.are_sorts;
      few = subst (λ (x : List ℕ). length x < 2147483648) e.0 makes.few;
    }

pub free-has : (sig : Signature) (f : ℕ) (s : Sentence) → HasTotality sig f → SaysFree sig f s
    → HasFreedom sig f
free-has sig f s h says = record {
  info = says.info;
  sorts = says.sorts;
  sort = says.sort;
  makes = makes-same sig f says.info says.sorts says.sort h says.constructs;
  no_ac = says.no_ac;
  some = says.some;
}

pub apart-has : (sig : Signature) (f g : ℕ) (s : Sentence) → HasTotality sig f → HasTotality sig g
    → SaysApart sig f g s → HasDifference sig f g
apart-has sig f g s h k says = record {
  differ = says.differ;
  info = says.info;
  other = says.other;
  sorts = says.sorts;
  others = says.others;
  sort = says.sort;
  first = makes-same sig f says.info says.sorts says.sort h says.first;
  second = makes-same sig g says.other says.others says.sort k says.second;
  no_ac = says.no_ac;
}

-- ---- they are constructors

pub total-ctor : (sig : Signature) (f : ℕ) (s : Sentence) → SaysTotal sig f s → IsCtor sig f
total-ctor sig f s says = (says.info, says.constructs.0.there, says.constructs.1)

pub free-ctor : (sig : Signature) (f : ℕ) (s : Sentence) → SaysFree sig f s → IsCtor sig f
free-ctor sig f s says = (says.info, says.constructs.0.there, says.constructs.1)

pub apart-ctors : (sig : Signature) (f g : ℕ) (s : Sentence) → SaysApart sig f g s
    → IsCtor sig f × IsCtor sig g
apart-ctors sig f g s says = (
  (says.info, says.first.0.there, says.first.1),
  (says.other, says.second.0.there, says.second.1),
)

-- ---- what is tested of declarations

pub freedom-of : (sig : Signature) (f : ℕ) (info : SymInfo) → HasTotality sig f
    → IsSymbol sig f info → info.ac ≡ false → 0 < length info.args.items → HasFreedom sig f
freedom-of sig f info (i, ss, s, makes) there no_ac some =
    let e : i ≡ info = same-info sig f i info makes.constructs.0.there there in
    record {
      info = i;
      sorts = ss;
      sort = s;
      makes = makes;
      no_ac = ap (λ (x : SymInfo). x.ac) e ∙ no_ac;
      some = subst (λ (n : ℕ). 0 < n)
          (ap (λ (x : SymInfo). length x.args.items) (sym e)
          ∙ ap (λ (rs : List SortRef). length rs) makes.constructs.0.takes
          ∙ length-map ss sort_numbered) some;
    }

pub of-freedom : (sig : Signature) (f : ℕ) (info : SymInfo) → HasFreedom sig f
    → IsSymbol sig f info → (info.ac ≡ false) × (0 < length info.args.items)
of-freedom sig f info h there =
    let e : h.info ≡ info = same-info sig f h.info info h.makes.constructs.0.there there in (
      ap (λ (x : SymInfo). x.ac) (sym e) ∙ h.no_ac,
      subst (λ (n : ℕ). 0 < n)
          (sym (length-map h.sorts sort_numbered)
          ∙ ap (λ (rs : List SortRef). length rs) (sym h.makes.constructs.0.takes)
          ∙ ap (λ (x : SymInfo). length x.args.items) e) h.some,
    )

same-made : (sig : Signature) (f : ℕ) (info : SymInfo) (sort s : ℕ) (i : SymInfo) (ss : List ℕ)
    → MakesTerms sig f i ss s → IsSymbol sig f info → info.result ≡ sort_numbered sort → s ≡ sort
same-made sig f info sort s i ss makes there is =
    let e : i ≡ info = same-info sig f i info makes.constructs.0.there there in
    ap number_of (sym makes.constructs.0.makes ∙ ap (λ (x : SymInfo). x.result) e ∙ is)

pub difference-of : (sig : Signature) (f g : ℕ) (info other : SymInfo) → HasTotality sig f
    → HasTotality sig g → IsSymbol sig f info → IsSymbol sig g other → f ≢ g → info.ac ≡ false
    → other.ac ≡ false → HaveOneSort info other → HasDifference sig f g
difference-of sig f g info other (i, ss, s, one) (j, ts, t, two) there there' differ plain plain'
    (sort, is, is') =
    let e : i ≡ info = same-info sig f i info one.constructs.0.there there in
    let d : j ≡ other = same-info sig g j other two.constructs.0.there there' in
    let es : s ≡ sort = same-made sig f info sort s i ss one there is in
    let et : t ≡ sort = same-made sig g other sort t j ts two there' is' in
    record {
      differ = differ;
      info = i;
      other = j;
      sorts = ss;
      others = ts;
      sort = s;
      first = one;
      second = subst (λ (x : ℕ). MakesTerms sig g j ts x) (et ∙ sym es) two;
      no_ac = (ap (λ (x : SymInfo). x.ac) e ∙ plain, ap (λ (x : SymInfo). x.ac) d ∙ plain');
    }

pub record OfDifference (sig : Signature) (f g : ℕ) (info other : SymInfo) : Type 0 where
  pub differ : f ≢ g
  pub no_ac : info.ac ≡ false
  pub no_other : other.ac ≡ false
  pub one_sort : HaveOneSort info other

pub of-difference : (sig : Signature) (f g : ℕ) (info other : SymInfo) → HasDifference sig f g
    → IsSymbol sig f info → IsSymbol sig g other → OfDifference sig f g info other
of-difference sig f g info other h there there' =
    let e : h.info ≡ info = same-info sig f h.info info h.first.constructs.0.there there in
    let d : h.other ≡ other = same-info sig g h.other other h.second.constructs.0.there there' in
    record {
      differ = h.differ;
      no_ac = ap (λ (x : SymInfo). x.ac) (sym e) ∙ h.no_ac.0;
      no_other = ap (λ (x : SymInfo). x.ac) (sym d) ∙ h.no_ac.1;
      one_sort = (
        h.sort,
        ap (λ (x : SymInfo). x.result) (sym e) ∙ h.first.constructs.0.makes,
        ap (λ (x : SymInfo). x.result) (sym d) ∙ h.second.constructs.0.makes,
      );
    }

-- ---- the only candidates

pub only-total : (sig : Signature) (names : List Token) (f : ℕ) (p : Pattern)
    → ((g : ℕ) → Leads sig names g p → IsCtor sig g → Some f ≡ Some g)
    → IsImageOf sig names (IsTotality sig) p → IsImageOf sig names (SaysTotal sig f) p
only-total sig names f p only (s, (g, says), is) =
    subst (λ (x : ℕ). IsImageOf sig names (SaysTotal sig x) p)
    (sym (some_same f g (only g (total-leads sig names g p (s, says, is))
    (total-ctor sig g s says)))) (s, says, is)

pub no-total : (sig : Signature) (names : List Token) (p : Pattern) (o : Option ℕ) → o ≡ None
    → ((g : ℕ) → Leads sig names g p → IsCtor sig g → o ≡ Some g)
    → IsImageOf sig names (IsTotality sig) p → ⊥
no-total sig names p o none only (s, (g, says), is) =
    none_some g (sym none ∙ only g (total-leads sig names g p (s, says, is))
    (total-ctor sig g s says))

pub only-free : (sig : Signature) (names : List Token) (f : ℕ) (p : Pattern)
    → ((g : ℕ) → Leads sig names g p → IsCtor sig g → Some f ≡ Some g)
    → IsImageOf sig names (IsFreedom sig) p → IsImageOf sig names (SaysFree sig f) p
only-free sig names f p only (s, (g, says), is) =
    subst (λ (x : ℕ). IsImageOf sig names (SaysFree sig x) p)
    (sym (some_same f g (only g (free-leads sig names g p (s, says, is))
    (free-ctor sig g s says)))) (s, says, is)

pub no-free : (sig : Signature) (names : List Token) (p : Pattern) (o : Option ℕ) → o ≡ None
    → ((g : ℕ) → Leads sig names g p → IsCtor sig g → o ≡ Some g)
    → IsImageOf sig names (IsFreedom sig) p → ⊥
no-free sig names p o none only (s, (g, says), is) =
    none_some g (sym none ∙ only g (free-leads sig names g p (s, says, is))
    (free-ctor sig g s says))

pub not-free : (sig : Signature) (names : List Token) (f : ℕ) (p : Pattern) → HasTotality sig f
    → (HasFreedom sig f → ⊥) → IsImageOf sig names (SaysFree sig f) p → ⊥
not-free sig names f p total none (s, says, is) = none (free-has sig f s total says)

pub only-apart : (sig : Signature) (names : List Token) (f g : ℕ) (p : Pattern)
    → ((h : ℕ) → Leads sig names h p → IsCtor sig h → Some f ≡ Some h)
    → ((h : ℕ) → Leads sig names h (right_side p) → IsCtor sig h → Some g ≡ Some h)
    → IsImageOf sig names (IsDifference sig) p → IsImageOf sig names (SaysApart sig f g) p
only-apart sig names f g p one two (s, (h, k, says), is) =
    let i : IsImageOf sig names (SaysApart sig h k) p = (s, says, is) in
    let e : f ≡ h =
    some_same f h (one h (apart-leads sig names h k p i) (apart-ctors sig h k s says).0) in
    let d : g ≡ k =
    some_same g k (two k (apart-right sig names h k p i) (apart-ctors sig h k s says).1) in
    subst (λ (x : ℕ). IsImageOf sig names (SaysApart sig x g) p) (sym e)
    (subst (λ (x : ℕ). IsImageOf sig names (SaysApart sig h x) p) (sym d) i)

pub no-first : (sig : Signature) (names : List Token) (p : Pattern) (o : Option ℕ) → o ≡ None
    → ((g : ℕ) → Leads sig names g p → IsCtor sig g → o ≡ Some g)
    → IsImageOf sig names (IsDifference sig) p → ⊥
no-first sig names p o none only (s, (h, k, says), is) =
    none_some h (sym none ∙ only h (apart-leads sig names h k p (s, says, is))
    (apart-ctors sig h k s says).0)

pub no-second : (sig : Signature) (names : List Token) (p : Pattern) (o : Option ℕ) → o ≡ None
    → ((g : ℕ) → Leads sig names g (right_side p) → IsCtor sig g → o ≡ Some g)
    → IsImageOf sig names (IsDifference sig) p → ⊥
no-second sig names p o none only (s, (h, k, says), is) =
    none_some k (sym none ∙ only k (apart-right sig names h k p (s, says, is))
    (apart-ctors sig h k s says).1)

pub not-apart : (sig : Signature) (names : List Token) (f g : ℕ) (p : Pattern)
    → HasTotality sig f → HasTotality sig g → (HasDifference sig f g → ⊥)
    → IsImageOf sig names (SaysApart sig f g) p → ⊥
not-apart sig names f g p one two none (s, says, is) = none (apart-has sig f g s one two says)

-- ---- tests

pub some-of : (b : Bool) (n m : ℕ) → b ≡ (n == 0) → n ≡ m → IsTrue (bool.not b) ↔ (0 < m)
some-of b n m is same = (λ t. go b is t, λ lt. back b is lt)
  where
    go : (c : Bool) → c ≡ (n == 0) → IsTrue (bool.not c) → 0 < m
    go true e t = absurd (false≢true t)
    go false e t = grind (arith, nat_tests, e, same)

    back : (c : Bool) → c ≡ (n == 0) → 0 < m → IsTrue (bool.not c)
    back true e lt = absurd (grind (arith, nat_tests, e, same, lt))
    back false e lt = refl

pub one-sort : (one other : SymInfo) (a b : ℕ) (r : Bool) → one.result ≡ sort_numbered a
    → other.result ≡ sort_numbered b → r ≡ nat_eq a b → IsTrue r ↔ HaveOneSort one other
one-sort one other a b r is is' test = (λ t. go t, λ h. back h)
  where
    go : IsTrue r → HaveOneSort one other
    go t =
        let e : a ≡ b = grind (arith, nat_tests, sym test ∙ t) in
        (a, is, is' ∙ ap sort_numbered (sym e))

    back : HaveOneSort one other → IsTrue r
    back (s, h, k) =
        let e : a ≡ s = ap number_of (sym is ∙ h) in
        let d : b ≡ s = ap number_of (sym is' ∙ k) in
        test ∙ grind (arith, nat_tests, e ∙ sym d)

-- a declaration that was found
pub found-there : (sig : Signature) (f : ℕ) (info : SymInfo)
    → Some info ≡ option_map (λ (e : List ℕ × SymInfo). e.1) (slice_get sig.symbols f)
    → IsSymbol sig f info
found-there sig f info h = go (slice_get sig.symbols f) refl h
  where
    go : (o : Option (List ℕ × SymInfo)) → slice_get sig.symbols f ≡ o
        → Some info ≡ option_map (λ (e : List ℕ × SymInfo). e.1) o → IsSymbol sig f info
    go None is k = absurd (none_some info (sym k))
    go (Some e) is k =
        (e.0, is ∙ ap (λ (i : SymInfo). Some (e.0, i)) (sym (some_same info e.1 k)))
