-- The parts of what is said under a hypothesis.
use Rattle.std.proofs.Common.{◌≡◌, ℕ, List, [], ◌∷◌, Option, Some, length}
use Rattle.std.proofs.Common.{slice_get, refl, sym, ◌∙◌, ap, zero, suc}
use Rattle.ml_pat.specs.Patterns.{Pattern}
use Rattle.ml_pat.specs.Patterns as logic
use Rattle.term_core.specs.Patterns.{Pattern as RulePattern, application}
use Rattle.term_core.specs.Patterns.{injection}
use Rattle.term_core.specs.RulePatterns.{plain_pattern}
use Rattle.term_core.specs.PatternLists.{plain_patterns}
use Rattle.term_core.specs.declared.rule_patterns.RulePat.{RulePat}
use Rattle.ml_image.specs.Images.{both, image_of, sort_image}
use Rattle.ml_image.specs.Sentences.{Sentence, term, symbol, apply, not, and, implies, equals}
use Rattle.ml_image.specs.Sentences.{sentence_image, apply_all, conjunctions}
use Rattle.ml_image.proofs.ImageLaws.{none_some, some_same}
use Rattle.prove_term.specs.Applications.{applied_to}
use Rattle.prove_term.specs.Contexts.{Context}
use Rattle.prove_term.proofs.ImageShapes.{both_some, map_some}
use Rattle.prove_open.specs.Under.{SaysUnder, DeniesUnder, terms, freedom, injectivity, element}

abbrev pub image_in : Context → RulePattern → Option Pattern
image_in cx p = image_of cx.program.sig cx.names p

-- two patterns with images
pub record HaveSides (cx : Context) (p q : RulePattern) : Type 0 where
  pub left : Pattern
  pub is_left : image_in cx p ≡ Some left
  pub right : Pattern
  pub is_right : image_in cx q ≡ Some right

pub one_image : (o : Option Pattern) (p q : Pattern) → o ≡ Some p → o ≡ Some q → p ≡ q
one_image o p q one other = some_same p q (sym one ∙ other)

-- ---- unequal, and nothing in common

pub record IsUnequal (cx : Context) (h : Pattern) (p q : RulePattern) (c : Pattern) : Type 0 where
  pub left : Pattern
  pub is_left : image_in cx p ≡ Some left
  pub right : Pattern
  pub is_right : image_in cx q ≡ Some right
  pub says : c ≡ logic.imp h (logic.not (logic.equal left right))

pub unequal_shape : (cx : Context) (h : Pattern) (p q : RulePattern) (c : Pattern)
    → SaysUnder cx h (not (equals (term p) (term q))) c → IsUnequal cx h p q c
unequal_shape cx h p q c is =
    let outer : (x : Pattern)
    × (both logic.equal (image_in cx p) (image_in cx q) ≡ Some x) × (is.image ≡ logic.not x) =
    map_some logic.not (both logic.equal (image_in cx p) (image_in cx q)) is.image is.is_image in
    let w : (x : Pattern) × (y : Pattern) × (image_in cx p ≡ Some x) × (image_in cx q ≡ Some y)
    × (outer.0 ≡ logic.equal x y) =
    both_some logic.equal (image_in cx p) (image_in cx q) outer.0 outer.1 in
    record {
      left = w.0;
      is_left = w.2;
      right = w.1;
      is_right = w.3;
      says = is.says ∙ ap (logic.imp h) (outer.2 ∙ ap logic.not w.4);
    }

pub unequal_said : (cx : Context) (h : Pattern) (p q : RulePattern) (l r c : Pattern)
    → image_in cx p ≡ Some l → image_in cx q ≡ Some r
    → c ≡ logic.imp h (logic.not (logic.equal l r))
    → SaysUnder cx h (not (equals (term p) (term q))) c
unequal_said cx h p q l r c one other says = record {
  image = logic.not (logic.equal l r);
  is_image = rw (one, other) refl;
  says = says;
}

pub record IsDisjoint (cx : Context) (h : Pattern) (p q : RulePattern) (c : Pattern) : Type 0 where
  pub left : Pattern
  pub is_left : image_in cx p ≡ Some left
  pub right : Pattern
  pub is_right : image_in cx q ≡ Some right
  pub says : c ≡ logic.imp h (logic.imp (logic.and left right) logic.bot)

pub disjoint_shape : (cx : Context) (h : Pattern) (p q : RulePattern) (c : Pattern)
    → DeniesUnder cx h (and (term p) (term q)) c → IsDisjoint cx h p q c
disjoint_shape cx h p q c is =
    let w : (x : Pattern) × (y : Pattern) × (image_in cx p ≡ Some x) × (image_in cx q ≡ Some y)
    × (is.image ≡ logic.and x y) =
    both_some logic.and (image_in cx p) (image_in cx q) is.image is.is_image in
    record {
      left = w.0;
      is_left = w.2;
      right = w.1;
      is_right = w.3;
      says = is.says
          ∙ ap (λ (x : Pattern). logic.imp h (logic.imp x logic.bot)) w.4;
    }

pub disjoint_said : (cx : Context) (h : Pattern) (p q : RulePattern) (l r c : Pattern)
    → image_in cx p ≡ Some l → image_in cx q ≡ Some r
    → c ≡ logic.imp h (logic.imp (logic.and l r) logic.bot)
    → DeniesUnder cx h (and (term p) (term q)) c
disjoint_said cx h p q l r c one other says = record {
  image = logic.and l r;
  is_image = rw (one, other) refl;
  says = says;
}

-- ---- elements

pub record IsElement (cx : Context) (h : Pattern) (p : RulePattern) (sort : ℕ) (c : Pattern)
    : Type 0 where
  pub image : Pattern
  pub is_image : image_in cx p ≡ Some image
  pub number : ℕ
  pub is_number : sort_image cx.program.sig cx.names sort ≡ Some number
  pub says : c ≡ logic.imp h (logic.fun image number)

pub element_shape : (cx : Context) (h : Pattern) (p : RulePattern) (sort : ℕ) (c : Pattern)
    → SaysUnder cx h (element p sort) c → IsElement cx h p sort c
element_shape cx h p sort c is =
    let w : (x : Pattern) × (n : ℕ) × (image_in cx p ≡ Some x)
    × (sort_image cx.program.sig cx.names sort ≡ Some n) × (is.image ≡ logic.fun x n) =
    both_some logic.fun (image_in cx p) (sort_image cx.program.sig cx.names sort) is.image
    is.is_image in
    record {
      image = w.0;
      is_image = w.2;
      number = w.1;
      is_number = w.3;
      says = is.says ∙ ap (logic.imp h) w.4;
    }

-- ---- implications

pub record AreImplied (cx : Context) (h : Pattern) (s r : Sentence) (c : Pattern) : Type 0 where
  pub from : Pattern
  pub is_from : sentence_image cx.program.sig cx.names s ≡ Some from
  pub to : Pattern
  pub is_to : sentence_image cx.program.sig cx.names r ≡ Some to
  pub says : c ≡ logic.imp h (logic.imp from to)

pub implied_shape : (cx : Context) (h : Pattern) (s r : Sentence) (c : Pattern)
    → SaysUnder cx h (implies s r) c → AreImplied cx h s r c
implied_shape cx h s r c is =
    let w : (x : Pattern) × (y : Pattern) × (sentence_image cx.program.sig cx.names s ≡ Some x)
    × (sentence_image cx.program.sig cx.names r ≡ Some y) × (is.image ≡ logic.imp x y) =
    both_some logic.imp (sentence_image cx.program.sig cx.names s)
    (sentence_image cx.program.sig cx.names r) is.image is.is_image in
    record {
      from = w.0;
      is_from = w.2;
      to = w.1;
      is_to = w.3;
      says = is.says ∙ ap (logic.imp h) w.4;
    }

pub implied_said : (cx : Context) (h : Pattern) (s r : Sentence) (l m c : Pattern)
    → sentence_image cx.program.sig cx.names s ≡ Some l
    → sentence_image cx.program.sig cx.names r ≡ Some m
    → c ≡ logic.imp h (logic.imp l m) → SaysUnder cx h (implies s r) c
implied_said cx h s r l m c one other says = record {
  image = logic.imp l m;
  is_image = rw (one, other) refl;
  says = says;
}

-- two images joined by a connective
pub record HaveBoth (f : Pattern → Pattern → Pattern) (cx : Context) (s r : Sentence) (c : Pattern)
    : Type 0 where
  pub left : Pattern
  pub is_left : sentence_image cx.program.sig cx.names s ≡ Some left
  pub right : Pattern
  pub is_right : sentence_image cx.program.sig cx.names r ≡ Some right
  pub says : c ≡ f left right

pub both_shape : (f : Pattern → Pattern → Pattern) (cx : Context) (s r : Sentence) (c : Pattern)
    → both f (sentence_image cx.program.sig cx.names s) (sentence_image cx.program.sig cx.names r)
    ≡ Some c → HaveBoth f cx s r c
both_shape f cx s r c is =
    let w : (x : Pattern) × (y : Pattern) × (sentence_image cx.program.sig cx.names s ≡ Some x)
    × (sentence_image cx.program.sig cx.names r ≡ Some y) × (c ≡ f x y) =
    both_some f (sentence_image cx.program.sig cx.names s)
    (sentence_image cx.program.sig cx.names r) c is in
    record { left = w.0; is_left = w.2; right = w.1; is_right = w.3; says = w.4 }

-- ---- an application to several sentences

-- the images of sentences, in order
abbrev pub HaveImages : Context → List Sentence → List Pattern → Type 0
HaveImages cx [] [] = Unit {0}
HaveImages cx [] (q ∷ qs) = ⊥
HaveImages cx (s ∷ ss) [] = ⊥
HaveImages cx (s ∷ ss) (q ∷ qs) =
    (sentence_image cx.program.sig cx.names s ≡ Some q) × HaveImages cx ss qs

pub record IsAppliedImage (cx : Context) (head : Sentence) (ss : List Sentence) (c : Pattern)
    : Type 0 where
  pub function : Pattern
  pub is_function : sentence_image cx.program.sig cx.names head ≡ Some function
  pub arguments : List Pattern
  pub are_arguments : HaveImages cx ss arguments
  pub says : c ≡ applied_to function arguments

pub applied_shape : (cx : Context) (ss : List Sentence) (head : Sentence) (c : Pattern)
    → sentence_image cx.program.sig cx.names (apply_all head ss) ≡ Some c
    → IsAppliedImage cx head ss c
applied_shape cx [] head c is = record {
  function = c;
  is_function = is;
  arguments = [];
  are_arguments = tt;
  says = refl;
}
applied_shape cx (s ∷ ss) head c is =
    let rest : IsAppliedImage cx (apply head s) ss c = applied_shape cx ss (apply head s) c is in
    let w : HaveBoth logic.app cx head s rest.function =
    both_shape logic.app cx head s rest.function rest.is_function in
    record {
      function = w.left;
      is_function = w.is_left;
      arguments = w.right ∷ rest.arguments;
      are_arguments = (w.is_right, rest.are_arguments);
      says = rest.says ∙ ap (λ (f : Pattern). applied_to f rest.arguments) w.says;
    }

pub as_many_images : (cx : Context) (ss : List Sentence) (qs : List Pattern) → HaveImages cx ss qs
    → length ss ≡ length qs
as_many_images cx [] [] h = refl
as_many_images cx [] (q ∷ qs) h = absurd h
as_many_images cx (s ∷ ss) [] h = absurd h
as_many_images cx (s ∷ ss) (q ∷ qs) h = ap suc (as_many_images cx ss qs h.1)

-- the image of what two arguments have in common, by their number
pub common_at : (cx : Context) (ps qs : List RulePat) (i : ℕ) (p q : RulePat) (cs : List Pattern)
    → HaveImages cx (conjunctions (terms (plain_patterns ps)) (terms (plain_patterns qs))) cs
    → slice_get ps i ≡ Some p → slice_get qs i ≡ Some q
    → (c : Pattern) × (slice_get cs i ≡ Some c)
    × (sentence_image cx.program.sig cx.names
    (and (term (plain_pattern p)) (term (plain_pattern q))) ≡ Some c)
common_at cx [] qs i p q cs h one other = absurd (none_some p one)
common_at cx (r ∷ ps) [] i p q cs h one other = absurd (none_some q other)
common_at cx (r ∷ ps) (s ∷ qs) i p q [] h one other = absurd h
common_at cx (r ∷ ps) (s ∷ qs) zero p q (c ∷ cs) h one other = (
  c,
  refl,
  ap (λ (u : RulePat). sentence_image cx.program.sig cx.names
      (and (term (plain_pattern u)) (term (plain_pattern q)))) (sym (some_same r p one))
      ∙ ap (λ (u : RulePat). sentence_image cx.program.sig cx.names
      (and (term (plain_pattern r)) (term (plain_pattern u)))) (sym (some_same s q other))
      ∙ h.0,
)
common_at cx (r ∷ ps) (s ∷ qs) (suc i) p q (c ∷ cs) h one other =
    common_at cx ps qs i p q cs h.1 one other

pub as_many_common : (ps qs : List RulePat) → length ps ≡ length qs
    → length (conjunctions (terms (plain_patterns ps)) (terms (plain_patterns qs))) ≡ length ps
as_many_common [] qs h = refl
as_many_common (p ∷ ps) [] h = absurd (go h)
  where
    go : suc (length ps) ≡ 0 → ⊥
    go h = cc
as_many_common (p ∷ ps) (q ∷ qs) h = ap suc (as_many_common ps qs (go h))
  where
    go : suc (length ps) ≡ suc (length qs) → length ps ≡ length qs
    go h = cc

-- ---- what was read of an implication under a hypothesis

pub record IsRead (h from to k n w : Pattern) : Type 0 where
  pub first : k ≡ h
  pub second : n ≡ from
  pub third : w ≡ to

left_same : (p q r s : Pattern) → logic.imp p q ≡ logic.imp r s → p ≡ r
left_same p q r s h = cc

right_same : (p q r s : Pattern) → logic.imp p q ≡ logic.imp r s → q ≡ s
right_same p q r s h = cc

pub implication_read : (c h from to k m n w : Pattern) → c ≡ logic.imp h (logic.imp from to)
    → c ≡ logic.imp k m → m ≡ logic.imp n w → IsRead h from to k n w
implication_read c h from to k m n w is outer inner =
    let both : logic.imp n w ≡ logic.imp from to =
    sym inner ∙ right_same k m h (logic.imp from to) (sym outer ∙ is) in
    record {
      first = left_same k m h (logic.imp from to) (sym outer ∙ is);
      second = left_same n w from to both;
      third = right_same n w from to both;
    }

-- ---- injections

pub record IsInjective (cx : Context) (a b : ℕ) (p q : RulePattern) (h c : Pattern) : Type 0 where
  pub left : Pattern
  pub is_left : image_in cx p ≡ Some left
  pub right : Pattern
  pub is_right : image_in cx q ≡ Some right
  pub first : Pattern
  pub is_first : image_in cx (injection a b p) ≡ Some first
  pub second : Pattern
  pub is_second : image_in cx (injection a b q) ≡ Some second
  pub says : c ≡ logic.imp h (logic.imp (logic.equal first second) (logic.equal left right))

pub injective_shape : (cx : Context) (a b : ℕ) (p q : RulePattern) (h c : Pattern)
    → SaysUnder cx h (injectivity a b p q) c → IsInjective cx a b p q h c
injective_shape cx a b p q h c is =
    let w : AreImplied cx h (equals (term (injection a b p)) (term (injection a b q)))
    (equals (term p) (term q)) c =
    implied_shape cx h (equals (term (injection a b p)) (term (injection a b q)))
    (equals (term p) (term q)) c is in
    let from : HaveBoth logic.equal cx (term (injection a b p)) (term (injection a b q)) w.from =
    both_shape logic.equal cx (term (injection a b p)) (term (injection a b q)) w.from w.is_from in
    let to : HaveBoth logic.equal cx (term p) (term q) w.to =
    both_shape logic.equal cx (term p) (term q) w.to w.is_to in
    record {
      left = to.left;
      is_left = to.is_left;
      right = to.right;
      is_right = to.is_right;
      first = from.left;
      is_first = from.is_left;
      second = from.right;
      is_second = from.is_right;
      says = w.says ∙ ap (λ (x : Pattern). logic.imp h (logic.imp x w.to)) from.says
          ∙ ap (λ (x : Pattern).
          logic.imp h (logic.imp (logic.equal from.left from.right) x)) to.says;
    }

-- ---- what was read of a denied equation under a hypothesis

pub record IsDenied (h left right k n : Pattern) : Type 0 where
  pub first : k ≡ h
  pub second : n ≡ logic.not (logic.equal left right)

pub denial_read : (c h left right k n : Pattern)
    → c ≡ logic.imp h (logic.not (logic.equal left right)) → c ≡ logic.imp k n
    → IsDenied h left right k n
denial_read c h left right k n is outer = record {
  first = left_same k n h (logic.not (logic.equal left right)) (sym outer ∙ is);
  second = right_same k n h (logic.not (logic.equal left right)) (sym outer ∙ is);
}

pub not_same : (p q : Pattern) → logic.not p ≡ logic.not q → p ≡ q
not_same p q h = cc

pub record AreSame (p q r s : Pattern) : Type 0 where
  pub left : p ≡ r
  pub right : q ≡ s

pub equation_read : (p q r s : Pattern) → logic.equal p q ≡ logic.equal r s → AreSame p q r s
equation_read p q r s h = record {
  left = let e : p ≡ r = cc in e;
  right = let e : q ≡ s = cc in e;
}

-- ---- constructors

pub record IsFree (cx : Context) (f : ℕ) (ps qs : List RulePat) (h c : Pattern) : Type 0 where
  pub first : Pattern
  pub is_first : image_in cx (application f (plain_patterns ps)) ≡ Some first
  pub second : Pattern
  pub is_second : image_in cx (application f (plain_patterns qs)) ≡ Some second
  pub function : Pattern
  pub arguments : List Pattern
  pub are_arguments : HaveImages cx
      (conjunctions (terms (plain_patterns ps)) (terms (plain_patterns qs))) arguments
  pub says : c
      ≡ logic.imp h (logic.imp (logic.and first second) (applied_to function arguments))

pub free_shape : (cx : Context) (f : ℕ) (ps qs : List RulePat) (h c : Pattern)
    → SaysUnder cx h (freedom f (plain_patterns ps) (plain_patterns qs)) c
    → IsFree cx f ps qs h c
free_shape cx f ps qs h c is =
    let ss : List Sentence =
    conjunctions (terms (plain_patterns ps)) (terms (plain_patterns qs)) in
    let one : Sentence = term (application f (plain_patterns ps)) in
    let other : Sentence = term (application f (plain_patterns qs)) in
    let w : AreImplied cx h (and one other) (apply_all (symbol f) ss) c =
    implied_shape cx h (and one other) (apply_all (symbol f) ss) c is in
    let from : HaveBoth logic.and cx one other w.from =
    both_shape logic.and cx one other w.from w.is_from in
    let to : IsAppliedImage cx (symbol f) ss w.to =
    applied_shape cx ss (symbol f) w.to w.is_to in
    record {
      first = from.left;
      is_first = from.is_left;
      second = from.right;
      is_second = from.is_right;
      function = to.function;
      arguments = to.arguments;
      are_arguments = to.are_arguments;
      says = w.says ∙ ap (λ (x : Pattern). logic.imp h (logic.imp x w.to)) from.says
          ∙ ap (λ (x : Pattern).
          logic.imp h (logic.imp (logic.and from.left from.right) x)) to.says;
    }

pub outer_read : (c h t k m : Pattern) → c ≡ logic.imp h t → c ≡ logic.imp k m → k ≡ h
outer_read c h t k m is read = left_same k m h t (sym read ∙ is)

pub inner_read : (c h t k m : Pattern) → c ≡ logic.imp h t → c ≡ logic.imp k m → m ≡ t
inner_read c h t k m is read = right_same k m h t (sym read ∙ is)
