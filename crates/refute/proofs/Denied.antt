-- What is denied of a pattern and a term, from the parts of theorems.
use Rattle.std.proofs.Common.{◌≡◌, ℕ, [], Some, refl, sym, ◌∙◌, ap, arith}
use Rattle.ml_pat.specs.Patterns.{Pattern}
use Rattle.ml_pat.specs.Patterns as logic
use Rattle.ml_pat.specs.Judgements.{substituted}
use Rattle.ml_kernel.specs.Theorems.{Theorem}
use Rattle.term_core.specs.Terms.{Tree}
use Rattle.term_core.specs.Patterns.{Pattern as RulePattern, variable, ground_pattern}
use Rattle.rule_core.specs.Sorting.{IsTermOf}
use Rattle.ml_image.specs.Sentences.{term, and, not, equals, sentence_image}
use Rattle.prove_term.specs.Contexts.{Context}
use Rattle.prove_term.proofs.ImageShapes.{map_some}
use Rattle.prove_open.specs.Under.{SaysUnder}
use Rattle.prove_open.specs.declared.differences.Difference.TheVariants.{Disjoint, Unequal}
use Rattle.refute.specs.Bindings.{AreTwoBindings, IsDeniedByBoth}
use Rattle.refute.specs.Bindings.{bound_if_common, equals_bound}
use Rattle.refute.specs.Refutations.{SaysSentence, in_common}
use Rattle.refute.specs.Refuting.{Denies}
use Rattle.refute.proofs.Conversions.{disjoint_parts, unequal_parts}
use Rattle.refute.proofs.FreshImages.{image_keeps}
use Rattle.refute.proofs.Pairs.{ground_no_call}
use Rattle.refute.proofs.Shapes.{image_in, IsDisjoint, IsUnequal, AreImplied, implied_shape}
use Rattle.refute.proofs.Shapes.{HaveBoth, both_shape, one_image}

-- a term's image has no variables
pub ground_keeps : (cx : Context) (t : Tree) (sort y : ℕ) (r u : Pattern)
    → IsTermOf cx.program.sig t sort → image_in cx (ground_pattern t) ≡ Some r
    → substituted r y u ≡ Some r
ground_keeps cx t sort y r u is image =
    image_keeps cx.program.sig cx.names [] y (ground_pattern t) sort r u is (ground_no_call t)
    (omega arith) image

-- ---- a denied equation without a hypothesis

pub record IsApart (cx : Context) (p q : RulePattern) (c : Pattern) : Type 0 where
  pub left : Pattern
  pub is_left : image_in cx p ≡ Some left
  pub right : Pattern
  pub is_right : image_in cx q ≡ Some right
  pub says : c ≡ logic.not (logic.equal left right)

pub apart_shape : (cx : Context) (p q : RulePattern) (c : Pattern)
    → SaysSentence cx (not (equals (term p) (term q))) c → IsApart cx p q c
apart_shape cx p q c is =
    let outer : (x : Pattern)
    × (sentence_image cx.program.sig cx.names (equals (term p) (term q)) ≡ Some x)
    × (c ≡ logic.not x) =
    map_some logic.not (sentence_image cx.program.sig cx.names (equals (term p) (term q))) c is in
    let w : HaveBoth logic.equal cx (term p) (term q) outer.0 =
    both_shape logic.equal cx (term p) (term q) outer.0 outer.1 in
    record {
      left = w.left;
      is_left = w.is_left;
      right = w.right;
      is_right = w.is_right;
      says = outer.2 ∙ ap logic.not w.says;
    }

pub apart_said : (cx : Context) (h : Pattern) (p q : RulePattern) (c : Pattern) (t : Theorem)
    → Denies cx h p q (Unequal t) → t.conclusion ≡ logic.imp h c
    → SaysSentence cx (not (equals (term p) (term q))) c
apart_said cx h p q c t denies is =
    let parts : IsUnequal cx h p q t.conclusion =
    (unequal_parts cx h p q (Unequal t) t refl denies).0 in
    rw (parts.is_left, parts.is_right)
    (ap (λ (k : Pattern). Some k) (same h h (logic.not (logic.equal parts.left parts.right)) c
    (sym parts.says ∙ is)))
  where
    same : (h k p q : Pattern) → logic.imp h p ≡ logic.imp k q → p ≡ q
    same h k p q e = cc

-- ---- nothing in common

pub common_said : (cx : Context) (h : Pattern) (p q : RulePattern) (t : Theorem) (c n w b : Pattern)
    → Denies cx h p q (Disjoint t) → t.conclusion ≡ logic.imp n w → w ≡ logic.imp b logic.bot
    → c ≡ logic.imp n (logic.not b) → SaysUnder cx h (not (and (term p) (term q))) c
common_said cx h p q t c n w b denies outer inner is =
    let parts : IsDisjoint cx h p q t.conclusion =
    (disjoint_parts cx h p q (Disjoint t) t refl denies).0 in
    let both : logic.and parts.left parts.right ≡ b =
    third h n (logic.and parts.left parts.right) b
    (sym parts.says ∙ outer ∙ ap (logic.imp n) inner) in
    let first : n ≡ h =
    fourth h n (logic.and parts.left parts.right) b
    (sym parts.says ∙ outer ∙ ap (logic.imp n) inner) in
    record {
      image = logic.not (logic.and parts.left parts.right);
      is_image = rw (parts.is_left, parts.is_right) refl;
      says =
          is ∙ ap (λ (k : Pattern). logic.imp k (logic.not b)) first
          ∙ ap (λ (k : Pattern). logic.imp h (logic.not k)) (sym both);
    }
  where
    third : (h n p q : Pattern)
        → logic.imp h (logic.imp p logic.bot) ≡ logic.imp n (logic.imp q logic.bot) → p ≡ q
    third h n p q e = cc

    fourth : (h n p q : Pattern)
        → logic.imp h (logic.imp p logic.bot) ≡ logic.imp n (logic.imp q logic.bot) → n ≡ h
    fourth h n p q e = cc

-- ---- one variable and two terms

-- the parts of what is bound
record IsBound (cx : Context) (h : Pattern) (x : ℕ) (u : Tree) (p : RulePattern) (t : Tree)
    (c : Pattern) : Type 0 where
  common : Pattern
  is_common : sentence_image cx.program.sig cx.names (in_common p t) ≡ Some common
  image : Pattern
  is_image : image_in cx (ground_pattern u) ≡ Some image
  says : c ≡ logic.imp h (logic.imp common (logic.equal (logic.var x) image))

is_bound : (cx : Context) (h : Pattern) (x : ℕ) (u : Tree) (p : RulePattern) (t : Tree)
    (c : Pattern) → SaysUnder cx h (bound_if_common x u p t) c → IsBound cx h x u p t c
is_bound cx h x u p t c is =
    let w : AreImplied cx h (in_common p t) (equals_bound x u) c =
    implied_shape cx h (in_common p t) (equals_bound x u) c is in
    let e : HaveBoth logic.equal cx (term (variable x)) (term (ground_pattern u)) w.to =
    both_shape logic.equal cx (term (variable x)) (term (ground_pattern u)) w.to w.is_to in
    let left : e.left ≡ logic.var x =
    one_image (image_in cx (variable x)) e.left (logic.var x) e.is_left refl in
    record {
      common = w.from;
      is_common = w.is_from;
      image = e.right;
      is_image = e.is_right;
      says =
          w.says ∙ ap (λ (k : Pattern). logic.imp h (logic.imp w.from k))
          (e.says ∙ ap (λ (k : Pattern). logic.equal k e.right) left);
    }

pub two_bindings_are : (cx : Context) (h : Pattern) (x y : ℕ) (u w : Tree) (sort : ℕ)
    (p : RulePattern) (t : Tree) (one other differ : Pattern)
    → IsTermOf cx.program.sig w sort → SaysUnder cx h (bound_if_common x u p t) one
    → SaysUnder cx h (bound_if_common x w p t) other
    → SaysSentence cx (not (equals (term (ground_pattern u)) (term (ground_pattern w)))) differ
    → AreTwoBindings y one other differ
two_bindings_are cx h x y u w sort p t one other differ is first second apart =
    let a : IsBound cx h x u p t one = is_bound cx h x u p t one first in
    let b : IsBound cx h x w p t other = is_bound cx h x w p t other second in
    let d : IsApart cx (ground_pattern u) (ground_pattern w) differ =
    apart_shape cx (ground_pattern u) (ground_pattern w) differ apart in
    let common : b.common ≡ a.common =
    one_image (sentence_image cx.program.sig cx.names (in_common p t)) b.common a.common
    b.is_common a.is_common in
    let left : d.left ≡ a.image =
    one_image (image_in cx (ground_pattern u)) d.left a.image d.is_left a.is_image in
    let right : d.right ≡ b.image =
    one_image (image_in cx (ground_pattern w)) d.right b.image d.is_right b.is_image in
    record {
      h = h;
      w = a.common;
      x = logic.var x;
      p = a.image;
      q = b.image;
      is_one = a.says;
      is_other =
          b.says
          ∙ ap (λ (k : Pattern). logic.imp h (logic.imp k (logic.equal (logic.var x) b.image)))
          common;
      is_differ =
          d.says ∙ ap (λ (k : Pattern). logic.not (logic.equal k d.right)) left
          ∙ ap (λ (k : Pattern). logic.not (logic.equal a.image k)) right;
      keeps = λ v. ground_keeps cx w sort y b.image v is b.is_image;
    }

pub none_common_said : (cx : Context) (h : Pattern) (x : ℕ) (u : Tree) (p : RulePattern) (t : Tree)
    (one made : Pattern) → SaysUnder cx h (bound_if_common x u p t) one
    → IsDeniedByBoth one made → SaysUnder cx h (not (in_common p t)) made
none_common_said cx h x u p t one made first denied =
    let a : IsBound cx h x u p t one = is_bound cx h x u p t one first in
    record {
      image = logic.not a.common;
      is_image = rw (a.is_common) refl;
      says = denied h a.common (logic.equal (logic.var x) a.image) a.says;
    }
