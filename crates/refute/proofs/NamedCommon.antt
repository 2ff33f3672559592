-- What holds of a pattern with the names of its parts, from what holds of it without them.
use Rattle.std.proofs.Common.{◌≡◌, [], ◌∷◌, Some, refl, sym, ◌∙◌, ap, subst}
use Rattle.ml_pat.specs.Patterns.{Pattern}
use Rattle.ml_pat.specs.Patterns as logic
use Rattle.ml_kernel.specs.Theorems.{Theorem}
use Rattle.ml_derived.specs.Scopes.{Scope, IsOver, StaysWithin}
use Rattle.term_core.specs.Terms.{Tree}
use Rattle.term_core.specs.Patterns.{Pattern as RulePattern, ground_pattern}
use Rattle.ml_image.specs.Sentences.{Sentence, term, and, not, implies, top, sentence_image}
use Rattle.prove_term.specs.Contexts.{Context, HasContext, StaysIn}
use Rattle.prove_term.proofs.ImageShapes.{map_some}
use Rattle.prove_open.specs.Under.{SaysUnder}
use Rattle.refute.specs.Bindings.{IsInverting}
use Rattle.refute.specs.Dropping.{Implies, AreDroppable, AreDroppableDenial}
use Rattle.refute.specs.Dropping.{IsOfNamed, IsDenialOfNamed}
use Rattle.refute.specs.Refutations.{in_common}
use Rattle.refute.proofs.Shapes.{image_in, one_image, AreImplied, implied_shape, implied_said}
use Rattle.refute.proofs.Shapes.{HaveBoth, both_shape}

-- ---- what follows

-- the parts of what follows from the pattern and the term
record IsFollowing (cx : Context) (h : Pattern) (q : RulePattern) (t : Tree) (e : Sentence)
    (c : Pattern) : Type 0 where
  left : Pattern
  is_left : image_in cx q ≡ Some left
  right : Pattern
  is_right : image_in cx (ground_pattern t) ≡ Some right
  to : Pattern
  is_to : sentence_image cx.program.sig cx.names e ≡ Some to
  says : c ≡ logic.imp h (logic.imp (logic.and left right) to)

following : (cx : Context) (h : Pattern) (q : RulePattern) (t : Tree) (e : Sentence) (c : Pattern)
    → SaysUnder cx h (implies (in_common q t) e) c → IsFollowing cx h q t e c
following cx h q t e c says =
    let w : AreImplied cx h (in_common q t) e c = implied_shape cx h (in_common q t) e c says in
    let both : HaveBoth logic.and cx (term q) (term (ground_pattern t)) w.from =
    both_shape logic.and cx (term q) (term (ground_pattern t)) w.from w.is_from in
    record {
      left = both.left;
      is_left = both.is_left;
      right = both.right;
      is_right = both.is_right;
      to = w.to;
      is_to = w.is_to;
      says = w.says ∙ ap (λ (k : Pattern). logic.imp h (logic.imp k w.to)) both.says;
    }

-- the theorem implies the image of the pattern
to_left : (cx : Context) (s : Sentence) (q : RulePattern) (drop : Theorem) (left : Pattern)
    (is : Implies cx s (term q) drop) → image_in cx q ≡ Some left
    → drop.conclusion ≡ logic.imp is.from left
to_left cx s q drop left is image =
    is.says ∙ ap (logic.imp is.from) (one_image (image_in cx q) is.to left is.is_to image)

pub droppable : (cx : Context) (h : Pattern) (q : RulePattern) (t : Tree) (e s : Sentence)
    (one : Pattern) (drop : Theorem) → SaysUnder cx h (implies (in_common q t) e) one
    → Implies cx s (term q) drop → AreDroppable one drop.conclusion
droppable cx h q t e s one drop says is =
    let w : IsFollowing cx h q t e one = following cx h q t e one says in
    (h, w.left, w.right, w.to, is.from, w.says, to_left cx s q drop w.left is w.is_left)

common_image : (cx : Context) (s : Sentence) (t : Tree) (d r : Pattern)
    → sentence_image cx.program.sig cx.names s ≡ Some d → image_in cx (ground_pattern t) ≡ Some r
    → sentence_image cx.program.sig cx.names (and s (term (ground_pattern t)))
    ≡ Some (logic.and d r)
common_image cx s t d r one other = rw (one, other) refl

pub of_named_says : (cx : Context) (h : Pattern) (q : RulePattern) (t : Tree) (e s : Sentence)
    (one made : Pattern) (drop : Theorem) → SaysUnder cx h (implies (in_common q t) e) one
    → Implies cx s (term q) drop → IsOfNamed one drop.conclusion made
    → SaysUnder cx h (implies (and s (term (ground_pattern t))) e) made
of_named_says cx h q t e s one made drop says is named =
    let w : IsFollowing cx h q t e one = following cx h q t e one says in
    implied_said cx h (and s (term (ground_pattern t))) e (logic.and is.from w.right) w.to made
    (common_image cx s t is.from w.right is.is_from w.is_right) w.is_to
    (named h w.left w.right w.to is.from w.says (to_left cx s q drop w.left is w.is_left))

pub two_rules_stay : (cx : Context) (one other made : Theorem) → StaysIn cx one → StaysIn cx other
    → StaysWithin [] (one ∷ other ∷ []) made → StaysIn cx made
two_rules_stay cx one other made first second stays = λ s has.
    stays s tt (first s has, (second s has, tt))

-- ---- denials

record IsDenying (cx : Context) (h : Pattern) (q : RulePattern) (t : Tree) (c : Pattern) : Type 0
  where
    left : Pattern
    is_left : image_in cx q ≡ Some left
    right : Pattern
    is_right : image_in cx (ground_pattern t) ≡ Some right
    says : c ≡ logic.imp h (logic.not (logic.and left right))

denying : (cx : Context) (h : Pattern) (q : RulePattern) (t : Tree) (c : Pattern)
    → SaysUnder cx h (not (in_common q t)) c → IsDenying cx h q t c
denying cx h q t c says =
    let w : (x : Pattern)
    × (sentence_image cx.program.sig cx.names (in_common q t) ≡ Some x)
    × (says.image ≡ logic.not x) =
    map_some logic.not (sentence_image cx.program.sig cx.names (in_common q t)) says.image
    says.is_image in
    let both : HaveBoth logic.and cx (term q) (term (ground_pattern t)) w.0 =
    both_shape logic.and cx (term q) (term (ground_pattern t)) w.0 w.1 in
    record {
      left = both.left;
      is_left = both.is_left;
      right = both.right;
      is_right = both.is_right;
      says = says.says ∙ ap (logic.imp h) (w.2 ∙ ap logic.not both.says);
    }

pub droppable_denial : (cx : Context) (h : Pattern) (q : RulePattern) (t : Tree) (s : Sentence)
    (none : Pattern) (drop : Theorem) → SaysUnder cx h (not (in_common q t)) none
    → Implies cx s (term q) drop → AreDroppableDenial none drop.conclusion
droppable_denial cx h q t s none drop says is =
    let w : IsDenying cx h q t none = denying cx h q t none says in
    (h, w.left, w.right, is.from, w.says, to_left cx s q drop w.left is w.is_left)

pub denial_says : (cx : Context) (h : Pattern) (q : RulePattern) (t : Tree) (s : Sentence)
    (none made : Pattern) (drop : Theorem) → SaysUnder cx h (not (in_common q t)) none
    → Implies cx s (term q) drop → IsDenialOfNamed none drop.conclusion made
    → SaysUnder cx h (not (and s (term (ground_pattern t)))) made
denial_says cx h q t s none made drop says is named =
    let w : IsDenying cx h q t none = denying cx h q t none says in
    record {
      image = logic.not (logic.and is.from w.right);
      is_image =
          rw (common_image cx s t is.from w.right is.is_from w.is_right) refl;
      says = named h w.left w.right is.from w.says (to_left cx s q drop w.left is w.is_left);
    }

-- ---- nothing is said yet

same_from : (p q r s : Pattern) → logic.imp p q ≡ logic.imp r s → p ≡ r
same_from p q r s h = cc

pub top_inverts : (cx : Context) (h : Pattern) (s r : Sentence) (t : Tree) (drop made : Theorem)
    (d e w premise : Pattern) → ((scope : Scope) → HasContext scope cx → IsOver scope h)
    → Implies cx s r drop → drop.conclusion ≡ logic.imp d e
    → image_in cx (ground_pattern t) ≡ Some w → premise ≡ logic.and h (logic.and d w)
    → made.conclusion ≡ logic.imp premise logic.top → StaysWithin (premise ∷ []) [] made
    → IsInverting cx h (and s (term (ground_pattern t))) top made
top_inverts cx h s r t drop made d e w premise over is read right first says stays =
    let this : is.from ≡ d = same_from is.from is.to d e (sym is.says ∙ read) in
    let left : sentence_image cx.program.sig cx.names s ≡ Some d =
    is.is_from ∙ ap (λ (p : Pattern). Some p) this in
    record {
      says = record {
        common = logic.and d w;
        is_common = common_image cx s t d w left right;
        image = logic.top;
        is_image = refl;
        says = says ∙ ap (λ (p : Pattern). logic.imp p logic.top) first;
      };
      stays = λ scope has. stays scope (
        subst (IsOver scope) (sym first) (
          over scope has,
          (has.images s d left, has.images (term (ground_pattern t)) w right),
        ),
        tt,
      ) tt;
    }
