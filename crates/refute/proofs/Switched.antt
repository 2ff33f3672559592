-- What equals a term does not equal what differs from the term.
use Rattle.std.proofs.Common.{◌≡◌, ◌∷◌, ℕ, [], Some, ◌∙◌, ap, true}
use Rattle.ml_pat.specs.Patterns.{Pattern}
use Rattle.ml_pat.specs.Patterns as logic
use Rattle.ml_kernel.specs.Theorems.{Theorem}
use Rattle.ml_derived.specs.Scopes.{StaysWithin}
use Rattle.term_core.specs.Terms.{Tree, leaf, truth}
use Rattle.term_core.specs.Patterns.{ground_pattern}
use Rattle.rule_core.specs.Sorting.{IsTermOf}
use Rattle.ml_image.specs.Sentences.{term, not, equals}
use Rattle.prove_term.specs.Contexts.{Context, HasGrown, StaysIn}
use Rattle.refute.specs.Bindings.{CanSwitch, IsSwitched}
use Rattle.refute.specs.Refutations.{EqualsTerm, SaysSentence, SaysNotTrue}
use Rattle.refute.proofs.Conversions.{image_later}
use Rattle.refute.proofs.Denied.{IsApart, apart_shape, ground_keeps}
use Rattle.refute.proofs.Shapes.{image_in, one_image}

-- the two theorems, over one pattern
record AreOver (cx : Context) (t d : Tree) (eq differ : Pattern) : Type 0 where
  left : Pattern
  middle : Pattern
  right : Pattern
  is_right : image_in cx (ground_pattern d) ≡ Some right
  equation : eq ≡ logic.equal left middle
  denial : differ ≡ logic.not (logic.equal middle right)

are_over : (old new : Context) (t d : Tree) (eq differ : Pattern) → HasGrown old new
    → EqualsTerm old t eq
    → SaysSentence new (not (equals (term (ground_pattern t)) (term (ground_pattern d)))) differ
    → AreOver new t d eq differ
are_over old new t d eq differ grown (p, q, equation, image) apart =
    let a : IsApart new (ground_pattern t) (ground_pattern d) differ =
    apart_shape new (ground_pattern t) (ground_pattern d) differ apart in
    let same : a.left ≡ q =
    one_image (image_in new (ground_pattern t)) a.left q a.is_left
    (image_later old new (ground_pattern t) q grown image) in
    record {
      left = p;
      middle = q;
      right = a.right;
      is_right = a.is_right;
      equation = equation;
      denial = a.says ∙ ap (λ (k : Pattern). logic.not (logic.equal k a.right)) same;
    }

pub can_switch : (old new : Context) (t d : Tree) (sort y : ℕ) (eq differ : Pattern)
    → HasGrown old new → EqualsTerm old t eq
    → SaysSentence new (not (equals (term (ground_pattern t)) (term (ground_pattern d)))) differ
    → IsTermOf new.program.sig d sort → CanSwitch y eq differ
can_switch old new t d sort y eq differ grown equals_t apart is =
    let a : AreOver new t d eq differ = are_over old new t d eq differ grown equals_t apart in
    record {
      b = a.left;
      t = a.middle;
      d = a.right;
      is_eq = a.equation;
      is_differ = a.denial;
      keeps = λ u. ground_keeps new d sort y a.right u is a.is_right;
    }

pub switched_says : (old new : Context) (t : Tree) (sort : ℕ) (eq differ made : Pattern)
    → HasGrown old new → EqualsTerm old t eq
    → SaysSentence new
    (not (equals (term (ground_pattern t)) (term (ground_pattern (leaf sort (truth true))))))
    differ
    → IsSwitched eq differ made → SaysNotTrue new sort eq made
switched_says old new t sort eq differ made grown equals_t apart switched =
    let a : AreOver new t (leaf sort (truth true)) eq differ =
    are_over old new t (leaf sort (truth true)) eq differ grown equals_t apart in (
      a.left,
      a.middle,
      a.right,
      a.equation,
      a.is_right,
      switched a.left a.middle a.right a.equation a.denial,
    )

pub two_stay : (cx : Context) (y : ℕ) (one other made : Theorem) → StaysIn cx one
    → StaysIn cx other → StaysWithin (logic.var y ∷ []) (one ∷ other ∷ []) made → StaysIn cx made
two_stay cx y one other made first second stays =
    λ s has. stays s (has.objects y, tt) (first s has, (second s has, tt))
