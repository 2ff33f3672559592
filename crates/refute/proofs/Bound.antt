-- What a variable is bound to, if a pattern and a term have something in common.
use Rattle.std.proofs.Common.{◌≡◌, ◌∷◌, ℕ, List, [], Some, refl, sym, ◌∙◌, ap, subst}
use Rattle.ml_pat.specs.Patterns.{Pattern}
use Rattle.ml_pat.specs.Patterns as logic
use Rattle.ml_kernel.specs.Theorems.{Theorem}
use Rattle.ml_derived.specs.Scopes.{Scope, IsOver, StaysWithin}
use Rattle.term_core.specs.Terms.{Tree}
use Rattle.term_core.specs.Patterns.{Pattern as RulePattern, variable, ground_pattern}
use Rattle.rule_core.specs.Sorting.{IsTermOf}
use Rattle.rule_core.specs.declared.signature.Signature.{Signature}
use Rattle.ml_image.specs.Sentences.{term}
use Rattle.prove_term.specs.Contexts.{Context, HasContext, StaysIn}
use Rattle.prove_open.specs.Givens.{HasFact}
use Rattle.prove_open.specs.Under.{SaysUnder}
use Rattle.prove_open.specs.declared.givens.Given.{Given}
use Rattle.prove_open.specs.declared.differences.Difference.TheVariants.{Disjoint}
use Rattle.refute.specs.Bindings.{IsSortedPair, bound_if_common, equals_bound}
use Rattle.refute.specs.Clashes.{ComesTo}
use Rattle.refute.specs.Refutations.{in_common}
use Rattle.refute.specs.Refuting.{Denies, IsGoal, IsPair}
use Rattle.refute.specs.declared.settings.Goal.TheVariants as goal
use Rattle.refute.proofs.Conversions.{disjoint_parts}
use Rattle.refute.proofs.PlaceSorts.{comes_sorted}
use Rattle.refute.proofs.Shapes.{image_in, IsDisjoint, implied_said, unequal_said}

pub pair_sorted : (sig : Signature) (sorts : List ℕ) (g : Given) (p : RulePattern) (t : Tree)
    → IsPair sig sorts g p t → IsSortedPair sig sorts p t
pair_sorted sig sorts g p t is = record {
  sort = is.sort;
  left = is.left.sorted;
  no_call = is.left.no_call;
  right = is.right;
  normal = is.normal;
}

-- the sort of what comparing comes to
pub bound_sorted : (sig : Signature) (sorts : List ℕ) (g : Given) (p : RulePattern) (t : Tree)
    (x : ℕ) (u : Tree) → IsPair sig sorts g p t → ComesTo sig.subsorts (variable x) u p t
    → (sort : ℕ) × IsTermOf sig u sort
bound_sorted sig sorts g p t x u is comes =
    let there : IsSortedPair sig sorts (variable x) u =
    comes_sorted sig sorts (variable x) u comes (pair_sorted sig sorts g p t is) in
    (there.sort, there.right)

-- ---- the hypothesis with the denied equation

-- the equation of the variable and an image
pub equation_over : (cx : Context) (s : Scope) (x : ℕ) (u : Tree) (v i e : Pattern)
    → HasContext s cx → v ≡ logic.var x → image_in cx (ground_pattern u) ≡ Some i
    → e ≡ logic.equal v i → IsOver s e
equation_over cx s x u v i e has is image made =
    subst (IsOver s) (sym made) (
      subst (IsOver s) (sym is) (has.objects x),
      has.images (term (ground_pattern u)) i image,
    )

pub fact_stays : (cx : Context) (h e : Pattern) (fact : Theorem)
    → ((s : Scope) → HasContext s cx → IsOver s h) → ((s : Scope) → HasContext s cx → IsOver s e)
    → StaysWithin (h ∷ e ∷ []) [] fact → StaysIn cx fact
fact_stays cx h e fact over also stays = λ s has. stays s (over s has, (also s has, tt)) tt

pub inner_goal : (cx : Context) (h r v i e : Pattern) (x : ℕ) (u : Tree) (fact : Theorem)
    → v ≡ logic.var x → image_in cx (ground_pattern u) ≡ Some i → e ≡ logic.equal v i
    → r ≡ logic.and h (logic.imp e logic.bot)
    → fact.conclusion ≡ logic.imp (logic.and h (logic.imp e logic.bot)) (logic.not e)
    → StaysIn cx fact → IsGoal cx r (goal.Binding x u fact)
inner_goal cx h r v i e x u fact is image made named says stays = (
  unequal_said cx r (variable x) (ground_pattern u) (logic.var x) i fact.conclusion refl image
      (says ∙ ap (λ (k : Pattern). logic.imp k (logic.not e)) (sym named)
      ∙ ap (λ (k : Pattern). logic.imp r (logic.not k))
      (made ∙ ap (λ (k : Pattern). logic.equal k i) is)),
  stays,
)

pub inner_pair : (sig : Signature) (sorts : List ℕ) (g n : Given) (p : RulePattern) (t : Tree)
    → IsPair sig sorts g p t → ((x : ℕ) → HasFact g x → HasFact n x) → IsPair sig sorts n p t
inner_pair sig sorts g n p t is kept = record {
  sort = is.sort;
  left = record {
    sorted = is.left.sorted;
    no_call = is.left.no_call;
    given = λ x occurs. kept x (is.left.given x occurs);
  };
  right = is.right;
  normal = is.normal;
}

-- ---- what was found not to be in common

-- the theorem that under the hypothesis and the denied equation nothing is in common
pub none_parts : (cx : Context) (r h e : Pattern) (p : RulePattern) (t : Tree) (none : Theorem)
    → Denies cx r p (ground_pattern t) (Disjoint none)
    → r ≡ logic.and h (logic.imp e logic.bot)
    → (c : Pattern)
    × (none.conclusion ≡ logic.imp (logic.and h (logic.imp e logic.bot)) (logic.imp c logic.bot))
none_parts cx r h e p t none denies named =
    let is : IsDisjoint cx r p (ground_pattern t) none.conclusion =
    (disjoint_parts cx r p (ground_pattern t) (Disjoint none) none refl denies).0 in (
      logic.and is.left is.right,
      is.says ∙ ap (λ (k : Pattern).
          logic.imp k (logic.imp (logic.and is.left is.right) logic.bot)) named,
    )

pub bound_said : (cx : Context) (r h v i e : Pattern) (x : ℕ) (u : Tree) (p : RulePattern)
    (t : Tree) (none made : Theorem) → Denies cx r p (ground_pattern t) (Disjoint none)
    → r ≡ logic.and h (logic.imp e logic.bot) → v ≡ logic.var x
    → image_in cx (ground_pattern u) ≡ Some i → e ≡ logic.equal v i
    → ((c : Pattern)
    → none.conclusion ≡ logic.imp (logic.and h (logic.imp e logic.bot)) (logic.imp c logic.bot)
    → made.conclusion ≡ logic.imp h (logic.imp c e))
    → SaysUnder cx h (bound_if_common x u p t) made.conclusion
bound_said cx r h v i e x u p t none made denies named is image equation says =
    let parts : IsDisjoint cx r p (ground_pattern t) none.conclusion =
    (disjoint_parts cx r p (ground_pattern t) (Disjoint none) none refl denies).0 in
    let whole : e ≡ logic.equal (logic.var x) i =
    equation ∙ ap (λ (k : Pattern). logic.equal k i) is in
    implied_said cx h (in_common p t) (equals_bound x u) (logic.and parts.left parts.right)
    (logic.equal (logic.var x) i) made.conclusion (rw (parts.is_left, parts.is_right) refl)
    (rw (image) refl)
    (says (logic.and parts.left parts.right)
    (parts.says ∙ ap (λ (k : Pattern).
    logic.imp k (logic.imp (logic.and parts.left parts.right) logic.bot)) named)
    ∙ ap (λ (k : Pattern). logic.imp h (logic.imp (logic.and parts.left parts.right) k)) whole)

pub one_stays : (cx : Context) (none made : Theorem) → StaysIn cx none
    → StaysWithin [] (none ∷ []) made → StaysIn cx made
one_stays cx none made there stays = λ s has. stays s tt (there s has, tt)

-- ---- two terms at one variable

some_same : {A : Type 0} (a b : A) → Some a ≡ Some b → a ≡ b
some_same a b h = cc

pub two_sorted : (sig : Signature) (sorts : List ℕ) (g : Given) (p : RulePattern) (t : Tree)
    (x : ℕ) (u w : Tree) → IsPair sig sorts g p t → ComesTo sig.subsorts (variable x) u p t
    → ComesTo sig.subsorts (variable x) w p t
    → (sort : ℕ) × IsTermOf sig u sort × IsTermOf sig w sort
two_sorted sig sorts g p t x u w is one other =
    let a : IsSortedPair sig sorts (variable x) u =
    comes_sorted sig sorts (variable x) u one (pair_sorted sig sorts g p t is) in
    let b : IsSortedPair sig sorts (variable x) w =
    comes_sorted sig sorts (variable x) w other (pair_sorted sig sorts g p t is) in
    let same : b.sort ≡ a.sort = some_same b.sort a.sort (sym b.left ∙ a.left) in
    (a.sort, a.right, subst (IsTermOf sig w) same b.right)

pub three_stay : (cx : Context) (y : ℕ) (one other differ made : Theorem) → StaysIn cx one
    → StaysIn cx other → StaysIn cx differ
    → StaysWithin (logic.var y ∷ []) (one ∷ other ∷ differ ∷ []) made → StaysIn cx made
three_stay cx y one other differ made first second third stays =
    λ s has. stays s (has.objects y, tt) (first s has, (second s has, (third s has, tt)))
