-- A guard that does not hold, with the quantifiers of its variables.
use Rattle.std.proofs.Common.{◌≡◌, ◌<◌, ◌≤◌, ◌+◌, ◌++◌, ℕ, zero, suc, List, [], ◌∷◌, All}
use Rattle.std.proofs.Common.{length, map, take, replicate, get_or, Option, Some, option_map}
use Rattle.std.proofs.Common.{refl, sym, ◌∙◌, ap, subst, arith}
use Rattle.std.specs.Prelude.{slice_index_or}
use Rattle.std.proofs.lemmas.List.{length-take-le, take_more}
use Rattle.std.proofs.Math.Seq.{take_all}
use Rattle.ml_pat.specs.Patterns.{Pattern, bot, imp, ex, fun, var}
use Rattle.ml_pat.specs.Patterns as logic
use Rattle.ml_kernel.specs.Theorems.{Theorem}
use Rattle.ml_derived.specs.Scopes.{StaysWithin}
use Rattle.term_core.specs.Terms.{Tree, Forest, no_tree, more_trees}
use Rattle.term_core.specs.Patterns.{Pattern as RulePattern, Patterns, no_pattern, more_patterns}
use Rattle.term_core.specs.Patterns.{ground_pattern}
use Rattle.rule_core.specs.NamedParts.{Name}
use Rattle.rule_core.specs.Rules.{Equation}
use Rattle.rule_core.specs.WellSorted.{AreDifferent}
use Rattle.rule_core.specs.declared.signature.Signature.{Signature}
use Rattle.rule_core.specs.declared.rules.Program.{Program}
use Rattle.ml_image.specs.Images.{both, renamed, all_renamed, sort_image}
use Rattle.ml_image.specs.LastResorts.{number_from, sorts_at, condition_renamed}
use Rattle.ml_image.specs.NamedSides.{left_sentence, of_child}
use Rattle.ml_image.specs.PartNames.{names_renamed}
use Rattle.ml_image.specs.Sentences.{Sentence, term, bottom, and, exists, is_in, for_some}
use Rattle.ml_image.specs.Sentences.{sentence_image}
use Rattle.ml_image.proofs.LastResortLaws.{listed_many}
use Rattle.prove_term.specs.Contexts.{Context, HasGrown, StaysIn}
use Rattle.prove_term.specs.GuardsAt.{are_in}
use Rattle.prove_term.proofs.ContextLaws.{image_grown}
use Rattle.prove_open.specs.Givens.{all_sorted}
use Rattle.prove_open.proofs.ScopeLaws.{stays_no_hypotheses}
use Rattle.guard_body.specs.Arguments.{all_in, in_argument, part_names_of, pattern_of}
use Rattle.guard_body.specs.Guarded.{IsRepeated}
use Rattle.refute_guard.specs.Guards.{DeniesGuard}
use Rattle.guard_body.specs.Guarded.{IsOrderOf}
use Rattle.guard_body.specs.Hypotheses.{down_from}
use Rattle.refute_body.specs.Implications.{IsOpen, elements, for_some_of, variable_of}
use Rattle.guard_body.specs.Renaming.{AreRenamed, sorts_from}
use Rattle.refute_guard.specs.Repeated.{IsOfBody}
use Rattle.guard_body.specs.declared.arguments.Argument.{Argument}
use Rattle.guard_body.specs.declared.guarded.Guarded.{Guarded}
use Rattle.refute_body.proofs.GivenVariables.{IsSorted, nothing_sorted, sorted_parts}
use Rattle.guard_body.proofs.CountedDown.{down_low}
use Rattle.guard_body.proofs.RenamedNames.{names_of_child}
use Rattle.guard_body.proofs.RepeatedLaws.{order_within}

-- ---- the arguments

-- the arguments are those of the equation
pub members_same : (g : ℕ → ℕ) (names : List Name) (i : ℕ) (ps : Patterns) (ts : Forest)
    (bs : List Argument) → AreRenamed g names i ps ts bs
    → all_in bs ≡ are_in (names_renamed g names) i ts (all_renamed g ps)
members_same g names i no_pattern no_tree [] are = refl
members_same g names i no_pattern no_tree (a ∷ bs) are = absurd are
members_same g names i no_pattern (more_trees t ts) bs are = absurd are
members_same g names i (more_patterns p ps) no_tree bs are = absurd are
members_same g names i (more_patterns p ps) (more_trees t ts) [] are = absurd are
members_same g names i (more_patterns p ps) (more_trees t ts) (a ∷ bs) (same, named, is, rest) =
    let child : of_child 0 (part_names_of a) ≡ of_child i (names_renamed g names) =
    ap (of_child 0) named ∙ names_of_child i (names_renamed g names) in
    let one : in_argument a
    ≡ is_in (term (ground_pattern t))
    (left_sentence (of_child i (names_renamed g names)) (renamed g p)) =
    ap (λ (u : Tree). is_in (term (ground_pattern u))
    (left_sentence (of_child 0 (part_names_of a)) (pattern_of a))) is
    ∙ ap (λ (ns : List Name). is_in (term (ground_pattern t)) (left_sentence ns (pattern_of a)))
    child
    ∙ ap (λ (q : RulePattern). is_in (term (ground_pattern t))
    (left_sentence (of_child i (names_renamed g names)) q)) same in
    ap (λ (s : Sentence). and s (all_in bs)) one
    ∙ ap (and (is_in (term (ground_pattern t))
    (left_sentence (of_child i (names_renamed g names)) (renamed g p))))
    (members_same g names (i + 1) ps ts bs rest)

-- ---- the variables

different_down : (k n : ℕ) → AreDifferent (down_from k n)
different_down k zero = tt
different_down k (suc n) = (
  λ i d low.
      let less : get_or (down_from k n) i d < k + n =
      down_low k n (k + n) (λ x lt. omega (arith, lt)) i d low in
      λ same. omega (arith, less, same),
  different_down k n,
)

-- the variables with their sorts, of which the hypothesis says that they are elements, and the
-- quantifiers over them
pub record AreOpened (cx : Context) (k n : ℕ) (ss : List ℕ) (h : Pattern) : Type 0 where
  pub pairs : List (ℕ × ℕ)
  pub variables : map variable_of pairs ≡ down_from k n
  pub many : n ≡ length pairs
  pub says : elements pairs ≡ h
  pub closes : (s : Sentence) (e : Pattern)
      → sentence_image cx.program.sig cx.names s ≡ Some e
      → sentence_image cx.program.sig cx.names (for_some k (take n ss) s)
      ≡ Some (for_some_of pairs e)

for_some-last : (k : ℕ) (ss : List ℕ) (x : ℕ) (s : Sentence)
    → for_some k (ss ++ x ∷ []) s ≡ for_some k ss (exists (k + length ss) x s)
for_some-last k [] x s =
    let here : k ≡ k + 0 = omega arith in ap (λ (y : ℕ). exists y x s) here
for_some-last k (r ∷ ss) x s =
    let next : k + 1 + length ss ≡ k + suc (length ss) = omega arith in
    ap (exists k r)
    (for_some-last (k + 1) ss x s
    ∙ ap (λ (y : ℕ). for_some (k + 1) ss (exists y x s)) next)

exists_is : (cx : Context) (y x sort : ℕ) (s : Sentence) (e : Pattern)
    → sort_image cx.program.sig cx.names x ≡ Some sort
    → sentence_image cx.program.sig cx.names s ≡ Some e
    → sentence_image cx.program.sig cx.names (exists y x s) ≡ Some (ex y sort e)
exists_is cx y x sort s e numbered is =
    ap (λ (o : Option ℕ). both (ex y) o (sentence_image cx.program.sig cx.names s)) numbered
    ∙ ap (λ (o : Option Pattern). both (ex y) (Some sort) o) is

pub opened : (cx : Context) (sorts : List ℕ) (k n : ℕ) (ss : List ℕ) (h : Pattern)
    → n ≤ length ss
    → ((i : ℕ) → i < length ss → slice_index_or sorts (k + i) 0 ≡ get_or ss i 0)
    → sentence_image cx.program.sig cx.names (all_sorted sorts (down_from k n)) ≡ Some h
    → AreOpened cx k n ss h
opened cx sorts k zero ss h low same is = record {
  pairs = [];
  variables = refl;
  many = refl;
  says = nothing_sorted cx sorts h is;
  closes = λ s e image. image;
}
opened cx sorts k (suc n) ss h low same is =
    let w : IsSorted cx sorts (k + n) (down_from k n) h =
    sorted_parts cx sorts (k + n) (down_from k n) h is in
    let r : AreOpened cx k n ss w.rest =
    opened cx sorts k n ss w.rest (omega (arith, low)) same w.is_rest in
    let inside : n < length ss = omega (arith, low) in
    let further : suc n ≡ n + 1 = omega arith in
    let long : length (take n ss) ≡ n = length-take-le n ss (omega (arith, low)) in
    let numbered : sort_image cx.program.sig cx.names (get_or ss n 0) ≡ Some w.sort =
    ap (sort_image cx.program.sig cx.names) (sym (same n inside)) ∙ w.numbered in
    record {
      pairs = (k + n, w.sort) ∷ r.pairs;
      variables = ap (λ (xs : List ℕ). (k + n) ∷ xs) r.variables;
      many = ap suc r.many;
      says =
          ap (logic.and (fun (var (k + n)) w.sort)) r.says ∙ sym w.is;
      closes = λ s e image.
          let all : take (suc n) ss ≡ take n ss ++ get_or ss n 0 ∷ [] =
          ap (λ (m : ℕ). take m ss) further ∙ take_more ss n 0 inside in
          ap (λ (xs : List ℕ). sentence_image cx.program.sig cx.names (for_some k xs s)) all
          ∙ ap (sentence_image cx.program.sig cx.names)
          (for_some-last k (take n ss) (get_or ss n 0) s
          ∙ ap (λ (m : ℕ). for_some k (take n ss) (exists (k + m) (get_or ss n 0) s)) long)
          ∙ r.closes (exists (k + n) (get_or ss n 0) s) (ex (k + n) w.sort e)
          (exists_is cx (k + n) (get_or ss n 0) w.sort s e numbered image);
    }

-- ---- the sorts

index_behind : (k s : ℕ) (ys : List ℕ) (i : ℕ)
    → slice_index_or (replicate k s ++ ys) (k + i) 0 ≡ slice_index_or ys i 0
index_behind zero s ys i =
    let same : 0 + i ≡ i = omega arith in ap (λ (j : ℕ). slice_index_or ys j 0) same
index_behind (suc k) s ys i =
    let next : suc k + i ≡ suc (k + i) = omega arith in
    ap (λ (j : ℕ). slice_index_or (replicate (suc k) s ++ ys) j 0) next ∙ index_behind k s ys i

sorts_behind : (k : ℕ) (vars order : List ℕ) → All (λ x. x < length vars) order → (i : ℕ)
    → i < length (sorts_at vars order)
    → slice_index_or (sorts_from k vars order) (k + i) 0 ≡ get_or (sorts_at vars order) i 0
sorts_behind k [] order within i low =
    absurd (omega (arith, within 0 0 (omega (arith, low, listed_many [] order))))
sorts_behind k (v ∷ vars) order within i low = index_behind k v (sorts_at (v ∷ vars) order) i

-- ---- the guard

-- the variables of the guard and their sorts, in the context as it has grown
pub all_opened : (old cx : Context) (k : ℕ) (order : List ℕ) (ts : Forest) (e : Equation)
    (x : Guarded) → HasGrown old cx → IsOrderOf (length e.variables) order
    → IsRepeated old k order ts e x
    → AreOpened cx k (length order) (sorts_at e.variables order) x.given.hypothesis
all_opened old cx k order ts e x grown is r =
    opened cx (sorts_from k e.variables order) k (length order) (sorts_at e.variables order)
    x.given.hypothesis (omega (arith, listed_many e.variables order))
    (sorts_behind k e.variables order (order_within (length e.variables) order is))
    (image_grown old cx (all_sorted (sorts_from k e.variables order) (down_from k (length order)))
    x.given.hypothesis grown
    (subst (λ (ss : List ℕ). sentence_image old.program.sig old.names
    (all_sorted ss (down_from k (length order))) ≡ Some x.given.hypothesis) r.sorts r.hypothesis))

-- the theorem says that the body does not hold, if the variables are elements of their sorts
pub is_open : (cx : Context) (k n : ℕ) (ss : List ℕ) (x : Guarded) (t : Theorem)
    (o : AreOpened cx k n ss x.given.hypothesis) → IsOfBody cx x bottom t
    → IsOpen o.pairs x.body t.conclusion
is_open cx k n ss x t o of_body =
    let nothing : bot ≡ of_body.says.image =
    some_same bot of_body.says.image of_body.says.is_image in
    record {
      different = subst AreDifferent (sym o.variables) (different_down k n);
      is =
          of_body.says.says
          ∙ ap (λ (p : Pattern). imp x.given.hypothesis (imp x.body p)) (sym nothing)
          ∙ ap (λ (h : Pattern). imp h (imp x.body bot)) (sym o.says);
    }
  where
    some_same : (p q : Pattern) → Some p ≡ Some q → p ≡ q
    some_same p q e = cc

pub denies : (old cx : Context) (k : ℕ) (order : List ℕ) (ts : Forest) (e : Equation)
    (x : Guarded) (none t : Theorem) → HasGrown old cx → IsOrderOf (length e.variables) order
    → IsRepeated old k order ts e x → IsOfBody cx x bottom none
    → ((ps : List (ℕ × ℕ)) (b : Pattern) → IsOpen ps b none.conclusion → length order ≡ length ps
    → t.conclusion ≡ imp (for_some_of ps b) bot)
    → StaysWithin [] (none ∷ []) t → DeniesGuard cx k order ts e t
denies old cx k order ts e x none t grown is r of_body says stays =
    let ss : List ℕ = sorts_at e.variables order in
    let o : AreOpened cx k (length order) ss x.given.hypothesis =
    all_opened old cx k order ts e x grown is r in
    let made : t.conclusion ≡ imp (for_some_of o.pairs x.body) bot =
    says o.pairs x.body (is_open cx k (length order) ss x none o of_body) o.many in
    let members : Sentence =
    are_in (names_renamed (number_from k order) e.names) 0 ts
    (all_renamed (number_from k order) e.arguments) in
    let inside : sentence_image cx.program.sig cx.names (and r.condition members) ≡ Some x.body =
    ap (λ (s : Sentence). sentence_image cx.program.sig cx.names (and r.condition s))
    (sym (members_same (number_from k order) e.names 0 e.arguments ts x.arguments.items
    r.arguments))
    ∙ image_grown old cx (and r.condition (all_in x.arguments.items)) x.body grown r.guarded.body
    in
    let all : take (length order) ss ≡ ss =
    take_all (length order) ss (omega (arith, listed_many e.variables order)) in
    let guard : Sentence = for_some k ss (and r.condition members) in
    let image : sentence_image cx.program.sig cx.names guard ≡ Some (for_some_of o.pairs x.body) =
    ap (λ (xs : List ℕ). sentence_image cx.program.sig cx.names
    (for_some k xs (and r.condition members))) (sym all)
    ∙ o.closes (and r.condition members) x.body inside in
    let stays_there : StaysIn cx t = λ s has. stays s tt (of_body.stays s has, tt) in
    record {
      guard = guard;
      is_guard =
          ap (λ (condition : Option Sentence). option_map (for_some k ss)
          (option_map (λ (c : Sentence). and c members) condition))
          (ap (λ (sig : Signature). condition_renamed sig (number_from k order) e.variables
          e.condition) (ap (λ (p : Program). p.sig) grown.program) ∙ r.is_condition);
      says =
          ap (λ (p : Option Pattern). both imp p (Some bot)) image
          ∙ ap (λ (p : Pattern). Some p) (sym made);
      no_hypotheses = stays_no_hypotheses cx t stays_there;
      stays = stays_there;
    }
