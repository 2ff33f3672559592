-- From the arguments as they are written to the terms that they become.
use Rattle.std.proofs.Common.{◌≡◌, ℕ, List, [], ◌∷◌, Option, Some, None, sym, ◌∙◌, ap, subst}
use Rattle.std.proofs.lemmas.List.Elements.{All-contains}
use Rattle.ml_pat.specs.Patterns.{Pattern, equal}
use Rattle.ml_kernel.specs.Theorems.{Theorem}
use Rattle.ml_derived.specs.Equalities.{IsFlip, AreJoinable, IsJoin}
use Rattle.term_core.specs.Terms.{Tree, Forest}
use Rattle.term_core.specs.Patterns.{Pattern as RulePattern, call, instances_of, ground_patterns}
use Rattle.rule_core.specs.Rules.{Equation}
use Rattle.rule_core.specs.Theories.{equations_of}
use Rattle.rule_core.specs.ProgramView.{theory_of}
use Rattle.rule_core.specs.Sorting.{HaveSorts}
use Rattle.rule_core.specs.WellSorted.{IsWellSorted, IsEquationOf}
use Rattle.rule_core.specs.declared.signature.SortRef.{SortRef}
use Rattle.ml_image.specs.NamedSides.{applied_sides}
use Rattle.ml_image.specs.OwnAxioms.{IsEquationFor}
use Rattle.ml_image.specs.Sentences.{Sentence, symbol, sentence_image}
use Rattle.ml_image.proofs.ImageLaws.{none_some, some_same}
use Rattle.prove_term.specs.Contexts.{Context, HasGrown, StaysIn, StaysInWith}
use Rattle.prove_term.specs.Filling.{filled}
use Rattle.prove_term.specs.FilledSides.{filled_sentence, AreEqualSides, SaysNamed}
use Rattle.prove_term.specs.FilledSides.{SaysNamedCall}
use Rattle.prove_term.specs.Applications.{HasClosedSides}
use Rattle.prove_term.specs.Values.{SaysEquationAt}
use Rattle.prove_term.proofs.ContextLaws.{image_grown, stays_grown}
use Rattle.prove_term.proofs.EqualityChains.{stays_with_grown}
use Rattle.prove_schema.proofs.ElementLaws.{pattern_grown}
use Rattle.prove_schema.proofs.ScopeLaws.{stays_no_hypotheses}
use Rattle.prove_equation.specs.Conditions.{ProvesAt}
use Rattle.prove_equation.specs.Filled.{SaysFilledEquation, CanTurn, IsTurned, StaysTurned}

-- ---- turning an equality

pub can_flip : (made : Pattern) (o : Option Theorem) (t : Theorem) → o ≡ Some t → CanTurn made o
    → HasClosedSides t.conclusion
can_flip made None t is can = absurd (none_some t is)
can_flip made (Some u) t is (p, q, r, first, second, closed, other, last) =
    subst (λ (v : Theorem). HasClosedSides v.conclusion) (some_same u t is)
    (p, (q, (first, (closed, other))))

pub can_join : (made turned : Pattern) (o : Option Theorem) (t : Theorem) → o ≡ Some t
    → CanTurn made o → IsFlip t.conclusion turned → AreJoinable turned made
can_join made turned None t is can flips = absurd (none_some t is)
can_join made turned (Some u) t is (p, q, r, first, second, closed, other, last) flips =
    let same : t.conclusion ≡ equal p q =
    ap (λ (v : Theorem). v.conclusion) (sym (some_same u t is)) ∙ first in
    (q, (p, (r, (flips p q same, (second, other)))))

pub can_close : (made : Pattern) (o : Option Theorem) (t : Theorem) → o ≡ Some t → CanTurn made o
    → HasClosedSides made
can_close made None t is can = absurd (none_some t is)
can_close made (Some u) t is (p, q, r, first, second, closed, other, last) =
    (p, (r, (second, (closed, last))))

pub turned_says : (made turned joined : Theorem) (o : Option Theorem) (t : Theorem) → o ≡ Some t
    → IsFlip t.conclusion turned.conclusion
    → IsJoin turned.conclusion made.conclusion joined.conclusion → IsTurned made o joined
turned_says made turned joined None t is flips joins = absurd (none_some t is)
turned_says made turned joined (Some u) t is flips joins = λ p q r first second.
    let same : t.conclusion ≡ equal p q =
    ap (λ (v : Theorem). v.conclusion) (sym (some_same u t is)) ∙ first in
    joins q p r (flips p q same) second

pub turned_stays : (mid cx : Context) (made turned joined : Theorem) (o : Option Theorem)
    (t : Theorem) → o ≡ Some t → HasGrown mid cx → StaysInWith mid [] (t ∷ []) turned
    → StaysInWith cx [] (turned ∷ made ∷ []) joined → StaysTurned cx made o joined
turned_stays mid cx made turned joined None t is g first second = absurd (none_some t is)
turned_stays mid cx made turned joined (Some u) t is g first second =
    subst (λ (v : Theorem). StaysInWith cx [] (v ∷ made ∷ []) joined) (sym (some_same u t is))
    (λ s has over within.
    second s has tt (
      stays_with_grown mid cx [] (t ∷ []) turned g first s has tt (within.0, tt),
      (within.1.0, tt),
    ))

-- ---- what an equation says of its function at terms

-- what is known of the arguments as they are written
pub record IsWritten (cx : Context) (f : ℕ) (e : Equation) (theta : List (Option Tree))
    (us : Forest) (made : Theorem) (normal : Option Theorem) : Type 0 where
  pub says : SaysFilledEquation cx f e theta made.conclusion
  pub stays : StaysIn cx made
  pub calls : SaysNamedCall cx theta e.names f e.arguments normal
  pub makes : instances_of theta e.arguments ≡ Some us

pub filled_grown : (old new : Context) (f : ℕ) (e : Equation) (theta : List (Option Tree))
    (p : Pattern) → HasGrown old new → SaysFilledEquation old f e theta p
    → SaysFilledEquation new f e theta p
filled_grown old new f e theta p g says = record {
  left = says.left;
  left_image =
      image_grown old new
      (filled_sentence theta (applied_sides e.names 0 (symbol f) e.arguments)) says.left g
      says.left_image;
  right = says.right;
  right_image = pattern_grown old new (filled theta e.right) says.right g says.right_image;
  says = says.says;
  no_variable = says.no_variable;
}

pub written_at : (old new : Context) (f : ℕ) (e : Equation) (theta : List (Option Tree))
    (us : Forest) (made : Theorem) (normal : Option Theorem) → HasGrown old new
    → SaysFilledEquation old f e theta made.conclusion → StaysIn old made
    → SaysNamedCall new theta e.names f e.arguments normal → instances_of theta e.arguments ≡ Some us
    → IsWritten new f e theta us made normal
written_at old new f e theta us made normal g says stays calls makes =
    record {
      says = filled_grown old new f e theta made.conclusion g says;
      stays = stays_grown old new made g stays;
      calls = calls;
      makes = makes;
    }

-- the side and the call of the terms are still equal in a context that has grown
sides_grown : (old new : Context) (s : Sentence) (p : RulePattern) (left : Pattern)
    (o : Option Theorem) → HasGrown old new
    → sentence_image old.program.sig old.names s ≡ Some left → AreEqualSides old s p o
    → AreEqualSides new s p o
sides_grown old new s p left None g image same =
    image_grown old new s left g image ∙ sym (pattern_grown old new p left g (sym same ∙ image))
sides_grown old new s p left (Some t) g image (says, stays) = (
  record {
    left = says.left;
    left_image = image_grown old new s says.left g says.left_image;
    right = says.right;
    right_image = pattern_grown old new p says.right g says.right_image;
    says = says.says;
    no_variable = says.no_variable;
  },
  stays_grown old new t g stays,
)

pub written_grown : (old new : Context) (f : ℕ) (e : Equation) (theta : List (Option Tree))
    (us : Forest) (made : Theorem) (normal : Option Theorem) → HasGrown old new
    → IsWritten old f e theta us made normal → IsWritten new f e theta us made normal
written_grown old new f e theta us made normal g h = record {
  says = filled_grown old new f e theta made.conclusion g h.says;
  stays = stays_grown old new made g h.stays;
  calls =
      λ vs made. sides_grown old new
      (filled_sentence theta (applied_sides e.names 0 (symbol f) e.arguments))
      (call f [] (ground_patterns vs)) h.says.left normal g h.says.left_image (h.calls vs made);
  makes = h.makes;
}

-- the image of a sentence
one_image : (cx : Context) (s : Sentence) (p q : Pattern)
    → sentence_image cx.program.sig cx.names s ≡ Some p
    → sentence_image cx.program.sig cx.names s ≡ Some q → p ≡ q
one_image cx s p q h k = some_same p q (sym h ∙ k)

pub written_turns : (cx : Context) (f : ℕ) (e : Equation) (theta : List (Option Tree)) (us : Forest)
    (made : Theorem) (normal : Option Theorem) → IsWritten cx f e theta us made normal
    → CanTurn made.conclusion normal
written_turns cx f e theta us made None w = tt
written_turns cx f e theta us made (Some t) w =
    let side : Sentence = filled_sentence theta (applied_sides e.names 0 (symbol f) e.arguments) in
    let says : SaysNamed cx side (call f [] (ground_patterns us)) t.conclusion =
    (w.calls us w.makes).0 in
    let same : w.says.left ≡ says.left =
    one_image cx side w.says.left says.left w.says.left_image says.left_image in (
      says.left,
      says.right,
      w.says.right,
      says.says,
      w.says.says
          ∙ ap (λ (p : Pattern). equal p w.says.right) same,
      says.no_variable.0,
      says.no_variable.1,
      w.says.no_variable.1,
    )

written_says : (cx : Context) (f : ℕ) (e : Equation) (theta : List (Option Tree)) (us : Forest)
    (made turned : Theorem) (normal : Option Theorem) → IsWritten cx f e theta us made normal
    → IsTurned made normal turned → SaysEquationAt cx f e theta us turned.conclusion
written_says cx f e theta us made turned None w is = record {
  left = w.says.left;
  left_image = sym (w.calls us w.makes) ∙ w.says.left_image;
  right = w.says.right;
  right_image = w.says.right_image;
  says = ap (λ (t : Theorem). t.conclusion) is ∙ w.says.says;
  no_variable = w.says.no_variable;
}
written_says cx f e theta us made turned (Some t) w is =
    let side : Sentence = filled_sentence theta (applied_sides e.names 0 (symbol f) e.arguments) in
    let says : SaysNamed cx side (call f [] (ground_patterns us)) t.conclusion =
    (w.calls us w.makes).0 in
    let same : w.says.left ≡ says.left =
    one_image cx side w.says.left says.left w.says.left_image says.left_image in
    record {
      left = says.right;
      left_image = says.right_image;
      right = w.says.right;
      right_image = w.says.right_image;
      says =
          is says.left says.right w.says.right says.says
          (w.says.says ∙ ap (λ (p : Pattern). equal p w.says.right) same);
      no_variable = (says.no_variable.1, w.says.no_variable.1);
    }

written_stays : (cx : Context) (f : ℕ) (e : Equation) (theta : List (Option Tree)) (us : Forest)
    (made turned : Theorem) (normal : Option Theorem) → IsWritten cx f e theta us made normal
    → StaysTurned cx made normal turned → StaysIn cx turned
written_stays cx f e theta us made turned None w is = subst (StaysIn cx) (sym is) w.stays
written_stays cx f e theta us made turned (Some t) w within =
    λ s has. within s has tt ((w.calls us w.makes).1 s has, (w.stays s has, tt))

pub written_proves : (cx : Context) (f : ℕ) (e : Equation) (theta : List (Option Tree))
    (us : Forest) (made turned : Theorem) (normal : Option Theorem)
    → IsWritten cx f e theta us made normal → IsTurned made normal turned
    → StaysTurned cx made normal turned → ProvesAt cx f e theta us turned
written_proves cx f e theta us made turned normal w is within =
    let stays : StaysIn cx turned = written_stays cx f e theta us made turned normal w within in
    record {
      says = written_says cx f e theta us made turned normal w is;
      no_hypotheses = stays_no_hypotheses cx turned stays;
      stays = stays;
    }

-- ---- the equation's arguments

pub arguments_sorted : (cx : Context) (f : ℕ) (e : Equation) → IsWellSorted (theory_of cx.program)
    → IsEquationFor (theory_of cx.program) f e
    → (refs : List SortRef) × HaveSorts cx.program.sig e.variables [] e.arguments refs
arguments_sorted cx f e ok own =
    let is : IsEquationOf (theory_of cx.program).sig own.info e =
    All-contains (IsEquationOf (theory_of cx.program).sig own.info)
    (equations_of (theory_of cx.program) f) e (ok.equations f own.info own.function)
    own.listed in
    (own.info.args.items, is.arguments)
