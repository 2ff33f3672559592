-- Terms are members of the patterns that become them, as these are written.
use Rattle.std.proofs.Common.{◌≡◌, ◌<◌, ◌≤◌, ◌+◌, ℕ, zero, suc, List, [], ◌∷◌, ◌++◌, Option, Some}
use Rattle.std.proofs.Common.{None, length, get_or, take, refl, sym, ◌∙◌, ap, subst}
use Rattle.std.proofs.Common.{arith}
use Rattle.std.specs.Prelude.{IsSomeAnd}
use Rattle.std.specs.List.{AllZip}
use Rattle.std.proofs.lemmas.List.{take_more, length-take-le}
use Rattle.ml_pat.specs.Patterns.{Pattern, equal, member, var}
use Rattle.ml_pat.specs.Judgements.{substituted as put_in}
use Rattle.ml_kernel.specs.Lemmas.{HasNoVariable}
use Rattle.ml_kernel.specs.Theorems.{Theorem}
use Rattle.ml_kernel.proofs.InstanceLaws.{substituted-without}
use Rattle.ml_derived.specs.Scopes.{IsOver, StaysWithin}
use Rattle.ml_derived.specs.Equalities.{CanCarry, IsCarried, IsFromClosed, IsFlip}
use Rattle.term_core.specs.Terms.{Tree, Forest, no_tree, more_trees, height}
use Rattle.term_core.specs.Forests.{forest}
use Rattle.term_core.specs.Patterns.{Pattern as RulePattern, Patterns as RulePatterns, no_pattern}
use Rattle.term_core.specs.Patterns.{more_patterns, instance_of, instances_of, ground_pattern}
use Rattle.term_core.specs.Instances.{FitsWithin}
use Rattle.term_core.specs.RulePatterns.{plain_pattern}
use Rattle.term_core.specs.PatternLists.{plain_patterns}
use Rattle.term_core.specs.declared.rule_patterns.RulePat.{RulePat}
use Rattle.rule_core.specs.NamedParts.{Name}
use Rattle.rule_core.specs.Rules.{Equation}
use Rattle.rule_core.specs.Sorting.{HasSort, HaveSorts}
use Rattle.rule_core.specs.MatchLaws.{AreTermsOf}
use Rattle.rule_core.specs.declared.signature.Signature.{Signature}
use Rattle.rule_core.specs.declared.signature.SortRef.{SortRef}
use Rattle.rule_core.proofs.SortedInstances.{both_there, instances_are_sorted}
use Rattle.ml_image.specs.Images.{image_of}
use Rattle.ml_image.specs.NamedSides.{left_sentence, of_child}
use Rattle.ml_image.specs.Sentences.{Sentence}
use Rattle.ml_image.proofs.ImageLaws.{none_some, some_same}
use Rattle.prove_term.specs.Contexts.{Context, HasGrown, StaysIn}
use Rattle.prove_term.specs.FilledSides.{filled_sentence, SaysNamed, SaysNamedImage}
use Rattle.prove_term.proofs.ContextLaws.{image_grown, stays_grown}
use Rattle.prove_schema.specs.Elements.{AreTerms, IsElementOf}
use Rattle.prove_schema.proofs.ElementLaws.{pattern_grown}
use Rattle.prove_equation.specs.Conditions.{CanUseAt}
use Rattle.prove_equation.specs.Parameters.{SaysMember, IsMembership, AreMemberships, IsInItself}
use Rattle.prove_equation.specs.Parameters.{CanEnter, IsEntered, StaysEntered, IsInHole}
use Rattle.prove_equation.proofs.TurningLaws.{arguments_sorted}

-- ---- `q in p`

some_of : (o : Option Theorem) (t u : Theorem) → o ≡ Some t → o ≡ Some u → t ≡ u
some_of o t u h k = some_same t u (sym h ∙ k)

pub enter_flips : (itself : Pattern) (o : Option Theorem) (t : Theorem) → o ≡ Some t
    → CanEnter itself o → IsFromClosed t.conclusion
enter_flips itself None t is can = absurd (none_some t is)
enter_flips itself (Some u) t is (p, q, first, second, closed, other) =
    subst (λ (v : Theorem). IsFromClosed v.conclusion) (some_same u t is) (p, (q, (first, closed)))

pub enter_turned : (itself turned : Pattern) (o : Option Theorem) (t : Theorem) → o ≡ Some t
    → CanEnter itself o → IsFlip t.conclusion turned
    → (p : Pattern) × (q : Pattern) × (turned ≡ equal p q)
enter_turned itself turned None t is can flips = absurd (none_some t is)
enter_turned itself turned (Some u) t is (p, q, first, second, closed, other) flips =
    (q, p, flips p q (ap (λ (v : Theorem). v.conclusion) (sym (some_same u t is)) ∙ first))

put_hole : (q u : Pattern) → HasNoVariable q → put_in (member q (var 0)) 0 u ≡ Some (member q u)
put_hole q u closed = rw (substituted-without q 0 u closed) refl

pub enter_carries : (itself turned context : Pattern) (o : Option Theorem) (t : Theorem)
    → o ≡ Some t → CanEnter itself o → IsFlip t.conclusion turned → IsInHole turned context
    → CanCarry turned context 0 itself
enter_carries itself turned context None t is can flips hole = absurd (none_some t is)
enter_carries itself turned context (Some u) t is (p, q, first, second, closed, other) flips hole =
    let same : turned ≡ equal q p =
    flips p q (ap (λ (v : Theorem). v.conclusion) (sym (some_same u t is)) ∙ first) in
    let shape : context ≡ member q (var 0) = hole q p same in
    let given : put_in context 0 q ≡ Some itself =
    ap (λ (c : Pattern). put_in c 0 q) shape ∙ put_hole q q other
    ∙ ap (λ (r : Pattern). Some r) (sym second) in
    let made : put_in context 0 p ≡ Some (member q p) =
    ap (λ (c : Pattern). put_in c 0 p) shape ∙ put_hole q p other in
    (q, (p, (member q p, (same, (given, made)))))

pub entered_says : (itself turned entered : Theorem) (context : Pattern) (o : Option Theorem)
    (t : Theorem) → o ≡ Some t → IsFlip t.conclusion turned.conclusion
    → IsInHole turned.conclusion context → IsCarried turned.conclusion context 0 entered.conclusion
    → IsEntered itself o entered
entered_says itself turned entered context None t is flips hole carried = absurd (none_some t is)
entered_says itself turned entered context (Some u) t is flips hole carried =
    λ p q first second other.
    let same : turned.conclusion ≡ equal q p =
    flips p q (ap (λ (v : Theorem). v.conclusion) (sym (some_same u t is)) ∙ first) in
    let shape : context ≡ member q (var 0) = hole q p same in
    some_same entered.conclusion (member q p)
    (sym (carried q p same) ∙ ap (λ (c : Pattern). put_in c 0 p) shape ∙ put_hole q p other)

pub entered_stays : (itself turned entered : Theorem) (context : Pattern) (o : Option Theorem)
    (t : Theorem) → o ≡ Some t → CanEnter itself.conclusion o
    → IsFlip t.conclusion turned.conclusion → IsInHole turned.conclusion context
    → StaysWithin (var 0 ∷ []) (t ∷ []) turned
    → StaysWithin (context ∷ (var 0 ∷ [])) (turned ∷ (itself ∷ [])) entered
    → StaysEntered itself o entered
entered_stays itself turned entered context None t is can flips hole first second =
    absurd (none_some t is)
entered_stays itself turned entered context (Some u) t is (p, q, equality, own, closed, other) flips
    hole first second =
    let same : turned.conclusion ≡ equal q p =
    flips p q (ap (λ (v : Theorem). v.conclusion) (sym (some_same u t is)) ∙ equality) in
    let shape : context ≡ member q (var 0) = hole q p same in
    subst (λ (v : Theorem). StaysWithin (var 0 ∷ []) (v ∷ itself ∷ []) entered)
    (sym (some_same u t is))
    (λ s over within. second s (
      subst (IsOver s) (sym shape)
          ((subst (IsOver s) own within.1.0.conclusion).0, over.0),
      over,
    )
    (first s over (within.0, tt), (within.1.0, tt)))

-- ---- a term as a member of a pattern

-- what is known of the term and the pattern
pub record IsShown (cx : Context) (theta : List (Option Tree)) (names : List Name)
    (p : RulePattern) (u : Tree) (itself : Theorem) (o : Option Theorem) : Type 0 where
  pub element : Pattern
  pub element_image : image_of cx.program.sig cx.names (ground_pattern u) ≡ Some element
  pub says : itself.conclusion ≡ member element element
  pub stays : StaysIn cx itself
  pub equals : SaysNamedImage cx theta names p o
  pub makes : instance_of theta p ≡ Some u

pub shown : (old new : Context) (theta : List (Option Tree)) (names : List Name) (p : RulePattern)
    (u : Tree) (fact itself : Theorem) (o : Option Theorem) → HasGrown old new
    → IsElementOf old u fact → IsInItself fact itself → StaysWithin [] (fact ∷ []) itself
    → SaysNamedImage new theta names p o → instance_of theta p ≡ Some u
    → IsShown new theta names p u itself o
shown old new theta names p u fact itself o g (says, stays) own within equals makes = record {
  element = says.image;
  element_image = pattern_grown old new (ground_pattern u) says.image g says.is_image;
  says = own says.image says.number says.says;
  stays = λ s has. within s tt (stays_grown old new fact g stays s has, tt);
  equals = equals;
  makes = makes;
}

same_right : (cx : Context) (u : Tree) (p q : Pattern)
    → image_of cx.program.sig cx.names (ground_pattern u) ≡ Some p
    → image_of cx.program.sig cx.names (ground_pattern u) ≡ Some q → p ≡ q
same_right cx u p q h k = some_same p q (sym h ∙ k)

-- what the theorem says, if there is one
equal_of : (cx : Context) (theta : List (Option Tree)) (names : List Name) (p : RulePattern)
    (u : Tree) (itself e : Theorem) → IsShown cx theta names p u itself (Some e)
    → SaysNamed cx (filled_sentence theta (left_sentence names p)) (ground_pattern u) e.conclusion
equal_of cx theta names p u itself e w = (w.equals u w.makes).0

pub shown_enters : (cx : Context) (theta : List (Option Tree)) (names : List Name) (p : RulePattern)
    (u : Tree) (itself : Theorem) (o : Option Theorem) → IsShown cx theta names p u itself o
    → CanEnter itself.conclusion o
shown_enters cx theta names p u itself None w = tt
shown_enters cx theta names p u itself (Some e) w =
    let says : SaysNamed cx (filled_sentence theta (left_sentence names p)) (ground_pattern u)
    e.conclusion =
    equal_of cx theta names p u itself e w in
    let same : w.element ≡ says.right =
    same_right cx u w.element says.right w.element_image says.right_image in (
      says.left,
      says.right,
      says.says,
      w.says
          ∙ ap (λ (q : Pattern). member q q) same,
      says.no_variable.0,
      says.no_variable.1,
    )

pub shown_member : (cx : Context) (theta : List (Option Tree)) (names : List Name) (p : RulePattern)
    (u : Tree) (itself entered : Theorem) (o : Option Theorem)
    → IsShown cx theta names p u itself o → IsEntered itself o entered
    → StaysEntered itself o entered → IsMembership cx theta names p u entered
shown_member cx theta names p u itself entered None w is stays = (
  record {
    element = w.element;
    element_image = w.element_image;
    whole = w.element;
    whole_image = w.equals u w.makes ∙ w.element_image;
    says = ap (λ (t : Theorem). t.conclusion) is ∙ w.says;
  },
  subst (StaysIn cx) (sym is) w.stays,
)
shown_member cx theta names p u itself entered (Some e) w is stays =
    let says : SaysNamed cx (filled_sentence theta (left_sentence names p)) (ground_pattern u)
    e.conclusion =
    equal_of cx theta names p u itself e w in
    let same : w.element ≡ says.right =
    same_right cx u w.element says.right w.element_image says.right_image in (
      record {
        element = says.right;
        element_image = says.right_image;
        whole = says.left;
        whole_image = says.left_image;
        says =
            is says.left says.right says.says (w.says ∙ ap (λ (q : Pattern). member q q) same)
            says.no_variable.1;
      },
      (λ s has. stays s (has.objects 0, tt) ((w.equals u w.makes).1 s has, (w.stays s has, tt))),
    )

pub fits_term : (n : ℕ) (theta : List (Option Tree)) (p : RulePattern) (u : Tree)
    → instance_of theta p ≡ Some u → height u ≤ n → FitsWithin n theta p
fits_term n theta p u makes low =
    subst (λ (o : Option Tree). IsSomeAnd o (λ (t : Tree). height t ≤ n)) (sym makes) low

-- ---- one after another

-- the same number of the argument
at_argument : (cx : Context) (theta : List (Option Tree)) (names : List Name) (j k : ℕ)
    (p : RulePattern) (u : Tree) (m : Theorem) → j ≡ k
    → IsMembership cx theta (of_child j names) p u m
    → IsMembership cx theta (of_child k names) p u m
at_argument cx theta names j k p u m same here =
    subst (λ (i : ℕ). IsMembership cx theta (of_child i names) p u m) same here

pub memberships_grown : (old new : Context) (theta : List (Option Tree)) (names : List Name) (k : ℕ)
    (ps : RulePatterns) (us : List Tree) (ms : List Theorem) → HasGrown old new
    → AreMemberships old theta names k ps us ms → AreMemberships new theta names k ps us ms
memberships_grown old new theta names k no_pattern [] [] g h = tt
memberships_grown old new theta names k no_pattern [] (m ∷ ms) g h = absurd h
memberships_grown old new theta names k no_pattern (u ∷ us) ms g h = absurd h
memberships_grown old new theta names k (more_patterns p ps) [] ms g h = absurd h
memberships_grown old new theta names k (more_patterns p ps) (u ∷ us) [] g h = absurd h
memberships_grown old new theta names k (more_patterns p ps) (u ∷ us) (m ∷ ms) g h = (
  (one h.0.0, stays_grown old new m g h.0.1),
  memberships_grown old new theta names (k + 1) ps us ms g h.1,
)
  where
    side : Sentence
    side = filled_sentence theta (left_sentence (of_child k names) p)

    one : SaysMember old theta (of_child k names) p u m.conclusion
        → SaysMember new theta (of_child k names) p u m.conclusion
    one says = record {
      element = says.element;
      element_image = pattern_grown old new (ground_pattern u) says.element g says.element_image;
      whole = says.whole;
      whole_image = image_grown old new side says.whole g says.whole_image;
      says = says.says;
    }

memberships_push : (cx : Context) (theta : List (Option Tree)) (names : List Name) (k : ℕ)
    (ps : List RulePat) (us : List Tree) (ms : List Theorem) (p : RulePat) (u : Tree) (m : Theorem)
    → AreMemberships cx theta names k (plain_patterns ps) us ms
    → IsMembership cx theta (of_child (k + length ps) names) (plain_pattern p) u m
    → AreMemberships cx theta names k (plain_patterns (ps ++ p ∷ [])) (us ++ u ∷ []) (ms ++ m ∷ [])
memberships_push cx theta names k [] [] [] p u m h here =
    (at_argument cx theta names (k + 0) k (plain_pattern p) u m (omega arith) here, tt)
memberships_push cx theta names k [] [] (n ∷ ms) p u m h here = absurd h
memberships_push cx theta names k [] (v ∷ us) ms p u m h here = absurd h
memberships_push cx theta names k (q ∷ ps) [] ms p u m h here = absurd h
memberships_push cx theta names k (q ∷ ps) (v ∷ us) [] p u m h here = absurd h
memberships_push cx theta names k (q ∷ ps) (v ∷ us) (n ∷ ms) p u m h here = (
  h.0,
  memberships_push cx theta names (k + 1) ps us ms p u m h.1
      (at_argument cx theta names (k + length (q ∷ ps)) (k + 1 + length ps) (plain_pattern p) u m
      (omega arith) here),
)

pub one_more_membership : (old new : Context) (theta : List (Option Tree)) (names : List Name)
    (ps : List RulePat) (us : List Tree) (i : ℕ) (p : RulePat) (u : Tree) (ms : List Theorem)
    (m : Theorem) → i < length ps → i < length us → p ≡ get_or ps i p → u ≡ get_or us i u
    → HasGrown old new
    → AreMemberships old theta names 0 (plain_patterns (take i ps)) (take i us) ms
    → IsMembership new theta (of_child i names) (plain_pattern p) u m
    → AreMemberships new theta names 0 (plain_patterns (take (i + 1) ps)) (take (i + 1) us)
    (ms ++ m ∷ [])
one_more_membership old new theta names ps us i p u ms m low below at on g before here =
    let front : take (i + 1) ps ≡ take i ps ++ p ∷ [] =
    take_more ps i p low ∙ ap (λ (q : RulePat). take i ps ++ q ∷ []) (sym at) in
    let terms : take (i + 1) us ≡ take i us ++ u ∷ [] =
    take_more us i u below ∙ ap (λ (v : Tree). take i us ++ v ∷ []) (sym on) in
    let many : i ≡ 0 + length (take i ps) = omega (arith, length-take-le i ps (omega (arith, low))) in
    subst (λ (qs : List RulePat).
    AreMemberships new theta names 0 (plain_patterns qs) (take (i + 1) us) (ms ++ m ∷ []))
    (sym front)
    (subst (λ (vs : List Tree).
    AreMemberships new theta names 0 (plain_patterns (take i ps ++ p ∷ [])) vs (ms ++ m ∷ []))
    (sym terms)
    (memberships_push new theta names 0 (take i ps) (take i us) ms p u m
    (memberships_grown old new theta names 0 (plain_patterns (take i ps)) (take i us) ms g before)
    (at_argument new theta names i (0 + length (take i ps)) (plain_pattern p) u m many here)))

-- one of the arguments
one_of : (theta : List (Option Tree)) (q : RulePat) (ps : List RulePat) (v : Tree) (us : List Tree)
    (i : ℕ) (p : RulePat) (u : Tree) → instance_of theta (plain_pattern q) ≡ Some v
    → i < length (q ∷ ps) → p ≡ get_or (q ∷ ps) i p → u ≡ get_or (v ∷ us) i u
    → ((x : ℕ) → x < length ps → p ≡ get_or ps x p → u ≡ get_or us x u
    → instance_of theta (plain_pattern p) ≡ Some u)
    → instance_of theta (plain_pattern p) ≡ Some u
one_of theta q ps v us zero p u one low at on below =
    ap (λ (r : RulePat). instance_of theta (plain_pattern r)) at ∙ one
    ∙ ap (λ (t : Tree). Some t) (sym on)
one_of theta q ps v us (suc i) p u one low at on below = below i (omega (arith, low)) at on

pub argument_makes : (theta : List (Option Tree)) (ps : List RulePat) (us : List Tree) (i : ℕ)
    (p : RulePat) (u : Tree) → instances_of theta (plain_patterns ps) ≡ Some (forest us)
    → i < length ps → p ≡ get_or ps i p → u ≡ get_or us i u
    → instance_of theta (plain_pattern p) ≡ Some u
argument_makes theta [] us i p u h low at on = absurd (omega (arith, low))
argument_makes theta (q ∷ ps) [] i p u h low at on =
    let parts : (t : Tree) × ((vs : Forest)
    × ((no_tree ≡ more_trees t vs)
    × ((instance_of theta (plain_pattern q) ≡ Some t)
    × (instances_of theta (plain_patterns ps) ≡ Some vs)))) =
    both_there (instance_of theta (plain_pattern q)) (instances_of theta (plain_patterns ps))
    no_tree h in
    absurd (differ parts.0 parts.1.0 parts.1.1.0)
  where
    differ : (t : Tree) (vs : Forest) → no_tree ≡ more_trees t vs → ⊥
    differ t vs e = cc
argument_makes theta (q ∷ ps) (v ∷ us) i p u h low at on =
    let parts : (t : Tree) × ((vs : Forest)
    × ((more_trees v (forest us) ≡ more_trees t vs)
    × ((instance_of theta (plain_pattern q) ≡ Some t)
    × (instances_of theta (plain_patterns ps) ≡ Some vs)))) =
    both_there (instance_of theta (plain_pattern q)) (instances_of theta (plain_patterns ps))
    (more_trees v (forest us)) h in
    one_of theta q ps v us i p u (parts.1.1.1.0
    ∙ ap (λ (t : Tree). Some t)
    (sym (first_same v parts.0 (forest us) parts.1.0 parts.1.1.0))) low at on
    (λ x below there place. argument_makes theta ps us x p u (parts.1.1.1.1
    ∙ ap (λ (ws : Forest). Some ws)
    (sym (others_same v parts.0 (forest us) parts.1.0 parts.1.1.0))) below there place)
  where
    first_same : (a b : Tree) (ws vs : Forest) → more_trees a ws ≡ more_trees b vs → a ≡ b
    first_same a b ws vs e = cc

    others_same : (a b : Tree) (ws vs : Forest) → more_trees a ws ≡ more_trees b vs → ws ≡ vs
    others_same a b ws vs e = cc

pub argument_sorted : (sig : Signature) (vars : List ℕ) (ps : List RulePat) (refs : List SortRef)
    (i : ℕ) (p : RulePat) → HaveSorts sig vars [] (plain_patterns ps) refs → i < length ps
    → p ≡ get_or ps i p → (sort : ℕ) × HasSort sig vars (plain_pattern p) sort
argument_sorted sig vars [] refs i p h low at = absurd (omega (arith, low))
argument_sorted sig vars (q ∷ ps) [] i p h low at = absurd h
argument_sorted sig vars (q ∷ ps) (r ∷ refs) zero p h low at =
    (h.0, subst (λ (x : RulePat). HasSort sig vars (plain_pattern x) h.0) (sym at) h.2)
argument_sorted sig vars (q ∷ ps) (r ∷ refs) (suc i) p h low at =
    argument_sorted sig vars ps refs i p h.3 (omega (arith, low)) at

pub fact_item : (cx : Context) (us : List Tree) (ts : List Theorem) (i : ℕ) (u : Tree) (t : Theorem)
    → AllZip (IsElementOf cx) us ts → i < length us → u ≡ get_or us i u → t ≡ get_or ts i t
    → IsElementOf cx u t
fact_item cx [] ts i u t h low at on = absurd (omega (arith, low))
fact_item cx (v ∷ us) [] i u t h low at on = absurd h
fact_item cx (v ∷ us) (s ∷ ts) zero u t h low at on =
    subst (λ (x : Tree). IsElementOf cx x t) (sym at) (subst (IsElementOf cx v) (sym on) h.0)
fact_item cx (v ∷ us) (s ∷ ts) (suc i) u t h low at on =
    fact_item cx us ts i u t h.1 (omega (arith, low)) at on

pub as_many_facts : (cx : Context) (us : List Tree) (ts : List Theorem)
    → AllZip (IsElementOf cx) us ts → length us ≡ length ts
as_many_facts cx [] [] h = refl
as_many_facts cx [] (t ∷ ts) h = absurd h
as_many_facts cx (u ∷ us) [] h = absurd h
as_many_facts cx (u ∷ us) (t ∷ ts) h = ap suc (as_many_facts cx us ts h.1)

-- ---- an equation used at terms

terms_of : (sig : Signature) (us : List Tree) (refs : List SortRef)
    → AreTermsOf sig [] (forest us) refs → AreTerms sig us
terms_of sig [] refs h k d low = absurd (omega (arith, low))
terms_of sig (u ∷ us) [] h k d low = absurd h
terms_of sig (u ∷ us) (r ∷ refs) h zero d low = (h.0, h.2)
terms_of sig (u ∷ us) (r ∷ refs) h (suc k) d low = terms_of sig us refs h.3 k d (omega (arith, low))

pub met_terms : {cx : Context} {f : ℕ} {e : Equation} {lemma : Theorem} {theta : List (Option Tree)}
    {o d : Option Theorem} (us : List Tree) → CanUseAt cx f e lemma theta (forest us) o d
    → AreTerms cx.program.sig us
met_terms {cx} {f} {e} {lemma} {theta} us can =
    let args : (refs : List SortRef) × HaveSorts cx.program.sig e.variables [] e.arguments refs =
    arguments_sorted cx f e can.well_sorted can.own in
    terms_of cx.program.sig us args.0 (instances_are_sorted cx.program.sig e.variables []
    e.arguments args.0 theta (forest us) args.1 can.matches.binds.sorted can.matches.makes).0
