-- The parts of a guard's body, and what mismatches and inversions say of them.
use Rattle.std.proofs.Common.{◌≡◌, ◌⊎◌, inl, inr, ◌<◌, ℕ, zero, suc, List, [], ◌∷◌, length, Option}
use Rattle.std.proofs.Common.{Some, None, option_map, slice_get, refl, sym, ◌∙◌, ap, subst}
use Rattle.std.specs.Prelude.{All, Contains}
use Rattle.std.proofs.lemmas.Option.{slice_get_within}
use Rattle.ml_pat.specs.Patterns.{Pattern as LogicPattern, imp}
use Rattle.ml_pat.specs.Patterns as logic
use Rattle.ml_pat.specs.Judgements.{IsPredicate}
use Rattle.ml_pat.proofs.LeafLaws.{both_true}
use Rattle.term_core.specs.Terms.{Tree}
use Rattle.term_core.specs.Patterns.{binding, ground_pattern}
use Rattle.term_core.specs.RulePatterns.{sort_numbers}
use Rattle.rule_core.specs.AcSymbols.{IsAcFree}
use Rattle.rule_core.specs.Matching.{OccursIn}
use Rattle.rule_core.specs.NamedParts.{IsNamed}
use Rattle.rule_core.specs.ProgramView.{theory_of}
use Rattle.rule_core.specs.Sorting.{AreSorts}
use Rattle.rule_core.specs.WellSorted.{IsWellSorted}
use Rattle.rule_core.specs.declared.rules.Program.{Program}
use Rattle.ml_image.specs.NamedSides.{left_sentence, of_child}
use Rattle.ml_image.specs.Sentences.{Sentence, and, bottom, sentence_image, term}
use Rattle.ml_kernel.specs.Theorems.{Theorem}
use Rattle.ml_derived.specs.Scopes.{StaysWithin}
use Rattle.prove_term.specs.Contexts.{Context, HasGrown, StaysIn}
use Rattle.prove_term.proofs.ContextLaws.{image_grown}
use Rattle.prove_term.proofs.ImageShapes.{both_some, map_some}
use Rattle.prove_open.specs.Givens.{HasFact, IsOverContext, all_sorted}
use Rattle.prove_open.proofs.GatheringLaws.{given_grown}
use Rattle.refute.specs.NamedRefutations.{inverted_named, mismatched_named, named_in_common}
use Rattle.refute.specs.Refutations.{SaysSentence, all_bound, is_bound_to}
use Rattle.guard_body.specs.Arguments.{IsArgument, IsVariableOf, all_in, in_argument, part_names_of}
use Rattle.guard_body.specs.Arguments.{pattern_of}
use Rattle.refute_guard.specs.Bodies.{variables_of}
use Rattle.refute_guard.specs.Implications.{AreDisjointAt, AreInvertedAt, IsInvertedAt, all_of}
use Rattle.refute_body.specs.Conditions.{SaysUnderTwo}
use Rattle.guard_body.specs.Guarded.{IsGuarded}
use Rattle.guard_body.specs.declared.arguments.Argument.{Argument}
use Rattle.guard_body.specs.declared.guarded.Guarded.{Guarded}
use Rattle.refute_guard.proofs.Growths.{program_grown}
use Rattle.refute_guard.proofs.WrittenVariables.{child_named, written_variables}

some_same : {A : Type 0} (x y : A) → Some x ≡ Some y → x ≡ y
some_same x y e = cc

-- ---- growing

pub guarded_grown : (a b : Context) (c : Sentence) (x : Guarded) → HasGrown a b → IsGuarded a c x
    → IsGuarded b c x
guarded_grown a b c x g is = record {
  well_sorted =
      program_grown a b (λ (program : Program). IsWellSorted (theory_of program)) g is.well_sorted;
  no_ac = program_grown a b (λ (program : Program). IsAcFree program.sig) g is.no_ac;
  sorts =
      program_grown a b (λ (program : Program). AreSorts program.sig (sort_numbers x.sorts.items)) g
      is.sorts;
  given = given_grown a b (sort_numbers x.sorts.items) x.given g is.given;
  few = is.few;
  arguments =
      program_grown a b (λ (program : Program). All (IsArgument program.sig
      (sort_numbers x.sorts.items)) x.arguments.items) g is.arguments;
  facts = is.facts;
  body = image_grown a b (and c (all_in x.arguments.items)) x.body g is.body;
}

-- each variable of the argument, as it is written, is given
pub written_given : (cx : Context) (c : Sentence) (x : Guarded) (i : ℕ) (a : Argument)
    → IsGuarded cx c x → slice_get x.arguments.items i ≡ Some a → (y : ℕ)
    → Contains (variables_of a) y → HasFact x.given y
written_given cx c x i a is at =
    written_variables (of_child 0 (part_names_of a)) (pattern_of a) (HasFact x.given)
    (λ y o. is.facts i y a at (go y o))
  where
    go : (y : ℕ) → OccursIn y (pattern_of a) ⊎ IsNamed (of_child 0 (part_names_of a)) y
        → IsVariableOf a y
    go y (inl o) = inl o
    go y (inr named) = inr (child_named 0 (part_names_of a) y named)

-- ---- members

-- the members of a body
pub record HaveMembers (cx : Context) (arguments : List Argument) (r : LogicPattern) : Type 0 where
  pub members : List LogicPattern
  pub are : r ≡ all_of members
  pub each : (i : ℕ) (a : Argument) → slice_get arguments i ≡ Some a
      → (m : LogicPattern) × (slice_get members i ≡ Some m)
      × (sentence_image cx.program.sig cx.names (in_argument a) ≡ Some m)

pub have_members : (cx : Context) (arguments : List Argument) (r : LogicPattern)
    → sentence_image cx.program.sig cx.names (all_in arguments) ≡ Some r
    → HaveMembers cx arguments r
have_members cx [] r is = record {
  members = [];
  are = sym (some_same logic.top r is);
  each = λ i a at. absurd (let no : ⊥ = cc in no);
}
have_members cx (b ∷ arguments) r is =
    let w = both_some logic.and (sentence_image cx.program.sig cx.names (in_argument b))
    (sentence_image cx.program.sig cx.names (all_in arguments)) r is in
    let rest : HaveMembers cx arguments w.1 = have_members cx arguments w.1 w.3 in
    record {
      members = w.0 ∷ rest.members;
      are = w.4 ∙ ap (logic.and w.0) rest.are;
      each = each_member cx b arguments w.0 rest.members w.2 rest.each;
    }
  where
    each_member : (cx : Context) (b : Argument) (arguments : List Argument) (m : LogicPattern)
        (ms : List LogicPattern)
        → sentence_image cx.program.sig cx.names (in_argument b) ≡ Some m
        → ((i : ℕ) (a : Argument) → slice_get arguments i ≡ Some a
        → (n : LogicPattern) × (slice_get ms i ≡ Some n)
        × (sentence_image cx.program.sig cx.names (in_argument a) ≡ Some n))
        → (i : ℕ) (a : Argument) → slice_get (b ∷ arguments) i ≡ Some a
        → (n : LogicPattern) × (slice_get (m ∷ ms) i ≡ Some n)
        × (sentence_image cx.program.sig cx.names (in_argument a) ≡ Some n)
    each_member cx b arguments m ms first rest zero a at = (
      m,
      refl,
      ap (λ (d : Argument). sentence_image cx.program.sig cx.names (in_argument d))
          (sym (some_same b a at)) ∙ first,
    )
    each_member cx b arguments m ms first rest (suc i) a at = rest i a at

-- the place of an argument in the body
pub record IsPlace (cx : Context) (x : Guarded) (i : ℕ) (a : Argument) : Type 0 where
  pub condition : LogicPattern
  pub members : List LogicPattern
  pub is : x.body ≡ logic.and condition (all_of members)
  pub low : i < length members
  pub left : LogicPattern
  pub right : LogicPattern
  pub is_left : sentence_image cx.program.sig cx.names (term (ground_pattern a.term.now)) ≡ Some left
  pub is_right : sentence_image cx.program.sig cx.names
      (left_sentence (of_child 0 (part_names_of a)) (pattern_of a)) ≡ Some right
  pub member : slice_get members i ≡ Some (logic.member left right)

pub place_of : (cx : Context) (c : Sentence) (x : Guarded) (i : ℕ) (a : Argument)
    → IsGuarded cx c x → slice_get x.arguments.items i ≡ Some a → IsPlace cx x i a
place_of cx c x i a is at =
    let w = both_some logic.and (sentence_image cx.program.sig cx.names c)
    (sentence_image cx.program.sig cx.names (all_in x.arguments.items)) x.body is.body in
    let all : HaveMembers cx x.arguments.items w.1 =
    have_members cx x.arguments.items w.1 w.3 in
    let one = all.each i a at in
    let v = both_some logic.member
    (sentence_image cx.program.sig cx.names (term (ground_pattern a.term.now)))
    (sentence_image cx.program.sig cx.names
    (left_sentence (of_child 0 (part_names_of a)) (pattern_of a))) one.0 one.2 in
    record {
      condition = w.0;
      members = all.members;
      is = w.4 ∙ ap (logic.and w.0) all.are;
      low = slice_get_within all.members i one.0 one.1;
      left = v.0;
      right = v.1;
      is_left = v.2;
      is_right = v.3;
      member = one.1 ∙ ap (λ (p : LogicPattern). Some p) v.4;
    }

-- ---- mismatches

-- what the theorem of a mismatch says
pub record IsMismatch (cx : Context) (sorts : List ℕ) (a : Argument) (n : LogicPattern) : Type 0
  where
    pub h : LogicPattern
    pub is_h : sentence_image cx.program.sig cx.names (all_sorted sorts (variables_of a)) ≡ Some h
    pub right : LogicPattern
    pub is_right : sentence_image cx.program.sig cx.names
        (left_sentence (of_child 0 (part_names_of a)) (pattern_of a)) ≡ Some right
    pub left : LogicPattern
    pub is_left : sentence_image cx.program.sig cx.names (term (ground_pattern a.term.now))
        ≡ Some left
    pub says : n ≡ imp h (logic.not (logic.and right left))

pub mismatch_is : (cx : Context) (sorts : List ℕ) (a : Argument) (n : LogicPattern)
    → SaysSentence cx (mismatched_named sorts (of_child 0 (part_names_of a)) (pattern_of a)
    a.term.now) n → IsMismatch cx sorts a n
mismatch_is cx sorts a n says =
    let common : Sentence =
    named_in_common (of_child 0 (part_names_of a)) (pattern_of a) a.term.now in
    let w = both_some imp (sentence_image cx.program.sig cx.names (all_sorted sorts (variables_of a)))
    (option_map logic.not
    (sentence_image cx.program.sig cx.names common)) n says in
    let v = map_some logic.not (sentence_image cx.program.sig cx.names common) w.1 w.3 in
    let u = both_some logic.and (sentence_image cx.program.sig cx.names
    (left_sentence (of_child 0 (part_names_of a)) (pattern_of a)))
    (sentence_image cx.program.sig cx.names (term (ground_pattern a.term.now))) v.0 v.1 in
    record {
      h = w.0;
      is_h = w.2;
      right = u.0;
      is_right = u.2;
      left = u.1;
      is_left = u.3;
      says = w.4 ∙ ap (imp w.0) (v.2 ∙ ap logic.not u.4);
    }

-- what the theorem of an inversion says
pub record IsInversion (cx : Context) (sorts : List ℕ) (theta : List (Option Tree)) (a : Argument)
    (n : LogicPattern) : Type 0 where
  pub h : LogicPattern
  pub is_h : sentence_image cx.program.sig cx.names (all_sorted sorts (variables_of a)) ≡ Some h
  pub right : LogicPattern
  pub is_right : sentence_image cx.program.sig cx.names
      (left_sentence (of_child 0 (part_names_of a)) (pattern_of a)) ≡ Some right
  pub left : LogicPattern
  pub is_left : sentence_image cx.program.sig cx.names (term (ground_pattern a.term.now))
      ≡ Some left
  pub equations : LogicPattern
  pub are_equations : sentence_image cx.program.sig cx.names (all_bound theta (variables_of a))
      ≡ Some equations
  pub says : n ≡ imp (logic.and h (logic.and right left)) equations

pub inversion_is : (cx : Context) (sorts : List ℕ) (theta : List (Option Tree)) (a : Argument)
    (n : LogicPattern)
    → SaysSentence cx (inverted_named sorts theta (of_child 0 (part_names_of a)) (pattern_of a)
    a.term.now) n → IsInversion cx sorts theta a n
inversion_is cx sorts theta a n says =
    let common : Sentence =
    named_in_common (of_child 0 (part_names_of a)) (pattern_of a) a.term.now in
    let w = both_some imp (sentence_image cx.program.sig cx.names
    (and (all_sorted sorts (variables_of a)) common))
    (sentence_image cx.program.sig cx.names (all_bound theta (variables_of a))) n says in
    let v = both_some logic.and (sentence_image cx.program.sig cx.names
    (all_sorted sorts (variables_of a))) (sentence_image cx.program.sig cx.names common) w.0 w.2 in
    let u = both_some logic.and (sentence_image cx.program.sig cx.names
    (left_sentence (of_child 0 (part_names_of a)) (pattern_of a)))
    (sentence_image cx.program.sig cx.names (term (ground_pattern a.term.now))) v.1 v.3 in
    record {
      h = v.0;
      is_h = v.2;
      right = u.0;
      is_right = u.2;
      left = u.1;
      is_left = u.3;
      equations = w.1;
      are_equations = w.3;
      says =
          w.4 ∙ ap (λ (p : LogicPattern). imp p w.1) (v.4 ∙ ap (logic.and v.0) u.4);
    }

-- ---- what the calls of the rules rest on

pub disjoint_at : (cx : Context) (sorts : List ℕ) (x : Guarded) (i : ℕ) (a : Argument)
    (n weaker inside : LogicPattern) (p : IsPlace cx x i a) (m : IsMismatch cx sorts a n)
    → weaker ≡ imp x.given.hypothesis m.h
    → inside ≡ imp x.body (logic.member p.left p.right) → IsPredicate x.given.hypothesis
    → AreDisjointAt x.given.hypothesis n weaker inside
disjoint_at cx sorts x i a n weaker inside p m is_weaker is_inside predicate = record {
  h = m.h;
  b = x.body;
  q = p.right;
  t = p.left;
  is_none =
      m.says
      ∙ ap (λ (q : LogicPattern). imp m.h (logic.not (logic.and q m.left)))
      (some_same m.right p.right (sym m.is_right ∙ p.is_right))
      ∙ ap (λ (t : LogicPattern). imp m.h (logic.not (logic.and p.right t)))
      (some_same m.left p.left (sym m.is_left ∙ p.is_left));
  is_weaker = is_weaker;
  is_inside = is_inside;
  predicate = predicate;
}

equation_predicate : (cx : Context) (y : ℕ) (o : Option Tree) (e : LogicPattern)
    → sentence_image cx.program.sig cx.names (is_bound_to y o) ≡ Some e → IsPredicate e
equation_predicate cx y None e is = subst IsPredicate (some_same logic.top e is) refl
equation_predicate cx y (Some t) e is =
    let w = both_some logic.equal (Some (logic.var y))
    (sentence_image cx.program.sig cx.names (term (ground_pattern t))) e is in
    subst IsPredicate (sym w.4) refl

pub equations_predicate : (cx : Context) (theta : List (Option Tree)) (xs : List ℕ) (e : LogicPattern)
    → sentence_image cx.program.sig cx.names (all_bound theta xs) ≡ Some e → IsPredicate e
equations_predicate cx theta [] e is = subst IsPredicate (some_same logic.top e is) refl
equations_predicate cx theta (y ∷ xs) e is =
    let w = both_some logic.and (sentence_image cx.program.sig cx.names
    (is_bound_to y (binding theta y))) (sentence_image cx.program.sig cx.names (all_bound theta xs)) e
    is in
    subst IsPredicate (sym w.4)
    (both_true _ _ (equation_predicate cx y (binding theta y) w.0 w.2)
    (equations_predicate cx theta xs w.1 w.3))

pub inverted_at : (cx : Context) (sorts : List ℕ) (theta : List (Option Tree)) (x : Guarded) (i : ℕ)
    (a : Argument) (n weaker inside : LogicPattern) (p : IsPlace cx x i a)
    (m : IsInversion cx sorts theta a n) → weaker ≡ imp x.given.hypothesis m.h
    → inside ≡ imp x.body (logic.member p.left p.right) → IsPredicate x.given.hypothesis
    → AreInvertedAt x.given.hypothesis n weaker inside
inverted_at cx sorts theta x i a n weaker inside p m is_weaker is_inside predicate = record {
  h = m.h;
  b = x.body;
  q = p.right;
  t = p.left;
  e = m.equations;
  is_rule =
      m.says
      ∙ ap (λ (q : LogicPattern). imp (logic.and m.h (logic.and q m.left)) m.equations)
      (some_same m.right p.right (sym m.is_right ∙ p.is_right))
      ∙ ap (λ (t : LogicPattern). imp (logic.and m.h (logic.and p.right t)) m.equations)
      (some_same m.left p.left (sym m.is_left ∙ p.is_left));
  is_weaker = is_weaker;
  is_inside = is_inside;
  predicate = predicate;
  equations = equations_predicate cx theta (variables_of a) m.equations m.are_equations;
}

-- what was said of the argument, with its parts as the code reads them
pub none_said : (cx : Context) (x : Guarded) (b p : LogicPattern) (t : Theorem)
    → ((q r : LogicPattern) → b ≡ imp x.body (logic.member r q)
    → t.conclusion ≡ imp x.given.hypothesis (imp x.body logic.bot))
    → (q r : LogicPattern) → b ≡ imp x.body (logic.member r q)
    → SaysUnderTwo cx x.given.hypothesis x.body bottom t.conclusion
none_said cx x b p t made q r is = record {
  image = logic.bot;
  is_image = refl;
  says = made q r is;
}

-- the theorem uses what its premises use
pub three_stay : (cx : Context) (g : LogicPattern) (one two three made : Theorem)
    → IsOverContext cx g → StaysIn cx one → StaysIn cx two → StaysIn cx three
    → StaysWithin (g ∷ []) (one ∷ two ∷ three ∷ []) made → StaysIn cx made
three_stay cx g one two three made over first second third stays = λ s has.
    stays s (over s has, tt) (first s has, (second s has, (third s has, tt)))

pub body_over : (cx : Context) (c : Sentence) (x : Guarded) (t : Theorem) → IsGuarded cx c x
    → StaysWithin (x.body ∷ []) [] t → StaysIn cx t
body_over cx c x t is stays = λ s has.
    stays s (has.images (and c (all_in x.arguments.items)) x.body is.body, tt) tt

pub inverted_said : (cx : Context) (sorts : List ℕ) (theta : List (Option Tree)) (x : Guarded)
    (a : Argument) (n b : LogicPattern) (t : Theorem) (m : IsInversion cx sorts theta a n)
    → IsInvertedAt x.given.hypothesis n b t.conclusion → (k : LogicPattern) → b ≡ imp x.body k
    → SaysUnderTwo cx x.given.hypothesis x.body (all_bound theta (variables_of a)) t.conclusion
inverted_said cx sorts theta x a n b t m made k is = record {
  image = m.equations;
  is_image = m.are_equations;
  says = made m.h (logic.and m.right m.left) x.body k m.equations m.says is;
}
