-- The lemma of an equation in the form of kompile, with terms for its parameters and variables.
use Rattle.std.proofs.Common.{◌≡◌, ◌<◌, ◌+◌, ◌⊎◌, ℕ, zero, suc, true, List, [], ◌∷◌, ◌++◌, Option}
use Rattle.std.proofs.Common.{Some, None, option_map, length, length-append, map, slice_get, inl}
use Rattle.std.proofs.Common.{inr, refl, sym, ◌∙◌, ap, subst, arith}
use Rattle.std.specs.Prelude.{◌≢◌, Contains, All, IfSome}
use Rattle.std.specs.List.{AllZip}
use Rattle.std.proofs.lemmas.List.Elements.{Contains-append_cases, All-contains}
use Rattle.std.proofs.lemmas.List.{length-map}
use Rattle.ml_pat.specs.Patterns.{Pattern, top, not, and, equal}
use Rattle.ml_kernel.specs.Lemmas.{instance, IsMetaBelow}
use Rattle.ml_kernel.specs.Theorems.{Theorem}
use Rattle.ml_derived.specs.Scopes.{Scope, AreWithin}
use Rattle.term_core.specs.Terms.{Tree, leaf, truth, AreNormal}
use Rattle.term_core.specs.Forests.{forest}
use Rattle.term_core.specs.Patterns.{Pattern as RulePattern, Patterns as RulePatterns}
use Rattle.term_core.specs.Patterns.{call, no_pattern}
use Rattle.term_core.specs.Patterns.{more_patterns, binding, ground_pattern, ground_patterns}
use Rattle.rule_core.specs.NamedParts.{Name}
use Rattle.rule_core.specs.Rules.{Equation, Guard}
use Rattle.rule_core.specs.Theories.{equations_of}
use Rattle.rule_core.specs.ProgramView.{theory_of}
use Rattle.rule_core.specs.Sorting.{HasSort, HaveSorts}
use Rattle.rule_core.specs.MatchLaws.{AreTermsOf}
use Rattle.rule_core.specs.WellSorted.{IsEquationOf}
use Rattle.rule_core.specs.declared.signature.Signature.{Signature}
use Rattle.rule_core.specs.declared.signature.SortRef.{SortRef}
use Rattle.rule_core.specs.declared.signature.SymInfo.{SymInfo}
use Rattle.rule_core.proofs.SortedInstances.{instances_are_sorted}
use Rattle.ml_image.specs.Images.{image_of, shifted}
use Rattle.ml_image.specs.HasImages.{HasImage, IsTruth, IsCondition, HasEquationImage}
use Rattle.ml_image.specs.HasImages.{HasPremise, count_of}
use Rattle.ml_image.specs.LastResorts.{guards_sentence}
use Rattle.ml_image.specs.NamedSides.{left_sentence, of_child}
use Rattle.ml_image.specs.OwnAxioms.{condition_sentence, is_true, sort_numbered, name_behind}
use Rattle.ml_image.specs.Sentences.{Sentence, sentence_image, term, symbol, variables}
use Rattle.ml_image.specs.Sentences as sentence
use Rattle.ml_image.proofs.ImageLaws.{none_some, some_same}
use Rattle.ml_image.proofs.SentenceLaws.{one_symbol}
use Rattle.prove_term.specs.Contexts.{Context, HasContext, HasGrown, StaysIn}
use Rattle.prove_term.specs.Filling.{filled, all_filled}
use Rattle.prove_term.specs.FilledSides.{filled_sentence}
use Rattle.prove_term.specs.Values.{SaysValue, SaysEquationAt}
use Rattle.prove_term.specs.GuardsAt.{guards_at}
use Rattle.prove_term.proofs.ContextLaws.{grown_twice, contains_there}
use Rattle.prove_term.proofs.ImageShapes.{map_some}
use Rattle.prove_schema.specs.Schemas.{with_metas, parts_of, IsBodyFrom}
use Rattle.prove_schema.specs.Using.{IsProved, by_negation, IsLastButCondition}
use Rattle.prove_schema.specs.Using.{IsUsable, IsUsed, StaysUsed}
use Rattle.prove_schema.specs.Elements.{IsElementOf, AreElementsFor}
use Rattle.prove_schema.proofs.ElementLaws.{elements_grown}
use Rattle.prove_schema.proofs.OpenLaws.{body_metas}
use Rattle.prove_schema.proofs.BodyLaws.{sentence_is_body}
use Rattle.prove_schema.proofs.LeftSides.{IsSide, AreBelow, names_below, of_child_below}
use Rattle.prove_schema.proofs.LeftSides.{left_is_side}
use Rattle.prove_schema.proofs.ClosingLaws.{numbers_length}
use Rattle.prove_schema.proofs.InstanceLaws.{AllThere}
use Rattle.prove_schema.proofs.ScopeLaws.{stays_no_hypotheses}
use Rattle.prove_schema.proofs.UsingLaws.{as_many_facts}
use Rattle.prove_equation.specs.EquationLemmas.{SaysEquationSchema}
use Rattle.prove_equation.specs.Conditions.{CanUseAt, ProvesAt, SaysCondition, listed, DeniesEach}
use Rattle.prove_equation.specs.Conditions.{SaysNoGuard, ListEachVariable}
use Rattle.prove_equation.specs.Parameters.{behind_terms, AreMemberships}
use Rattle.prove_equation.proofs.GuardLaws.{guards_quantify, AreAtPlaces, Turns, IsRepeatable}
use Rattle.prove_equation.proofs.GuardLaws.{guards_turn}
use Rattle.prove_equation.proofs.ShapeLaws.{IsKompile, IsGuarded, kompile_shape, closed_same}
use Rattle.prove_equation.proofs.ShapeLaws.{condition_is}
use Rattle.prove_equation.proofs.ArgumentLaws.{of_sorts, sorted-behind, AreAt, IsMovedSide}
use Rattle.prove_equation.proofs.ArgumentLaws.{members_proved}
use Rattle.prove_equation.proofs.ShapeLaws.{shifted_has, condition_behind, names_behind}
use Rattle.prove_schema.proofs.BindingLaws.{HasImages, elements_have}
use Rattle.prove_equation.proofs.FillingLaws.{IsEqualitySchema, SaysOfTerms, can_use_grown}
use Rattle.prove_equation.proofs.FillingLaws.{schema_usable, schema_says, schema_stays}
use Rattle.prove_equation.proofs.FillingLaws.{condition_proved, condition_within, denied_within}
use Rattle.prove_equation.proofs.FillingLaws.{all_there, metas_same, assumed_same}
use Rattle.prove_equation.proofs.FillingLaws.{sort_of_sorted}
use Rattle.prove_equation.proofs.ParameterLaws.{length-behind, there-behind, elements-behind}
use Rattle.prove_equation.proofs.ParameterLaws.{AreOfSorts, as_many_sorts, respects-behind}
use Rattle.prove_equation.proofs.ParameterLaws.{filled-behind, child-behind}
use Rattle.prove_equation.proofs.ParameterLaws.{variable_patterns, variables-image}
use Rattle.prove_equation.proofs.ParameterLaws.{variables-have, variables-filled}
use Rattle.prove_equation.proofs.MembershipLaws.{memberships_grown}

-- ---- all that is proved of the terms

there_front : {X : Type 0} (xs ys : List X) (i : ℕ) (x : X) → slice_get xs i ≡ Some x
    → slice_get (xs ++ ys) i ≡ Some x
there_front [] ys i x h = absurd (none_some x h)
there_front (z ∷ xs) ys zero x h = h
there_front (z ∷ xs) ys (suc i) x h = there_front xs ys i x h

last_there : (ts : List Theorem) (t : Theorem) → slice_get (ts ++ t ∷ []) (length ts) ≡ Some t
last_there [] t = refl
last_there (u ∷ ts) t = last_there ts t

from_zero : (i : ℕ) → 0 + i ≡ i
from_zero i = omega arith

bound_front : (us : List Tree) (theta : List (Option Tree)) (i : ℕ) (u : Tree)
    → slice_get us i ≡ Some u → binding (behind_terms us theta) i ≡ Some u
bound_front [] theta i u h = absurd (none_some u h)
bound_front (v ∷ us) theta zero u h = h
bound_front (v ∷ us) theta (suc i) u h = bound_front us theta i u h

-- what is known when the lemma is used
pub record IsMet (cx : Context) (f : ℕ) (e : Equation) (lemma : Theorem)
    (theta : List (Option Tree)) (us : List Tree) (o d : Option Theorem)
    (fs gs ms : List Theorem) : Type 0 where
  pub can : CanUseAt cx f e lemma theta (forest us) o d
  pub kompile : e.parameters ≢ 0
  pub terms : AllZip (IsElementOf cx) us fs
  pub elements : AreElementsFor cx theta gs
  pub members : AreMemberships cx theta e.names 0 e.arguments us ms

-- all of it is still known when the context has grown
pub met_later : {old cx : Context} {f : ℕ} {e : Equation} {lemma : Theorem}
    {theta : List (Option Tree)} {o d : Option Theorem} {fs gs ms : List Theorem} (a b : Context)
    (us : List Tree) → HasGrown old a → HasGrown a b → HasGrown b cx
    → CanUseAt old f e lemma theta (forest us) o d → e.parameters ≢ 0
    → AllZip (IsElementOf a) us fs → AreMemberships b theta e.names 0 e.arguments us ms
    → AreElementsFor cx theta gs → IsMet cx f e lemma theta us o d fs gs ms
met_later {old} {cx} {f} {e} {lemma} {theta} {o} {d} {fs} {gs} {ms} a b us g h k can some terms
    members elements =
    record {
      can = can_use_grown (grown_twice old b cx (grown_twice old a b g h) k) can;
      kompile = some;
      terms = elements_grown a cx us fs (grown_twice a b cx h k) terms;
      elements = elements;
      members = memberships_grown b cx theta e.names 0 e.arguments us ms k members;
    }

-- the equation after its parameters, and the terms before the bindings of the substitution
record IsPlaced (cx : Context) (f : ℕ) (e : Equation) (p : Pattern) (theta : List (Option Tree))
    (us : List Tree) (fs gs : List Theorem) : Type 0 where
  shape : IsKompile cx.program.sig cx.names (equations_of (theory_of cx.program) f) f e p
  count : length us ≡ length shape.sorts
  images : HasImages cx (behind_terms us theta) shape.numbers (fs ++ gs)
  at : AreAt cx (behind_terms us theta) images.patterns (length (shape.sorts ++ e.variables))
  elements : AreElementsFor cx (behind_terms us theta) (fs ++ gs)
  moved : (p : RulePattern) → HasImage cx.program.sig (length e.variables) p →
      HasImage cx.program.sig (length (shape.sorts ++ e.variables)) (shifted (length shape.sorts) p)
      × (filled (behind_terms us theta) (shifted (length shape.sorts) p) ≡ filled theta p)
  moved_side : (j : ℕ) (p : RulePattern) → HasImage cx.program.sig (length e.variables) p →
      IsMovedSide cx theta (behind_terms us theta) (length (shape.sorts ++ e.variables))
      (length shape.sorts) e.names j p

-- an argument with the names of its parts, behind the parameters
side_moved : (cx : Context) (theta : List (Option Tree)) (us : List Tree) (n total k : ℕ)
    (names : List Name) (j : ℕ) (p : RulePattern) → total ≡ k + n → length us ≡ k
    → AllThere theta n → AreBelow n names → HasImage cx.program.sig n p
    → IsMovedSide cx theta (behind_terms us theta) total k names j p
side_moved cx theta us n total k names j p is_total count there low has = (
  subst (λ (m : ℕ). IsSide cx.program.sig m (left_sentence (of_child j (map (name_behind k) names))
      (shifted k p))) (sym is_total)
      (left_is_side cx.program.sig (k + n) (of_child j (map (name_behind k) names)) (shifted k p)
      (of_child_below (k + n) j (map (name_behind k) names) (names_behind k n names low))
      (shifted_has cx.program.sig k n p has)),
  subst (λ (m : ℕ). filled_sentence (behind_terms us theta)
      (left_sentence (of_child j (map (name_behind m) names)) (shifted m p))
      ≡ filled_sentence theta (left_sentence (of_child j names) p)) count
      (child-behind cx.program.sig us theta n names j p there low has),
)

placed : (cx : Context) (f : ℕ) (e : Equation) (lemma : Theorem) (theta : List (Option Tree))
    (us : List Tree) (o d : Option Theorem) (fs gs ms : List Theorem)
    → (w : IsMet cx f e lemma theta us o d fs gs ms)
    → IsPlaced cx f e w.can.is_lemma.says.sentence theta us fs gs
placed cx f e lemma theta us o d fs gs ms w =
    let sig : Signature = cx.program.sig in
    let shape : IsKompile cx.program.sig cx.names (equations_of (theory_of cx.program) f) f e
    w.can.is_lemma.says.sentence =
    kompile_shape cx.program.sig cx.names (equations_of (theory_of cx.program) f) f e
    w.can.is_lemma.says.sentence w.kompile
    w.can.is_lemma.says.is_sentence in
    let is : IsEquationOf cx.program.sig w.can.own.info e =
    All-contains (IsEquationOf cx.program.sig w.can.own.info)
    (equations_of (theory_of cx.program) f) e
    (w.can.well_sorted.equations f w.can.own.info w.can.own.function) w.can.own.listed in
    let takes : w.can.own.info.args.items ≡ map sort_numbered shape.sorts =
    ap (λ (i : SymInfo). i.args.items)
    (one_symbol cx.program.sig f w.can.own.info shape.info w.can.own.function shape.declared.there)
    ∙ shape.declared.takes in
    let sorted : AreTermsOf cx.program.sig [] (forest us) w.can.own.info.args.items × AreNormal
    (forest us) =
    instances_are_sorted cx.program.sig e.variables [] e.arguments w.can.own.info.args.items theta
    (forest us) is.arguments w.can.matches.binds.sorted w.can.matches.makes in
    let ofs : AreOfSorts cx.program.sig us shape.sorts =
    of_sorts cx.program.sig us shape.sorts w.can.own.info.args.items takes sorted.0 sorted.1 in
    let count : length us ≡ length shape.sorts = as_many_sorts cx.program.sig us shape.sorts ofs in
    let total : length (shape.sorts ++ e.variables) ≡ length shape.sorts + length e.variables =
    length-append shape.sorts e.variables in
    let room : length (behind_terms us theta) ≡ length (shape.sorts ++ e.variables) =
    omega (arith, length-behind us theta, total, count, w.can.matches.binds.room) in
    let elements : AreElementsFor cx (behind_terms us theta) (fs ++ gs) =
    elements-behind cx us theta fs gs w.terms w.elements in
    let images : HasImages cx (behind_terms us theta) shape.numbers (fs ++ gs) =
    elements_have cx (behind_terms us theta) (shape.sorts ++ e.variables) shape.numbers (fs ++ gs)
    elements
    shape.are (respects-behind cx.program.sig us shape.sorts e.variables theta ofs
    w.can.matches.binds.sorted)
    room in
    let there : AllThere theta (length e.variables) = all_there e.variables theta w.can.bound in
    let far : length us + length e.variables ≡ length (shape.sorts ++ e.variables) =
    omega (arith, total, count) in
    let as_many : (length images.patterns ≡ length (fs ++ gs)) ×
    (length shape.numbers ≡ length (fs ++ gs)) =
    as_many_facts images.patterns shape.numbers (fs ++ gs) images.facts in
    record {
      shape = shape;
      count = count;
      images = images;
      at = record {
        images = images.images;
        there =
            subst (AllThere (behind_terms us theta)) far
            (there-behind us theta (length e.variables) there);
        many = sym (numbers_length cx.program.sig cx.names (shape.sorts ++ e.variables)
            shape.numbers shape.are)
            ∙ as_many.1 ∙ sym as_many.0;
      };
      elements = elements;
      moved = λ p has. (
        subst (λ (n : ℕ). HasImage cx.program.sig n (shifted (length shape.sorts) p)) (sym total)
            (shifted_has cx.program.sig (length shape.sorts) (length e.variables) p has),
        subst (λ (k : ℕ). filled (behind_terms us theta) (shifted k p) ≡ filled theta p) count
            (filled-behind cx.program.sig us theta (length e.variables) p there has),
      );
      moved_side =
          λ j p has. side_moved cx theta us (length e.variables)
          (length (shape.sorts ++ e.variables))
          (length shape.sorts) e.names j p total count there
          (names_below (length e.variables) e.names w.can.image.names) has;
    }

-- what the condition's theorem proves
kompile_condition : (cx : Context) (f : ℕ) (e : Equation) (s : Pattern) (theta : List (Option Tree))
    (us : List Tree) (fs gs ms : List Theorem) (o : Option Theorem)
    (i : IsPlaced cx f e s theta us fs gs) → (c : Option RulePattern) → e.condition ≡ c
    → IsCondition cx.program.sig e.variables c → SaysCondition cx e.variables theta c o
    → (h : Pattern) → Contains
    (parts_of (with_metas (length (i.shape.sorts ++ e.variables)) i.shape.condition)) h
    → IsProved i.images.patterns i.shape.numbers (ms ++ listed o) h
kompile_condition cx f e s theta us fs gs ms o i None is has said h part =
    let k : ℕ = length i.shape.sorts in
    let holds : i.shape.holds ≡ sentence.top =
    some_same i.shape.holds sentence.top (sym i.shape.is_holds
    ∙ ap (λ (c : Option RulePattern). condition_sentence cx.program.sig (i.shape.sorts
    ++ e.variables)
    (option_map (shifted (length i.shape.sorts)) c)) is) in
    let nothing : i.shape.condition ≡ top =
    some_same i.shape.condition top
    (sym i.shape.is_condition ∙ ap (sentence_image cx.program.sig cx.names) holds) in
    absurd (omega (
      arith,
      (subst (λ (q : Pattern). Contains
          (parts_of (with_metas (length (i.shape.sorts ++ e.variables)) q)) h) nothing part).1,
    ))
kompile_condition cx f e s theta us fs gs ms None i (Some c) is has said h part = absurd said
kompile_condition cx f e s theta us fs gs ms (Some t) i (Some c) is has (sort, sorted, value, stays)
    h part =
    let vars : List ℕ = i.shape.sorts ++ e.variables in
    let moved : HasImage cx.program.sig (length (i.shape.sorts ++ e.variables))
    (shifted (length i.shape.sorts) c) ×
    (filled (behind_terms us theta) (shifted (length i.shape.sorts) c) ≡ filled theta c) =
    i.moved c has.image in
    let truth_is : IsTruth cx.program.sig (i.shape.sorts ++ e.variables)
    (shifted (length i.shape.sorts) c) =
    condition_behind cx.program.sig i.shape.sorts e.variables (Some c) has in
    let of_sort : HasSort cx.program.sig (i.shape.sorts ++ e.variables)
    (shifted (length i.shape.sorts) c) sort =
    sorted-behind cx.program.sig i.shape.sorts e.variables c sort sorted in
    let holds : i.shape.holds ≡ is_true (shifted (length i.shape.sorts) c) sort =
    condition_is cx.program.sig (i.shape.sorts ++ e.variables) (shifted (length i.shape.sorts) c)
    sort i.shape.holds (sort_of_sorted cx.program.sig (i.shape.sorts ++ e.variables)
    (shifted (length i.shape.sorts) c) sort of_sort)
    (ap (λ (c : Option RulePattern). condition_sentence cx.program.sig (i.shape.sorts
    ++ e.variables)
    (option_map (shifted (length i.shape.sorts)) c)) (sym is) ∙ i.shape.is_holds) in
    let says : SaysValue cx (behind_terms us theta) (shifted (length i.shape.sorts) c)
    (leaf sort (truth true)) t.conclusion =
    record {
      left = value.left;
      left_image = ap (image_of cx.program.sig cx.names) moved.1 ∙ value.left_image;
      right = value.right;
      right_image = value.right_image;
      says = value.says;
      no_variable = value.no_variable;
    } in
    condition_proved cx (i.shape.sorts ++ e.variables) (behind_terms us theta) i.images.patterns
    i.shape.numbers (ms ++ t ∷ []) (length ms) sort (shifted (length i.shape.sorts) c) t
    i.shape.condition h
    i.at.images i.at.there i.at.many truth_is of_sort
    (ap (sentence_image cx.program.sig cx.names) (sym holds) ∙ i.shape.is_condition) says
    (last_there ms t) (sym (length-append ms (t ∷ []))) part

-- ---- the lemma at the terms

kompile_schema : (cx : Context) (f : ℕ) (e : Equation) (lemma : Theorem)
    → HasEquationImage cx.program.sig (equations_of (theory_of cx.program) f) f e
    → (s : SaysEquationSchema cx f e lemma)
    → (d : IsKompile cx.program.sig cx.names (equations_of (theory_of cx.program) f) f e s.sentence)
    → IsEqualitySchema cx (d.sorts ++ e.variables)
    (term (call f [] (variable_patterns 0 (length d.sorts)))) (shifted (length d.sorts) e.right)
    (parts_of (with_metas (length (d.sorts ++ e.variables)) d.premise)) lemma
kompile_schema cx f e lemma has s d =
    let same : (s.numbers ≡ d.numbers) × (s.condition ≡ d.premise) ×
    (s.equality ≡ equal d.left d.right) =
    closed_same 0 s.numbers d.numbers s.condition s.equality d.premise
    (equal d.left d.right) (sym s.closes.says ∙ d.says) in
    let many : length d.numbers ≡ length (d.sorts ++ e.variables) =
    numbers_length cx.program.sig cx.names (d.sorts ++ e.variables) d.numbers d.are in
    let total : length (d.sorts ++ e.variables) ≡ length d.sorts + length e.variables =
    length-append d.sorts e.variables in
    record {
      numbers = d.numbers;
      are = d.are;
      left = d.left;
      left_image = sym (variables-image cx.program.sig cx.names (length d.sorts) 0 (symbol f))
          ∙ d.left_image;
      left_has = (
        has.function,
        tt,
        variables-have cx.program.sig (length (d.sorts ++ e.variables)) (length d.sorts) 0
            (omega (arith, total)),
      );
      right = d.right;
      right_image = d.right_image;
      right_has =
          subst (λ (n : ℕ). HasImage cx.program.sig n (shifted (length d.sorts) e.right))
          (sym total)
          (shifted_has cx.program.sig (length d.sorts) (length e.variables) e.right has.right);
      says = s.says
          ∙ metas_same s.numbers d.numbers (length (d.sorts ++ e.variables)) s.equality
          (equal d.left d.right) same.0 many same.2;
      assumes =
          λ h there. assumed_same s.numbers d.numbers (length (d.sorts ++ e.variables)) s.condition
          d.premise h same.0 many same.1 (s.assumes h there);
    }

-- what is proved of the condition and of the arguments
inner_proved : (cx : Context) (f : ℕ) (e : Equation) (lemma : Theorem)
    (theta : List (Option Tree)) (us : List Tree) (o d : Option Theorem) (fs gs ms : List Theorem)
    (w : IsMet cx f e lemma theta us o d fs gs ms)
    → (i : IsPlaced cx f e w.can.is_lemma.says.sentence theta us fs gs) → (h : Pattern)
    → Contains (parts_of (with_metas (length (i.shape.sorts ++ e.variables))
    (and i.shape.condition i.shape.met))) h
    → IsProved i.images.patterns i.shape.numbers ((ms ++ listed d) ++ listed o) h
inner_proved cx f e lemma theta us o d fs gs ms w i h part =
    go (Contains-append_cases
    (parts_of (with_metas (length (i.shape.sorts ++ e.variables)) i.shape.condition))
    (parts_of (with_metas (length (i.shape.sorts ++ e.variables)) i.shape.met)) h part)
  where
    go : Contains (parts_of (with_metas (length (i.shape.sorts ++ e.variables)) i.shape.condition))
        h
        ⊎ Contains (parts_of (with_metas (length (i.shape.sorts ++ e.variables)) i.shape.met)) h
        → IsProved i.images.patterns i.shape.numbers ((ms ++ listed d) ++ listed o) h
    go (inl held) =
        kompile_condition cx f e w.can.is_lemma.says.sentence theta us fs gs (ms ++ listed d) o i
        e.condition refl w.can.image.condition w.can.condition h held
    go (inr met) =
        members_proved cx theta (behind_terms us theta) i.images.patterns i.shape.numbers
        ((ms ++ listed d) ++ listed o) (length (i.shape.sorts ++ e.variables)) (length e.variables)
        (length i.shape.sorts) e.names 0 e.arguments us ms i.shape.met h i.at
        w.can.image.arguments i.moved_side
        (λ x t there.
        ap (slice_get ((ms ++ listed d) ++ listed o)) (from_zero x)
        ∙ there_front (ms ++ listed d) (listed o) x t (there_front ms (listed d) x t there))
        (λ x u there.
        ap (binding (behind_terms us theta)) (from_zero x) ∙ bound_front us theta x u there)
        w.members i.shape.is_met met

-- ---- guards

count_sorted : (sig : Signature) (vars ss : List ℕ) (ps : RulePatterns) (refs : List SortRef)
    → HaveSorts sig vars ss ps refs → count_of ps ≡ length refs
count_sorted sig vars ss no_pattern [] h = refl
count_sorted sig vars ss no_pattern (r ∷ refs) h = absurd h
count_sorted sig vars ss (more_patterns p ps) [] h = absurd h
count_sorted sig vars ss (more_patterns p ps) (r ∷ refs) h =
    ap suc (count_sorted sig vars ss ps refs h.3)

-- the equations that guards repeat
repeatable : (cx : Context) (f : ℕ) (e : Equation) (lemma : Theorem) (theta : List (Option Tree))
    (us : List Tree) (o d : Option Theorem) (fs gs ms : List Theorem)
    (w : IsMet cx f e lemma theta us o d fs gs ms) (guards : List Guard)
    → (i : IsPlaced cx f e w.can.is_lemma.says.sentence theta us fs gs)
    → e.last_resort ≡ Some guards → (g : Guard) (q : Equation) → Contains guards g
    → slice_get (equations_of (theory_of cx.program) f) g.equation ≡ Some q
    → IsRepeatable cx.program.sig (length us) g.order q
repeatable cx f e lemma theta us o d fs gs ms w guards i last g q there found =
    let listed_there : Contains (equations_of (theory_of cx.program) f) q =
    contains_there (equations_of (theory_of cx.program) f) g.equation q found in
    let is : IsEquationOf cx.program.sig w.can.own.info q =
    All-contains (IsEquationOf cx.program.sig w.can.own.info)
    (equations_of (theory_of cx.program) f) q
    (w.can.well_sorted.equations f w.can.own.info w.can.own.function) listed_there in
    let takes : w.can.own.info.args.items ≡ map sort_numbered i.shape.sorts =
    ap (λ (a : SymInfo). a.args.items)
    (one_symbol cx.program.sig f w.can.own.info i.shape.info w.can.own.function
    i.shape.declared.there)
    ∙ i.shape.declared.takes in
    let each : ListEachVariable (equations_of (theory_of cx.program) f) guards =
    subst (λ (l : Option (List Guard)).
    IfSome l (ListEachVariable (equations_of (theory_of cx.program) f))) last w.can.each in
    let premises : All (HasPremise cx.program.sig) (equations_of (theory_of cx.program) f) =
    subst (λ (l : Option (List Guard)). IfSome l (λ (gs : List Guard).
    All (HasPremise cx.program.sig) (equations_of (theory_of cx.program) f))) last
    w.can.image.repeated in
    record {
      premise =
          All-contains (HasPremise cx.program.sig) (equations_of (theory_of cx.program) f) q
          premises listed_there;
      many = count_sorted cx.program.sig q.variables [] q.arguments w.can.own.info.args.items
          is.arguments
          ∙ ap length takes ∙ length-map i.shape.sorts sort_numbered ∙ sym i.count;
      each =
          subst (λ (r : Option Equation). IfSome r
          (λ (p : Equation). (x : ℕ) → x < length p.variables → Contains g.order x)) found
          (All-contains (λ (a : Guard). IfSome
          (slice_get (equations_of (theory_of cx.program) f) a.equation)
          (λ (p : Equation). (x : ℕ) → x < length p.variables → Contains a.order x)) guards g each
          there);
    }

-- the place of the theorem that denies the guards
denial_place : (ms : List Theorem) (t : Theorem) (o : Option Theorem)
    → ((c : Theorem) → o ≡ Some c
    → (p : Pattern) × (q : Pattern) × (c.conclusion ≡ equal p q))
    → IsLastButCondition ((ms ++ t ∷ []) ++ listed o) (length ms)
denial_place ms t None equality =
    inl (omega (arith, length-append (ms ++ t ∷ []) [], length-append ms (t ∷ [])))
denial_place ms t (Some c) equality =
    let says : (p : Pattern) × (q : Pattern) × (c.conclusion ≡ equal p q) = equality c refl in
    let next_one : length ms + 1 ≡ length (ms ++ t ∷ []) =
    omega (arith, length-append ms (t ∷ [])) in
    inr (
      omega (arith, length-append (ms ++ t ∷ []) (c ∷ []), length-append ms (t ∷ [])),
      (
        c,
        says.0,
        says.1,
        ap (slice_get ((ms ++ t ∷ []) ++ c ∷ [])) next_one ∙ last_there (ms ++ t ∷ []) c,
        says.2,
      ),
    )

says_equality : (cx : Context) (vars : List ℕ) (theta : List (Option Tree))
    (c : Option RulePattern) (o : Option Theorem) → SaysCondition cx vars theta c o → (t : Theorem)
    → o ≡ Some t → (p : Pattern) × (q : Pattern) × (t.conclusion ≡ equal p q)
says_equality cx vars theta None None said t is = absurd (none_some t is)
says_equality cx vars theta None (Some u) said t is = absurd said
says_equality cx vars theta (Some p) None said t is = absurd said
says_equality cx vars theta (Some p) (Some u) (sort, sorted, value, stays) t is = (
  value.left,
  value.right,
  ap (λ (v : Theorem). v.conclusion) (sym (some_same u t is))
      ∙ value.says,
)

-- the images of the terms are at the places of the parameters
at_places : (cx : Context) (theta : List (Option Tree)) (us : List Tree) (qs : List Pattern) (n : ℕ)
    → AreAt cx (behind_terms us theta) qs n
    → AreAtPlaces cx.program.sig cx.names qs 0 us
at_places cx theta us qs n at i u there =
    let q : (q : Pattern) × ((slice_get qs i ≡ Some q)
    × (image_of cx.program.sig cx.names (ground_pattern u) ≡ Some q)) =
    at.images i u (bound_front us theta i u there) in
    (q.0, ap (slice_get qs) (from_zero i) ∙ q.1.0, q.1.1)

-- the theorem that no guard holds proves what the lemma assumes of them
denial_proved : (cx : Context) (f : ℕ) (e : Equation) (lemma : Theorem) (theta : List (Option Tree))
    (us : List Tree) (o : Option Theorem) (fs gs ms : List Theorem) (t : Theorem)
    (w : IsMet cx f e lemma theta us o (Some t) fs gs ms) (guards : List Guard)
    (i : IsPlaced cx f e w.can.is_lemma.says.sentence theta us fs gs)
    → e.last_resort ≡ Some guards → SaysNoGuard cx f e guards (forest us) t.conclusion
    → (s : Sentence) (g h : Pattern)
    → guards_sentence cx.program.sig (equations_of (theory_of cx.program) f)
    (length i.shape.sorts + length e.variables) guards ≡ Some s
    → sentence_image cx.program.sig cx.names s ≡ Some g
    → h ≡ not (with_metas (length (i.shape.sorts ++ e.variables)) g)
    → IsProved i.images.patterns i.shape.numbers ((ms ++ t ∷ []) ++ listed o) h
denial_proved cx f e lemma theta us o fs gs ms t w guards i last denies s g h tells image is =
    let total : length (i.shape.sorts ++ e.variables)
    ≡ length i.shape.sorts + length e.variables =
    length-append i.shape.sorts e.variables in
    let turns : Turns cx.program.sig cx.names (length (i.shape.sorts ++ e.variables))
    i.images.patterns s (guards_at cx.program.sig (equations_of (theory_of cx.program) f)
    (length i.shape.sorts + length e.variables) guards (forest us)) =
    guards_turn cx.program.sig cx.names (length (i.shape.sorts ++ e.variables)) i.images.patterns us
    (equations_of (theory_of cx.program) f) (length i.shape.sorts + length e.variables) guards s
    (at_places cx theta us i.images.patterns (length (i.shape.sorts ++ e.variables)) i.at)
    (omega (arith, total, i.count)) (omega (arith, total))
    (repeatable cx f e lemma theta us o (Some t) fs gs ms w guards i last) tells in
    let same : turns.at ≡ denies.holds =
    some_same turns.at denies.holds (sym turns.is
    ∙ ap (λ (k : ℕ). guards_at cx.program.sig (equations_of (theory_of cx.program) f)
    (k + length e.variables) guards (forest us)) (sym i.shape.as_many) ∙ denies.is_holds) in
    let at : (x : Pattern) × (sentence_image cx.program.sig cx.names denies.holds ≡ Some x) ×
    (t.conclusion ≡ not x) =
    map_some not (sentence_image cx.program.sig cx.names denies.holds) t.conclusion denies.image in
    let denied : at.0 ≡ instance i.images.patterns
    (with_metas (length (i.shape.sorts ++ e.variables)) g) =
    some_same at.0 (instance i.images.patterns
    (with_metas (length (i.shape.sorts ++ e.variables)) g)) (sym at.1
    ∙ ap (sentence_image cx.program.sig cx.names) (sym same) ∙ turns.becomes g image) in
    let body : IsBodyFrom 0 (length (i.shape.sorts ++ e.variables)) g =
    sentence_is_body cx.program.sig cx.names (length (i.shape.sorts ++ e.variables)) s
    (guards_quantify cx.program.sig (equations_of (theory_of cx.program) f)
    (length (i.shape.sorts ++ e.variables)) (length i.shape.sorts + length e.variables) guards s
    (omega (arith, total)) tells) g image in
    let below : IsMetaBelow (length i.images.patterns)
    (with_metas (length (i.shape.sorts ++ e.variables)) g) =
    subst (λ (m : ℕ). IsMetaBelow m (with_metas (length (i.shape.sorts ++ e.variables)) g))
    i.at.many
    (body_metas 0 (length (i.shape.sorts ++ e.variables)) g body) in
    by_negation (length ms) (with_metas (length (i.shape.sorts ++ e.variables)) g) t
    (there_front (ms ++ t ∷ []) (listed o) (length ms) t (last_there ms t))
    (denial_place ms t o (says_equality cx e.variables theta e.condition o w.can.condition)) is
    (subst (IsMetaBelow (length i.images.patterns)) (sym is) below)
    (at.2 ∙ ap not denied ∙ ap (instance i.images.patterns) (sym is))

-- what is proved of all that the equation requires
guarded_proved : (cx : Context) (f : ℕ) (e : Equation) (lemma : Theorem)
    (theta : List (Option Tree)) (us : List Tree) (o d : Option Theorem) (fs gs ms : List Theorem)
    (w : IsMet cx f e lemma theta us o d fs gs ms)
    → (i : IsPlaced cx f e w.can.is_lemma.says.sentence theta us fs gs)
    → (l : Option (List Guard)) → e.last_resort ≡ l → DeniesEach cx f e l (forest us) d
    → (premise : Pattern)
    → IsGuarded cx.program.sig cx.names (equations_of (theory_of cx.program) f)
    (length i.shape.sorts + length e.variables) l (and i.shape.condition i.shape.met) premise
    → (h : Pattern) → Contains
    (parts_of (with_metas (length (i.shape.sorts ++ e.variables)) premise)) h
    → IsProved i.images.patterns i.shape.numbers ((ms ++ listed d) ++ listed o) h
guarded_proved cx f e lemma theta us o d fs gs ms w i None last denies premise is h part =
    inner_proved cx f e lemma theta us o d fs gs ms w i h
    (subst (λ (p : Pattern). Contains
    (parts_of (with_metas (length (i.shape.sorts ++ e.variables)) p)) h) is part)
guarded_proved cx f e lemma theta us o None fs gs ms w i (Some guards) last denies premise is h
    part =
    absurd denies
guarded_proved cx f e lemma theta us o (Some t) fs gs ms w i (Some guards) last (denies, stays)
    premise
    (s, g, tells, image, is) h part =
    go (subst (λ (p : Pattern). Contains
    (parts_of (with_metas (length (i.shape.sorts ++ e.variables)) p)) h) is part)
  where
    go : Contains (not (with_metas (length (i.shape.sorts ++ e.variables)) g)
        ∷ parts_of (with_metas (length (i.shape.sorts ++ e.variables))
        (and i.shape.condition i.shape.met))) h
        → IsProved i.images.patterns i.shape.numbers ((ms ++ t ∷ []) ++ listed o) h
    go (zero, low, same) =
        denial_proved cx f e lemma theta us o fs gs ms t w guards i last denies s g h tells image
        (sym same)
    go (suc j, low, same) =
        inner_proved cx f e lemma theta us o (Some t) fs gs ms w i h (j, omega (arith, low), same)

kompile_proved : (cx : Context) (f : ℕ) (e : Equation) (lemma : Theorem)
    (theta : List (Option Tree)) (us : List Tree) (o d : Option Theorem) (fs gs ms : List Theorem)
    (w : IsMet cx f e lemma theta us o d fs gs ms)
    → (i : IsPlaced cx f e w.can.is_lemma.says.sentence theta us fs gs) → (h : Pattern)
    → Contains (parts_of (with_metas (length (i.shape.sorts ++ e.variables)) i.shape.premise)) h
    → IsProved i.images.patterns i.shape.numbers ((ms ++ listed d) ++ listed o) h
kompile_proved cx f e lemma theta us o d fs gs ms w i h part =
    guarded_proved cx f e lemma theta us o d fs gs ms w i e.last_resort refl w.can.guards
    i.shape.premise i.shape.guarded h part

pub met_usable : (cx : Context) (f : ℕ) (e : Equation) (lemma : Theorem)
    (theta : List (Option Tree)) (us : List Tree) (o d : Option Theorem) (fs gs ms : List Theorem)
    → IsMet cx f e lemma theta us o d fs gs ms
    → (qs : List Pattern) × (ns : List ℕ) × IsUsable qs ns lemma (fs ++ gs)
    ((ms ++ listed d) ++ listed o)
unfolding kompile_schema
met_usable cx f e lemma theta us o d fs gs ms w =
    let i : IsPlaced cx f e w.can.is_lemma.says.sentence theta us fs gs =
    placed cx f e lemma theta us o d fs gs ms w in (
      i.images.patterns,
      i.shape.numbers,
      schema_usable cx (i.shape.sorts ++ e.variables)
          (term (call f [] (variable_patterns 0 (length i.shape.sorts))))
          (shifted (length i.shape.sorts) e.right)
          (parts_of (with_metas (length (i.shape.sorts ++ e.variables)) i.shape.premise)) lemma
          (behind_terms us theta) (fs ++ gs) ((ms ++ listed d) ++ listed o)
          (kompile_schema cx f e lemma w.can.image w.can.is_lemma.says i.shape) i.images
          (kompile_proved cx f e lemma theta us o d fs gs ms w i),
    )

met_says : (cx : Context) (f : ℕ) (e : Equation) (lemma : Theorem) (theta : List (Option Tree))
    (us : List Tree) (o d : Option Theorem) (fs gs ms : List Theorem) (t : Theorem)
    → IsMet cx f e lemma theta us o d fs gs ms
    → IsUsed lemma (fs ++ gs) ((ms ++ listed d) ++ listed o) t
    → SaysEquationAt cx f e theta (forest us) t.conclusion
unfolding kompile_schema
met_says cx f e lemma theta us o d fs gs ms t w used =
    let i : IsPlaced cx f e w.can.is_lemma.says.sentence theta us fs gs =
    placed cx f e lemma theta us o d fs gs ms w in
    let schema : IsEqualitySchema cx (i.shape.sorts ++ e.variables)
    (term (call f [] (variable_patterns 0 (length i.shape.sorts))))
    (shifted (length i.shape.sorts) e.right)
    (parts_of (with_metas (length (i.shape.sorts ++ e.variables)) i.shape.premise)) lemma =
    kompile_schema cx f e lemma w.can.image w.can.is_lemma.says i.shape in
    let usable : IsUsable i.images.patterns i.shape.numbers lemma (fs ++ gs)
    ((ms ++ listed d) ++ listed o) =
    schema_usable cx (i.shape.sorts ++ e.variables)
    (term (call f [] (variable_patterns 0 (length i.shape.sorts))))
    (shifted (length i.shape.sorts) e.right)
    (parts_of (with_metas (length (i.shape.sorts ++ e.variables)) i.shape.premise)) lemma
    (behind_terms us theta) (fs ++ gs) ((ms ++ listed d) ++ listed o)
    (kompile_schema cx f e lemma w.can.image w.can.is_lemma.says i.shape) i.images
    (kompile_proved cx f e lemma theta us o d fs gs ms w i) in
    let says : SaysOfTerms cx (behind_terms us theta)
    (term (call f [] (variable_patterns 0 (length i.shape.sorts))))
    (shifted (length i.shape.sorts) e.right) t.conclusion =
    schema_says cx (i.shape.sorts ++ e.variables)
    (term (call f [] (variable_patterns 0 (length i.shape.sorts))))
    (shifted (length i.shape.sorts) e.right)
    (parts_of (with_metas (length (i.shape.sorts ++ e.variables)) i.shape.premise)) lemma
    (behind_terms us theta) (fs ++ gs) t
    (kompile_schema cx f e lemma w.can.image w.can.is_lemma.says i.shape) i.images i.at.there
    (used i.images.patterns i.shape.numbers usable) in
    let arguments : all_filled (behind_terms us theta) (variable_patterns 0 (length i.shape.sorts))
    ≡ ground_patterns (forest us) =
    subst (λ (k : ℕ). all_filled (behind_terms us theta) (variable_patterns 0 k)
    ≡ ground_patterns (forest us)) i.count (variables-filled [] us theta) in
    record {
      left = says.left;
      left_image =
          ap (λ (ps : RulePatterns). image_of cx.program.sig cx.names (call f [] ps))
          (sym arguments) ∙ says.left_image;
      right = says.right;
      right_image =
          ap (image_of cx.program.sig cx.names) (sym (i.moved e.right w.can.image.right).1)
          ∙ says.right_image;
      says = says.says;
      no_variable = says.no_variable;
    }

within-append : (s : Scope) (ts us : List Theorem) → AreWithin s ts → AreWithin s us
    → AreWithin s (ts ++ us)
within-append s [] us h k = k
within-append s (t ∷ ts) us h k = (h.0, within-append s ts us h.1 k)

members_within : (s : Scope) (cx : Context) (theta : List (Option Tree)) (names : List Name)
    (k : ℕ) (ps : RulePatterns) (us : List Tree) (ms : List Theorem) → HasContext s cx
    → AreMemberships cx theta names k ps us ms → AreWithin s ms
members_within s cx theta names k no_pattern [] [] has h = tt
members_within s cx theta names k no_pattern [] (m ∷ ms) has h = absurd h
members_within s cx theta names k no_pattern (u ∷ us) ms has h = absurd h
members_within s cx theta names k (more_patterns p ps) [] ms has h = absurd h
members_within s cx theta names k (more_patterns p ps) (u ∷ us) [] has h = absurd h
members_within s cx theta names k (more_patterns p ps) (u ∷ us) (m ∷ ms) has h =
    (h.0.1 s has, members_within s cx theta names (k + 1) ps us ms has h.1)

met_stays : (cx : Context) (f : ℕ) (e : Equation) (lemma : Theorem) (theta : List (Option Tree))
    (us : List Tree) (o d : Option Theorem) (fs gs ms : List Theorem) (t : Theorem)
    → IsMet cx f e lemma theta us o d fs gs ms
    → StaysUsed lemma (fs ++ gs) ((ms ++ listed d) ++ listed o) t
    → StaysIn cx t
met_stays cx f e lemma theta us o d fs gs ms t w used =
    let i : IsPlaced cx f e w.can.is_lemma.says.sentence theta us fs gs =
    placed cx f e lemma theta us o d fs gs ms w in
    schema_stays cx (i.shape.sorts ++ e.variables)
    (term (call f [] (variable_patterns 0 (length i.shape.sorts))))
    (shifted (length i.shape.sorts) e.right)
    (parts_of (with_metas (length (i.shape.sorts ++ e.variables)) i.shape.premise)) lemma
    (behind_terms us theta) (fs ++ gs) ((ms ++ listed d) ++ listed o) t
    (kompile_schema cx f e lemma w.can.image w.can.is_lemma.says i.shape) w.can.is_lemma.listed
    i.elements
    (λ s has. within-append s (ms ++ listed d) (listed o)
    (within-append s ms (listed d)
    (members_within s cx theta e.names 0 e.arguments us ms has w.members)
    (denied_within cx f e e.last_resort (forest us) d w.can.guards s has))
    (condition_within cx e.variables theta e.condition o w.can.condition s has)) used

pub met_proves : (cx : Context) (f : ℕ) (e : Equation) (lemma : Theorem)
    (theta : List (Option Tree)) (us : List Tree) (o d : Option Theorem) (fs gs ms : List Theorem)
    (t : Theorem) → IsMet cx f e lemma theta us o d fs gs ms
    → IsUsed lemma (fs ++ gs) ((ms ++ listed d) ++ listed o) t
    → StaysUsed lemma (fs ++ gs) ((ms ++ listed d) ++ listed o) t
    → ProvesAt cx f e theta (forest us) t
met_proves cx f e lemma theta us o d fs gs ms t w used within =
    let stays : StaysIn cx t = met_stays cx f e lemma theta us o d fs gs ms t w within in
    record {
      says = met_says cx f e lemma theta us o d fs gs ms t w used;
      no_hypotheses = stays_no_hypotheses cx t stays;
      stays = stays;
    }
