-- An equation's lemma, with terms for its variables.
use Rattle.std.proofs.Common.{◌≡◌, ◌≢◌, ◌<◌, ◌+◌, ◌^◌, ◌⊎◌, ℕ, zero, suc, true, List, [], ◌∷◌, ◌++◌}
use Rattle.std.proofs.Common.{Option, Some, None, length, slice_get, inl, inr, refl, sym, ◌∙◌, ap}
use Rattle.std.proofs.Common.{subst, arith}
use Rattle.std.specs.Prelude.{Contains, All, IsSome, IfSome, slice_index_or}
use Rattle.std.proofs.lemmas.List.Elements.{Contains-get_or, Contains-append_cases}
use Rattle.std.proofs.lemmas.List.Elements.{Contains-append_left}
use Rattle.ml_pat.specs.Patterns.{Pattern, top, equal}
use Rattle.ml_kernel.specs.Lemmas.{instance, HasNoVariable, HaveNoVariables, IsMetaBelow}
use Rattle.ml_kernel.specs.Theorems.{Theorem}
use Rattle.ml_derived.specs.Scopes.{Scope, AreWithin, IsOverPlaces}
use Rattle.term_core.specs.Terms.{Tree, Forest, leaf, truth, IsNormal}
use Rattle.term_core.specs.Patterns.{Pattern as RulePattern, variable, domain_value, application}
use Rattle.term_core.specs.Patterns.{injection, call, binding, ground_pattern}
use Rattle.rule_core.specs.Rules.{Equation, Guard}
use Rattle.rule_core.specs.Theories.{equations_of}
use Rattle.rule_core.specs.Sorting.{HasSort, HasValue, IsTermOf, IsSymbol, sort_at}
use Rattle.rule_core.specs.Matching.{MatchNamed, RespectsSorts}
use Rattle.rule_core.specs.ProgramView.{theory_of}
use Rattle.rule_core.specs.WellSorted.{IsWellSorted}
use Rattle.rule_core.specs.declared.signature.Signature.{Signature}
use Rattle.rule_core.specs.declared.signature.SymInfo.{SymInfo}
use Rattle.rule_core.specs.declared.rules.Program.{Program}
use Rattle.ml_image.specs.Images.{both, image_of}
use Rattle.ml_image.specs.HasImages.{HasImage, IsTruth, IsCondition, HasEquationImage, IsGuard}
use Rattle.ml_image.specs.HasImages.{after_guards}
use Rattle.ml_image.specs.OwnAxioms.{IsEquationFor, condition_sentence, sort_of, made_sort, is_true}
use Rattle.ml_image.specs.NamedSides.{applied_sides}
use Rattle.ml_image.specs.Sentences.{Sentence, sentence_image, term, symbol, equals}
use Rattle.ml_image.specs.Sentences as says
use Rattle.ml_image.proofs.ImageLaws.{some_same}
use Rattle.prove_term.specs.Contexts.{Context, HasContext, HasGrown, StaysIn}
use Rattle.prove_term.specs.Filling.{filled}
use Rattle.prove_term.specs.FilledSides.{filled_sentence}
use Rattle.prove_term.specs.Values.{SaysValue}
use Rattle.prove_term.specs.GuardsAt.{guards_at}
use Rattle.prove_term.proofs.ContextLaws.{image_grown, stays_grown}
use Rattle.prove_term.proofs.EquationLaws.{says_equation_grown}
use Rattle.prove_term.proofs.ImageShapes.{both_some}
use Rattle.prove_schema.specs.Schemas.{with_metas, meta_facts, parts_of}
use Rattle.prove_schema.specs.Using.{IsProved, by_condition, IsUsable, IsUsed, StaysUsed}
use Rattle.prove_schema.specs.Elements.{AllBound, AreElementsFor}
use Rattle.prove_schema.proofs.OpenLaws.{IsOpenFrom, image_is_open, open_metas, open_no_variable}
use Rattle.prove_schema.proofs.ClosingLaws.{AreNumbers, numbers_length}
use Rattle.prove_schema.proofs.InstanceLaws.{AreImages, AllThere, filled_image, instance_closed}
use Rattle.prove_schema.proofs.UsingLaws.{as_many_facts, facts_closed}
use Rattle.prove_schema.proofs.ElementLaws.{pattern_grown}
use Rattle.prove_schema.proofs.BindingLaws.{HasImages, elements_have, elements_within, proved_fact}
use Rattle.prove_schema.proofs.SentenceLaws.{sentence_is_open, schema_over_places}
use Rattle.prove_schema.proofs.LeftSides.{IsSide, names_below, applied_is_side, side_is_open}
use Rattle.prove_schema.proofs.LeftSides.{filled_side}
use Rattle.prove_equation.specs.EquationLemmas.{SaysEquationSchema, IsEquationLemma}
use Rattle.prove_equation.specs.Conditions.{CanUseAt, SaysCondition, BindsEach, listed, DeniesEach}
use Rattle.prove_equation.specs.Conditions.{ListEachVariable}
use Rattle.prove_equation.specs.Filled.{CanFill, SaysFilledEquation}
use Rattle.prove_equation.proofs.ShapeLaws.{IsDirect, direct_shape, closed_same, condition_is}

-- ---- sorts

made_there : (sig : Signature) (f : ℕ) (info : SymInfo) (sorts : List ℕ) → IsSymbol sig f info
    → made_sort sig f sorts ≡ sort_at sorts info.result
made_there sig f info sorts there = rw there.1 refl

pub sort_of_sorted : (sig : Signature) (vars : List ℕ) (p : RulePattern) (sort : ℕ)
    → HasSort sig vars p sort → sort_of sig vars p ≡ Some sort
sort_of_sorted sig vars (variable x) sort h = h
sort_of_sorted sig vars (domain_value s v) sort h = ap (λ (n : ℕ). Some n) h.0
sort_of_sorted sig vars (application f ps) sort h = made_there sig f h.0 [] h.1 ∙ h.3
sort_of_sorted sig vars (injection a b p) sort h = ap (λ (n : ℕ). Some n) h.1
sort_of_sorted sig vars (call f ss ps) sort h = made_there sig f h.0 ss h.1 ∙ h.5

-- ---- the terms and their images

some_there : (o : Option Tree) → IsSome o → (t : Tree) × (o ≡ Some t)
some_there None h = absurd (let no : ⊥ = cc in no)
some_there (Some t) h = (t, refl)

pub all_bound : (sig : Signature) (vars : List ℕ) (theta : List (Option Tree))
    → RespectsSorts sig vars theta → length theta ≡ length vars → BindsEach vars theta
    → AllBound sig theta
all_bound sig vars theta respects room binds x low =
    let there : (t : Tree) × (binding theta x ≡ Some t) =
    some_there (binding theta x) (binds x (omega (arith, low, room))) in
    let known : IsNormal there.0 ×
    ((sort : ℕ) × (slice_get vars x ≡ Some sort) × IsTermOf sig there.0 sort) =
    respects x there.0 there.1 in
    (there.0, there.1, (known.1.0, known.1.2))

pub all_there : (vars : List ℕ) (theta : List (Option Tree)) → BindsEach vars theta
    → AllThere theta (length vars)
all_there vars theta binds x low = some_there (binding theta x) (binds x low)

-- ---- a lemma of an equality of a left side and a pattern

pub record IsEqualitySchema (cx : Context) (vars : List ℕ) (l : Sentence) (r : RulePattern)
    (parts : List Pattern) (lemma : Theorem) : Type 0 where
  pub numbers : List ℕ
  pub are : AreNumbers cx.program.sig cx.names vars numbers
  pub left : Pattern
  pub left_image : sentence_image cx.program.sig cx.names l ≡ Some left
  pub left_has : IsSide cx.program.sig (length vars) l
  pub right : Pattern
  pub right_image : image_of cx.program.sig cx.names r ≡ Some right
  pub right_has : HasImage cx.program.sig (length vars) r
  pub says : lemma.conclusion
      ≡ equal (with_metas (length vars) left) (with_metas (length vars) right)
  pub assumes : (h : Pattern) → Contains lemma.hypotheses h
      → Contains (meta_facts 0 numbers ++ parts) h

left_open : (cx : Context) (vars : List ℕ) (l : Sentence) (r : RulePattern) (parts : List Pattern)
    (lemma : Theorem) (s : IsEqualitySchema cx vars l r parts lemma)
    → IsOpenFrom 0 (length vars) s.left
left_open cx vars l r parts lemma s =
    sentence_is_open cx.program.sig cx.names (length vars) l
    (side_is_open cx.program.sig (length vars) l s.left_has) s.left s.left_image

-- the lemma can be used if the parts of its condition are proved
pub schema_usable : (cx : Context) (vars : List ℕ) (l : Sentence) (r : RulePattern)
    (parts : List Pattern) (lemma : Theorem) (theta : List (Option Tree)) (ts others : List Theorem)
    (s : IsEqualitySchema cx vars l r parts lemma) → (i : HasImages cx theta s.numbers ts)
    → ((h : Pattern) → Contains parts h → IsProved i.patterns s.numbers others h)
    → IsUsable i.patterns s.numbers lemma ts others
schema_usable cx vars l r parts lemma theta ts others s i proved =
    let many : (length i.patterns ≡ length ts) × (length s.numbers ≡ length ts) =
    as_many_facts i.patterns s.numbers ts i.facts in
    let total : length vars ≡ length i.patterns =
    sym (numbers_length cx.program.sig cx.names vars s.numbers s.are) ∙ many.1 ∙ sym many.0 in
    let left : IsMetaBelow (length vars) (with_metas (length vars) s.left) =
    open_metas 0 (length vars) s.left (left_open cx vars l r parts lemma s) in
    let right : IsMetaBelow (length vars) (with_metas (length vars) s.right) =
    open_metas 0 (length vars) s.right (image_is_open cx.program.sig cx.names (length vars) r
    s.right_has s.right s.right_image) in
    record {
      are = i.facts;
      proved =
          λ k d low. one (slice_index_or lemma.hypotheses k d) (Contains-append_cases
          (meta_facts 0 s.numbers) parts (slice_index_or lemma.hypotheses k d)
          (s.assumes (slice_index_or lemma.hypotheses k d)
          (Contains-get_or lemma.hypotheses k d low)));
      below =
          subst (IsMetaBelow (length i.patterns)) (sym s.says) (subst
          (λ (n : ℕ). IsMetaBelow n
          (equal (with_metas (length vars) s.left) (with_metas (length vars) s.right))) total
          (left, right));
    }
  where
    one : (h : Pattern) → Contains (meta_facts 0 s.numbers) h ⊎ Contains parts h
        → IsProved i.patterns s.numbers others h
    one h (inl fact) = proved_fact i.patterns s.numbers others h fact
    one h (inr part) = proved h part

-- what the lemma says of the terms
pub record SaysOfTerms (cx : Context) (theta : List (Option Tree)) (l : Sentence) (r : RulePattern)
    (p : Pattern) : Type 0 where
  pub left : Pattern
  pub left_image : sentence_image cx.program.sig cx.names (filled_sentence theta l) ≡ Some left
  pub right : Pattern
  pub right_image : image_of cx.program.sig cx.names (filled theta r) ≡ Some right
  pub says : p ≡ equal left right
  pub no_variable : HasNoVariable left × HasNoVariable right

pub schema_says : (cx : Context) (vars : List ℕ) (l : Sentence) (r : RulePattern)
    (parts : List Pattern) (lemma : Theorem) (theta : List (Option Tree)) (ts : List Theorem)
    (t : Theorem)
    (s : IsEqualitySchema cx vars l r parts lemma) → (i : HasImages cx theta s.numbers ts)
    → AllThere theta (length vars) → t.conclusion ≡ instance i.patterns lemma.conclusion
    → SaysOfTerms cx theta l r t.conclusion
schema_says cx vars l r parts lemma theta ts t s i there is =
    let closed : HaveNoVariables i.patterns = facts_closed i.patterns s.numbers ts i.facts in
    record {
      left = instance i.patterns (with_metas (length vars) s.left);
      left_image =
          filled_side cx.program.sig cx.names theta i.patterns (length vars) l i.images there
          s.left_has s.left s.left_image;
      right = instance i.patterns (with_metas (length vars) s.right);
      right_image =
          filled_image cx.program.sig cx.names theta i.patterns (length vars) r i.images there
          s.right_has s.right s.right_image;
      says = is ∙ ap (instance i.patterns) s.says;
      no_variable = (
        instance_closed i.patterns (with_metas (length vars) s.left) closed
            (open_no_variable 0 (length vars) s.left (left_open cx vars l r parts lemma s)),
        instance_closed i.patterns (with_metas (length vars) s.right) closed
            (open_no_variable 0 (length vars)
            s.right (image_is_open cx.program.sig cx.names (length vars) r s.right_has s.right
            s.right_image)),
      );
    }

-- the result stays in the context
pub schema_stays : (cx : Context) (vars : List ℕ) (l : Sentence) (r : RulePattern)
    (parts : List Pattern) (lemma : Theorem) (theta : List (Option Tree)) (ts others : List Theorem)
    (t : Theorem)
    → IsEqualitySchema cx vars l r parts lemma → Contains cx.lemmas lemma
    → AreElementsFor cx theta ts → ((s : Scope) → HasContext s cx → AreWithin s others)
    → StaysUsed lemma ts others t → StaysIn cx t
schema_stays cx vars l r parts lemma theta ts others t s there are stay used scope has =
    let image : sentence_image cx.program.sig cx.names (equals l (term r)) ≡ Some
    (equal s.left s.right) =
    ap (λ (o : Option Pattern). both equal o (image_of cx.program.sig cx.names r)) s.left_image
    ∙ ap (both equal (Some s.left)) s.right_image in
    used scope (has.lemmas lemma there)
    (subst (λ (p : Pattern). IsOverPlaces scope p) (sym s.says)
    (schema_over_places scope cx (length vars) (equals l (term r)) (equal s.left s.right) has
    image))
    (elements_within scope cx theta ts has are) (stay scope has)

-- ---- the condition

value_same : (cx : Context) (p : RulePattern) (q r : Pattern)
    → image_of cx.program.sig cx.names p ≡ Some q → image_of cx.program.sig cx.names p ≡ Some r
    → q ≡ r
value_same cx p q r h k = some_same q r (sym h ∙ k)

-- the theorem on a condition proves the part that the lemma assumes of it
pub condition_proved : (cx : Context) (vars : List ℕ) (theta : List (Option Tree))
    (qs : List Pattern) (ns : List ℕ) (others : List Theorem) (x sort : ℕ) (p : RulePattern)
    (t : Theorem) (condition h : Pattern) → AreImages cx.program.sig cx.names theta qs
    → AllThere theta (length vars) → length vars ≡ length qs → IsTruth cx.program.sig vars p
    → HasSort cx.program.sig vars p sort
    → sentence_image cx.program.sig cx.names (is_true p sort) ≡ Some condition
    → SaysValue cx theta p (leaf sort (truth true)) t.conclusion → slice_get others x ≡ Some t
    → x + 1 ≡ length others → Contains (parts_of (with_metas (length vars) condition)) h
    → IsProved qs ns others h
condition_proved cx vars theta qs ns others x sort p t condition h images there many holds sorted
    image says at last part =
    let value : RulePattern = domain_value sort (truth true) in
    let w : (a : Pattern) × (b : Pattern) × (image_of cx.program.sig cx.names p ≡ Some a) ×
    (image_of cx.program.sig cx.names (domain_value sort (truth true)) ≡ Some b) ×
    (condition ≡ equal a b) =
    both_some equal (image_of cx.program.sig cx.names p)
    (image_of cx.program.sig cx.names (domain_value sort (truth true))) condition image in
    let sort_is : holds.sort ≡ sort =
    some_same holds.sort sort
    (sym holds.sorted ∙ sort_of_sorted cx.program.sig vars p sort sorted) in
    let has_value : HasImage cx.program.sig (length vars) (domain_value sort (truth true)) =
    subst (λ (s : ℕ). HasValue cx.program.sig s (truth true)) sort_is holds.truths in
    let is : h ≡ equal (with_metas (length vars) w.0) (with_metas (length vars) w.1) =
    sym (only_one (equal (with_metas (length vars) w.0) (with_metas (length vars) w.1)) h
    (subst (λ (q : Pattern). Contains (parts_of (with_metas (length vars) q)) h) w.4 part)) in
    let left : says.left ≡ instance qs (with_metas (length vars) w.0) =
    value_same cx (filled theta p) says.left (instance qs (with_metas (length vars) w.0))
    says.left_image
    (filled_image cx.program.sig cx.names theta qs (length vars) p images there holds.image w.0
    w.2) in
    let right : says.right ≡ instance qs (with_metas (length vars) w.1) =
    value_same cx (domain_value sort (truth true)) says.right
    (instance qs (with_metas (length vars) w.1))
    says.right_image (filled_image cx.program.sig cx.names theta qs (length vars)
    (domain_value sort (truth true)) images there has_value w.1 w.3) in
    let below : IsMetaBelow (length qs)
    (equal (with_metas (length vars) w.0) (with_metas (length vars) w.1)) =
    subst (λ (n : ℕ). IsMetaBelow n
    (equal (with_metas (length vars) w.0) (with_metas (length vars) w.1))) many (
      open_metas 0 (length vars) w.0
          (image_is_open cx.program.sig cx.names (length vars) p holds.image w.0 w.2),
      open_metas 0 (length vars) w.1 (image_is_open cx.program.sig cx.names (length vars)
          (domain_value sort (truth true)) has_value w.1 w.3),
    ) in
    by_condition x (with_metas (length vars) w.0) (with_metas (length vars) w.1) t at last is
    (subst (IsMetaBelow (length qs)) (sym is) below)
    (says.says ∙ ap (λ (q : Pattern). equal q says.right) left
    ∙ ap (equal (instance qs (with_metas (length vars) w.0))) right ∙ ap (instance qs) (sym is))
  where
    only_one : (a b : Pattern) → Contains (a ∷ []) b → a ≡ b
    only_one a b (zero, low, same) = same
    only_one a b (suc k, low, same) = absurd (omega (arith, low))

-- what the condition's theorem, if there is one, proves of the lemma's assumptions
pub part_proved : (cx : Context) (vars : List ℕ) (theta : List (Option Tree)) (qs : List Pattern)
    (ns : List ℕ) (holds : Sentence) (condition : Pattern) (c : Option RulePattern)
    (o : Option Theorem) → condition_sentence cx.program.sig vars c ≡ Some holds
    → sentence_image cx.program.sig cx.names holds ≡ Some condition
    → IsCondition cx.program.sig vars c → AreImages cx.program.sig cx.names theta qs
    → AllThere theta (length vars) → length vars ≡ length qs → SaysCondition cx vars theta c o
    → (h : Pattern) → Contains (parts_of (with_metas (length vars) condition)) h
    → IsProved qs ns (listed o) h
part_proved cx vars theta qs ns holds condition None o is_holds image has images there many said h
    part =
    let nothing_said : holds ≡ says.top = some_same holds says.top (sym is_holds) in
    let nothing : condition ≡ top =
    some_same condition top
    (sym image ∙ ap (sentence_image cx.program.sig cx.names) nothing_said) in
    absurd (omega (
      arith,
      (subst (λ (q : Pattern). Contains (parts_of (with_metas (length vars) q)) h) nothing
          part).1,
    ))
part_proved cx vars theta qs ns holds condition (Some c) None is_holds image has images there many
    said h part =
    absurd said
part_proved cx vars theta qs ns holds condition (Some c) (Some t) is_holds image has images there
    many (sort, sorted, value, stays) h part =
    let is : holds ≡ is_true c sort =
    condition_is cx.program.sig vars c sort holds
    (sort_of_sorted cx.program.sig vars c sort sorted) is_holds in
    condition_proved cx vars theta qs ns (t ∷ []) 0 sort c t condition h images there many has
    sorted (ap (sentence_image cx.program.sig cx.names) (sym is) ∙ image) value refl refl part

pub value_grown : (old new : Context) (theta : List (Option Tree)) (p : RulePattern) (u : Tree)
    (q : Pattern) → HasGrown old new → SaysValue old theta p u q → SaysValue new theta p u q
value_grown old new theta p u q g says = record {
  left = says.left;
  left_image = pattern_grown old new (filled theta p) says.left g says.left_image;
  right = says.right;
  right_image = pattern_grown old new (ground_pattern u) says.right g says.right_image;
  says = says.says;
  no_variable = says.no_variable;
}

pub condition_grown : (old new : Context) (vars : List ℕ) (theta : List (Option Tree))
    (o : Option RulePattern) (t : Option Theorem) → HasGrown old new
    → SaysCondition old vars theta o t → SaysCondition new vars theta o t
condition_grown old new vars theta None None g h = tt
condition_grown old new vars theta None (Some t) g h = absurd h
condition_grown old new vars theta (Some p) None g h = absurd h
condition_grown old new vars theta (Some p) (Some t) g (sort, sorted, says, stays) = (
  sort,
  subst (λ (q : Program). HasSort q.sig vars p sort) (sym g.program) sorted,
  value_grown old new theta p (leaf sort (truth true)) t.conclusion g says,
  stays_grown old new t g stays,
)

-- that no guard holds
pub denied_grown : (old new : Context) (f : ℕ) (e : Equation) (l : Option (List Guard))
    (ts : Forest) (d : Option Theorem) → HasGrown old new → DeniesEach old f e l ts d
    → DeniesEach new f e l ts d
denied_grown old new f e None ts None g h = tt
denied_grown old new f e None ts (Some t) g h = absurd h
denied_grown old new f e (Some gs) ts None g h = absurd h
denied_grown old new f e (Some gs) ts (Some t) g (denies, stays) = (
  record {
    holds = denies.holds;
    is_holds =
        subst (λ (p : Program). guards_at p.sig (equations_of (theory_of p) f)
        (e.parameters + length e.variables) gs ts ≡ Some denies.holds) (sym g.program)
        denies.is_holds;
    image = image_grown old new (says.not denies.holds) t.conclusion g denies.image;
  },
  stays_grown old new t g stays,
)

pub denied_within : (cx : Context) (f : ℕ) (e : Equation) (l : Option (List Guard)) (ts : Forest)
    (d : Option Theorem) → DeniesEach cx f e l ts d → (s : Scope) → HasContext s cx
    → AreWithin s (listed d)
denied_within cx f e None ts None h s has = tt
denied_within cx f e None ts (Some t) h s has = absurd h
denied_within cx f e (Some gs) ts None h s has = absurd h
denied_within cx f e (Some gs) ts (Some t) (denies, stays) s has = (stays s has, tt)

-- an equation without parameters has no guards
pub direct_denied : (cx : Context) (f : ℕ) (e : Equation) (lemma : Theorem)
    (theta : List (Option Tree)) (ts : Forest) (o d : Option Theorem) → e.parameters ≡ 0
    → CanUseAt cx f e lemma theta ts o d → CanUseAt cx f e lemma theta ts o None
direct_denied cx f e lemma theta ts o d none can = record {
  well_sorted = can.well_sorted;
  image = can.image;
  own = can.own;
  is_lemma = can.is_lemma;
  matches = can.matches;
  bound = can.bound;
  condition = can.condition;
  each = can.each;
  guards = go e.last_resort d can.image.guards can.guards;
}
  where
    go : (l : Option (List Guard)) (d : Option Theorem)
        → IfSome l (λ (gs : List Guard). (e.parameters ≢ 0)
        × All (IsGuard (equations_of (theory_of cx.program) f)) gs
        × (after_guards (e.parameters + length e.variables) gs < 2 ^ 32))
        → DeniesEach cx f e l ts d → DeniesEach cx f e l ts None
    go None None fits h = tt
    go None (Some t) fits h = absurd h
    go (Some gs) d fits h = absurd (fits.0 none)

pub condition_within : (cx : Context) (vars : List ℕ) (theta : List (Option Tree))
    (o : Option RulePattern) (t : Option Theorem) → SaysCondition cx vars theta o t
    → (s : Scope) → HasContext s cx → AreWithin s (listed t)
condition_within cx vars theta None None h s has = tt
condition_within cx vars theta None (Some t) h s has = absurd h
condition_within cx vars theta (Some p) None h s has = absurd h
condition_within cx vars theta (Some p) (Some t) (sort, sorted, says, stays) s has =
    (stays s has, tt)

-- ---- the same schema

-- a pattern of as many variables, as a schema
pub metas_same : (ns ms : List ℕ) (n : ℕ) (p q : Pattern) → ns ≡ ms → length ms ≡ n → p ≡ q
    → with_metas (length ns) p ≡ with_metas n q
metas_same ns ms n p q same many is =
    ap (λ (k : ℕ). with_metas k p) (ap length same ∙ many) ∙ ap (with_metas n) is

pub assumed_same : (ns ms : List ℕ) (n : ℕ) (p q h : Pattern) → ns ≡ ms → length ms ≡ n → p ≡ q
    → Contains (meta_facts 0 ns ++ parts_of (with_metas (length ns) p)) h
    → Contains (meta_facts 0 ms ++ parts_of (with_metas n q)) h
assumed_same ns ms n p q h same many is there =
    subst (λ (r : Pattern). Contains (meta_facts 0 ms ++ parts_of r) h)
    (metas_same ns ms n p q same many is)
    (subst (λ (ks : List ℕ).
    Contains (meta_facts 0 ks ++ parts_of (with_metas (length ns) p)) h) same there)

-- ---- an equation without parameters

pub equation_lemma_grown : (old new : Context) (f : ℕ) (e : Equation) (t : Theorem)
    → HasGrown old new → IsEquationLemma old f e t → IsEquationLemma new f e t
equation_lemma_grown old new f e t g is = record {
  listed =
      subst (λ (ts : List Theorem). Contains ts t) (sym g.more_lemmas)
      (Contains-append_left old.lemmas g.lemmas t is.listed);
  says = record {
    sentence = is.says.sentence;
    is_sentence = says_equation_grown old new f e is.says.sentence g is.says.is_sentence;
    numbers = is.says.numbers;
    condition = is.says.condition;
    equality = is.says.equality;
    closes = is.says.closes;
    says = is.says.says;
    assumes = is.says.assumes;
  };
}

pub can_use_grown : {old new : Context} {f : ℕ} {e : Equation} {lemma : Theorem}
    {theta : List (Option Tree)} {ts : Forest} {o d : Option Theorem} → HasGrown old new
    → CanUseAt old f e lemma theta ts o d → CanUseAt new f e lemma theta ts o d
can_use_grown {old} {new} {f} {e} {lemma} {theta} {ts} {o} {d} g can = record {
  well_sorted = subst (λ (p : Program). IsWellSorted (theory_of p)) (sym g.program) can.well_sorted;
  image =
      subst (λ (p : Program). HasEquationImage p.sig (equations_of (theory_of p) f) f e)
      (sym g.program) can.image;
  own = subst (λ (p : Program). IsEquationFor (theory_of p) f e) (sym g.program) can.own;
  is_lemma = equation_lemma_grown old new f e lemma g can.is_lemma;
  matches =
      subst (λ (p : Program). MatchNamed p.sig e.variables e.arguments e.names ts theta)
      (sym g.program) can.matches;
  bound = can.bound;
  condition = condition_grown old new e.variables theta e.condition o g can.condition;
  each =
      subst (λ (p : Program).
      IfSome e.last_resort (ListEachVariable (equations_of (theory_of p) f))) (sym g.program)
      can.each;
  guards = denied_grown old new f e e.last_resort ts d g can.guards;
}

pub can_fill_grown : (old new : Context) (f : ℕ) (e : Equation) (lemma : Theorem)
    (theta : List (Option Tree)) (o : Option Theorem) → HasGrown old new
    → CanFill old f e lemma theta o → CanFill new f e lemma theta o
can_fill_grown old new f e lemma theta o g can = record {
  image =
      subst (λ (p : Program). HasEquationImage p.sig (equations_of (theory_of p) f) f e)
      (sym g.program) can.image;
  direct = can.direct;
  is_lemma = equation_lemma_grown old new f e lemma g can.is_lemma;
  room = can.room;
  respects =
      subst (λ (p : Program). RespectsSorts p.sig e.variables theta) (sym g.program) can.respects;
  bound = can.bound;
  condition = condition_grown old new e.variables theta e.condition o g can.condition;
}

shape_of : (cx : Context) (f : ℕ) (e : Equation) (lemma : Theorem) → e.parameters ≡ 0
    → (s : SaysEquationSchema cx f e lemma) → IsDirect cx.program.sig cx.names f e s.sentence
shape_of cx f e lemma none s =
    direct_shape cx.program.sig cx.names (equations_of (theory_of cx.program) f) f e s.sentence none
    s.is_sentence

direct_schema : (cx : Context) (f : ℕ) (e : Equation) (lemma : Theorem)
    → HasEquationImage cx.program.sig (equations_of (theory_of cx.program) f) f e
    → (s : SaysEquationSchema cx f e lemma)
    → (d : IsDirect cx.program.sig cx.names f e s.sentence)
    → IsEqualitySchema cx e.variables (applied_sides e.names 0 (symbol f) e.arguments) e.right
    (parts_of (with_metas (length e.variables) d.condition)) lemma
direct_schema cx f e lemma has s d =
    let same : (s.numbers ≡ d.numbers) × (s.condition ≡ d.condition) ×
    (s.equality ≡ equal d.left d.right) =
    closed_same 0 s.numbers d.numbers s.condition s.equality d.condition (equal d.left d.right)
    (sym s.closes.says ∙ d.says) in
    let many : length d.numbers ≡ length e.variables =
    numbers_length cx.program.sig cx.names e.variables d.numbers d.are in
    record {
      numbers = d.numbers;
      are = d.are;
      left = d.left;
      left_image = d.left_image;
      left_has =
          applied_is_side cx.program.sig (length e.variables) e.names 0 (symbol f) e.arguments
          (names_below (length e.variables) e.names has.names) tt has.arguments;
      right = d.right;
      right_image = d.right_image;
      right_has = has.right;
      says = s.says
          ∙ metas_same s.numbers d.numbers (length e.variables) s.equality (equal d.left d.right)
          same.0 many same.2;
      assumes =
          λ h there. assumed_same s.numbers d.numbers (length e.variables) s.condition d.condition h
          same.0 many same.1 (s.assumes h there);
    }

-- all that is known when the lemma is cited
pub record IsCited (cx : Context) (f : ℕ) (e : Equation) (lemma : Theorem)
    (theta : List (Option Tree)) (o : Option Theorem) (ts : List Theorem) : Type 0 where
  pub can : CanFill cx f e lemma theta o
  pub elements : AreElementsFor cx theta ts

-- the lemma as an equality of patterns, and the facts on the terms
record IsReadyToFill (cx : Context) (f : ℕ) (e : Equation) (lemma : Theorem)
    (theta : List (Option Tree)) (o : Option Theorem) (ts : List Theorem) : Type 0 where
  parts : List Pattern
  schema : IsEqualitySchema cx e.variables (applied_sides e.names 0 (symbol f) e.arguments) e.right
      parts lemma
  images : HasImages cx theta schema.numbers ts
  proved : (h : Pattern) → Contains parts h → IsProved images.patterns schema.numbers (listed o) h

ready : (cx : Context) (f : ℕ) (e : Equation) (lemma : Theorem) (theta : List (Option Tree))
    (o : Option Theorem) (ts : List Theorem) → IsCited cx f e lemma theta o ts
    → IsReadyToFill cx f e lemma theta o ts
unfolding direct_schema shape_of
ready cx f e lemma theta o ts w =
    let d : IsDirect cx.program.sig cx.names f e w.can.is_lemma.says.sentence =
    shape_of cx f e lemma w.can.direct w.can.is_lemma.says in
    let i : HasImages cx theta d.numbers ts =
    elements_have cx theta e.variables d.numbers ts w.elements d.are w.can.respects
    w.can.room in
    let many : (length i.patterns ≡ length ts) × (length d.numbers ≡ length ts) =
    as_many_facts i.patterns d.numbers ts i.facts in
    let total : length e.variables ≡ length i.patterns =
    sym (numbers_length cx.program.sig cx.names e.variables d.numbers d.are) ∙ many.1
    ∙ sym many.0 in
    record {
      parts = parts_of (with_metas (length e.variables) d.condition);
      schema = direct_schema cx f e lemma w.can.image w.can.is_lemma.says d;
      images = i;
      proved =
          part_proved cx e.variables theta i.patterns d.numbers d.holds d.condition e.condition o
          d.is_holds d.is_condition w.can.image.condition i.images
          (all_there e.variables theta w.can.bound) total w.can.condition;
    }

pub cited_usable : (cx : Context) (f : ℕ) (e : Equation) (lemma : Theorem)
    (theta : List (Option Tree)) (o : Option Theorem) (ts : List Theorem)
    → IsCited cx f e lemma theta o ts
    → (qs : List Pattern) × (ns : List ℕ) × IsUsable qs ns lemma ts (listed o)
cited_usable cx f e lemma theta o ts w =
    let r : IsReadyToFill cx f e lemma theta o ts = ready cx f e lemma theta o ts w in (
      r.images.patterns,
      r.schema.numbers,
      schema_usable cx e.variables (applied_sides e.names 0 (symbol f) e.arguments) e.right r.parts
          lemma theta ts
          (listed o) r.schema r.images r.proved,
    )

pub cited_says : (cx : Context) (f : ℕ) (e : Equation) (lemma : Theorem)
    (theta : List (Option Tree)) (o : Option Theorem) (ts : List Theorem) (t : Theorem)
    → IsCited cx f e lemma theta o ts → IsUsed lemma ts (listed o) t
    → SaysFilledEquation cx f e theta t.conclusion
cited_says cx f e lemma theta o ts t w used =
    let r : IsReadyToFill cx f e lemma theta o ts = ready cx f e lemma theta o ts w in
    let usable : IsUsable r.images.patterns r.schema.numbers lemma ts (listed o) =
    schema_usable cx e.variables (applied_sides e.names 0 (symbol f) e.arguments) e.right r.parts
    lemma theta ts
    (listed o) r.schema r.images r.proved in
    let says : SaysOfTerms cx theta (applied_sides e.names 0 (symbol f) e.arguments) e.right
    t.conclusion =
    schema_says cx e.variables (applied_sides e.names 0 (symbol f) e.arguments) e.right r.parts
    lemma theta ts t r.schema
    r.images (all_there e.variables theta w.can.bound)
    (used r.images.patterns r.schema.numbers usable) in
    record {
      left = says.left;
      left_image = says.left_image;
      right = says.right;
      right_image = says.right_image;
      says = says.says;
      no_variable = says.no_variable;
    }

pub cited_stays : (cx : Context) (f : ℕ) (e : Equation) (lemma : Theorem)
    (theta : List (Option Tree)) (o : Option Theorem) (ts : List Theorem) (t : Theorem)
    → IsCited cx f e lemma theta o ts → StaysUsed lemma ts (listed o) t → StaysIn cx t
cited_stays cx f e lemma theta o ts t w used =
    let r : IsReadyToFill cx f e lemma theta o ts = ready cx f e lemma theta o ts w in
    schema_stays cx e.variables (applied_sides e.names 0 (symbol f) e.arguments) e.right r.parts
    lemma theta ts (listed o) t
    r.schema w.can.is_lemma.listed w.elements
    (condition_within cx e.variables theta e.condition o w.can.condition) used
