-- The arguments of an equation in the form of kompile, which come after its parameters: their
-- sorts,
-- and that the terms are members of them.
use Rattle.std.proofs.Common.{◌≡◌, ◌<◌, ◌+◌, ℕ, zero, suc, List, [], ◌∷◌, ◌++◌, Option}
use Rattle.std.proofs.Common.{Some, length, map, slice_get}
use Rattle.std.proofs.Common.{refl, sym, ◌∙◌, ap, subst, arith}
use Rattle.std.specs.Prelude.{Contains, slice_index_or}
use Rattle.std.proofs.lemmas.Option.{slice_get_within, get_or_from_slice_get}
use Rattle.ml_pat.specs.Patterns.{Pattern, top, and, member, var, meta}
use Rattle.ml_kernel.specs.Lemmas.{instance, IsMetaBelow}
use Rattle.ml_kernel.specs.Theorems.{Theorem}
use Rattle.term_core.specs.Terms.{Tree, no_tree, AreNormal}
use Rattle.term_core.specs.Forests.{forest}
use Rattle.term_core.specs.Patterns.{Pattern as RulePattern, Patterns as RulePatterns, variable}
use Rattle.term_core.specs.Patterns.{domain_value, application, injection, call, no_pattern}
use Rattle.term_core.specs.Patterns.{more_patterns, binding, ground_pattern}
use Rattle.rule_core.specs.NamedParts.{Name}
use Rattle.rule_core.specs.Sorting.{HasSort, HaveSorts, IsTermOf}
use Rattle.rule_core.specs.MatchLaws.{AreTermsOf}
use Rattle.rule_core.specs.declared.signature.Signature.{Signature}
use Rattle.rule_core.specs.declared.signature.SortRef.{SortRef}
use Rattle.ml_image.specs.Images.{both, image_of, shifted, all_shifted}
use Rattle.ml_image.specs.HasImages.{HasImage, HaveImages}
use Rattle.ml_image.specs.NamedSides.{left_sentence, of_child}
use Rattle.ml_image.specs.OwnAxioms.{meets, sort_numbered, name_behind}
use Rattle.ml_image.specs.Sentences.{Sentence, sentence_image}
use Rattle.ml_image.proofs.ImageLaws.{some_same}
use Rattle.prove_term.specs.Contexts.{Context}
use Rattle.prove_term.specs.FilledSides.{filled_sentence}
use Rattle.prove_term.proofs.ImageShapes.{both_some}
use Rattle.prove_schema.specs.Schemas.{with_metas, parts_of}
use Rattle.prove_schema.specs.Using.{IsProved, by_member}
use Rattle.prove_schema.proofs.OpenLaws.{open_metas, meta_below}
use Rattle.prove_schema.proofs.SentenceLaws.{sentence_is_open}
use Rattle.prove_schema.proofs.LeftSides.{IsSide}
use Rattle.prove_schema.proofs.LeftSides.{side_is_open, filled_side}
use Rattle.prove_schema.proofs.InstanceLaws.{AreImages, AllThere}
use Rattle.prove_equation.specs.Parameters.{IsMembership, AreMemberships}
use Rattle.prove_equation.proofs.ShapeLaws.{behind}
use Rattle.prove_equation.proofs.ParameterLaws.{AreOfSorts}

-- ---- the sorts of the terms

pub of_sorts : (sig : Signature) (us : List Tree) (sorts : List ℕ) (refs : List SortRef)
    → refs ≡ map sort_numbered sorts → AreTermsOf sig [] (forest us) refs → AreNormal (forest us)
    → AreOfSorts sig us sorts
of_sorts sig [] [] refs is sorted normal = tt
of_sorts sig [] (s ∷ sorts) refs is sorted normal =
    absurd (subst (λ (rs : List SortRef). AreTermsOf sig [] no_tree rs) is sorted)
of_sorts sig (u ∷ us) [] refs is sorted normal =
    absurd (subst (λ (rs : List SortRef). AreTermsOf sig [] (forest (u ∷ us)) rs) is sorted)
of_sorts sig (u ∷ us) (s ∷ sorts) refs is sorted normal =
    let here : AreTermsOf sig [] (forest (u ∷ us)) (sort_numbered s ∷ map sort_numbered sorts) =
    subst (λ (rs : List SortRef). AreTermsOf sig [] (forest (u ∷ us)) rs) is sorted in
    let same : here.0 ≡ s = some_same here.0 s (sym here.1) in (
      (normal.0, subst (IsTermOf sig u) same here.2),
      of_sorts sig us sorts (map sort_numbered sorts) refl here.3 normal.1,
    )

-- ---- sorts after parameters

mutual
  pub sorted-behind : (sig : Signature) (sorts vars : List ℕ) (p : RulePattern) (sort : ℕ)
      → HasSort sig vars p sort → HasSort sig (sorts ++ vars) (shifted (length sorts) p) sort
  sorted-behind sig sorts vars (variable x) sort h = behind sorts vars x ∙ h
  sorted-behind sig sorts vars (domain_value s v) sort h = h
  sorted-behind sig sorts vars (application f ps) sort h =
      (h.0, h.1, h.2, h.3, all_sorted-behind sig sorts vars [] ps h.0.args.items h.4)
  sorted-behind sig sorts vars (injection a b p) sort h =
      (h.0, h.1, h.2, sorted-behind sig sorts vars p a h.3)
  sorted-behind sig sorts vars (call f ss ps) sort h =
      (h.0, h.1, h.2, h.3, h.4, h.5, all_sorted-behind sig sorts vars ss ps h.0.args.items h.6)

  all_sorted-behind : (sig : Signature) (sorts vars ss : List ℕ) (ps : RulePatterns)
      (refs : List SortRef) → HaveSorts sig vars ss ps refs
      → HaveSorts sig (sorts ++ vars) ss (all_shifted (length sorts) ps) refs
  all_sorted-behind sig sorts vars ss no_pattern [] h = tt
  all_sorted-behind sig sorts vars ss no_pattern (r ∷ refs) h = absurd h
  all_sorted-behind sig sorts vars ss (more_patterns p ps) [] h = absurd h
  all_sorted-behind sig sorts vars ss (more_patterns p ps) (r ∷ refs) h = (
    h.0,
    h.1,
    sorted-behind sig sorts vars p h.0 h.2,
    all_sorted-behind sig sorts vars ss ps refs h.3,
  )

-- ---- memberships

-- there is a term for each variable, with its image
pub record AreAt (cx : Context) (theta : List (Option Tree)) (qs : List Pattern) (n : ℕ) :
    Type 0 where
  pub images : AreImages cx.program.sig cx.names theta qs
  pub there : AllThere theta n
  pub many : n ≡ length qs

-- argument j with the names of its parts, behind k parameters
abbrev pub IsMovedSide : Context → List (Option Tree) → List (Option Tree) → ℕ → ℕ → List Name → ℕ
    → RulePattern → Type 0
IsMovedSide cx theta whole n k names j p =
    IsSide cx.program.sig n (left_sentence (of_child j (map (name_behind k) names)) (shifted k p))
    × (filled_sentence whole (left_sentence (of_child j (map (name_behind k) names)) (shifted k p))
    ≡ filled_sentence theta (left_sentence (of_child j names) p))

one_more : (j i : ℕ) → j + 1 + i ≡ j + suc i
one_more j i = omega arith

same_image : (a b : Pattern) (o : Option Pattern) → o ≡ Some a → o ≡ Some b → a ≡ b
same_image a b o h k = some_same a b (sym h ∙ k)

member_proved : (cx : Context) (theta whole : List (Option Tree)) (qs : List Pattern) (ns : List ℕ)
    (others : List Theorem) (n j : ℕ) (u : Tree) (names : List Name) (p : RulePattern)
    (s : Sentence) (t : Theorem) (y h : Pattern) → AreAt cx whole qs n
    → IsSide cx.program.sig n s
    → filled_sentence whole s ≡ filled_sentence theta (left_sentence names p)
    → IsMembership cx theta names p u t → slice_get others j ≡ Some t → binding whole j ≡ Some u
    → sentence_image cx.program.sig cx.names s ≡ Some y
    → h ≡ member (with_metas n (var j)) (with_metas n y)
    → IsProved qs ns others h
member_proved cx theta whole qs ns others n j u names p s t y h at has same (says, stays) place
    bound
    image is =
    let q : (q : Pattern) × ((slice_get qs j ≡ Some q)
    × (image_of cx.program.sig cx.names (ground_pattern u) ≡ Some q)) =
    at.images j u bound in
    let element : says.element ≡ q.0 =
    same_image says.element q.0 (image_of cx.program.sig cx.names (ground_pattern u))
    says.element_image q.1.1 in
    let meta_is : slice_index_or qs j (meta j) ≡ q.0 =
    get_or_from_slice_get qs j q.0 (meta j) q.1.0 in
    let side : Sentence = filled_sentence theta (left_sentence names p) in
    let filled_is : sentence_image cx.program.sig cx.names side ≡ Some
    (instance qs (with_metas n y)) =
    ap (sentence_image cx.program.sig cx.names) (sym same)
    ∙ filled_side cx.program.sig cx.names whole qs n s at.images at.there has y image in
    let wholes : says.whole ≡ instance qs (with_metas n y) =
    same_image says.whole (instance qs (with_metas n y))
    (sentence_image cx.program.sig cx.names side) says.whole_image filled_is in
    let low : j < length qs = slice_get_within qs j q.0 q.1.0 in
    let open_y : IsMetaBelow n (with_metas n y) =
    open_metas 0 n y
    (sentence_is_open cx.program.sig cx.names n s (side_is_open cx.program.sig n s has) y image) in
    let below : IsMetaBelow (length qs) (member (meta j) (with_metas n y)) =
    (low, subst (λ (m : ℕ). IsMetaBelow m (with_metas n y)) at.many open_y) in
    let in_range : j < n = omega (arith, low, at.many) in
    let is_meta : h ≡ member (meta j) (with_metas n y) =
    is ∙ ap (λ (a : Pattern). member a (with_metas n y)) (meta_below n j in_range) in
    by_member j (with_metas n y) t place is_meta
    (subst (IsMetaBelow (length qs)) (sym is_meta) below)
    (says.says ∙ ap (λ (a : Pattern). member a says.whole) (element ∙ sym meta_is)
    ∙ ap (member (slice_index_or qs j (meta j))) wholes ∙ ap (instance qs) (sym is_meta))

pub members_proved : (cx : Context) (theta whole : List (Option Tree)) (qs : List Pattern)
    (ns : List ℕ)
    (others : List Theorem) (n m k : ℕ) (names : List Name) (j : ℕ) (ps : RulePatterns)
    (us : List Tree) (ms : List Theorem) (met h : Pattern) → AreAt cx whole qs n
    → HaveImages cx.program.sig m ps
    → ((i : ℕ) (p : RulePattern) → HasImage cx.program.sig m p
    → IsMovedSide cx theta whole n k names i p)
    → ((i : ℕ) (t : Theorem) → slice_get ms i ≡ Some t → slice_get others (j + i) ≡ Some t)
    → ((i : ℕ) (u : Tree) → slice_get us i ≡ Some u → binding whole (j + i) ≡ Some u)
    → AreMemberships cx theta names j ps us ms
    → sentence_image cx.program.sig cx.names
    (meets (map (name_behind k) names) j (all_shifted k ps)) ≡ Some met
    → Contains (parts_of (with_metas n met)) h → IsProved qs ns others h
members_proved cx theta whole qs ns others n m k names j no_pattern us ms met h at has moved places
    bounds are image part =
    absurd (omega (
      arith,
      (subst (λ (q : Pattern). Contains (parts_of (with_metas n q)) h)
          (sym (some_same top met image)) part).1,
    ))
members_proved cx theta whole qs ns others n m k names j (more_patterns p ps) [] ms met h at has
    moved places bounds are image part =
    absurd are
members_proved cx theta whole qs ns others n m k names j (more_patterns p ps) (u ∷ us) [] met h at
    has moved places bounds are image part =
    absurd are
members_proved cx theta whole qs ns others n m k names j (more_patterns p ps) (u ∷ us) (t ∷ ms) met
    h
    at has moved places bounds are image part =
    let first : Option Pattern =
    both member (Some (var j)) (sentence_image cx.program.sig cx.names side) in
    let w : (a : Pattern) × (b : Pattern) ×
    (both member (Some (var j)) (sentence_image cx.program.sig cx.names side) ≡ Some a) ×
    (sentence_image cx.program.sig cx.names others_meet ≡ Some b) × (met ≡ and a b) =
    both_some and first (sentence_image cx.program.sig cx.names others_meet) met image in
    let v : (x : Pattern) × (y : Pattern) × (Some (var j) ≡ Some x) ×
    (sentence_image cx.program.sig cx.names side ≡ Some y) × (w.0 ≡ member x y) =
    both_some member (Some (var j)) (sentence_image cx.program.sig cx.names side) w.0 w.2 in
    let met_is : met ≡ and (member (var j) v.1) w.1 =
    w.4
    ∙ ap (λ (a : Pattern). and a w.1)
    (v.4 ∙ ap (λ (x : Pattern). member x v.1) (sym (some_same (var j) v.0 v.2))) in
    go v.1 w.1 v.3 w.3 (λ b q is_b there.
    members_proved cx theta whole qs ns others n m k names (j + 1) ps us ms b q at has.1 moved
    (λ x z above. ap (slice_get others) (one_more j x) ∙ places (suc x) z above)
    (λ x z above. ap (binding whole) (one_more j x) ∙ bounds (suc x) z above) are.1 is_b
    there) (subst (λ (q : Pattern). Contains (parts_of (with_metas n q)) h) met_is part)
  where
    zero_more : j + 0 ≡ j
    zero_more = omega arith

    side : Sentence
    side = left_sentence (of_child j (map (name_behind k) names)) (shifted k p)

    others_meet : Sentence
    others_meet = meets (map (name_behind k) names) (j + 1) (all_shifted k ps)

    go : (y b : Pattern) → sentence_image cx.program.sig cx.names side ≡ Some y
        → sentence_image cx.program.sig cx.names others_meet ≡ Some b
        → ((b q : Pattern)
        → sentence_image cx.program.sig cx.names others_meet ≡ Some b
        → Contains (parts_of (with_metas n b)) q → IsProved qs ns others q)
        → Contains (member (with_metas n (var j)) (with_metas n y) ∷ parts_of (with_metas n b)) h
        → IsProved qs ns others h
    go y b is_y is_b below (zero, low, is) =
        let here : IsMovedSide cx theta whole n k names j p = moved j p has.0 in
        member_proved cx theta whole qs ns others n j u (of_child j names) p side t y h at here.0
        here.1 are.0
        (ap (slice_get others) (sym zero_more) ∙ places zero t refl)
        (ap (binding whole) (sym zero_more) ∙ bounds zero u refl) is_y (sym is)
    go y b is_y is_b below (suc i, low, is) = below b h is_b (i, omega (arith, low), is)
