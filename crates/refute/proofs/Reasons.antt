-- Matching step by step, until a reason is found why it fails.
use Rattle.std.proofs.Common.{◌≡◌, ◌≢◌, ◌⊎◌, inl, inr, ℕ, ◌<◌, Bool, true, false, List, [], ◌∷◌, length}
use Rattle.std.proofs.Common.{replicate, set, Option, Some, None, refl, sym, ◌∙◌, ap, subst}
use Rattle.std.proofs.Common.{eq-eqb}
use Rattle.std.specs.Prelude.{◌==◌, ◌&&◌, ◌||◌, if◌then◌else◌}
use Rattle.std.specs.Option.{option_and_then}
use Rattle.std.proofs.lemmas.Bool.{eqb-true, false≢true}
use Rattle.std.proofs.lemmas.List.{length-set, length-replicate}
use Rattle.term_core.specs.Terms.{DomainValue, Tree, leaf, node, inj, Forest, no_tree, more_trees}
use Rattle.term_core.specs.Terms.{IsNoInjection, IsNormal, AreNormal}
use Rattle.term_core.specs.TreeTest.{tree_eq}
use Rattle.term_core.specs.Patterns.{Pattern, Patterns, variable, domain_value, application}
use Rattle.term_core.specs.Patterns.{injection, call, no_pattern, more_patterns, binding}
use Rattle.term_core.proofs.TreeTests.{Decides-tree_eq}
use Rattle.rule_core.specs.Sorting.{HasSort, HaveSorts, IsTermOf, HasInjection}
use Rattle.rule_core.specs.MatchLaws.{AreTermsOf}
use Rattle.rule_core.specs.MatchSteps.{lowered, bound_to, matched, all_matched}
use Rattle.rule_core.specs.Subsorts.{is_below}
use Rattle.rule_core.specs.WellSorted.{HasNoCall, HaveNoCall}
use Rattle.rule_core.specs.declared.signature.Signature.{Signature}
use Rattle.rule_core.specs.declared.signature.SymInfo.{SymInfo}
use Rattle.rule_core.specs.declared.signature.SortRef.{SortRef}
use Rattle.rule_core.specs.declared.signature.SortRef.TheVariants.{Sort}
use Rattle.rule_core.proofs.Belows.{is_below-true, true-is_below}
use Rattle.rule_core.proofs.Bindings.{same_or_other, binding-set_same, binding-set_other}
use Rattle.rule_core.proofs.Bindings.{binding-replicate}
use Rattle.rule_core.proofs.MatchFound.{same_symbol}
use Rattle.rule_core.proofs.MatchExact.{found_matches, match_is_found}
use Rattle.std.proofs.lemmas.Option.{slice_get_within}
use Rattle.refute.specs.Clashes.{IsUpTo, StandTogether, ComesTo, here, argument, below}
use Rattle.refute.specs.Clashes.{Fails, clash, two_bindings}
use Rattle.refute.specs.ClashLaws.{MismatchHasReason, MatchReaches}

none_some : {A : Type 0} (a : A) → None ≡ Some a → ⊥
none_some a h = cc

some_same : {A : Type 0} (a b : A) → Some a ≡ Some b → a ≡ b
some_same a b h = cc

-- ---- sorts below

up_to_true : (pairs : List (ℕ × ℕ)) (a b : ℕ) → (a == b || is_below pairs a b) ≡ true
    → IsUpTo pairs a b
up_to_true pairs a b h = go (a == b) refl h
  where
    go : (same : Bool) → (a == b) ≡ same → (same || is_below pairs a b) ≡ true → IsUpTo pairs a b
    go true is h = inl (eqb-true a b is)
    go false is h = inr (is_below-true pairs a b h)

up_to_false : (pairs : List (ℕ × ℕ)) (a b : ℕ) → (a == b || is_below pairs a b) ≡ false
    → IsUpTo pairs a b → ⊥
up_to_false pairs a b h (inl same) =
    first (a == b) (is_below pairs a b) (eq-eqb a b same) h
  where
    first : (x y : Bool) → x ≡ true → (x || y) ≡ false → ⊥
    first true y e k = false≢true (sym k)
    first false y e k = false≢true e
up_to_false pairs a b h (inr low) =
    last (a == b) (is_below pairs a b) (true-is_below pairs a b low) h
  where
    last : (x y : Bool) → y ≡ true → (x || y) ≡ false → ⊥
    last true y e k = false≢true (sym k)
    last false y e k = false≢true (sym k ∙ e)

lowered_term : (sig : Signature) (a b : ℕ) (t : Tree)
    → (a == b || is_below sig.subsorts a b) ≡ true → HasInjection sig → IsTermOf sig t a
    → IsNoInjection t → IsNormal t → IsTermOf sig (lowered a b t) b × IsNormal (lowered a b t)
lowered_term sig a b t test has is other normal = told (a == b) refl test
  where
    told : (same : Bool) → (a == b) ≡ same → (same || is_below sig.subsorts a b) ≡ true
        → IsTermOf sig (if same then t else inj a b t) b
        × IsNormal (if same then t else inj a b t)
    told true e h = (subst (IsTermOf sig t) (eqb-true a b e) is, normal)
    told false e h =
        ((has, refl, is_below-true sig.subsorts a b h, is), (other, normal))

-- ---- the search

-- each binding stands where comparing comes to
abbrev AreFound : List (ℕ × ℕ) → Pattern → Tree → List (Option Tree) → Type 0
AreFound pairs P T theta =
    (x : ℕ) (u : Tree) → binding theta x ≡ Some u → ComesTo pairs (variable x) u P T

-- a reason was found, or matching goes on
abbrev Outcome : List (ℕ × ℕ) → Pattern → Tree → List (Option Tree) → Option (List (Option Tree))
    → Type 0
Outcome pairs P T theta found =
    (Fails pairs P T × (found ≡ None))
    ⊎ ((new : List (Option Tree)) × ((found ≡ Some new)
    × (AreFound pairs P T new × (length new ≡ length theta))))

goes_on : (pairs : List (ℕ × ℕ)) (P : Pattern) (T : Tree) (theta : List (Option Tree))
    (found now : Option (List (Option Tree))) → now ≡ found → Outcome pairs P T theta found
    → Outcome pairs P T theta now
goes_on pairs P T theta found now same (inl (fails, none)) = inl (fails, same ∙ none)
goes_on pairs P T theta found now same (inr (new, (is, rest))) = inr (new, (same ∙ is, rest))

variable_outcome : (pairs : List (ℕ × ℕ)) (P : Pattern) (T : Tree) (x : ℕ) (t : Tree)
    (theta : List (Option Tree)) (o : Option Tree) → x < length theta
    → AreFound pairs P T theta → ComesTo pairs (variable x) t P T → binding theta x ≡ o
    → Outcome pairs P T theta (bound_to t x theta o)
variable_outcome pairs P T x t theta None low found comes is =
    inr (set theta x (Some t), (refl, (bound, length-set theta x (Some t))))
  where
    at : (y : ℕ) (u : Tree) → binding (set theta x (Some t)) y ≡ Some u → (y ≡ x) ⊎ (y ≢ x)
        → ComesTo pairs (variable y) u P T
    at y u e (inl same) =
        let one : t ≡ u =
        some_same t u (sym (binding-set_same theta x t low)
        ∙ ap (binding (set theta x (Some t))) (sym same) ∙ e) in
        subst (λ (w : Tree). ComesTo pairs (variable y) w P T) one
        (subst (λ (z : ℕ). ComesTo pairs (variable z) t P T) (sym same) comes)
    at y u e (inr other) = found y u (sym (binding-set_other theta x y t other) ∙ e)

    bound : AreFound pairs P T (set theta x (Some t))
    bound y u e = at y u e (same_or_other y x)
variable_outcome pairs P T x t theta (Some u) low found comes is = go (tree_eq u t) refl
  where
    go : (b : Bool) → tree_eq u t ≡ b
        → Outcome pairs P T theta (if b then Some theta else None)
    go true e = inr (theta, (refl, (found, refl)))
    go false e =
        inl (
          two_bindings x u t (found x u is) comes
              (λ same. false≢true (sym e ∙ (Decides-tree_eq u t).1 same)),
          refl,
        )

value_outcome : (pairs : List (ℕ × ℕ)) (P : Pattern) (T : Tree) (s : ℕ) (v : DomainValue)
    (t : Tree) (theta : List (Option Tree)) → AreFound pairs P T theta
    → ((t ≡ leaf s v → ⊥) → Fails pairs P T)
    → Outcome pairs P T theta (if tree_eq t (leaf s v) then Some theta else None)
value_outcome pairs P T s v t theta found fails = go (tree_eq t (leaf s v)) refl
  where
    go : (b : Bool) → tree_eq t (leaf s v) ≡ b
        → Outcome pairs P T theta (if b then Some theta else None)
    go true e = inr (theta, (refl, (found, refl)))
    go false e =
        inl (fails (λ same. false≢true (sym e ∙ (Decides-tree_eq t (leaf s v)).1 same)), refl)

as_long : (pairs : List (ℕ × ℕ)) (P : Pattern) (T : Tree) (theta new : List (Option Tree))
    (found : Option (List (Option Tree))) → length new ≡ length theta
    → Outcome pairs P T new found → Outcome pairs P T theta found
as_long pairs P T theta new found long (inl fails) = inl fails
as_long pairs P T theta new found long (inr (last, (is, (there, longer)))) =
    inr (last, (is, (there, longer ∙ long)))

-- after one pattern the others are matched
and_rest : (pairs : List (ℕ × ℕ)) (P : Pattern) (T : Tree) (ps : Patterns) (ts : Forest)
    (theta : List (Option Tree)) (o : Option (List (Option Tree))) → Outcome pairs P T theta o
    → ((new : List (Option Tree)) → AreFound pairs P T new → length new ≡ length theta
    → Outcome pairs P T new (all_matched pairs ps ts new))
    → Outcome pairs P T theta (option_and_then (all_matched pairs ps ts) o)
and_rest pairs P T ps ts theta o (inl (fails, none)) further =
    inl (fails, ap (option_and_then (all_matched pairs ps ts)) none)
and_rest pairs P T ps ts theta o (inr (new, (is, (there, long)))) further =
    goes_on pairs P T theta (all_matched pairs ps ts new)
    (option_and_then (all_matched pairs ps ts) o)
    (ap (option_and_then (all_matched pairs ps ts)) is)
    (as_long pairs P T theta new (all_matched pairs ps ts new) long (further new there long))

mutual
  search_one : (sig : Signature) (variables : List ℕ) (P : Pattern) (T : Tree) (p : Pattern)
      (sort : ℕ) (t : Tree) (theta : List (Option Tree)) → HasSort sig variables p sort
      → HasNoCall p → IsTermOf sig t sort → IsNormal t → length theta ≡ length variables
      → AreFound sig.subsorts P T theta
      → ((q : Pattern) (u : Tree) → ComesTo sig.subsorts q u p t → ComesTo sig.subsorts q u P T)
      → Outcome sig.subsorts P T theta (matched sig.subsorts p t theta)
  search_one sig variables P T (variable x) sort t theta h plain is normal room found comes =
      variable_outcome sig.subsorts P T x t theta (binding theta x)
      (subst (λ (n : ℕ). x < n) (sym room) (slice_get_within variables x sort h)) found
      (comes (variable x) t here) refl
  search_one sig variables P T (domain_value s v) sort (leaf r w) theta h plain is normal room
      found comes =
      value_outcome sig.subsorts P T s v (leaf r w) theta found
      (λ other. clash (domain_value s v) (leaf r w) (comes (domain_value s v) (leaf r w) here)
      (λ same. other (ap (λ (k : ℕ). leaf k w) (is.0 ∙ sym h.0) ∙ ap (leaf s) (sym same))))
  search_one sig variables P T (domain_value s v) sort (node g ts) theta h plain is normal room
      found comes =
      value_outcome sig.subsorts P T s v (node g ts) theta found
      (λ other. clash (domain_value s v) (node g ts) (comes (domain_value s v) (node g ts) here) tt)
  search_one sig variables P T (domain_value s v) sort (inj a d t) theta h plain is normal room
      found comes =
      value_outcome sig.subsorts P T s v (inj a d t) theta found
      (λ other. clash (domain_value s v) (inj a d t) (comes (domain_value s v) (inj a d t) here) tt)
  search_one sig variables P T (application f ps) sort (leaf r w) theta h plain is normal room found
      comes =
      inl (clash (application f ps) (leaf r w) (comes (application f ps) (leaf r w) here) tt, refl)
  search_one sig variables P T (application f ps) sort (inj a d t) theta h plain is normal room
      found comes =
      inl (clash (application f ps) (inj a d t) (comes (application f ps) (inj a d t) here) tt, refl)
  search_one sig variables P T (application f ps) sort (node g ts) theta
      (info, at, ctor, result, args) plain (info2, at2, ctor2, result2, args2) normal room found
      comes =
      go (f == g) refl
      (λ same. search_all sig variables [] P T ps info.args.items ts theta args plain
      (subst (λ (i : SymInfo). AreTermsOf sig [] ts i.args.items)
      (sym (same_symbol sig f g info info2 same at at2)) args2) normal room found
      (λ q u p t together inside. comes q u
      (subst (λ (k : ℕ). ComesTo sig.subsorts q u (application f ps) (node k ts)) same
      (argument p t together inside))))
    where
      go : (b : Bool) → (f == g) ≡ b
          → (f ≡ g → Outcome sig.subsorts P T theta (all_matched sig.subsorts ps ts theta))
          → Outcome sig.subsorts P T theta
          (if b then all_matched sig.subsorts ps ts theta else None)
      go false e further =
          inl (
            clash (application f ps) (node g ts) (comes (application f ps) (node g ts) here)
                (λ same. false≢true (sym e ∙ eq-eqb f g same)),
            refl,
          )
      go true e further = further (eqb-true f g e)
  search_one sig variables P T (injection b c p) sort (leaf r w) theta h plain is normal room found
      comes =
      inl (clash (injection b c p) (leaf r w) (comes (injection b c p) (leaf r w) here) tt, refl)
  search_one sig variables P T (injection b c p) sort (node g ts) theta h plain is normal room found
      comes =
      inl (clash (injection b c p) (node g ts) (comes (injection b c p) (node g ts) here) tt, refl)
  search_one sig variables P T (injection b c p) sort (inj a d t) theta
      (has, to, under, within) plain (has2, to2, under2, within2) normal room found comes =
      goes_on sig.subsorts P T theta
      (if (a == b || is_below sig.subsorts a b) then matched sig.subsorts p (lowered a b t) theta
      else None) _
      (ap (λ (k : Bool). if (k && (a == b || is_below sig.subsorts a b))
      then matched sig.subsorts p (lowered a b t) theta else None)
      (eq-eqb c d (to ∙ sym to2)))
      (go (a == b || is_below sig.subsorts a b) refl
      (λ e. search_one sig variables P T p b (lowered a b t) theta within plain
      (lowered_term sig a b t e has within2 normal.0 normal.1).0
      (lowered_term sig a b t e has within2 normal.0 normal.1).1 room found
      (λ q u inside. comes q u
      (subst (λ (k : ℕ). ComesTo sig.subsorts q u (injection b c p) (inj a k t))
      (to ∙ sym to2) (below (up_to_true sig.subsorts a b e) inside)))))
    where
      go : (k : Bool) → (a == b || is_below sig.subsorts a b) ≡ k
          → ((a == b || is_below sig.subsorts a b) ≡ true
          → Outcome sig.subsorts P T theta (matched sig.subsorts p (lowered a b t) theta))
          → Outcome sig.subsorts P T theta
          (if k then matched sig.subsorts p (lowered a b t) theta else None)
      go false e further =
          inl (
            clash (injection b c p) (inj a d t) (comes (injection b c p) (inj a d t) here)
                (up_to_false sig.subsorts a b e),
            refl,
          )
      go true e further = further e
  search_one sig variables P T (call f sorts ps) sort t theta h plain is normal room found comes =
      absurd plain

  search_all : (sig : Signature) (variables sorts : List ℕ) (P : Pattern) (T : Tree)
      (ps : Patterns) (refs : List SortRef) (ts : Forest) (theta : List (Option Tree))
      → HaveSorts sig variables sorts ps refs → HaveNoCall ps → AreTermsOf sig sorts ts refs
      → AreNormal ts → length theta ≡ length variables → AreFound sig.subsorts P T theta
      → ((q : Pattern) (u : Tree) (p : Pattern) (t : Tree) → StandTogether p t ps ts
      → ComesTo sig.subsorts q u p t → ComesTo sig.subsorts q u P T)
      → Outcome sig.subsorts P T theta (all_matched sig.subsorts ps ts theta)
  search_all sig variables sorts P T no_pattern refs no_tree theta h plain is normal room found
      comes =
      inr (theta, (refl, (found, refl)))
  search_all sig variables sorts P T no_pattern [] (more_trees t ts) theta h plain is normal room
      found comes =
      absurd is
  search_all sig variables sorts P T no_pattern (of ∷ refs) (more_trees t ts) theta h plain is
      normal room found comes =
      absurd h
  search_all sig variables sorts P T (more_patterns p ps) [] ts theta h plain is normal room found
      comes =
      absurd h
  search_all sig variables sorts P T (more_patterns p ps) (of ∷ refs) no_tree theta h plain is
      normal room found comes =
      absurd is
  search_all sig variables sorts P T (more_patterns p ps) (of ∷ refs) (more_trees t ts) theta
      (sort, at, first, others) plain (sort2, at2, first2, others2) normal room found comes =
      let same : sort2 ≡ sort = some_same sort2 sort (sym at2 ∙ at) in
      and_rest sig.subsorts P T ps ts theta (matched sig.subsorts p t theta)
      (search_one sig variables P T p sort t theta first plain.0
      (subst (IsTermOf sig t) same first2) normal.0 room found
      (λ q u inside. comes q u p t (inl (refl, refl)) inside))
      (λ new there long. search_all sig variables sorts P T ps refs ts new others plain.1 others2
      normal.1 (long ∙ room) there (λ q u r w together. comes q u r w (inr together)))

-- ---- from the root

abbrev empty : List ℕ → List (Option Tree)
empty variables = replicate (length variables) None

search : (sig : Signature) (variables : List ℕ) (p : Pattern) (sort : ℕ) (t : Tree)
    → HasSort sig variables p sort → HasNoCall p → IsTermOf sig t sort → IsNormal t
    → Outcome sig.subsorts p t (empty variables) (matched sig.subsorts p t (empty variables))
search sig variables p sort t h plain is normal =
    search_one sig variables p t p sort t (empty variables) h plain is normal
    (length-replicate (length variables) None)
    (λ x u e. absurd (none_some u (sym (binding-replicate (length variables) x) ∙ e)))
    (λ q u comes. comes)

-- the only pattern of a list and the only term
only_matched : (pairs : List (ℕ × ℕ)) (p : Pattern) (t : Tree) (theta : List (Option Tree))
    (o : Option (List (Option Tree))) → matched pairs p t theta ≡ o
    → all_matched pairs (more_patterns p no_pattern) (more_trees t no_tree) theta ≡ o
only_matched pairs p t theta o is =
    ap (option_and_then (all_matched pairs no_pattern no_tree)) is ∙ same o
  where
    same : (o : Option (List (Option Tree)))
        → option_and_then (all_matched pairs no_pattern no_tree) o ≡ o
    same None = refl
    same (Some theta) = refl

pub mismatch_has_reason : MismatchHasReason
mismatch_has_reason sig variables p sort t h plain is normal none =
    decide (search sig variables p sort t h plain is normal)
  where
    one : SortRef
    one = Sort (record { 0 = sort })

    decide : Outcome sig.subsorts p t (empty variables)
        (matched sig.subsorts p t (empty variables)) → Fails sig.subsorts p t
    decide (inl (fails, nothing)) = fails
    decide (inr (new, (found, rest))) =
        absurd (none new (found_matches sig variables [] (more_patterns p no_pattern) (one ∷ [])
        (more_trees t no_tree) new (sort, refl, h, tt) (sort, refl, is, tt) (normal, tt)
        (only_matched sig.subsorts p t (empty variables) (Some new) found)))

pub match_reaches : MatchReaches
match_reaches sig variables p sort t theta acyclic h plain is normal matches =
    decide (search sig variables p sort t h plain is normal)
  where
    one : SortRef
    one = Sort (record { 0 = sort })

    there : matched sig.subsorts p t (empty variables) ≡ Some theta
    there =
        sym (only_matched sig.subsorts p t (empty variables)
        (matched sig.subsorts p t (empty variables)) refl)
        ∙ match_is_found sig variables [] (more_patterns p no_pattern) (one ∷ [])
        (more_trees t no_tree) theta acyclic (sort, refl, h, tt) matches

    decide : Outcome sig.subsorts p t (empty variables)
        (matched sig.subsorts p t (empty variables)) → (x : ℕ) (u : Tree)
        → binding theta x ≡ Some u → ComesTo sig.subsorts (variable x) u p t
    decide (inl (fails, nothing)) x u bound = absurd (none_some theta (sym nothing ∙ there))
    decide (inr (new, (found, (at, long)))) x u bound =
        let same : theta ≡ new = some_same theta new (sym there ∙ found) in
        at x u (ap (λ (s : List (Option Tree)). binding s x) (sym same) ∙ bound)
