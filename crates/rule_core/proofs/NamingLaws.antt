-- Parts of the patterns of the code, and names that are added one by one.
use Rattle.std.proofs.Common.{◌≡◌, ◌≢◌, ◌<◌, ◌≤◌, ◌+◌, inl, inr, ⊎_elim, ℕ, zero, suc, List, [], ◌∷◌, ◌++◌}
use Rattle.std.proofs.Common.{length, map, set, get_or, drop, Option, Some, None, refl, sym, ◌∙◌, ap}
use Rattle.std.proofs.Common.{append_assoc, subst, slice_get, false, true, arith}
use Rattle.std.specs.Prelude.{All, IsSome, IsSomeAnd, slice_index_or}
use Rattle.std.proofs.lemmas.List.{drop_more, drop_all}
use Rattle.std.proofs.lemmas.Bool.{false≢true}
use Rattle.std.specs.Option.{option_and_then}
use Rattle.term_core.specs.Terms.{Tree, Forest, height, heights}
use Rattle.term_core.specs.Patterns.{Pattern, Patterns, instance_of, instances_of}
use Rattle.term_core.specs.Instances.{FitsWithin}
use Rattle.term_core.specs.RulePatterns.{plain_pattern}
use Rattle.term_core.specs.PatternLists.{plain_patterns}
use Rattle.term_core.specs.declared.rule_patterns.RulePat.{RulePat}
use Rattle.rule_core.specs.NamedParts.{Name, IsNamed, pattern_at, parts, part_at, part_of}
use Rattle.rule_core.specs.NamedParts.{part_instance}
use Rattle.rule_core.specs.Matching.{OccursInSome}
use Rattle.rule_core.specs.NamedLaws.{AddsNames}
use Rattle.rule_core.specs.Naming.{AreNamesOf}
use Rattle.rule_core.specs.ProgramView.{name_of, names_of}
use Rattle.rule_core.specs.declared.rules.Named.{Named}
use Rattle.rule_core.proofs.NamedMatches.{at_name, same_instance, occurs_in_part, adds_first}
use Rattle.rule_core.proofs.NamedMatches.{part_has_instance}
use Rattle.rule_core.proofs.EvaluationUnique.{all_first, all_rest}

-- a pattern that is there is one of the list
pub within_list : (ps : List RulePat) (i : ℕ) → IsSome (pattern_at (plain_patterns ps) i)
    → i < length ps
within_list [] i there = absurd (false≢true there)
within_list (p ∷ ps) zero there = omega arith
within_list (p ∷ ps) (suc i) there = omega (arith, within_list ps i there)

pub at_in_list : (ps : List RulePat) (i : ℕ) (p : RulePat) → i < length ps → p ≡ get_or ps i p
    → pattern_at (plain_patterns ps) i ≡ Some (plain_pattern p)
at_in_list [] i p lt e = absurd (omega arith)
at_in_list (q ∷ ps) zero p lt e = ap (λ (r : RulePat). Some (plain_pattern r)) (sym e)
at_in_list (q ∷ ps) (suc i) p lt e = at_in_list ps i p (omega arith) e

-- ---- the way to a part

some_before : {A B : Type 0} (f : A → Option B) (o : Option A) → IsSome (option_and_then f o)
    → IsSome o
some_before f None s = s
some_before f (Some x) s = refl

pub first_within : (ps : List RulePat) (at : List ℕ) → IsSome (part_of (plain_patterns ps) at)
    → slice_index_or at 0 0 < length ps
first_within ps [] s = absurd (false≢true s)
first_within ps (i ∷ way) s =
    within_list ps i (some_before (part_at way) (pattern_at (plain_patterns ps) i) s)

pub some_place : (ps : List RulePat) (at : List ℕ) → IsSome (part_of (plain_patterns ps) at)
    → 0 < length at
some_place ps [] s = absurd (false≢true s)
some_place ps (i ∷ way) s = omega arith

pub first_part : (ps : List RulePat) (at : List ℕ) (p : RulePat)
    → IsSome (part_of (plain_patterns ps) at) → p ≡ get_or ps (slice_index_or at 0 0) p
    → part_at (drop 1 at) (plain_pattern p) ≡ part_of (plain_patterns ps) at
first_part ps [] p s e = absurd (false≢true s)
first_part ps (i ∷ way) p s e =
    ap (option_and_then (part_at way)) (sym (at_in_list ps i p (first_within ps (i ∷ way) s) e))

-- one number further
pub way_goes_on : (at : List ℕ) (i : ℕ) (p : Pattern) → i < length at
    → part_at (drop i at) p
    ≡ option_and_then (part_at (drop (i + 1) at)) (pattern_at (parts p) (slice_index_or at i 0))
way_goes_on at i p lt = ap (λ way. part_at way p) (drop_more at i 0 lt)

pub child_there : (at : List ℕ) (i : ℕ) (p : Pattern) (whole : Option Pattern) → i < length at
    → IsSome whole → part_at (drop i at) p ≡ whole
    → IsSome (pattern_at (parts p) (slice_index_or at i 0))
child_there at i p whole lt s e =
    some_before (part_at (drop (i + 1) at)) (pattern_at (parts p) (slice_index_or at i 0))
    (subst IsSome (sym e ∙ way_goes_on at i p lt) s)

pub child_goes_on : (at : List ℕ) (i : ℕ) (p q : Pattern) (whole : Option Pattern) → i < length at
    → part_at (drop i at) p ≡ whole → pattern_at (parts p) (slice_index_or at i 0) ≡ Some q
    → part_at (drop (i + 1) at) q ≡ whole
child_goes_on at i p q whole lt e child =
    sym (ap (option_and_then (part_at (drop (i + 1) at))) child) ∙ sym (way_goes_on at i p lt) ∙ e

pub way_ends : (at : List ℕ) (i : ℕ) (p : Pattern) (whole : Option Pattern) → length at ≤ i
    → part_at (drop i at) p ≡ whole → whole ≡ Some p
way_ends at i p whole le e = sym e ∙ ap (λ way. part_at way p) (drop_all i at le)

-- ---- names added one by one

-- later names
pub later_names : (ps : Patterns) (count : ℕ) (xs ys : List Named)
    → AreNamesOf ps count (names_of (xs ++ ys)) → AreNamesOf ps count (names_of ys)
later_names ps count [] ys are = are
later_names ps count (x ∷ xs) ys are =
    let rest : List Name = names_of (xs ++ ys) in
    later_names ps count xs ys (record {
      different = are.different.1;
      within = all_rest (λ (n : Name). n.variable < count) (name_of x) rest are.within;
      elsewhere = all_rest (λ (n : Name). OccursInSome n.variable ps → ⊥) (name_of x) rest
          are.elsewhere;
      there = all_rest (λ (n : Name). IsSome (part_of ps n.place)) (name_of x) rest are.there;
    })

-- no name of these is a variable of the patterns
pub is_no_name : (ps : Patterns) (count : ℕ) (names : List Name) (x : ℕ) → AreNamesOf ps count names
    → OccursInSome x ps → IsNamed names x → ⊥
is_no_name ps count names x are occurs is =
    let here = at_name (λ n. OccursInSome n.variable ps → ⊥) names x are.elsewhere is in
    here.2 (subst (λ y. OccursInSome y ps) (sym here.1) occurs)

-- a part has the same instance whether or not names are added
pub same_part : (ps : Patterns) (count : ℕ) (names : List Name) (theta sigma : List (Option Tree))
    (place : List ℕ) (q : Pattern) → AreNamesOf ps count names → AddsNames ps names theta sigma
    → part_of ps place ≡ Some q → instance_of sigma q ≡ instance_of theta q
same_part ps count names theta sigma place q are adds at =
    same_instance sigma theta q (λ x h. adds.others x
    (is_no_name ps count names x are (occurs_in_part ps place q x at h)))

pub part_fits : (n : ℕ) (ps : Patterns) (count : ℕ) (names : List Name)
    (theta sigma : List (Option Tree)) (place : List ℕ) (q : Pattern)
    → IsSomeAnd (instances_of theta ps) (λ (ts : Forest). heights ts ≤ n)
    → AreNamesOf ps count names → AddsNames ps names theta sigma → part_of ps place ≡ Some q
    → FitsWithin n sigma q
part_fits n ps count names theta sigma place q fits are adds at =
    found (instances_of theta ps) refl fits
  where
    found : (o : Option Forest) → instances_of theta ps ≡ o
        → IsSomeAnd o (λ (ts : Forest). heights ts ≤ n) → FitsWithin n sigma q
    found None e low = absurd low
    found (Some ts) e low =
        let has = part_has_instance theta ps ts place q e at in
        let is : instance_of sigma q ≡ Some has.0 =
        same_part ps count names theta sigma place q are adds at ∙ has.1 in
        subst (λ o. IsSomeAnd o (λ (t : Tree). height t ≤ n)) (sym is) (omega (arith, low, has.2))

pub one_name_more : (ps : Patterns) (count : ℕ) (x : Named) (done : List Named)
    (theta sigma : List (Option Tree)) (q : Pattern) (t : Tree) → length theta ≡ count
    → AreNamesOf ps count (names_of (x ∷ done)) → AddsNames ps (names_of done) theta sigma
    → part_of ps x.at.items ≡ Some q → instance_of sigma q ≡ Some t
    → AddsNames ps (names_of (x ∷ done)) theta (set sigma x.var (Some t))
one_name_more ps count x done theta sigma q t room are adds at made =
    let later : AreNamesOf ps count (names_of done) = later_names ps count (x ∷ []) done are in
    let value : part_instance theta ps x.at.items ≡ Some t =
    ap (option_and_then (instance_of theta)) at
    ∙ sym (same_part ps count (names_of done) theta sigma x.at.items q later adds at) ∙ made in
    let within : x.var < length theta =
    subst (λ k. x.var < k) (sym room)
    (all_first (λ (n : Name). n.variable < count) (name_of x) (names_of done) are.within) in
    subst (λ o. AddsNames ps (names_of (x ∷ done)) theta (set sigma x.var o)) value
    (adds_first ps theta (name_of x) (names_of done) sigma are.different.0 within adds)

pub part_of_first : (ps : Patterns) (count : ℕ) (x : Named) (done : List Named)
    → AreNamesOf ps count (names_of (x ∷ done)) → IsSome (part_of ps x.at.items)
part_of_first ps count x done are =
    all_first (λ (n : Name). IsSome (part_of ps n.place)) (name_of x) (names_of done) are.there

pub first_within_room : (ps : Patterns) (count : ℕ) (x : Named) (done : List Named)
    → AreNamesOf ps count (names_of (x ∷ done)) → x.var < count
first_within_room ps count x done are =
    all_first (λ (n : Name). n.variable < count) (name_of x) (names_of done) are.within

pub no_names_yet : (ps : Patterns) (theta : List (Option Tree)) → AddsNames ps [] theta theta
no_names_yet ps theta =
    record { room = refl; others = λ x no. refl; named = λ i d lt. absurd (omega arith) }

-- what is left of names of which the last is taken off
pub names_left : (ps : Patterns) (count : ℕ) (whole before rest done : List Named) (x : Named)
    → AreNamesOf ps count (names_of whole) → whole ≡ before ++ done → before ≡ rest ++ x ∷ []
    → (whole ≡ rest ++ x ∷ done) × AreNamesOf ps count (names_of (x ∷ done))
names_left ps count whole before rest done x are is taken =
    let all : whole ≡ rest ++ x ∷ done =
    is ∙ ap (λ ws. ws ++ done) taken ∙ append_assoc rest (x ∷ []) done in (
      all,
      later_names ps count rest (x ∷ done)
          (subst (λ (ws : List Named). AreNamesOf ps count (names_of ws)) all are),
    )
