-- Parts of patterns whose parts have names: which terms they become, and what their names are bound
-- to.
use Rattle.std.proofs.Common.{◌≡◌, ◌+◌, ◌<◌, ◌≤◌, ℕ, zero, suc, List, [], ◌∷◌, Bool, true, false}
use Rattle.std.proofs.Common.{Option, Some, None, length, get_or, nat_eq, max, refl, sym, ◌∙◌, ap}
use Rattle.std.proofs.Common.{subst, arith}
use Rattle.std.specs.Prelude.{All, ◌≢◌, if◌then◌else◌}
use Rattle.std.specs.Option.{option_and_then}
use Rattle.std.proofs.lemmas.Bool.{eqb-true}
use Rattle.term_core.specs.Terms.{Tree, Forest, leaf, node, inj, no_tree, more_trees, injected}
use Rattle.term_core.specs.Terms.{height, heights, IsNormal}
use Rattle.term_core.specs.Patterns.{Pattern as RulePattern, Patterns as RulePatterns, application}
use Rattle.term_core.specs.Patterns.{injection, call, binding, instance_of, instances_of}
use Rattle.term_core.specs.Patterns.{ground_pattern, ground_patterns}
use Rattle.term_core.specs.RulePatterns.{plain_pattern}
use Rattle.term_core.specs.PatternLists.{plain_patterns}
use Rattle.term_core.specs.declared.rule_patterns.RulePat.{RulePat}
use Rattle.rule_core.specs.Evaluation.{most_height}
use Rattle.rule_core.specs.NamedParts.{Name, part_at, part_instance, pattern_at, parts}
use Rattle.rule_core.specs.Subsorts.{IsBelow}
use Rattle.rule_core.specs.Sorting.{HasSort, IsTermOf}
use Rattle.rule_core.specs.WellSorted.{IsSignature}
use Rattle.rule_core.specs.declared.signature.Signature.{Signature}
use Rattle.rule_core.specs.declared.signature.SortRef.{SortRef}
use Rattle.rule_core.proofs.SortedInstances.{both_there, instance_is_sorted}
use Rattle.ml_image.specs.NamedSides.{way_in, at_way, of_child}
use Rattle.ml_image.proofs.ImageLaws.{none_some, some_same}
use Rattle.prove_term.specs.Comparing.{IsInstance, AreInstances, MakesTerm, MakeTerms}
use Rattle.prove_term.specs.FilledSides.{AreBoundToParts}
use Rattle.prove_term.specs.Naming.{AreBoundInside, AreBoundBelow, IsNamedInstance, IsBelowNamed}
use Rattle.prove_term.specs.Naming.{AreNamedInstances, MakesNamed, MakesBelow, MakeNamed, NamesTerm}
use Rattle.prove_term.proofs.ComparingLaws.{arguments_of, injected_of, injection_moved}
use Rattle.prove_term.proofs.ComparingLaws.{injection_stayed, ground_injection}
use Rattle.prove_term.proofs.ComparingLoop.{IsItem, item_of}

-- ---- the names of a child

-- each name whose place begins with k is bound to the term that its part becomes
abbrev BindsChild : List (Option Tree) → ℕ → RulePattern → Name → Type 0
BindsChild theta k q n =
    (way : List ℕ) → n.place ≡ k ∷ way
    → binding theta n.variable ≡ option_and_then (instance_of theta) (part_at way q)

way_split : (k : ℕ) (place way : List ℕ) → way_in k place ≡ Some way → place ≡ k ∷ way
way_split k [] way h = absurd (none_some way h)
way_split k (i ∷ rest) way h = go (nat_eq i k) refl h
  where
    go : (b : Bool) → b ≡ nat_eq i k → (if b then Some rest else None) ≡ Some way
        → i ∷ rest ≡ k ∷ way
    go true e is =
        ap (λ (j : ℕ). j ∷ rest) (eqb-true i k (sym e))
        ∙ ap (λ (r : List ℕ). k ∷ r) (some_same rest way is)
    go false e is = absurd (none_some way is)

more_bound : (theta : List (Option Tree)) (q : RulePattern) (n : Name) (names : List Name)
    → binding theta n.variable ≡ option_and_then (instance_of theta) (part_at n.place q)
    → AreBoundInside theta q names → AreBoundInside theta q (n ∷ names)
more_bound theta q n names one all = go
  where
    go : AreBoundInside theta q (n ∷ names)
    go zero d low = one
    go (suc k) d low = all k d (omega (arith, low))

pub child_bound : (theta : List (Option Tree)) (k : ℕ) (q : RulePattern) (names : List Name)
    → All (BindsChild theta k q) names → AreBoundInside theta q (of_child k names)
child_bound theta k q [] all = λ i d low. absurd (omega (arith, low))
child_bound theta k q (n ∷ names) all =
    go (way_in k n.place) refl (child_bound theta k q names
    (λ i d low. all (suc i) d (omega (arith, low))))
  where
    go : (o : Option (List ℕ)) → way_in k n.place ≡ o → AreBoundInside theta q (of_child k names)
        → AreBoundInside theta q (at_way o n (of_child k names))
    go None is rest = rest
    go (Some way) is rest =
        more_bound theta q (record n { place = way }) (of_child k names)
        (all 0 n (omega arith) way (way_split k n.place way is)) rest

pub inside_bound : (theta : List (Option Tree)) (k : ℕ) (p q : RulePattern) (names : List Name)
    → pattern_at (parts p) k ≡ Some q → AreBoundInside theta p names
    → AreBoundInside theta q (of_child k names)
inside_bound theta k p q names there all =
    child_bound theta k q names (λ i d low way is. all i d low
    ∙ ap (λ (place : List ℕ). option_and_then (instance_of theta) (part_at place p)) is
    ∙ ap (λ (o : Option RulePattern).
    option_and_then (instance_of theta) (option_and_then (part_at way) o)) there)

pub parts_bound : (theta : List (Option Tree)) (k : ℕ) (ps : RulePatterns) (q : RulePattern)
    (names : List Name) → pattern_at ps k ≡ Some q → AreBoundToParts theta ps names
    → AreBoundInside theta q (of_child k names)
parts_bound theta k ps q names there all =
    child_bound theta k q names (λ i d low way is. all i d low
    ∙ ap (λ (place : List ℕ). part_instance theta ps place) is
    ∙ ap (λ (o : Option RulePattern).
    option_and_then (instance_of theta) (option_and_then (part_at way) o)) there)

-- the names of the whole
pub whole_bound : (theta : List (Option Tree)) (p : RulePattern) (u : Tree) (names : List Name)
    → instance_of theta p ≡ Some u → AreBoundInside theta p names → NamesTerm theta names u
whole_bound theta p u names makes all = λ k d low here. all k d low
    ∙ ap (λ (place : List ℕ). option_and_then (instance_of theta) (part_at place p)) here
    ∙ makes

-- ---- heights

max_first : (a b m : ℕ) → max a b ≤ m → a ≤ m
max_first a b m h = omega (arith, h)

max_second : (a b m : ℕ) → max a b ≤ m → b ≤ m
max_second a b m h = omega (arith, h)

lower : (b d : ℕ) (t : Tree) → height t ≤ height (injected b d t)
lower b d (leaf s v) = omega arith
lower b d (node f ts) = omega arith
lower b d (inj x y t) = omega arith

low_item : (theta : List (Option Tree)) (args : List RulePat) (us : Forest) (i : ℕ) (p : RulePat)
    (t : Tree) (m : ℕ) → instances_of theta (plain_patterns args) ≡ Some us → heights us ≤ m
    → i < length args → p ≡ get_or args i p → instance_of theta (plain_pattern p) ≡ Some t
    → height t ≤ m
low_item theta [] us i p t m make low lt at is = absurd (omega (arith, lt))
low_item theta (a ∷ args) us i p t m make low lt at is =
    let w : (x : Tree) × ((vs : Forest)
    × ((us ≡ more_trees x vs)
    × ((instance_of theta (plain_pattern a) ≡ Some x)
    × (instances_of theta (plain_patterns args) ≡ Some vs)))) =
    both_there (instance_of theta (plain_pattern a)) (instances_of theta (plain_patterns args)) us
    make in
    let both : max (height w.0) (heights w.1.0) ≤ m =
    subst (λ (ts : Forest). heights ts ≤ m) w.1.1.0 low in
    go (λ vs j more k lt' at'. low_item theta args vs j p t m more k lt' at' is) i lt at w.0 w.1.0
    w.1.1.1.0 w.1.1.1.1 (max_first (height w.0) (heights w.1.0) m both)
    (max_second (height w.0) (heights w.1.0) m both)
  where
    go : ((vs : Forest) (j : ℕ) → instances_of theta (plain_patterns args) ≡ Some vs
        → heights vs ≤ m → j < length args → p ≡ get_or args j p → height t ≤ m)
        → (i : ℕ) → i < length (a ∷ args) → p ≡ get_or (a ∷ args) i p → (x : Tree) (vs : Forest)
        → instance_of theta (plain_pattern a) ≡ Some x
        → instances_of theta (plain_patterns args) ≡ Some vs → height x ≤ m → heights vs ≤ m
        → height t ≤ m
    go below zero lt at x vs one more h k =
        subst (λ (y : Tree). height y ≤ m)
        (some_same x t (sym one ∙ ap (λ (r : RulePat). instance_of theta (plain_pattern r)) (sym at)
        ∙ is)) h
    go below (suc j) lt at x vs one more h k = below vs j more k (omega (arith, lt)) at

-- ---- arguments

pub named_arguments : (sig : Signature) (names : List Name) (variables : List ℕ)
    (theta : List (Option Tree)) (f : ℕ) (ps : RulePatterns) (sort : ℕ) (u : Tree)
    → IsNamedInstance sig names variables theta (application f ps) sort u
    → (refs : List SortRef) × (us : Forest) × (u ≡ node f us)
    × AreNamedInstances sig names variables theta ps refs us
named_arguments sig names variables theta f ps sort u h =
    let w : (refs : List SortRef) × (us : Forest) × (u ≡ node f us) × AreInstances sig variables
    theta ps refs us =
    arguments_of sig variables theta f ps sort u h.instance in
    let low : heights w.1 + 1 ≤ most_height = subst (λ (t : Tree). height t ≤ most_height) w.2 h.low
    in (
      w.0,
      w.1,
      w.2,
      record {
        instances = w.3;
        low = omega (arith, low);
        bound = λ k q there. inside_bound theta k (application f ps) q names there h.bound;
      },
    )

pub named_made_arguments : (sig : Signature) (names : List Name) (f g : ℕ) (ps ws : RulePatterns)
    → MakesNamed sig names (application f ps) (application g ws) → MakeNamed sig names ps ws
named_made_arguments sig names f g ps ws (variables, theta, sort, u, h, is) =
    let w : (refs : List SortRef) × (us : Forest) × (u ≡ node f us)
    × AreNamedInstances sig names variables theta ps refs us =
    named_arguments sig names variables theta f ps sort u h in (
      variables,
      theta,
      w.0,
      w.1,
      w.3,
      same_arguments g f ws (ground_patterns w.1)
          (is ∙ ap ground_pattern w.2),
    )
  where
    same_arguments : (g f : ℕ) (ws vs : RulePatterns) → application g ws ≡ application f vs
        → ws ≡ vs
    same_arguments g f ws vs e = cc

-- one argument
pub record IsNamedItem (sig : Signature) (names : List Name) (variables : List ℕ)
    (theta : List (Option Tree)) (p w : RulePat) : Type 0 where
  pub sort : ℕ
  pub tree : Tree
  pub instance : IsNamedInstance sig names variables theta (plain_pattern p) sort tree
  pub is : plain_pattern w ≡ ground_pattern tree

pattern_there : (args : List RulePat) (i : ℕ) (p : RulePat) → i < length args → p ≡ get_or args i p
    → pattern_at (plain_patterns args) i ≡ Some (plain_pattern p)
pattern_there [] i p lt at = absurd (omega (arith, lt))
pattern_there (a ∷ args) zero p lt at = ap (λ (r : RulePat). Some (plain_pattern r)) (sym at)
pattern_there (a ∷ args) (suc i) p lt at = pattern_there args i p (omega (arith, lt)) at

pub named_item : (sig : Signature) (names : List Name) (variables : List ℕ)
    (theta : List (Option Tree)) (args ws : List RulePat) (refs : List SortRef) (us : Forest) (i : ℕ)
    (p w : RulePat)
    → AreNamedInstances sig names variables theta (plain_patterns args) refs us
    → plain_patterns ws ≡ ground_patterns us → i < length args → p ≡ get_or args i p
    → w ≡ get_or ws i w → IsNamedItem sig (of_child i names) variables theta p w
named_item sig names variables theta args ws refs us i p w h is lt at on =
    let one : IsItem sig variables theta args i p w =
    item_of sig variables theta args ws refs us i p w h.instances is lt at on in
    record {
      sort = one.sort;
      tree = one.tree;
      instance = record {
        instance = one.instance;
        low =
            low_item theta args us i p one.tree most_height h.instances.make h.low lt at
            one.instance.makes;
        bound = h.bound i (plain_pattern p) (pattern_there args i p lt at);
      };
      is = one.is;
    }

-- ---- injections

pub named_below : (sig : Signature) (names : List Name) (variables : List ℕ)
    (theta : List (Option Tree)) (a b : ℕ) (p : RulePattern) (sort : ℕ) (u : Tree)
    → IsNamedInstance sig names variables theta (injection a b p) sort u
    → IsBelowNamed sig (of_child 0 names) variables theta a b p sort u
named_below sig names variables theta a b p sort u h = record {
  instance = h.instance;
  low = h.low;
  bound = inside_bound theta 0 (injection a b p) p names refl h.bound;
}

pub makes_below : (sig : Signature) (names : List Name) (a b : ℕ) (p w : RulePattern)
    → MakesNamed sig names (injection a b p) w → MakesBelow sig (of_child 0 names) a b p w
makes_below sig names a b p w (variables, theta, sort, u, h, is) =
    (variables, theta, sort, u, named_below sig names variables theta a b p sort u h, is)

-- without the names
pub below_makes : (sig : Signature) (names : List Name) (a b : ℕ) (p w : RulePattern)
    → MakesBelow sig names a b p w → MakesTerm sig (injection a b p) w
below_makes sig names a b p w (variables, theta, sort, u, h, is) =
    (variables, theta, sort, u, h.instance, is)

pub named_makes : (sig : Signature) (names : List Name) (p w : RulePattern)
    → MakesNamed sig names p w → MakesTerm sig p w
named_makes sig names p w (variables, theta, sort, u, h, is) =
    (variables, theta, sort, u, h.instance, is)

-- an injection that stays one
pub below_stays : (sig : Signature) (names : List Name) (variables : List ℕ)
    (theta : List (Option Tree)) (b d e : ℕ) (p : RulePattern) (sort : ℕ) (v : Tree)
    → IsSignature sig
    → IsBelowNamed sig names variables theta b d p sort (inj b e v)
    → (e ≡ d) × IsNamedInstance sig names variables theta p b v
below_stays sig names variables theta b d e p sort v ok h =
    let w : (e ≡ d) × IsInstance sig variables theta p b v =
    injection_stayed sig variables theta b d e p sort v ok h.instance in
    let low : height v + 1 ≤ most_height = h.low in
    (w.0, record { instance = w.1; low = omega (arith, low); bound = h.bound })

pub below_stays_made : (sig : Signature) (names : List Name) (b d e : ℕ) (p w : RulePattern)
    → IsSignature sig → MakesBelow sig names b d p (injection b e w)
    → (e ≡ d) × MakesNamed sig names p w
below_stays_made sig names b d e p w ok (variables, theta, sort, u, h, is) =
    let tree : (v : Tree) × (u ≡ inj b e v) × (w ≡ ground_pattern v) =
    ground_injection b e w u is in
    let m : (e ≡ d) × IsNamedInstance sig names variables theta p b tree.0 =
    below_stays sig names variables theta b d e p sort tree.0 ok
    (subst (λ (t : Tree). IsBelowNamed sig names variables theta b d p sort t) tree.1 h) in
    (m.0, (variables, theta, b, tree.0, m.1, tree.2))

-- an injection that becomes one from a lower sort
pub below_moves : (sig : Signature) (names : List Name) (variables : List ℕ)
    (theta : List (Option Tree)) (a b d e : ℕ) (p : RulePattern) (sort : ℕ) (v : Tree)
    → IsBelowNamed sig names variables theta b d p sort (inj a e v) → a ≢ b
    → (e ≡ d) × IsBelow sig.subsorts a b × IsNamedInstance sig names variables theta p b (inj a b v)
below_moves sig names variables theta a b d e p sort v h apart =
    let w : (e ≡ d) × IsBelow sig.subsorts a b × IsInstance sig variables theta p b (inj a b v) =
    injection_moved sig variables theta a b d e p sort v h.instance apart in
    (w.0, w.1, record { instance = w.2; low = h.low; bound = h.bound })

pub below_moves_made : (sig : Signature) (names : List Name) (a b d e : ℕ) (p w : RulePattern)
    → MakesBelow sig names b d p (injection a e w) → a ≢ b
    → (e ≡ d) × IsBelow sig.subsorts a b × MakesNamed sig names p (injection a b w)
below_moves_made sig names a b d e p w (variables, theta, sort, u, h, is) apart =
    let tree : (v : Tree) × (u ≡ inj a e v) × (w ≡ ground_pattern v) =
    ground_injection a e w u is in
    let m : (e ≡ d) × IsBelow sig.subsorts a b × IsNamedInstance sig names variables theta p b
    (inj a b tree.0) =
    below_moves sig names variables theta a b d e p sort tree.0
    (subst (λ (t : Tree). IsBelowNamed sig names variables theta b d p sort t) tree.1 h) apart in
    (m.0, m.1, (variables, theta, b, inj a b tree.0, m.2, ap (injection a b) tree.2))

-- the injected term, which is normal and not too high
pub base_low : (sig : Signature) (names : List Name) (b d a e : ℕ) (p w : RulePattern)
    → MakesBelow sig names b d p (injection a e w)
    → (t : Tree) × (w ≡ ground_pattern t) × IsNormal t × (height t ≤ most_height)
base_low sig names b d a e p w (variables, theta, sort, u, h, is) =
    let tree : (v : Tree) × (u ≡ inj a e v) × (w ≡ ground_pattern v) =
    ground_injection a e w u is in
    let normal : IsNormal (inj a e tree.0) =
    subst IsNormal tree.1 (instance_is_sorted sig variables (injection b d p) sort theta u
    h.instance.sorted h.instance.respects h.instance.makes).1 in
    let low : height tree.0 + 1 ≤ most_height =
    subst (λ (t : Tree). height t ≤ most_height) tree.1 h.low in
    (tree.0, tree.2, normal.1, omega (arith, low))
