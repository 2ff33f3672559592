-- The results of the private functions of matching.
use Rattle.std.proofs.Common.{◌≡◌, ◌≢◌, ◌+◌, ◌<◌, ◌≤◌, ◌↔◌, ℕ, zero, suc, Bool, true, false, List}
use Rattle.std.proofs.Common.{[], ◌∷◌, length, drop, get_or, slice_get, Option, Some, None, inl}
use Rattle.std.proofs.Common.{inr, refl, sym, ◌∙◌, ap, subst, arith}
use Rattle.std.specs.Prelude.{IsTrue, ◌==◌, ◌||◌, if◌then◌else◌}
use Rattle.std.specs.Option.{option_and_then}
use Rattle.std.proofs.lemmas.Bool.{false≢true}
use Rattle.std.proofs.lemmas.List.{drop_more}
use Rattle.std.proofs.lemmas.Option.{get_or_from_slice_get, slice_get_within}
use Rattle.term_core.specs.Terms.{Tree, node, inj, height, IsNoInjection, IsNormal}
use Rattle.term_core.specs.Forests.{forest, children}
use Rattle.term_core.specs.TreeTest.{tree_eq}
use Rattle.term_core.specs.Patterns.{Pattern, application}
use Rattle.term_core.specs.RulePatterns.{plain_pattern}
use Rattle.term_core.specs.PatternLists.{plain_patterns}
use Rattle.term_core.specs.declared.rule_patterns.RulePat.{RulePat}
use Rattle.term_core.proofs.TreeTests.{Decides-tree_eq}
use Rattle.rule_core.specs.Matching.{OccursIn, OccursInSome}
use Rattle.rule_core.specs.MatchSearch.{nodes, all_nodes}
use Rattle.rule_core.specs.MatchSteps.{lowered, bound_to, matched, all_matched, AgreesWithSearch}
use Rattle.rule_core.specs.Subsorts.{is_below}

-- the test of two different trees is false
pub test_fails : (t u : Tree) → (t ≡ u → ⊥) → tree_eq t u ≡ false
test_fails t u other = told (tree_eq t u) refl where
  told : (b : Bool) → tree_eq t u ≡ b → tree_eq t u ≡ false
  told false e = e
  told true e = absurd (other ((Decides-tree_eq t u).0 e))

-- the tree of a bound variable is compared
pub bound_known : (t known : Tree) (x : ℕ) (theta : List (Option Tree)) (o : Option Tree)
    (answer : Bool) → o ≡ Some known → IsTrue answer ↔ (known ≡ t)
    → AgreesWithSearch (bound_to t x theta o) answer theta
bound_known t known x theta o true e h = rw (e, (Decides-tree_eq known t).1 (h.0 refl)) refl
bound_known t known x theta o false e h =
    rw (e, test_fails known t (λ same. false≢true (h.1 same))) refl

-- a variable of a pattern of a list occurs in the list
pub stands_of-item : (ps : List RulePat) (i : ℕ) (p : RulePat) (x : ℕ) → p ≡ get_or ps i p
    → i < length ps → OccursIn x (plain_pattern p) → OccursInSome x (plain_patterns ps)
stands_of-item [] i p x e lt h = absurd (omega arith)
stands_of-item (q ∷ ps) zero p x e lt h =
    let P : RulePat → Type 0 = λ r. OccursIn x (plain_pattern r) in inl (subst P e h)
stands_of-item (q ∷ ps) (suc i) p x e lt h = inr (stands_of-item ps i p x e (omega arith) h)

-- if there are not as many patterns as terms, none matches
nothing_after : {A B : Type 0} (f : A → Option B) (o : Option A) → ((x : A) → f x ≡ None)
    → option_and_then f o ≡ None
nothing_after f None h = refl
nothing_after f (Some x) h = h x

pub other_count : (pairs : List (ℕ × ℕ)) (ps : List RulePat) (ts : List Tree)
    (theta : List (Option Tree)) → length ps ≢ length ts
    → all_matched pairs (plain_patterns ps) (forest ts) theta ≡ None
other_count pairs [] [] theta other = absurd (other refl)
other_count pairs [] (t ∷ ts) theta other = refl
other_count pairs (p ∷ ps) [] theta other = refl
other_count pairs (p ∷ ps) (t ∷ ts) theta other =
    nothing_after (all_matched pairs (plain_patterns ps) (forest ts))
    (matched pairs (plain_pattern p) t theta)
    (λ mid. other_count pairs ps ts mid (λ e. other (ap suc e)))

-- the patterns from i on are matched one after another
pub rest_matched : (pairs : List (ℕ × ℕ)) (ps : List RulePat) (ts : List Tree)
    (theta : List (Option Tree)) (i : ℕ) (p : RulePat) (t : Tree) → p ≡ get_or ps i p
    → i < length ps → slice_get ts i ≡ Some t
    → all_matched pairs (plain_patterns (drop i ps)) (forest (drop i ts)) theta
    ≡ option_and_then
    (all_matched pairs (plain_patterns (drop (i + 1) ps)) (forest (drop (i + 1) ts)))
    (matched pairs (plain_pattern p) t theta)
rest_matched pairs ps ts theta i p t e lt item =
    let front : drop i ps ≡ p ∷ drop (i + 1) ps =
    drop_more ps i p lt ∙ ap (λ (q : RulePat). q ∷ drop (i + 1) ps) (sym e) in
    let within : i < length ts = slice_get_within ts i t item in
    let front_tree : drop i ts ≡ t ∷ drop (i + 1) ts =
    drop_more ts i t within
    ∙ ap (λ (u : Tree). u ∷ drop (i + 1) ts) (get_or_from_slice_get ts i t t item) in
    rw (front, front_tree) refl

-- the child of an injection
pub child_is : (t u below : Tree) (a b : ℕ) → t ≡ inj a b below → slice_get (children t) 0 ≡ Some u
    → t ≡ inj a b u
child_is t u below a b root item =
    let both : Some below ≡ Some u =
    sym (ap (λ (v : Tree). slice_get (children v) 0) root) ∙ item in
    let same : below ≡ u = cc in root ∙ ap (inj a b) same

pub child_is_low : (t u : Tree) (a b n : ℕ) → t ≡ inj a b u → height t ≤ n → height u < n
child_is_low t u a b n root low = let high : height t ≡ height u + 1 = ap height root in omega arith

pub child_is_other : (t u : Tree) (a b : ℕ) → t ≡ inj a b u → IsNormal t → IsNoInjection u
child_is_other t u a b root normal =
    let P : Tree → Type 0 = IsNormal in
    let inside : IsNormal (inj a b u) = subst P root normal in
    inside.0

-- a pattern under an injection matches the injection of what is injected from a lower sort, and
-- nothing from another sort
pub lowered_found : (pairs : List (ℕ × ℕ)) (p : Pattern) (a b : ℕ) (t : Tree)
    (theta : List (Option Tree)) → (a == b) ≡ false → is_below pairs a b ≡ true
    → (if a == b || is_below pairs a b then matched pairs p (lowered a b t) theta else None)
    ≡ matched pairs p (inj a b t) theta
lowered_found pairs p a b t theta other below = rw (other, below) refl

pub lowered_none : (pairs : List (ℕ × ℕ)) (p : Pattern) (a b : ℕ) (t : Tree)
    (theta : List (Option Tree)) → (a == b) ≡ false → is_below pairs a b ≡ false
    → (if a == b || is_below pairs a b then matched pairs p (lowered a b t) theta else None) ≡ None
lowered_none pairs p a b t theta other apart = rw (other, apart) refl

-- what an answer says about what was found
pub answer_none : (found : Option (List (Option Tree))) (answer : Bool) (theta : List (Option Tree))
    → AgreesWithSearch found answer theta → answer ≡ false → found ≡ None
answer_none found false theta h e = h
answer_none found true theta h e = absurd (false≢true (sym e))

pub answer_some : (found : Option (List (Option Tree))) (answer : Bool) (theta : List (Option Tree))
    → AgreesWithSearch found answer theta → answer ≡ true → found ≡ Some theta
answer_some found true theta h e = h
answer_some found false theta h e = absurd (false≢true e)

-- a loop over patterns continues if the one at i matches, and finds nothing if it does not
pub rest_goes_on : (pairs : List (ℕ × ℕ)) (ps : List RulePat) (ts : List Tree)
    (theta new : List (Option Tree)) (i : ℕ) (p : RulePat) (t : Tree)
    (whole : Option (List (Option Tree))) → p ≡ get_or ps i p → i < length ps
    → slice_get ts i ≡ Some t → matched pairs (plain_pattern p) t theta ≡ Some new
    → all_matched pairs (plain_patterns (drop i ps)) (forest (drop i ts)) theta ≡ whole
    → all_matched pairs (plain_patterns (drop (i + 1) ps)) (forest (drop (i + 1) ts)) new ≡ whole
rest_goes_on pairs ps ts theta new i p t whole e lt item found rest =
    ap (option_and_then
    (all_matched pairs (plain_patterns (drop (i + 1) ps)) (forest (drop (i + 1) ts))))
    (sym found) ∙ sym (rest_matched pairs ps ts theta i p t e lt item) ∙ rest

pub rest_fails : (pairs : List (ℕ × ℕ)) (ps : List RulePat) (ts : List Tree)
    (theta : List (Option Tree)) (i : ℕ) (p : RulePat) (t : Tree)
    (whole : Option (List (Option Tree))) → p ≡ get_or ps i p → i < length ps
    → slice_get ts i ≡ Some t → matched pairs (plain_pattern p) t theta ≡ None
    → all_matched pairs (plain_patterns (drop i ps)) (forest (drop i ts)) theta ≡ whole
    → whole ≡ None
rest_fails pairs ps ts theta i p t whole e lt item found rest =
    sym rest ∙ rest_matched pairs ps ts theta i p t e lt item
    ∙ ap (option_and_then
    (all_matched pairs (plain_patterns (drop (i + 1) ps)) (forest (drop (i + 1) ts))))
    found

-- a constructor with another number of arguments
none_either_way : {A : Type 0} (b : Bool) (o : Option A) → o ≡ None → (if b then o else None) ≡ None
none_either_way true o e = e
none_either_way false o e = refl

pub other_arguments : (pairs : List (ℕ × ℕ)) (p : Pattern) (f g : ℕ) (ps : List RulePat) (t : Tree)
    (ts : List Tree) (theta : List (Option Tree)) → p ≡ application f (plain_patterns ps)
    → t ≡ node g (forest ts) → length ps ≢ length ts → matched pairs p t theta ≡ None
other_arguments pairs p f g ps t ts theta is root other =
    rw (is, root) (none_either_way (f == g)
    (all_matched pairs (plain_patterns ps) (forest ts) theta)
    (other_count pairs ps ts theta other))

-- the number of nodes of the patterns from i on is that of the one at i plus that of the rest
pub all_nodes-drop : (ps : List RulePat) (i : ℕ) (p : RulePat) → p ≡ get_or ps i p → i < length ps
    → all_nodes (plain_patterns (drop i ps))
    ≡ nodes (plain_pattern p) + all_nodes (plain_patterns (drop (i + 1) ps))
all_nodes-drop ps i p e lt =
    let front : drop i ps ≡ p ∷ drop (i + 1) ps =
    drop_more ps i p lt ∙ ap (λ (q : RulePat). q ∷ drop (i + 1) ps) (sym e) in
    rw front refl
