-- A pattern that matches a term has, where it asks for a head, one that the term has there.
use Rattle.std.proofs.Common.{◌≡◌, ℕ, zero, suc, Bool, true, false, List, [], ◌∷◌, length, Option}
use Rattle.std.proofs.Common.{Some, None, slice_get, map, option_map, refl, sym, ◌∙◌, ap, subst}
use Rattle.std.proofs.Common.{eq-eqb}
use Rattle.std.specs.Prelude.{◌==◌, ◌&&◌, ◌||◌, if◌then◌else◌}
use Rattle.std.specs.Option.{option_and_then}
use Rattle.std.proofs.lemmas.Bool.{eqb-true, false≢true}
use Rattle.std.proofs.lemmas.List.{length-map}
use Rattle.std.proofs.lemmas.Option.{slice_get-map}
use Rattle.term_core.specs.Terms.{Tree, leaf, node, inj, Forest, no_tree, more_trees}
use Rattle.term_core.specs.Forests.{forest, trees, children}
use Rattle.term_core.specs.TreeTest.{tree_eq}
use Rattle.term_core.specs.Patterns.{Pattern, Patterns, variable, domain_value, application}
use Rattle.term_core.specs.Patterns.{injection, call, no_pattern, more_patterns}
use Rattle.term_core.specs.Instances.{patterns}
use Rattle.term_core.specs.RulePatterns.{plain_pattern}
use Rattle.term_core.specs.PatternLists.{plain_patterns}
use Rattle.term_core.specs.declared.rule_patterns.RulePat.{RulePat}
use Rattle.term_core.proofs.Forests.{trees-forest}
use Rattle.term_core.proofs.TreeTests.{Decides-tree_eq, Decides-value_eq}
use Rattle.rule_core.specs.Subsorts.{is_below}
use Rattle.rule_core.specs.MatchSteps.{lowered, matched, all_matched}
use Rattle.rule_core.proofs.Belows.{both_true, true_both}
use Rattle.rule_core.proofs.MatchFound.{guarded, after}
use Rattle.pat_matrix.specs.Collapsed.{IsCollapsed, AreCollapsed, HasOtherRoot}
use Rattle.pat_matrix.specs.Heads.{PlainHead, of_constructor, head_eq}
use Rattle.pat_matrix.specs.Heads.{root, pattern_list, lowers, takes}
use Rattle.pat_matrix.specs.HeadView.{head_of}
use Rattle.pat_matrix.specs.declared.heads.Head.{Head}
use Rattle.pat_matrix.specs.Positions.{part, asking, asked, row_asks, tree_at, subject_at}
use Rattle.pat_matrix.specs.MatrixLaws.{takes_root, UntakenDoNotMatch}

pub pattern_list-patterns : (ps : List Pattern) → pattern_list (patterns ps) ≡ ps
pattern_list-patterns [] = refl
pattern_list-patterns (p ∷ ps) = ap (λ (qs : List Pattern). p ∷ qs) (pattern_list-patterns ps)

-- the pattern matches the tree after some bindings
abbrev pub MatchesSomehow : List (ℕ × ℕ) → Pattern → Tree → Type 0
MatchesSomehow pairs p t =
    (theta new : List (Option Tree)) × (matched pairs p t theta ≡ Some new)

-- patterns that match are as many as the trees
pub as_many : (pairs : List (ℕ × ℕ)) (ps : Patterns) (ts : Forest)
    (theta new : List (Option Tree)) → all_matched pairs ps ts theta ≡ Some new
    → length (pattern_list ps) ≡ length (trees ts)
as_many pairs no_pattern no_tree theta new e = refl
as_many pairs no_pattern (more_trees t ts) theta new e = absurd (let no : ⊥ = cc in no)
as_many pairs (more_patterns p ps) no_tree theta new e = absurd (let no : ⊥ = cc in no)
as_many pairs (more_patterns p ps) (more_trees t ts) theta new e =
    let mid = after (all_matched pairs ps ts) (matched pairs p t theta) new e in
    ap suc (as_many pairs ps ts mid.0 new mid.1.1)

-- each of them matches the tree at its place
pub one_of_many : (pairs : List (ℕ × ℕ)) (ps : Patterns) (ts : Forest)
    (theta new : List (Option Tree)) (i : ℕ) (q : Pattern)
    → all_matched pairs ps ts theta ≡ Some new → slice_get (pattern_list ps) i ≡ Some q
    → (u : Tree) × ((slice_get (trees ts) i ≡ Some u) × MatchesSomehow pairs q u)
one_of_many pairs no_pattern no_tree theta new i q e there = absurd (let no : ⊥ = cc in no)
one_of_many pairs no_pattern (more_trees t ts) theta new i q e there =
    absurd (let no : ⊥ = cc in no)
one_of_many pairs (more_patterns p ps) no_tree theta new i q e there =
    absurd (let no : ⊥ = cc in no)
one_of_many pairs (more_patterns p ps) (more_trees t ts) theta new zero q e there =
    let mid = after (all_matched pairs ps ts) (matched pairs p t theta) new e in
    let same : p ≡ q = cc in
    (t, (refl, (theta, mid.0, ap (λ (r : Pattern). matched pairs r t theta) (sym same) ∙ mid.1.0)))
one_of_many pairs (more_patterns p ps) (more_trees t ts) theta new (suc i) q e there =
    let mid = after (all_matched pairs ps ts) (matched pairs p t theta) new e in
    one_of_many pairs ps ts mid.0 new i q mid.1.1 there

are_collapsed-item : (ps : Patterns) (i : ℕ) (q : Pattern) → AreCollapsed ps
    → slice_get (pattern_list ps) i ≡ Some q → IsCollapsed q
are_collapsed-item no_pattern i q h e = absurd (let no : ⊥ = cc in no)
are_collapsed-item (more_patterns p ps) zero q h e =
    let same : p ≡ q = cc in
    let P : Pattern → Type 0 = IsCollapsed in subst P same h.0
are_collapsed-item (more_patterns p ps) (suc i) q h e = are_collapsed-item ps i q h.1 e

-- a part of a collapsed pattern is collapsed
pub is_collapsed-part : (p : Pattern) (i : ℕ) (q : Pattern) → IsCollapsed p → part p i ≡ Some q
    → IsCollapsed q
is_collapsed-part (variable x) i q h e = absurd (let no : ⊥ = cc in no)
is_collapsed-part (domain_value s v) i q h e = absurd (let no : ⊥ = cc in no)
is_collapsed-part (application f ps) i q h e = are_collapsed-item ps i q h e
is_collapsed-part (injection a b p) zero q h e =
    let same : p ≡ q = cc in
    let P : Pattern → Type 0 = IsCollapsed in subst P same h.1
is_collapsed-part (injection a b p) (suc i) q h e = absurd (let no : ⊥ = cc in no)
is_collapsed-part (call f ss ps) i q h e = absurd (let no : ⊥ = cc in no)

-- what asks for something is no variable
abbrev pub Asks : Pattern → Type 0
Asks (variable x) = ⊥
Asks (domain_value s v) = Unit {0}
Asks (application f ps) = Unit {0}
Asks (injection a b p) = Unit {0}
Asks (call f ss ps) = Unit {0}

pub asks-asked : (p : Pattern) (way : List ℕ) (q : Pattern) → asked p way ≡ Some q → Asks p
asks-asked (variable x) [] q e = let no : ⊥ = cc in no
asks-asked (variable x) (i ∷ way) q e = let no : ⊥ = cc in no
asks-asked (domain_value s v) way q e = tt
asks-asked (application f ps) way q e = tt
asks-asked (injection a b p) way q e = tt
asks-asked (call f ss ps) way q e = tt

-- A pattern that is no variable and no injection, under an injection, matches only what the term
-- injects from just that sort.
pub not_lowered : (pairs : List (ℕ × ℕ)) (p : Pattern) (a b : ℕ) (t : Tree)
    (theta new : List (Option Tree)) (same : Bool) → (a == b) ≡ same → Asks p → HasOtherRoot p
    → matched pairs p (lowered a b t) theta ≡ Some new
    → (same ≡ true) × (matched pairs p t theta ≡ Some new)
not_lowered pairs p a b t theta new true is asks other e =
    (refl, ap (λ (c : Bool). matched pairs p (if c then t else inj a b t) theta) (sym is) ∙ e)
not_lowered pairs (variable x) a b t theta new false is asks other e = absurd asks
not_lowered pairs (domain_value s v) a b t theta new false is asks other e =
    let own : matched pairs (domain_value s v) (inj a b t) theta ≡ Some new =
    ap (λ (c : Bool). matched pairs (domain_value s v) (if c then t else inj a b t) theta) (sym is)
    ∙ e in
    absurd (let no : ⊥ = cc in no)
not_lowered pairs (application f ps) a b t theta new false is asks other e =
    let own : matched pairs (application f ps) (inj a b t) theta ≡ Some new =
    ap (λ (c : Bool). matched pairs (application f ps) (if c then t else inj a b t) theta) (sym is)
    ∙ e in
    absurd (let no : ⊥ = cc in no)
not_lowered pairs (injection c d p) a b t theta new false is asks other e = absurd other
not_lowered pairs (call f ss ps) a b t theta new false is asks other e =
    absurd (let no : ⊥ = cc in no)

-- ---- the head at the root

app_takes : (f n g m : ℕ) → f ≡ g → n ≡ m
    → head_eq (of_constructor f n) (of_constructor g m) ≡ true
app_takes f n g m same count = rw (eq-eqb f g same, eq-eqb n m count) refl

both_lowers : (pairs : List (ℕ × ℕ)) (a b : ℕ) (p : Pattern) (t : Tree)
    (theta new : List (Option Tree)) → HasOtherRoot p → (a == b || is_below pairs a b) ≡ true
    → matched pairs p (lowered a b t) theta ≡ Some new
    → (a == b || lowers pairs a b p) ≡ true
both_lowers pairs a b (variable x) t theta new other test e = test
both_lowers pairs a b (domain_value s v) t theta new other test e =
    let own = not_lowered pairs (domain_value s v) a b t theta new (a == b) refl tt tt e in
    rw own.0 refl
both_lowers pairs a b (application f ps) t theta new other test e =
    let own = not_lowered pairs (application f ps) a b t theta new (a == b) refl tt tt e in
    rw own.0 refl
both_lowers pairs a b (injection c d p) t theta new other test e = absurd other
both_lowers pairs a b (call f ss ps) t theta new other test e =
    absurd (let no : ⊥ = cc in no)

-- a pattern that asks for a head takes that of a term which it matches
pub takes-root : (pairs : List (ℕ × ℕ)) (p : Pattern) (t : Tree) (theta new : List (Option Tree))
    → IsCollapsed p → Asks p → matched pairs p t theta ≡ Some new → takes pairs p (root t) ≡ true
takes-root pairs (variable x) t theta new h asks e = absurd asks
takes-root pairs (domain_value s v) t theta new h asks e =
    let test = guarded (tree_eq t (leaf s v)) (Some theta) new e in
    let same : t ≡ leaf s v = (Decides-tree_eq t (leaf s v)).0 test.0 in
    rw (same, eq-eqb s s refl, (Decides-value_eq v v).1 refl) refl
takes-root pairs (application f ps) (leaf s v) theta new h asks e = absurd (let no : ⊥ = cc in no)
takes-root pairs (application f ps) (inj a b t) theta new h asks e = absurd (let no : ⊥ = cc in no)
takes-root pairs (application f ps) (node g ts) theta new h asks e =
    let test = guarded (f == g) (all_matched pairs ps ts theta) new e in
    app_takes f _ g _ (eqb-true f g test.0) (as_many pairs ps ts theta new test.1)
takes-root pairs (injection b c p) (leaf s v) theta new h asks e = absurd (let no : ⊥ = cc in no)
takes-root pairs (injection b c p) (node g ts) theta new h asks e = absurd (let no : ⊥ = cc in no)
takes-root pairs (injection b c p) (inj a d t) theta new h asks e =
    let test =
    guarded ((c == d) && (a == b || is_below pairs a b)) (matched pairs p (lowered a b t) theta)
    new e in
    let tests = both_true (c == d) (a == b || is_below pairs a b) test.0 in
    true_both (c == d) (a == b || lowers pairs a b p) tests.0
    (both_lowers pairs a b p t theta new h.0 tests.1 test.1)
takes-root pairs (call f ss ps) t theta new h asks e = absurd (let no : ⊥ = cc in no)

-- ---- the parts

pub part_matches : (pairs : List (ℕ × ℕ)) (p : Pattern) (t : Tree) (theta new : List (Option Tree))
    (i : ℕ) (q : Pattern) → IsCollapsed p → Asks q → part p i ≡ Some q
    → matched pairs p t theta ≡ Some new
    → (u : Tree) × ((slice_get (children t) i ≡ Some u) × MatchesSomehow pairs q u)
part_matches pairs (variable x) t theta new i q h asks there e = absurd (let no : ⊥ = cc in no)
part_matches pairs (domain_value s v) t theta new i q h asks there e =
    absurd (let no : ⊥ = cc in no)
part_matches pairs (application f ps) (leaf s v) theta new i q h asks there e =
    absurd (let no : ⊥ = cc in no)
part_matches pairs (application f ps) (inj a b t) theta new i q h asks there e =
    absurd (let no : ⊥ = cc in no)
part_matches pairs (application f ps) (node g ts) theta new i q h asks there e =
    let test = guarded (f == g) (all_matched pairs ps ts theta) new e in
    one_of_many pairs ps ts theta new i q test.1 there
part_matches pairs (injection b c p) t theta new (suc i) q h asks there e =
    absurd (let no : ⊥ = cc in no)
part_matches pairs (injection b c p) (leaf s v) theta new zero q h asks there e =
    absurd (let no : ⊥ = cc in no)
part_matches pairs (injection b c p) (node g ts) theta new zero q h asks there e =
    absurd (let no : ⊥ = cc in no)
part_matches pairs (injection b c p) (inj a d t) theta new zero q h asks there e =
    let test =
    guarded ((c == d) && (a == b || is_below pairs a b)) (matched pairs p (lowered a b t) theta)
    new e in
    let same : p ≡ q = cc in
    let P : Pattern → Type 0 = Asks in
    let own =
    not_lowered pairs p a b t theta new (a == b) refl (subst P (sym same) asks) h.0 test.1 in
    (t, (refl, (theta, new, ap (λ (r : Pattern). matched pairs r t theta) (sym same) ∙ own.1)))
part_matches pairs (call f ss ps) t theta new i q h asks there e = absurd (let no : ⊥ = cc in no)

-- the term has a head at the end of this way, and the pattern takes it
abbrev pub TakesThere : List (ℕ × ℕ) → Pattern → Option Tree → Type 0
TakesThere pairs q o = takes_root pairs q o ≡ true

pub asking-same : (p q : Pattern) → asking p ≡ Some q → p ≡ q
asking-same (variable x) q e = absurd (let no : ⊥ = cc in no)
asking-same (domain_value s v) q e = cc
asking-same (application f ps) q e = cc
asking-same (injection a b p) q e = cc
asking-same (call f ss ps) q e = cc

pub asked_takes : (pairs : List (ℕ × ℕ)) (p : Pattern) (t : Tree) (theta new : List (Option Tree))
    (way : List ℕ) (q : Pattern) → IsCollapsed p → asked p way ≡ Some q
    → matched pairs p t theta ≡ Some new → TakesThere pairs q (tree_at t way)
asked_takes pairs p t theta new [] q h there e =
    let same : p ≡ q = asking-same p q there in
    ap (λ (r : Pattern). takes pairs r (root t)) (sym same)
    ∙ takes-root pairs p t theta new h (asks-asked p [] q there) e
asked_takes pairs p t theta new (i ∷ way) q h there e =
    let next = after (λ (r : Pattern). asked r way) (part p i) q there in
    let below =
    part_matches pairs p t theta new i next.0 h (asks-asked next.0 way q next.1.1) next.1.0 e in
    ap (λ (o : Option Tree).
    takes_root pairs q (option_and_then (λ (u : Tree). tree_at u way) o)) below.1.0
    ∙ asked_takes pairs next.0 below.0 below.1.1.0 below.1.1.1 way q
    (is_collapsed-part p i next.0 h next.1.0) next.1.1 below.1.1.2

-- a row that matches takes the head of the subjects at each position that it asks
pub row_takes : (pairs : List (ℕ × ℕ)) (ps : List Pattern) (ts : List Tree)
    (theta new : List (Option Tree)) (position : List ℕ) (q : Pattern) → AreCollapsed (patterns ps)
    → row_asks ps position ≡ Some q → all_matched pairs (patterns ps) (forest ts) theta ≡ Some new
    → TakesThere pairs q (subject_at ts position)
row_takes pairs ps ts theta new [] q h there e = absurd (let no : ⊥ = cc in no)
row_takes pairs ps ts theta new (i ∷ way) q h there e =
    let next = after (λ (r : Pattern). asked r way) (slice_get ps i) q there in
    let listed : slice_get (pattern_list (patterns ps)) i ≡ Some next.0 =
    ap (λ (qs : List Pattern). slice_get qs i) (pattern_list-patterns ps) ∙ next.1.0 in
    let below = one_of_many pairs (patterns ps) (forest ts) theta new i next.0 e listed in
    let tree : slice_get ts i ≡ Some below.0 =
    ap (λ (us : List Tree). slice_get us i) (sym (trees-forest ts)) ∙ below.1.0 in
    ap (λ (o : Option Tree).
    takes_root pairs q (option_and_then (λ (u : Tree). tree_at u way) o)) tree
    ∙ asked_takes pairs next.0 below.0 below.1.1.0 below.1.1.1 way q
    (are_collapsed-item (patterns ps) i next.0 h listed) next.1.1 below.1.1.2

pub untaken_do_not_match : UntakenDoNotMatch
untaken_do_not_match pairs ps ts position q theta h there none =
    told (all_matched pairs (patterns ps) (forest ts) theta) refl where
      told : (o : Option (List (Option Tree)))
          → all_matched pairs (patterns ps) (forest ts) theta ≡ o
          → all_matched pairs (patterns ps) (forest ts) theta ≡ None
      told None e = e
      told (Some new) e =
          absurd (false≢true (sym none ∙ row_takes pairs ps ts theta new position q h there e))

-- ---- patterns of the code

-- an argument of a constructor is a part of it
pub argument_part : (p : Pattern) (f : ℕ) (ps : List RulePat) (i : ℕ)
    → p ≡ application f (plain_patterns ps)
    → option_map plain_pattern (slice_get ps i) ≡ part p i
argument_part p f ps i is =
    sym (slice_get-map plain_pattern ps i)
    ∙ ap (λ (qs : List Pattern). slice_get qs i)
    (sym (pattern_list-patterns (map plain_pattern ps)))
    ∙ ap (λ (q : Pattern). part q i) (sym is)

-- whether a constructor with this symbol has the head depends on the numbers of arguments
pub constructor_takes : (pairs : List (ℕ × ℕ)) (p : Pattern) (head : Head) (f g : ℕ)
    (ps : List RulePat) (n m : ℕ) → p ≡ application f (plain_patterns ps)
    → head_of head ≡ of_constructor g m → (f == g) ≡ true → n ≡ length ps
    → (n == m) ≡ takes pairs p (head_of head)
constructor_takes pairs p head f g ps n m is own same count =
    rw (is, own, same)
    (ap (λ (k : ℕ). k == m)
    (count ∙ sym (length-map ps plain_pattern)
    ∙ ap (λ (qs : List Pattern). length qs) (sym (pattern_list-patterns (map plain_pattern ps)))))

pub constructor_head : (pairs : List (ℕ × ℕ)) (p : Pattern) (f : ℕ) (ps : List RulePat) (n : ℕ)
    (h : PlainHead) → p ≡ application f (plain_patterns ps) → n ≡ length ps
    → head_eq (of_constructor f n) h ≡ takes pairs p h
constructor_head pairs p f ps n h is count =
    rw is
    (ap (λ (k : ℕ). head_eq (of_constructor f k) h)
    (count ∙ sym (length-map ps plain_pattern)
    ∙ ap (λ (qs : List Pattern). length qs) (sym (pattern_list-patterns (map plain_pattern ps)))))

-- a constructor takes the head of a term with the same symbol if the arguments are as many
pub constructor_root : (pairs : List (ℕ × ℕ)) (p : Pattern) (t : Tree) (f g : ℕ)
    (ps : List RulePat) (n m : ℕ) → p ≡ application f (plain_patterns ps)
    → t ≡ node g (forest (children t)) → m ≡ length (children t) → (f == g) ≡ true
    → n ≡ length ps → (n == m) ≡ takes pairs p (root t)
constructor_root pairs p t f g ps n m is shows arity same count =
    rw (is, ap root shows, same)
    (ap (λ (k : ℕ). k == m)
    (count ∙ sym (length-map ps plain_pattern)
    ∙ ap (λ (qs : List Pattern). length qs) (sym (pattern_list-patterns (map plain_pattern ps))))
    ∙ ap (λ (k : ℕ). length (pattern_list (plain_patterns ps)) == k)
    (arity ∙ ap (λ (us : List Tree). length us) (sym (trees-forest (children t)))))
