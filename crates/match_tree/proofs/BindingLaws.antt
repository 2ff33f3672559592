-- The substitution of a row that matches.
use Rattle.std.proofs.Common.{◌≡◌, ◌≢◌, ◌<◌, ◌⊎◌, inl, inr, ℕ, Bool, true, false, List}
use Rattle.std.proofs.Common.{length, map, drop, get_or, replicate, set, slice_get, Option, Some, None}
use Rattle.std.proofs.Common.{refl, sym, ◌∙◌, ap, subst, arith}
use Rattle.std.specs.Prelude.{◌==◌, ◌&&◌, ◌||◌, if◌then◌else◌, is_some, OnOk, Result}
use Rattle.std.specs.Prelude.{Ok, Err}
use Rattle.std.specs.Option.{option_and_then}
use Rattle.std.proofs.lemmas.Bool.{false≢true}
use Rattle.std.proofs.lemmas.List.{length-set, length-replicate, length-map}
use Rattle.std.proofs.lemmas.Option.{slice_get_read}
use Rattle.term_core.specs.Terms.{Tree, leaf, node, inj, Forest, no_tree, more_trees}
use Rattle.term_core.specs.Terms.{IsNoInjection, IsNormal}
use Rattle.term_core.specs.Forests.{forest, children}
use Rattle.term_core.specs.TreeTest.{tree_eq}
use Rattle.term_core.specs.Instances.{patterns}
use Rattle.term_core.specs.Patterns.{Pattern, Patterns, variable, domain_value, application}
use Rattle.term_core.specs.Patterns.{injection, call, no_pattern, more_patterns, binding}
use Rattle.term_core.specs.RulePatterns.{plain_pattern}
use Rattle.term_core.specs.PatternLists.{plain_patterns}
use Rattle.term_core.specs.declared.rule_patterns.RulePat.{RulePat}
use Rattle.term_core.proofs.Forests.{forest-trees, trees-forest}
use Rattle.rule_core.specs.Matching.{OccursIn, OccursInSome}
use Rattle.rule_core.specs.MatchSearch.{UseFirst}
use Rattle.rule_core.specs.MatchSteps.{lowered, bound_to, matched, all_matched}
use Rattle.rule_core.specs.Subsorts.{is_below}
use Rattle.rule_core.proofs.Belows.{both_true}
use Rattle.rule_core.proofs.Bindings.{same_or_other, binding-set_same, binding-set_other}
use Rattle.rule_core.proofs.Bindings.{binding-replicate}
use Rattle.rule_core.proofs.MatchAnswers.{rest_fails}
use Rattle.rule_core.proofs.MatchFound.{guarded, after}
use Rattle.pat_matrix.specs.Collapsed.{HasOtherRoot}
use Rattle.pat_matrix.specs.MatchTrees.{room, rooms, row_match}
use Rattle.pat_matrix.proofs.PartLaws.{Asks, pattern_list-patterns, as_many, not_lowered}
use Rattle.match_tree.specs.Binding.{bound_below, matched_under}

-- ---- other room

-- the substitutions bind the same
abbrev pub BindTheSame : List (Option Tree) → List (Option Tree) → Type 0
BindTheSame theta sigma = (x : ℕ) → binding theta x ≡ binding sigma x

-- Where one search ends with a substitution, another one ends with one that binds the same.
record Alike (new : List (Option Tree)) (found : Option (List (Option Tree))) (n m : ℕ)
    : Type 0 where
  out : List (Option Tree)
  is : found ≡ Some out
  same : BindTheSame new out
  room : length new ≡ n
  more : length out ≡ m

alike-set : (theta sigma : List (Option Tree)) (x : ℕ) (t : Tree) → x < length theta
    → x < length sigma → BindTheSame theta sigma
    → BindTheSame (set theta x (Some t)) (set sigma x (Some t))
alike-set theta sigma x t lt within same y = told (same_or_other y x) where
  told : (y ≡ x) ⊎ (y ≢ x)
      → binding (set theta x (Some t)) y ≡ binding (set sigma x (Some t)) y
  told (inl here) =
      ap (binding (set theta x (Some t))) here ∙ binding-set_same theta x t lt
      ∙ sym (ap (binding (set sigma x (Some t))) here ∙ binding-set_same sigma x t within)
  told (inr other) =
      binding-set_other theta x y t other ∙ same y ∙ sym (binding-set_other sigma x y t other)

alike-bound : (t : Tree) (x : ℕ) (theta sigma new : List (Option Tree)) (o : Option Tree)
    → x < length theta → x < length sigma → BindTheSame theta sigma → binding theta x ≡ o
    → bound_to t x theta o ≡ Some new
    → Alike new (bound_to t x sigma (binding sigma x)) (length theta) (length sigma)
alike-bound t x theta sigma new None lt within same is e =
    let made : set theta x (Some t) ≡ new = cc in
    let free : binding sigma x ≡ None = sym (same x) ∙ is in
    let P : List (Option Tree) → Type 0 =
    λ th. BindTheSame th (set sigma x (Some t)) in
    record {
      out = set sigma x (Some t);
      is = rw free refl;
      same = subst P made (alike-set theta sigma x t lt within same);
      room = ap (λ (th : List (Option Tree)). length th) (sym made) ∙ length-set theta x (Some t);
      more = length-set sigma x (Some t);
    }
alike-bound t x theta sigma new (Some u) lt within same is e =
    let test = guarded (tree_eq u t) (Some theta) new e in
    let made : theta ≡ new = cc in
    let known : binding sigma x ≡ Some u = sym (same x) ∙ is in
    let P : List (Option Tree) → Type 0 = λ th. BindTheSame th sigma in
    record {
      out = sigma;
      is = rw (known, test.0) refl;
      same = subst P made same;
      room = ap (λ (th : List (Option Tree)). length th) (sym made);
      more = refl;
    }

-- the variables are below the lengths
alike-unchanged : (theta sigma new : List (Option Tree)) → BindTheSame theta sigma
    → Some theta ≡ Some new → Alike new (Some sigma) (length theta) (length sigma)
alike-unchanged theta sigma new same e =
    let made : theta ≡ new = cc in
    let P : List (Option Tree) → Type 0 = λ th. BindTheSame th sigma in
    record {
      out = sigma;
      is = refl;
      same = subst P made same;
      room = ap (λ (th : List (Option Tree)). length th) (sym made);
      more = refl;
    }

alike-guarded : (b : Bool) (new : List (Option Tree)) (found : Option (List (Option Tree)))
    (n m : ℕ) → b ≡ true → Alike new found n m → Alike new (if b then found else None) n m
alike-guarded b new found n m e h =
    let P : Bool → Type 0 = λ c. Alike new (if c then found else None) n m in subst P (sym e) h

mutual
  alike : (pairs : List (ℕ × ℕ)) (p : Pattern) (t : Tree) (theta sigma new : List (Option Tree))
      → ((x : ℕ) → OccursIn x p → x < length theta)
      → ((x : ℕ) → OccursIn x p → x < length sigma) → BindTheSame theta sigma
      → matched pairs p t theta ≡ Some new
      → Alike new (matched pairs p t sigma) (length theta) (length sigma)
  alike pairs (variable x) t theta sigma new lt within same e =
      alike-bound t x theta sigma new (binding theta x) (lt x refl) (within x refl) same refl e
  alike pairs (domain_value s v) t theta sigma new lt within same e =
      let test = guarded (tree_eq t (leaf s v)) (Some theta) new e in
      alike-guarded (tree_eq t (leaf s v)) new (Some sigma) (length theta) (length sigma) test.0
      (alike-unchanged theta sigma new same test.1)
  alike pairs (application f ps) (leaf s v) theta sigma new lt within same e =
      absurd (let no : ⊥ = cc in no)
  alike pairs (application f ps) (inj a b t) theta sigma new lt within same e =
      absurd (let no : ⊥ = cc in no)
  alike pairs (application f ps) (node g ts) theta sigma new lt within same e =
      let test = guarded (f == g) (all_matched pairs ps ts theta) new e in
      alike-guarded (f == g) new (all_matched pairs ps ts sigma) (length theta) (length sigma)
      test.0 (all_alike pairs ps ts theta sigma new lt within same test.1)
  alike pairs (injection b c p) (leaf s v) theta sigma new lt within same e =
      absurd (let no : ⊥ = cc in no)
  alike pairs (injection b c p) (node g ts) theta sigma new lt within same e =
      absurd (let no : ⊥ = cc in no)
  alike pairs (injection b c p) (inj a d t) theta sigma new lt within same e =
      let test =
      guarded ((c == d) && (a == b || is_below pairs a b))
      (matched pairs p (lowered a b t) theta) new e in
      alike-guarded ((c == d) && (a == b || is_below pairs a b)) new
      (matched pairs p (lowered a b t) sigma) (length theta) (length sigma) test.0
      (alike pairs p (lowered a b t) theta sigma new lt within same test.1)
  alike pairs (call f ss ps) t theta sigma new lt within same e = absurd (let no : ⊥ = cc in no)

  all_alike : (pairs : List (ℕ × ℕ)) (ps : Patterns) (ts : Forest)
      (theta sigma new : List (Option Tree))
      → ((x : ℕ) → OccursInSome x ps → x < length theta)
      → ((x : ℕ) → OccursInSome x ps → x < length sigma) → BindTheSame theta sigma
      → all_matched pairs ps ts theta ≡ Some new
      → Alike new (all_matched pairs ps ts sigma) (length theta) (length sigma)
  all_alike pairs no_pattern no_tree theta sigma new lt within same e =
      alike-unchanged theta sigma new same e
  all_alike pairs no_pattern (more_trees t ts) theta sigma new lt within same e =
      absurd (let no : ⊥ = cc in no)
  all_alike pairs (more_patterns p ps) no_tree theta sigma new lt within same e =
      absurd (let no : ⊥ = cc in no)
  all_alike pairs (more_patterns p ps) (more_trees t ts) theta sigma new lt within same e =
      let mid = after (all_matched pairs ps ts) (matched pairs p t theta) new e in
      let one = alike pairs p t theta sigma mid.0 (λ x h. lt x (inl h)) (λ x h. within x (inl h))
      same mid.1.0 in
      let P : ℕ → Type 0 = λ n. (x : ℕ) → OccursInSome x ps → x < n in
      let rest = all_alike pairs ps ts mid.0 one.out new
      (subst P (sym one.room) (λ x h. lt x (inr h)))
      (subst P (sym one.more) (λ x h. within x (inr h))) one.same mid.1.1 in
      record {
        out = rest.out;
        is = ap (option_and_then (all_matched pairs ps ts)) one.is ∙ rest.is;
        same = rest.same;
        room = rest.room ∙ one.room;
        more = rest.more ∙ one.more;
      }

-- a variable of a pattern is within the pattern's room
mutual
  occurs_within : (x : ℕ) (p : Pattern) → OccursIn x p → x < room p
  occurs_within x (variable y) h = omega (arith, h)
  occurs_within x (domain_value s v) h = absurd h
  occurs_within x (application f ps) h = all_within x ps h
  occurs_within x (injection a b p) h = occurs_within x p h
  occurs_within x (call f ss ps) h = all_within x ps h

  all_within : (x : ℕ) (ps : Patterns) → OccursInSome x ps → x < rooms ps
  all_within x no_pattern h = absurd h
  all_within x (more_patterns p ps) (inl h) = omega (arith, occurs_within x p h)
  all_within x (more_patterns p ps) (inr h) = omega (arith, all_within x ps h)

-- an option that is some
pub some_of : {A : Type 0} (o : Option A) → o ≢ None → (x : A) × (o ≡ Some x)
some_of None h = absurd (h refl)
some_of (Some x) h = (x, refl)

pub some_is : {A : Type 0} (o : Option A) → is_some o ≡ true → (x : A) × (o ≡ Some x)
some_is None h = absurd (false≢true h)
some_is (Some x) h = (x, refl)

pub not_none : {A : Type 0} (o : Option A) (x : A) → o ≡ Some x → o ≢ None
not_none o x is none = let no : ⊥ = cc in no

-- if one answer is known, it is the only one
pub only : {A : Type 0} (o p : Option A) (x : A) → o ≢ None
    → ((y : A) → o ≡ Some y → p ≡ Some y) → p ≡ Some x → o ≡ Some x
only o p x some leads is =
    let own = some_of o some in
    let both : Some own.0 ≡ Some x = sym (leads own.0 own.1) ∙ is in own.1 ∙ both

-- a row that matches also matches with more room
pub match_with_room : (pairs : List (ℕ × ℕ)) (ps : List Pattern) (ts : List Tree) (vars : ℕ)
    → UseFirst vars (patterns ps) → is_some (row_match pairs ps ts) ≡ true
    → all_matched pairs (patterns ps) (forest ts) (replicate vars None) ≢ None
match_with_room pairs ps ts vars scoped some =
    let own = some_is (row_match pairs ps ts) some in
    let n = rooms (patterns ps) in
    let P : ℕ → Type 0 = λ k. (x : ℕ) → OccursInSome x (patterns ps) → x < k in
    let one = all_alike pairs (patterns ps) (forest ts) (replicate n None) (replicate vars None)
    own.0 (subst P (sym (length-replicate n None)) (λ x h. all_within x (patterns ps) h))
    (subst P (sym (length-replicate vars None)) scoped)
    (λ x. binding-replicate n x ∙ sym (binding-replicate vars x)) own.1 in
    not_none _ one.out one.is

-- a row that matches with so much room also matches with its own room
pub match_with_own_room : (pairs : List (ℕ × ℕ)) (ps : List Pattern) (ts : List Tree) (vars : ℕ)
    (theta : List (Option Tree)) → UseFirst vars (patterns ps)
    → all_matched pairs (patterns ps) (forest ts) (replicate vars None) ≡ Some theta
    → is_some (row_match pairs ps ts) ≡ true
match_with_own_room pairs ps ts vars theta scoped e =
    let n = rooms (patterns ps) in
    let P : ℕ → Type 0 = λ k. (x : ℕ) → OccursInSome x (patterns ps) → x < k in
    let one = all_alike pairs (patterns ps) (forest ts) (replicate vars None) (replicate n None)
    theta (subst P (sym (length-replicate vars None)) scoped)
    (subst P (sym (length-replicate n None)) (λ x h. all_within x (patterns ps) h))
    (λ x. binding-replicate vars x ∙ sym (binding-replicate n x)) e in
    ap is_some one.is

-- its patterns are as many as the subjects
pub match_as_many : (pairs : List (ℕ × ℕ)) (ps : List Pattern) (ts : List Tree)
    → is_some (row_match pairs ps ts) ≡ true → length ps ≡ length ts
match_as_many pairs ps ts some =
    let own = some_is (row_match pairs ps ts) some in
    sym (ap (λ (qs : List Pattern). length qs) (pattern_list-patterns ps))
    ∙ as_many pairs (patterns ps) (forest ts) _ own.0 own.1
    ∙ ap (λ (us : List Tree). length us) (trees-forest ts)

-- ---- steps down

-- the pattern matches the term
abbrev pub IsMatched : List (ℕ × ℕ) → Pattern → Tree → List (Option Tree) → Type 0
IsMatched pairs p t theta = matched pairs p t theta ≢ None

-- what the arguments of a constructor bind
down_children : (pairs : List (ℕ × ℕ)) (f : ℕ) (ps : Patterns) (t : Tree)
    (theta new : List (Option Tree)) → matched pairs (application f ps) t theta ≡ Some new
    → all_matched pairs ps (forest (children t)) theta ≡ Some new
down_children pairs f ps (leaf s v) theta new e = absurd (let no : ⊥ = cc in no)
down_children pairs f ps (inj a b t) theta new e = absurd (let no : ⊥ = cc in no)
down_children pairs f ps (node g ts) theta new e =
    let test = guarded (f == g) (all_matched pairs ps ts theta) new e in
    ap (λ (us : Forest). all_matched pairs ps us theta) (forest-trees ts) ∙ test.1

down_named : (pairs : List (ℕ × ℕ)) (p : Pattern) (f : ℕ) (ps : Patterns) (t : Tree)
    (theta new : List (Option Tree)) → p ≡ application f ps → matched pairs p t theta ≡ Some new
    → all_matched pairs ps (forest (children t)) theta ≡ Some new
down_named pairs p f ps t theta new is e =
    down_children pairs f ps t theta new
    (ap (λ (q : Pattern). matched pairs q t theta) (sym is) ∙ e)

pub children_match : (pairs : List (ℕ × ℕ)) (p : Pattern) (f : ℕ) (ps : Patterns) (t : Tree)
    (theta : List (Option Tree)) → p ≡ application f ps → IsMatched pairs p t theta
    → all_matched pairs ps (forest (children t)) theta ≢ None
children_match pairs p f ps t theta is some =
    let own = some_of (matched pairs p t theta) some in
    not_none _ own.0 (down_named pairs p f ps t theta own.0 is own.1)

pub children_bind : (pairs : List (ℕ × ℕ)) (p : Pattern) (f : ℕ) (ps : Patterns) (t : Tree)
    (theta new : List (Option Tree)) → p ≡ application f ps → IsMatched pairs p t theta
    → all_matched pairs ps (forest (children t)) theta ≡ Some new
    → matched pairs p t theta ≡ Some new
children_bind pairs p f ps t theta new is some e =
    only (matched pairs p t theta) (all_matched pairs ps (forest (children t)) theta) new some
    (λ th. down_named pairs p f ps t theta th is) e

count_of : (pairs : List (ℕ × ℕ)) (ps : List RulePat) (us : List Tree)
    (theta new : List (Option Tree))
    → all_matched pairs (plain_patterns ps) (forest us) theta ≡ Some new
    → length ps ≡ length us
count_of pairs ps us theta new e =
    sym (length-map ps plain_pattern)
    ∙ sym (ap (λ (qs : List Pattern). length qs) (pattern_list-patterns (map plain_pattern ps)))
    ∙ as_many pairs (plain_patterns ps) (forest us) theta new e
    ∙ ap (λ (vs : List Tree). length vs) (trees-forest us)

pub children_count : (pairs : List (ℕ × ℕ)) (p : Pattern) (f : ℕ) (ps : List RulePat) (t : Tree)
    (theta : List (Option Tree)) → p ≡ application f (plain_patterns ps)
    → IsMatched pairs p t theta → length ps ≡ length (children t)
children_count pairs p f ps t theta is some =
    let own = some_of (matched pairs p t theta) some in
    count_of pairs ps (children t) theta own.0
    (down_named pairs p f (plain_patterns ps) t theta own.0 is own.1)

-- what the pattern of an injection binds
down_under : (pairs : List (ℕ × ℕ)) (b c : ℕ) (p : Pattern) (t : Tree)
    (theta new : List (Option Tree)) → matched pairs (injection b c p) t theta ≡ Some new
    → matched_under pairs b p t theta ≡ Some new
down_under pairs b c p (leaf s v) theta new e = absurd (let no : ⊥ = cc in no)
down_under pairs b c p (node g ts) theta new e = absurd (let no : ⊥ = cc in no)
down_under pairs b c p (inj a d t) theta new e =
    let test =
    guarded ((c == d) && (a == b || is_below pairs a b)) (matched pairs p (lowered a b t) theta)
    new e in
    let tests = both_true (c == d) (a == b || is_below pairs a b) test.0 in
    rw tests.1 test.1

under_named : (pairs : List (ℕ × ℕ)) (p q : Pattern) (b c : ℕ) (t : Tree)
    (theta new : List (Option Tree)) → p ≡ injection b c q → matched pairs p t theta ≡ Some new
    → matched_under pairs b q t theta ≡ Some new
under_named pairs p q b c t theta new is e =
    down_under pairs b c q t theta new
    (ap (λ (r : Pattern). matched pairs r t theta) (sym is) ∙ e)

pub under_match : (pairs : List (ℕ × ℕ)) (p q : Pattern) (b c : ℕ) (t : Tree)
    (theta : List (Option Tree)) → p ≡ injection b c q → IsMatched pairs p t theta
    → matched_under pairs b q t theta ≢ None
under_match pairs p q b c t theta is some =
    let own = some_of (matched pairs p t theta) some in
    not_none _ own.0 (under_named pairs p q b c t theta own.0 is own.1)

pub under_bind : (pairs : List (ℕ × ℕ)) (p q : Pattern) (b c : ℕ) (t : Tree)
    (theta new : List (Option Tree)) → p ≡ injection b c q → IsMatched pairs p t theta
    → matched_under pairs b q t theta ≡ Some new → matched pairs p t theta ≡ Some new
under_bind pairs p q b c t theta new is some e =
    only (matched pairs p t theta) (matched_under pairs b q t theta) new some
    (λ th. under_named pairs p q b c t theta th is) e

-- ---- under an injection

abbrev pub IsMatchedUnder : List (ℕ × ℕ) → ℕ → Pattern → Tree → List (Option Tree) → Type 0
IsMatchedUnder pairs b p t theta = matched_under pairs b p t theta ≢ None

pub has_child : (pairs : List (ℕ × ℕ)) (b : ℕ) (p : Pattern) (t : Tree)
    (theta : List (Option Tree)) → IsMatchedUnder pairs b p t theta → 0 < length (children t)
has_child pairs b p (leaf s v) theta some = absurd (some refl)
has_child pairs b p (node f ts) theta some = absurd (some refl)
has_child pairs b p (inj a d t) theta some = omega arith

-- a variable is bound to what is injected
down_variable : (pairs : List (ℕ × ℕ)) (b x : ℕ) (t : Tree) (theta new : List (Option Tree))
    → matched_under pairs b (variable x) t theta ≡ Some new → bound_below b t x theta ≡ Some new
down_variable pairs b x (leaf s v) theta new e = absurd (let no : ⊥ = cc in no)
down_variable pairs b x (node g ts) theta new e = absurd (let no : ⊥ = cc in no)
down_variable pairs b x (inj a d t) theta new e =
    let test =
    guarded (a == b || is_below pairs a b) (matched pairs (variable x) (lowered a b t) theta)
    new e in
    test.1

low_named : (pairs : List (ℕ × ℕ)) (b : ℕ) (p : Pattern) (x : ℕ) (t : Tree)
    (theta new : List (Option Tree)) → p ≡ variable x
    → matched_under pairs b p t theta ≡ Some new → bound_below b t x theta ≡ Some new
low_named pairs b p x t theta new is e =
    down_variable pairs b x t theta new
    (ap (λ (q : Pattern). matched_under pairs b q t theta) (sym is) ∙ e)

pub low_match : (pairs : List (ℕ × ℕ)) (b : ℕ) (p : Pattern) (x : ℕ) (t : Tree)
    (theta : List (Option Tree)) → p ≡ variable x → IsMatchedUnder pairs b p t theta
    → bound_below b t x theta ≢ None
low_match pairs b p x t theta is some =
    let own = some_of (matched_under pairs b p t theta) some in
    not_none _ own.0 (low_named pairs b p x t theta own.0 is own.1)

pub low_bind : (pairs : List (ℕ × ℕ)) (b : ℕ) (p : Pattern) (x : ℕ) (t : Tree)
    (theta new : List (Option Tree)) → p ≡ variable x → IsMatchedUnder pairs b p t theta
    → bound_below b t x theta ≡ Some new → matched_under pairs b p t theta ≡ Some new
low_bind pairs b p x t theta new is some e =
    only (matched_under pairs b p t theta) (bound_below b t x theta) new some
    (λ th. low_named pairs b p x t theta th is) e

-- a value or a constructor is that of the child itself
own_child : (pairs : List (ℕ × ℕ)) (b : ℕ) (p : Pattern) (t u : Tree)
    (theta new : List (Option Tree)) → Asks p → HasOtherRoot p
    → slice_get (children t) 0 ≡ Some u → matched_under pairs b p t theta ≡ Some new
    → matched pairs p u theta ≡ Some new
own_child pairs b p (leaf s v) u theta new asks other item e = absurd (let no : ⊥ = cc in no)
own_child pairs b p (node g ts) u theta new asks other item e = absurd (let no : ⊥ = cc in no)
own_child pairs b p (inj a d t) u theta new asks other item e =
    let test =
    guarded (a == b || is_below pairs a b) (matched pairs p (lowered a b t) theta) new e in
    let own = not_lowered pairs p a b t theta new (a == b) refl asks other test.1 in
    let same : t ≡ u = cc in
    ap (λ (v : Tree). matched pairs p v theta) (sym same) ∙ own.1

low_children : (pairs : List (ℕ × ℕ)) (b : ℕ) (p : Pattern) (f : ℕ) (ps : Patterns) (t u : Tree)
    (theta new : List (Option Tree)) → p ≡ application f ps
    → slice_get (children t) 0 ≡ Some u → matched_under pairs b p t theta ≡ Some new
    → all_matched pairs ps (forest (children u)) theta ≡ Some new
low_children pairs b p f ps t u theta new is item e =
    down_children pairs f ps u theta new
    (own_child pairs b (application f ps) t u theta new tt tt item
    (ap (λ (q : Pattern). matched_under pairs b q t theta) (sym is) ∙ e))

pub low_children_match : (pairs : List (ℕ × ℕ)) (b : ℕ) (p : Pattern) (f : ℕ) (ps : Patterns)
    (t u : Tree) (theta : List (Option Tree)) → p ≡ application f ps
    → slice_get (children t) 0 ≡ Some u → IsMatchedUnder pairs b p t theta
    → all_matched pairs ps (forest (children u)) theta ≢ None
low_children_match pairs b p f ps t u theta is item some =
    let own = some_of (matched_under pairs b p t theta) some in
    not_none _ own.0 (low_children pairs b p f ps t u theta own.0 is item own.1)

pub low_children_bind : (pairs : List (ℕ × ℕ)) (b : ℕ) (p : Pattern) (f : ℕ) (ps : Patterns)
    (t u : Tree) (theta new : List (Option Tree)) → p ≡ application f ps
    → slice_get (children t) 0 ≡ Some u → IsMatchedUnder pairs b p t theta
    → all_matched pairs ps (forest (children u)) theta ≡ Some new
    → matched_under pairs b p t theta ≡ Some new
low_children_bind pairs b p f ps t u theta new is item some e =
    only (matched_under pairs b p t theta) (all_matched pairs ps (forest (children u)) theta) new
    some (λ th. low_children pairs b p f ps t u theta th is item) e

pub low_children_count : (pairs : List (ℕ × ℕ)) (b : ℕ) (p : Pattern) (f : ℕ)
    (ps : List RulePat) (t u : Tree) (theta : List (Option Tree))
    → p ≡ application f (plain_patterns ps) → slice_get (children t) 0 ≡ Some u
    → IsMatchedUnder pairs b p t theta → length ps ≡ length (children u)
low_children_count pairs b p f ps t u theta is item some =
    let own = some_of (matched_under pairs b p t theta) some in
    count_of pairs ps (children u) theta own.0
    (low_children pairs b p f (plain_patterns ps) t u theta own.0 is item own.1)

-- injections in a row lower a term to the sort of the inner one
inner_lowered : (pairs : List (ℕ × ℕ)) (a b c d : ℕ) (q : Pattern) (u : Tree)
    (theta new : List (Option Tree)) (same : Bool) → (a == b) ≡ same → IsNoInjection u
    → matched pairs (injection c d q) (lowered a b u) theta ≡ Some new
    → (if a == c || is_below pairs a c then matched pairs q (lowered a c u) theta else None)
    ≡ Some new
inner_lowered pairs a b c d q (leaf s v) theta new true is other e =
    let own : matched pairs (injection c d q) (leaf s v) theta ≡ Some new =
    ap (λ (k : Bool). matched pairs (injection c d q) (if k then leaf s v else inj a b (leaf s v))
    theta) (sym is) ∙ e in
    absurd (let no : ⊥ = cc in no)
inner_lowered pairs a b c d q (node g ts) theta new true is other e =
    let own : matched pairs (injection c d q) (node g ts) theta ≡ Some new =
    ap (λ (k : Bool). matched pairs (injection c d q) (if k then node g ts else inj a b (node g ts))
    theta) (sym is) ∙ e in
    absurd (let no : ⊥ = cc in no)
inner_lowered pairs a b c d q (inj r s u) theta new true is other e = absurd other
inner_lowered pairs a b c d q u theta new false is other e =
    let own : matched pairs (injection c d q) (inj a b u) theta ≡ Some new =
    ap (λ (k : Bool). matched pairs (injection c d q) (if k then u else inj a b u) theta) (sym is)
    ∙ e in
    let test =
    guarded ((d == b) && (a == c || is_below pairs a c)) (matched pairs q (lowered a c u) theta)
    new own in
    let tests = both_true (d == b) (a == c || is_below pairs a c) test.0 in
    rw tests.1 test.1

down_inner : (pairs : List (ℕ × ℕ)) (b c d : ℕ) (q : Pattern) (t : Tree)
    (theta new : List (Option Tree)) → IsNormal t
    → matched_under pairs b (injection c d q) t theta ≡ Some new
    → matched_under pairs c q t theta ≡ Some new
down_inner pairs b c d q (leaf s v) theta new normal e = absurd (let no : ⊥ = cc in no)
down_inner pairs b c d q (node g ts) theta new normal e = absurd (let no : ⊥ = cc in no)
down_inner pairs b c d q (inj a r u) theta new normal e =
    let test =
    guarded (a == b || is_below pairs a b)
    (matched pairs (injection c d q) (lowered a b u) theta) new e in
    inner_lowered pairs a b c d q u theta new (a == b) refl normal.0 test.1

inner_named : (pairs : List (ℕ × ℕ)) (b c d : ℕ) (p q : Pattern) (t : Tree)
    (theta new : List (Option Tree)) → p ≡ injection c d q → IsNormal t
    → matched_under pairs b p t theta ≡ Some new → matched_under pairs c q t theta ≡ Some new
inner_named pairs b c d p q t theta new is normal e =
    down_inner pairs b c d q t theta new normal
    (ap (λ (r : Pattern). matched_under pairs b r t theta) (sym is) ∙ e)

pub inner_match : (pairs : List (ℕ × ℕ)) (b c d : ℕ) (p q : Pattern) (t : Tree)
    (theta : List (Option Tree)) → p ≡ injection c d q → IsNormal t
    → IsMatchedUnder pairs b p t theta → matched_under pairs c q t theta ≢ None
inner_match pairs b c d p q t theta is normal some =
    let own = some_of (matched_under pairs b p t theta) some in
    not_none _ own.0 (inner_named pairs b c d p q t theta own.0 is normal own.1)

pub inner_bind : (pairs : List (ℕ × ℕ)) (b c d : ℕ) (p q : Pattern) (t : Tree)
    (theta new : List (Option Tree)) → p ≡ injection c d q → IsNormal t
    → IsMatchedUnder pairs b p t theta → matched_under pairs c q t theta ≡ Some new
    → matched_under pairs b p t theta ≡ Some new
inner_bind pairs b c d p q t theta new is normal some e =
    only (matched_under pairs b p t theta) (matched_under pairs c q t theta) new some
    (λ th. inner_named pairs b c d p q t theta th is normal) e

-- ---- loops, and results that may be errors

pub on_ok : {A E : Type 0} (r : Result A E) (P Q : Type 0) → (P → Q) → OnOk r P → OnOk r Q
on_ok (Ok x) P Q leads h = leads h
on_ok (Err e) P Q leads h = tt

-- the pattern at an index of a list that matches
pub item_match : (pairs : List (ℕ × ℕ)) (ps : List RulePat) (us : List Tree)
    (theta : List (Option Tree)) (i : ℕ) (p : RulePat) (u : Tree)
    (whole : Option (List (Option Tree))) → p ≡ get_or ps i p → i < length ps
    → slice_get us i ≡ Some u
    → all_matched pairs (plain_patterns (drop i ps)) (forest (drop i us)) theta ≡ whole
    → whole ≢ None → matched pairs (plain_pattern p) u theta ≢ None
item_match pairs ps us theta i p u whole is lt item rest some none =
    some (rest_fails pairs ps us theta i p u whole is lt item none rest)

-- the term at the same index
pub item_at : (ps : List RulePat) (us : List Tree) (i : ℕ) (u : Tree) → length ps ≡ length us
    → i < length ps → u ≡ get_or us i u → slice_get us i ≡ Some u
item_at ps us i u count lt is = slice_get_read us (length us) i u refl (omega arith) is
