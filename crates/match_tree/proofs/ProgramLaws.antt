-- Walks over the trees of a program find the first rule, or the first equation, that matches.
use Rattle.std.proofs.Common.{◌≡◌, ◌<◌, ◌+◌, ℕ, zero, suc, true, false}
use Rattle.std.proofs.Common.{List, [], ◌∷◌, length, map, drop, get_or, slice_get, Option, Some}
use Rattle.std.proofs.Common.{None, option_map, replicate, All, refl, sym, ◌∙◌, ap, subst, arith}
use Rattle.std.specs.Prelude.{is_some}
use Rattle.std.proofs.lemmas.Bool.{false≢true}
use Rattle.std.proofs.lemmas.List.{length-map}
use Rattle.std.proofs.lemmas.Option.{slice_get-map, slice_get_within}
use Rattle.term_core.specs.Terms.{Tree, IsNormal, AreNormal}
use Rattle.term_core.specs.Forests.{forest}
use Rattle.term_core.specs.Instances.{patterns}
use Rattle.term_core.specs.Patterns.{Pattern, Patterns, no_pattern, more_patterns}
use Rattle.term_core.specs.Patterns.{ground_patterns}
use Rattle.rule_core.specs.Rules.{RewriteRule, Equation}
use Rattle.rule_core.specs.Theories.{RewriteTheory, equations_of}
use Rattle.rule_core.specs.Subsorts.{HasNoCycle}
use Rattle.rule_core.specs.Sorting.{HaveSorts, IsSymbol, IsTermOf}
use Rattle.rule_core.specs.WellSorted.{IsWellSorted, IsRuleOf, IsEquationOf}
use Rattle.rule_core.specs.Matching.{MatchAll, NoneMatches}
use Rattle.rule_core.specs.MatchSearch.{UseFirst, FindsMatch}
use Rattle.rule_core.specs.MatchLaws.{AreTermsOf}
use Rattle.rule_core.specs.MatchSteps.{all_matched}
use Rattle.rule_core.specs.Trial.{NoRuleMatches}
use Rattle.rule_core.specs.Evaluation.{Equates, unmatched}
use Rattle.rule_core.proofs.NamedMatches.{none_matches_named}
use Rattle.rule_core.specs.declared.signature.Signature.{Signature}
use Rattle.rule_core.specs.declared.signature.SymInfo.{SymInfo}
use Rattle.rule_core.specs.declared.signature.SortRef.{SortRef}
use Rattle.rule_core.specs.declared.signature.SortRef.TheVariants.{Sort}
use Rattle.rule_core.proofs.SortedInstances.{sorted_use_first}
use Rattle.rule_core.proofs.MatchExact.{found_matches, match_is_found}
use Rattle.pat_matrix.specs.Collapsed.{collapsed, all_collapsed}
use Rattle.pat_matrix.specs.Heads.{pattern_list}
use Rattle.pat_matrix.specs.Rows.{numbered}
use Rattle.pat_matrix.specs.MatchTrees.{row_match, matching_rows, rows_from}
use Rattle.pat_matrix.specs.MatrixView.{rows_of, row_of, order_of}
use Rattle.pat_matrix.proofs.CollapsedLaws.{collapsed_matches_the_same, have_sorts-collapsed}
use Rattle.pat_matrix.proofs.CollapsedLaws.{all_collapsed-patterns}
use Rattle.match_tree.specs.Programs.{rule_row, equation_row, IsTreeOf, IsRuleTree, IsEquationTree}
use Rattle.match_tree.specs.SlotView.{FitsHit, IsResume, IsKept, IsKeptRow, after_kept}
use Rattle.match_tree.specs.ProgramLaws.{WalkGoesOn, RuleTreeIsWide, RuleWalkTells, IsFirstRule}
use Rattle.match_tree.specs.ProgramLaws.{EquationTreeIsWide, EquationWalkTells, IsFirstEquation}
use Rattle.match_tree.specs.ProgramLaws.{NoEquationMatches}
use Rattle.match_tree.specs.ProgramLaws.{UnmatchedEquationsAreSkipped}
use Rattle.match_tree.specs.declared.compiling.Tree.{Tree as MatchingTree}
use Rattle.match_tree.specs.declared.slots.Hit.TheVariants as answer
use Rattle.match_tree.specs.declared.slots.Kept.{Kept}
use Rattle.match_tree.specs.declared.slots.NodeNo.{NodeNo}
use Rattle.match_tree.specs.declared.slots.NodeNo.TheVariants as place
use Rattle.match_tree.specs.declared.slots.Slots.{Slots}
use Rattle.match_tree.proofs.BindingLaws.{match_with_room, match_with_own_room, some_of}
use Rattle.match_tree.proofs.ProgramRows.{IsFirst, NoneMatch, first_of, none_of, numbered_wide}
use Rattle.match_tree.proofs.ProgramRows.{row_numbered}

-- ---- the next walk

kept_goes_on : (t : MatchingTree) (ts : List Tree) (slots : Slots) (row : ℕ) (resume : NodeNo)
    → slots.hit ≡ Some (record { row = row; resume = resume })
    → (after_kept slots.hit ≡ row + 1) × IsResume slots.hit resume × IsKeptRow slots row
kept_goes_on t ts slots row resume is =
    let P : Option Kept → Type 0 = λ h. IsResume h resume in
    let Q : Option Kept → Type 0 = λ h. IsKept h row in
    (ap after_kept is, subst P (sym is) refl, subst Q (sym is) refl)

pub walk_goes_on : WalkGoesOn
walk_goes_on t ts slots row place.Start (is, fits) =
    let P : Option Kept → Type 0 = FitsHit t ts slots.path.items in absurd (subst P is fits).0
walk_goes_on t ts slots row (place.Node k) (is, fits) =
    let own = kept_goes_on t ts slots row (place.Node k) is in
    ((fits, own.1), own.0, fits, own.2)
walk_goes_on t ts slots row (place.Rows n) (is, fits) =
    let own = kept_goes_on t ts slots row (place.Rows n) is in
    ((fits, own.1), own.0, fits, own.2)

-- ---- matching by a row and by the patterns that it is made of

-- patterns with their sorts, and normal terms of these sorts
pub record AreSorted (sig : Signature) (variables : List ℕ) (refs : List SortRef) (ps : Patterns)
    (ts : List Tree) : Type 0 where
  pub cycle : HasNoCycle sig.subsorts
  pub sorted : HaveSorts sig variables [] ps refs
  pub terms : AreTermsOf sig [] (forest ts) refs
  pub normal : AreNormal (forest ts)

row_sorted : (sig : Signature) (variables : List ℕ) (refs : List SortRef) (ps : Patterns)
    (qs : List Pattern) → patterns qs ≡ all_collapsed ps → HaveSorts sig variables [] ps refs
    → HaveSorts sig variables [] (patterns qs) refs
row_sorted sig variables refs ps qs is h =
    let P : Patterns → Type 0 = λ rs. HaveSorts sig variables [] rs refs in
    subst P (sym is) (have_sorts-collapsed sig variables [] ps refs h)

row_scoped : (sig : Signature) (variables : List ℕ) (refs : List SortRef) (ps : Patterns)
    (qs : List Pattern) → patterns qs ≡ all_collapsed ps → HaveSorts sig variables [] ps refs
    → UseFirst (length variables) (patterns qs)
row_scoped sig variables refs ps qs is h =
    sorted_use_first sig variables [] (patterns qs) refs (row_sorted sig variables refs ps qs is h)

-- a substitution that matches the row matches the patterns
own_match : (sig : Signature) (variables : List ℕ) (ps : Patterns) (qs : List Pattern)
    (ts : List Tree) (theta : List (Option Tree)) → patterns qs ≡ all_collapsed ps
    → MatchAll sig variables (patterns qs) (forest ts) theta
    → MatchAll sig variables ps (forest ts) theta
own_match sig variables ps qs ts theta is h =
    let P : Patterns → Type 0 = λ rs. MatchAll sig variables rs (forest ts) theta in
    (collapsed_matches_the_same sig variables ps (forest ts) theta).0 (subst P is h)

row_is_matched : (sig : Signature) (variables : List ℕ) (ps : Patterns) (qs : List Pattern)
    (ts : List Tree) (theta : List (Option Tree)) → patterns qs ≡ all_collapsed ps
    → MatchAll sig variables ps (forest ts) theta
    → MatchAll sig variables (patterns qs) (forest ts) theta
row_is_matched sig variables ps qs ts theta is h =
    let P : Patterns → Type 0 = λ rs. MatchAll sig variables rs (forest ts) theta in
    subst P (sym is) ((collapsed_matches_the_same sig variables ps (forest ts) theta).1 h)

-- where the row matches, some substitution matches the patterns
hit_matches : (sig : Signature) (variables : List ℕ) (refs : List SortRef) (ps : Patterns)
    (qs : List Pattern) (ts : List Tree) → AreSorted sig variables refs ps ts
    → patterns qs ≡ all_collapsed ps → is_some (row_match sig.subsorts qs ts) ≡ true
    → (theta : List (Option Tree)) × MatchAll sig variables ps (forest ts) theta
hit_matches sig variables refs ps qs ts are is hit =
    let own = some_of
    (all_matched sig.subsorts (patterns qs) (forest ts) (replicate (length variables) None))
    (match_with_room sig.subsorts qs ts (length variables)
    (row_scoped sig variables refs ps qs is are.sorted) hit) in (
      own.0,
      own_match sig variables ps qs ts own.0 is
          (found_matches sig variables [] (patterns qs) refs (forest ts) own.0
          (row_sorted sig variables refs ps qs is are.sorted) are.terms are.normal own.1),
    )

-- where it does not, none does
miss_does_not : (sig : Signature) (variables : List ℕ) (refs : List SortRef) (ps : Patterns)
    (qs : List Pattern) (ts : List Tree) → HasNoCycle sig.subsorts
    → HaveSorts sig variables [] ps refs → patterns qs ≡ all_collapsed ps
    → is_some (row_match sig.subsorts qs ts) ≡ false
    → NoneMatches sig variables ps (forest ts)
miss_does_not sig variables refs ps qs ts none sorted is miss theta h =
    false≢true (sym miss
    ∙ match_with_own_room sig.subsorts qs ts (length variables) theta
    (row_scoped sig variables refs ps qs is sorted)
    (match_is_found sig variables [] (patterns qs) refs (forest ts) theta none
    (row_sorted sig variables refs ps qs is sorted)
    (row_is_matched sig variables ps qs ts theta is h)))

-- a substitution that is found for the row matches the patterns
found_is_own : (sig : Signature) (variables : List ℕ) (refs : List SortRef) (ps : Patterns)
    (qs : List Pattern) (ts : List Tree) (theta : List (Option Tree))
    → AreSorted sig variables refs ps ts → patterns qs ≡ all_collapsed ps
    → FindsMatch sig.subsorts (length variables) (patterns qs) (forest ts) (Some theta)
    → MatchAll sig variables ps (forest ts) theta
found_is_own sig variables refs ps qs ts theta are is finds =
    own_match sig variables ps qs ts theta is
    (finds sig variables [] refs refl refl (row_sorted sig variables refs ps qs is are.sorted)
    are.terms)

-- ---- lists

-- an item of a list that a function made
mapped_at : {A B : Type 0} (f : A → B) (xs : List A) (i : ℕ) (y : B)
    → slice_get (map f xs) i ≡ Some y → (x : A) × (slice_get xs i ≡ Some x) × (f x ≡ y)
mapped_at f [] i y at = absurd (let no : ⊥ = cc in no)
mapped_at f (x ∷ xs) zero y at = let same : f x ≡ y = cc in (x, refl, same)
mapped_at f (x ∷ xs) (suc i) y at = mapped_at f xs i y at

map_at : {A B : Type 0} (f : A → B) (xs : List A) (i : ℕ) (x : A) → slice_get xs i ≡ Some x
    → slice_get (map f xs) i ≡ Some (f x)
map_at f xs i x at = slice_get-map f xs i ∙ ap (option_map f) at

get_at : {A : Type 0} (xs : List A) (i : ℕ) (x d : A) → slice_get xs i ≡ Some x
    → get_or xs i d ≡ x
get_at [] i x d at = absurd (let no : ⊥ = cc in no)
get_at (y ∷ xs) zero x d at = cc
get_at (y ∷ xs) (suc i) x d at = get_at xs i x d at

-- what holds of each item holds of the item at an index
item_at : {A : Type 0} (P : A → Type 0) (xs : List A) (i : ℕ) (x : A) → All P xs
    → slice_get xs i ≡ Some x → P x
item_at P xs i x all at =
    subst P (get_at xs i x x at) (all i x (slice_get_within xs i x at))

list_patterns : (ps : Patterns) → patterns (pattern_list ps) ≡ ps
list_patterns no_pattern = refl
list_patterns (more_patterns p ps) = ap (more_patterns p) (list_patterns ps)

-- the rows of rules and of equations
rule_is : (rule : RewriteRule)
    → patterns (rule_row rule) ≡ all_collapsed (more_patterns rule.left no_pattern)
rule_is rule = refl

equation_is : (e : Equation) → patterns (equation_row e) ≡ all_collapsed e.arguments
equation_is e =
    sym (all_collapsed-patterns (pattern_list e.arguments))
    ∙ ap all_collapsed (list_patterns e.arguments)

-- the rows that match, in the order of the sorts
in_order : (pairs : List (ℕ × ℕ)) (rows : List (List Pattern)) (t : MatchingTree)
    (ts : List Tree) (from : ℕ) (found : List ℕ) → IsTreeOf pairs rows t
    → matching_rows (order_of t.matrix) (rows_from from (rows_of t.matrix)) ts ≡ found
    → matching_rows pairs (rows_from from (numbered 0 rows)) ts ≡ found
in_order pairs rows t ts from found is e =
    ap (λ (os : List (ℕ × ℕ)). matching_rows os (rows_from from (numbered 0 rows)) ts)
    (sym is.order)
    ∙ ap (λ rs. matching_rows (order_of t.matrix) (rows_from from rs) ts) (sym is.rows) ∙ e

-- ---- rules

rule_sorted : (theory : RewriteTheory) (sort : ℕ) (rule : RewriteRule) (u : Tree)
    → IsWellSorted theory → IsRuleOf theory.sig sort rule → IsTermOf theory.sig u sort → IsNormal u
    → AreSorted theory.sig rule.variables (Sort (record { 0 = sort }) ∷ [])
    (more_patterns rule.left no_pattern) (u ∷ [])
rule_sorted theory sort rule u well one term normal = record {
  cycle = well.signature.no_cycle;
  sorted = (sort, refl, one.left, tt);
  terms = (sort, refl, term, tt);
  normal = (normal, tt);
}

no_rules : (theory : RewriteTheory) (u : Tree) (sort from to : ℕ) → IsWellSorted theory
    → All (IsRuleOf theory.sig sort) theory.rules → IsTermOf theory.sig u sort → IsNormal u
    → NoneMatch theory.sig.subsorts (u ∷ []) 0 (map rule_row theory.rules) from to
    → NoRuleMatches theory.sig theory.rules from to u
no_rules theory u sort from to well each term normal none j rule low high at =
    let are = rule_sorted theory sort rule u well
    (item_at (IsRuleOf theory.sig sort) theory.rules j rule each at) term normal in
    miss_does_not theory.sig rule.variables (Sort (record { 0 = sort }) ∷ [])
    (more_patterns rule.left no_pattern) (rule_row rule) (u ∷ []) are.cycle are.sorted
    (rule_is rule)
    (none j (rule_row rule) (map_at rule_row theory.rules j rule at) (omega arith) (omega arith))

first_rule : (theory : RewriteTheory) (t : MatchingTree) (u : Tree) (sort from row : ℕ)
    → IsWellSorted theory → IsRuleTree theory t → All (IsRuleOf theory.sig sort) theory.rules
    → IsTermOf theory.sig u sort → IsNormal u
    → IsFirst theory.sig.subsorts (u ∷ []) 0 (map rule_row theory.rules) from row
    → IsFirstRule theory t u from row
first_rule theory t u sort from row well is each term normal first =
    let same : first.index ≡ row = omega (arith, first.number) in
    let P : ℕ → Type 0 = λ i. slice_get (map rule_row theory.rules) i ≡ Some first.ps in
    let at : slice_get (map rule_row theory.rules) row ≡ Some first.ps =
    subst P same first.there in
    let own = mapped_at rule_row theory.rules row first.ps at in
    let are = rule_sorted theory sort own.0 u well
    (item_at (IsRuleOf theory.sig sort) theory.rules row own.0 each own.1) term normal in
    let refs : List SortRef = Sort (record { 0 = sort }) ∷ [] in
    let ps : Patterns = more_patterns own.0.left no_pattern in
    let hit : is_some (row_match theory.sig.subsorts (rule_row own.0) (u ∷ [])) ≡ true =
    ap (λ (qs : List Pattern). is_some (row_match theory.sig.subsorts qs (u ∷ []))) own.2
    ∙ first.hit in
    let mine : row_of t.matrix row ≡ rule_row own.0 =
    row_numbered t.matrix (map rule_row theory.rules) row first.ps is.rows at ∙ sym own.2 in
    record {
      rule = own.0;
      there = own.1;
      not_before = first.low;
      earlier = no_rules theory u sort from row well each term normal first.earlier;
      matches = hit_matches theory.sig own.0.variables refs ps (rule_row own.0) (u ∷ []) are
          (rule_is own.0) hit;
      scoped = row_scoped theory.sig own.0.variables refs ps (row_of t.matrix row)
          (ap patterns mine ∙ rule_is own.0) are.sorted;
      found = λ theta finds.
          let Q : List (ℕ × ℕ) → Type 0 = λ os. FindsMatch os (length own.0.variables)
          (patterns (row_of t.matrix row)) (forest (u ∷ [])) (Some theta) in
          found_is_own theory.sig own.0.variables refs ps (row_of t.matrix row) (u ∷ []) theta are
          (ap patterns mine ∙ rule_is own.0) (subst Q is.order finds);
    }

pub rule_walk_tells : RuleWalkTells
rule_walk_tells theory t u sort from answer.None well is each term normal first =
    no_rules theory u sort from (length theory.rules) well each term normal
    (none_of theory.sig.subsorts (u ∷ []) 0 (map rule_row theory.rules) from
    (length theory.rules)
    (in_order theory.sig.subsorts (map rule_row theory.rules) t (u ∷ []) from [] is first))
rule_walk_tells theory t u sort from (answer.Row row resume) well is each term normal first =
    first_rule theory t u sort from row well is each term normal
    (first_of theory.sig.subsorts (u ∷ []) 0 (map rule_row theory.rules) from row _
    (in_order theory.sig.subsorts (map rule_row theory.rules) t (u ∷ []) from _ is first))

pub rule_tree_is_wide : RuleTreeIsWide
rule_tree_is_wide theory t is =
    numbered_wide 1 (rows_of t.matrix) (map rule_row theory.rules) is.rows
    (λ i ps at.
    let own = mapped_at rule_row theory.rules i ps at in
    ap (λ (qs : List Pattern). length qs) (sym own.2))

-- ---- equations

equation_sorted : (theory : RewriteTheory) (f : ℕ) (info : SymInfo) (ts : List Tree) (i : ℕ)
    (e : Equation) → IsWellSorted theory → IsSymbol theory.sig f info
    → AreTermsOf theory.sig [] (forest ts) info.args.items → AreNormal (forest ts)
    → slice_get (equations_of theory f) i ≡ Some e
    → AreSorted theory.sig e.variables info.args.items e.arguments ts
equation_sorted theory f info ts i e well there terms normal at =
    let own : IsEquationOf theory.sig info e =
    item_at (IsEquationOf theory.sig info) (equations_of theory f) i e
    (well.equations f info there) at in
    record {
      cycle = well.signature.no_cycle;
      sorted = own.arguments;
      terms = terms;
      normal = normal;
    }

no_equations : (theory : RewriteTheory) (f : ℕ) (info : SymInfo) (ts : List Tree)
    (from to : ℕ) → IsWellSorted theory → IsSymbol theory.sig f info
    → AreTermsOf theory.sig [] (forest ts) info.args.items → AreNormal (forest ts)
    → NoneMatch theory.sig.subsorts ts 0 (map equation_row (equations_of theory f)) from to
    → NoEquationMatches theory f from to (forest ts)
no_equations theory f info ts from to well there terms normal none j e low high at =
    let are = equation_sorted theory f info ts j e well there terms normal at in
    miss_does_not theory.sig e.variables info.args.items e.arguments (equation_row e) ts are.cycle
    are.sorted (equation_is e)
    (none j (equation_row e) (map_at equation_row (equations_of theory f) j e at) (omega arith)
    (omega arith))

first_equation : (theory : RewriteTheory) (f : ℕ) (info : SymInfo) (t : MatchingTree)
    (ts : List Tree) (from row : ℕ) → IsWellSorted theory → IsEquationTree theory f t
    → IsSymbol theory.sig f info → AreTermsOf theory.sig [] (forest ts) info.args.items
    → AreNormal (forest ts)
    → IsFirst theory.sig.subsorts ts 0 (map equation_row (equations_of theory f)) from row
    → IsFirstEquation theory f t ts from row
first_equation theory f info t ts from row well is there terms normal first =
    let es : List Equation = equations_of theory f in
    let same : first.index ≡ row = omega (arith, first.number) in
    let P : ℕ → Type 0 = λ i. slice_get (map equation_row es) i ≡ Some first.ps in
    let at : slice_get (map equation_row es) row ≡ Some first.ps = subst P same first.there in
    let own = mapped_at equation_row es row first.ps at in
    let are = equation_sorted theory f info ts row own.0 well there terms normal own.1 in
    let hit : is_some (row_match theory.sig.subsorts (equation_row own.0) ts) ≡ true =
    ap (λ (qs : List Pattern). is_some (row_match theory.sig.subsorts qs ts)) own.2
    ∙ first.hit in
    let mine : row_of t.matrix row ≡ equation_row own.0 =
    row_numbered t.matrix (map equation_row es) row first.ps is.rows at ∙ sym own.2 in
    record {
      equation = own.0;
      there = own.1;
      not_before = first.low;
      earlier = no_equations theory f info ts from row well there terms normal first.earlier;
      matches = hit_matches theory.sig own.0.variables info.args.items own.0.arguments
          (equation_row own.0) ts are (equation_is own.0) hit;
      scoped = row_scoped theory.sig own.0.variables info.args.items own.0.arguments
          (row_of t.matrix row) (ap patterns mine ∙ equation_is own.0) are.sorted;
      found = λ theta finds.
          let Q : List (ℕ × ℕ) → Type 0 = λ os. FindsMatch os (length own.0.variables)
          (patterns (row_of t.matrix row)) (forest ts) (Some theta) in
          found_is_own theory.sig own.0.variables info.args.items own.0.arguments
          (row_of t.matrix row) ts theta are (ap patterns mine ∙ equation_is own.0)
          (subst Q is.order finds);
    }

pub equation_walk_tells : EquationWalkTells
equation_walk_tells theory f info t ts from answer.None well is there terms normal first =
    no_equations theory f info ts from (length (equations_of theory f)) well there terms normal
    (none_of theory.sig.subsorts ts 0 (map equation_row (equations_of theory f)) from
    (length (equations_of theory f))
    (in_order theory.sig.subsorts (map equation_row (equations_of theory f)) t ts from [] is
    first))
equation_walk_tells theory f info t ts from (answer.Row row resume) well is there terms normal
    first =
    first_equation theory f info t ts from row well is there terms normal
    (first_of theory.sig.subsorts ts 0 (map equation_row (equations_of theory f)) from row _
    (in_order theory.sig.subsorts (map equation_row (equations_of theory f)) t ts from _ is
    first))

-- patterns that have sorts are as many as the sorts
have_sorts-count : (sig : Signature) (variables sorts : List ℕ) (ps : Patterns)
    (refs : List SortRef) → HaveSorts sig variables sorts ps refs
    → length (pattern_list ps) ≡ length refs
have_sorts-count sig variables sorts no_pattern [] h = refl
have_sorts-count sig variables sorts no_pattern (of ∷ refs) h = absurd h
have_sorts-count sig variables sorts (more_patterns p ps) [] h = absurd h
have_sorts-count sig variables sorts (more_patterns p ps) (of ∷ refs) (sort, at, first, rest) =
    ap suc (have_sorts-count sig variables sorts ps refs rest)

ground_count : (ts : List Tree) → length (pattern_list (ground_patterns (forest ts))) ≡ length ts
ground_count [] = refl
ground_count (t ∷ ts) = ap suc (ground_count ts)

pub equation_tree_is_wide : EquationTreeIsWide
equation_tree_is_wide theory f info t ts well is there terms =
    let es : List Equation = equations_of theory f in
    let count : length ts ≡ length info.args.items =
    sym (ground_count ts)
    ∙ have_sorts-count theory.sig [] [] (ground_patterns (forest ts)) info.args.items terms in
    numbered_wide (length ts) (rows_of t.matrix) (map equation_row es) is.rows
    (λ i ps at.
    let own = mapped_at equation_row es i ps at in
    let one : IsEquationOf theory.sig info own.0 =
    item_at (IsEquationOf theory.sig info) es i own.0 (well.equations f info there) own.1 in
    ap (λ (qs : List Pattern). length qs) (sym own.2)
    ∙ length-map (pattern_list own.0.arguments) collapsed
    ∙ have_sorts-count theory.sig own.0.variables [] own.0.arguments info.args.items one.arguments
    ∙ sym count)

-- ---- equations that do not match

one_there : {A : Type 0} (xs : List A) (i : ℕ) → i < length xs → (x : A) × (slice_get xs i ≡ Some x)
one_there [] i lt = absurd (omega arith)
one_there (x ∷ xs) zero lt = (x, refl)
one_there (x ∷ xs) (suc i) lt = one_there xs i (omega arith)

drop_at : {A : Type 0} (xs : List A) (i : ℕ) (x : A) → slice_get xs i ≡ Some x
    → drop i xs ≡ x ∷ drop (suc i) xs
drop_at [] i x at = absurd (let no : ⊥ = cc in no)
drop_at (y ∷ xs) zero x at = let same : y ≡ x = cc in ap (λ z. z ∷ xs) same
drop_at (y ∷ xs) (suc i) x at = drop_at xs i x at

pub unmatched_equations_are_skipped : UnmatchedEquationsAreSkipped
unmatched_equations_are_skipped theory f n from zero calls ts r room none later =
    let same : from + 0 ≡ from = omega arith in
    let P : ℕ → Type 0 = λ i. Equates theory n f (drop i (equations_of theory f)) ts calls r in
    subst P same later
unmatched_equations_are_skipped theory f n from (suc count) calls ts r room none later =
    let es : List Equation = equations_of theory f in
    let own = one_there es from (omega arith) in
    let same : from + suc count ≡ (from + 1) + count = omega arith in
    let P : ℕ → Type 0 = λ i. Equates theory n f (drop i es) ts calls r in
    let rest : Equates theory n f (drop (from + 1) es) ts calls r =
    unmatched_equations_are_skipped theory f n (from + 1) count calls ts r (omega arith)
    (λ j e low high at. none j e (omega arith) (omega arith) at) (subst P same later) in
    let Q : List Equation → Type 0 = λ xs. Equates theory n f xs ts calls r in
    let next : suc from ≡ from + 1 = omega arith in
    subst Q (sym (drop_at es from own.0 own.1 ∙ ap (λ (j : ℕ). own.0 ∷ drop j es) next))
    (unmatched (λ theta m. none_matches_named theory.sig own.0.variables own.0.arguments own.0.names
    ts theta (none from own.0 (omega arith) (omega arith) own.1) m) rest)
