-- How a trial of rules goes on from one rule that matches to the next.
use Rattle.std.proofs.Common.{rules, ◌≡◌, ℕ, ◌+◌, ◌-◌, ◌<◌, ◌≤◌, ⊎_elim, inl, List, [], ◌∷◌, length, drop}
use Rattle.std.proofs.Common.{Option, Some, sym, ◌∙◌, ap, subst, arith}
use Rattle.std.specs.Prelude.{Err, slice_get, vec_len}
use Rattle.std.proofs.lemmas.Bool.{cases_lt}
use Rattle.std.proofs.lemmas.List.{length-map}
use Rattle.std.proofs.lemmas.Option.{slice_get_within}
use Rattle.term_core.specs.Terms.{Tree, no_tree, more_trees, height}
use Rattle.term_core.specs.Instances.{patterns}
use Rattle.term_core.specs.Patterns.{no_pattern, more_patterns}
use Rattle.term_core.specs.PatternLists.{AllFitWithin, plain_patterns}
use Rattle.term_core.specs.declared.rule_patterns.RulePat.{RulePat}
use Rattle.rule_core.specs.Rules.{RewriteRule}
use Rattle.rule_core.specs.Theories.{RewriteTheory}
use Rattle.rule_core.specs.Evaluation.{holds}
use Rattle.rule_core.specs.FirstRule.{Matches, Meets, Tries, none_applies}
use Rattle.rule_core.specs.Records.{Record, most_calls}
use Rattle.rule_core.specs.MatchSearch.{FindsMatch, UseFirst}
use Rattle.rule_core.specs.Trial.{NoRuleMatches}
use Rattle.rule_core.specs.NamedLaws.{AddsNames}
use Rattle.rule_core.specs.Naming.{AreNamesOf}
use Rattle.rule_core.proofs.NamedMatches.{names_match, none_matches_named}
use Rattle.rule_core.proofs.Skips.{unmatched_are_skipped}
use Rattle.rule_core.specs.ProgramView.{names_of, rewrite_rule, sorts_of}
use Rattle.rule_core.specs.declared.rules.Named.{Named}
use Rattle.rule_core.specs.declared.rules.Rule.{Rule}
use Rattle.pat_matrix.specs.MatrixView.{row_of, order_of}
use Rattle.match_tree.specs.ProgramLaws.{IsFirstRule, MatchesLeft}
use Rattle.match_tree.specs.SlotView.{CanBegin, Keeps, first_row}
use Rattle.match_tree.specs.declared.compiling.Tree as code
use Rattle.match_tree.specs.declared.slots.Hit.TheVariants as answer
use Rattle.match_tree.specs.declared.slots.NodeNo.{NodeNo}
use Rattle.match_tree.specs.declared.slots.NodeNo.TheVariants as place
use Rattle.match_tree.specs.declared.slots.Slots.{Slots}
use Rattle.match_tree.proofs.ProgramLaws.{walk_goes_on}
use Rattle.fun_eval.specs.declared.answer.EvalEnd.{EvalEnd}
use Rattle.fun_eval.specs.declared.equations.Trial.TheVariants.{Failed}
use Rattle.fun_eval.proofs.Names.{all_fit, are_names_of}
use Rattle.rewriter.specs.Configurations.{IsConfiguration}
use Rattle.rewriter.specs.Choosing.{Chooses, IsChosen, RuleSays, TriesRule}
use Rattle.rewriter.proofs.Trying.{TriedUpTo, UnusedUpTo, chosen, is_unused, trial_falls}
use Rattle.rewriter.proofs.Trying.{triable, trial_stops, tried-all, tried-more, unused-more}

-- ---- rules that do not match

pub tried_to : (theory : RewriteTheory) (t : Tree) (c i k left : ℕ) → TriedUpTo theory t c i left
    → i ≤ k → k ≤ length theory.rules → NoRuleMatches theory.sig theory.rules i k t
    → TriedUpTo theory t c k left
tried_to theory t c i k left tried from within none =
    let whole : i + (k - i) ≡ k = omega arith in
    λ r later. tried r (unmatched_are_skipped theory t i (k - i) left r (omega arith)
    (subst (λ n. NoRuleMatches theory.sig theory.rules i n t) (sym whole) none)
    (subst (λ n. Tries theory t n (drop n theory.rules) left r) (sym whole) later))

pub unused_to : (theory : RewriteTheory) (t : Tree) (i k : ℕ) → UnusedUpTo theory t i
    → NoRuleMatches theory.sig theory.rules i k t → UnusedUpTo theory t k
unused_to theory t i k before none = λ j other lt there. ⊎_elim
    (λ (early : j < i). before j other early there)
    (λ (late : i ≤ j). inl (λ theta match. none_matches_named theory.sig other.variables
    (more_patterns other.left no_pattern) other.names (more_trees t no_tree) theta
    (none j other late lt there) match))
    (cases_lt j i)

-- ---- a rule that a walk finds

-- it is the rule of the program with that number
pub found_rule : (theory : RewriteTheory) (tree : code.Tree) (t : Tree) (i row : ℕ)
    (rule : RewriteRule) → (first : IsFirstRule theory tree t i row)
    → slice_get theory.rules row ≡ Some rule → first.rule ≡ rule
found_rule theory tree t i row rule first there =
    let both : Some first.rule ≡ Some rule = sym first.there ∙ there in cc

pub found_within : (theory : RewriteTheory) (tree : code.Tree) (t : Tree) (i row : ℕ)
    → IsFirstRule theory tree t i row → row < length theory.rules
found_within theory tree t i row first =
    slice_get_within theory.rules row first.rule first.there

pub found_scoped : (theory : RewriteTheory) (tree : code.Tree) (t : Tree) (i row n : ℕ)
    (rule : RewriteRule) → IsFirstRule theory tree t i row
    → slice_get theory.rules row ≡ Some rule → n ≡ length rule.variables
    → UseFirst n (patterns (row_of tree.matrix row))
found_scoped theory tree t i row n rule first there many =
    let same : length first.rule.variables ≡ n =
    ap (λ (r : RewriteRule). length r.variables) (found_rule theory tree t i row rule first there)
    ∙ sym many in
    let P : ℕ → Type 0 = λ k. UseFirst k (patterns (row_of tree.matrix row)) in
    subst P same first.scoped

-- the substitution that was found for it matches it without its names
found_unnamed : (theory : RewriteTheory) (tree : code.Tree) (t : Tree) (i row n : ℕ)
    (rule : RewriteRule) (theta : List (Option Tree)) → IsFirstRule theory tree t i row
    → slice_get theory.rules row ≡ Some rule → n ≡ length rule.variables
    → FindsMatch (order_of tree.matrix) n (patterns (row_of tree.matrix row))
    (more_trees t no_tree) (Some theta) → MatchesLeft theory rule t theta
found_unnamed theory tree t i row n rule theta first there many finds =
    let own = found_rule theory tree t i row rule first there in
    let same : n ≡ length first.rule.variables =
    many ∙ ap (λ (r : RewriteRule). length r.variables) (sym own) in
    let P : ℕ → Type 0 = λ k. FindsMatch (order_of tree.matrix) k
    (patterns (row_of tree.matrix row)) (more_trees t no_tree) (Some theta) in
    let Q : RewriteRule → Type 0 = λ r. MatchesLeft theory r t theta in
    subst Q own (first.found theta (subst P same finds))

-- then its names may be added
pub names_fit : (theory : RewriteTheory) (tree : code.Tree) (t : Tree) (i row n : ℕ) (r : Rule)
    (pats : List RulePat) (named : List Named) (theta : List (Option Tree))
    → IsConfiguration theory t → height t ≤ 500 → IsFirstRule theory tree t i row
    → slice_get theory.rules row ≡ Some (rewrite_rule r) → n ≡ length (rewrite_rule r).variables
    → pats ≡ r.left ∷ [] → named ≡ r.named.items
    → FindsMatch (order_of tree.matrix) n (patterns (row_of tree.matrix row))
    (more_trees t no_tree) (Some theta)
    → AllFitWithin 500 theta (plain_patterns pats)
    × AreNamesOf (plain_patterns pats) (length theta) (names_of named)
names_fit theory tree t i row n r pats named theta is low first there many own own_names finds =
    let rule : RewriteRule = rewrite_rule r in
    let match = found_unnamed theory tree t i row n rule theta first there many finds in
    let fits : AllFitWithin 500 theta (plain_patterns (r.left ∷ [])) =
    all_fit 500 theta (more_patterns rule.left no_pattern) (more_trees t no_tree) match.makes
    (omega arith) in
    let names : AreNamesOf (plain_patterns (r.left ∷ [])) (length theta) (names_of r.named.items) =
    are_names_of theory.sig rule.variables (more_patterns rule.left no_pattern) rule.names
    (length theta) (triable theory t row rule is there).1.names match.binds.room in (
      subst (λ (ps : List RulePat). AllFitWithin 500 theta (plain_patterns ps)) (sym own) fits,
      subst (λ (ps : List RulePat). AreNamesOf (plain_patterns ps) (length theta) (names_of named))
          (sym own)
          (subst (λ (ns : List Named). AreNamesOf (plain_patterns (r.left ∷ [])) (length theta)
          (names_of ns)) (sym own_names) names),
    )

-- and then it matches the rule
pub found_matches : (theory : RewriteTheory) (tree : code.Tree) (t : Tree) (i row n : ℕ) (r : Rule)
    (pats : List RulePat) (named : List Named) (theta sigma : List (Option Tree))
    → IsConfiguration theory t → IsFirstRule theory tree t i row
    → slice_get theory.rules row ≡ Some (rewrite_rule r) → n ≡ length (rewrite_rule r).variables
    → pats ≡ r.left ∷ [] → named ≡ r.named.items
    → FindsMatch (order_of tree.matrix) n (patterns (row_of tree.matrix row))
    (more_trees t no_tree) (Some theta)
    → AddsNames (plain_patterns pats) (names_of named) theta sigma
    → Matches theory (rewrite_rule r) t sigma
found_matches theory tree t i row n r pats named theta sigma is first there many own own_names finds
    adds =
    let rule : RewriteRule = rewrite_rule r in
    let all : AddsNames (plain_patterns (r.left ∷ [])) (names_of r.named.items) theta sigma =
    subst (λ (ps : List RulePat).
    AddsNames (plain_patterns ps) (names_of r.named.items) theta sigma)
    own (subst (λ (ns : List Named). AddsNames (plain_patterns pats) (names_of ns) theta sigma)
    own_names adds) in
    names_match theory.sig rule.variables (more_patterns rule.left no_pattern) rule.names
    (more_trees t no_tree) theta sigma (triable theory t row rule is there).1.names
    (found_unnamed theory tree t i row n rule theta first there many finds) all

-- how many variables a rule has
pub count_of : (r : Rule) (n : ℕ) → n ≡ vec_len r.vars → n ≡ length (rewrite_rule r).variables
count_of r n many =
    let mapped : length (sorts_of r.vars.items) ≡ vec_len r.vars = search (rules, length-map) in
    many ∙ sym mapped

-- ---- a trial by walks

-- The rules before the place were tried and are not used.
pub record HasTried (theory : RewriteTheory) (tree : code.Tree) (t : Tree) (slots : Slots)
    (from : NodeNo) (c left : ℕ) : Type 0
  where
    pub begins : CanBegin tree (t ∷ []) slots from
    pub within : first_row slots from ≤ length theory.rules
    pub tried : TriedUpTo theory t c (first_row slots from) left
    pub unused : UnusedUpTo theory t (first_row slots from)
    pub fewer : left ≤ c

pub none_tried : (theory : RewriteTheory) (tree : code.Tree) (t : Tree) (slots : Slots)
    (from : NodeNo) (c : ℕ) → from ≡ place.Start → HasTried theory tree t slots from c c
none_tried theory tree t slots from c is =
    let P : NodeNo → Type 0 = λ n. HasTried theory tree t slots n c c in
    subst P (sym is) (record {
      begins = tt;
      within = omega arith;
      tried = λ r later. later;
      unused = λ j other lt there. absurd (omega arith);
      fewer = omega arith;
    })

-- up to the rule that a walk found, none is used
pub tried_before : (theory : RewriteTheory) (tree : code.Tree) (t : Tree) (slots : Slots)
    (from : NodeNo) (c left row : ℕ) → HasTried theory tree t slots from c left
    → IsFirstRule theory tree t (first_row slots from) row
    → TriedUpTo theory t c row left × UnusedUpTo theory t row
tried_before theory tree t slots from c left row done first = (
  tried_to theory t c (first_row slots from) row left done.tried first.not_before
      (omega (arith, found_within theory tree t (first_row slots from) row first)) first.earlier,
  unused_to theory t (first_row slots from) row done.unused first.earlier,
)

-- it is used, with what its condition leaves
abbrev pub rule_chosen : (theory : RewriteTheory) (tree : code.Tree) (t : Tree) (slots : Slots)
    (from : NodeNo) (c left rest row : ℕ) (rule : RewriteRule) (theta : List (Option Tree))
    → HasTried theory tree t slots from c left
    → IsFirstRule theory tree t (first_row slots from) row
    → slice_get theory.rules row ≡ Some rule → Matches theory rule t theta
    → Meets theory theta rule.condition left (holds rest) → IsChosen theory t c row theta rest
rule_chosen theory tree t slots from c left rest row rule theta done first there match test =
    let before = tried_before theory tree t slots from c left row done first in
    chosen theory t c row left rest rule theta before.0 before.1 there match test done.fewer

-- its condition is blocked
pub rule_stops : {R : Type 0} (tells : R → Record → Type 0) (theory : RewriteTheory)
    (tree : code.Tree) (t : Tree) (slots : Slots) (from : NodeNo) (c left row : ℕ)
    (rule : RewriteRule) (end : EvalEnd) → HasTried theory tree t slots from c left
    → IsFirstRule theory tree t (first_row slots from) row
    → slice_get theory.rules row ≡ Some rule → TriesRule tells theory rule t left (Err end)
    → Chooses tells theory t c (Err end)
rule_stops tells theory tree t slots from c left row rule end done first there h =
    let before = tried_before theory tree t slots from c left row done first in
    trial_stops tells theory t c row left rule end before.0 there h

-- its condition is false, and the trial goes on after it
pub rule_passed : {R : Type 0} (tells : R → Record → Type 0) (theory : RewriteTheory)
    (tree : code.Tree) (t : Tree) (slots kept : Slots) (from resume : NodeNo)
    (c left rest row : ℕ) (rule : RewriteRule) (theta : List (Option Tree)) (cond : R)
    → HasTried theory tree t slots from c left
    → IsFirstRule theory tree t (first_row slots from) row
    → Keeps tree (t ∷ []) kept (answer.Row row resume)
    → slice_get theory.rules row ≡ Some rule → c ≤ most_calls
    → RuleSays tells theory rule t left (Failed theta cond) rest
    → HasTried theory tree t kept resume c rest
rule_passed tells theory tree t slots kept from resume c left rest row rule theta cond done first
    keeps there few says =
    let before = tried_before theory tree t slots from c left row done first in
    let next = walk_goes_on tree (t ∷ []) kept row resume keeps in
    let at : ℕ = first_row kept resume in
    let same : row + 1 ≡ at = sym next.1 in
    let unused : UnusedUpTo theory t (row + 1) =
    unused-more theory t row rule before.1 there
    (is_unused tells theory rule t left rest theta cond (omega (arith, few, done.fewer)) says) in
    let tried : TriedUpTo theory t c (row + 1) rest =
    tried-more tells theory t c row left rest rule theta cond before.0 there says in
    record {
      begins = next.0;
      within = omega (arith, next.1, found_within theory tree t (first_row slots from) row first);
      tried = subst (λ k. TriedUpTo theory t c k rest) same tried;
      unused = subst (λ k. UnusedUpTo theory t k) same unused;
      fewer = omega (arith, done.fewer, trial_falls tells theory rule t left rest theta cond says);
    }

-- fewer rules are left after it
pub rule_nearer : (theory : RewriteTheory) (tree : code.Tree) (t : Tree) (slots kept : Slots)
    (from resume : NodeNo) (row : ℕ) → IsFirstRule theory tree t (first_row slots from) row
    → Keeps tree (t ∷ []) kept (answer.Row row resume)
    → length theory.rules - first_row kept resume < length theory.rules - first_row slots from
rule_nearer theory tree t slots kept from resume row first keeps =
    omega (
      arith,
      (walk_goes_on tree (t ∷ []) kept row resume keeps).1,
      found_within theory tree t (first_row slots from) row first,
      first.not_before,
    )

-- a walk found no rule
pub none_is_used : (theory : RewriteTheory) (tree : code.Tree) (t : Tree) (slots : Slots)
    (from : NodeNo) (c left : ℕ) → HasTried theory tree t slots from c left
    → NoRuleMatches theory.sig theory.rules (first_row slots from) (length theory.rules) t
    → Tries theory t 0 theory.rules c none_applies
none_is_used theory tree t slots from c left done none =
    tried-all theory t c (length theory.rules) left
    (tried_to theory t c (first_row slots from) (length theory.rules) left done.tried done.within
    (omega arith) none) (omega arith)
