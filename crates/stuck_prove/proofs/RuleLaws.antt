-- One rule that is not used at a configuration: the parts of its body, and the quantifiers of its
-- variables.
use Rattle.std.proofs.Common.{◌≡◌, ◌<◌, ◌≤◌, ◌+◌, ◌++◌, ℕ, zero, suc, List, [], ◌∷◌, All, length, map}
use Rattle.std.proofs.Common.{take, get_or, Option, Some, option_map, refl, sym, ◌∙◌, ap, subst, arith}
use Rattle.std.specs.Prelude.{Contains}
use Rattle.std.proofs.lemmas.List.{length-map, length-take-le, take_more}
use Rattle.std.proofs.lemmas.List.Elements.{All-contains}
use Rattle.std.proofs.Math.Seq.{take_all}
use Rattle.ml_pat.specs.Patterns.{Pattern as LogicPattern, bot, imp, ex, fun, var}
use Rattle.ml_pat.specs.Patterns as logic
use Rattle.ml_kernel.specs.Theorems.{Theorem}
use Rattle.ml_derived.specs.Scopes.{StaysWithin}
use Rattle.term_core.specs.Terms.{Tree, no_tree, more_trees}
use Rattle.term_core.specs.Patterns.{Pattern, no_pattern, more_patterns, ground_pattern}
use Rattle.term_core.specs.RulePatterns.{sort_numbers}
use Rattle.term_core.specs.declared.ids.SortId.{SortId}
use Rattle.rule_core.specs.Matching.{NoneMatches}
use Rattle.rule_core.specs.NamedParts.{Name}
use Rattle.rule_core.specs.Rules.{RewriteRule}
use Rattle.rule_core.specs.Sorting.{AreSorts, HasSort}
use Rattle.rule_core.specs.Theories.{RewriteTheory}
use Rattle.rule_core.specs.WellSorted.{AreDifferent, HaveNames, IsRuleOf}
use Rattle.rule_core.specs.declared.rules.Program.{Program}
use Rattle.rule_core.proofs.NamedMatches.{none_matches_named}
use Rattle.ml_image.specs.Images.{both, sort_image}
use Rattle.ml_image.specs.NamedSides.{left_sentence, of_child}
use Rattle.ml_image.specs.Premises.{condition_sentence}
use Rattle.ml_image.specs.Sentences.{Sentence, and, exists, for_some, sentence_image, term}
use Rattle.prove_term.specs.Contexts.{Context, HasGrown, StaysIn}
use Rattle.prove_term.proofs.ContextLaws.{image_grown}
use Rattle.prove_term.proofs.ImageShapes.{both_some, map_some}
use Rattle.prove_open.specs.Givens.{HasFact, all_sorted}
use Rattle.prove_open.proofs.GatheringLaws.{given_grown}
use Rattle.prove_open.proofs.ScopeLaws.{stays_no_hypotheses}
use Rattle.refute.specs.NamedRefutations.{mismatched_named, named_in_common, variables_as_written}
use Rattle.refute.specs.Refutations.{SaysSentence}
use Rattle.refute.proofs.NamedBegun.{these_parts, written_low}
use Rattle.refute_body.specs.Implications.{IsOpen, elements, for_some_of, variable_of}
use Rattle.refute_body.proofs.GivenVariables.{IsSorted, nothing_sorted, sorted_parts}
use Rattle.stuck_prove.specs.NotMet.{meets_body}
use Rattle.stuck_prove.specs.RefutedRules.{SaysNotMet}
use Rattle.stuck_prove.specs.Settings.{DeniesBody, IsSettingOf, down_from}
use Rattle.stuck_prove.specs.Trials.{IsPassed, unmatched, untrue}
use Rattle.stuck_prove.specs.declared.settings.Setting.{Setting}
use Rattle.stuck_prove.proofs.SettingLaws.{down_low}

some_same : {A : Type 0} (x y : A) → Some x ≡ Some y → x ≡ y
some_same x y e = cc

-- ---- growing

pub setting_grown : (a b : Context) (rule : RewriteRule) (s : Setting) → HasGrown a b
    → IsSettingOf a rule s → IsSettingOf b rule s
setting_grown a b rule s grown is = record {
  sorts = is.sorts;
  are_sorts =
      subst (λ (program : Program). AreSorts program.sig rule.variables) (sym grown.program)
      is.are_sorts;
  given = given_grown a b rule.variables s.given grown is.given;
  hypothesis =
      image_grown a b (all_sorted rule.variables (down_from (length rule.variables)))
      s.given.hypothesis grown is.hypothesis;
  facts = is.facts;
  sentence = is.sentence;
  is_sentence =
      ap (λ (program : Program). condition_sentence program.sig rule.variables rule.condition)
      grown.program ∙ is.is_sentence;
  condition = image_grown a b is.sentence s.condition grown is.condition;
}

-- ---- a rule that does not match

-- no calls are taken
pub passed_by_none : (theory : RewriteTheory) (rule : RewriteRule) (t : Tree) (c d : ℕ)
    → NoneMatches theory.sig rule.variables (more_patterns rule.left no_pattern)
    (more_trees t no_tree) → IsPassed theory rule t c d → c ≡ d
passed_by_none theory rule t c d none (unmatched never) = refl
passed_by_none theory rule t c d none (untrue {theta = theta} matches test) =
    absurd (none_matches_named theory.sig rule.variables (more_patterns rule.left no_pattern)
    rule.names (more_trees t no_tree) theta none matches)

-- each variable that is written in the left side is given
pub written_given : (cx : Context) (rule : RewriteRule) (s : Setting) (sort : ℕ)
    → IsRuleOf cx.program.sig sort rule → IsSettingOf cx rule s → (x : ℕ)
    → Contains (variables_as_written (of_child 0 rule.names) rule.left) x → HasFact s.given x
written_given cx rule s sort is setting x there =
    let xs : List ℕ = variables_as_written (of_child 0 rule.names) rule.left in
    let own : rule.variables ≡ sort_numbers s.sorts.items = sym setting.sorts in
    let all : All (λ (y : ℕ). y < length s.sorts.items) xs =
    written_low cx.program.sig s.sorts.items (of_child 0 rule.names) rule.left sort xs
    (subst (λ (ss : List ℕ). HasSort cx.program.sig ss rule.left sort) own is.left) is.no_call
    (these_parts cx.program.sig (sort_numbers s.sorts.items) rule.left rule.names
    (of_child 0 rule.names) refl
    (subst (λ (ss : List ℕ). HaveNames cx.program.sig ss (more_patterns rule.left no_pattern)
    rule.names) own is.names)) refl in
    setting.facts x
    (omega (
      arith,
      All-contains (λ (y : ℕ). y < length s.sorts.items) xs x all there,
      ap length own,
      length-map s.sorts.items (λ (r : SortId). r.0),
    ))

-- what the theorem of a mismatch says
pub record IsMismatch (cx : Context) (sorts : List ℕ) (names : List Name) (p : Pattern) (t : Tree)
    (n : LogicPattern) : Type 0 where
  pub h : LogicPattern
  pub is_h : sentence_image cx.program.sig cx.names (all_sorted sorts (variables_as_written names p))
      ≡ Some h
  pub right : LogicPattern
  pub is_right : sentence_image cx.program.sig cx.names (left_sentence names p) ≡ Some right
  pub left : LogicPattern
  pub is_left : sentence_image cx.program.sig cx.names (term (ground_pattern t)) ≡ Some left
  pub says : n ≡ imp h (logic.not (logic.and right left))

pub mismatch_is : (cx : Context) (sorts : List ℕ) (names : List Name) (p : Pattern) (t : Tree)
    (n : LogicPattern) → SaysSentence cx (mismatched_named sorts names p t) n
    → IsMismatch cx sorts names p t n
mismatch_is cx sorts names p t n says =
    let common : Sentence = named_in_common names p t in
    let w = both_some imp (sentence_image cx.program.sig cx.names
    (all_sorted sorts (variables_as_written names p)))
    (option_map logic.not (sentence_image cx.program.sig cx.names common)) n says in
    let v = map_some logic.not (sentence_image cx.program.sig cx.names common) w.1 w.3 in
    let u = both_some logic.and (sentence_image cx.program.sig cx.names (left_sentence names p))
    (sentence_image cx.program.sig cx.names (term (ground_pattern t))) v.0 v.1 in
    record {
      h = w.0;
      is_h = w.2;
      right = u.0;
      is_right = u.2;
      left = u.1;
      is_left = u.3;
      says = w.4 ∙ ap (imp w.0) (v.2 ∙ ap logic.not u.4);
    }

-- the body, by its parts
pub body_image : (cx : Context) (rule : RewriteRule) (c : Sentence) (t : Tree)
    (right left condition : LogicPattern)
    → sentence_image cx.program.sig cx.names (left_sentence (of_child 0 rule.names) rule.left)
    ≡ Some right
    → sentence_image cx.program.sig cx.names (term (ground_pattern t)) ≡ Some left
    → sentence_image cx.program.sig cx.names c ≡ Some condition
    → sentence_image cx.program.sig cx.names (meets_body rule c t)
    ≡ Some (logic.and (logic.and left right) condition)
body_image cx rule c t right left condition is_right is_left is_condition =
    let first : sentence_image cx.program.sig cx.names
    (and (term (ground_pattern t)) (left_sentence (of_child 0 rule.names) rule.left))
    ≡ Some (logic.and left right) =
    ap (λ (o : Option LogicPattern). both logic.and o
    (sentence_image cx.program.sig cx.names (left_sentence (of_child 0 rule.names) rule.left)))
    is_left ∙ ap (both logic.and (Some left)) is_right in
    ap (λ (o : Option LogicPattern). both logic.and o (sentence_image cx.program.sig cx.names c))
    first ∙ ap (both logic.and (Some (logic.and left right))) is_condition

pub denies_mismatched : (cx : Context) (rule : RewriteRule) (t : Tree) (s : Setting)
    (none weaker made : Theorem)
    → IsMismatch cx rule.variables (of_child 0 rule.names) rule.left t none.conclusion
    → IsSettingOf cx rule s
    → ((h q u : LogicPattern) → none.conclusion ≡ imp h (logic.not (logic.and q u))
    → made.conclusion
    ≡ imp s.given.hypothesis (imp (logic.and (logic.and u q) s.condition) bot))
    → StaysWithin (s.given.hypothesis ∷ s.condition ∷ []) (none ∷ weaker ∷ []) made
    → StaysIn cx none → StaysIn cx weaker → DeniesBody cx rule t s made
denies_mismatched cx rule t s none weaker made m setting says stays first second = record {
  sentence = setting.sentence;
  is_sentence = setting.is_sentence;
  body = logic.and (logic.and m.left m.right) s.condition;
  is_body =
      body_image cx rule setting.sentence t m.right m.left s.condition m.is_right m.is_left
      setting.condition;
  says = record { image = bot; is_image = refl; says = says m.h m.right m.left m.says };
  stays =
      λ p has. stays p
      (setting.given.over p has, (has.images setting.sentence s.condition setting.condition, tt))
      (first p has, (second p has, tt));
}

-- ---- the quantifiers

different_down : (n : ℕ) → AreDifferent (down_from n)
different_down zero = tt
different_down (suc n) = (
  λ i d low.
      let less : get_or (down_from n) i d < n = down_low n n (omega arith) i d low in
      λ same. omega (arith, less, same),
  different_down n,
)

-- the variables with their sorts, of which the hypothesis says that they are elements, and the
-- quantifiers over them
record AreOpened (cx : Context) (n : ℕ) (ss : List ℕ) (h : LogicPattern) : Type 0 where
  pub pairs : List (ℕ × ℕ)
  pub variables : map variable_of pairs ≡ down_from n
  pub many : n ≡ length pairs
  pub says : elements pairs ≡ h
  pub closes : (s : Sentence) (e : LogicPattern)
      → sentence_image cx.program.sig cx.names s ≡ Some e
      → sentence_image cx.program.sig cx.names (for_some 0 (take n ss) s)
      ≡ Some (for_some_of pairs e)

for_some-last : (k : ℕ) (ss : List ℕ) (x : ℕ) (s : Sentence)
    → for_some k (ss ++ x ∷ []) s ≡ for_some k ss (exists (k + length ss) x s)
for_some-last k [] x s =
    let here : k ≡ k + 0 = omega arith in ap (λ (y : ℕ). exists y x s) here
for_some-last k (r ∷ ss) x s =
    let next : k + 1 + length ss ≡ k + suc (length ss) = omega arith in
    ap (exists k r)
    (for_some-last (k + 1) ss x s
    ∙ ap (λ (y : ℕ). for_some (k + 1) ss (exists y x s)) next)

exists_is : (cx : Context) (y x sort : ℕ) (s : Sentence) (e : LogicPattern)
    → sort_image cx.program.sig cx.names x ≡ Some sort
    → sentence_image cx.program.sig cx.names s ≡ Some e
    → sentence_image cx.program.sig cx.names (exists y x s) ≡ Some (ex y sort e)
exists_is cx y x sort s e numbered is =
    ap (λ (o : Option ℕ). both (ex y) o (sentence_image cx.program.sig cx.names s)) numbered
    ∙ ap (λ (o : Option LogicPattern). both (ex y) (Some sort) o) is

opened : (cx : Context) (n : ℕ) (ss : List ℕ) (h : LogicPattern) → n ≤ length ss
    → sentence_image cx.program.sig cx.names (all_sorted ss (down_from n)) ≡ Some h
    → AreOpened cx n ss h
opened cx zero ss h low is = record {
  pairs = [];
  variables = refl;
  many = refl;
  says = nothing_sorted cx ss h is;
  closes = λ s e image. image;
}
opened cx (suc n) ss h low is =
    let w : IsSorted cx ss n (down_from n) h = sorted_parts cx ss n (down_from n) h is in
    let r : AreOpened cx n ss w.rest = opened cx n ss w.rest (omega (arith, low)) w.is_rest in
    let inside : n < length ss = omega (arith, low) in
    let further : suc n ≡ n + 1 = omega arith in
    let long : 0 + length (take n ss) ≡ n =
    omega (arith, length-take-le n ss (omega (arith, low))) in
    record {
      pairs = (n, w.sort) ∷ r.pairs;
      variables = ap (λ (xs : List ℕ). n ∷ xs) r.variables;
      many = ap suc r.many;
      says = ap (logic.and (fun (var n) w.sort)) r.says ∙ sym w.is;
      closes = λ s e image.
          let all : take (suc n) ss ≡ take n ss ++ get_or ss n 0 ∷ [] =
          ap (λ (m : ℕ). take m ss) further ∙ take_more ss n 0 inside in
          ap (λ (xs : List ℕ). sentence_image cx.program.sig cx.names (for_some 0 xs s)) all
          ∙ ap (sentence_image cx.program.sig cx.names)
          (for_some-last 0 (take n ss) (get_or ss n 0) s
          ∙ ap (λ (m : ℕ). for_some 0 (take n ss) (exists m (get_or ss n 0) s)) long)
          ∙ r.closes (exists n (get_or ss n 0) s) (ex n w.sort e)
          (exists_is cx n (get_or ss n 0) w.sort s e w.numbered image);
    }

setting_opened : (cx : Context) (rule : RewriteRule) (s : Setting) → IsSettingOf cx rule s
    → AreOpened cx (length rule.variables) rule.variables s.given.hypothesis
setting_opened cx rule s is =
    opened cx (length rule.variables) rule.variables s.given.hypothesis (omega arith)
    is.hypothesis

-- the theorem says that the body does not hold, if the variables are elements of their sorts
is_open : (cx : Context) (rule : RewriteRule) (t : Tree) (s : Setting) (none : Theorem)
    (o : AreOpened cx (length rule.variables) rule.variables s.given.hypothesis)
    → (denied : DeniesBody cx rule t s none) → IsOpen o.pairs denied.body none.conclusion
is_open cx rule t s none o denied =
    let nothing : bot ≡ denied.says.image =
    some_same bot denied.says.image denied.says.is_image in
    record {
      different = subst AreDifferent (sym o.variables) (different_down (length rule.variables));
      is =
          denied.says.says
          ∙ ap (λ (p : LogicPattern). imp s.given.hypothesis (imp denied.body p)) (sym nothing)
          ∙ ap (λ (h : LogicPattern). imp h (imp denied.body bot)) (sym o.says);
    }

pub can_close : (cx : Context) (rule : RewriteRule) (t : Tree) (s : Setting) (none : Theorem)
    (n : ℕ) → n ≡ length rule.variables → IsSettingOf cx rule s → DeniesBody cx rule t s none
    → (ps : List (ℕ × ℕ)) × (e : LogicPattern) × IsOpen ps e none.conclusion × (n ≡ length ps)
can_close cx rule t s none n many is denied =
    let o = setting_opened cx rule s is in
    (o.pairs, denied.body, is_open cx rule t s none o denied, many ∙ o.many)

-- what `closed` says of the theorem
abbrev pub IsClosedFrom : ℕ → Theorem → Theorem → Type 0
IsClosedFrom n none closed =
    (ps : List (ℕ × ℕ)) (e : LogicPattern) → IsOpen ps e none.conclusion → n ≡ length ps
    → closed.conclusion ≡ imp (for_some_of ps e) bot

pub closed_is : (cx : Context) (rule : RewriteRule) (t : Tree) (s : Setting) (none closed : Theorem)
    (n : ℕ) → n ≡ length rule.variables → IsSettingOf cx rule s → DeniesBody cx rule t s none
    → IsClosedFrom n none closed → (e : LogicPattern) × (closed.conclusion ≡ imp e bot)
closed_is cx rule t s none closed n many is denied says =
    let w = can_close cx rule t s none n many is denied in
    (for_some_of w.0 w.1, says w.0 w.1 w.2 w.3)

pub says_not_met : (cx : Context) (rule : RewriteRule) (t : Tree) (s : Setting)
    (none closed made : Theorem) (n : ℕ) (some nothing : LogicPattern)
    → n ≡ length rule.variables → IsSettingOf cx rule s → DeniesBody cx rule t s none
    → IsClosedFrom n none closed → closed.conclusion ≡ imp some nothing
    → made.conclusion ≡ logic.not some → StaysWithin [] (none ∷ []) closed
    → StaysWithin [] (closed ∷ []) made → SaysNotMet cx t rule made
says_not_met cx rule t s none closed made n some nothing many is denied says read denial first
    second =
    let o = setting_opened cx rule s is in
    let whole : closed.conclusion ≡ imp (for_some_of o.pairs denied.body) bot =
    says o.pairs denied.body (is_open cx rule t s none o denied) (many ∙ o.many) in
    let same : some ≡ for_some_of o.pairs denied.body =
    left some nothing (for_some_of o.pairs denied.body) bot (sym read ∙ whole) in
    let all : take (length rule.variables) rule.variables ≡ rule.variables =
    take_all (length rule.variables) rule.variables (omega arith) in
    let image : sentence_image cx.program.sig cx.names
    (for_some 0 rule.variables (meets_body rule denied.sentence t))
    ≡ Some (for_some_of o.pairs denied.body) =
    ap (λ (ss : List ℕ). sentence_image cx.program.sig cx.names
    (for_some 0 ss (meets_body rule denied.sentence t))) (sym all)
    ∙ o.closes (meets_body rule denied.sentence t) denied.body denied.is_body in
    let stays : StaysIn cx made = λ p has. second p tt (first p tt (denied.stays p has, tt), tt) in
    record {
      condition = denied.sentence;
      is_condition = denied.is_sentence;
      says =
          ap (option_map logic.not) image
          ∙ ap (λ (p : LogicPattern). Some (logic.not p)) (sym same)
          ∙ ap (λ (p : LogicPattern). Some p) (sym denial);
      no_hypotheses = stays_no_hypotheses cx made stays;
      stays = stays;
    }
  where
    left : (p q r s : LogicPattern) → imp p q ≡ imp r s → p ≡ r
    left p q r s h = cc
