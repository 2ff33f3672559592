-- Rules as lemmas: what the lemma of a rule says of its pattern variables.
use Rattle.std.specs.Prelude.{◌≡◌, ◌⊎◌, ◌++◌, ℕ, List, Contains, Option, Some, None, slice_get}
use Rattle.std.specs.Prelude.{slice_index_or, length}
use Rattle.std.specs.List.{AllZip}
use Rattle.ml_pat.specs.Patterns.{Pattern, top, imp, and, equal, next}
use Rattle.ml_kernel.specs.Theorems.{Theorem}
use Rattle.rule_core.specs.Rules.{RewriteRule}
use Rattle.rule_core.specs.ProgramView.{rewrite_rule}
use Rattle.rule_core.specs.declared.rules.Rule.{Rule}
use Rattle.rule_core.specs.declared.signature.Signature.{Signature}
use Rattle.ml_image.specs.Images.{image_of, sort_image}
use Rattle.ml_image.specs.NamedSides.{left_sentence, of_child}
use Rattle.ml_image.specs.OwnAxioms.{condition_sentence}
use Rattle.ml_image.specs.Sentences.{Sentence, sentence_image}
use Rattle.prove_term.specs.Contexts.{Context}
use Rattle.prove_schema.specs.Schemas.{with_metas, meta_facts, parts_of}

-- the numbers of these sorts, in order
abbrev pub AreNumbers : Signature → List (List ℕ) → List ℕ → List ℕ → Type 0
AreNumbers sig names ss ns = AllZip (λ (s n : ℕ). sort_image sig names s ≡ Some n) ss ns

-- The theorem says that the rule's left side, whose parts may have names, steps to its right side,
-- with pattern variables for the rule's variables. It assumes that each pattern variable is one
-- element of the sort of its
-- variable, and that the rule's condition holds. It assumes nothing else.
pub record SaysRuleSchema (cx : Context) (r : RewriteRule) (t : Theorem) : Type 0 where
  pub numbers : List ℕ
  pub are : AreNumbers cx.program.sig cx.names r.variables numbers
  pub left : Pattern
  pub left_image : sentence_image cx.program.sig cx.names
      (left_sentence (of_child 0 r.names) r.left) ≡ Some left
  pub holds : Sentence
  pub is_holds : condition_sentence cx.program.sig r.variables r.condition ≡ Some holds
  pub condition : Pattern
  pub condition_image : sentence_image cx.program.sig cx.names holds ≡ Some condition
  pub right : Pattern
  pub right_image : image_of cx.program.sig cx.names r.right ≡ Some right
  pub says : t.conclusion ≡ imp (with_metas (length numbers) left)
      (next (with_metas (length numbers) right))
  pub assumes : (h : Pattern) → Contains t.hypotheses h →
      Contains (meta_facts 0 numbers ++ parts_of (with_metas (length numbers) condition)) h

-- the theorem says this for the rule at place i
abbrev pub SaysSchemaAt : Context → ℕ → Theorem → Type 0
SaysSchemaAt cx i t =
    (r : Rule) → slice_get cx.program.rules.items i ≡ Some r → SaysRuleSchema cx (rewrite_rule r) t

-- lemma k of the context is the lemma of the rule at place i
abbrev pub IsLemmaOf : Context → ℕ → ℕ → Type 0
IsLemmaOf cx i k = (t : Theorem) × (slice_get cx.lemmas k ≡ Some t) × SaysSchemaAt cx i t

-- the theorem is a lemma of the context, and is the lemma of the rule at place i
abbrev pub IsRuleLemma : Context → ℕ → Theorem → Type 0
IsRuleLemma cx i t = Contains cx.lemmas t × SaysSchemaAt cx i t

-- a place that is kept for a rule is the place of the rule's lemma
abbrev pub AreRuleLemmas : Context → List (Option ℕ) → Type 0
AreRuleLemmas cx places = (i k : ℕ) → slice_index_or places i None ≡ Some k → IsLemmaOf cx i k

-- the pattern says that r follows from l if the condition c holds
abbrev pub IsConditional : Pattern → Type 0
IsConditional p = (l c r : Pattern) × (p ≡ imp (and l c) r)

-- the condition is `top` or an equality of two patterns
abbrev pub IsCondition : Pattern → Type 0
IsCondition c = (c ≡ top) ⊎ ((p q : Pattern) × (c ≡ equal p q))
