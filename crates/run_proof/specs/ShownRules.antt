-- What a proof of a stuck run shows beside the run: that no rule applies to its last configuration.
use Rattle.std.specs.Prelude.{◌≡◌, ℕ, List, All, Option, Some, None}
use Rattle.term_core.specs.Terms.{Tree}
use Rattle.rule_core.specs.Rules.{RewriteRule}
use Rattle.rule_core.specs.Runs.{Run, stuck, limited, stopped, unstarted}
use Rattle.rule_core.specs.Theories.{RewriteTheory}
use Rattle.ml_image.specs.Premises.{condition_sentence}
use Rattle.ml_image.specs.Sentences.{Sentence}
use Rattle.mm_justify.specs.ProvedSentences.{ProvesSentence}
use Rattle.stuck_prove.specs.NotMet.{not_met}

-- the text proves that the configuration does not meet the rule
pub record ShowsNotMet (bytes : List ℕ) (theory : RewriteTheory) (t : Tree) (r : RewriteRule)
    : Type 0 where
  pub condition : Sentence
  pub is_condition : condition_sentence theory.sig r.variables r.condition ≡ Some condition
  pub proves : ProvesSentence bytes theory.sig (not_met r condition t)

-- the text proves this of each rule of the theory
abbrev pub ShowsNoneMet : List ℕ → RewriteTheory → Tree → Type 0
ShowsNoneMet bytes theory t = All (ShowsNotMet bytes theory t) theory.rules

-- the text shows so many rules unmet at the end of the run
abbrev pub Shows : List ℕ → RewriteTheory → Run → Option ℕ → Type 0
Shows bytes theory run None = Unit {0}
Shows bytes theory (stuck n t) (Some k) = ShowsNoneMet bytes theory t
Shows bytes theory (limited n t) (Some k) = ⊥
Shows bytes theory (stopped n cause t) (Some k) = ⊥
Shows bytes theory (unstarted cause) (Some k) = ⊥
