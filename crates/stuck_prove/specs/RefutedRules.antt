-- Theorems that a configuration meets none of the rules.
use Rattle.std.specs.Prelude.{◌≡◌, [], List, Some}
use Rattle.std.specs.List.{AllZip}
use Rattle.ml_kernel.specs.Theorems.{Theorem}
use Rattle.term_core.specs.Terms.{Tree}
use Rattle.rule_core.specs.Rules.{RewriteRule}
use Rattle.ml_image.specs.Premises.{condition_sentence}
use Rattle.ml_image.specs.Sentences.{Sentence, sentence_image}
use Rattle.prove_term.specs.Contexts.{Context, StaysIn}
use Rattle.stuck_prove.specs.NotMet.{not_met}

-- The theorem says that the configuration does not meet the rule. It has no hypotheses, and uses
-- only what the context has.
pub record SaysNotMet (cx : Context) (t : Tree) (r : RewriteRule) (thm : Theorem) : Type 0 where
  pub condition : Sentence
  pub is_condition : condition_sentence cx.program.sig r.variables r.condition ≡ Some condition
  pub says : sentence_image cx.program.sig cx.names (not_met r condition t) ≡ Some thm.conclusion
  pub no_hypotheses : thm.hypotheses ≡ []
  pub stays : StaysIn cx thm

-- each theorem says this of the rule at its place, and there are as many as rules
abbrev pub SayNoneMet : Context → Tree → List RewriteRule → List Theorem → Type 0
SayNoneMet cx t rules thms = AllZip (SaysNotMet cx t) rules thms
