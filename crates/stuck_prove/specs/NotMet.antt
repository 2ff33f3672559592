-- What it says that a configuration does not meet a rewrite rule. If a configuration meets none of
-- the rules, no rule applies to it.
use Rattle.term_core.specs.Terms.{Tree}
use Rattle.term_core.specs.Patterns.{ground_pattern}
use Rattle.rule_core.specs.Rules.{RewriteRule}
use Rattle.ml_image.specs.NamedSides.{left_sentence, of_child}
use Rattle.ml_image.specs.Sentences.{Sentence, term, not, and, for_some}

-- the configuration is an instance of the rule's left side, and the condition c of the rule holds
abbrev pub meets_body : RewriteRule → Sentence → Tree → Sentence
meets_body r c t =
    and (and (term (ground_pattern t)) (left_sentence (of_child 0 r.names) r.left)) c

-- this is so for no values of the rule's variables
abbrev pub not_met : RewriteRule → Sentence → Tree → Sentence
not_met r c t = not (for_some 0 r.variables (meets_body r c t))
