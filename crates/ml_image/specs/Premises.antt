-- What a rule or an equation requires: that its condition is true, and that each parameter is in
-- its argument.
use Rattle.std.specs.Prelude.{ℕ, ◌+◌, true, List, [], Option, Some, None, option_map, slice_get}
use Rattle.term_core.specs.Terms.{truth}
use Rattle.term_core.specs.Patterns.{Pattern, Patterns, variable, domain_value, application}
use Rattle.term_core.specs.Patterns.{injection, call, no_pattern, more_patterns}
use Rattle.rule_core.specs.NamedParts.{Name}
use Rattle.rule_core.specs.Sorting.{sort_at}
use Rattle.rule_core.specs.declared.signature.Signature.{Signature}
use Rattle.rule_core.specs.declared.signature.SymInfo.{SymInfo}
use Rattle.ml_image.specs.Sentences.{Sentence, term, top, and, equals, is_in}
use Rattle.ml_image.specs.NamedSides.{left_sentence, of_child}

-- the result sort of the symbol at these sort arguments
abbrev pub made_sort : Signature → ℕ → List ℕ → Option ℕ
made_sort sig f sorts = option_sort (slice_get sig.symbols f)
  where
    option_sort : Option (List ℕ × SymInfo) → Option ℕ
    option_sort None = None
    option_sort (Some e) = sort_at sorts e.1.result

-- the sort of a pattern whose variables have these sorts
abbrev pub sort_of : Signature → List ℕ → Pattern → Option ℕ
sort_of sig sorts (variable x) = slice_get sorts x
sort_of sig sorts (domain_value s v) = Some s
sort_of sig sorts (application f ps) = made_sort sig f []
sort_of sig sorts (injection a b p) = Some b
sort_of sig sorts (call f ss ps) = made_sort sig f ss

-- the sentence that the pattern, which has this sort, is the value `true`
abbrev pub is_true : Pattern → ℕ → Sentence
is_true p s = equals (term p) (term (domain_value s (truth true)))

-- the sentence of a condition: it is true; without a condition it is `top`
abbrev pub condition_sentence : Signature → List ℕ → Option Pattern → Option Sentence
condition_sentence sig sorts None = Some top
condition_sentence sig sorts (Some p) = option_map (is_true p) (sort_of sig sorts p)

-- the name of a part, with the variable x as the variable g x
abbrev pub renamed_name : (ℕ → ℕ) → Name → Name
renamed_name g n = record n { variable = g n.variable }

-- the name with its variable numbered from k
abbrev pub name_behind : ℕ → Name → Name
name_behind k = renamed_name (λ x. k + x)

-- each parameter, numbered from k, is in its pattern, whose parts may have names
abbrev pub meets : List Name → ℕ → Patterns → Sentence
meets names k no_pattern = top
meets names k (more_patterns p ps) =
    and (is_in (term (variable k)) (left_sentence (of_child k names) p)) (meets names (k + 1) ps)
