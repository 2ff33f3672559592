-- The plain pattern that represents a `RulePat` of the code.
use Rattle.std.specs.Prelude.{ℕ, List, map}
use Rattle.term_core.specs.Patterns.{Pattern, variable, domain_value, application, injection, call}
use Rattle.term_core.specs.Instances.{patterns}
use Rattle.term_core.specs.Values.{value_of}
use Rattle.term_core.specs.declared.ids.SortId.{SortId}
use Rattle.term_core.specs.declared.rule_patterns.RulePat.{RulePat}
use Rattle.term_core.specs.declared.rule_patterns.RulePat.TheOpen.{RulePat-F}
use Rattle.term_core.specs.declared.rule_patterns.RulePat.TheOpen as layer
use Rattle.term_core.specs.declared.rule_patterns.RulePat.TheFolds.{fold-RulePat}

-- the numbers of sorts
abbrev pub sort_numbers : List SortId → List ℕ
sort_numbers ss = map (λ (s : SortId). s.0) ss

-- one layer, whose parts are already plain patterns
abbrev pub plain_layer : RulePat-F Pattern → Pattern
plain_layer (layer.Var x) = variable x
plain_layer (layer.Value s v) = domain_value s.0 (value_of v)
plain_layer (layer.Ctor f ps) = application f.0 (patterns ps.items)
plain_layer (layer.Inj a b p) = injection a.0 b.0 p.value
plain_layer (layer.Call f ss ps) = call f.0 (sort_numbers ss.items) (patterns ps.items)

abbrev pub plain_pattern : RulePat → Pattern
plain_pattern = fold-RulePat Pattern plain_layer
