-- The plain pattern of each variant.
use Rattle.std.proofs.Common.{◌≡◌, ℕ, sym, ◌∙◌, ap}
use Rattle.std.specs.Global.{Vec, Box}
use Rattle.term_core.specs.Patterns.{Pattern, variable, domain_value, application, injection, call}
use Rattle.term_core.specs.Values.{value_of}
use Rattle.term_core.specs.RulePatterns.{sort_numbers, plain_layer, plain_pattern}
use Rattle.term_core.specs.PatternLists.{plain_patterns}
use Rattle.term_core.specs.declared.ids.SortId.{SortId}
use Rattle.term_core.specs.declared.ids.SymId.{SymId}
use Rattle.term_core.specs.declared.values.Value.{Value}
use Rattle.term_core.specs.declared.rule_patterns.RulePat.{RulePat}
use Rattle.term_core.specs.declared.rule_patterns.RulePat.TheOpen as layer
use Rattle.term_core.specs.declared.rule_patterns.RulePat.TheFolds.{fold-roll-RulePat}
use Rattle.term_core.specs.declared.rule_patterns.RulePat.TheVariants.{rolls-Var, rolls-Value}
use Rattle.term_core.specs.declared.rule_patterns.RulePat.TheVariants.{rolls-Ctor, rolls-Inj}
use Rattle.term_core.specs.declared.rule_patterns.RulePat.TheVariants.{rolls-Call}
use Rattle.term_core.specs.declared.rule_patterns.RulePat.TheVariants as form

pub plain-Var : (x : ℕ) → plain_pattern (form.Var x) ≡ variable x
plain-Var x =
    ap plain_pattern (sym (rolls-Var x)) ∙ fold-roll-RulePat Pattern plain_layer (layer.Var x)

pub plain-Value : (s : SortId) (v : Value)
    → plain_pattern (form.Value s v) ≡ domain_value s.0 (value_of v)
plain-Value s v =
    ap plain_pattern (sym (rolls-Value s v))
    ∙ fold-roll-RulePat Pattern plain_layer (layer.Value s v)

pub plain-Ctor : (f : SymId) (ps : Vec RulePat)
    → plain_pattern (form.Ctor f ps) ≡ application f.0 (plain_patterns ps.items)
plain-Ctor f ps =
    ap plain_pattern (sym (rolls-Ctor f ps))
    ∙ fold-roll-RulePat Pattern plain_layer (layer.Ctor f ps)

pub plain-Inj : (a b : SortId) (p : Box RulePat)
    → plain_pattern (form.Inj a b p) ≡ injection a.0 b.0 (plain_pattern p.value)
plain-Inj a b p =
    ap plain_pattern (sym (rolls-Inj a b p))
    ∙ fold-roll-RulePat Pattern plain_layer (layer.Inj a b p)

pub plain-Call : (f : SymId) (ss : Vec SortId) (ps : Vec RulePat)
    → plain_pattern (form.Call f ss ps) ≡ call f.0 (sort_numbers ss.items) (plain_patterns ps.items)
plain-Call f ss ps =
    ap plain_pattern (sym (rolls-Call f ss ps))
    ∙ fold-roll-RulePat Pattern plain_layer (layer.Call f ss ps)
