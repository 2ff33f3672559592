-- The theory that represents a program of the code.
use Rattle.std.specs.Prelude.{ℕ, List, Vec, map, option_map}
use Rattle.std.specs.Global.{Global}
use Rattle.term_core.specs.RulePatterns.{plain_pattern}
use Rattle.rule_core.specs.Rules.{RewriteRule}
use Rattle.term_core.specs.PatternLists.{plain_patterns}
use Rattle.rule_core.specs.Theories.{RewriteTheory}
use Rattle.rule_core.specs.NamedParts.{Name}
use Rattle.rule_core.specs.declared.rules.Named.{Named}
use Rattle.rule_core.specs.declared.rules.Guard.{Guard}
use Rattle.rule_core.specs.declared.rules.Rule.{Rule}
use Rattle.rule_core.specs.declared.rules.VarInfo.{VarInfo}
use Rattle.rule_core.specs.declared.rules.Program.{Program}
use Rattle.rule_core.specs.declared.rules.Equation.{Equation}
use Rattle.rule_core.specs.Rules as plain

-- the sorts of a rule's variables, by number
abbrev pub sorts_of : List VarInfo → List ℕ
sorts_of vars = map (λ (v : VarInfo). v.sort.0) vars

-- a name of the code
abbrev pub name_of : Named → Name
name_of n = record { variable = n.var; place = n.at.items; first = n.first }

abbrev pub names_of : List Named → List Name
names_of named = map name_of named

abbrev pub rewrite_rule : Rule → RewriteRule
rewrite_rule r = record {
  left = plain_pattern r.left;
  names = names_of r.named.items;
  condition = option_map plain_pattern r.cond;
  right = plain_pattern r.right;
  variables = sorts_of r.vars.items;
  priority = r.priority;
  place = r.at;
}

abbrev pub rewrite_rules : List Rule → List RewriteRule
rewrite_rules rules = map rewrite_rule rules

-- a guard of the code
abbrev pub guard_of : Guard → plain.Guard
guard_of g = record { equation = g.equation; order = g.order.items }

abbrev pub function_equation : Equation → plain.Equation
function_equation e = record {
  parameters = e.params;
  arguments = plain_patterns e.args.items;
  names = names_of e.named.items;
  last_resort = option_map (λ (gs : Vec Guard Global). map guard_of gs.items) e.owise;
  condition = option_map plain_pattern e.cond;
  right = plain_pattern e.right;
  variables = sorts_of e.vars.items;
  priority = e.priority;
  place = e.at;
}

-- the equations of each symbol, indexed by its number
abbrev pub function_equations : List (Vec Equation Global) → List (List plain.Equation)
function_equations lists = map (λ (es : Vec Equation Global). map function_equation es.items) lists

abbrev pub theory_of : Program → RewriteTheory
theory_of p = record {
  sig = p.sig;
  rules = rewrite_rules p.rules.items;
  equations = function_equations p.equations.items;
}
