use Rattle.std.proofs.Common.{rules, ◌≡◌, ◌++◌, ◌∷◌, [], List, map, sym, ◌∙◌, ap}
use Rattle.term_core.specs.RulePatterns.{plain_pattern, sort_numbers as numbers_of}
use Rattle.term_core.specs.declared.rule_patterns.RulePat.{RulePat}
use Rattle.kore_check.specs.Building.{left_pattern}
use Rattle.kore_check.proofs.BuildLaws.{start_left}
use Rattle.kore_check.proofs.build.folded_left.Goals as goal

pub loop-next-init : goal.loop-next-init
loop-next-init c =
    let parts : c.reverse.new.self.items ≡ c.pop.new.self.items ++ c.in-Some.made ∷ [] =
    search rules in
    ap (λ (ps : List RulePat). left_pattern c.args.head.now.kind c.args.head.now.sym.0
    (numbers_of c.args.head.now.sorts.items) (map plain_pattern ps))
    (sym (start_left c.args.args.items c.pop.new.self.items c.in-Some.made (sym
    c.reverse.ensures.items ∙ parts)))
