use Rattle.std.proofs.Common.{rules, ◌≡◌, ◌++◌, ◌∷◌, [], List, Some, None, sym, ◌∙◌, ap}
use Rattle.std.specs.Prelude.{option_map}
use Rattle.term_core.specs.RulePatterns.{plain_pattern, sort_numbers as numbers_of}
use Rattle.term_core.specs.PatternLists.{plain_patterns}
use Rattle.term_core.specs.declared.rule_patterns.RulePat.{RulePat}
use Rattle.kore_check.specs.PatternMeanings.{applied_pattern}
use Rattle.kore_check.specs.Building.{pair_pattern}
use Rattle.kore_check.proofs.BuildLaws.{right_goes_on, right_fails}
use Rattle.kore_check.proofs.build.folded_right.Goals as goal

pub returns-in_default-2 : goal.returns-in_default-2
returns-in_default-2 c =
    let parts : c.loop-earlier.rest.items ≡ c.pop-in-loop-earlier.new.self.items ++
    c.in-Some-pop.earlier ∷ [] =
    search rules in
    let two : c.in_ok-vec.field-0.items ≡ c.in-Some-pop.earlier ∷ c.loop-earlier.made ∷ [] =
    search rules in
    let none : pair_pattern c.args.head.now.kind c.args.head.now.sym.0
    (numbers_of c.args.head.now.sorts.items) (plain_pattern c.in-Some-pop.earlier)
    (plain_pattern c.loop-earlier.made) ≡ None =
    sym (ap (λ (ps : List RulePat). applied_pattern c.args.head.now.kind c.args.head.now.sym.0
    (numbers_of c.args.head.now.sorts.items) (plain_patterns ps)) two)
    ∙ sym c.in_ok-pair.ensures ∙ ap (option_map plain_pattern) c.in_default-2.is in
    right_fails c.args.head.now.kind c.args.head.now.sym.0 (numbers_of c.args.head.now.sorts.items)
    c.loop-earlier.rest.items c.pop-in-loop-earlier.new.self.items c.in-Some-pop.earlier
    c.loop-earlier.made _ parts none c.loop-earlier.invariant

pub loop-earlier-preserved : goal.loop-earlier-preserved
loop-earlier-preserved c =
    let parts : c.loop-earlier.rest.items ≡ c.pop-in-loop-earlier.new.self.items ++
    c.in-Some-pop.earlier ∷ [] =
    search rules in
    let two : c.in_ok-vec.field-0.items ≡ c.in-Some-pop.earlier ∷ c.loop-earlier.made ∷ [] =
    search rules in
    let made : pair_pattern c.args.head.now.kind c.args.head.now.sym.0
    (numbers_of c.args.head.now.sorts.items) (plain_pattern c.in-Some-pop.earlier)
    (plain_pattern c.loop-earlier.made) ≡ Some (plain_pattern c.in-Some-2.pair) =
    sym (ap (λ (ps : List RulePat). applied_pattern c.args.head.now.kind c.args.head.now.sym.0
    (numbers_of c.args.head.now.sorts.items) (plain_patterns ps)) two)
    ∙ sym c.in_ok-pair.ensures ∙ ap (option_map plain_pattern) c.in-Some-2.is in
    right_goes_on c.args.head.now.kind c.args.head.now.sym.0
    (numbers_of c.args.head.now.sorts.items) c.loop-earlier.rest.items
    c.pop-in-loop-earlier.new.self.items c.in-Some-pop.earlier c.loop-earlier.made
    c.in-Some-2.pair _ parts made c.loop-earlier.invariant
