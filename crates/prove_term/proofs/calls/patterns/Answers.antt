use Rattle.std.proofs.Common.{rules, ◌≡◌, ◌+◌, ◌≤◌, ◌<◌, [], ◌∷◌, ◌++◌, List, map, take, length}
use Rattle.std.proofs.Common.{sym, ◌∙◌, ap, arith}
use Rattle.std.proofs.lemmas.List.{map_push, take_all, take_more}
use Rattle.term_core.specs.Terms.{Tree}
use Rattle.term_core.specs.Patterns.{Pattern, ground_pattern}
use Rattle.term_core.specs.Instances.{patterns}
use Rattle.term_core.specs.RulePatterns.{plain_pattern}
use Rattle.term_core.specs.declared.rule_patterns.RulePat.{RulePat}
use Rattle.term_core.proofs.PatternLaws.{patterns-map}
use Rattle.prove_term.proofs.calls.patterns.Goals as goal

pub loop-term-preserved : goal.loop-term-preserved
loop-term-preserved c =
    let i = c.loop-term.term-index in
    let p : RulePat = c.in_ok-pattern_of.field-0 in
    let u : Tree = c.term-item.result in
    let items : c.push.new.self.items ≡ c.loop-term.made.items ++ p ∷ [] = search rules in
    let low : c.loop-term.term-index < length c.args.terms.now =
    omega (arith, c.loop-term-test.true, c.loop-term.auto.term-index-end) in
    let front : take (c.loop-term.term-index + 1) c.args.terms.now ≡ take c.loop-term.term-index
    c.args.terms.now ++ u ∷ [] =
    take_more c.args.terms.now c.loop-term.term-index u low
    ∙ ap (λ (v : Tree). take c.loop-term.term-index c.args.terms.now ++ v ∷ [])
    (sym c.term-item.is) in
    ap (map plain_pattern) items ∙ map_push plain_pattern c.loop-term.made.items p
    ∙ ap (λ (q : Pattern). map plain_pattern c.loop-term.made.items ++ q ∷ [])
    c.in_ok-pattern_of.ensures.tree
    ∙ ap (λ (qs : List Pattern). qs ++ ground_pattern u ∷ []) c.loop-term.invariant
    ∙ sym (map_push ground_pattern (take c.loop-term.term-index c.args.terms.now) u)
    ∙ ap (map ground_pattern) (sym front)

pub returns : goal.returns
returns c =
    let enough : length c.args.terms.now ≤ c.loop-term.term-index = omega arith in
    ap patterns (c.loop-term.invariant
    ∙ ap (map ground_pattern) (take_all c.loop-term.term-index c.args.terms.now enough))
    ∙ patterns-map c.args.terms.now
