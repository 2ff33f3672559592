use Rattle.std.proofs.Common.{rules, ◌≡◌, ◌++◌, ◌∷◌, [], List, length, map, Some, sym, ◌∙◌, ap}
use Rattle.std.proofs.Common.{arith}
use Rattle.std.proofs.lemmas.List.{length-map}
use Rattle.term_core.specs.RulePatterns.{plain_pattern, sort_numbers as numbers_of}
use Rattle.term_core.specs.Patterns.{Pattern, injection}
use Rattle.term_core.specs.Instances.{patterns}
use Rattle.term_core.specs.declared.rule_patterns.RulePat.{RulePat}
use Rattle.term_core.proofs.PlainPatterns.{plain-Inj}
use Rattle.kore_check.specs.PatternMeanings.{injected_only}
use Rattle.kore_check.proofs.BuildLaws.{injected-other, injected-is, only_item}
use Rattle.kore_check.proofs.build.injected.Goals as goal
use Rattle.kore_check.proofs.build.injected.Goals.{then-len-ne2-via-then-len-ne2}
use Rattle.kore_check.proofs.build.injected.Goals.{then-len-ne2-via-else-len-ne2+then-len-ne1}

pub returns-then-len-ne2 : goal.returns-then-len-ne2
returns-then-len-ne2 c =
    let sorts : length (numbers_of c.args.head.now.sorts.items) ≡ length
    c.args.head.now.sorts.items =
    length-map _ _ in
    let pats : length (map plain_pattern c.args.args.items) ≡ length c.args.args.items =
    length-map _ _ in
    sym (injected-other (numbers_of
    c.args.head.now.sorts.items) (map plain_pattern c.args.args.items) (λ two one. elim
    c.then-len-ne2.branch [
      | then-len-ne2-via-then-len-ne2 w ↦ w.if-len-ne2.true
          (omega (arith, c.len.ensures, two, sorts))
      | then-len-ne2-via-else-len-ne2+then-len-ne1 w ↦ w.if-len-ne1.true
          (omega (arith, w.len-else-len-ne2.ensures, one, pats))
    ]))

pub returns : goal.returns
returns c =
    let parts : c.args.args.items ≡ c.pop.new.self.items ++ c.in-Some.child ∷ [] = search rules in
    let only : c.args.args.items ≡ c.in-Some.child ∷ [] =
    only_item c.args.args.items c.pop.new.self.items c.in-Some.child parts
    (omega (arith, c.len-else-len-ne2.ensures, c.if-len-ne1.false)) in
    let child : c.in_ok-child.child.value ≡ c.in-Some.child = search rules in
    let P : RulePat → Pattern =
    λ p. injection c.index.result.now.0 c.index-2.result.now.0 (plain_pattern p) in
    ap (λ (p : Pattern). Some p)
    (plain-Inj c.index.result.now c.index-2.result.now c.in_ok-child.child ∙ ap P child)
    ∙
    sym (ap (λ (ps : List RulePat). injected_only (numbers_of c.args.head.now.sorts.items)
    (patterns (map plain_pattern ps))) only
    ∙ injected-is c.args.head.now.sorts.items c.index.result.now c.index-2.result.now
    (plain_pattern c.in-Some.child) (omega (arith, c.len.ensures, c.if-len-ne2.false))
    c.index.ensures c.index-2.ensures)
