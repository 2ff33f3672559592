use Rattle.std.proofs.Common.{◌≡◌, ◌+◌, ◌≤◌, [], ◌∷◌, ◌++◌, List, map, take, length, sym, ◌∙◌, ap}
use Rattle.std.proofs.Common.{arith}
use Rattle.std.proofs.lemmas.List.{map_push, take_all}
use Rattle.term_core.specs.Terms.{height, heights}
use Rattle.term_core.specs.Forests.{forest, children}
use Rattle.term_core.specs.Patterns.{Pattern, ground_pattern}
use Rattle.term_core.specs.Instances.{patterns}
use Rattle.term_core.specs.RulePatterns.{plain_pattern}
use Rattle.term_core.proofs.Forests.{height_of-child, take_child}
use Rattle.term_core.proofs.PatternLaws.{patterns-map}
use Rattle.term_core.proofs.rule_patterns.+copied.Goals as goal

pub copied_children-copied-requires : goal.copied_children-copied-requires
copied_children-copied-requires t c =
    let low : height c.child.result.now ≤ heights (forest (children c.args.term.now)) =
    height_of-child _ _ _ c.child.ensures in
    (omega arith, tt)

pub copied_children-loop-i-preserved : goal.copied_children-loop-i-preserved
copied_children-loop-i-preserved t c =
    let front : take (c.loop-i.i + 1) (children c.args.term.now) ≡ take c.loop-i.i
    (children c.args.term.now) ++ c.child.result.now ∷ [] =
    take_child _ _ _ c.child.ensures in
    rw (front, c.in_ok-push.ensures.items)
    (map_push plain_pattern c.loop-i.pats.items c.in_ok-copied.field-0
    ∙ (ap (λ (p : Pattern). map plain_pattern c.loop-i.pats.items ++ p ∷ []) c.in_ok-copied.ensures
    ∙ (ap (λ (ps : List Pattern). ps ++ ground_pattern c.child.result.now ∷ []) c.loop-i.invariant
    ∙
    sym (map_push ground_pattern (take c.loop-i.i
    (children c.args.term.now)) c.child.result.now))))

pub copied_children-returns : goal.copied_children-returns
copied_children-returns t c =
    let enough : length (children c.args.term.now) ≤ c.loop-i.i = omega arith in
    ap patterns (c.loop-i.invariant ∙ ap (map ground_pattern) (take_all _ _ enough))
    ∙ patterns-map _
