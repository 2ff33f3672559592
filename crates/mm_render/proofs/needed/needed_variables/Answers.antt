use Rattle.std.proofs.Common.{List, ◌≡◌, [], ap, ◌∙◌, sym, rules, append-nil}
use Rattle.std.specs.Borrow.{Bor}
use Rattle.ml_kernel.specs.Theorems.{Derivation}
use Rattle.mm_claims.specs.AddedVariables.{added}
use Rattle.mm_render.specs.ListedVariables.{listed}
use Rattle.mm_render.specs.NeededView.{stack_needs}
use Rattle.mm_claims.specs.OpenVariables.{variables_of}
use Rattle.mm_render.specs.PlaceTable.{found_at}
use Rattle.mm_render.specs.VariablesView.{plain_variables}
use Rattle.mm_render.proofs.NeededLaws.{step_added, step_smaller, added_numbered}
use Rattle.mm_render.proofs.needed.needed_variables.Goals as goal

pub loop-next-smaller : goal.loop-next-smaller
loop-next-smaller c =
    step_smaller (found_at c.args.at.now) c.in-Some.next c.loop-next.stack.items
    c.pop.new.self.items c.take_step.new.stack.items (listed c.loop-next.list)
    (listed c.take_step.new.list) c.in-Some.ensures.items c.in_ok-take_step.ensures

pub loop-next-preserved : goal.loop-next-preserved
loop-next-preserved c =
    step_added (found_at c.args.at.now) c.in-Some.next c.loop-next.stack.items c.pop.new.self.items
    c.take_step.new.stack.items (listed c.loop-next.list) (listed c.take_step.new.list) _
    c.in-Some.ensures.items c.in_ok-take_step.ensures c.loop-next.invariant

pub returns-clause-numbered : goal.returns-clause-numbered
returns-clause-numbered c =
    let none : c.loop-next.stack.items ≡ [] = search rules in
    let all : listed c.loop-next.list ≡ added (plain_variables c.args.variables.now)
    (variables_of (found_at c.args.at.now) c.args.derivation.now) =
    sym (append-nil (listed c.loop-next.list))
    ∙ ap (λ (ds : List (Bor Derivation)).
    added (listed c.loop-next.list) (stack_needs (found_at c.args.at.now) ds))
    (sym none) ∙ c.loop-next.invariant in
    added_numbered (plain_variables c.args.variables.now)
    (variables_of (found_at c.args.at.now) c.args.derivation.now) (listed c.loop-next.list) all
    c.loop-next.list.numbered
