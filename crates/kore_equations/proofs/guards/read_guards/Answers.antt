use Rattle.std.proofs.Common.{◌+◌, List, map, drop, ◌∷◌, [], subst, sym, ◌∙◌, ap}
use Rattle.std.proofs.lemmas.List.{drop_all, map-append}
use Rattle.rule_core.specs.ProgramView.{function_equation, guard_of}
use Rattle.rule_core.specs.Rules.{Guard}
use Rattle.rule_core.specs.declared.rules.Guard.{Guard as MadeGuard}
use Rattle.kore_ast.specs.Plain.{plain_sort}
use Rattle.kore_check.proofs.Items.{drop-item}
use Rattle.kore_shapes.specs.LastResorts.{GuardParts}
use Rattle.kore_shapes.specs.ResortViews.{plain_guard}
use Rattle.kore_equations.specs.GuardReadings.{IsGuardRead}
use Rattle.kore_equations.proofs.ReadingLoops.{AreReadBefore, one_read, none_repeats}
use Rattle.kore_equations.proofs.ReadingLoops.{all_read_guards}
use Rattle.kore_equations.proofs.guards.read_guards.Goals as goal

pub returns-in_default : goal.returns-in_default
returns-in_default c =
    let sig = c.args.sig.now in
    let info = c.args.symbol.now in
    let over = plain_sort c.args.over.now in
    let es = map function_equation c.args.others.now in
    let all = map plain_guard c.args.guards.now in
    let rest = map plain_guard (drop (c.loop-guard.guard-index + 1) c.args.guards.now) in
    none_repeats sig info over es all rest (plain_guard c.guard-item.result)
    (map guard_of c.loop-guard.read.items)
    (subst (IsGuardRead sig info over es (plain_guard c.guard-item.result)) c.in_default.is
    c.in_ok-made.ensures)
    (subst (λ (gs : List GuardParts).
    AreReadBefore sig info over es all gs (map guard_of c.loop-guard.read.items))
    (ap (map plain_guard) (drop-item c.args.guards.now c.loop-guard.guard-index
    c.guard-item.result c.loop-guard-test.true c.guard-item.is)) c.loop-guard.invariant)

pub loop-guard-preserved : goal.loop-guard-preserved
loop-guard-preserved c =
    let sig = c.args.sig.now in
    let info = c.args.symbol.now in
    let over = plain_sort c.args.over.now in
    let es = map function_equation c.args.others.now in
    let all = map plain_guard c.args.guards.now in
    let rest = map plain_guard (drop (c.loop-guard.guard-index + 1) c.args.guards.now) in
    subst (AreReadBefore sig info over es all rest)
    (sym (map-append guard_of c.loop-guard.read.items (c.in-Some.made ∷ []))
    ∙ sym (ap (map guard_of) c.in_ok-push.ensures.items))
    (one_read sig info over es all rest (plain_guard c.guard-item.result)
    (map guard_of c.loop-guard.read.items) (guard_of c.in-Some.made)
    (subst (IsGuardRead sig info over es (plain_guard c.guard-item.result)) c.in-Some.is
    c.in_ok-made.ensures)
    (subst (λ (gs : List GuardParts).
    AreReadBefore sig info over es all gs (map guard_of c.loop-guard.read.items))
    (ap (map plain_guard) (drop-item c.args.guards.now c.loop-guard.guard-index
    c.guard-item.result c.loop-guard-test.true c.guard-item.is)) c.loop-guard.invariant))

pub returns : goal.returns
returns c =
    let all = map plain_guard c.args.guards.now in
    all_read_guards c.args.sig.now c.args.symbol.now (plain_sort c.args.over.now)
    (map function_equation c.args.others.now) all (map guard_of c.loop-guard.read.items)
    (subst (λ (gs : List GuardParts). AreReadBefore c.args.sig.now c.args.symbol.now
    (plain_sort c.args.over.now) (map function_equation c.args.others.now) all gs
    (map guard_of c.loop-guard.read.items))
    (ap (map plain_guard) (drop_all c.loop-guard.guard-index c.args.guards.now
    c.loop-guard-test.false)) c.loop-guard.invariant)
