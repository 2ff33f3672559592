use Rattle.std.proofs.Common.{◌∙◌, ◌≤◌, length, sym, arith}
use Rattle.match_tree.proofs.TrialLaws.{trial_exact, trial_there, trial_fails, twin_there}
use Rattle.match_tree.proofs.TrialLaws.{there_not_none, twins_agree-off}
use Rattle.match_tree.proofs.TrialLaws.{twins_agree-end}
use Rattle.match_tree.proofs.trial.row_matches.Goals as goal

pub returns-then-not-row_agrees : goal.returns-then-not-row_agrees
returns-then-not-row_agrees g c =
    trial_fails c.args.subsorts.now c.args.row.now c.args.subjects.now c.requires.collapsed
    (sym c.row_agrees.ensures ∙ c.if-not-row_agrees.true)

pub twin_agrees-requires-clause-first : goal.twin_agrees-requires-clause-first
twin_agrees-requires-clause-first g c =
    let both =
    twin_there c.args.subjects.now c.args.twins.now c.loop-twin.twin-index c.twin-item.result
    (trial_there c.args.subsorts.now c.args.row.now c.args.twins.now c.args.subjects.now
    c.requires.collapsed c.requires.count c.requires.own
    (sym c.row_agrees.ensures ∙ c.if-not-row_agrees.false))
    c.twin-item.is c.loop-twin-test.true in
    there_not_none _ both.0.0 both.0.1

pub twin_agrees-requires-clause-second : goal.twin_agrees-requires-clause-second
twin_agrees-requires-clause-second g c =
    let both =
    twin_there c.args.subjects.now c.args.twins.now c.loop-twin.twin-index c.twin-item.result
    (trial_there c.args.subsorts.now c.args.row.now c.args.twins.now c.args.subjects.now
    c.requires.collapsed c.requires.count c.requires.own
    (sym c.row_agrees.ensures ∙ c.if-not-row_agrees.false))
    c.twin-item.is c.loop-twin-test.true in
    there_not_none _ both.1.0 both.1.1

pub returns-then-not-twin_agrees : goal.returns-then-not-twin_agrees
returns-then-not-twin_agrees g c =
    twins_agree-off c.args.subjects.now c.args.twins.now c.loop-twin.twin-index
    c.twin-item.result _ _ c.loop-twin-test.true c.twin-item.is c.twin_agrees.ensures
    c.if-not-twin_agrees.true c.loop-twin.invariant
    ∙ trial_exact c.args.subsorts.now c.args.row.now c.args.twins.now c.args.subjects.now
    c.requires.collapsed c.requires.count c.requires.own
    (sym c.row_agrees.ensures ∙ c.if-not-row_agrees.false)

pub returns : goal.returns
returns g c =
    let past : length c.args.twins.now ≤ c.loop-twin.twin-index = omega arith in
    twins_agree-end c.args.subjects.now c.args.twins.now c.loop-twin.twin-index _ past
    c.loop-twin.invariant
    ∙ trial_exact c.args.subsorts.now c.args.row.now c.args.twins.now c.args.subjects.now
    c.requires.collapsed c.requires.count c.requires.own
    (sym c.row_agrees.ensures ∙ c.if-not-row_agrees.false)
