-- The answers, each from the module of its part, and the growth of contexts.
mod Calls
mod Conditions
mod Constructors
mod Forms
mod Injections
mod Missed
mod UsedEquations
use Rattle.prove_term.proofs.ContextLaws.{grown_twice}
use Rattle.prove_fun.proofs.KeptLaws.{kept_grown}
use Rattle.prove_fun.proofs.evaluating.+evaluated.Goals as goal

-- ---- by the form of the pattern

pub evaluated-returns-in-Var-clause-says : goal.evaluated-returns-in-Var-clause-says
evaluated-returns-in-Var-clause-says = Forms.evaluated-returns-in-Var-clause-says

pub evaluated-returns-in-Value-clause-says : goal.evaluated-returns-in-Value-clause-says
evaluated-returns-in-Value-clause-says = Forms.evaluated-returns-in-Value-clause-says

pub evaluated-constructed-requires : goal.evaluated-constructed-requires
evaluated-constructed-requires = Forms.evaluated-constructed-requires

pub evaluated-returns-in-Ctor-clause-says : goal.evaluated-returns-in-Ctor-clause-says
evaluated-returns-in-Ctor-clause-says = Forms.evaluated-returns-in-Ctor-clause-says

pub evaluated-called-requires : goal.evaluated-called-requires
evaluated-called-requires = Forms.evaluated-called-requires

pub evaluated-returns-in_ok-called-in-Call-clause-says :
    goal.evaluated-returns-in_ok-called-in-Call-clause-says
evaluated-returns-in_ok-called-in-Call-clause-says =
    Forms.evaluated-returns-in_ok-called-in-Call-clause-says

-- ---- constructors and their arguments

pub constructed-taken_apart-requires : goal.constructed-taken_apart-requires
constructed-taken_apart-requires = Constructors.constructed-taken_apart-requires

pub constructed-all_evaluated-requires : goal.constructed-all_evaluated-requires
constructed-all_evaluated-requires = Constructors.constructed-all_evaluated-requires

pub constructed-returns-clause-says : goal.constructed-returns-clause-says
constructed-returns-clause-says = Constructors.constructed-returns-clause-says

pub all_evaluated-loop-i-init : goal.all_evaluated-loop-i-init
all_evaluated-loop-i-init = Constructors.all_evaluated-loop-i-init

pub all_evaluated-bounds-images-i : goal.all_evaluated-bounds-images-i
all_evaluated-bounds-images-i = Constructors.all_evaluated-bounds-images-i

pub all_evaluated-child-requires : goal.all_evaluated-child-requires
all_evaluated-child-requires = Constructors.all_evaluated-child-requires

pub all_evaluated-evaluated-requires : goal.all_evaluated-evaluated-requires
all_evaluated-evaluated-requires = Constructors.all_evaluated-evaluated-requires

pub all_evaluated-applied-requires-clause-function :
    goal.all_evaluated-applied-requires-clause-function
all_evaluated-applied-requires-clause-function =
    Constructors.all_evaluated-applied-requires-clause-function

pub all_evaluated-applied-requires-clause-closed : goal.all_evaluated-applied-requires-clause-closed
all_evaluated-applied-requires-clause-closed =
    Constructors.all_evaluated-applied-requires-clause-closed

pub all_evaluated-loop-i-preserved : goal.all_evaluated-loop-i-preserved
all_evaluated-loop-i-preserved = Constructors.all_evaluated-loop-i-preserved

pub all_evaluated-returns-clause-says : goal.all_evaluated-returns-clause-says
all_evaluated-returns-clause-says = Constructors.all_evaluated-returns-clause-says

-- ---- injections

pub injected-child-inner-requires : goal.injected-child-inner-requires
injected-child-inner-requires = Injections.injected-child-inner-requires

pub injected-injected_once-requires-clause-sorted :
    goal.injected-injected_once-requires-clause-sorted
injected-injected_once-requires-clause-sorted =
    Injections.injected-injected_once-requires-clause-sorted

pub injected-injected_once-requires-clause-injects :
    goal.injected-injected_once-requires-clause-injects
injected-injected_once-requires-clause-injects =
    Injections.injected-injected_once-requires-clause-injects

pub injected-injected_once-requires-clause-low : goal.injected-injected_once-requires-clause-low
injected-injected_once-requires-clause-low = Injections.injected-injected_once-requires-clause-low

pub injected-as_written-requires : goal.injected-as_written-requires
injected-as_written-requires = Injections.injected-as_written-requires

pub injected-halves-requires : goal.injected-halves-requires
injected-halves-requires = Injections.injected-halves-requires

pub injected-evaluated-requires : goal.injected-evaluated-requires
injected-evaluated-requires = Injections.injected-evaluated-requires

pub injected-applied-requires-clause-closed : goal.injected-applied-requires-clause-closed
injected-applied-requires-clause-closed = Injections.injected-applied-requires-clause-closed

pub injected-joined-requires : goal.injected-joined-requires
injected-joined-requires = Injections.injected-joined-requires

pub injected-returns-clause-says : goal.injected-returns-clause-says
injected-returns-clause-says = Injections.injected-returns-clause-says

-- ---- calls

pub called-hook_fact-requires-clause-call : goal.called-hook_fact-requires-clause-call
called-hook_fact-requires-clause-call = Calls.called-hook_fact-requires-clause-call

pub called-hook_fact-requires-clause-count : goal.called-hook_fact-requires-clause-count
called-hook_fact-requires-clause-count = Calls.called-hook_fact-requires-clause-count

pub called-at_values-requires : goal.called-at_values-requires
called-at_values-requires = Calls.called-at_values-requires

pub called-returns-in_ok-fact-in-ByHook-clause-says :
    goal.called-returns-in_ok-fact-in-ByHook-clause-says
called-returns-in_ok-fact-in-ByHook-clause-says =
    Calls.called-returns-in_ok-fact-in-ByHook-clause-says

pub called-unreachable-requires : goal.called-unreachable-requires
called-unreachable-requires = Calls.called-unreachable-requires

pub called-unreachable-requires-in-Value : goal.called-unreachable-requires-in-Value
called-unreachable-requires-in-Value = Calls.called-unreachable-requires-in-Value

pub called-unreachable-requires-in-Ctor : goal.called-unreachable-requires-in-Ctor
called-unreachable-requires-in-Ctor = Calls.called-unreachable-requires-in-Ctor

pub called-unreachable-requires-in-Inj : goal.called-unreachable-requires-in-Inj
called-unreachable-requires-in-Inj = Calls.called-unreachable-requires-in-Inj

pub called-by_equation-requires : goal.called-by_equation-requires
called-by_equation-requires = Calls.called-by_equation-requires

pub at_values-taken_apart-requires : goal.at_values-taken_apart-requires
at_values-taken_apart-requires = Calls.at_values-taken_apart-requires

pub at_values-all_evaluated-requires : goal.at_values-all_evaluated-requires
at_values-all_evaluated-requires = Calls.at_values-all_evaluated-requires

pub at_values-join-requires-clause-joinable : goal.at_values-join-requires-clause-joinable
at_values-join-requires-clause-joinable = Calls.at_values-join-requires-clause-joinable

pub at_values-join-requires-clause-closed : goal.at_values-join-requires-clause-closed
at_values-join-requires-clause-closed = Calls.at_values-join-requires-clause-closed

pub at_values-returns-in-Some-clause-says : goal.at_values-returns-in-Some-clause-says
at_values-returns-in-Some-clause-says = Calls.at_values-returns-in-Some-clause-says

pub at_values-returns-clause-says : goal.at_values-returns-clause-says
at_values-returns-clause-says = Calls.at_values-returns-clause-says

-- ---- calls whose value an equation gave

pub by_equation-equation_of-equation-requires : goal.by_equation-equation_of-equation-requires
by_equation-equation_of-equation-requires = UsedEquations.by_equation-equation_of-equation-requires

pub by_equation-used_equation-requires : goal.by_equation-used_equation-requires
by_equation-used_equation-requires = UsedEquations.by_equation-used_equation-requires

pub by_equation-at_values-requires : goal.by_equation-at_values-requires
by_equation-at_values-requires = UsedEquations.by_equation-at_values-requires

pub by_equation-evaluated-requires : goal.by_equation-evaluated-requires
by_equation-evaluated-requires = UsedEquations.by_equation-evaluated-requires

pub by_equation-followed-requires : goal.by_equation-followed-requires
by_equation-followed-requires = UsedEquations.by_equation-followed-requires

pub by_equation-returns-clause-says : goal.by_equation-returns-clause-says
by_equation-returns-clause-says = UsedEquations.by_equation-returns-clause-says

-- ---- conditions

pub value_held-image-requires : goal.value_held-image-requires
value_held-image-requires = Conditions.value_held-image-requires

pub value_held-evaluated-requires : goal.value_held-evaluated-requires
value_held-evaluated-requires = Conditions.value_held-evaluated-requires

pub value_held-returns-clause-says : goal.value_held-returns-clause-says
value_held-returns-clause-says = Conditions.value_held-returns-clause-says

pub value_held-returns-clause-stays : goal.value_held-returns-clause-stays
value_held-returns-clause-stays = Conditions.value_held-returns-clause-stays

pub condition_held-value_held-requires : goal.condition_held-value_held-requires
condition_held-value_held-requires = Conditions.condition_held-value_held-requires

pub condition_held-returns-in_ok-value_held-in-Some-Some-clause-says :
    goal.condition_held-returns-in_ok-value_held-in-Some-Some-clause-says
condition_held-returns-in_ok-value_held-in-Some-Some-clause-says =
    Conditions.condition_held-returns-in_ok-value_held-in-Some-Some-clause-says

pub condition_held-returns-in-None-default-clause-says :
    goal.condition_held-returns-in-None-default-clause-says
condition_held-returns-in-None-default-clause-says =
    Conditions.condition_held-returns-in-None-default-clause-says

pub condition_held-unreachable-requires : goal.condition_held-unreachable-requires
condition_held-unreachable-requires = Conditions.condition_held-unreachable-requires

-- ---- equations that were missed

pub missed_value-unreachable-requires : goal.missed_value-unreachable-requires
missed_value-unreachable-requires = Missed.missed_value-unreachable-requires

pub missed_value-value_held-requires : goal.missed_value-value_held-requires
missed_value-value_held-requires = Missed.missed_value-value_held-requires

pub missed_value-returns-in_ok-value_held-in-CondFalse-clause-value :
    goal.missed_value-returns-in_ok-value_held-in-CondFalse-clause-value
missed_value-returns-in_ok-value_held-in-CondFalse-clause-value =
    Missed.missed_value-returns-in_ok-value_held-in-CondFalse-clause-value

pub missed_values-missed_value-requires : goal.missed_values-missed_value-requires
missed_values-missed_value-requires = Missed.missed_values-missed_value-requires

pub missed_values-loop-i-preserved : goal.missed_values-loop-i-preserved
missed_values-loop-i-preserved = Missed.missed_values-loop-i-preserved

pub used_equation-missed_values-requires : goal.used_equation-missed_values-requires
used_equation-missed_values-requires = Missed.used_equation-missed_values-requires

pub used_equation-equation_fact-requires-clause-condition :
    goal.used_equation-equation_fact-requires-clause-condition
used_equation-equation_fact-requires-clause-condition =
    Missed.used_equation-equation_fact-requires-clause-condition

-- ---- growing contexts

pub used_equation-returns-in_err-values-clause-grown :
    goal.used_equation-returns-in_err-values-clause-grown
used_equation-returns-in_err-values-clause-grown t c =
    grown_twice c.args.cx.now c.condition_held.new.cx c.missed_values.new.cx
    c.in_ok-held.ensures.grown c.missed_values.ensures.grown

pub used_equation-returns-in_err-terms-clause-grown :
    goal.used_equation-returns-in_err-terms-clause-grown
used_equation-returns-in_err-terms-clause-grown t c =
    grown_twice c.args.cx.now c.condition_held.new.cx c.missed_values.new.cx
    c.in_ok-held.ensures.grown c.in_ok-values.ensures.grown

pub used_equation-returns-clause-grown : goal.used_equation-returns-clause-grown
used_equation-returns-clause-grown t c =
    grown_twice c.args.cx.now c.missed_values.new.cx c.equation_fact.new.cx
    (grown_twice c.args.cx.now c.condition_held.new.cx c.missed_values.new.cx
    c.in_ok-held.ensures.grown c.in_ok-values.ensures.grown) c.equation_fact.ensures.grown

pub all_evaluated-returns-in_err-made-clause-grown :
    goal.all_evaluated-returns-in_err-made-clause-grown
all_evaluated-returns-in_err-made-clause-grown t c =
    grown_twice c.args.cx.now c.evaluated.new.cx c.applied.new.cx
    (grown_twice c.args.cx.now c.loop-i.cx c.evaluated.new.cx c.loop-i.invariant.grown
    c.in_ok-one.ensures.grown) c.applied.ensures.grown

pub all_evaluated-returns-in_err-function-2-clause-grown :
    goal.all_evaluated-returns-in_err-function-2-clause-grown
all_evaluated-returns-in_err-function-2-clause-grown t c =
    grown_twice c.args.cx.now c.evaluated.new.cx c.applied.new.cx
    (grown_twice c.args.cx.now c.loop-i.cx c.evaluated.new.cx c.loop-i.invariant.grown
    c.in_ok-one.ensures.grown) c.in_ok-made.ensures.grown

pub injected-returns-clause-grown : goal.injected-returns-clause-grown
injected-returns-clause-grown t c =
    grown_twice c.args.cx.now c.evaluated.new.cx c.joined.new.cx
    (grown_twice c.args.cx.now c.injected_once.new.cx c.evaluated.new.cx c.in_ok-once.ensures.grown
    c.in_ok-one.ensures.grown)
    (grown_twice c.evaluated.new.cx c.applied.new.cx c.joined.new.cx c.in_ok-beneath.ensures.grown
    c.joined.ensures.grown)

pub injected-returns-in_err-one-clause-grown : goal.injected-returns-in_err-one-clause-grown
injected-returns-in_err-one-clause-grown t c =
    grown_twice c.args.cx.now c.injected_once.new.cx c.evaluated.new.cx c.in_ok-once.ensures.grown
    c.evaluated.ensures.grown

pub injected-returns-in_err-beneath-clause-grown : goal.injected-returns-in_err-beneath-clause-grown
injected-returns-in_err-beneath-clause-grown t c =
    grown_twice c.args.cx.now c.evaluated.new.cx c.applied.new.cx
    (grown_twice c.args.cx.now c.injected_once.new.cx c.evaluated.new.cx c.in_ok-once.ensures.grown
    c.in_ok-one.ensures.grown) c.applied.ensures.grown

pub called-returns-in_ok-fact-in-ByHook-clause-grown :
    goal.called-returns-in_ok-fact-in-ByHook-clause-grown
called-returns-in_ok-fact-in-ByHook-clause-grown t c =
    grown_twice c.args.cx.now c.hook_fact.new.cx c.at_values.new.cx
    c.in_ok-fact-in-ByHook.ensures.grown c.at_values.ensures.grown

pub by_equation-returns-in_err-first-clause-grown :
    goal.by_equation-returns-in_err-first-clause-grown
by_equation-returns-in_err-first-clause-grown t c =
    grown_twice c.args.cx.now c.used_equation.new.cx c.at_values.new.cx c.in_ok-fact.ensures.grown
    c.at_values.ensures.grown

pub by_equation-returns-in_err-right-clause-grown :
    goal.by_equation-returns-in_err-right-clause-grown
by_equation-returns-in_err-right-clause-grown t c =
    grown_twice c.args.cx.now c.used_equation.new.cx c.evaluated.new.cx c.in_ok-fact.ensures.grown
    (grown_twice c.used_equation.new.cx c.at_values.new.cx c.evaluated.new.cx
    c.in_ok-first.ensures.grown c.evaluated.ensures.grown)

pub by_equation-returns-clause-grown : goal.by_equation-returns-clause-grown
by_equation-returns-clause-grown t c =
    grown_twice c.args.cx.now c.evaluated.new.cx c.followed.new.cx
    (grown_twice c.args.cx.now c.used_equation.new.cx c.evaluated.new.cx c.in_ok-fact.ensures.grown
    (grown_twice c.used_equation.new.cx c.at_values.new.cx c.evaluated.new.cx
    c.in_ok-first.ensures.grown c.in_ok-right.ensures.grown))
    c.followed.ensures.grown

pub value_held-returns-in_err-found-clause-grown : goal.value_held-returns-in_err-found-clause-grown
value_held-returns-in_err-found-clause-grown t c =
    grown_twice c.args.cx.now c.image.new.self c.evaluated.new.cx c.in_ok-image.ensures.grown
    c.evaluated.ensures.grown

pub value_held-returns-clause-grown : goal.value_held-returns-clause-grown
value_held-returns-clause-grown t c =
    grown_twice c.args.cx.now c.image.new.self c.evaluated.new.cx c.in_ok-image.ensures.grown
    c.in_ok-found.ensures.grown

pub at_values-returns-in-Some-clause-grown : goal.at_values-returns-in-Some-clause-grown
at_values-returns-in-Some-clause-grown t c =
    grown_twice c.args.cx.now c.all_evaluated.new.cx c.join.new.cx c.in_ok-values.ensures.grown
    c.join.ensures.grown

-- ---- the kept lemmas in grown contexts

pub all_evaluated-returns-in_err-made-clause-kept :
    goal.all_evaluated-returns-in_err-made-clause-kept
all_evaluated-returns-in_err-made-clause-kept t c =
    kept_grown c.evaluated.new.cx c.applied.new.cx c.evaluated.new.kept c.applied.ensures.grown
    c.in_ok-one.ensures.kept

pub all_evaluated-returns-in_err-function-2-clause-kept :
    goal.all_evaluated-returns-in_err-function-2-clause-kept
all_evaluated-returns-in_err-function-2-clause-kept t c =
    kept_grown c.evaluated.new.cx c.applied.new.cx c.evaluated.new.kept c.in_ok-made.ensures.grown
    c.in_ok-one.ensures.kept

pub injected-returns-in_err-beneath-clause-kept : goal.injected-returns-in_err-beneath-clause-kept
injected-returns-in_err-beneath-clause-kept t c =
    kept_grown c.evaluated.new.cx c.applied.new.cx c.evaluated.new.kept c.applied.ensures.grown
    c.in_ok-one.ensures.kept

pub injected-returns-clause-kept : goal.injected-returns-clause-kept
injected-returns-clause-kept t c =
    kept_grown c.evaluated.new.cx c.joined.new.cx c.evaluated.new.kept
    (grown_twice c.evaluated.new.cx c.applied.new.cx c.joined.new.cx c.in_ok-beneath.ensures.grown
    c.joined.ensures.grown) c.in_ok-one.ensures.kept

pub at_values-returns-in-Some-clause-kept : goal.at_values-returns-in-Some-clause-kept
at_values-returns-in-Some-clause-kept t c =
    kept_grown c.all_evaluated.new.cx c.join.new.cx c.all_evaluated.new.kept c.join.ensures.grown
    c.in_ok-values.ensures.kept

pub by_equation-returns-clause-kept : goal.by_equation-returns-clause-kept
by_equation-returns-clause-kept t c =
    kept_grown c.evaluated.new.cx c.followed.new.cx c.evaluated.new.kept c.followed.ensures.grown
    c.in_ok-right.ensures.kept
