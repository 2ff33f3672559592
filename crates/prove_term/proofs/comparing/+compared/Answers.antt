-- Each answer, from the module that has its proof.
use Rattle.prove_term.proofs.comparing.+compared.Answers.Constructors as constructors
use Rattle.prove_term.proofs.comparing.+compared.Answers.Arguments as arguments
use Rattle.prove_term.proofs.comparing.+compared.Answers.Injections as injections
use Rattle.prove_term.proofs.comparing.+compared.Answers.JoinedInjections as joined
use Rattle.prove_term.proofs.comparing.+compared.Answers.InjectedPatterns as injected
use Rattle.prove_term.proofs.ContextLaws.{grown_twice}
use Rattle.prove_term.proofs.comparing.+compared.Goals as goal
mod Constructors
mod Arguments
mod Injections
mod JoinedInjections
mod InjectedPatterns

pub compared-constructor_compared-requires : goal.compared-constructor_compared-requires
compared-constructor_compared-requires = constructors.compared-constructor_compared-requires

pub compared-returns-in-Ctor-clause-says : goal.compared-returns-in-Ctor-clause-says
compared-returns-in-Ctor-clause-says = constructors.compared-returns-in-Ctor-clause-says

pub constructor_compared-taken_apart-requires : goal.constructor_compared-taken_apart-requires
constructor_compared-taken_apart-requires = constructors.constructor_compared-taken_apart-requires

pub constructor_compared-all_compared-requires : goal.constructor_compared-all_compared-requires
constructor_compared-all_compared-requires = constructors.constructor_compared-all_compared-requires

pub constructor_compared-returns-clause-says : goal.constructor_compared-returns-clause-says
constructor_compared-returns-clause-says = constructors.constructor_compared-returns-clause-says

pub all_compared-loop-i-init : goal.all_compared-loop-i-init
all_compared-loop-i-init = arguments.all_compared-loop-i-init

pub all_compared-bounds-images-i : goal.all_compared-bounds-images-i
all_compared-bounds-images-i = arguments.all_compared-bounds-images-i

pub all_compared-bounds-wholes-i : goal.all_compared-bounds-wholes-i
all_compared-bounds-wholes-i = arguments.all_compared-bounds-wholes-i

pub all_compared-compared-requires : goal.all_compared-compared-requires
all_compared-compared-requires = arguments.all_compared-compared-requires

pub all_compared-applied-requires-clause-function :
    goal.all_compared-applied-requires-clause-function
all_compared-applied-requires-clause-function =
    arguments.all_compared-applied-requires-clause-function

pub all_compared-applied-requires-clause-argument :
    goal.all_compared-applied-requires-clause-argument
all_compared-applied-requires-clause-argument =
    arguments.all_compared-applied-requires-clause-argument

pub all_compared-applied-requires-clause-closed : goal.all_compared-applied-requires-clause-closed
all_compared-applied-requires-clause-closed = arguments.all_compared-applied-requires-clause-closed

pub all_compared-loop-i-preserved : goal.all_compared-loop-i-preserved
all_compared-loop-i-preserved = arguments.all_compared-loop-i-preserved

pub all_compared-returns-clause-says : goal.all_compared-returns-clause-says
all_compared-returns-clause-says = arguments.all_compared-returns-clause-says

pub all_compared-returns-in_err-one-clause-grown : goal.all_compared-returns-in_err-one-clause-grown
all_compared-returns-in_err-one-clause-grown =
    arguments.all_compared-returns-in_err-one-clause-grown

pub all_compared-returns-in_err-made-clause-grown :
    goal.all_compared-returns-in_err-made-clause-grown
all_compared-returns-in_err-made-clause-grown =
    arguments.all_compared-returns-in_err-made-clause-grown

pub all_compared-returns-in_err-function-2-clause-grown :
    goal.all_compared-returns-in_err-function-2-clause-grown
all_compared-returns-in_err-function-2-clause-grown =
    arguments.all_compared-returns-in_err-function-2-clause-grown

pub compared-injection_compared-requires : goal.compared-injection_compared-requires
compared-injection_compared-requires = injections.compared-injection_compared-requires

pub compared-returns-in-Inj-clause-says : goal.compared-returns-in-Inj-clause-says
compared-returns-in-Inj-clause-says = injections.compared-returns-in-Inj-clause-says

pub beneath-halves-requires : goal.beneath-halves-requires
beneath-halves-requires = injections.beneath-halves-requires

pub beneath-compared-requires : goal.beneath-compared-requires
beneath-compared-requires = injections.beneath-compared-requires

pub beneath-applied-requires-clause-argument : goal.beneath-applied-requires-clause-argument
beneath-applied-requires-clause-argument = injections.beneath-applied-requires-clause-argument

pub beneath-applied-requires-clause-closed : goal.beneath-applied-requires-clause-closed
beneath-applied-requires-clause-closed = injections.beneath-applied-requires-clause-closed

pub beneath-returns-clause-says : goal.beneath-returns-clause-says
beneath-returns-clause-says = injections.beneath-returns-clause-says

pub injection_compared-beneath-requires : goal.injection_compared-beneath-requires
injection_compared-beneath-requires = injections.injection_compared-beneath-requires

pub injection_compared-returns-then-eq-clause-says :
    goal.injection_compared-returns-then-eq-clause-says
injection_compared-returns-then-eq-clause-says =
    injections.injection_compared-returns-then-eq-clause-says

pub injection_compared-element-requires-clause-sorted :
    goal.injection_compared-element-requires-clause-sorted
injection_compared-element-requires-clause-sorted =
    injections.injection_compared-element-requires-clause-sorted

pub injection_compared-element-requires-clause-ground :
    goal.injection_compared-element-requires-clause-ground
injection_compared-element-requires-clause-ground =
    injections.injection_compared-element-requires-clause-ground

pub injection_compared-joined_compared-requires : goal.injection_compared-joined_compared-requires
injection_compared-joined_compared-requires = injections.injection_compared-joined_compared-requires

pub injection_compared-returns-clause-says : goal.injection_compared-returns-clause-says
injection_compared-returns-clause-says = injections.injection_compared-returns-clause-says

pub joined_compared-collapse-requires-clause-below :
    goal.joined_compared-collapse-requires-clause-below
joined_compared-collapse-requires-clause-below =
    joined.joined_compared-collapse-requires-clause-below

pub joined_compared-collapse-requires-clause-above :
    goal.joined_compared-collapse-requires-clause-above
joined_compared-collapse-requires-clause-above =
    joined.joined_compared-collapse-requires-clause-above

pub joined_compared-at_once-requires : goal.joined_compared-at_once-requires
joined_compared-at_once-requires = joined.joined_compared-at_once-requires

pub joined_compared-twice-requires : goal.joined_compared-twice-requires
joined_compared-twice-requires = joined.joined_compared-twice-requires

pub joined_compared-middle_compared-requires : goal.joined_compared-middle_compared-requires
joined_compared-middle_compared-requires = joined.joined_compared-middle_compared-requires

pub joined_compared-applied-requires-clause-argument :
    goal.joined_compared-applied-requires-clause-argument
joined_compared-applied-requires-clause-argument =
    joined.joined_compared-applied-requires-clause-argument

pub joined_compared-applied-requires-clause-closed :
    goal.joined_compared-applied-requires-clause-closed
joined_compared-applied-requires-clause-closed =
    joined.joined_compared-applied-requires-clause-closed

pub joined_compared-join-requires-clause-joinable :
    goal.joined_compared-join-requires-clause-joinable
joined_compared-join-requires-clause-joinable =
    joined.joined_compared-join-requires-clause-joinable

pub joined_compared-join-requires-clause-closed : goal.joined_compared-join-requires-clause-closed
joined_compared-join-requires-clause-closed =
    joined.joined_compared-join-requires-clause-closed

pub joined_compared-returns-in-Some-clause-says : goal.joined_compared-returns-in-Some-clause-says
joined_compared-returns-in-Some-clause-says = joined.joined_compared-returns-in-Some-clause-says

pub joined_compared-returns-in-None-clause-says : goal.joined_compared-returns-in-None-clause-says
joined_compared-returns-in-None-clause-says = joined.joined_compared-returns-in-None-clause-says

pub middle_compared-beneath-requires : goal.middle_compared-beneath-requires
middle_compared-beneath-requires = injected.middle_compared-beneath-requires

pub middle_compared-returns-then-eq-clause-says : goal.middle_compared-returns-then-eq-clause-says
middle_compared-returns-then-eq-clause-says = injected.middle_compared-returns-then-eq-clause-says

pub middle_compared-joined_compared-requires : goal.middle_compared-joined_compared-requires
middle_compared-joined_compared-requires = injected.middle_compared-joined_compared-requires

pub middle_compared-returns-in_ok-made-in-Inj-clause-says :
    goal.middle_compared-returns-in_ok-made-in-Inj-clause-says
middle_compared-returns-in_ok-made-in-Inj-clause-says =
    injected.middle_compared-returns-in_ok-made-in-Inj-clause-says

-- ---- growing contexts

pub beneath-returns-clause-grown : goal.beneath-returns-clause-grown
beneath-returns-clause-grown t c =
    grown_twice c.args.cx.now c.compared.new.cx c.applied.new.cx c.in_ok-one.ensures.grown
    c.applied.ensures.grown

pub joined_compared-returns-in_err-further-clause-grown :
    goal.joined_compared-returns-in_err-further-clause-grown
joined_compared-returns-in_err-further-clause-grown t c =
    grown_twice c.args.cx.now c.middle_compared.new.cx c.applied.new.cx
    (grown_twice c.args.cx.now c.collapse.new.self c.middle_compared.new.cx
    c.in_ok-place.ensures.grown c.in_ok-one.ensures.grown) c.applied.ensures.grown

pub joined_compared-returns-in-Some-clause-grown : goal.joined_compared-returns-in-Some-clause-grown
joined_compared-returns-in-Some-clause-grown t c =
    grown_twice c.args.cx.now c.middle_compared.new.cx c.join.new.cx
    (grown_twice c.args.cx.now c.collapse.new.self c.middle_compared.new.cx
    c.in_ok-place.ensures.grown c.in_ok-one.ensures.grown)
    (grown_twice c.middle_compared.new.cx c.applied.new.cx c.join.new.cx
    c.in_ok-further.ensures.grown c.join.ensures.grown)

pub joined_compared-returns-in-None-clause-grown : goal.joined_compared-returns-in-None-clause-grown
joined_compared-returns-in-None-clause-grown t c =
    grown_twice c.args.cx.now c.middle_compared.new.cx c.applied.new.cx
    (grown_twice c.args.cx.now c.collapse.new.self c.middle_compared.new.cx
    c.in_ok-place.ensures.grown c.in_ok-one.ensures.grown) c.in_ok-further.ensures.grown
