-- Each answer, from the module that has its proof.
use Rattle.prove_term.proofs.naming.+named.Answers.Parts as parts
use Rattle.prove_term.proofs.naming.+named.Answers.Arguments as arguments
use Rattle.prove_term.proofs.naming.+named.Answers.Constructors as constructors
use Rattle.prove_term.proofs.naming.+named.Answers.Injections as injections
use Rattle.prove_term.proofs.naming.+named.Answers.JoinedInjections as joined
use Rattle.prove_term.proofs.naming.+named.Goals as goal
mod Parts
mod Arguments
mod Constructors
mod Injections
mod JoinedInjections

pub named_compared-compared-requires : goal.named_compared-compared-requires
named_compared-compared-requires = parts.named_compared-compared-requires

pub named_compared-returns-then-is_empty-clause-says :
    goal.named_compared-returns-then-is_empty-clause-says
named_compared-returns-then-is_empty-clause-says =
    parts.named_compared-returns-then-is_empty-clause-says

pub named_compared-conjoined-requires-clause-part :
    goal.named_compared-conjoined-requires-clause-part
named_compared-conjoined-requires-clause-part = parts.named_compared-conjoined-requires-clause-part

pub named_compared-conjoined-requires-clause-closed :
    goal.named_compared-conjoined-requires-clause-closed
named_compared-conjoined-requires-clause-closed =
    parts.named_compared-conjoined-requires-clause-closed

pub named_compared-returns-clause-says : goal.named_compared-returns-clause-says
named_compared-returns-clause-says = parts.named_compared-returns-clause-says

pub part_compared-constructor_named-requires : goal.part_compared-constructor_named-requires
part_compared-constructor_named-requires = parts.part_compared-constructor_named-requires

pub part_compared-returns-in-Ctor-clause-says : goal.part_compared-returns-in-Ctor-clause-says
part_compared-returns-in-Ctor-clause-says = parts.part_compared-returns-in-Ctor-clause-says

pub part_compared-returns-in-Var-clause-says : goal.part_compared-returns-in-Var-clause-says
part_compared-returns-in-Var-clause-says = parts.part_compared-returns-in-Var-clause-says

pub part_compared-unreachable-requires : goal.part_compared-unreachable-requires
part_compared-unreachable-requires = parts.part_compared-unreachable-requires

pub part_compared-injection_named-requires : goal.part_compared-injection_named-requires
part_compared-injection_named-requires = parts.part_compared-injection_named-requires

pub part_compared-returns-in_ok-inside-in-Inj-clause-says :
    goal.part_compared-returns-in_ok-inside-in-Inj-clause-says
part_compared-returns-in_ok-inside-in-Inj-clause-says =
    parts.part_compared-returns-in_ok-inside-in-Inj-clause-says

pub all_named-loop-i-init : goal.all_named-loop-i-init
all_named-loop-i-init = arguments.all_named-loop-i-init

pub all_named-bounds-images-i : goal.all_named-bounds-images-i
all_named-bounds-images-i = arguments.all_named-bounds-images-i

pub all_named-bounds-wholes-i : goal.all_named-bounds-wholes-i
all_named-bounds-wholes-i = arguments.all_named-bounds-wholes-i

pub all_named-named_compared-requires : goal.all_named-named_compared-requires
all_named-named_compared-requires = arguments.all_named-named_compared-requires

pub all_named-applied-requires-clause-function : goal.all_named-applied-requires-clause-function
all_named-applied-requires-clause-function = arguments.all_named-applied-requires-clause-function

pub all_named-applied-requires-clause-argument : goal.all_named-applied-requires-clause-argument
all_named-applied-requires-clause-argument = arguments.all_named-applied-requires-clause-argument

pub all_named-applied-requires-clause-closed : goal.all_named-applied-requires-clause-closed
all_named-applied-requires-clause-closed = arguments.all_named-applied-requires-clause-closed

pub all_named-loop-i-preserved : goal.all_named-loop-i-preserved
all_named-loop-i-preserved = arguments.all_named-loop-i-preserved

pub all_named-returns-clause-says : goal.all_named-returns-clause-says
all_named-returns-clause-says = arguments.all_named-returns-clause-says

pub all_named-returns-in_err-one-clause-grown : goal.all_named-returns-in_err-one-clause-grown
all_named-returns-in_err-one-clause-grown = arguments.all_named-returns-in_err-one-clause-grown

pub all_named-returns-in_err-made-clause-grown : goal.all_named-returns-in_err-made-clause-grown
all_named-returns-in_err-made-clause-grown = arguments.all_named-returns-in_err-made-clause-grown

pub all_named-returns-in_err-function-2-clause-grown :
    goal.all_named-returns-in_err-function-2-clause-grown
all_named-returns-in_err-function-2-clause-grown =
    arguments.all_named-returns-in_err-function-2-clause-grown

pub constructor_named-taken_apart-requires : goal.constructor_named-taken_apart-requires
constructor_named-taken_apart-requires = constructors.constructor_named-taken_apart-requires

pub constructor_named-all_named-requires : goal.constructor_named-all_named-requires
constructor_named-all_named-requires = constructors.constructor_named-all_named-requires

pub constructor_named-returns-clause-says : goal.constructor_named-returns-clause-says
constructor_named-returns-clause-says = constructors.constructor_named-returns-clause-says

pub injection_named-halves-requires : goal.injection_named-halves-requires
injection_named-halves-requires = injections.injection_named-halves-requires

pub injection_named-named_compared-requires : goal.injection_named-named_compared-requires
injection_named-named_compared-requires = injections.injection_named-named_compared-requires

pub injection_named-applied-requires-clause-argument :
    goal.injection_named-applied-requires-clause-argument
injection_named-applied-requires-clause-argument =
    injections.injection_named-applied-requires-clause-argument

pub injection_named-applied-requires-clause-closed :
    goal.injection_named-applied-requires-clause-closed
injection_named-applied-requires-clause-closed =
    injections.injection_named-applied-requires-clause-closed

pub injection_named-returns-then-eq-clause-grown : goal.injection_named-returns-then-eq-clause-grown
injection_named-returns-then-eq-clause-grown =
    injections.injection_named-returns-then-eq-clause-grown

pub injection_named-returns-then-eq-clause-says : goal.injection_named-returns-then-eq-clause-says
injection_named-returns-then-eq-clause-says = injections.injection_named-returns-then-eq-clause-says

pub injection_named-injected-requires : goal.injection_named-injected-requires
injection_named-injected-requires = joined.injection_named-injected-requires

pub injection_named-merged-requires-clause-term : goal.injection_named-merged-requires-clause-term
injection_named-merged-requires-clause-term = joined.injection_named-merged-requires-clause-term

pub injection_named-merged-requires-clause-sorted :
    goal.injection_named-merged-requires-clause-sorted
injection_named-merged-requires-clause-sorted = joined.injection_named-merged-requires-clause-sorted

pub injection_named-merged-requires-clause-below : goal.injection_named-merged-requires-clause-below
injection_named-merged-requires-clause-below = joined.injection_named-merged-requires-clause-below

pub injection_named-merged-requires-clause-above : goal.injection_named-merged-requires-clause-above
injection_named-merged-requires-clause-above = joined.injection_named-merged-requires-clause-above

pub injection_named-twice-requires : goal.injection_named-twice-requires
injection_named-twice-requires = joined.injection_named-twice-requires

pub injection_named-named_compared-requires-2 : goal.injection_named-named_compared-requires-2
injection_named-named_compared-requires-2 = joined.injection_named-named_compared-requires-2

pub injection_named-applied-requires-2-clause-argument :
    goal.injection_named-applied-requires-2-clause-argument
injection_named-applied-requires-2-clause-argument =
    joined.injection_named-applied-requires-2-clause-argument

pub injection_named-applied-requires-2-clause-closed :
    goal.injection_named-applied-requires-2-clause-closed
injection_named-applied-requires-2-clause-closed =
    joined.injection_named-applied-requires-2-clause-closed

pub injection_named-join-requires-clause-joinable :
    goal.injection_named-join-requires-clause-joinable
injection_named-join-requires-clause-joinable = joined.injection_named-join-requires-clause-joinable

pub injection_named-join-requires-clause-closed : goal.injection_named-join-requires-clause-closed
injection_named-join-requires-clause-closed = joined.injection_named-join-requires-clause-closed

pub injection_named-returns-in-Some-clause-says : goal.injection_named-returns-in-Some-clause-says
injection_named-returns-in-Some-clause-says = joined.injection_named-returns-in-Some-clause-says

pub injection_named-returns-in-Some-clause-grown : goal.injection_named-returns-in-Some-clause-grown
injection_named-returns-in-Some-clause-grown = joined.injection_named-returns-in-Some-clause-grown

pub injection_named-returns-in_err-further-clause-grown :
    goal.injection_named-returns-in_err-further-clause-grown
injection_named-returns-in_err-further-clause-grown =
    joined.injection_named-returns-in_err-further-clause-grown

pub injection_named-returns-in_err-join-in-Some-clause-grown :
    goal.injection_named-returns-in_err-join-in-Some-clause-grown
injection_named-returns-in_err-join-in-Some-clause-grown =
    joined.injection_named-returns-in_err-join-in-Some-clause-grown

pub injection_named-returns-clause-says : goal.injection_named-returns-clause-says
injection_named-returns-clause-says = joined.injection_named-returns-clause-says

pub injection_named-returns-clause-grown : goal.injection_named-returns-clause-grown
injection_named-returns-clause-grown = joined.injection_named-returns-clause-grown
