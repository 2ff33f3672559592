-- The scalars of the code, their kinds, and the results of hooks, as plain values.
use Rattle.std.specs.Prelude.{Result}
use Rattle.term_core.specs.Terms.{DomainValue}
use Rattle.term_core.specs.Values.{scalar_value}
use Rattle.term_core.specs.HookValues.{Kind, integers, truths, outcome}
use Rattle.term_core.specs.declared.values.NoValue.{NoValue}
use Rattle.term_core.specs.declared.values.Scalar.{Scalar}
use Rattle.term_core.specs.declared.values.Scalar.TheVariants.{Int, Bool}

abbrev pub kind_of : Scalar → Kind
kind_of (Int n) = integers
kind_of (Bool b) = truths

-- the value, or the reason why there is none
abbrev pub plain_outcome : Result Scalar NoValue → Result DomainValue NoValue
plain_outcome answer = outcome scalar_value answer
