-- The plain values that represent a `Value` and a `Scalar` of the code.
use Rattle.std.specs.Rc.{rc_str_bytes}
use Rattle.term_core.specs.Terms.{DomainValue, integer, truth, text}
use Rattle.term_core.specs.declared.values.Value.{Value}
use Rattle.term_core.specs.declared.values.Value.TheVariants as form
use Rattle.term_core.specs.declared.values.Scalar.{Scalar}
use Rattle.term_core.specs.declared.values.Scalar.TheVariants as plain

abbrev pub value_of : Value → DomainValue
value_of (form.Int n) = integer n
value_of (form.Bool b) = truth b
value_of (form.Text words) = text (rc_str_bytes words)

abbrev pub scalar_value : Scalar → DomainValue
scalar_value (plain.Int n) = integer n
scalar_value (plain.Bool b) = truth b
