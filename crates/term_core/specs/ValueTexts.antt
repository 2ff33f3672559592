-- The canonical text of a domain value.
use Rattle.std.specs.Prelude.{ℕ, List, true, false, codes}
use Rattle.std.specs.Fmt.{signed_decimal}
use Rattle.term_core.specs.Terms.{DomainValue, integer, truth, text}

-- decimal digits for an integer, the name of a truth value, and a text itself
abbrev pub value_text : DomainValue → List ℕ
value_text (integer n) = signed_decimal n
value_text (truth true) = codes "true"
value_text (truth false) = codes "false"
value_text (text bytes) = bytes
