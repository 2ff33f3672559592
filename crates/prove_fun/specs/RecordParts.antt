-- The records of a node's arguments.
use Rattle.std.specs.Prelude.{List, [], ◌∷◌}
use Rattle.rule_core.specs.Records.{Record, RecordList, bound, itself, made, injected_record}
use Rattle.rule_core.specs.Records.{by_hook, by_equation, no_record, more_records}

abbrev pub children_of : Record → RecordList
children_of (bound x t) = no_record
children_of (itself t) = no_record
children_of (made f rs t) = rs
children_of (injected_record a b r t) = more_records r no_record
children_of (by_hook f rs t) = rs
children_of (by_equation f rs i theta condition body missed) = rs

abbrev pub listed : RecordList → List Record
listed no_record = []
listed (more_records r rs) = r ∷ listed rs

abbrev pub children : Record → List Record
children r = listed (children_of r)
