-- How lists of records, and of misses, are built.
use Rattle.std.specs.Prelude.{◌≡◌, ℕ, zero, suc, Option, Some, None}
use Rattle.rule_core.specs.Records.{Record, RecordList, no_record, more_records, OptionalRecord}
use Rattle.rule_core.specs.Records.{unconditional, conditional, Miss, no_match, MissList}
use Rattle.rule_core.specs.Records.{none_missed, more_missed}
use Rattle.rule_core.specs.RecordView.{plain_layer, plain_miss, plain_use}
use Rattle.rule_core.specs.declared.records.EvalRecord.TheFolds.{fold-Miss}
use Rattle.rule_core.specs.declared.records.Miss as code

-- one more record, after the others
abbrev pub at_end : RecordList → Record → RecordList
at_end no_record r = more_records r no_record
at_end (more_records s rs) r = more_records s (at_end rs r)

-- what tells a record, if there is one
abbrev pub TellsOption : {R : Type 0} → (R → Record → Type 0) → Option R → OptionalRecord → Type 0
TellsOption tells None o = o ≡ unconditional
TellsOption tells (Some kept) o = (r : Record) × (o ≡ conditional r) × tells kept r

-- a miss of the code
abbrev pub plain_missed : code.Miss → Miss
plain_missed = fold-Miss Record Miss Record plain_layer plain_miss plain_use

-- one more miss, after the others
abbrev pub last_missed : MissList → Miss → MissList
last_missed none_missed miss = more_missed miss none_missed
last_missed (more_missed other missed) miss = more_missed other (last_missed missed miss)

-- so many more equations that do not match, after the others
abbrev pub with_unmatched : MissList → ℕ → MissList
with_unmatched missed zero = missed
with_unmatched missed (suc count) = last_missed (with_unmatched missed count) no_match
