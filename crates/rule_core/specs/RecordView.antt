-- The plain records that represent the records of the code.
use Rattle.std.specs.Prelude.{List, [], ◌∷◌, Option, Some, None, option_map}
use Rattle.rule_core.specs.Records.{Record, RecordList, OptionalRecord, bound, itself, made}
use Rattle.rule_core.specs.Records.{injected_record, by_hook, by_equation, no_record, more_records}
use Rattle.rule_core.specs.Records.{unconditional, conditional, Miss, no_match, condition_false}
use Rattle.rule_core.specs.Records.{MissList, none_missed, more_missed}
use Rattle.rule_core.specs.Records as plain
use Rattle.rule_core.specs.declared.records.EvalRecord.{EvalRecord}
use Rattle.rule_core.specs.declared.records.StepRecord.{StepRecord}
use Rattle.rule_core.specs.declared.records.EvalRecord.TheOpen.{EvalRecord-F}
use Rattle.rule_core.specs.declared.records.EvalRecord.TheOpen as layer
use Rattle.rule_core.specs.declared.records.EvalRecord.TheOpen.{EqRecord-F, Miss-F}
use Rattle.rule_core.specs.declared.records.EvalRecord.TheFolds.{fold-EvalRecord}

-- records, in order
abbrev pub records : List Record → RecordList
records [] = no_record
records (r ∷ rs) = more_records r (records rs)

-- the record of a condition, if there is one
abbrev pub optional : Option Record → OptionalRecord
optional None = unconditional
optional (Some r) = conditional r

-- what was missed, in order
abbrev pub misses : List Miss → MissList
misses [] = none_missed
misses (miss ∷ missed) = more_missed miss (misses missed)

-- one layer, whose parts are already plain records
abbrev pub plain_miss : Miss-F Record Miss Record → Miss
plain_miss layer.NoMatch = no_match
plain_miss (layer.CondFalse sigma r) = condition_false sigma r

abbrev pub plain_use : EqRecord-F Record Miss Record → Record
plain_use used =
    by_equation used.fun.0 (records used.args.items) used.equation used.subst
    (optional (option_map (λ r. r.value) used.cond)) used.body.value (misses used.missed.items)

abbrev pub plain_layer : EvalRecord-F Record Miss Record → Record
plain_layer (layer.Bound x t) = bound x t
plain_layer (layer.Value t) = itself t
plain_layer (layer.Ctor f rs t) = made f.0 (records rs.items) t
plain_layer (layer.Inj a b r t) = injected_record a.0 b.0 r.value t
plain_layer (layer.ByHook f rs t) = by_hook f.0 (records rs.items) t
plain_layer (layer.ByEquation used) = used.value

abbrev pub plain_record : EvalRecord → Record
plain_record = fold-EvalRecord Record Miss Record plain_layer plain_miss plain_use

abbrev pub plain_step : StepRecord → plain.StepRecord
plain_step step = record {
  rule = step.rule;
  theta = step.subst;
  condition = optional (option_map plain_record step.cond);
  right = plain_record step.right;
}
