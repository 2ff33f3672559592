-- The plain record of the use of an equation, and plain misses.
use Rattle.std.proofs.Common.{rules, ◌≡◌, List, Option, map, option_map, sym, ◌∙◌, ap}
use Rattle.std.specs.Global.{Box}
use Rattle.term_core.specs.Terms.{Tree}
use Rattle.rule_core.specs.Records.{Record, Miss, by_equation, no_match, condition_false}
use Rattle.rule_core.specs.RecordView.{optional, plain_record, plain_layer, plain_miss, plain_use}
use Rattle.rule_core.specs.RecordView.{records, misses}
use Rattle.rule_core.specs.declared.records.EvalRecord.{EvalRecord}
use Rattle.rule_core.specs.declared.records.EvalRecord.TheVariants as form
use Rattle.rule_core.specs.declared.records.EvalRecord.TheVariants.{rolls-ByEquation}
use Rattle.rule_core.specs.declared.records.EvalRecord.TheOpen as layer
use Rattle.rule_core.specs.declared.records.EvalRecord.TheOpen.{EqRecord-F}
use Rattle.rule_core.specs.declared.records.EvalRecord.TheFolds.{fold-EqRecord}
use Rattle.rule_core.specs.declared.records.EvalRecord.TheFolds.{fold-roll-EvalRecord}
use Rattle.rule_core.specs.declared.records.EvalRecord.TheFolds.{fold-roll-EqRecord}
use Rattle.rule_core.specs.declared.records.EqRecord.{EqRecord, roll-EqRecord}
use Rattle.rule_core.specs.declared.records.EvalRecord.TheFolds.{fold-roll-Miss}
use Rattle.rule_core.specs.declared.records.Miss as code
use Rattle.rule_core.specs.declared.records.Miss.TheVariants as why
use Rattle.rule_core.specs.declared.records.Miss.TheVariants.{rolls-NoMatch, rolls-CondFalse}
use Rattle.fun_eval.specs.RecordLists.{plain_missed}

plain-ByEquation : (used : Box EqRecord)
    → plain_record (form.ByEquation used)
    ≡ fold-EqRecord Record Miss Record plain_layer plain_miss plain_use used.value
plain-ByEquation used =
    ap plain_record (sym (rolls-ByEquation used))
    ∙ fold-roll-EvalRecord Record Miss Record plain_layer plain_miss plain_use
    (layer.ByEquation used)

pub plain-used : (used : EqRecord-F EvalRecord code.Miss EqRecord) (boxed : Box EqRecord)
    → boxed.value ≡ roll-EqRecord used
    → plain_record (form.ByEquation boxed)
    ≡ by_equation used.fun.0 (records (map plain_record used.args.items)) used.equation used.subst
    (optional (option_map (λ (b : Box EvalRecord). plain_record b.value) used.cond))
    (plain_record used.body.value) (misses (map plain_missed used.missed.items))
plain-used used boxed is = plain-ByEquation boxed
    ∙ (ap (fold-EqRecord Record Miss Record plain_layer plain_miss plain_use) is
    ∙ (fold-roll-EqRecord Record Miss Record plain_layer plain_miss plain_use used ∙ search rules))

pub plain-NoMatch : plain_missed why.NoMatch ≡ no_match
plain-NoMatch = ap plain_missed (sym rolls-NoMatch)
    ∙ fold-roll-Miss Record Miss Record plain_layer plain_miss plain_use layer.NoMatch

pub plain-CondFalse : (theta : List (Option Tree)) (r : EvalRecord)
    → plain_missed (why.CondFalse theta r) ≡ condition_false theta (plain_record r)
plain-CondFalse theta r = ap plain_missed (sym (rolls-CondFalse theta r))
    ∙ fold-roll-Miss Record Miss Record plain_layer plain_miss plain_use (layer.CondFalse theta r)
