-- The plain record of each variant, and the plain records of its arguments.
use Rattle.std.proofs.Common.{rules, ◌≡◌, ◌<◌, ℕ, zero, suc, List, [], ◌∷◌, Some, length, get_or}
use Rattle.std.proofs.Common.{Option, map, slice_get, refl, sym, ◌∙◌, ap, arith}
use Rattle.std.specs.Global.{Vec, Box}
use Rattle.term_core.specs.Terms.{Tree}
use Rattle.term_core.specs.declared.ids.SortId.{SortId}
use Rattle.term_core.specs.declared.ids.SymId.{SymId}
use Rattle.rule_core.specs.Records.{Record, bound, itself, made, injected_record, by_hook, Miss}
use Rattle.rule_core.specs.Records.{no_match, condition_false}
use Rattle.rule_core.specs.RecordView.{plain_record, plain_layer, plain_miss, plain_use, records}
use Rattle.rule_core.specs.declared.records.EvalRecord.{EvalRecord}
use Rattle.rule_core.specs.declared.records.EvalRecord.TheVariants as form
use Rattle.rule_core.specs.declared.records.EvalRecord.TheVariants.{rolls-Bound, rolls-Value}
use Rattle.rule_core.specs.declared.records.EvalRecord.TheVariants.{rolls-Ctor, rolls-Inj}
use Rattle.rule_core.specs.declared.records.EvalRecord.TheVariants.{rolls-ByHook, rolls-ByEquation}
use Rattle.rule_core.specs.declared.records.EvalRecord.TheOpen as layer
use Rattle.rule_core.specs.declared.records.EvalRecord.TheOpen.{EqRecord-F}
use Rattle.rule_core.specs.declared.records.EqRecord.{EqRecord}
use Rattle.rule_core.specs.declared.records.EvalRecord.TheFolds.{fold-EqRecord}
use Rattle.rule_core.specs.declared.records.EvalRecord.TheFolds.{fold-roll-EvalRecord}
use Rattle.rule_core.specs.declared.records.EvalRecord.TheFolds.{fold_out-EqRecord}
use Rattle.rule_core.specs.declared.records.EvalRecord.TheFolds.{fold-roll-Miss}
use Rattle.rule_core.specs.declared.records.Miss.TheVariants as miss
use Rattle.rule_core.specs.declared.records.Miss.TheVariants.{rolls-NoMatch, rolls-CondFalse}
use Rattle.prove_fun.specs.RecordParts.{listed}
use Rattle.prove_fun.specs.Using.{missed_record, used_record}

pub plain-Bound : (x : ℕ) (t : Tree) → plain_record (form.Bound x t) ≡ bound x t
plain-Bound x t =
    ap plain_record (sym (rolls-Bound x t))
    ∙ fold-roll-EvalRecord Record Miss Record plain_layer plain_miss plain_use (layer.Bound x t)

pub plain-Value : (t : Tree) → plain_record (form.Value t) ≡ itself t
plain-Value t = ap plain_record (sym (rolls-Value t))
    ∙ fold-roll-EvalRecord Record Miss Record plain_layer plain_miss plain_use (layer.Value t)

pub plain-Ctor : (f : SymId) (rs : Vec EvalRecord) (t : Tree)
    → plain_record (form.Ctor f rs t) ≡ made f.0 (records (map plain_record rs.items)) t
plain-Ctor f rs t =
    ap plain_record (sym (rolls-Ctor f rs t))
    ∙ fold-roll-EvalRecord Record Miss Record plain_layer plain_miss plain_use (layer.Ctor f rs t)

pub plain-Inj : (a b : SortId) (r : Box EvalRecord) (t : Tree)
    → plain_record (form.Inj a b r t) ≡ injected_record a.0 b.0 (plain_record r.value) t
plain-Inj a b r t =
    ap plain_record (sym (rolls-Inj a b r t))
    ∙ fold-roll-EvalRecord Record Miss Record plain_layer plain_miss plain_use (layer.Inj a b r t)

pub plain-ByHook : (f : SymId) (rs : Vec EvalRecord) (t : Tree)
    → plain_record (form.ByHook f rs t) ≡ by_hook f.0 (records (map plain_record rs.items)) t
plain-ByHook f rs t =
    ap plain_record (sym (rolls-ByHook f rs t))
    ∙ fold-roll-EvalRecord Record Miss Record plain_layer plain_miss plain_use (layer.ByHook f rs t)

folded_use : (used : Box EqRecord)
    → plain_record (form.ByEquation used)
    ≡ fold-EqRecord Record Miss Record plain_layer plain_miss plain_use used.value
folded_use used =
    ap plain_record (sym (rolls-ByEquation used))
    ∙ fold-roll-EvalRecord Record Miss Record plain_layer plain_miss plain_use
    (layer.ByEquation used)

pub plain-ByEquation : (used : Box EqRecord)
    → plain_record (form.ByEquation used) ≡ used_record used.value
plain-ByEquation used =
    folded_use used
    ∙ (fold_out-EqRecord Record Miss Record plain_layer plain_miss plain_use used.value
    ∙ search rules)

pub plain-NoMatch : missed_record miss.NoMatch ≡ no_match
plain-NoMatch =
    ap missed_record (sym rolls-NoMatch)
    ∙ fold-roll-Miss Record Miss Record plain_layer plain_miss plain_use layer.NoMatch

pub plain-CondFalse : (sigma : List (Option Tree)) (r : EvalRecord)
    → missed_record (miss.CondFalse sigma r) ≡ condition_false sigma (plain_record r)
plain-CondFalse sigma r =
    ap missed_record (sym (rolls-CondFalse sigma r))
    ∙ fold-roll-Miss Record Miss Record plain_layer plain_miss plain_use (layer.CondFalse sigma r)

-- ---- the records of arguments

pub listed-records : (rs : List Record) → listed (records rs) ≡ rs
listed-records [] = refl
listed-records (r ∷ rs) = ap (λ (xs : List Record). r ∷ xs) (listed-records rs)

pub many_records : (rs : List EvalRecord)
    → length (listed (records (map plain_record rs))) ≡ length rs
many_records [] = refl
many_records (r ∷ rs) = ap suc (many_records rs)

pub record_at : (rs : List EvalRecord) (i : ℕ) (r : EvalRecord) → i < length rs → r ≡ get_or rs i r
    → slice_get (listed (records (map plain_record rs))) i ≡ Some (plain_record r)
record_at [] i r low at = absurd (omega (arith, low))
record_at (x ∷ rs) zero r low at = ap (λ (y : EvalRecord). Some (plain_record y)) (sym at)
record_at (x ∷ rs) (suc i) r low at = record_at rs i r (omega (arith, low)) at
