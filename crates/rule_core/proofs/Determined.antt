-- Laws of evaluation and of records, in well-sorted theories.
use Rattle.std.proofs.Common.{◌≡◌, ℕ, ◌+◌, List, [], Option, subst, arith}
use Rattle.term_core.specs.Terms.{Tree}
use Rattle.term_core.specs.Patterns.{Pattern}
use Rattle.rule_core.specs.Theories.{RewriteTheory}
use Rattle.rule_core.specs.Evaluation.{value, Evaluates}
use Rattle.rule_core.specs.Records.{result_of}
use Rattle.rule_core.specs.WellSorted.{IsWellSorted}
use Rattle.rule_core.specs.EvaluationLaws.{CallsFall, EvaluationIsUnique, EvaluationHasAnswer}
use Rattle.rule_core.specs.EvaluationLaws.{ValuesAreSorted, MoreLeftKeepsValue, ValueHasRecord}
use Rattle.rule_core.specs.EvaluationLaws.{RecordTells, RecordDetermines, RecordsAgree}
use Rattle.rule_core.proofs.EvaluationUnique.{AllMatchOnce, evaluation_unique}
use Rattle.rule_core.proofs.MoreLeft.{evaluates_more}
use Rattle.rule_core.proofs.RecordsTell.{record_tells}
use Rattle.rule_core.proofs.RecordsKept.{has_record, calls_fall}
use Rattle.rule_core.proofs.EvaluationAnswers.{IsGood, answers}
use Rattle.rule_core.proofs.MatchExact.{match_is_unique}
use Rattle.rule_core.proofs.NamedMatches.{match_named_once}

pub all_match_once : (theory : RewriteTheory) → IsWellSorted theory → AllMatchOnce theory
all_match_once theory good f info i =
    λ k e lt. let fits = good.equations f info i k e lt in
    λ ts theta sigma m l. match_named_once theory.sig _ _ _ ts theta sigma
    (λ xs ys one other. match_is_unique theory.sig _ [] _ info.args.items ts xs ys
    good.signature.no_cycle fits.arguments one other) m l

pub evaluation_is_unique : EvaluationIsUnique
evaluation_is_unique theory n c theta p r s good a b =
    evaluation_unique theory (all_match_once theory good) a s b

pub evaluation_has_answer : EvaluationHasAnswer
evaluation_has_answer theory n c variables theta p sort good h serves =
    let r = (answers theory good n).0 variables theta p sort c h serves in (r.0, r.1)

pub values_are_sorted : ValuesAreSorted
values_are_sorted theory n c d variables theta p sort t good h serves e =
    let r = (answers theory good n).0 variables theta p sort c h serves in
    let same : r.0 ≡ value t d =
    evaluation_unique theory (all_match_once theory good) r.1 (value t d) e in
    subst (IsGood theory.sig sort) same r.2

pub more_left_keeps_value : MoreLeftKeepsValue
more_left_keeps_value theory n m c d k theta p t le e = evaluates_more theory k e m le

pub evaluation_calls_fall : CallsFall
evaluation_calls_fall theory n c d theta p t e = calls_fall e

pub value_has_record : ValueHasRecord
value_has_record theory n c d theta p t le few e = has_record theory e le few

pub record_tells_value : RecordTells
record_tells_value theory theta p r w = record_tells theory theta p r w

-- two values agree, whatever was left
pub values_agree : (theory : RewriteTheory) → IsWellSorted theory
    → (theta : List (Option Tree)) (p : Pattern) (t u : Tree) (n c d m k e : ℕ)
    → Evaluates theory n theta p c (value t d) → Evaluates theory m theta p k (value u e) → t ≡ u
values_agree theory good theta p t u n c d m k e a b =
    let first : Evaluates theory (n + m) theta p (c + k) (value t (d + k)) =
    evaluates_more theory k a (n + m) (omega arith) in
    let second : Evaluates theory (n + m) theta p (k + c) (value u (e + c)) =
    evaluates_more theory c b (n + m) (omega arith) in
    let swap : k + c ≡ c + k = omega arith in
    let same : value t (d + k) ≡ value u (e + c) =
    evaluation_unique theory (all_match_once theory good) first (value u (e + c))
    (subst (λ j. Evaluates theory (n + m) theta p j (value u (e + c))) swap second) in
    cc

pub record_determines : RecordDetermines
record_determines theory n c d theta p r t good w e =
    let told = record_tells theory theta p r w in
    values_agree theory good theta p t (result_of r) n c d told.0 told.1 told.2 e told.3

pub records_agree : RecordsAgree
records_agree theory theta p r s good w v =
    let told = record_tells theory theta p r w in
    record_determines theory told.0 told.1 told.2 theta p s (result_of r) good v told.3
