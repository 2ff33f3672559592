use Rattle.std.proofs.Common.{◌≡◌, ◌+◌, ℕ, suc, List, [], ◌∷◌, ◌++◌, map, take, sym, ◌∙◌, ap, arith}
use Rattle.term_core.specs.Terms.{Tree}
use Rattle.term_core.specs.Forests.{forest}
use Rattle.rule_core.specs.Records.{result_of}
use Rattle.rule_core.specs.RecordView.{plain_record}
use Rattle.prove_fun.specs.RecordParts.{children, children_of}
use Rattle.prove_fun.proofs.Uses.{results_listed, take_next, take_whole}
use Rattle.prove_fun.proofs.equations.results.Goals as goal

pub loop-i-init : goal.loop-i-init
loop-i-init c = c.in_ok-terms.ensures.items

pub loop-i-preserved : goal.loop-i-preserved
loop-i-preserved c =
    let one : c.in_ok-share.field-0 ≡ result_of (plain_record c.child.result.now) =
    c.in_ok-share.ensures.same ∙ c.result.ensures in
    let next : c.loop-i.i + 1 ≡ suc c.loop-i.i = omega arith in
    c.in_ok-push.ensures.items ∙ ap (λ (t : Tree). c.loop-i.terms.items ++ t ∷ []) one
    ∙ ap (λ (ts : List Tree). ts ++ result_of (plain_record c.child.result.now) ∷ [])
    c.loop-i.invariant
    ∙
    sym (take_next (children (plain_record
    c.args.evaluation.now)) c.loop-i.i (plain_record c.child.result.now) c.child.ensures)
    ∙ ap (λ (k : ℕ). map result_of (take k (children (plain_record c.args.evaluation.now))))
    (sym next)

pub returns : goal.returns
returns c =
    ap forest (c.loop-i.invariant
    ∙ take_whole (children (plain_record c.args.evaluation.now)) c.loop-i.i
    (omega (arith, c.loop-i-test.false, c.loop-i.auto.i-end, c.requires)))
    ∙ results_listed (children_of (plain_record c.args.evaluation.now))
