use Rattle.std.proofs.Common.{rules, ◌≡◌, Some, sym, ◌∙◌, ap, arith}
use Rattle.std.specs.Prelude.{not}
use Rattle.kore_ast.specs.Plain.{plain_sort}
use Rattle.kore_sig.specs.SortReferences.{sort_number}
use Rattle.rule_core.proofs.Belows.{below_answer}
use Rattle.kore_check.specs.PatternFaults.{is_bad_injection}
use Rattle.kore_check.proofs.SortLaws.{astray-two, astray-other}
use Rattle.kore_check.proofs.heads.has_bad_injection.Goals as goal

pub returns-then-sorts-ne2 : goal.returns-then-sorts-ne2
returns-then-sorts-ne2 c = sym (astray-other c.args.sig.now c.args.sorts.now c.if-sorts-ne2.true)

pub returns-in-Some-Some : goal.returns-in-Some-Some
returns-in-Some-Some c =
    let from : Some c.in-Some-Some.from.0 ≡ sort_number c.args.sig.now.sorts
    (plain_sort c.index-sorts-0.result) =
    search rules in
    let to : Some c.in-Some-Some.to.0 ≡ sort_number c.args.sig.now.sorts
    (plain_sort c.index-sorts-1.result) =
    search rules in
    ap
    not (below_answer c.args.sig.now.subsorts c.in-Some-Some.from.0 c.in-Some-Some.to.0
    c.below.result c.below.ensures)
    ∙
    sym (ap (is_bad_injection
    c.args.sig.now) (astray-two c.args.sig.now c.args.sorts.now c.index-sorts-0.result
    c.index-sorts-1.result _ _ (omega arith) c.index-sorts-0.is c.index-sorts-1.is from to))
