use Rattle.std.proofs.Common.{◌≡◌, ◌<◌, [], arith, ap, sym, length, None, Option}
use Rattle.std.specs.Prelude.{is_some}
use Rattle.rule_core.specs.declared.signature.SortRef.{SortRef}
use Rattle.kore_ast.specs.Plain.{plain_sort}
use Rattle.kore_sig.specs.SignatureFaults.{reference_faults}
use Rattle.kore_sig.specs.FirstFault.{unless}
use Rattle.kore_sig.specs.SortReferences.{sort_place, sort_reference}
use Rattle.kore_sig.proofs.ListLaws.{flat_nil_at}
use Rattle.kore_sig.proofs.symbols.references.Goals as goal

pub unreachable-requires : goal.unreachable-requires
unreachable-requires c =
    let lt : c.loop-arg.arg-index < length c.args.args.now = omega arith in
    let none : reference_faults c.args.sorts.now c.args.params.now (plain_sort c.arg-item.result) ≡
    [] =
    flat_nil_at (reference_faults c.args.sorts.now c.args.params.now) plain_sort c.args.args.now
    c.loop-arg.arg-index c.arg-item.result lt c.arg-item.is c.requires.known in
    let lost : unless (is_some
    (sort_reference c.args.sorts.now c.args.params.now (plain_sort c.arg-item.result)))
    6 (sort_place (plain_sort c.arg-item.result)) ≡ unless (is_some {T = SortRef} None) 6
    (sort_place (plain_sort c.arg-item.result)) =
    ap (λ (o : Option SortRef).
    unless (is_some o) 6 (sort_place (plain_sort c.arg-item.result)))
    (sym c.in-None.ensures) in
    let never : ⊥ = cc in never
