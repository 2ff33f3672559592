use Rattle.std.proofs.Common.{◌≡◌, sym, ap, ◌∙◌, length, arith}
use Rattle.std.proofs.lemmas.Bool.{eqb-true}
use Rattle.mm_check.specs.Stated.{plain_stated, words, plain_premises, plain_types}
use Rattle.mm_check.proofs.NameLaws.{declared, none_left}
use Rattle.mm_check.proofs.axioms.is_declaration.Goals as goal

pub returns-in-len2 : goal.returns-in-len2
returns-in-len2 c =
    let s = plain_stated c.args.stated.now in
    let no_premise : length c.args.stated.now.premises.items ≡ 0 =
    omega (arith, eqb-true _ 0 (sym c.is_empty.ensures ∙ c.if-not-is_empty.false)) in
    let no_type : length c.args.stated.now.types.items ≡ 0 =
    omega (
      arith,
      eqb-true _ 0
          (sym c.is_empty-else-not-is_empty.ensures ∙ c.if-not-is_empty-2.false),
    ) in
    declared c.args.sig.now s c.as_slice.result.now _ _ c.is_typed_name.result
    (sym (ap words c.as_slice.ensures.value)) c.in-len2.len_at_least c.in-len2.len_below
    (ap plain_premises (none_left _ no_premise)) (ap plain_types (none_left _ no_type))
    c.is_typed_name.ensures
