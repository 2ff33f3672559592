use Rattle.std.proofs.Common.{◌∙◌, sym, ap, map, List}
use Rattle.std.specs.List.{list_all}
use Rattle.std.proofs.lemmas.Bool.{both_ways, false≢true}
use Rattle.mm_frame.specs.PlainFrames.{in_groups}
use Rattle.mm_header.specs.HeaderTable.{pair_of}
use Rattle.mm_scope.specs.ScopeState.{scope_state}
use Rattle.mm_check.specs.Stated.{plain_stated, plain_premises, plain_types}
use Rattle.mm_check.specs.RowTexts.{is_kept}
use Rattle.mm_check.specs.declared.stated.Typed.{Typed}
use Rattle.mm_check.proofs.RowLaws.{says, said, types_whole}
use Rattle.mm_check.proofs.row_tests.is_of_row.Goals as goal

pub returns-then-not-has_header_types : goal.returns-then-not-has_header_types
returns-then-not-has_header_types c =
    let pairs = in_groups (scope_state c.args.scopes.now).disjoint in
    let s = plain_stated c.args.stated.now in (
      λ never. absurd (false≢true never),
      λ row. absurd (both_ways c.has_header_types.result c.if-not-has_header_types.true
          (c.has_header_types.ensures
          ∙ types_whole s (said pairs s c.args.row.now c.requires row).types)),
    )

pub returns : goal.returns
returns c =
    let pairs = in_groups (scope_state c.args.scopes.now).disjoint in
    let s = plain_stated c.args.stated.now in
    let premises =
    ap plain_premises (sym c.deref.ensures.value)
    ∙ c.in_ok-has_premises.ensures.0 c.if-not-branch.false in
    let types = sym c.has_header_types.ensures ∙ c.if-not-has_header_types.false in
    let test = λ (ts : List Typed).
    list_all (is_kept pairs (plain_types ts)) (map pair_of c.args.row.now.apart.now) in (
      λ kept. says pairs s c.args.row.now c.requires premises types
          (ap test (sym c.deref-2.ensures.value) ∙ sym c.are_kept.ensures ∙ kept),
      λ row. c.are_kept.ensures ∙ ap test c.deref-2.ensures.value
          ∙ (said pairs s c.args.row.now c.requires row).apart,
    )
