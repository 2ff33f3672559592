use Rattle.std.proofs.Common.{◌≡◌, ◌≤◌, Some, option_map, length, ap, sym, ◌∙◌}
use Rattle.std.proofs.Common.{arith}
use Rattle.term_core.specs.RulePatterns.{plain_pattern}
use Rattle.term_core.specs.declared.ids.SortId.{SortId}
use Rattle.rule_core.specs.ProgramView.{sorts_of}
use Rattle.ml_image.specs.Numbering.{number_in, room}
use Rattle.ml_image.specs.Premises.{sort_of}
use Rattle.ml_image.proofs.ConditionLaws.{HasImage-more, length-sorts_of, truth_said}
use Rattle.ml_image.proofs.rules.truth_image.Goals as goal

pub image-requires : goal.image-requires
image-requires c =
    let few : length (sorts_of c.args.vars.now) ≤ room c.args.numbering.now =
    omega (arith, c.requires.few, length-sorts_of c.args.vars.now) in
    HasImage-more c.args.sig.now (length (sorts_of c.args.vars.now)) (room c.args.numbering.now)
    (plain_pattern c.args.pat.now) few c.requires.condition.image

pub returns-clause-image : goal.returns-clause-image
returns-clause-image c =
    let sort : sort_of c.args.sig.now (sorts_of c.args.vars.now) (plain_pattern c.args.pat.now) ≡
    Some c.in-Some.sort.0 =
    sym c.sort_of.ensures ∙ ap (option_map (λ (s : SortId). s.0)) c.in-Some.is in
    truth_said c.args.sig.now c.image.new.names c.value_number.new.names (sorts_of c.args.vars.now)
    (number_in c.args.numbering.now) (plain_pattern c.args.pat.now) c.in-Some.sort.0
    c.in_ok-truth.truth.0
    c.in_ok-held.held c.in_ok-constant.field-0 c.equal.result
    c.value_number.ensures.names sort c.in_ok-held.ensures.image
    c.in_ok-truth.ensures.number c.in_ok-constant.ensures c.equal.ensures
