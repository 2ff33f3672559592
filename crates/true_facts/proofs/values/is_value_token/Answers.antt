use Rattle.true_facts.proofs.OwnValues.{value_token_decided}
use Rattle.true_facts.proofs.values.is_value_token.Goals as goal

pub returns : goal.returns
returns c =
    value_token_decided c.args.sig.now c.new-names.result c.number.new.self c.args.token.now
    c.in_ok-number.field-0 c.in_ok-pattern.pattern c.in_ok-value_at.field-0 c.is_some.result
    c.new-names.ensures c.in_ok-number.ensures.number c.in_ok-pattern.ensures
    c.in_ok-value_at.ensures c.is_some.ensures
