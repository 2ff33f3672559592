use Rattle.mm_claims.specs.Blocks.{variable_statements, separations, separation_statements}
use Rattle.mm_claims.specs.Blocks.{premise_statements}
use Rattle.mm_render.specs.VariablesView.{plain_variables}
use Rattle.mm_proof.proofs.Stacking.{on_ok}
use Rattle.mm_render.proofs.HeadTexts.{three_written}
use Rattle.mm_render.proofs.heads.push_head.Goals as goal

pub returns : goal.returns
returns c =
    on_ok c.push_premises.result (three_written c.args.to.now.items c.push_variables.new.to.items
    c.push_separations.new.to.items c.push_premises.new.to.items
    (variable_statements c.args.serial (plain_variables c.args.variables.now))
    (separation_statements (separations (plain_variables c.args.variables.now)))
    (premise_statements c.args.names.now c.args.serial 0 c.args.hypotheses.now)
    c.in_ok-push_variables.ensures c.in_ok-push_separations.ensures) c.push_premises.ensures
