use Rattle.std.proofs.Common.{List, ◌≡◌, ◌++◌, map, subst}
use Rattle.mm_text.specs.Bytes.{Token}
use Rattle.mm_render.specs.HeadText.{separation}
use Rattle.mm_render.specs.VariablesView.{plain_variables}
use Rattle.mm_proof.specs.Writing.{word_token}
use Rattle.mm_proof.specs.declared.words.Word.{Word}
use Rattle.mm_proof.proofs.Stacking.{on_ok}
use Rattle.mm_render.proofs.HeadTexts.{separations_written}
use Rattle.mm_database.specs.StatementTexts.{written_statements}
use Rattle.mm_render.proofs.heads.push_separations.Goals as goal

pub returns : goal.returns
returns c =
    let tokens : List Word → List Token =
    λ (ws : List Word). map (word_token c.args.names.now c.args.serial) ws in
    on_ok c.push_pattern_separations.result
    (separations_written c.args.to.now.items c.push_separation.new.to.items
    c.push_pattern_separations.new.to.items (plain_variables c.args.variables.now)
    (tokens c.in_ok-words.words.items) (c.in_ok-words.ensures c.args.names.now c.args.serial)
    (subst (λ (ws : List Word). c.push_separation.new.to.items
    ≡ c.args.to.now.items ++ written_statements (separation (tokens ws)))
    c.deref.ensures.value c.in_ok-push_separation.ensures)) c.push_pattern_separations.ensures
