use Rattle.std.proofs.Common.{◌≡◌, ◌++◌, map, take}
use Rattle.mm_render.specs.HeadText.{pattern_separations}
use Rattle.mm_render.specs.VariablesView.{plain_variables}
use Rattle.mm_proof.specs.Writing.{word_token}
use Rattle.mm_database.specs.StatementTexts.{written_statements}
use Rattle.mm_render.proofs.heads.push_pattern_separations.Given as goal

abbrev pub invariant-loop-variable : goal.invariant-loop-variable
invariant-loop-variable l = record {
  text : l.to.items
      ≡ l.initial.to.items
      ++ written_statements (pattern_separations
      (map (word_token l.names l.serial) l.initial.words.items)
      (plain_variables (take l.variable-index l.variables)));
  words : l.words.items ≡ l.initial.words.items;
}
