use Rattle.std.proofs.Common.{◌++◌, ◌∙◌, ap, map}
use Rattle.std.specs.List.{flat_map}
use Rattle.mm_header.specs.HeaderTable.{row_of}
use Rattle.mm_header.specs.HeaderText.{declarations_text, header_bytes, row_text}
use Rattle.mm_header.proofs.text.whole_header.Goals as goal

-- the declarations and then the rows of the table, which are those of the header
pub returns : goal.returns
unfolding header_bytes
returns c = record {
  text = c.in_ok-push_rows.ensures.text
      ∙ ap (λ text. text ++ flat_map row_text (map row_of c.table.result.now))
      (c.in_ok-push_declarations.ensures.text
      ∙ ap (λ text. text ++ declarations_text) c.new-text.ensures.items)
      ∙ ap (λ rows. declarations_text ++ flat_map row_text rows) c.table.ensures;
}
