use Rattle.std.proofs.Common.{◌++◌, map, ap}
use Rattle.std.specs.List.{flat_map}
use Rattle.mm_header.specs.HeaderText.{declarations_text, symbols_text, type_line}
use Rattle.mm_header.specs.HeaderTable.{type_texts}
use Rattle.mm_header.proofs.Appended.{appended_twice}
use Rattle.mm_header.proofs.text.push_declarations.Goals as goal

pub returns : goal.returns
returns c = record {
  text =
      appended_twice c.push_types.result c.args.to.now.items c.push.new.to.items
      c.push_types.new.to.items symbols_text
      (flat_map type_line (map type_texts c.variables.result.now)) declarations_text
      c.in_ok-push.ensures.text
      (ap (λ types. symbols_text ++ flat_map type_line types) c.variables.ensures)
      c.push_types.ensures.text;
}
