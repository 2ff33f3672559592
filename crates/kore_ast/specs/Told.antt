-- The fault of a text as the reader reports it.
use Rattle.kore_text.specs.declared.faults.TextFault.{TextFault}
use Rattle.kore_text.specs.declared.faults.TextFault.TheVariants as text_fault
use Rattle.kore_ast.specs.declared.tree.ReadFault.{ReadFault}
use Rattle.kore_ast.specs.declared.tree.ReadFault.TheVariants as read_fault

abbrev pub told : TextFault → ReadFault
told (text_fault.Lex at) = read_fault.Lex at
told (text_fault.Syntax at) = read_fault.Syntax at
told (text_fault.Deep at) = read_fault.Deep at
