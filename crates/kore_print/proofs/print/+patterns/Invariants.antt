use Rattle.std.proofs.Common.{◌≡◌, ◌++◌, List, false, drop, map, string_bytes}
use Rattle.kore_text.specs.Grammar.{Requirement, spell_pattern}
use Rattle.kore_ast.specs.Plain.{pattern_tree}
use Rattle.kore_print.specs.CanonicalText.{text_of}
use Rattle.kore_print.specs.Writing.{listed_after, spell_in_parentheses}
use Rattle.kore_print.proofs.print.+patterns.Given as goal

abbrev pub invariant-push_patterns-loop-i : goal.invariant-push_patterns-loop-i
invariant-push_patterns-loop-i l =
    (k : List Requirement)
    → string_bytes l.text
    ++ text_of (listed_after l.i
    (map (spell_pattern false) (drop l.i (map pattern_tree l.patterns))) 41 k)
    ≡ string_bytes l.fn.text ++ text_of (spell_in_parentheses (map pattern_tree l.patterns) k)
