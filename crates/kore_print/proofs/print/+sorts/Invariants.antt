use Rattle.std.proofs.Common.{◌≡◌, ◌++◌, List, drop, map, string_bytes}
use Rattle.kore_text.specs.Grammar.{Requirement, spell_sort}
use Rattle.kore_ast.specs.Plain.{plain_sort}
use Rattle.kore_print.specs.CanonicalText.{text_of}
use Rattle.kore_print.specs.Writing.{listed_after, spell_in_braces}
use Rattle.kore_print.proofs.print.+sorts.Given as goal

abbrev pub invariant-push_sorts-loop-i : goal.invariant-push_sorts-loop-i
invariant-push_sorts-loop-i l =
    (k : List Requirement)
    → string_bytes l.text
    ++ text_of (listed_after l.i (map spell_sort (drop l.i (map plain_sort l.sorts))) 125 k)
    ≡ string_bytes l.fn.text ++ text_of (spell_in_braces (map plain_sort l.sorts) k)
