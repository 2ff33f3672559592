use Rattle.std.proofs.Common.{◌≡◌, drop, Bor}
use Rattle.std.specs.Prelude.{bytes_eq}
use Rattle.std.specs.List.{list_any}
use Rattle.mm_text.specs.Bytes.{Token}
use Rattle.mm_check.proofs.row_tests.has_word.Given as goal

abbrev pub invariant-loop-word : goal.invariant-loop-word
invariant-loop-word l =
    list_any (λ (t : Bor Token). bytes_eq t.now l.token) (drop l.word-index l.statement)
    ≡ list_any (λ (t : Bor Token). bytes_eq t.now l.token) l.statement
