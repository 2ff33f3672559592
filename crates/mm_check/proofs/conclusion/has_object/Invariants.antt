use Rattle.std.proofs.Common.{◌≡◌, drop, Bor}
use Rattle.std.specs.List.{list_any}
use Rattle.mm_text.specs.Bytes.{Token}
use Rattle.mm_justify.specs.Counting.{is_object}
use Rattle.mm_check.proofs.conclusion.has_object.Given as goal

abbrev pub invariant-loop-word : goal.invariant-loop-word
invariant-loop-word l =
    list_any (λ (t : Bor Token). is_object t.now) (drop l.word-index l.text)
    ≡ list_any (λ (t : Bor Token). is_object t.now) l.text
