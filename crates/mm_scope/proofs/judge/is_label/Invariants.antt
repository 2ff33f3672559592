use Rattle.std.proofs.Common.{◌≡◌, drop}
use Rattle.std.specs.List.{list_all}
use Rattle.mm_text.specs.Labels.{is_label_byte}
use Rattle.mm_scope.proofs.judge.is_label.Given as goal

abbrev pub invariant-loop-byte : goal.invariant-loop-byte
invariant-loop-byte l =
    list_all is_label_byte (drop l.byte-index l.word) ≡ list_all is_label_byte l.word
