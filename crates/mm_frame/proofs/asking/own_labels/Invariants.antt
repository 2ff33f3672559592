use Rattle.std.specs.Prelude.{◌≡◌, is_some, map, take}
use Rattle.std.specs.BTreeMap.{get_by}
use Rattle.std.specs.Cmp.Lexicographic.{slice_cmp}
use Rattle.std.specs.Ordering.{nat_cmp}
use Rattle.mm_text.specs.Bytes.{Token, has_token}
use Rattle.mm_frame.specs.Labels.{label_in}
use Rattle.mm_frame.proofs.asking.own_labels.Given as goal

abbrev pub invariant-loop-hyp : goal.invariant-loop-hyp
invariant-loop-hyp l = (q : Token)
    → is_some (get_by (λ k. slice_cmp nat_cmp q k.now) l.labels)
    ≡ has_token (map label_in (take l.hyp-index l.hyps)) q
