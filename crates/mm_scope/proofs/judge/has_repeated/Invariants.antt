use Rattle.std.proofs.Common.{◌≡◌, ◌≤◌, length, drop, false, is_some}
use Rattle.std.specs.BTreeMap.{get_by}
use Rattle.std.specs.Cmp.Lexicographic.{slice_cmp}
use Rattle.std.specs.Ordering.{nat_cmp}
use Rattle.mm_text.specs.Bytes.{Token, has_token, has_repeated}
use Rattle.mm_text.specs.Reader.{words_of}
use Rattle.mm_scope.proofs.judge.has_repeated.Given as goal

abbrev pub invariant-loop-at : goal.invariant-loop-at
invariant-loop-at l = record {
  within : l.at ≤ length l.tokens;
  tail : has_repeated (words_of l.bytes (drop l.at l.tokens)) ≡ false;
  kept : (q : Token)
      → is_some (get_by (λ k. slice_cmp nat_cmp q k.now) l.seen)
      ≡ has_token (words_of l.bytes (drop l.at l.tokens)) q;
}

abbrev pub decreases-loop-at : goal.decreases-loop-at
decreases-loop-at l = l.at
