use Rattle.std.specs.Prelude.{◌≡◌, ◌≤◌, ◌-◌, ◌++◌, length, take, drop, codes}
use Rattle.mm_text.specs.Bytes.{has_token}
use Rattle.mm_text.specs.Reader.{words_of}
use Rattle.mm_database.specs.ProofText.{before_close, behind_close}
use Rattle.mm_verify.proofs.proof_text.split_at_close.Given as goal

abbrev pub invariant-loop-at : goal.invariant-loop-at
invariant-loop-at l = record {
  within : l.at ≤ length l.tokens;
  has : has_token (words_of l.bytes l.tokens) (codes ")")
      ≡ has_token (words_of l.bytes (drop l.at l.tokens)) (codes ")");
  before : before_close (words_of l.bytes l.tokens)
      ≡ words_of l.bytes (take l.at l.tokens)
      ++ before_close (words_of l.bytes (drop l.at l.tokens));
  behind : behind_close (words_of l.bytes l.tokens)
      ≡ behind_close (words_of l.bytes (drop l.at l.tokens));
}

abbrev pub decreases-loop-at : goal.decreases-loop-at
decreases-loop-at l = length l.tokens - l.at
