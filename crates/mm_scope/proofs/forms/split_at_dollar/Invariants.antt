use Rattle.std.proofs.Common.{◌≡◌, ◌++◌, ◌-◌, ◌≤◌, length, take, drop}
use Rattle.mm_text.specs.Reader.{words_of}
use Rattle.mm_database.specs.Forms.{before_dollar, from_dollar}
use Rattle.mm_scope.proofs.forms.split_at_dollar.Given as goal

abbrev pub invariant-loop-at : goal.invariant-loop-at
invariant-loop-at l = record {
  within : l.at ≤ length l.tokens;
  front : before_dollar (words_of l.bytes l.tokens)
      ≡ words_of l.bytes (take l.at l.tokens)
      ++ before_dollar (words_of l.bytes (drop l.at l.tokens));
  back : from_dollar (words_of l.bytes l.tokens)
      ≡ from_dollar (words_of l.bytes (drop l.at l.tokens));
}

abbrev pub decreases-loop-at : goal.decreases-loop-at
decreases-loop-at l = length l.tokens - l.at
