use Rattle.std.proofs.Common.{◌≡◌, drop}
use Rattle.mm_text.specs.Tokens.{has_comment_mark}
use Rattle.mm_text.proofs.pieces.has_comment_mark.Given as goal

abbrev pub invariant-loop-at : goal.invariant-loop-at
invariant-loop-at l = has_comment_mark (drop l.at l.token) ≡ has_comment_mark l.token
