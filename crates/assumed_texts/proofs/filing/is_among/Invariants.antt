use Rattle.std.proofs.Common.{ℕ, ◌≡◌, ◌<◌, get_or}
use Rattle.assumed_texts.proofs.filing.is_among.Given as goal

abbrev pub invariant-loop-image : goal.invariant-loop-image
invariant-loop-image l = (k : ℕ) → k < l.image-index → get_or l.images k l.pat ≡ l.pat → ⊥
