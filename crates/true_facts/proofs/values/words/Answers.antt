use Rattle.std.proofs.Common.{List, ℕ, ap}
use Rattle.std.proofs.lemmas.Str.{is_utf8-from_IsUtf8}
use Rattle.term_core.specs.Terms.{text}
use Rattle.true_facts.proofs.values.words.Goals as goal

pub returns : goal.returns
returns c = (
  ap (λ (bytes : List ℕ). text bytes) c.in_ok-from_str.ensures.ok,
  is_utf8-from_IsUtf8 c.args.text.now c.utf8.text,
)
