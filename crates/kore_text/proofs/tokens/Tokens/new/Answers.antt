use Rattle.std.proofs.Common.{refl}
use Rattle.kore_text.specs.TokenStream.{token_stream}
use Rattle.kore_text.specs.Remaining.{left}
use Rattle.kore_text.proofs.tokens.Tokens.new.Goals as goal

pub returns : goal.returns
unfolding left token_stream
returns c = rw (c.new.ensures.start, c.new.ensures.text) refl
