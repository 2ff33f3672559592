use Rattle.std.proofs.Common.{ℕ, List, Bor, sym, subst}
use Rattle.std.specs.Str.{IsUtf8}
use Rattle.std.proofs.lemmas.List.Elements.{All-push}
use Rattle.pattern_reader.specs.Readings.{AreUtf8}
use Rattle.check_tests.proofs.facts.tokens_of.Goals as goal

pub loop-token-preserved : goal.loop-token-preserved
loop-token-preserved c =
    subst (λ (ts : List (Bor (List ℕ))). AreUtf8 ts) (sym c.in_ok-push.ensures.items)
    (All-push (λ (t : Bor (List ℕ)). IsUtf8 t.now) c.loop-token.tokens.items c.as_bytes.result
    c.loop-token.invariant c.as_bytes.ensures.utf8)
