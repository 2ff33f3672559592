use Rattle.std.proofs.Common.{◌≡◌, drop, Bor}
use Rattle.std.specs.Global.{Vec}
use Rattle.std.specs.List.{list_any}
use Rattle.mm_text.specs.Bytes.{Token, has_token}
use Rattle.mm_check.specs.Stated.{words}
use Rattle.mm_check.proofs.row_tests.some_has_word.Given as goal

abbrev pub invariant-loop-premise : goal.invariant-loop-premise
invariant-loop-premise l =
    list_any (λ (p : Vec (Bor Token)). has_token (words p.items) l.token)
    (drop l.premise-index l.premises)
    ≡ list_any (λ (p : Vec (Bor Token)). has_token (words p.items) l.token) l.premises
