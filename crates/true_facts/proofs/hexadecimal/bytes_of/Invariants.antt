use Rattle.std.proofs.Common.{◌≡◌, ◌++◌, ◌*◌, drop}
use Rattle.ml_image.specs.Tokens.{hexadecimal}
use Rattle.true_facts.specs.Digits.{AreBytes}
use Rattle.true_facts.proofs.hexadecimal.bytes_of.Given as goal

abbrev pub invariant-loop-i : goal.invariant-loop-i
invariant-loop-i l =
    AreBytes l.bytes.items × (l.digits ≡ hexadecimal l.bytes.items ++ drop (2 * l.i) l.digits)
