use Rattle.std.proofs.Common.{◌≡◌, ◌++◌, string_bytes, take}
use Rattle.ml_image.specs.Tokens.{hexadecimal}
use Rattle.ml_image.proofs.tokens.push_hexadecimal.Given as goal

abbrev pub invariant-loop-byte : goal.invariant-loop-byte
invariant-loop-byte l =
    string_bytes l.token ≡ string_bytes l.initial.token ++ hexadecimal (take l.byte-index l.bytes)
