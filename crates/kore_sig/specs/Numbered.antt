-- Signatures whose sorts and symbols have numbers of 32 bits.
use Rattle.std.specs.Prelude.{◌<◌, ◌^◌, length}
use Rattle.rule_core.specs.declared.signature.Signature.{Signature}

-- the number of each sort and of each symbol fits in 32 bits
abbrev pub IsNumbered : Signature → Type 0
IsNumbered sig = (length sig.sorts < 2 ^ 32) × (length sig.symbols < 2 ^ 32)
