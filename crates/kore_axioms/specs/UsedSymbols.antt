-- The test for each of the two kinds of symbols.
use Rattle.std.specs.Prelude.{ℕ, Bool, List}
use Rattle.rule_core.specs.declared.signature.Signature.{Signature}
use Rattle.kore_axioms.specs.declared.uses.Symbols.{Symbols}
use Rattle.kore_axioms.specs.declared.uses.Symbols.TheVariants as symbols
use Rattle.kore_axioms.specs.Uses.{is_plain_function, is_ac_symbol}

abbrev pub is_used : Symbols → Signature → List ℕ → Bool
is_used symbols.PlainFunctions sig = is_plain_function sig
is_used symbols.Ac sig = is_ac_symbol sig
