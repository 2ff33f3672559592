use Rattle.std.proofs.Common.{◌≡◌, ◌≤◌, ◌-◌, ◌++◌, length, drop, string_bytes}
use Rattle.kore_lex.specs.Value.{unescaped_text}
use Rattle.kore_lex.specs.Tokens.{IsInner}
use Rattle.kore_lex.proofs.value.text_value.Given as goal

abbrev pub invariant-loop-at : goal.invariant-loop-at
invariant-loop-at l = record {
  within : l.at ≤ length l.inner;
  inner : IsInner (drop l.at l.inner);
  read : string_bytes l.text ++ unescaped_text 0 (drop l.at l.inner) ≡ unescaped_text 0 l.inner;
}

abbrev pub decreases-loop-at : goal.decreases-loop-at
decreases-loop-at l = length l.inner - l.at
