use Rattle.std.proofs.Common.{◌≡◌, ◌++◌, ◌∷◌, [], IsUtf8, chars, string_bytes}
use Rattle.std.specs.Str.Iter.{chars_rest}
use Rattle.kore_print.specs.TokenText.{characters_text, string_text}
use Rattle.kore_print.proofs.strings.push_string.Given as goal

abbrev pub invariant-loop-character : goal.invariant-loop-character
invariant-loop-character l = record {
  utf8 : IsUtf8 (chars_rest l.character-iterator);
  written : string_bytes l.text
      ++ (characters_text (chars (chars_rest l.character-iterator)) ++ (34 ∷ []))
      ≡ string_bytes l.fn.text ++ string_text l.fn.content;
}
