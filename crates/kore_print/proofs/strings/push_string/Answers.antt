use Rattle.std.proofs.Common.{[], ◌∷◌, string_bytes}
use Rattle.std.proofs.lemmas.Str.{IsUtf8-past_char}
use Rattle.kore_print.proofs.CharactersWritten.{character_added, quote_added}
use Rattle.kore_print.proofs.Written.{on_ok, added}
use Rattle.kore_print.proofs.strings.push_string.Goals as goal

pub loop-character-preserved : goal.loop-character-preserved
loop-character-preserved c = record {
  utf8 =
      IsUtf8-past_char _ _ c.in-Some.character c.loop-character.invariant.utf8
      c.in-Some.ensures.steps.0;
  written =
      character_added c.in-Some.character _ _ _ _ _ c.loop-character.invariant.utf8
      c.in-Some.ensures.steps.0 c.in_ok-push_character.ensures
      c.loop-character.invariant.written;
}

pub returns : goal.returns
returns c =
    on_ok c.push_str-2.result _ _ (added c.push_str-2.result (34 ∷ [])
    (string_bytes c.loop-character.text) (string_bytes c.push_str-2.new.self)
    c.push_str-2.ensures.bytes)
    (λ e. quote_added _ _ _ _ c.in-None.ensures.steps.0.0 c.loop-character.invariant.written e)
