use Rattle.std.proofs.Common.{◌≡◌, true, refl, sym, ◌∙◌, ap}
use Rattle.std.specs.Str.{is_utf8}
use Rattle.std.proofs.lemmas.Str.{is_utf8-from_IsUtf8}
use Rattle.kore_check.proofs.values.is_utf8.Goals as goal

pub returns : goal.returns
returns c =
    let valid : is_utf8 c.args.text.now ≡ true =
    ap is_utf8 (sym c.as_str-words.ensures)
    ∙ is_utf8-from_IsUtf8 c.as_str-words.result.now c.as_str-words.utf8 in
    rw valid refl
