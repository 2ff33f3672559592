use Rattle.std.proofs.Common.{◌≡◌, List, ℕ, true, Some, sym, ◌∙◌, ap, rules}
use Rattle.std.specs.Str.{is_utf8}
use Rattle.std.specs.Rc.{rc_str_bytes}
use Rattle.std.proofs.lemmas.Str.{is_utf8-from_IsUtf8}
use Rattle.term_core.specs.Terms.{text}
use Rattle.kore_check.proofs.values.words.Goals as goal

pub returns : goal.returns
returns c =
    let valid : is_utf8 c.args.text.now ≡ true =
    ap is_utf8 (sym c.as_str.ensures) ∙ is_utf8-from_IsUtf8 c.as_str.result.now c.as_str.utf8 in
    let same : rc_str_bytes c.in_ok-from_str.field-0 ≡ c.args.text.now = search rules in
    rw valid (ap (λ (bytes : List ℕ). Some (text bytes)) same)
