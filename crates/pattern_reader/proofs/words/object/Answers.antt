use Rattle.std.proofs.Common.{◌≡◌, ◌∙◌, ℕ, sym, ap, arith, Result, Ok, Err}
use Rattle.std.specs.Prelude.{decimal}
use Rattle.std.proofs.lemmas.Fmt.{parse-decimal}
use Rattle.std.proofs.lemmas.Slice.Eq.{bytes_eq-Decides}
use Rattle.std.proofs.lemmas.Bool.{false≢true}
use Rattle.pattern_reader.proofs.TokenLaws.{digits-text}
use Rattle.pattern_reader.proofs.words.object.Goals as goal

abbrev value_of : {E : Type 0} → Result ℕ E → ℕ
value_of (Ok n) = n
value_of (Err e) = 0

pub returns-in_default : goal.returns-in_default
returns-in_default c x h is = c.in_default.ensures.cases.0 (digits-text c.args.digits.now x h is)

pub returns-in_default-parse : goal.returns-in_default-parse
returns-in_default-parse c x h is =
    c.in_default-parse.not-Ok x
    (parse-decimal 32 x c.in-Ok.text.now c.parse.result h (omega (arith, h))
    (c.in-Ok.ensures.cases.0 ∙ is) c.parse.ensures.value.0)

pub returns-else-eq : goal.returns-else-eq
returns-else-eq c x h is =
    let same : c.in-Ok-parse.number ≡ x =
    ap value_of (sym c.in-Ok-parse.is
    ∙ parse-decimal 32 x c.in-Ok.text.now c.parse.result h (omega (arith, h))
    (c.in-Ok.ensures.cases.0 ∙ is) c.parse.ensures.value.0) in
    false≢true (c.if-eq.ensures
    ∙ (bytes_eq-Decides c.as_bytes.result.now c.args.digits.now).1
    (c.as_bytes.ensures.value ∙ c.format.ensures.text ∙ ap decimal same ∙ sym is))
