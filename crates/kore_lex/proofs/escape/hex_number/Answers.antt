use Rattle.std.proofs.Common.{◌≡◌, ◌∙◌, sym, arith, get_or, ◌<◌, Some}
use Rattle.kore_lex.specs.Escapes.{hex_digit}
use Rattle.kore_lex.proofs.EscapeLaws.{past-is, hex-above, none-is, some-is, end-is, digit-small}
use Rattle.kore_lex.proofs.escape.hex_number.Goals as goal
use Rattle.kore_lex.proofs.escape.hex_number.Goals.{then-i-bytes-via-then-i-bytes}
use Rattle.kore_lex.proofs.escape.hex_number.Goals.{then-i-bytes-via-else-i-bytes+then-number-gt-LAST_CHAR}

pub returns-then-i-bytes-clause-value : goal.returns-then-i-bytes-clause-value
returns-then-i-bytes-clause-value c =
    elim c.then-i-bytes.branch [
      | then-i-bytes-via-then-i-bytes w ↦ past-is _ c.loop-i.number
          c.loop-i.i _ _ (omega arith) (omega arith) c.loop-i.invariant.read
      | then-i-bytes-via-else-i-bytes+then-number-gt-LAST_CHAR w ↦
          sym (hex-above _ c.loop-i.number _ (omega arith)) ∙ c.loop-i.invariant.read
    ]

pub returns-in_err-number-clause-value : goal.returns-in_err-number-clause-value
returns-in_err-number-clause-value c =
    c.from_residual.ensures
    ∙ none-is _ _ _ _ _ (omega arith) (omega arith) c.loop-i.invariant.read
    c.in_err-number.ensures

pub loop-i-preserved : goal.loop-i-preserved
loop-i-preserved c =
    let e : Some c.in_ok-number.field-0 ≡ hex_digit (get_or c.args.bytes.now c.loop-i.i 0) =
    c.in_ok-number.ensures in
    record {
      within = omega arith;
      small =
          let d : c.in_ok-number.field-0 < 16 =
          digit-small (get_or c.args.bytes.now c.loop-i.i 0) c.in_ok-number.field-0 e in
          omega arith;
      read = some-is _ _ _ _ _ _ (omega arith) (omega arith) c.loop-i.invariant.read e;
    }

pub returns-clause-value : goal.returns-clause-value
returns-clause-value c =
    end-is _ _ _ _ _ _ (omega arith) c.loop-i.invariant.read c.from_u32.ensures.value
