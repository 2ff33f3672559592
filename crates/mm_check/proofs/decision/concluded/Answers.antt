use Rattle.std.proofs.Common.{◌≡◌, List, Option, Some, None, subst}
use Rattle.std.specs.Prelude.{MatchOption}
use Rattle.mm_text.specs.Bytes.{Token}
use Rattle.mm_check.specs.Stated.{words}
use Rattle.mm_check.specs.Conclusions.{SaysNothing, SaysReached}
use Rattle.mm_check.specs.declared.ends.Checked.{Checked}
use Rattle.mm_check.proofs.DecisionLaws.{no_assertion, said, said_symbols, silent, unproven}
use Rattle.mm_check.proofs.decision.concluded.Goals as goal

-- what the words say, at what was found
heard : (us : List Token) (o p : Option Checked) → MatchOption o (SaysNothing us)
    (λ c. SaysReached us c.names c.from c.to) → o ≡ p → MatchOption p (SaysNothing us)
    (λ c. SaysReached us c.names c.from c.to)
heard us o p h is =
    subst (λ (q : Option Checked). MatchOption q (SaysNothing us)
    (λ c. SaysReached us c.names c.from c.to)) is h

pub conclusion-requires : goal.conclusion-requires
conclusion-requires c =
    said_symbols c.args.bytes.now c.args.last c.in-Some.field-0 c.in-Some-proven.words
    c.deref.result.now c.requires c.in-Some.is c.in-Some-proven.is c.deref.ensures.value

pub returns-in_default : goal.returns-in_default
returns-in_default c = λ theory valid passes.
    no_assertion theory c.args.bytes.now c.args.last passes c.in_default.is

pub returns-in_default-proven : goal.returns-in_default-proven
returns-in_default-proven c = λ theory valid passes.
    unproven theory c.args.bytes.now c.args.last c.in-Some.field-0 passes c.in-Some.is
    c.in_default-proven.is

pub returns-in-Ok-Some : goal.returns-in-Ok-Some
returns-in-Ok-Some c = λ theory valid passes.
    said theory c.args.bytes.now c.args.last c.in-Some.field-0 c.in-Some-proven.words
    c.deref.result.now c.in-Ok-Some.checked.names c.in-Ok-Some.checked.from
    c.in-Ok-Some.checked.to valid passes c.in-Some.is c.in-Some-proven.is c.deref.ensures.value
    (heard (words c.deref.result.now) c.in-Ok-Some.field-0 (Some c.in-Ok-Some.checked)
    c.in-Ok-Some.ensures c.in-Ok-Some.field-0-is)

pub returns : goal.returns
returns c = λ theory valid passes.
    silent theory c.args.bytes.now c.args.last c.in-Some.field-0 c.in-Some-proven.words
    c.deref.result.now passes c.in-Some.is c.in-Some-proven.is
    c.deref.ensures.value
    (heard (words c.deref.result.now) c.in-Ok-None.field-0 None c.in-Ok-None.ensures
    c.in-Ok-None.field-0-is)
