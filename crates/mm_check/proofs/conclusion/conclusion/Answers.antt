use Rattle.std.proofs.Common.{◌≡◌, List, Option, Some, None, subst}
use Rattle.std.specs.Prelude.{MatchOption}
use Rattle.mm_text.specs.Bytes.{Token}
use Rattle.ml_pat.specs.Patterns.{Pattern}
use Rattle.pattern_reader.specs.Readings.{IsReading, SayNoPattern}
use Rattle.mm_check.specs.Stated.{words}
use Rattle.mm_check.proofs.ConclusionLaws.{another_form, says_reached, text_utf8, unread}
use Rattle.mm_check.proofs.conclusion.conclusion.Goals as goal

-- what reading gives, at what was found
read : (text names : List Token) (o p : Option Pattern) → MatchOption o (SayNoPattern text)
    (IsReading names text) → o ≡ p → MatchOption p (SayNoPattern text) (IsReading names text)
read text names o p h is =
    subst (λ (q : Option Pattern). MatchOption q (SayNoPattern text) (IsReading names text)) is h

pub read_pattern-requires : goal.read_pattern-requires
read_pattern-requires c =
    text_utf8 c.args.statement.now c.in-Some.text.now c.in-Some.ensures c.requires

pub returns-in_default-2 : goal.returns-in_default-2
returns-in_default-2 c =
    unread (words c.args.statement.now) (words c.in-Some.text.now) c.in-Some.ensures
    (read (words c.in-Some.text.now) c.read_pattern.new.names c.in_ok-pattern.field-0 None
    c.in_ok-pattern.ensures.pattern c.in_default-2.is)

pub returns-in_default-reached : goal.returns-in_default-reached
returns-in_default-reached c =
    another_form (words c.args.statement.now) (words c.in-Some.text.now)
    c.read_pattern.new.names c.in-Some-2.pattern c.reading_laws.ensures.agree c.in-Some.ensures
    c.tokens_differ.ensures
    (read (words c.in-Some.text.now) c.read_pattern.new.names c.in_ok-pattern.field-0
    (Some c.in-Some-2.pattern) c.in_ok-pattern.ensures.pattern c.in-Some-2.is)
    c.in_default-reached.ensures

pub returns : goal.returns
returns c =
    says_reached (words c.args.statement.now) (words c.in-Some.text.now) c.new-names.result
    c.read_pattern.new.names c.in-Some-2.pattern c.in-Some-reached.from.now
    c.in-Some-reached.to.now c.in_ok-share.field-0 c.in_ok-share-2.field-0 c.requires
    c.in-Some.ensures c.new-names.ensures c.in_ok-pattern.ensures.gained c.tokens_differ.ensures
    (read (words c.in-Some.text.now) c.read_pattern.new.names c.in_ok-pattern.field-0
    (Some c.in-Some-2.pattern) c.in_ok-pattern.ensures.pattern c.in-Some-2.is)
    c.in-Some-reached.ensures c.in_ok-share.ensures c.in_ok-share-2.ensures
