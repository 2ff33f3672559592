use Rattle.rule_core.specs.ProgramView.{theory_of}
use Rattle.pattern_reader.specs.Readings.{texts, IsReading, SayNoPattern}
use Rattle.assumed_texts.proofs.FilingLaws.{written-kept}
use Rattle.assumed_texts.proofs.AssumedLaws.{decided-says, unread-says, begins, found-read, none-read}
use Rattle.assumed_texts.proofs.AssumedLaws.{says-no, behind_first}
use Rattle.assumed_texts.proofs.SmallVariables.{assumes-small}
use Rattle.assumed_texts.proofs.assumed.says_in.Goals as goal

pub returns-in_default-2-clause-says : goal.returns-in_default-2-clause-says
returns-in_default-2-clause-says c =
    says-no (theory_of c.args.program.now) (texts c.args.tokens.now)
    (unread-says (theory_of c.args.program.now) (texts (behind_first c.args.tokens.now))
    (texts c.args.tokens.now) (assumes-small c.args.program.now c.requires.program)
    (none-read (SayNoPattern (texts (behind_first c.args.tokens.now)))
    (IsReading c.read_pattern.new.names (texts (behind_first c.args.tokens.now)))
    c.in_ok-pat.field-0 c.in_default-2.is c.in_ok-pat.ensures.pattern)
    (begins c.args.tokens.now _ c.as_slice.result.now c.ne.result c.in-len1-up.len_at_least
    c.as_slice.ensures c.ne.ensures c.if-ne.false))

pub is_assumed-requires-clause-images : goal.is_assumed-requires-clause-images
is_assumed-requires-clause-images c =
    written-kept c.args.program.now c.args.names.now c.read_pattern.new.names
    c.args.images.now.by_text c.args.images.now.others.items c.requires.program
    c.in_ok-pat.ensures.names c.requires.images

pub returns-clause-says : goal.returns-clause-says
returns-clause-says c =
    decided-says (theory_of c.args.program.now) c.read_pattern.new.names c.is_assumed.new.names
    (texts (behind_first c.args.tokens.now)) (texts c.args.tokens.now) c.in-Some.pat
    c.is_assumed.result (assumes-small c.args.program.now c.requires.program) c.tokens_differ.ensures
    (found-read (SayNoPattern (texts (behind_first c.args.tokens.now)))
    (IsReading c.read_pattern.new.names (texts (behind_first c.args.tokens.now)))
    c.in_ok-pat.field-0 c.in-Some.pat c.in-Some.is c.in_ok-pat.ensures.pattern)
    c.is_assumed.ensures.names
    (begins c.args.tokens.now _ c.as_slice.result.now c.ne.result c.in-len1-up.len_at_least
    c.as_slice.ensures c.ne.ensures c.if-ne.false)
    c.is_assumed.ensures.answer
