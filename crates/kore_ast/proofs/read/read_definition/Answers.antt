use Rattle.std.proofs.Common.{subst}
use Rattle.kore_text.specs.TokenStream.{token_stream}
use Rattle.kore_text.specs.Faults.{IsFirstFaultOfText, IsDefinition}
use Rattle.kore_ast.specs.Plain.{plain_definition}
use Rattle.kore_ast.specs.Reading.{left}
use Rattle.kore_ast.proofs.Tops.{definition-found, definition-only}
use Rattle.kore_ast.proofs.read.read_definition.Goals as goal

pub returns-in_ok-definition-in-None-clause-found :
    goal.returns-in_ok-definition-in-None-clause-found
returns-in_ok-definition-in-None-clause-found c =
    definition-found c.args.bytes.now (left c.new.result)
    (plain_definition c.in_ok-definition-in-None.field-0) c.new.ensures
    c.in_ok-definition-in-None.ensures.exact
    (subst (IsFirstFaultOfText IsDefinition 0 (token_stream c.args.bytes.now)) c.in-None.is
    c.in_ok-fault.ensures)

pub returns-in_ok-definition-in-None-clause-only : goal.returns-in_ok-definition-in-None-clause-only
returns-in_ok-definition-in-None-clause-only c =
    definition-only c.args.bytes.now (left c.new.result)
    (plain_definition c.in_ok-definition-in-None.field-0) c.new.ensures
    c.in_ok-definition-in-None.ensures.exact
