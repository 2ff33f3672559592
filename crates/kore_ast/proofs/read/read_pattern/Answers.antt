use Rattle.std.proofs.Common.{subst}
use Rattle.kore_text.specs.TokenStream.{token_stream}
use Rattle.kore_text.specs.Faults.{IsFirstFaultOfText, IsPattern}
use Rattle.kore_ast.specs.Plain.{pattern_tree}
use Rattle.kore_ast.specs.Reading.{left}
use Rattle.kore_ast.proofs.Tops.{pattern-found, pattern-only}
use Rattle.kore_ast.proofs.read.read_pattern.Goals as goal

pub returns-in_ok-pattern-in-None-clause-found : goal.returns-in_ok-pattern-in-None-clause-found
returns-in_ok-pattern-in-None-clause-found c =
    pattern-found c.args.bytes.now (left c.new.result) (left c.pattern.new.self)
    (pattern_tree c.in_ok-pattern-in-None.field-0) c.new.ensures
    c.in_ok-pattern-in-None.ensures.exact
    (subst (IsFirstFaultOfText IsPattern 0 (token_stream c.args.bytes.now)) c.in-None.is
    c.in_ok-fault.ensures)

pub returns-in_ok-pattern-in-None-clause-only : goal.returns-in_ok-pattern-in-None-clause-only
returns-in_ok-pattern-in-None-clause-only c =
    pattern-only c.args.bytes.now (left c.new.result) (left c.pattern.new.self)
    (pattern_tree c.in_ok-pattern-in-None.field-0) c.new.ensures
    c.in_ok-pattern-in-None.ensures.exact
