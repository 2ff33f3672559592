use Rattle.std.proofs.Common.{◌∙◌, sym}
use Rattle.mm_text.specs.Reader.{statement_of}
use Rattle.mm_verify.proofs.KindsNamed.{Laws}
use Rattle.mm_scope.specs.ScopeState.{scope_state}
use Rattle.mm_verify.proofs.MandatoryLabels.{proposed-labelled}
use Rattle.mm_verify.proofs.CheckedStatements.{theorem-kind, theorem_checked}
use Rattle.mm_verify.proofs.checker.Checker.prove.Goals as goal

pub returns-in-Ok-Some : goal.returns-in-Ok-Some
returns-in-Ok-Some c = λ d behind p.
    let active =
    proposed-labelled c.args.bytes.now (scope_state c.args.self.now.scopes) d
    (statement_of c.args.bytes.now c.args.tokens.now) c.args.theorem behind.stands p in
    let laws : Laws =
    record {
      cited = c.number_laws.ensures.cited;
      place = c.scope_laws.ensures.place;
      hypothesis = c.scope_laws.ensures.hypothesis;
      frame = c.scope_laws.ensures.frame;
      nothing = c.scope_laws.ensures.nothing;
    } in (
      theorem-kind laws c.scope_laws.ensures.naming (scope_state c.args.self.now.scopes) d
          c.args.bytes.now (statement_of c.args.bytes.now c.args.tokens.now) c.args.theorem
          behind.stands behind.orderly p ∙ sym (c.in-Ok-Some.ensures active)
          ∙ c.in-Ok-Some.field-0-is,
      c.first_byte.ensures c.args.bytes.now,
    )

pub returns-in-Ok-None : goal.returns-in-Ok-None
returns-in-Ok-None c = λ d behind p.
    let s = statement_of c.args.bytes.now c.args.tokens.now in
    let active =
    proposed-labelled c.args.bytes.now (scope_state c.args.self.now.scopes) d
    (statement_of c.args.bytes.now c.args.tokens.now) c.args.theorem behind.stands p in
    let laws : Laws =
    record {
      cited = c.number_laws.ensures.cited;
      place = c.scope_laws.ensures.place;
      hypothesis = c.scope_laws.ensures.hypothesis;
      frame = c.scope_laws.ensures.frame;
      nothing = c.scope_laws.ensures.nothing;
    } in
    let none =
    theorem-kind laws c.scope_laws.ensures.naming (scope_state c.args.self.now.scopes) d
    c.args.bytes.now s c.args.theorem behind.stands behind.orderly p
    ∙ sym (c.in-Ok-None.ensures active) ∙ c.in-Ok-None.field-0-is in
    theorem_checked c.proof_laws.ensures.fine c.proof_laws.ensures.orderly c.args.bytes.now
    c.args.self.now d s c.args.theorem c.add.new.self c.add.result behind p none
    c.add.ensures.stated c.add.ensures.added c.add.ensures.memory
