use Rattle.std.proofs.Common.{rules, ◌≡◌, refl}
use Rattle.std.specs.Prelude.{Some}
use Rattle.mm_text.specs.Reader.{words_of}
use Rattle.mm_database.specs.Forms.{form_of}
use Rattle.mm_scope.specs.FormsRead.{form_read}
use Rattle.mm_scope.specs.ScopeState.{scope_state}
use Rattle.mm_scope.specs.StateFaults.{plain_stated}
use Rattle.mm_scope.specs.declared.forms.Form.TheVariants as code
use Rattle.mm_scope.specs.declared.forms.Keyword.TheVariants as keyword
use Rattle.mm_scope.proofs.Proposed.{theorem_refused, theorem_proposed}
use Rattle.mm_scope.proofs.scopes.Scopes.theorem.Goals as goal

pub returns-in-Err : goal.returns-in-Err
returns-in-Err c = λ d w.
    let is : c.in-Plain.plain.keyword ≡ keyword.Theorem = search rules in
    let form : Some (form_read c.args.bytes.now (code.Plain c.in-Plain.plain)) ≡ form_of
    (words_of c.args.bytes.now c.args.tokens.now) =
    search rules in
    theorem_refused (scope_state c.args.self.now) d c.args.bytes.now c.args.tokens.now
    c.in-Plain.plain w form is c.in-Err.refusal c.first_byte.result c.in-Err.ensures
    (c.first_byte.ensures c.args.bytes.now) c.end_at.result c.end_at.ensures

pub returns-in-Ok-frame : goal.returns-in-Ok-frame
returns-in-Ok-frame c = λ d w.
    let is : c.in-Plain.plain.keyword ≡ keyword.Theorem = search rules in
    let form : Some (form_read c.args.bytes.now (code.Plain c.in-Plain.plain)) ≡ form_of
    (words_of c.args.bytes.now c.args.tokens.now) =
    search rules in
    theorem_proposed (scope_state c.args.self.now) d c.args.bytes.now c.args.tokens.now
    c.in-Plain.plain w form is (plain_stated c.in-Ok.stated) _ refl c.in-Ok.ensures
    (c.in-Ok-frame.ensures w.typed)
