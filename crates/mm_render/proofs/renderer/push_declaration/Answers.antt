use Rattle.std.proofs.Common.{◌≡◌, List, ℕ, [], ◌∷◌, ◌++◌, ap, ◌∙◌}
use Rattle.std.specs.Prelude.{unwrap_or, Option}
use Rattle.mm_text.specs.Bytes.{Token}
use Rattle.mm_database.specs.Forms.{declares_constants, asserts}
use Rattle.mm_proof.specs.Tokens.{name_of}
use Rattle.mm_proof.specs.Labels.{name_label}
use Rattle.mm_claims.specs.Statements.{typecode_of}
use Rattle.mm_proof.proofs.Stacking.{on_ok}
use Rattle.mm_proof.proofs.WrittenTogether.{two_statements, unwrap-get}
use Rattle.mm_text.specs.Written.{written}
use Rattle.mm_database.specs.StatementTexts.{plain_tokens}
use Rattle.mm_render.proofs.renderer.push_declaration.Goals as goal

pub returns : goal.returns
returns c =
    let name : Token = name_of c.args.names.now c.args.no in
    let typed : c.typecode_of-typecode.result.now ≡ typecode_of name =
    c.typecode_of-typecode.ensures
    ∙ ap (λ (t : Option Token). typecode_of (unwrap_or t [])) c.token.ensures
    ∙ ap typecode_of (unwrap-get c.args.names.now c.args.no) in
    on_ok c.push_words.result (λ h. h
    ∙ ap (λ (t : Token). c.args.to.now.items
    ++ written (plain_tokens [] declares_constants (name ∷ [])
    ++ plain_tokens (name_label c.args.no ∷ []) asserts (t ∷ (name ∷ [])))) typed
    ∙ ap (λ (t : List ℕ). c.args.to.now.items ++ t) (two_statements
    (plain_tokens [] declares_constants (name ∷ [])) (plain_tokens (name_label c.args.no ∷ [])
    asserts (typecode_of name ∷ (name ∷ []))))) c.push_words.ensures
