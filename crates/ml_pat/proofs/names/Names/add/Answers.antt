use Rattle.std.proofs.Common.{◌≡◌, ap, ◌∙◌, string_bytes, rules, None, ◌++◌, ◌∷◌, []}
use Rattle.ml_pat.specs.Named.{token_number}
use Rattle.ml_pat.specs.NamesView.{tokens_of}
use Rattle.ml_pat.proofs.NamedLaws.{tokens-added, AreDistinct-push}
use Rattle.ml_pat.proofs.names.Names.add.Goals as goal

pub invariant_of-self-2 : goal.invariant_of-self-2
invariant_of-self-2 c =
    let none : token_number (tokens_of c.self.inside) (string_bytes c.in_ok-held.held) ≡ None =
    search rules in
    rw (tokens-added c.self.inside.tokens.keys c.insert.new.self.keys c.in_ok-held.held none
    c.in_ok-insert.ensures.keys) (AreDistinct-push _ _ c.self.invariant none)

pub returns-clause-tokens : goal.returns-clause-tokens
returns-clause-tokens c =
    let none : token_number (tokens_of c.self.inside) (string_bytes c.in_ok-held.held) ≡ None =
    search rules in
    let same : string_bytes c.in_ok-held.held ≡ c.args.token.now = search rules in
    tokens-added c.self.inside.tokens.keys c.insert.new.self.keys c.in_ok-held.held none
    c.in_ok-insert.ensures.keys
    ∙ ap (λ t. tokens_of c.self.inside ++ t ∷ []) same
    ∙ ap (λ ts. ts ++ c.args.token.now ∷ []) c.self.view_is
