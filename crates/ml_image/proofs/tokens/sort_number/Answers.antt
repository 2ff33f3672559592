use Rattle.std.proofs.Common.{◌≡◌, List, ℕ, Some, Option, ap, ◌∙◌, rules}
use Rattle.ml_image.specs.Tokens.{token_of_sort, number_in_names}
use Rattle.ml_image.specs.OwnTokens.{is_sort_token}
use Rattle.ml_image.proofs.ImageLaws.{number_of-numbered, gained-numbered}
use Rattle.ml_image.proofs.tokens.sort_number.Goals as goal

pub returns-clause-number : goal.returns-clause-number
returns-clause-number c =
    let token : token_of_sort c.args.sig.now c.args.sort.0 ≡ Some c.as_str.result.now =
    search rules in
    ap (λ (t : Option (List ℕ)). number_in_names c.number.new.self t) token
    ∙ number_of-numbered c.args.names.now c.number.new.self c.as_str.result.now
    c.in_ok-number.field-0 c.in_ok-number.ensures.number

pub returns-clause-names : goal.returns-clause-names
returns-clause-names c =
    let token : token_of_sort c.args.sig.now c.args.sort.0 ≡ Some c.as_str.result.now =
    search rules in
    gained-numbered c.args.sig.now c.args.names.now c.number.new.self c.as_str.result.now
    c.in_ok-number.field-0 (is_sort_token c.args.sort.0 token)
    c.in_ok-number.ensures.number
