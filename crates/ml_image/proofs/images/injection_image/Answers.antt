use Rattle.std.proofs.Common.{◌≡◌, ℕ, Option, Some, IfOk, [], ◌∷◌, sym, ◌∙◌, ap, subst, rules}
use Rattle.ml_pat.specs.Patterns.{Pattern}
use Rattle.ml_image.specs.Images.{at_sorts, symbol_image, some_symbol_image, injection_symbol}
use Rattle.ml_image.specs.Images.{injection_image}
use Rattle.ml_image.proofs.ImageLaws.{gained_twice, gained-symbol}
use Rattle.ml_image.proofs.images.injection_image.Goals as goal

pub returns-clause-image : goal.returns-clause-image
returns-clause-image c =
    let found : injection_symbol c.args.sig.now ≡ Some c.in-Some.symbol = search rules in
    let head : symbol_image c.args.sig.now c.at_sorts.new.names c.in-Some.symbol ≡ Some
    c.in_ok-head.head =
    gained-symbol c.args.sig.now c.head_image.new.names c.at_sorts.new.names c.in-Some.symbol
    c.at_sorts.ensures.names c.in_ok-head.head c.in_ok-head.ensures.image in
    let whole : injection_image c.args.sig.now c.at_sorts.new.names c.args.from.0 c.args.to.0 ≡
    at_sorts c.args.sig.now c.at_sorts.new.names (Some c.in_ok-head.head)
    (c.args.from.0 ∷ c.args.to.0 ∷ []) =
    ap (λ (o : Option ℕ). at_sorts c.args.sig.now c.at_sorts.new.names
    (some_symbol_image c.args.sig.now c.at_sorts.new.names o)
    (c.args.from.0 ∷ c.args.to.0 ∷ [])) found
    ∙ ap (λ (o : Option Pattern).
    at_sorts c.args.sig.now c.at_sorts.new.names o (c.args.from.0 ∷ c.args.to.0 ∷ []))
    head in
    subst (λ (o : Option Pattern). IfOk c.at_sorts.result (λ p. o ≡ Some p)) (sym whole)
    c.at_sorts.ensures.image

pub returns-clause-names : goal.returns-clause-names
returns-clause-names c = gained_twice _ _ _ _ c.head_image.ensures.names c.at_sorts.ensures.names
