use Rattle.std.proofs.Common.{◌∙◌, ap}
use Rattle.ml_pat.specs.Named.{token_number}
use Rattle.ml_pat.proofs.NamedLaws.{index-token}
use Rattle.ml_pat.proofs.names.Names.known.Goals as goal

pub returns : goal.returns
returns c =
    c.get_index_of.ensures.index ∙ index-token c.args.token.now c.self.inside.tokens.keys
    ∙ ap (λ ts. token_number ts c.args.token.now) c.self.view_is
