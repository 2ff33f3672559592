use Rattle.mm_verify.proofs.Fillings.{stripped}
use Rattle.mm_verify.proofs.filling.behind_text.Goals as goal

pub returns : goal.returns
returns c =
    λ others. stripped c.args.symbols.now c.args.text.now others c.strip_prefix.result
    c.strip_prefix.ensures.cases
