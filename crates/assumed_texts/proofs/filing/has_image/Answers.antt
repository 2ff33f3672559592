use Rattle.std.proofs.Common.{List, sym, ◌∙◌, subst}
use Rattle.std.specs.Prelude.{IsTrue, Contains, ◌↔◌}
use Rattle.std.proofs.lemmas.Bool.{false≢true}
use Rattle.ml_pat.specs.Patterns.{Pattern}
use Rattle.assumed_texts.proofs.FilingLaws.{has-other}
use Rattle.assumed_texts.proofs.filing.has_image.Goals as goal

pub returns : goal.returns
returns c =
    has-other c.args.names.now c.args.pat.now c.args.filed.now.by_text
    c.args.filed.now.others.items c.deref.result.now c.is_among.result
    (c.deref.ensures.value ∙ c.in_ok-text.ensures)
    (λ found. false≢true (sym c.if-is_filed.false ∙ c.is_filed.ensures.1 found))
    (subst (λ (others : List Pattern). IsTrue c.is_among.result ↔ Contains others c.args.pat.now)
    c.deref-2.ensures.value c.is_among.ensures)
