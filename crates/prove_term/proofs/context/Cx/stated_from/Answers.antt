use Rattle.std.proofs.Common.{◌≡◌, ℕ, List, sym, ◌∙◌, ap, subst}
use Rattle.ml_pat.specs.Patterns.{Pattern}
use Rattle.ml_kernel.specs.Renamings.{renamed, Renames, by_place}
use Rattle.ml_kernel.specs.StepView.{numbers_of}
use Rattle.prove_term.specs.Raised.{in_front, numbers_from}
use Rattle.prove_term.proofs.ResultLaws.{if_ok}
use Rattle.prove_term.proofs.ConstructingLaws.{same_there}
use Rattle.prove_term.proofs.Renumbering.{raises, renamed_raises}
use Rattle.prove_term.proofs.context.Cx.stated_from.Goals as goal

pub axiom_as-requires-clause-renames : goal.axiom_as-requires-clause-renames
axiom_as-requires-clause-renames c = λ p there.
    let new : numbers_of c.deref.result.now ≡ numbers_from c.args.k (in_front c.args.image) =
    ap numbers_of c.deref.ensures.value ∙ c.in_ok-new.ensures in
    let same : p ≡ c.args.image =
    same_there c.state_once.new.self.axioms c.in_ok-no.no.0 p c.args.image there
    c.in_ok-no.ensures.there in
    subst (λ (ns : List ℕ). Renames (by_place ns) p (renamed (by_place ns) p)) (sym new)
    (subst (λ (q : Pattern). Renames (by_place (numbers_from c.args.k (in_front c.args.image))) q
    (renamed (by_place (numbers_from c.args.k (in_front c.args.image))) q)) (sym same)
    (raises c.args.k c.args.image c.requires.bound))

pub returns-clause-says : goal.returns-clause-says
returns-clause-says c =
    let new : numbers_of c.deref.result.now ≡ numbers_from c.args.k (in_front c.args.image) =
    ap numbers_of c.deref.ensures.value ∙ c.in_ok-new.ensures in
    if_ok c.axiom_as.result
    (λ t says. says c.args.image c.in_ok-no.ensures.there
    ∙ ap (λ (ns : List ℕ). renamed (by_place ns) c.args.image) new
    ∙ renamed_raises c.args.k c.args.image c.requires.bound)
    c.axiom_as.ensures.says
