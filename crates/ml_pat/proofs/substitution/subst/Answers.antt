use Rattle.std.proofs.Common.{◌≡◌, Some, sym, ◌∙◌, ap, rules}
use Rattle.ml_pat.specs.Patterns.{Pattern}
use Rattle.ml_pat.specs.Replacing.{replaced}
use Rattle.ml_pat.specs.declared.substitution.SubstitutionResult.TheVariants.{Kept, New, Captured}
use Rattle.ml_pat.proofs.ReplacingLaws.{of_kept, of_new, of_captured}
use Rattle.ml_pat.proofs.substitution.subst.Goals as goal

pub returns-in_ok-share-in-Kept : goal.returns-in_ok-share-in-Kept
returns-in_ok-share-in-Kept c =
    let kept : replaced c.args.x.0 c.args.by.now c.args.pat.now ≡ Kept = search rules in
    ap (λ (p : Pattern). Some p) c.in_ok-share-in-Kept.ensures
    ∙ sym (of_kept c.args.x.0 c.args.by.now c.args.pat.now kept)

pub returns-in-New : goal.returns-in-New
returns-in-New c =
    let new : replaced c.args.x.0 c.args.by.now c.args.pat.now ≡ New c.in-New.made = search rules in
    sym (of_new c.args.x.0 c.args.by.now c.args.pat.now c.in-New.made new)

pub returns-in-Captured : goal.returns-in-Captured
returns-in-Captured c =
    let captured : replaced c.args.x.0 c.args.by.now c.args.pat.now ≡ Captured = search rules in
    sym (of_captured c.args.x.0 c.args.by.now c.args.pat.now captured)
