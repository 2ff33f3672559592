use Rattle.std.proofs.Common.{◌≡◌, ℕ, ◌++◌, List, IfOk, ap, sym, ◌∙◌, subst}
use Rattle.term_core.specs.RulePatterns.{sort_numbers}
use Rattle.term_core.specs.declared.ids.SortId.{SortId}
use Rattle.rule_core.specs.Sorting.{AreSorts}
use Rattle.ml_image.specs.Closing.{Closes}
use Rattle.ml_image.proofs.ConstructorLaws.{AreSorts-append, numbers-append}
use Rattle.ml_image.proofs.closing.close_both.Goals as goal

both_numbers : (first others sorts : List SortId) → sorts ≡ first ++ others
    → sort_numbers sorts ≡ sort_numbers first ++ sort_numbers others
both_numbers first others sorts is = ap sort_numbers is ∙ numbers-append first others

pub close-requires-clause-sorts : goal.close-requires-clause-sorts
close-requires-clause-sorts c =
    subst (AreSorts c.args.sig.now) (sym (both_numbers c.args.first.items c.args.others.now
    c.deref.result.now (c.deref.ensures.value ∙ c.in_ok-extend_from_slice.ensures.items)))
    (AreSorts-append c.args.sig.now (sort_numbers c.args.first.items)
    (sort_numbers c.args.others.now) c.requires.first c.requires.others)

pub returns-clause-image : goal.returns-clause-image
returns-clause-image c =
    subst (λ (ss : List ℕ). IfOk c.close.result
    (Closes c.args.sig.now c.args.names.now c.close.new.names ss c.args.body))
    (both_numbers c.args.first.items c.args.others.now c.deref.result.now
    (c.deref.ensures.value ∙ c.in_ok-extend_from_slice.ensures.items)) c.close.ensures.image
