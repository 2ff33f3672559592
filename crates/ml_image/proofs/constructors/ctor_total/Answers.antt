use Rattle.std.proofs.Common.{◌≡◌, ℕ, List, Some, length, map, ap, sym, ◌∙◌, subst}
use Rattle.ml_pat.specs.Patterns.{ex, equal, var}
use Rattle.term_core.specs.RulePatterns.{sort_numbers}
use Rattle.term_core.specs.declared.ids.SortId.{SortId}
use Rattle.rule_core.specs.Sorting.{AreSorts}
use Rattle.ml_image.specs.Images.{sort_image}
use Rattle.ml_image.specs.Sentences.{sentence_image}
use Rattle.ml_image.specs.OwnAxioms.{sort_numbered, of_variables}
use Rattle.ml_image.specs.HasImages.{MakesTerms}
use Rattle.ml_image.proofs.ImageLaws.{gained_twice}
use Rattle.ml_image.proofs.ListedLaws.{length-numbers}
use Rattle.ml_image.proofs.ConstructorLaws.{read_maker, one_sort}
use Rattle.ml_image.proofs.SentenceLaws.{total_closes}
use Rattle.ml_image.proofs.constructors.ctor_total.Goals as goal

pub close-requires-clause-sorts : goal.close-requires-clause-sorts
close-requires-clause-sorts c =
    let takes : c.declaration-info.result.now.args.items ≡ map sort_numbered
    (sort_numbers c.in_ok-sorts.sorts.items) =
    sym c.deref.ensures.value ∙ c.in_ok-sorts.ensures in
    let makes : MakesTerms c.args.sig.now c.args.symbol.0 c.declaration-info.result.now
    (sort_numbers c.in_ok-sorts.sorts.items) c.requires.2 =
    read_maker c.args.sig.now c.args.symbol.0 c.requires.0 c.declaration-info.result.now
    c.requires.1 (sort_numbers c.in_ok-sorts.sorts.items) c.requires.2 c.requires.3
    c.declaration-info.ensures takes in
    subst (λ (ss : List SortId). AreSorts c.args.sig.now (sort_numbers ss))
    (sym c.deref-2.ensures.value) makes.are_sorts.1

pub returns-clause-image : goal.returns-clause-image
returns-clause-image c =
    let takes : c.declaration-info.result.now.args.items ≡ map sort_numbered
    (sort_numbers c.in_ok-sorts.sorts.items) =
    sym c.deref.ensures.value ∙ c.in_ok-sorts.ensures in
    let makes : MakesTerms c.args.sig.now c.args.symbol.0 c.declaration-info.result.now
    (sort_numbers c.in_ok-sorts.sorts.items) c.requires.2 =
    read_maker c.args.sig.now c.args.symbol.0 c.requires.0 c.declaration-info.result.now
    c.requires.1 (sort_numbers c.in_ok-sorts.sorts.items) c.requires.2 c.requires.3
    c.declaration-info.ensures takes in
    let count : c.len-count.result ≡ length (sort_numbers c.deref-2.result.now) =
    c.len-count.ensures ∙ sym c.deref-2.ensures.len
    ∙ sym (length-numbers c.deref-2.result.now) in
    let read : sort_numbers c.in_ok-sorts.sorts.items ≡ sort_numbers c.deref-2.result.now =
    ap sort_numbers (sym c.deref-2.ensures.value) in
    let at : c.requires.2 ≡ c.result_sort.result.0 =
    one_sort c.requires.2 c.result_sort.result.0
    (sym makes.constructs.0.makes ∙ c.result_sort.ensures) in
    total_closes c.args.sig.now c.of_variables.new.names c.sort_number.new.names c.close.new.names
    c.args.symbol.0 c.declaration-info.result.now (sort_numbers c.deref-2.result.now)
    c.requires.2 c.in_ok-sort.sort.0 c.in_ok-made.made c.in_ok-body.body c.close.result
    c.sort_number.ensures.names (subst (λ (ss : List ℕ).
    MakesTerms c.args.sig.now c.args.symbol.0 c.declaration-info.result.now ss c.requires.2)
    read makes).constructs
    (subst (λ (n : ℕ). sentence_image c.args.sig.now c.of_variables.new.names
    (of_variables c.args.symbol.0 0 n) ≡ Some c.in_ok-made.made) count
    c.in_ok-made.ensures.image)
    (ap (sort_image c.args.sig.now c.sort_number.new.names) at ∙ c.in_ok-sort.ensures.number)
    (c.in_ok-body.ensures
    ∙ ap (λ (n : ℕ). ex n c.in_ok-sort.sort.0 (equal (var n) c.in_ok-made.made)) count)
    c.close.ensures.image

pub returns-clause-names : goal.returns-clause-names
returns-clause-names c =
    gained_twice _ _ _ _ c.of_variables.ensures.names
    (gained_twice _ _ _ _ c.sort_number.ensures.names c.close.ensures.names)
