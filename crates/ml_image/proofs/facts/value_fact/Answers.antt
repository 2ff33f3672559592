use Rattle.std.proofs.Common.{◌≡◌, ℕ, Option, Some, option_map, refl, ap, sym, ◌∙◌}
use Rattle.ml_pat.specs.Patterns.{Pattern, fun, constant}
use Rattle.term_core.specs.Values.{value_of}
use Rattle.term_core.specs.Patterns.{domain_value}
use Rattle.ml_image.specs.Images.{both, sort_image, image_of}
use Rattle.ml_image.specs.Sentences.{term, functional, IsImageOf}
use Rattle.ml_image.specs.TrueFacts.{SaysValue}
use Rattle.ml_image.proofs.ImageLaws.{if_ok}
use Rattle.ml_image.proofs.NamingLaws.{gained-sentence}
use Rattle.ml_image.proofs.facts.value_fact.Goals as goal

pub returns-clause-image : goal.returns-clause-image
returns-clause-image c =
    let first : image_of c.args.sig.now c.value_number.new.names
    (domain_value c.args.sort.0 (value_of c.args.value.now)) ≡ Some
    (constant c.in_ok-number.number.0) =
    ap (λ (o : Option ℕ). option_map constant o) c.in_ok-number.ensures.number in
    let value : image_of c.args.sig.now c.sort_number.new.names
    (domain_value c.args.sort.0 (value_of c.args.value.now)) ≡ Some
    (constant c.in_ok-number.number.0) =
    gained-sentence c.args.sig.now c.value_number.new.names c.sort_number.new.names
    (term (domain_value c.args.sort.0 (value_of c.args.value.now))) c.sort_number.ensures.names
    (constant c.in_ok-number.number.0) first in
    let whole : both fun (image_of c.args.sig.now c.sort_number.new.names
    (domain_value c.args.sort.0 (value_of c.args.value.now)))
    (sort_image c.args.sig.now c.sort_number.new.names c.args.sort.0) ≡ Some
    (fun (constant c.in_ok-number.number.0) c.in_ok-sort.sort.0) =
    ap (λ (o : Option Pattern).
    both fun o (sort_image c.args.sig.now c.sort_number.new.names c.args.sort.0)) value
    ∙ ap (λ (o : Option ℕ). both fun (Some (constant c.in_ok-number.number.0)) o)
    c.in_ok-sort.ensures.number in
    if_ok (λ (p : Pattern). p ≡ fun c.in_ok-constant.field-0 c.in_ok-sort.sort.0)
    (IsImageOf c.args.sig.now c.sort_number.new.names
    (SaysValue c.args.sig.now c.args.sort.0 (value_of c.args.value.now))) c.fun.result
    (λ p is. (
      functional (term (domain_value c.args.sort.0 (value_of c.args.value.now)))
          c.args.sort.0,
      record { has = c.requires; says = refl },
      whole
          ∙ ap (λ (q : Pattern). Some (fun q c.in_ok-sort.sort.0)) (sym c.in_ok-constant.ensures)
          ∙ ap (λ (q : Pattern). Some q) (sym is),
    )) c.fun.ensures
