use Rattle.std.proofs.Common.{◌<◌, pos, get_or, Some, length, refl}
use Rattle.std.proofs.Common.{ap, sym, ◌∙◌, subst, arith}
use Rattle.ml_pat.specs.Patterns.{Pattern, app}
use Rattle.term_core.specs.Terms.{DomainValue}
use Rattle.term_core.specs.Values.{scalar_value}
use Rattle.term_core.specs.declared.values.Scalar.TheVariants.{Int}
use Rattle.rule_core.specs.Sorting.{HasValue}
use Rattle.ml_image.specs.Tokens.{token_of_value, number_in_names}
use Rattle.ml_image.proofs.ImageLaws.{gained_twice, gained-nothing}
use Rattle.ml_image.proofs.ListedLaws.{many_sorts, value_item, values-next, taken_all, one_default}
use Rattle.ml_image.proofs.facts.at_values.Goals as goal

pub loop-i-init : goal.loop-i-init
loop-i-init c = record { images = refl; gained = gained-nothing c.args.sig.now c.args.names.now }

pub bounds-sorts-i : goal.bounds-sorts-i
bounds-sorts-i c =
    omega (
      arith,
      c.loop-i-test.true,
      many_sorts c.args.sig.now c.args.sorts.now c.args.args.now c.requires,
    )

pub value_number-requires : goal.value_number-requires
value_number-requires c =
    subst (HasValue c.args.sig.now _) (sym c.value.ensures)
    (value_item c.args.sig.now c.args.sorts.now c.args.args.now c.loop-i.i _ _ c.requires
    c.loop-i-test.true)

pub returns-in_err-number-clause-names : goal.returns-in_err-number-clause-names
returns-in_err-number-clause-names c =
    gained_twice _ _ _ _ c.loop-i.invariant.gained c.value_number.ensures.names

pub returns-in_err-constant-clause-names : goal.returns-in_err-constant-clause-names
returns-in_err-constant-clause-names c =
    gained_twice _ _ _ _ c.loop-i.invariant.gained c.value_number.ensures.names

pub returns-in_err-made-clause-names : goal.returns-in_err-made-clause-names
returns-in_err-made-clause-names c =
    gained_twice _ _ _ _ c.loop-i.invariant.gained c.value_number.ensures.names

pub loop-i-preserved : goal.loop-i-preserved
loop-i-preserved c =
    let within : c.loop-i.i < length c.args.sorts.now =
    omega (
      arith,
      c.loop-i-test.true,
      many_sorts c.args.sig.now c.args.sorts.now c.args.args.now c.requires,
    ) in
    record {
      images =
          values-next c.args.sig.now c.loop-i.names c.value_number.new.names c.args.head
          c.args.sorts.now c.args.args.now c.loop-i.i (record { 0 = 0 }) (Int (pos 0))
          c.loop-i.made c.in_ok-number.number.0 c.value_number.ensures.names within
          c.loop-i-test.true c.loop-i.invariant.images
          (ap (λ (v : DomainValue). number_in_names c.value_number.new.names
          (token_of_value c.args.sig.now
          (get_or c.args.sorts.now c.loop-i.i (record { 0 = 0 })).0 v))
          (ap scalar_value (one_default c.args.args.now c.loop-i.i (Int (pos 0)) _
          c.loop-i-test.true) ∙ sym c.value.ensures)
          ∙ c.in_ok-number.ensures.number)
          ∙ ap (λ (q : Pattern). Some (app c.loop-i.made q)) (sym c.in_ok-constant.ensures)
          ∙ ap (λ (p : Pattern). Some p) (sym c.in_ok-made.ensures);
      gained = gained_twice _ _ _ _ c.loop-i.invariant.gained c.value_number.ensures.names;
    }

pub returns-clause-image : goal.returns-clause-image
returns-clause-image c =
    taken_all c.args.sig.now c.loop-i.names c.args.head c.args.sorts.now c.args.args.now c.loop-i.i
    c.loop-i.made (many_sorts c.args.sig.now c.args.sorts.now c.args.args.now c.requires)
    c.loop-i-test.false c.loop-i.invariant.images

pub returns-clause-names : goal.returns-clause-names
returns-clause-names c = c.loop-i.invariant.gained
