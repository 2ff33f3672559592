use Rattle.std.proofs.Common.{◌≡◌, ℕ, ◌-◌, ◌<◌, List, length, drop, Some, ap, sym, ◌∙◌}
use Rattle.std.proofs.Common.{subst, arith}
use Rattle.std.proofs.lemmas.List.{get_or_default}
use Rattle.ml_pat.specs.Patterns.{Pattern}
use Rattle.term_core.specs.RulePatterns.{sort_numbers}
use Rattle.ml_image.specs.Sentences.{sentence_image, for_all}
use Rattle.ml_image.proofs.ImageLaws.{gained_twice, gained-nothing}
use Rattle.ml_image.proofs.LoopLaws.{sort-item}
use Rattle.ml_image.proofs.ClosingLaws.{closed-next, drop-numbers}
use Rattle.ml_image.proofs.closing.close.Goals as goal

pub loop-i-init : goal.loop-i-init
loop-i-init c = record {
  images =
      λ s is. ap (λ (ns : List ℕ). sentence_image c.args.sig.now c.args.names.now
      (for_all (length c.args.sorts.now) ns s)) (drop-numbers c.args.sorts.now) ∙ is;
  gained = gained-nothing c.args.sig.now c.args.names.now;
}

pub sort_number-requires : goal.sort_number-requires
sort_number-requires c =
    let low : c.loop-i.i - 1 < length c.args.sorts.now =
    omega (arith, c.loop-i-test.true, c.loop-i.auto.i) in
    sort-item c.args.sig.now c.args.sorts.now (c.loop-i.i - 1) _ c.requires.sorts low
    (get_or_default _ _ _ _ low)

pub loop-i-preserved : goal.loop-i-preserved
loop-i-preserved c =
    let low : c.loop-i.i - 1 < length c.args.sorts.now =
    omega (arith, c.loop-i-test.true, c.loop-i.auto.i) in
    record {
      images =
          λ s is. closed-next c.args.sig.now c.loop-i.names c.sort_number.new.names c.args.sorts.now
          c.loop-i.i (c.loop-i.i - 1) (record { 0 = 0 }) s c.loop-i.made c.in_ok-sort.sort.0
          (omega (arith, c.loop-i-test.true)) low c.sort_number.ensures.names
          (c.loop-i.invariant.images s is) c.in_ok-sort.ensures.number
          ∙ ap (λ (p : Pattern). Some p) (sym c.in_ok-made.ensures);
      gained = gained_twice _ _ _ _ c.loop-i.invariant.gained c.sort_number.ensures.names;
    }

pub returns-clause-image : goal.returns-clause-image
returns-clause-image c = λ s is.
    let none : c.loop-i.i ≡ 0 = omega (arith, c.loop-i-test.false) in
    subst (λ (i : ℕ). sentence_image c.args.sig.now c.loop-i.names
    (for_all i (drop i (sort_numbers c.args.sorts.now)) s) ≡ Some c.loop-i.made) none
    (c.loop-i.invariant.images s is)

pub returns-in_err-sort-clause-names : goal.returns-in_err-sort-clause-names
returns-in_err-sort-clause-names c =
    gained_twice _ _ _ _ c.loop-i.invariant.gained c.sort_number.ensures.names

pub returns-in_err-made-clause-names : goal.returns-in_err-made-clause-names
returns-in_err-made-clause-names c =
    gained_twice _ _ _ _ c.loop-i.invariant.gained c.sort_number.ensures.names

pub returns-clause-names : goal.returns-clause-names
returns-clause-names c = c.loop-i.invariant.gained
