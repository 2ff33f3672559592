use Rattle.std.proofs.Common.{◌≡◌, ◌++◌, ◌∷◌, [], List, Bor, Some, ◌∙◌, ap, sym, subst, arith}
use Rattle.std.proofs.Common.{rules}
use Rattle.ml_pat.specs.Patterns.{Pattern}
use Rattle.ml_pat.specs.SpinePart.{spine_part}
use Rattle.ml_pat.specs.Spines.{LeadsTo}
use Rattle.ml_pat.proofs.SpineLaws.{LeadsTo-push, LeadsTo-pop, LeadsTo-smaller}
use Rattle.ml_kernel.specs.Renamings.{by_place}
use Rattle.ml_kernel.specs.StepView.{numbers_of}
use Rattle.ml_kernel.specs.Spines.{renamed_around}
use Rattle.ml_kernel.proofs.SpineLaws.{around-renamed}
use Rattle.ml_kernel.proofs.renaming.+renamed_pattern.Goals as goal

pub renamed_pattern-loop-part-preserved : goal.renamed_pattern-loop-part-preserved
renamed_pattern-loop-part-preserved t c =
    subst (λ (rs : List (Bor Pattern)). LeadsTo c.args.pat.now rs c.in-Some.part.now)
    (sym c.in_ok-push.ensures.items)
    (LeadsTo-push c.args.pat.now c.loop-part.above.items c.loop-part.lowest c.in-Some.part.now
    c.loop-part.invariant (search rules))

pub renamed_pattern-renamed_around-requires : goal.renamed_pattern-renamed_around-requires
renamed_pattern-renamed_around-requires t c =
    (omega (arith, LeadsTo-smaller _ _ _ c.loop-part.invariant, c.decreases), tt)

pub renamed_pattern-renamed_around-requires-in-Some-pop : goal.renamed_pattern-renamed_around-requires-in-Some-pop
renamed_pattern-renamed_around-requires-in-Some-pop t c =
    let way : LeadsTo c.args.pat.now (c.pop.new.self.items ++ c.in-Some-pop.whole ∷ [])
    c.loop-whole.invariant.0 =
    subst (λ (rs : List (Bor Pattern)). LeadsTo c.args.pat.now rs c.loop-whole.invariant.0)
    c.in-Some-pop.ensures.items c.loop-whole.invariant.1.0 in
    (omega (arith, LeadsTo-smaller _ _ _ (LeadsTo-pop _ _ _ _ way).0, c.decreases), tt)

pub renamed_pattern-loop-whole-preserved : goal.renamed_pattern-loop-whole-preserved
renamed_pattern-loop-whole-preserved t c =
    let way : LeadsTo c.args.pat.now (c.pop.new.self.items ++ c.in-Some-pop.whole ∷ [])
    c.loop-whole.invariant.0 =
    subst (λ (rs : List (Bor Pattern)). LeadsTo c.args.pat.now rs c.loop-whole.invariant.0)
    c.in-Some-pop.ensures.items c.loop-whole.invariant.1.0 in
    let above : LeadsTo c.args.pat.now c.pop.new.self.items c.in-Some-pop.whole.now ×
    (spine_part c.in-Some-pop.whole.now ≡ Some c.loop-whole.invariant.0) =
    LeadsTo-pop _ _ _ _ way in (
      c.in-Some-pop.whole.now,
      (
        above.0,
        c.in_ok-made-2.ensures
            ∙ ap (λ (p : Pattern). renamed_around (by_place (numbers_of c.args.new.now)) p c.in-Some-pop.whole.now)
            c.loop-whole.invariant.1.1
            ∙ around-renamed (by_place (numbers_of c.args.new.now)) c.in-Some-pop.whole.now c.loop-whole.invariant.0
            above.1,
      ),
    )
