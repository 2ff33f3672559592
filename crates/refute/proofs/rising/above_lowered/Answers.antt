use Rattle.std.proofs.Common.{◌≡◌, Some, refl, sym, ◌∙◌, ap, subst}
use Rattle.ml_pat.specs.Patterns.{Pattern, imp, not, equal}
use Rattle.ml_pat.specs.Judgements.{substituted}
use Rattle.term_core.specs.Patterns.{injection, ground_pattern}
use Rattle.term_core.specs.Patterns.{Pattern as RulePattern}
use Rattle.term_core.specs.RulePatterns.{plain_pattern, sort_numbers}
use Rattle.ml_image.specs.Sentences.{term}
use Rattle.prove_term.specs.Contexts.{StaysIn}
use Rattle.prove_term.proofs.ContextLaws.{grown_none, stays_grown}
use Rattle.prove_term.proofs.ResultLaws.{if_ok_two}
use Rattle.prove_open.specs.declared.differences.Difference.TheVariants.{Unequal}
use Rattle.refute.proofs.Collapsed.{collapse_said, injects_below}
use Rattle.refute.proofs.Conversions.{unequal_parts, image_later, denies_unequal, covered_keeps}
use Rattle.refute.proofs.Conversions.{differs_marked}
use Rattle.refute.proofs.Growing.{new_is_high}
use Rattle.refute.proofs.Shapes.{HaveBoth, both_shape, IsUnequal, one_image, image_in}
use Rattle.refute.proofs.Shapes.{IsDenied, denial_read, equation_read, AreSame}
use Rattle.refute.proofs.Shapes.{not_same}
use Rattle.refute.proofs.rising.above_lowered.Goals as goal
use Rattle.refute.proofs.rising.above_lowered.Goals.{In_ok-once}

-- the pattern, the term as it is injected in two steps, and in one
abbrev pattern_of : In_ok-once → RulePattern
pattern_of c = injection c.args.through.0 c.args.to.0 (plain_pattern c.args.pat.now)

abbrev twice_of : In_ok-once → RulePattern
twice_of c =
    injection c.args.through.0 c.args.to.0
    (injection c.args.from.0 c.args.through.0 (ground_pattern c.args.term.now))

abbrev once_of : In_ok-once → RulePattern
once_of c = injection c.args.from.0 c.args.to.0 (ground_pattern c.args.term.now)

known : (c : In_ok-once)
    → IsUnequal c.args.cx.now c.args.setting.now.given.hypothesis (pattern_of c) (twice_of c)
    c.args.differ.now.conclusion
    × StaysIn c.args.cx.now c.args.differ.now
known c =
    unequal_parts c.args.cx.now _ _ _ (Unequal c.args.differ.now) c.args.differ.now refl
    c.requires.denies

once : (c : In_ok-once)
    → HaveBoth equal c.collapse_eq.new.cx (term (twice_of c)) (term (once_of c))
    c.in_ok-once.once.conclusion
once c =
    both_shape equal c.collapse_eq.new.cx (term (twice_of c)) (term (once_of c))
    c.in_ok-once.once.conclusion
    (collapse_said c.collapse_eq.new.cx c.args.from.0 c.args.through.0 c.args.to.0 c.args.term.now
    c.in_ok-once.once.conclusion c.in_ok-once.ensures.says)

-- what was read of both theorems
record IsAllRead (d : In_ok-once) (k p q made : Pattern) : Type 0 where
  hypothesis : k ≡ d.args.setting.now.given.hypothesis
  left : p ≡ (known d).0.left
  right : q ≡ (known d).0.right
  target : made ≡ (once d).right
  source : (once d).left ≡ (known d).0.right

all_read : (d : In_ok-once) (k n m p q from made : Pattern)
    → d.args.differ.now.conclusion ≡ imp k n → n ≡ not m → m ≡ equal p q
    → d.in_ok-once.once.conclusion ≡ equal from made → IsAllRead d k p q made
all_read d k n m p q from made outer denies equates merges =
    let e : IsDenied d.args.setting.now.given.hypothesis (known d).0.left (known d).0.right k n =
    denial_read d.args.differ.now.conclusion d.args.setting.now.given.hypothesis
    (known d).0.left (known d).0.right k n (known d).0.says outer in
    let sides : AreSame p q (known d).0.left (known d).0.right =
    equation_read p q (known d).0.left (known d).0.right
    (sym equates ∙ not_same m (equal (known d).0.left (known d).0.right) (sym denies ∙ e.second)) in
    let ends : AreSame from made (once d).left (once d).right =
    equation_read from made (once d).left (once d).right (sym merges ∙ (once d).says) in
    record {
      hypothesis = e.first;
      left = sides.left;
      right = sides.right;
      target = ends.right;
      source =
          one_image (image_in d.collapse_eq.new.cx (twice_of d)) (once d).left (known d).0.right
          (once d).is_left
          (image_later d.args.cx.now d.collapse_eq.new.cx (twice_of d) (known d).0.right
          d.in_ok-once.ensures.grown (known d).0.is_right);
    }

keeps_left : (d : In_ok-once) (k p q made u : Pattern) → IsAllRead d k p q made
    → substituted p d.args.setting.now.new.0 u ≡ Some p
keeps_left d k p q made u read =
    subst (λ (r : Pattern). substituted r d.args.setting.now.new.0 u ≡ Some r) (sym read.left)
    (covered_keeps d.args.cx.now (sort_numbers d.args.setting.now.sorts.now)
    d.args.setting.now.given (pattern_of d) d.requires.covered.sort d.args.setting.now.new.0
    (known d).0.left u d.requires.covered.left
    (new_is_high d.args.cx.now d.args.setting.now d.requires.setting) (known d).0.is_left)

pub equals-requires : goal.equals-requires
equals-requires c =
    let d = (goal.at.equals-requires c).In_ok-once in
    ((once d).left, (once d).right, c.conclusion.ensures ∙ (once d).says)

pub sides-requires : goal.sides-requires
sides-requires c =
    let d = (goal.at.sides-requires c).In_ok-once in (
      c.args.setting.now.given.hypothesis,
      not (equal (known d).0.left (known d).0.right),
      c.conclusion-2.ensures ∙ (known d).0.says,
    )

pub denied-requires : goal.denied-requires
denied-requires c =
    let d = (goal.at.denied-requires c).In_ok-once in
    let e =
    denial_read _ _ (known d).0.left (known d).0.right _ _ (known d).0.says
    (sym c.conclusion-2.ensures ∙ c.sides.ensures) in
    (equal (known d).0.left (known d).0.right, e.second)

pub equals-requires-2 : goal.equals-requires-2
equals-requires-2 c =
    let d = (goal.at.equals-requires-2 c).In_ok-once in
    let e =
    denial_read _ _ (known d).0.left (known d).0.right _ _ (known d).0.says
    (sym c.conclusion-2.ensures ∙ c.sides.ensures) in (
      (known d).0.left,
      (known d).0.right,
      not_same c.denied.result.now (equal (known d).0.left (known d).0.right)
          (sym c.denied.ensures ∙ e.second),
    )

pub unequal_to-requires-clause-a : goal.unequal_to-requires-clause-a
unequal_to-requires-clause-a c =
    sym c.conclusion-2.ensures ∙ c.sides.ensures
    ∙ ap (imp c.sides.result.0.now) (c.denied.ensures ∙ ap not c.equals-2.ensures)

pub unequal_to-requires-clause-eq : goal.unequal_to-requires-clause-eq
unequal_to-requires-clause-eq c =
    let d = (goal.at.unequal_to-requires-clause-eq c).In_ok-once in
    let read =
    all_read d c.sides.result.0.now c.sides.result.1.now c.denied.result.now
    c.equals-2.result.0.now c.equals-2.result.1.now c.equals.result.0.now c.equals.result.1.now
    (sym c.conclusion-2.ensures ∙ c.sides.ensures) c.denied.ensures c.equals-2.ensures
    (sym c.conclusion.ensures ∙ c.equals.ensures) in
    (once d).says
    ∙ ap (λ (p : Pattern). equal p (once d).right) (read.source ∙ sym read.right)
    ∙ ap (equal c.equals-2.result.1.now) (sym read.target)

pub unequal_to-requires-clause-from : goal.unequal_to-requires-clause-from
unequal_to-requires-clause-from c =
    let d = (goal.at.unequal_to-requires-clause-from c).In_ok-once in
    let read =
    all_read d c.sides.result.0.now c.sides.result.1.now c.denied.result.now
    c.equals-2.result.0.now c.equals-2.result.1.now c.equals.result.0.now c.equals.result.1.now
    (sym c.conclusion-2.ensures ∙ c.sides.ensures) c.denied.ensures c.equals-2.ensures
    (sym c.conclusion.ensures ∙ c.equals.ensures) in
    differs_marked c.equals-2.result.0.now c.equals-2.result.1.now c.args.setting.now.new.0
    (keeps_left d c.sides.result.0.now c.equals-2.result.0.now c.equals-2.result.1.now
    c.equals.result.1.now c.equals-2.result.1.now read)

pub unequal_to-requires-clause-to : goal.unequal_to-requires-clause-to
unequal_to-requires-clause-to c =
    let d = (goal.at.unequal_to-requires-clause-to c).In_ok-once in
    let read =
    all_read d c.sides.result.0.now c.sides.result.1.now c.denied.result.now
    c.equals-2.result.0.now c.equals-2.result.1.now c.equals.result.0.now c.equals.result.1.now
    (sym c.conclusion-2.ensures ∙ c.sides.ensures) c.denied.ensures c.equals-2.ensures
    (sym c.conclusion.ensures ∙ c.equals.ensures) in
    differs_marked c.equals-2.result.0.now c.equals.result.1.now c.args.setting.now.new.0
    (keeps_left d c.sides.result.0.now c.equals-2.result.0.now c.equals-2.result.1.now
    c.equals.result.1.now c.equals.result.1.now read)

pub returns-clause-denies : goal.returns-clause-denies
returns-clause-denies c =
    let d = (goal.at.returns-clause-denies c).In_ok-once in
    let read =
    all_read d c.sides.result.0.now c.sides.result.1.now c.denied.result.now
    c.equals-2.result.0.now c.equals-2.result.1.now c.equals.result.0.now c.equals.result.1.now
    (sym c.conclusion-2.ensures ∙ c.sides.ensures) c.denied.ensures c.equals-2.ensures
    (sym c.conclusion.ensures ∙ c.equals.ensures) in
    let new = c.collapse_eq.new.cx in
    let h : Pattern = c.args.setting.now.given.hypothesis in
    if_ok_two c.unequal_to.result
    (λ t says stays. denies_unequal new new h (pattern_of d) (once_of d) (known d).0.left
    (once d).right t (grown_none new)
    (image_later c.args.cx.now new (pattern_of d) (known d).0.left c.in_ok-once.ensures.grown
    (known d).0.is_left)
    (once d).is_right
    (says
    ∙ ap (λ (p : Pattern).
    imp p (not (equal c.equals-2.result.0.now c.equals.result.1.now))) read.hypothesis
    ∙ ap (λ (p : Pattern). imp h (not (equal p c.equals.result.1.now))) read.left
    ∙ ap (λ (p : Pattern). imp h (not (equal (known d).0.left p))) read.target)
    (λ s has. stays s (has.objects c.args.setting.now.new.0, tt) (
      stays_grown c.args.cx.now new c.args.differ.now c.in_ok-once.ensures.grown (known d).1 s
          has,
      (c.in_ok-once.ensures.stays s has, tt),
    )))
    c.unequal_to.ensures.conclusion c.unequal_to.ensures.stays

pub collapse_eq-requires-clause-below : goal.collapse_eq-requires-clause-below
collapse_eq-requires-clause-below c = c.requires.covered.right.sorted.3.2

pub collapse_eq-requires-clause-above : goal.collapse_eq-requires-clause-above
collapse_eq-requires-clause-above c =
    injects_below c.args.cx.now.program.sig (sort_numbers c.args.setting.now.sorts.now)
    c.args.through.0 c.args.to.0 (plain_pattern c.args.pat.now) c.requires.covered.sort
    c.requires.setting.well_sorted.signature c.requires.covered.left.sorted
