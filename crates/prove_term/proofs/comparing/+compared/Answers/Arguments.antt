-- The answers for the arguments of a constructor, one after another.
use Rattle.std.proofs.Common.{◌≡◌, ◌<◌, ◌≤◌, ◌+◌, ℕ, List, Some, None, length, drop, ap, sym, ◌∙◌}
use Rattle.std.proofs.Common.{subst, arith}
use Rattle.ml_pat.specs.Patterns.{Pattern}
use Rattle.ml_kernel.specs.Lemmas.{HasNoVariable}
use Rattle.term_core.specs.RulePatterns.{plain_pattern}
use Rattle.term_core.specs.PatternLists.{plain_patterns}
use Rattle.term_core.specs.declared.rule_patterns.RulePat.{RulePat}
use Rattle.term_core.proofs.PatternLaws.{depth, depths, depth_of-item}
use Rattle.rule_core.specs.WellSorted.{IsSignature}
use Rattle.rule_core.specs.declared.rules.Program.{Program}
use Rattle.rule_core.specs.declared.signature.Signature.{Signature}
use Rattle.ml_image.specs.Images.{image_of}
use Rattle.ml_image.specs.Sentences.{term}
use Rattle.prove_term.specs.Applications.{applied_to}
use Rattle.prove_term.specs.Comparing.{MakesTerm, MakeTerms, Compares, IsOverContext}
use Rattle.prove_term.specs.Contexts.{HasGrown}
use Rattle.prove_term.proofs.ContextLaws.{grown_none, grown_twice, image_grown}
use Rattle.prove_term.proofs.ComparingCalls.{compares_grown, made_closed, made_again}
use Rattle.prove_term.proofs.ComparingCalls.{over_applied, over_grown}
use Rattle.prove_term.proofs.ComparingLoop.{AreDoneBefore, done_before_none, done_before_next}
use Rattle.prove_term.proofs.ComparingLoop.{done_before_all, made_item, made_says, compared_says}
use Rattle.prove_term.proofs.ComparingLoop.{left_applied, none_left, next_pattern}
use Rattle.prove_term.proofs.ComparingLaws.{as_many_made, as_many_images, image_item}
use Rattle.prove_term.proofs.ElementLaws.{images_grown}
use Rattle.prove_term.proofs.comparing.+compared.Goals as goal
use Rattle.prove_term.proofs.comparing.+compared.Goals.{all_compared-After-index-wholes-i}

as_many : (sig : Signature) (args ws : List RulePat)
    → MakeTerms sig (plain_patterns args) (plain_patterns ws) → length args ≡ length ws
as_many sig args ws made = as_many_made made.1 args ws made.3 made.4.make made.5

-- the term that the argument at hand becomes has this image
image_there : (t : ℕ) (c : all_compared-After-index-wholes-i t)
    → image_of c.loop-i.cx.program.sig c.loop-i.cx.names (plain_pattern c.index-wholes-i.result)
    ≡ Some c.index-images-i.result
image_there t c =
    image_item c.loop-i.cx.program.sig c.loop-i.cx.names c.args.wholes.now c.args.images.now
    c.loop-i.i c.index-wholes-i.result c.index-images-i.result
    (images_grown c.args.cx.now c.loop-i.cx (plain_patterns c.args.wholes.now) c.args.images.now
    c.loop-i.invariant.grown c.requires.images) (omega (
      arith,
      c.loop-i-test.true,
      as_many c.args.cx.now.program.sig c.args.args.now c.args.wholes.now c.requires.made,
    ))
    c.index-wholes-i.is c.index-images-i.is

one_made : (t : ℕ) (c : all_compared-After-index-wholes-i t)
    → MakesTerm c.loop-i.cx.program.sig (plain_pattern c.index-args-i.result)
    (plain_pattern c.index-wholes-i.result)
one_made t c =
    made_again c.args.cx.now c.loop-i.cx (plain_pattern c.index-args-i.result)
    (plain_pattern c.index-wholes-i.result) c.loop-i.invariant.grown
    (made_item c.args.cx.now.program.sig c.args.args.now c.args.wholes.now c.loop-i.i
    c.index-args-i.result c.index-wholes-i.result c.requires.made c.loop-i-test.true
    c.index-args-i.is c.index-wholes-i.is)

pub all_compared-loop-i-init : goal.all_compared-loop-i-init
all_compared-loop-i-init t c = record {
  done =
      subst (λ (q : Pattern). AreDoneBefore c.args.cx.now c.args.args.now c.args.wholes.now 0
      c.args.head.now q None) (sym c.in_ok-function.ensures)
      (done_before_none c.args.cx.now c.args.args.now c.args.wholes.now c.args.head.now);
  closed = subst HasNoVariable (sym c.in_ok-function.ensures) c.requires.head.0;
  over = subst (IsOverContext c.args.cx.now) (sym c.in_ok-function.ensures) c.requires.head.1;
  left = ap (λ (q : Pattern). applied_to q c.args.images.now) c.in_ok-function.ensures;
  grown = grown_none c.args.cx.now;
}

pub all_compared-bounds-images-i : goal.all_compared-bounds-images-i
all_compared-bounds-images-i t c =
    omega (
      arith,
      c.loop-i-test.true,
      as_many c.args.cx.now.program.sig c.args.args.now c.args.wholes.now c.requires.made,
      as_many_images c.args.cx.now.program.sig c.args.cx.now.names c.args.wholes.now
          c.args.images.now c.requires.images,
    )

pub all_compared-bounds-wholes-i : goal.all_compared-bounds-wholes-i
all_compared-bounds-wholes-i t c =
    omega (
      arith,
      c.loop-i-test.true,
      as_many c.args.cx.now.program.sig c.args.args.now c.args.wholes.now c.requires.made,
    )

pub all_compared-compared-requires : goal.all_compared-compared-requires
all_compared-compared-requires t c =
    let at = (goal.at.all_compared-compared-requires t c).After-index-wholes-i in
    let high : depth (plain_pattern c.index-args-i.result) ≤ depths
    (plain_patterns c.args.args.now) =
    depth_of-item c.args.args.now c.loop-i.i c.index-args-i.result c.index-args-i.is
    c.loop-i-test.true in (
      omega (arith, high, c.decreases),
      (
        subst (λ (program : Program). IsSignature program.sig)
            (sym c.loop-i.invariant.grown.program)
            c.requires.signature,
        (one_made t at, image_there t at),
      ),
    )

pub all_compared-applied-requires-clause-function :
    goal.all_compared-applied-requires-clause-function
all_compared-applied-requires-clause-function t c =
    made_says c.loop-i.cx c.args.args.now c.args.wholes.now c.loop-i.i c.args.head.now
    c.loop-i.function c.loop-i.made
    (subst (λ (program : Program). MakeTerms program.sig (plain_patterns c.args.args.now)
    (plain_patterns c.args.wholes.now)) (sym c.loop-i.invariant.grown.program)
    c.requires.made) c.loop-i.invariant.done

pub all_compared-applied-requires-clause-argument :
    goal.all_compared-applied-requires-clause-argument
all_compared-applied-requires-clause-argument t c =
    let at = (goal.at.all_compared-applied-requires-clause-argument t c).After-index-wholes-i in
    compared_says c.compared.new.cx (plain_pattern c.index-args-i.result)
    (plain_pattern c.index-wholes-i.result) c.index-images-i.result c.in_ok-one.one
    (made_again c.loop-i.cx c.compared.new.cx (plain_pattern c.index-args-i.result)
    (plain_pattern c.index-wholes-i.result) c.in_ok-one.ensures.grown (one_made t at))
    c.in_ok-one.ensures.says

pub all_compared-applied-requires-clause-closed : goal.all_compared-applied-requires-clause-closed
all_compared-applied-requires-clause-closed t c =
    let at = (goal.at.all_compared-applied-requires-clause-closed t c).After-index-wholes-i in (
      c.loop-i.invariant.closed,
      made_closed c.loop-i.cx (plain_pattern c.index-args-i.result)
          (plain_pattern c.index-wholes-i.result) c.index-images-i.result (one_made t at)
          (image_there t at),
    )

pub all_compared-loop-i-preserved : goal.all_compared-loop-i-preserved
all_compared-loop-i-preserved t c =
    let at = (goal.at.all_compared-loop-i-preserved t c).After-index-wholes-i in
    let low : c.loop-i.i < length c.args.args.now = c.loop-i-test.true in
    let g : HasGrown c.loop-i.cx c.applied.new.cx =
    grown_twice c.loop-i.cx c.compared.new.cx c.applied.new.cx c.in_ok-one.ensures.grown
    c.in_ok-made.ensures.grown in
    let says : Compares c.applied.new.cx (plain_pattern c.index-args-i.result)
    (plain_pattern c.index-wholes-i.result) c.index-images-i.result c.in_ok-one.one =
    compares_grown c.compared.new.cx c.applied.new.cx (plain_pattern c.index-args-i.result)
    (plain_pattern c.index-wholes-i.result) c.index-images-i.result c.in_ok-one.one
    c.in_ok-made.ensures.grown c.in_ok-one.ensures.says in
    let later : image_of c.applied.new.cx.program.sig c.applied.new.cx.names
    (plain_pattern c.index-wholes-i.result) ≡ Some c.index-images-i.result =
    image_grown c.loop-i.cx c.applied.new.cx (term (plain_pattern c.index-wholes-i.result))
    c.index-images-i.result g (image_there t at) in
    let closed : HasNoVariable c.index-images-i.result =
    made_closed c.loop-i.cx (plain_pattern c.index-args-i.result)
    (plain_pattern c.index-wholes-i.result) c.index-images-i.result (one_made t at)
    (image_there t at) in
    record {
      done =
          subst (λ (q : Pattern). AreDoneBefore c.applied.new.cx c.args.args.now c.args.wholes.now
          (c.loop-i.i + 1) c.args.head.now q c.in_ok-made.made)
          (sym c.in_ok-function-2.ensures)
          (done_before_next c.loop-i.cx c.applied.new.cx c.args.args.now c.args.wholes.now
          c.loop-i.i c.index-args-i.result c.index-wholes-i.result c.args.head.now
          c.loop-i.function c.index-images-i.result c.loop-i.made c.in_ok-one.one
          c.in_ok-made.made
          g low c.index-args-i.is c.index-wholes-i.is
          (next_pattern c.args.args.now c.loop-i.i c.index-args-i.result low c.index-args-i.is)
          c.loop-i.invariant.closed closed
          (over_grown c.loop-i.cx c.applied.new.cx c.loop-i.function g c.loop-i.invariant.over)
          later
          c.loop-i.invariant.done says c.in_ok-made.ensures.says);
      closed =
          subst HasNoVariable (sym c.in_ok-function-2.ensures) (c.loop-i.invariant.closed, closed);
      over =
          subst (IsOverContext c.applied.new.cx) (sym c.in_ok-function-2.ensures)
          (over_applied c.loop-i.cx c.applied.new.cx c.loop-i.function c.index-images-i.result
          (plain_pattern c.index-wholes-i.result) g c.loop-i.invariant.over later);
      left =
          ap (λ (q : Pattern). applied_to q (drop (c.loop-i.i + 1) c.args.images.now))
          c.in_ok-function-2.ensures
          ∙
          sym (left_applied c.args.images.now c.loop-i.i c.loop-i.function
          c.index-images-i.result (omega (
            arith,
            low,
            as_many c.args.cx.now.program.sig c.args.args.now c.args.wholes.now c.requires.made,
            as_many_images c.args.cx.now.program.sig c.args.cx.now.names
                c.args.wholes.now c.args.images.now c.requires.images,
          ))
          c.index-images-i.is) ∙ c.loop-i.invariant.left;
      grown = grown_twice c.args.cx.now c.loop-i.cx c.applied.new.cx c.loop-i.invariant.grown g;
    }

pub all_compared-returns-clause-says : goal.all_compared-returns-clause-says
all_compared-returns-clause-says t c =
    let many : length c.args.args.now ≡ length c.args.wholes.now =
    as_many c.args.cx.now.program.sig c.args.args.now c.args.wholes.now c.requires.made in
    let many' : length c.args.wholes.now ≡ length c.args.images.now =
    as_many_images c.args.cx.now.program.sig c.args.cx.now.names c.args.wholes.now
    c.args.images.now c.requires.images in
    let all : c.loop-i.i ≡ length c.args.args.now =
    omega (arith, c.loop-i-test.false, c.loop-i.auto.i-end) in
    done_before_all c.loop-i.cx c.args.args.now c.args.wholes.now c.args.head.now c.loop-i.function
    c.args.images.now c.loop-i.made
    (sym (none_left c.args.images.now c.loop-i.i c.loop-i.function (omega
    (arith, all, many, many'))) ∙ c.loop-i.invariant.left)
    (subst (λ (n : ℕ). AreDoneBefore c.loop-i.cx c.args.args.now c.args.wholes.now n c.args.head.now
    c.loop-i.function c.loop-i.made) all c.loop-i.invariant.done)

pub all_compared-returns-in_err-one-clause-grown : goal.all_compared-returns-in_err-one-clause-grown
all_compared-returns-in_err-one-clause-grown t c =
    grown_twice c.args.cx.now c.loop-i.cx c.compared.new.cx c.loop-i.invariant.grown
    c.in_err-one.ensures.grown

pub all_compared-returns-in_err-made-clause-grown :
    goal.all_compared-returns-in_err-made-clause-grown
all_compared-returns-in_err-made-clause-grown t c =
    grown_twice c.args.cx.now c.compared.new.cx c.applied.new.cx
    (grown_twice c.args.cx.now c.loop-i.cx c.compared.new.cx c.loop-i.invariant.grown
    c.in_ok-one.ensures.grown) c.in_err-made.ensures.grown

pub all_compared-returns-in_err-function-2-clause-grown :
    goal.all_compared-returns-in_err-function-2-clause-grown
all_compared-returns-in_err-function-2-clause-grown t c =
    grown_twice c.args.cx.now c.compared.new.cx c.applied.new.cx
    (grown_twice c.args.cx.now c.loop-i.cx c.compared.new.cx c.loop-i.invariant.grown
    c.in_ok-one.ensures.grown) c.in_ok-made.ensures.grown
