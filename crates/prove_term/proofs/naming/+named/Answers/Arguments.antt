-- The answers for the arguments of a symbol, one after another.
use Rattle.std.proofs.Common.{◌≡◌, ◌<◌, ◌≤◌, ◌+◌, ℕ, List, Some, None, length, drop, ap, sym, ◌∙◌}
use Rattle.std.proofs.Common.{subst, arith}
use Rattle.ml_pat.specs.Patterns.{Pattern, constant}
use Rattle.ml_kernel.specs.Lemmas.{HasNoVariable}
use Rattle.term_core.specs.RulePatterns.{plain_pattern}
use Rattle.term_core.specs.PatternLists.{plain_patterns}
use Rattle.term_core.specs.declared.rule_patterns.RulePat.{RulePat}
use Rattle.term_core.proofs.PatternLaws.{depth, depths, depth_of-item}
use Rattle.rule_core.specs.NamedParts.{Name}
use Rattle.rule_core.specs.WellSorted.{IsSignature}
use Rattle.rule_core.specs.declared.rules.Program.{Program}
use Rattle.rule_core.specs.declared.signature.Signature.{Signature}
use Rattle.ml_image.specs.Images.{image_of, symbol_image}
use Rattle.ml_image.specs.NamedSides.{of_child}
use Rattle.ml_image.specs.PartNames.{part_names}
use Rattle.ml_image.specs.Sentences.{term}
use Rattle.ml_image.specs.Tokens.{number_in_names, token_of_symbol}
use Rattle.prove_term.specs.Applications.{applied_to}
use Rattle.prove_term.specs.Contexts.{Context, HasGrown}
use Rattle.prove_term.specs.Naming.{MakesNamed, MakeNamed, ComparesNamed}
use Rattle.prove_term.proofs.ComparingLaws.{as_many_made, as_many_images, image_item}
use Rattle.prove_term.proofs.ComparingLoop.{left_applied, none_left}
use Rattle.prove_term.proofs.ContextLaws.{grown_none, grown_twice}
use Rattle.prove_term.proofs.ElementLaws.{images_grown}
use Rattle.prove_term.proofs.ImageShapes.{map_some}
use Rattle.prove_term.proofs.NamingCalls.{AreNamedBefore, named_says, named_closed, makes_grown}
use Rattle.prove_term.proofs.NamingCalls.{named_grown, named_before_none, named_before_next}
use Rattle.prove_term.proofs.NamingCalls.{named_before_all, before_says, named_item_makes}
use Rattle.prove_term.proofs.naming.+named.Goals as goal
use Rattle.prove_term.proofs.naming.+named.Goals.{all_named-After-index-wholes-i}
use Rattle.prove_term.proofs.naming.+named.Goals.{all_named-In_ok-one}

symbol_closed : (cx : Context) (f : ℕ) (head : Pattern)
    → symbol_image cx.program.sig cx.names f ≡ Some head → HasNoVariable head
symbol_closed cx f head is =
    let c : (n : ℕ) × (number_in_names cx.names (token_of_symbol cx.program.sig f) ≡ Some n)
    × (head ≡ constant n) =
    map_some constant (number_in_names cx.names (token_of_symbol cx.program.sig f)) head is in
    subst HasNoVariable (sym c.2) tt

as_many : (sig : Signature) (names : List Name) (args ws : List RulePat)
    → MakeNamed sig names (plain_patterns args) (plain_patterns ws) → length args ≡ length ws
as_many sig names args ws made = as_many_made made.1 args ws made.3 made.4.instances.make made.5

pub all_named-loop-i-init : goal.all_named-loop-i-init
all_named-loop-i-init t c = record {
  done =
      subst (λ (q : Pattern). AreNamedBefore c.args.cx.now c.args.cx.now
      (part_names c.args.names.now) c.args.args.now c.args.wholes.now 0 c.args.head.now q None)
      (sym c.in_ok-function.ensures)
      (named_before_none c.args.cx.now (part_names c.args.names.now) c.args.args.now
      c.args.wholes.now c.args.head.now);
  closed =
      subst HasNoVariable (sym c.in_ok-function.ensures)
      (symbol_closed c.args.cx.now c.requires.head.0 c.args.head.now c.requires.head.1);
  left = ap (λ (q : Pattern). applied_to q c.args.images.now) c.in_ok-function.ensures;
  grown = grown_none c.args.cx.now;
}

pub all_named-bounds-images-i : goal.all_named-bounds-images-i
all_named-bounds-images-i t c =
    omega (
      arith,
      c.loop-i-test.true,
      as_many c.args.cx.now.program.sig (part_names c.args.names.now) c.args.args.now
          c.args.wholes.now c.requires.made,
      as_many_images c.args.cx.now.program.sig c.args.cx.now.names c.args.wholes.now
          c.args.images.now c.requires.images,
    )

pub all_named-bounds-wholes-i : goal.all_named-bounds-wholes-i
all_named-bounds-wholes-i t c =
    omega (
      arith,
      c.loop-i-test.true,
      as_many c.args.cx.now.program.sig (part_names c.args.names.now) c.args.args.now
          c.args.wholes.now c.requires.made,
    )

pub all_named-named_compared-requires : goal.all_named-named_compared-requires
all_named-named_compared-requires t c =
    let high : depth (plain_pattern c.index-args-i.result) ≤ depths
    (plain_patterns c.args.args.now) =
    depth_of-item c.args.args.now c.loop-i.i c.index-args-i.result c.index-args-i.is
    c.loop-i-test.true in
    let inside : part_names c.deref.result.now ≡ of_child c.loop-i.i (part_names c.args.names.now) =
    ap part_names c.deref.ensures.value ∙ c.in_ok-inside.ensures in (
      omega (arith, high, c.decreases),
      (
        subst (λ (program : Program). IsSignature program.sig)
            (sym c.loop-i.invariant.grown.program) c.requires.signature,
        (
          subst (λ (ns : List Name). MakesNamed c.loop-i.cx.program.sig ns
              (plain_pattern c.index-args-i.result) (plain_pattern c.index-wholes-i.result))
              (sym inside)
              (makes_grown c.args.cx.now c.loop-i.cx (of_child c.loop-i.i
              (part_names c.args.names.now)) (plain_pattern c.index-args-i.result)
              (plain_pattern c.index-wholes-i.result) c.loop-i.invariant.grown
              (named_item_makes c.args.cx.now.program.sig (part_names c.args.names.now)
              c.args.args.now c.args.wholes.now c.loop-i.i c.index-args-i.result
              c.index-wholes-i.result c.requires.made c.loop-i-test.true c.index-args-i.is
              c.index-wholes-i.is)),
          image_item c.loop-i.cx.program.sig c.loop-i.cx.names c.args.wholes.now
              c.args.images.now c.loop-i.i c.index-wholes-i.result c.index-images-i.result
              (images_grown c.args.cx.now c.loop-i.cx (plain_patterns c.args.wholes.now)
              c.args.images.now c.loop-i.invariant.grown c.requires.images) (omega (
                arith,
                c.loop-i-test.true,
                as_many c.args.cx.now.program.sig (part_names c.args.names.now) c.args.args.now
                    c.args.wholes.now c.requires.made,
              )) c.index-wholes-i.is c.index-images-i.is,
        ),
      ),
    )

-- the names of the argument at hand
inside_is : (t : ℕ) (c : all_named-After-index-wholes-i t)
    → part_names c.deref.result.now ≡ of_child c.loop-i.i (part_names c.args.names.now)
inside_is t c = ap part_names c.deref.ensures.value ∙ c.in_ok-inside.ensures

-- the term that the argument at hand becomes has this image
image_there : (t : ℕ) (c : all_named-After-index-wholes-i t)
    → image_of c.loop-i.cx.program.sig c.loop-i.cx.names (plain_pattern c.index-wholes-i.result)
    ≡ Some c.index-images-i.result
image_there t c =
    image_item c.loop-i.cx.program.sig c.loop-i.cx.names c.args.wholes.now c.args.images.now
    c.loop-i.i c.index-wholes-i.result c.index-images-i.result
    (images_grown c.args.cx.now c.loop-i.cx (plain_patterns c.args.wholes.now) c.args.images.now
    c.loop-i.invariant.grown c.requires.images) (omega (
      arith,
      c.loop-i-test.true,
      as_many c.args.cx.now.program.sig (part_names c.args.names.now) c.args.args.now
          c.args.wholes.now c.requires.made,
    ))
    c.index-wholes-i.is c.index-images-i.is

one_made : (t : ℕ) (c : all_named-After-index-wholes-i t)
    → MakesNamed c.loop-i.cx.program.sig (of_child c.loop-i.i (part_names c.args.names.now))
    (plain_pattern c.index-args-i.result) (plain_pattern c.index-wholes-i.result)
one_made t c =
    makes_grown c.args.cx.now c.loop-i.cx (of_child c.loop-i.i (part_names c.args.names.now))
    (plain_pattern c.index-args-i.result) (plain_pattern c.index-wholes-i.result)
    c.loop-i.invariant.grown
    (named_item_makes c.args.cx.now.program.sig (part_names c.args.names.now) c.args.args.now
    c.args.wholes.now c.loop-i.i c.index-args-i.result c.index-wholes-i.result c.requires.made
    c.loop-i-test.true c.index-args-i.is c.index-wholes-i.is)

one_says : (t : ℕ) (c : all_named-In_ok-one t)
    → ComparesNamed c.named_compared.new.cx (of_child c.loop-i.i (part_names c.args.names.now))
    (plain_pattern c.index-args-i.result) (plain_pattern c.index-wholes-i.result)
    c.index-images-i.result c.in_ok-one.one
one_says t c =
    subst (λ (ns : List Name). ComparesNamed c.named_compared.new.cx ns
    (plain_pattern c.index-args-i.result) (plain_pattern c.index-wholes-i.result)
    c.index-images-i.result c.in_ok-one.one)
    (ap part_names c.deref.ensures.value ∙ c.in_ok-inside.ensures) c.in_ok-one.ensures.says

pub all_named-applied-requires-clause-function : goal.all_named-applied-requires-clause-function
all_named-applied-requires-clause-function t c =
    before_says c.args.cx.now c.loop-i.cx (part_names c.args.names.now) c.args.args.now
    c.args.wholes.now c.loop-i.i c.requires.head.0 c.args.head.now c.loop-i.function c.loop-i.made
    (subst (λ (program : Program). MakeNamed program.sig (part_names c.args.names.now)
    (plain_patterns c.args.args.now) (plain_patterns c.args.wholes.now))
    (sym c.loop-i.invariant.grown.program) c.requires.made) c.requires.head.1
    c.loop-i.invariant.done

pub all_named-applied-requires-clause-argument : goal.all_named-applied-requires-clause-argument
all_named-applied-requires-clause-argument t c =
    let at = goal.at.all_named-applied-requires-clause-argument t c in
    named_says c.named_compared.new.cx (of_child c.loop-i.i (part_names c.args.names.now))
    (plain_pattern c.index-args-i.result) (plain_pattern c.index-wholes-i.result)
    c.index-images-i.result c.in_ok-one.one
    (makes_grown c.loop-i.cx c.named_compared.new.cx
    (of_child c.loop-i.i (part_names c.args.names.now)) (plain_pattern c.index-args-i.result)
    (plain_pattern c.index-wholes-i.result) c.in_ok-one.ensures.grown
    (one_made t at.After-index-wholes-i))
    (one_says t at.In_ok-one)

pub all_named-applied-requires-clause-closed : goal.all_named-applied-requires-clause-closed
all_named-applied-requires-clause-closed t c =
    let at = (goal.at.all_named-applied-requires-clause-closed t c).After-index-wholes-i in (
      c.loop-i.invariant.closed,
      named_closed c.loop-i.cx (of_child c.loop-i.i (part_names c.args.names.now))
          (plain_pattern c.index-args-i.result) (plain_pattern c.index-wholes-i.result)
          c.index-images-i.result (one_made t at) (image_there t at),
    )

pub all_named-loop-i-preserved : goal.all_named-loop-i-preserved
all_named-loop-i-preserved t c =
    let at = (goal.at.all_named-loop-i-preserved t c).After-index-wholes-i in
    let low : c.loop-i.i < length c.args.args.now = c.loop-i-test.true in
    let g : HasGrown c.loop-i.cx c.applied.new.cx =
    grown_twice c.loop-i.cx c.named_compared.new.cx c.applied.new.cx c.in_ok-one.ensures.grown
    c.in_ok-made.ensures.grown in
    let says : ComparesNamed c.applied.new.cx (of_child c.loop-i.i (part_names c.args.names.now))
    (plain_pattern c.index-args-i.result) (plain_pattern c.index-wholes-i.result)
    c.index-images-i.result c.in_ok-one.one =
    named_grown c.named_compared.new.cx c.applied.new.cx
    (of_child c.loop-i.i (part_names c.args.names.now)) (plain_pattern c.index-args-i.result)
    (plain_pattern c.index-wholes-i.result) c.index-images-i.result c.in_ok-one.one
    c.in_ok-made.ensures.grown
    (one_says t (goal.at.all_named-loop-i-preserved t c).In_ok-one) in
    let closed : HasNoVariable c.index-images-i.result =
    named_closed c.loop-i.cx (of_child c.loop-i.i (part_names c.args.names.now))
    (plain_pattern c.index-args-i.result) (plain_pattern c.index-wholes-i.result)
    c.index-images-i.result (one_made t at) (image_there t at) in
    record {
      done =
          subst (λ (q : Pattern). AreNamedBefore c.args.cx.now c.applied.new.cx
          (part_names c.args.names.now) c.args.args.now c.args.wholes.now (c.loop-i.i + 1)
          c.args.head.now q c.in_ok-made.made) (sym c.in_ok-function-2.ensures)
          (named_before_next c.args.cx.now c.loop-i.cx c.applied.new.cx
          (part_names c.args.names.now) c.args.args.now c.args.wholes.now c.loop-i.i
          c.index-args-i.result c.index-wholes-i.result c.args.head.now c.loop-i.function
          c.index-images-i.result c.loop-i.made c.in_ok-one.one c.in_ok-made.made g low
          c.index-args-i.is c.index-wholes-i.is c.loop-i.invariant.closed closed
          c.loop-i.invariant.done says c.in_ok-made.ensures.says);
      closed =
          subst HasNoVariable (sym c.in_ok-function-2.ensures) (c.loop-i.invariant.closed, closed);
      left =
          ap (λ (q : Pattern). applied_to q (drop (c.loop-i.i + 1) c.args.images.now))
          c.in_ok-function-2.ensures
          ∙
          sym (left_applied c.args.images.now c.loop-i.i c.loop-i.function
          c.index-images-i.result (omega (
            arith,
            low,
            as_many c.args.cx.now.program.sig (part_names c.args.names.now) c.args.args.now
                c.args.wholes.now c.requires.made,
            as_many_images c.args.cx.now.program.sig c.args.cx.now.names
                c.args.wholes.now c.args.images.now c.requires.images,
          ))
          c.index-images-i.is) ∙ c.loop-i.invariant.left;
      grown = grown_twice c.args.cx.now c.loop-i.cx c.applied.new.cx c.loop-i.invariant.grown g;
    }

pub all_named-returns-clause-says : goal.all_named-returns-clause-says
all_named-returns-clause-says t c =
    let many : length c.args.args.now ≡ length c.args.wholes.now =
    as_many c.args.cx.now.program.sig (part_names c.args.names.now) c.args.args.now
    c.args.wholes.now c.requires.made in
    let many' : length c.args.wholes.now ≡ length c.args.images.now =
    as_many_images c.args.cx.now.program.sig c.args.cx.now.names c.args.wholes.now
    c.args.images.now c.requires.images in
    let all : c.loop-i.i ≡ length c.args.args.now =
    omega (arith, c.loop-i-test.false, c.loop-i.auto.i-end) in
    named_before_all c.args.cx.now c.loop-i.cx (part_names c.args.names.now) c.args.args.now
    c.args.wholes.now c.args.head.now c.loop-i.function c.args.images.now c.loop-i.made
    (sym (none_left c.args.images.now c.loop-i.i c.loop-i.function (omega
    (arith, all, many, many'))) ∙ c.loop-i.invariant.left)
    (subst (λ (n : ℕ). AreNamedBefore c.args.cx.now c.loop-i.cx (part_names c.args.names.now)
    c.args.args.now c.args.wholes.now n c.args.head.now c.loop-i.function c.loop-i.made) all
    c.loop-i.invariant.done)

pub all_named-returns-in_err-one-clause-grown : goal.all_named-returns-in_err-one-clause-grown
all_named-returns-in_err-one-clause-grown t c =
    grown_twice c.args.cx.now c.loop-i.cx c.named_compared.new.cx c.loop-i.invariant.grown
    c.in_err-one.ensures.grown

pub all_named-returns-in_err-made-clause-grown : goal.all_named-returns-in_err-made-clause-grown
all_named-returns-in_err-made-clause-grown t c =
    grown_twice c.args.cx.now c.named_compared.new.cx c.applied.new.cx
    (grown_twice c.args.cx.now c.loop-i.cx c.named_compared.new.cx c.loop-i.invariant.grown
    c.in_ok-one.ensures.grown) c.in_err-made.ensures.grown

pub all_named-returns-in_err-function-2-clause-grown :
    goal.all_named-returns-in_err-function-2-clause-grown
all_named-returns-in_err-function-2-clause-grown t c =
    grown_twice c.args.cx.now c.named_compared.new.cx c.applied.new.cx
    (grown_twice c.args.cx.now c.loop-i.cx c.named_compared.new.cx c.loop-i.invariant.grown
    c.in_ok-one.ensures.grown) c.in_ok-made.ensures.grown
