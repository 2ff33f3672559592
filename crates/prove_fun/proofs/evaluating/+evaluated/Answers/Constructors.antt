-- The answers of `constructed` and `all_evaluated`: constructors and their arguments.
use Rattle.std.proofs.Common.{◌≡◌, ◌<◌, ◌+◌, List, None, length, drop, refl, sym, ◌∙◌, ap, subst}
use Rattle.std.proofs.Common.{arith}
use Rattle.ml_pat.specs.Patterns.{Pattern, constant}
use Rattle.ml_kernel.specs.Lemmas.{HasNoVariable}
use Rattle.term_core.specs.Patterns.{ground_pattern, ground_patterns}
use Rattle.term_core.specs.RulePatterns.{plain_pattern}
use Rattle.term_core.specs.PatternLists.{plain_patterns}
use Rattle.rule_core.specs.declared.rules.Program.{Program}
use Rattle.rule_core.specs.Records.{Record, result_of, results_of}
use Rattle.rule_core.specs.RecordView.{plain_record}
use Rattle.ml_image.specs.Sentences.{term}
use Rattle.prove_term.specs.Contexts.{HasGrown}
use Rattle.prove_term.specs.Schemas.{AreImages}
use Rattle.prove_term.specs.Applications.{applied_to}
use Rattle.prove_term.specs.Comparing.{IsOverContext}
use Rattle.prove_term.specs.Filling.{filled}
use Rattle.prove_term.proofs.ResultLaws.{if_ok}
use Rattle.prove_term.proofs.ContextLaws.{grown_none, grown_twice, image_grown}
use Rattle.prove_term.proofs.ElementLaws.{images_grown}
use Rattle.prove_term.proofs.ComparingLaws.{image_closed}
use Rattle.prove_term.proofs.ComparingCalls.{over_applied, over_grown}
use Rattle.prove_term.proofs.ComparingLoop.{left_applied, none_left, next_pattern}
use Rattle.prove_fun.specs.RecordParts.{children_of}
use Rattle.prove_fun.specs.Evaluating.{AreRecorded, IsImage}
use Rattle.prove_fun.proofs.Equalities.{has_equal_grown, says_equal_to}
use Rattle.prove_fun.proofs.KeptLaws.{kept_grown}
use Rattle.prove_fun.proofs.Recording.{as_many_records, argument_recorded}
use Rattle.prove_fun.proofs.Sizes.{child_size}
use Rattle.prove_fun.proofs.Gathering.{IsGathered, as_many_images, image_at, gathered_none}
use Rattle.prove_fun.proofs.Gathering.{gathered_next, gathered_all}
use Rattle.prove_fun.proofs.Nodes.{IsConstructor, constructor_parts, constructor_evaluated}
use Rattle.prove_fun.proofs.evaluating.+evaluated.Goals as goal

-- ---- constructors

pub constructed-taken_apart-requires : goal.constructed-taken_apart-requires
constructed-taken_apart-requires t c =
    let w : IsConstructor c.args.cx.now c.args.subst.now c.requires.recorded.0 c.args.args.now
    (plain_record c.args.evaluation.now) c.args.image.now =
    constructor_parts c.args.cx.now c.args.subst.now _ c.requires.recorded.0 c.args.args.now
    (plain_record c.args.evaluation.now) c.args.image.now refl c.requires.recorded.1
    c.requires.image in
    (constant w.node.number, w.node.images, w.node.is, w.node.many)

pub constructed-all_evaluated-requires : goal.constructed-all_evaluated-requires
constructed-all_evaluated-requires t c =
    let w : IsConstructor c.args.cx.now c.args.subst.now c.requires.recorded.0 c.args.args.now
    (plain_record c.args.evaluation.now) c.args.image.now =
    constructor_parts c.args.cx.now c.args.subst.now _ c.requires.recorded.0 c.args.args.now
    (plain_record c.args.evaluation.now) c.args.image.now refl c.requires.recorded.1
    c.requires.image in
    let parts : (c.in_ok-parts.parts.head ≡ constant w.node.number) ×
    (c.in_ok-parts.parts.arguments.items ≡ w.node.images) =
    c.in_ok-parts.ensures (constant w.node.number) w.node.images w.node.is w.node.many in (
      omega (arith, c.decreases),
      (
        w.recorded,
        (
          subst (λ (q : Pattern). HasNoVariable q × IsOverContext c.args.cx.now q) (sym parts.0)
              w.node.head,
          (
            subst (λ (qs : List Pattern). AreImages c.args.cx.now.program.sig c.args.cx.now.names
                (ground_patterns
                (results_of (children_of (plain_record c.args.evaluation.now)))) qs)
                (sym (c.deref.ensures.value ∙ parts.1)) w.node.are_images,
            c.requires.kept,
          ),
        ),
      ),
    )

pub constructed-returns-clause-says : goal.constructed-returns-clause-says
constructed-returns-clause-says t c =
    if_ok c.all_evaluated.result
    (λ o says. λ f h.
    let w : IsConstructor c.args.cx.now c.args.subst.now f c.args.args.now
    (plain_record c.args.evaluation.now) c.args.image.now =
    constructor_parts c.args.cx.now c.args.subst.now _ f c.args.args.now
    (plain_record c.args.evaluation.now) c.args.image.now refl h c.requires.image in
    let parts : (c.in_ok-parts.parts.head ≡ constant w.node.number) ×
    (c.in_ok-parts.parts.arguments.items ≡ w.node.images) =
    c.in_ok-parts.ensures (constant w.node.number) w.node.images w.node.is w.node.many in
    constructor_evaluated c.args.cx.now c.all_evaluated.new.cx c.args.subst.now _ f c.args.args.now
    (children_of (plain_record c.args.evaluation.now)) c.args.image.now c.in_ok-parts.parts.head
    c.deref.result.now o
    refl w.node c.all_evaluated.ensures.grown parts.0 (c.deref.ensures.value ∙ parts.1) says)
    c.all_evaluated.ensures.says

-- ---- arguments

pub all_evaluated-loop-i-init : goal.all_evaluated-loop-i-init
all_evaluated-loop-i-init t c = record {
  done =
      subst (λ (q : Pattern).
      IsGathered c.args.cx.now c.args.subst.now c.args.args.now 0 c.args.head.now q None)
      (sym c.in_ok-function.ensures) (gathered_none c.args.cx.now c.args.subst.now
      c.args.args.now c.args.head.now c.requires.head.0);
  closed = subst HasNoVariable (sym c.in_ok-function.ensures) c.requires.head.0;
  over = subst (IsOverContext c.args.cx.now) (sym c.in_ok-function.ensures) c.requires.head.1;
  left = ap (λ (q : Pattern). applied_to q c.args.images.now) c.in_ok-function.ensures;
  grown = grown_none c.args.cx.now;
  kept = c.requires.kept;
}

pub all_evaluated-bounds-images-i : goal.all_evaluated-bounds-images-i
all_evaluated-bounds-images-i t c =
    let rs = children_of (plain_record c.args.evaluation.now) in
    omega (
      arith,
      c.loop-i-test.true,
      as_many_records c.args.cx.now.program c.args.subst.now c.args.args.now rs
          c.requires.recorded.records,
      as_many_images c.args.cx.now.program.sig c.args.cx.now.names rs c.args.images.now
          c.requires.images,
    )

pub all_evaluated-child-requires : goal.all_evaluated-child-requires
all_evaluated-child-requires t c =
    let rs = children_of (plain_record c.args.evaluation.now) in
    omega (
      arith,
      c.loop-i-test.true,
      as_many_records c.args.cx.now.program c.args.subst.now c.args.args.now rs
          c.requires.recorded.records,
    )

pub all_evaluated-evaluated-requires : goal.all_evaluated-evaluated-requires
all_evaluated-evaluated-requires t c =
    let rs = children_of (plain_record c.args.evaluation.now) in
    let q : Record = plain_record c.child.result.now in
    let h : AreRecorded c.loop-i.cx.program c.args.subst.now (plain_patterns c.args.args.now) rs =
    subst (λ (p : Program). AreRecorded p c.args.subst.now (plain_patterns c.args.args.now) rs)
    (sym c.loop-i.invariant.grown.program) c.requires.recorded in
    let images : AreImages c.loop-i.cx.program.sig c.loop-i.cx.names
    (ground_patterns (results_of rs)) c.args.images.now =
    images_grown c.args.cx.now c.loop-i.cx (ground_patterns (results_of rs)) c.args.images.now
    c.loop-i.invariant.grown c.requires.images in (
      omega (
        arith,
        child_size (plain_record c.args.evaluation.now) c.loop-i.i q c.child.ensures,
        c.decreases,
      ),
      (
        argument_recorded c.loop-i.cx.program c.args.subst.now c.args.args.now rs c.loop-i.i
            c.index-args-i.result q h c.loop-i-test.true c.index-args-i.is c.child.ensures,
        (
          image_at c.loop-i.cx.program.sig c.loop-i.cx.names rs c.args.images.now c.loop-i.i q
              c.index-images-i.result images c.child.ensures c.index-images-i.is,
          c.loop-i.invariant.kept,
        ),
      ),
    )

pub all_evaluated-applied-requires-clause-function :
    goal.all_evaluated-applied-requires-clause-function
all_evaluated-applied-requires-clause-function t c =
    let done = c.loop-i.invariant.done in
    says_equal_to c.loop-i.cx done.left c.loop-i.function c.loop-i.made done.closed done.equates

pub all_evaluated-applied-requires-clause-closed : goal.all_evaluated-applied-requires-clause-closed
all_evaluated-applied-requires-clause-closed t c =
    let rs = children_of (plain_record c.args.evaluation.now) in
    let q : Record = plain_record c.child.result.now in
    let image : IsImage c.args.cx.now (ground_pattern (result_of q)) c.index-images-i.result =
    image_at c.args.cx.now.program.sig c.args.cx.now.names rs c.args.images.now c.loop-i.i q
    c.index-images-i.result c.requires.images c.child.ensures c.index-images-i.is in (
      c.loop-i.invariant.closed,
      image_closed c.args.cx.now.program.sig c.args.cx.now.names (result_of q)
          c.index-images-i.result image,
    )

pub all_evaluated-loop-i-preserved : goal.all_evaluated-loop-i-preserved
all_evaluated-loop-i-preserved t c =
    let rs = children_of (plain_record c.args.evaluation.now) in
    let q : Record = plain_record c.child.result.now in
    let further : HasGrown c.evaluated.new.cx c.applied.new.cx = c.in_ok-made.ensures.grown in
    let g : HasGrown c.loop-i.cx c.applied.new.cx =
    grown_twice c.loop-i.cx c.evaluated.new.cx c.applied.new.cx c.in_ok-one.ensures.grown further in
    let all : HasGrown c.args.cx.now c.applied.new.cx =
    grown_twice c.args.cx.now c.loop-i.cx c.applied.new.cx c.loop-i.invariant.grown g in
    let image : IsImage c.args.cx.now (ground_pattern (result_of q)) c.index-images-i.result =
    image_at c.args.cx.now.program.sig c.args.cx.now.names rs c.args.images.now c.loop-i.i q
    c.index-images-i.result c.requires.images c.child.ensures c.index-images-i.is in
    let later : IsImage c.applied.new.cx (ground_pattern (result_of q)) c.index-images-i.result =
    image_grown c.args.cx.now c.applied.new.cx (term (ground_pattern (result_of q)))
    c.index-images-i.result all image in
    let closed : HasNoVariable c.index-images-i.result =
    image_closed c.args.cx.now.program.sig c.args.cx.now.names (result_of q)
    c.index-images-i.result image in
    let low : c.loop-i.i < length c.args.images.now =
    omega (
      arith,
      c.loop-i-test.true,
      as_many_records c.args.cx.now.program c.args.subst.now c.args.args.now rs
          c.requires.recorded.records,
      as_many_images c.args.cx.now.program.sig c.args.cx.now.names rs c.args.images.now
          c.requires.images,
    ) in
    record {
      done =
          subst (λ (f : Pattern). IsGathered c.applied.new.cx c.args.subst.now c.args.args.now
          (c.loop-i.i + 1) c.args.head.now f c.in_ok-made.made)
          (sym c.in_ok-function-2.ensures)
          (gathered_next c.loop-i.cx c.applied.new.cx c.args.subst.now c.args.args.now c.loop-i.i
          c.index-args-i.result c.args.head.now c.loop-i.function c.index-images-i.result
          c.loop-i.made c.in_ok-one.one c.in_ok-made.made
          g (next_pattern c.args.args.now c.loop-i.i c.index-args-i.result c.loop-i-test.true
          c.index-args-i.is) (over_grown c.loop-i.cx c.applied.new.cx c.loop-i.function g
          c.loop-i.invariant.over)
          (λ s has. has.images (term (ground_pattern (result_of q))) c.index-images-i.result later)
          c.loop-i.invariant.done (has_equal_grown c.evaluated.new.cx c.applied.new.cx
          (filled c.args.subst.now (plain_pattern c.index-args-i.result)) c.index-images-i.result
          c.in_ok-one.one further c.in_ok-one.ensures.says) c.in_ok-made.ensures.says);
      closed =
          subst HasNoVariable (sym c.in_ok-function-2.ensures) (c.loop-i.invariant.closed, closed);
      over =
          subst (IsOverContext c.applied.new.cx) (sym c.in_ok-function-2.ensures)
          (over_applied c.loop-i.cx c.applied.new.cx c.loop-i.function c.index-images-i.result
          (ground_pattern (result_of q)) g c.loop-i.invariant.over later);
      left =
          ap (λ (f : Pattern). applied_to f (drop (c.loop-i.i + 1) c.args.images.now))
          c.in_ok-function-2.ensures
          ∙
          sym (left_applied c.args.images.now c.loop-i.i c.loop-i.function
          c.index-images-i.result low c.index-images-i.is) ∙ c.loop-i.invariant.left;
      grown = all;
      kept =
          kept_grown c.evaluated.new.cx c.applied.new.cx c.evaluated.new.kept further c.in_ok-one.ensures.kept;
    }

pub all_evaluated-returns-clause-says : goal.all_evaluated-returns-clause-says
all_evaluated-returns-clause-says t c =
    let rs = children_of (plain_record c.args.evaluation.now) in
    let all : c.loop-i.i ≡ length c.args.args.now =
    omega (arith, c.loop-i-test.false, c.loop-i.auto.i-end) in
    let many : c.loop-i.i ≡ length c.args.images.now =
    omega (
      arith,
      all,
      as_many_records c.args.cx.now.program c.args.subst.now c.args.args.now rs
          c.requires.recorded.records,
      as_many_images c.args.cx.now.program.sig c.args.cx.now.names rs c.args.images.now
          c.requires.images,
    ) in
    gathered_all c.loop-i.cx c.args.subst.now c.args.args.now c.loop-i.i c.args.head.now
    c.loop-i.function (applied_to c.args.head.now c.args.images.now) c.loop-i.made
    (grown_none c.loop-i.cx) all
    (sym (none_left c.args.images.now c.loop-i.i c.loop-i.function many) ∙ c.loop-i.invariant.left)
    c.loop-i.invariant.done
