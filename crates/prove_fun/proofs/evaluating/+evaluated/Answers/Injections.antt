-- The answers of `injected`: an injection, by the pattern below it.
use Rattle.std.proofs.Common.{◌≡◌, ◌≤◌, ℕ, List, Option, Some, length, slice_get, sym, ◌∙◌, ap}
use Rattle.std.proofs.Common.{subst, arith}
use Rattle.ml_pat.specs.Patterns.{Pattern, app}
use Rattle.ml_kernel.specs.Lemmas.{HasNoVariable}
use Rattle.ml_kernel.specs.Theorems.{Theorem}
use Rattle.term_core.specs.Terms.{Tree, height, injected}
use Rattle.term_core.specs.Patterns.{Pattern as RulePattern, injection, ground_pattern}
use Rattle.term_core.specs.RulePatterns.{plain_pattern}
use Rattle.rule_core.specs.declared.rules.Program.{Program}
use Rattle.rule_core.specs.Records.{Record, result_of}
use Rattle.rule_core.specs.RecordView.{plain_record}
use Rattle.rule_core.specs.Sorting.{IsTermOf}
use Rattle.ml_image.specs.Sentences.{term}
use Rattle.prove_term.specs.Contexts.{Context, HasGrown}
use Rattle.prove_term.proofs.ResultLaws.{if_ok}
use Rattle.prove_term.proofs.ContextLaws.{grown_twice, image_grown}
use Rattle.prove_term.proofs.ComparingLaws.{image_closed, closed-injection}
use Rattle.prove_term.proofs.ComparingInjections.{HasHalves, halves_of, halves_there}
use Rattle.prove_term.specs.Filling.{filled}
use Rattle.prove_fun.specs.RecordParts.{children}
use Rattle.prove_fun.specs.Evaluating.{IsRecorded, IsImage, Equates, HasEqual, IsEvaluated}
use Rattle.prove_fun.specs.Evaluating.{IsInjectedOnce}
use Rattle.prove_fun.proofs.Equalities.{equates_grown, has_equal_grown}
use Rattle.prove_fun.proofs.Recording.{IsInjection, injection_recorded}
use Rattle.prove_fun.proofs.Sizes.{child_size}
use Rattle.prove_fun.proofs.KeptLaws.{kept_grown}
use Rattle.prove_fun.proofs.Injecting.{only_child, beneath_evaluated, injected_linked}
use Rattle.prove_fun.proofs.Injecting.{joined_equal}
use Rattle.prove_fun.proofs.evaluating.+evaluated.Goals as goal

pub injected-child-inner-requires : goal.injected-child-inner-requires
injected-child-inner-requires t c =
    let i : IsInjection c.args.cx.now.program c.args.subst.now c.args.from.0 c.args.to.0
    (plain_pattern c.args.below.now) (plain_record c.args.evaluation.now) =
    injection_recorded c.args.cx.now.program c.args.subst.now c.args.from.0 c.args.to.0
    (plain_pattern c.args.below.now) (plain_record c.args.evaluation.now) c.requires.recorded in
    omega (arith, ap (λ (rs : List Record). length rs) i.only)

pub injected-injected_once-requires-clause-sorted :
    goal.injected-injected_once-requires-clause-sorted
injected-injected_once-requires-clause-sorted t c =
    let i : IsInjection c.args.cx.now.program c.args.subst.now c.args.from.0 c.args.to.0
    (plain_pattern c.args.below.now) (plain_record c.args.evaluation.now) =
    injection_recorded c.args.cx.now.program c.args.subst.now c.args.from.0 c.args.to.0
    (plain_pattern c.args.below.now) (plain_record c.args.evaluation.now) c.requires.recorded in
    let is : plain_record c.child-inner.result.now ≡ i.below =
    only_child (children (plain_record c.args.evaluation.now)) i.below
    (plain_record c.child-inner.result.now) i.only c.child-inner.ensures in
    subst (λ (u : Tree). IsTermOf c.args.cx.now.program.sig u c.args.from.0)
    (sym (c.result.ensures ∙ ap result_of is)) i.sorted

pub injected-injected_once-requires-clause-injects :
    goal.injected-injected_once-requires-clause-injects
injected-injected_once-requires-clause-injects t c =
    (injection_recorded c.args.cx.now.program c.args.subst.now c.args.from.0 c.args.to.0
    (plain_pattern c.args.below.now) (plain_record c.args.evaluation.now)
    c.requires.recorded).injects

pub injected-injected_once-requires-clause-low : goal.injected-injected_once-requires-clause-low
injected-injected_once-requires-clause-low t c =
    let i : IsInjection c.args.cx.now.program c.args.subst.now c.args.from.0 c.args.to.0
    (plain_pattern c.args.below.now) (plain_record c.args.evaluation.now) =
    injection_recorded c.args.cx.now.program c.args.subst.now c.args.from.0 c.args.to.0
    (plain_pattern c.args.below.now) (plain_record c.args.evaluation.now) c.requires.recorded in
    let is : plain_record c.child-inner.result.now ≡ i.below =
    only_child (children (plain_record c.args.evaluation.now)) i.below
    (plain_record c.child-inner.result.now) i.only c.child-inner.ensures in
    subst (λ (u : Tree). height (injected c.args.from.0 c.args.to.0 u) ≤ 500)
    (sym (c.result.ensures ∙ ap result_of is)) i.low

-- the image of the injection as it is written, in a context that has also the image of the direct
-- injection
abbrev Once : (cx : Context) (a b : ℕ) (u : Tree) (image : Pattern) (o : Option Theorem) → Type 0
Once cx a b u image o = HasEqual cx (injection a b (ground_pattern u)) image o

once_of : (old cx : Context) (theta : List (Option Tree)) (a b : ℕ) (p : RulePattern) (r q : Record)
    (u : Tree) (image : Pattern) (o : Option Theorem) → HasGrown old cx
    → IsRecorded old.program theta (injection a b p) r → slice_get (children r) 0 ≡ Some q
    → u ≡ result_of q → IsImage old (ground_pattern (result_of r)) image → IsInjectedOnce cx a b u o
    → Once cx a b u image o
once_of old cx theta a b p r q u image o g h there is image_is once =
    let i : IsInjection old.program theta a b p r =
    injection_recorded old.program theta a b p r h in
    let same : q ≡ i.below = only_child (children r) i.below q i.only there in
    let whole : result_of r ≡ injected a b u =
    i.makes ∙ ap (injected a b) (sym (is ∙ ap result_of same)) in
    once image (subst (λ (x : Tree). IsImage cx (ground_pattern x) image) whole
    (image_grown old cx (term (ground_pattern (result_of r))) image g image_is))

pub injected-as_written-requires : goal.injected-as_written-requires
injected-as_written-requires t c =
    let once : Once c.injected_once.new.cx c.args.from.0 c.args.to.0 c.result.result.now
    c.args.image.now c.in_ok-once.once =
    once_of c.args.cx.now c.injected_once.new.cx c.args.subst.now c.args.from.0 c.args.to.0
    (plain_pattern c.args.below.now) (plain_record c.args.evaluation.now)
    (plain_record c.child-inner.result.now) c.result.result.now c.args.image.now
    c.in_ok-once.once
    c.in_ok-once.ensures.grown c.requires.recorded c.child-inner.ensures c.result.ensures
    c.requires.image c.in_ok-once.ensures.says in
    (c.injected_once.new.cx, once.left, once.equates)

pub injected-halves-requires : goal.injected-halves-requires
injected-halves-requires t c =
    let once : Once c.injected_once.new.cx c.args.from.0 c.args.to.0 c.result.result.now
    c.args.image.now c.in_ok-once.once =
    once_of c.args.cx.now c.injected_once.new.cx c.args.subst.now c.args.from.0 c.args.to.0
    (plain_pattern c.args.below.now) (plain_record c.args.evaluation.now)
    (plain_record c.child-inner.result.now) c.result.result.now c.args.image.now
    c.in_ok-once.once
    c.in_ok-once.ensures.grown c.requires.recorded c.child-inner.ensures c.result.ensures
    c.requires.image c.in_ok-once.ensures.says in
    let whole : c.in_ok-whole.whole ≡ once.left =
    c.in_ok-whole.ensures c.injected_once.new.cx once.left once.equates in
    halves_there c.injected_once.new.cx c.args.from.0 c.args.to.0
    (ground_pattern c.result.result.now) c.in_ok-whole.whole
    (once.left_image ∙ ap (λ (q : Pattern). Some q) (sym whole))

-- the parts around and below the injection
record IsSplit (cx : Context) (a b : ℕ) (u : Tree) (image whole head argument : Pattern)
    (o : Option Theorem) : Type 0 where
  is_whole : IsImage cx (injection a b (ground_pattern u)) whole
  halves : HasHalves cx a b (ground_pattern u) head argument
  equates : Equates cx whole image o
  closed_head : HasNoVariable head
  closed_argument : HasNoVariable argument

split_of : (cx : Context) (a b : ℕ) (u : Tree) (image whole head argument : Pattern)
    (o : Option Theorem) → (once : Once cx a b u image o) → whole ≡ once.left
    → whole ≡ app head argument → IsSplit cx a b u image whole head argument o
split_of cx a b u image whole head argument o once is split =
    let own : IsImage cx (injection a b (ground_pattern u)) whole =
    once.left_image ∙ ap (λ (q : Pattern). Some q) (sym is) in
    let halves : HasHalves cx a b (ground_pattern u) head argument =
    halves_of cx a b (ground_pattern u) whole head argument own split in
    record {
      is_whole = own;
      halves = halves;
      equates = subst (λ (q : Pattern). Equates cx q image o) (sym is) once.equates;
      closed_head = closed-injection cx.program.sig cx.names a b head halves.is_head;
      closed_argument = image_closed cx.program.sig cx.names u argument halves.is_argument;
    }

pub injected-evaluated-requires : goal.injected-evaluated-requires
injected-evaluated-requires t c =
    let once : Once c.injected_once.new.cx c.args.from.0 c.args.to.0 c.result.result.now
    c.args.image.now c.in_ok-once.once =
    once_of c.args.cx.now c.injected_once.new.cx c.args.subst.now c.args.from.0 c.args.to.0
    (plain_pattern c.args.below.now) (plain_record c.args.evaluation.now)
    (plain_record c.child-inner.result.now) c.result.result.now c.args.image.now
    c.in_ok-once.once
    c.in_ok-once.ensures.grown c.requires.recorded c.child-inner.ensures c.result.ensures
    c.requires.image c.in_ok-once.ensures.says in
    let split =
    split_of c.injected_once.new.cx c.args.from.0 c.args.to.0 c.result.result.now
    c.args.image.now c.in_ok-whole.whole c.halves.result.0.now c.halves.result.1.now
    c.in_ok-once.once once
    (c.in_ok-whole.ensures c.injected_once.new.cx once.left once.equates)
    c.halves.ensures in
    let i : IsInjection c.args.cx.now.program c.args.subst.now c.args.from.0 c.args.to.0
    (plain_pattern c.args.below.now) (plain_record c.args.evaluation.now) =
    injection_recorded c.args.cx.now.program c.args.subst.now c.args.from.0 c.args.to.0
    (plain_pattern c.args.below.now) (plain_record c.args.evaluation.now) c.requires.recorded in
    let is : plain_record c.child-inner.result.now ≡ i.below =
    only_child (children (plain_record c.args.evaluation.now)) i.below
    (plain_record c.child-inner.result.now) i.only c.child-inner.ensures in
    let h : IsRecorded c.args.cx.now.program c.args.subst.now (plain_pattern c.args.below.now)
    (plain_record c.child-inner.result.now) =
    subst (IsRecorded c.args.cx.now.program c.args.subst.now (plain_pattern c.args.below.now))
    (sym is) i.recorded in (
      omega (
        arith,
        child_size (plain_record c.args.evaluation.now) 0 (plain_record c.child-inner.result.now)
            c.child-inner.ensures,
        c.decreases,
      ),
      (
        subst (λ (p : Program). IsRecorded p c.args.subst.now (plain_pattern c.args.below.now)
            (plain_record c.child-inner.result.now)) (sym c.in_ok-once.ensures.grown.program) h,
        (
          subst (λ (u : Tree).
              IsImage c.injected_once.new.cx (ground_pattern u) c.halves.result.1.now)
              c.result.ensures split.halves.is_argument,
          kept_grown c.args.cx.now c.injected_once.new.cx c.args.kept.now
              c.in_ok-once.ensures.grown c.requires.kept,
        ),
      ),
    )

pub injected-applied-requires-clause-closed : goal.injected-applied-requires-clause-closed
injected-applied-requires-clause-closed t c =
    let once : Once c.injected_once.new.cx c.args.from.0 c.args.to.0 c.result.result.now
    c.args.image.now c.in_ok-once.once =
    once_of c.args.cx.now c.injected_once.new.cx c.args.subst.now c.args.from.0 c.args.to.0
    (plain_pattern c.args.below.now) (plain_record c.args.evaluation.now)
    (plain_record c.child-inner.result.now) c.result.result.now c.args.image.now
    c.in_ok-once.once
    c.in_ok-once.ensures.grown c.requires.recorded c.child-inner.ensures c.result.ensures
    c.requires.image c.in_ok-once.ensures.says in
    let split =
    split_of c.injected_once.new.cx c.args.from.0 c.args.to.0 c.result.result.now
    c.args.image.now c.in_ok-whole.whole c.halves.result.0.now c.halves.result.1.now
    c.in_ok-once.once once
    (c.in_ok-whole.ensures c.injected_once.new.cx once.left once.equates)
    c.halves.ensures in
    (split.closed_head, split.closed_argument)

pub injected-joined-requires : goal.injected-joined-requires
injected-joined-requires t c =
    let once : Once c.injected_once.new.cx c.args.from.0 c.args.to.0 c.result.result.now
    c.args.image.now c.in_ok-once.once =
    once_of c.args.cx.now c.injected_once.new.cx c.args.subst.now c.args.from.0 c.args.to.0
    (plain_pattern c.args.below.now) (plain_record c.args.evaluation.now)
    (plain_record c.child-inner.result.now) c.result.result.now c.args.image.now
    c.in_ok-once.once
    c.in_ok-once.ensures.grown c.requires.recorded c.child-inner.ensures c.result.ensures
    c.requires.image c.in_ok-once.ensures.says in
    let split =
    split_of c.injected_once.new.cx c.args.from.0 c.args.to.0 c.result.result.now
    c.args.image.now c.in_ok-whole.whole c.halves.result.0.now c.halves.result.1.now
    c.in_ok-once.once once
    (c.in_ok-whole.ensures c.injected_once.new.cx once.left once.equates)
    c.halves.ensures in
    let g : HasGrown c.injected_once.new.cx c.applied.new.cx =
    grown_twice c.injected_once.new.cx c.evaluated.new.cx c.applied.new.cx
    c.in_ok-one.ensures.grown c.in_ok-beneath.ensures.grown in
    let beneath : IsEvaluated c.applied.new.cx c.args.subst.now
    (injection c.args.from.0 c.args.to.0 (plain_pattern c.args.below.now)) c.in_ok-whole.whole
    c.in_ok-beneath.beneath =
    beneath_evaluated c.injected_once.new.cx c.applied.new.cx c.args.subst.now c.args.from.0
    c.args.to.0 (plain_pattern c.args.below.now) c.result.result.now c.in_ok-whole.whole
    c.halves.result.0.now c.halves.result.1.now c.in_ok-one.one c.in_ok-beneath.beneath
    g split.is_whole c.halves.ensures (has_equal_grown c.evaluated.new.cx c.applied.new.cx
    (filled c.args.subst.now (plain_pattern c.args.below.now)) c.halves.result.1.now c.in_ok-one.one
    c.in_ok-beneath.ensures.grown c.in_ok-one.ensures.says)
    c.in_ok-beneath.ensures.says in (
      beneath.left,
      c.in_ok-whole.whole,
      c.args.image.now,
      injected_linked c.applied.new.cx _ c.in_ok-whole.whole c.args.image.now
          c.in_ok-beneath.beneath c.in_ok-once.once beneath (subst HasNoVariable (sym c.halves.ensures)
          (split.closed_head, split.closed_argument))
          (image_closed c.args.cx.now.program.sig c.args.cx.now.names
          (result_of (plain_record c.args.evaluation.now)) c.args.image.now c.requires.image)
          (equates_grown c.injected_once.new.cx c.applied.new.cx c.in_ok-whole.whole
          c.args.image.now c.in_ok-once.once g split.equates),
    )

pub injected-returns-clause-says : goal.injected-returns-clause-says
injected-returns-clause-says t c =
    let once : Once c.injected_once.new.cx c.args.from.0 c.args.to.0 c.result.result.now
    c.args.image.now c.in_ok-once.once =
    once_of c.args.cx.now c.injected_once.new.cx c.args.subst.now c.args.from.0 c.args.to.0
    (plain_pattern c.args.below.now) (plain_record c.args.evaluation.now)
    (plain_record c.child-inner.result.now) c.result.result.now c.args.image.now
    c.in_ok-once.once
    c.in_ok-once.ensures.grown c.requires.recorded c.child-inner.ensures c.result.ensures
    c.requires.image c.in_ok-once.ensures.says in
    let split =
    split_of c.injected_once.new.cx c.args.from.0 c.args.to.0 c.result.result.now
    c.args.image.now c.in_ok-whole.whole c.halves.result.0.now c.halves.result.1.now
    c.in_ok-once.once once
    (c.in_ok-whole.ensures c.injected_once.new.cx once.left once.equates)
    c.halves.ensures in
    let g : HasGrown c.injected_once.new.cx c.applied.new.cx =
    grown_twice c.injected_once.new.cx c.evaluated.new.cx c.applied.new.cx
    c.in_ok-one.ensures.grown c.in_ok-beneath.ensures.grown in
    let beneath : IsEvaluated c.applied.new.cx c.args.subst.now
    (injection c.args.from.0 c.args.to.0 (plain_pattern c.args.below.now)) c.in_ok-whole.whole
    c.in_ok-beneath.beneath =
    beneath_evaluated c.injected_once.new.cx c.applied.new.cx c.args.subst.now c.args.from.0
    c.args.to.0 (plain_pattern c.args.below.now) c.result.result.now c.in_ok-whole.whole
    c.halves.result.0.now c.halves.result.1.now c.in_ok-one.one c.in_ok-beneath.beneath
    g split.is_whole c.halves.ensures (has_equal_grown c.evaluated.new.cx c.applied.new.cx
    (filled c.args.subst.now (plain_pattern c.args.below.now)) c.halves.result.1.now c.in_ok-one.one
    c.in_ok-beneath.ensures.grown c.in_ok-one.ensures.says)
    c.in_ok-beneath.ensures.says in
    if_ok c.joined.result
    (λ o join. joined_equal c.applied.new.cx c.joined.new.cx _ c.in_ok-whole.whole
    c.args.image.now c.in_ok-beneath.beneath c.in_ok-once.once o c.joined.ensures.grown beneath
    (injected_linked c.applied.new.cx _ c.in_ok-whole.whole c.args.image.now
    c.in_ok-beneath.beneath c.in_ok-once.once beneath (subst HasNoVariable (sym c.halves.ensures)
    (split.closed_head, split.closed_argument))
    (image_closed c.args.cx.now.program.sig c.args.cx.now.names
    (result_of (plain_record c.args.evaluation.now)) c.args.image.now c.requires.image)
    (equates_grown c.injected_once.new.cx c.applied.new.cx c.in_ok-whole.whole c.args.image.now
    c.in_ok-once.once g split.equates)) join)
    c.joined.ensures.says
