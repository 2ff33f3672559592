-- The answers of `value_held` and `condition_held`: the condition of a used equation.
use Rattle.std.proofs.Common.{◌≡◌, ◌^◌, [], Option, Some, None, option_map, refl, sym, ◌∙◌, ap}
use Rattle.std.proofs.Common.{subst, arith}
use Rattle.std.specs.Global.{Box}
use Rattle.ml_kernel.specs.Theorems.{Theorem}
use Rattle.term_core.specs.Patterns.{Pattern as RulePattern, ground_pattern}
use Rattle.term_core.specs.RulePatterns.{plain_pattern}
use Rattle.rule_core.specs.Records.{Record, unconditional, result_of}
use Rattle.rule_core.specs.RecordView.{plain_record, optional}
use Rattle.rule_core.specs.declared.records.EvalRecord.{EvalRecord}
use Rattle.rule_core.specs.Sorting.{IsTermOf}
use Rattle.ml_image.specs.Images.{image_of}
use Rattle.ml_image.specs.HasImages.{HasImage}
use Rattle.ml_image.specs.Sentences.{term}
use Rattle.ml_image.proofs.WellSortedLaws.{sorted_has_image}
use Rattle.prove_term.specs.Values.{SaysValue}
use Rattle.prove_equation.specs.Conditions.{SaysCondition}
use Rattle.prove_fun.specs.Using.{condition_record}
use Rattle.prove_term.proofs.ResultLaws.{if_ok}
use Rattle.prove_term.proofs.ContextLaws.{image_grown}
use Rattle.prove_term.proofs.ComparingLaws.{image_among}
use Rattle.prove_fun.specs.Evaluating.{IsRecorded, IsImage}
use Rattle.prove_fun.proofs.Recording.{result_good}
use Rattle.prove_fun.proofs.Results.{equals_value}
use Rattle.prove_fun.proofs.Sizes.{size, size_if}
use Rattle.prove_fun.proofs.KeptLaws.{kept_grown}
use Rattle.prove_fun.proofs.Uses.{condition_says, condition_at, condition_none, condition_missing}
use Rattle.prove_fun.proofs.Uses.{recorded_later, used_condition}
use Rattle.prove_fun.proofs.evaluating.+evaluated.Goals as goal

pub value_held-image-requires : goal.value_held-image-requires
value_held-image-requires t c =
    let sorted : IsTermOf c.args.cx.now.program.sig (result_of (plain_record c.args.evaluation.now))
    c.requires.recorded.sort =
    (result_good c.args.cx.now.program c.args.subst.now (plain_pattern c.args.pat.now)
    (plain_record c.args.evaluation.now) c.requires.recorded).0 in
    let tree : plain_pattern c.in_ok-whole.whole ≡ ground_pattern
    (result_of (plain_record c.args.evaluation.now)) =
    c.in_ok-whole.ensures.tree ∙ ap ground_pattern c.result.ensures in
    subst (λ (p : RulePattern). HasImage c.args.cx.now.program.sig (2 ^ 32) p) (sym tree)
    (image_among c.args.cx.now.program.sig (2 ^ 32)
    (ground_pattern (result_of (plain_record c.args.evaluation.now)))
    (sorted_has_image c.args.cx.now.program.sig []
    (ground_pattern (result_of (plain_record c.args.evaluation.now))) c.requires.recorded.sort
    c.requires.recorded.ready.well_sorted.signature sorted))

pub value_held-evaluated-requires : goal.value_held-evaluated-requires
value_held-evaluated-requires t c =
    let tree : plain_pattern c.in_ok-whole.whole ≡ ground_pattern
    (result_of (plain_record c.args.evaluation.now)) =
    c.in_ok-whole.ensures.tree ∙ ap ground_pattern c.result.ensures in (
      omega (arith, c.decreases),
      (
        recorded_later c.args.cx.now c.image.new.self _ _ _ c.in_ok-image.ensures.grown
            c.requires.recorded,
        (
          ap (image_of c.image.new.self.program.sig c.image.new.self.names) (sym tree)
              ∙ c.in_ok-image.ensures.image,
          kept_grown c.args.cx.now c.image.new.self c.args.kept.now c.in_ok-image.ensures.grown
              c.requires.kept,
        ),
      ),
    )

pub value_held-returns-clause-says : goal.value_held-returns-clause-says
value_held-returns-clause-says t c =
    let tree : plain_pattern c.in_ok-whole.whole ≡ ground_pattern
    (result_of (plain_record c.args.evaluation.now)) =
    c.in_ok-whole.ensures.tree ∙ ap ground_pattern c.result.ensures in
    let own : IsImage c.image.new.self
    (ground_pattern (result_of (plain_record c.args.evaluation.now))) c.in_ok-image.image =
    ap (image_of c.image.new.self.program.sig c.image.new.self.names) (sym tree)
    ∙ c.in_ok-image.ensures.image in
    let image : IsImage c.evaluated.new.cx
    (ground_pattern (result_of (plain_record c.args.evaluation.now))) c.in_ok-image.image =
    image_grown c.image.new.self c.evaluated.new.cx
    (term (ground_pattern (result_of (plain_record c.args.evaluation.now)))) c.in_ok-image.image
    c.in_ok-found.ensures.grown own in
    let h = c.in_ok-found.ensures.says in
    if_ok c.equality.result
    (λ made equates. equals_value c.evaluated.new.cx c.args.subst.now (plain_pattern c.args.pat.now)
    (result_of (plain_record c.args.evaluation.now)) c.in_ok-image.image (Some made)
    (record {
      left = h.left;
      left_image = h.left_image;
      closed = h.closed;
      equates =
          equates c.evaluated.new.cx h.left (λ s has. has.images
          (term (ground_pattern (result_of (plain_record c.args.evaluation.now))))
          c.in_ok-image.image image) h.equates;
    }) image)
    c.equality.ensures

pub value_held-returns-clause-stays : goal.value_held-returns-clause-stays
value_held-returns-clause-stays t c =
    let tree : plain_pattern c.in_ok-whole.whole ≡ ground_pattern
    (result_of (plain_record c.args.evaluation.now)) =
    c.in_ok-whole.ensures.tree ∙ ap ground_pattern c.result.ensures in
    let own : IsImage c.image.new.self
    (ground_pattern (result_of (plain_record c.args.evaluation.now))) c.in_ok-image.image =
    ap (image_of c.image.new.self.program.sig c.image.new.self.names) (sym tree)
    ∙ c.in_ok-image.ensures.image in
    let image : IsImage c.evaluated.new.cx
    (ground_pattern (result_of (plain_record c.args.evaluation.now))) c.in_ok-image.image =
    image_grown c.image.new.self c.evaluated.new.cx
    (term (ground_pattern (result_of (plain_record c.args.evaluation.now)))) c.in_ok-image.image
    c.in_ok-found.ensures.grown own in
    let h = c.in_ok-found.ensures.says in
    if_ok c.equality.result
    (λ made equates. (equates c.evaluated.new.cx h.left (λ s has. has.images
    (term (ground_pattern (result_of (plain_record c.args.evaluation.now))))
    c.in_ok-image.image image) h.equates).stays)
    c.equality.ensures

pub condition_held-value_held-requires : goal.condition_held-value_held-requires
condition_held-value_held-requires t c =
    let u = c.requires.used.1 in
    let p : RulePattern = plain_pattern c.in-Some-Some.pat in
    let q : Record = plain_record c.in-Some-Some.evaluation.value in
    let is_p : u.equation.condition ≡ Some p =
    used_condition c.args.cx.now.program c.args.symbol.0 _ c.args.used.now.equation _ _ _
    _ c.args.equation.now u c.requires.equation
    ∙ ap (option_map plain_pattern) c.in-Some-Some.is-0 in
    let is_q : condition_record c.args.used.now ≡ optional (Some q) =
    ap (λ (o : Option (Box EvalRecord)).
    optional (option_map (λ (b : Box EvalRecord). plain_record b.value) o))
    c.in-Some-Some.is-1 in
    let h : IsRecorded c.args.cx.now.program c.args.used.now.subst p q =
    (u.conditional p q is_p is_q).0 in
    let body : c.deref.result.now ≡ c.in-Some-Some.evaluation.value = c.deref.ensures in (
      omega (
        arith,
        ap size_if is_q,
        ap (λ (r : EvalRecord). size (plain_record r)) body,
        c.decreases,
      ),
      (
        subst (λ (r : EvalRecord).
            IsRecorded c.args.cx.now.program c.args.used.now.subst p (plain_record r))
            (sym body) h,
        c.requires.kept,
      ),
    )

pub condition_held-returns-in_ok-value_held-in-Some-Some-clause-says :
    goal.condition_held-returns-in_ok-value_held-in-Some-Some-clause-says
condition_held-returns-in_ok-value_held-in-Some-Some-clause-says t c =
    let u = c.requires.used.1 in
    let p : RulePattern = plain_pattern c.in-Some-Some.pat in
    let q : Record = plain_record c.in-Some-Some.evaluation.value in
    let is_p : u.equation.condition ≡ Some p =
    used_condition c.args.cx.now.program c.args.symbol.0 _ c.args.used.now.equation _ _ _
    _ c.args.equation.now u c.requires.equation
    ∙ ap (option_map plain_pattern) c.in-Some-Some.is-0 in
    let is_q : condition_record c.args.used.now ≡ optional (Some q) =
    ap (λ (o : Option (Box EvalRecord)).
    optional (option_map (λ (b : Box EvalRecord). plain_record b.value) o))
    c.in-Some-Some.is-1 in
    let h = u.conditional p q is_p is_q in
    let body : c.deref.result.now ≡ c.in-Some-Some.evaluation.value = c.deref.ensures in
    let made : Theorem = c.in_ok-value_held-in-Some-Some.field-0 in
    let says : SaysValue c.value_held.new.cx c.args.used.now.subst p (result_of q) made.conclusion =
    subst (λ (r : EvalRecord). SaysValue c.value_held.new.cx c.args.used.now.subst p
    (result_of (plain_record r)) made.conclusion) body
    c.in_ok-value_held-in-Some-Some.ensures.says in
    let g : c.value_held.new.cx.program ≡ c.args.cx.now.program =
    c.in_ok-value_held-in-Some-Some.ensures.grown.program in
    condition_at c.value_held.new.cx c.args.cx.now.program c.args.symbol.0 _
    c.args.used.now.equation c.args.used.now.subst _ _ _ (Some made) u g
    (subst (λ (x : Option RulePattern). SaysCondition c.value_held.new.cx u.equation.variables
    c.args.used.now.subst x (Some made)) (sym is_p)
    (condition_says c.value_held.new.cx c.args.cx.now.program u.equation.variables
    c.args.used.now.subst p q made g h.0 h.1 h.2 says
    c.in_ok-value_held-in-Some-Some.ensures.stays))

pub condition_held-returns-in-None-default-clause-says :
    goal.condition_held-returns-in-None-default-clause-says
condition_held-returns-in-None-default-clause-says t c =
    let u = c.requires.used.1 in
    let none : u.equation.condition ≡ None =
    used_condition c.args.cx.now.program c.args.symbol.0 _ c.args.used.now.equation _ _ _
    _ c.args.equation.now u c.requires.equation
    ∙ ap (option_map plain_pattern) c.in-None-default.is-0 in
    condition_at c.args.cx.now c.args.cx.now.program c.args.symbol.0 _ c.args.used.now.equation
    c.args.used.now.subst _ _ _ None u refl (condition_none c.args.cx.now u.equation.variables
    c.args.used.now.subst u.equation.condition none)

pub condition_held-unreachable-requires : goal.condition_held-unreachable-requires
condition_held-unreachable-requires t c =
    let u = c.requires.used.1 in
    let is_p =
    used_condition c.args.cx.now.program c.args.symbol.0 _ c.args.used.now.equation _ _ _
    _ c.args.equation.now u c.requires.equation
    ∙ ap (option_map plain_pattern) c.in-Some-None.is-0 in
    let none : condition_record c.args.used.now ≡ unconditional =
    ap (λ (o : Option (Box EvalRecord)).
    optional (option_map (λ (b : Box EvalRecord). plain_record b.value) o))
    c.in-Some-None.is-1 in
    condition_missing c.args.cx.now.program c.args.used.now.subst u.equation.condition _
    (condition_record c.args.used.now) is_p none u.condition_held
