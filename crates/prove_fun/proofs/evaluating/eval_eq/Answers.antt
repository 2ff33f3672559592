use Rattle.std.proofs.Common.{◌≡◌, ◌^◌, [], sym, ◌∙◌, ap, subst}
use Rattle.term_core.specs.Terms.{Tree}
use Rattle.term_core.specs.Patterns.{Pattern, ground_pattern}
use Rattle.term_core.specs.RulePatterns.{plain_pattern}
use Rattle.rule_core.specs.Sorting.{IsTermOf}
use Rattle.rule_core.specs.Records.{result_of}
use Rattle.rule_core.specs.RecordView.{plain_record}
use Rattle.ml_image.specs.HasImages.{HasImage}
use Rattle.ml_image.specs.Images.{image_of}
use Rattle.ml_image.specs.Sentences.{term}
use Rattle.ml_image.proofs.WellSortedLaws.{sorted_has_image}
use Rattle.prove_term.proofs.ResultLaws.{if_ok}
use Rattle.prove_term.proofs.ContextLaws.{grown_twice, image_grown}
use Rattle.prove_term.proofs.ComparingLaws.{image_among}
use Rattle.prove_fun.specs.Evaluating.{IsRecorded, IsImage}
use Rattle.prove_fun.proofs.Recording.{result_good}
use Rattle.prove_fun.proofs.Uses.{recorded_later}
use Rattle.prove_fun.proofs.Results.{equals_value, stays_if}
use Rattle.prove_fun.proofs.evaluating.eval_eq.Goals as goal

pub image-requires : goal.image-requires
image-requires c =
    let t : Tree = result_of (plain_record c.args.evaluation.now) in
    let recorded : IsRecorded c.args.cx.now.program c.args.subst.now (plain_pattern c.args.pat.now)
    (plain_record c.args.evaluation.now) =
    record {
      ready = record { well_sorted = c.requires.well_sorted; bound = c.requires.bound };
      variables = c.requires.sorted.0;
      sort = c.requires.sorted.1;
      sorted = c.requires.sorted.2;
      serves = c.requires.sorted.3;
      records = c.requires.recorded;
    } in
    let sorted : IsTermOf c.args.cx.now.program.sig t c.requires.sorted.1 =
    (result_good c.args.cx.now.program c.args.subst.now (plain_pattern c.args.pat.now)
    (plain_record c.args.evaluation.now) recorded).0 in
    let tree : plain_pattern c.in_ok-whole.whole ≡ ground_pattern t =
    c.in_ok-whole.ensures.tree ∙ ap ground_pattern c.result.ensures in
    subst (λ (p : Pattern). HasImage c.args.cx.now.program.sig (2 ^ 32) p) (sym tree)
    (image_among c.args.cx.now.program.sig (2 ^ 32) (ground_pattern t)
    (sorted_has_image c.args.cx.now.program.sig [] (ground_pattern t) c.requires.sorted.1
    c.requires.well_sorted.signature sorted))

pub returns-clause-says : goal.returns-clause-says
returns-clause-says c =
    let t : Tree = result_of (plain_record c.args.evaluation.now) in
    let tree : plain_pattern c.in_ok-whole.whole ≡ ground_pattern t =
    c.in_ok-whole.ensures.tree ∙ ap ground_pattern c.result.ensures in
    let image : IsImage c.image.new.self (ground_pattern t) c.in_ok-image.image =
    ap (image_of c.image.new.self.program.sig c.image.new.self.names) (sym tree)
    ∙ c.in_ok-image.ensures.image in
    let later : IsImage c.evaluated.new.cx (ground_pattern t) c.in_ok-image.image =
    image_grown c.image.new.self c.evaluated.new.cx (term (ground_pattern t))
    c.in_ok-image.image c.evaluated.ensures.grown image in
    if_ok c.evaluated.result
    (λ o says. equals_value c.evaluated.new.cx c.args.subst.now (plain_pattern c.args.pat.now) t
    c.in_ok-image.image o says later)
    c.evaluated.ensures.says

pub returns-clause-stays : goal.returns-clause-stays
returns-clause-stays c =
    if_ok c.evaluated.result
    (λ o says. stays_if c.evaluated.new.cx c.args.subst.now (plain_pattern c.args.pat.now)
    c.in_ok-image.image o says)
    c.evaluated.ensures.says

pub evaluated-requires-clause-recorded : goal.evaluated-requires-clause-recorded
evaluated-requires-clause-recorded c =
    recorded_later c.args.cx.now c.image.new.self c.args.subst.now (plain_pattern c.args.pat.now)
    (plain_record c.args.evaluation.now) c.in_ok-image.ensures.grown
    (record {
      ready = record { well_sorted = c.requires.well_sorted; bound = c.requires.bound };
      variables = c.requires.sorted.0;
      sort = c.requires.sorted.1;
      sorted = c.requires.sorted.2;
      serves = c.requires.sorted.3;
      records = c.requires.recorded;
    })

pub returns-clause-grown : goal.returns-clause-grown
returns-clause-grown c =
    grown_twice c.args.cx.now c.image.new.self c.evaluated.new.cx c.in_ok-image.ensures.grown
    c.evaluated.ensures.grown
