use Rattle.std.proofs.Common.{◌≡◌, ◌^◌, [], Some, sym, subst}
use Rattle.term_core.specs.Patterns.{Pattern, ground_pattern}
use Rattle.term_core.specs.RulePatterns.{plain_pattern}
use Rattle.rule_core.specs.Sorting.{IsTermOf}
use Rattle.rule_core.proofs.SortedInstances.{instance_is_sorted}
use Rattle.ml_image.specs.HasImages.{HasImage}
use Rattle.ml_image.specs.Images.{image_of}
use Rattle.ml_image.specs.Sentences.{term}
use Rattle.ml_image.proofs.WellSortedLaws.{sorted_has_image}
use Rattle.rule_core.specs.declared.rules.Program.{Program}
use Rattle.prove_term.specs.Contexts.{HasGrown}
use Rattle.prove_term.specs.Comparing.{IsInstance, MakesTerm}
use Rattle.prove_term.proofs.ResultLaws.{if_ok}
use Rattle.prove_term.proofs.ContextLaws.{grown_twice, image_grown}
use Rattle.prove_term.proofs.ComparingLaws.{image_among}
use Rattle.prove_term.proofs.ComparingCalls.{made_again, says_equal, compared_stays}
use Rattle.prove_term.proofs.comparing.inj_eq.Goals as goal

pub image-requires : goal.image-requires
image-requires c =
    let sorted : IsTermOf c.args.cx.now.program.sig c.in_ok-term.term c.requires.sorted.1 =
    (instance_is_sorted c.args.cx.now.program.sig c.requires.sorted.0 (plain_pattern c.args.pat.now)
    c.requires.sorted.1 c.args.subst.now c.in_ok-term.term c.requires.sorted.2
    c.requires.sorted.3 c.in_ok-term.ensures.instance).0 in
    subst (λ (p : Pattern). HasImage c.args.cx.now.program.sig (2 ^ 32) p)
    (sym c.in_ok-whole.ensures.tree)
    (image_among c.args.cx.now.program.sig (2 ^ 32) (ground_pattern c.in_ok-term.term)
    (sorted_has_image c.args.cx.now.program.sig [] (ground_pattern c.in_ok-term.term)
    c.requires.sorted.1 c.requires.signature sorted))

pub compared-requires-clause-made : goal.compared-requires-clause-made
compared-requires-clause-made c =
    let instance : IsInstance c.args.cx.now.program.sig c.requires.sorted.0 c.args.subst.now
    (plain_pattern c.args.pat.now) c.requires.sorted.1 c.in_ok-term.term =
    record {
      sorted = c.requires.sorted.2;
      respects = c.requires.sorted.3;
      makes = c.in_ok-term.ensures.instance;
    } in
    made_again c.args.cx.now c.image.new.self (plain_pattern c.args.pat.now)
    (plain_pattern c.in_ok-whole.whole) c.in_ok-image.ensures.grown (
      c.requires.sorted.0,
      c.args.subst.now,
      c.requires.sorted.1,
      c.in_ok-term.term,
      instance,
      c.in_ok-whole.ensures.tree,
    )

pub returns-clause-says : goal.returns-clause-says
returns-clause-says c =
    let instance : IsInstance c.args.cx.now.program.sig c.requires.sorted.0 c.args.subst.now
    (plain_pattern c.args.pat.now) c.requires.sorted.1 c.in_ok-term.term =
    record {
      sorted = c.requires.sorted.2;
      respects = c.requires.sorted.3;
      makes = c.in_ok-term.ensures.instance;
    } in
    let g : HasGrown c.args.cx.now c.compared.new.cx =
    grown_twice c.args.cx.now c.image.new.self c.compared.new.cx c.in_ok-image.ensures.grown
    c.compared.ensures.grown in
    let later : IsInstance c.compared.new.cx.program.sig c.requires.sorted.0 c.args.subst.now
    (plain_pattern c.args.pat.now) c.requires.sorted.1 c.in_ok-term.term =
    subst (λ (program : Program). IsInstance program.sig c.requires.sorted.0 c.args.subst.now
    (plain_pattern c.args.pat.now) c.requires.sorted.1 c.in_ok-term.term) (sym g.program)
    instance in
    let image : image_of c.compared.new.cx.program.sig c.compared.new.cx.names
    (plain_pattern c.in_ok-whole.whole) ≡ Some c.in_ok-image.image =
    image_grown c.image.new.self c.compared.new.cx (term (plain_pattern c.in_ok-whole.whole))
    c.in_ok-image.image c.compared.ensures.grown c.in_ok-image.ensures.image in
    if_ok c.compared.result
    (λ o says. says_equal c.compared.new.cx c.args.subst.now (plain_pattern c.args.pat.now)
    (plain_pattern c.in_ok-whole.whole) c.in_ok-image.image c.requires.sorted.0
    c.requires.sorted.1 c.in_ok-term.term o later c.in_ok-whole.ensures.tree image says)
    c.compared.ensures.says

pub returns-clause-stays : goal.returns-clause-stays
returns-clause-stays c =
    let instance : IsInstance c.args.cx.now.program.sig c.requires.sorted.0 c.args.subst.now
    (plain_pattern c.args.pat.now) c.requires.sorted.1 c.in_ok-term.term =
    record {
      sorted = c.requires.sorted.2;
      respects = c.requires.sorted.3;
      makes = c.in_ok-term.ensures.instance;
    } in
    let g : HasGrown c.args.cx.now c.compared.new.cx =
    grown_twice c.args.cx.now c.image.new.self c.compared.new.cx c.in_ok-image.ensures.grown
    c.compared.ensures.grown in
    let made : MakesTerm c.compared.new.cx.program.sig (plain_pattern c.args.pat.now)
    (plain_pattern c.in_ok-whole.whole) =
    made_again c.args.cx.now c.compared.new.cx (plain_pattern c.args.pat.now)
    (plain_pattern c.in_ok-whole.whole) g (
      c.requires.sorted.0,
      c.args.subst.now,
      c.requires.sorted.1,
      c.in_ok-term.term,
      instance,
      c.in_ok-whole.ensures.tree,
    ) in
    if_ok c.compared.result
    (λ o says. compared_stays c.compared.new.cx (plain_pattern c.args.pat.now)
    (plain_pattern c.in_ok-whole.whole) c.in_ok-image.image o made says)
    c.compared.ensures.says
