use Rattle.std.proofs.Common.{◌≡◌, ◌^◌, [], List, sym, ◌∙◌, ap, subst, arith}
use Rattle.term_core.specs.Patterns.{Pattern, ground_pattern}
use Rattle.term_core.specs.RulePatterns.{plain_pattern}
use Rattle.rule_core.specs.NamedParts.{Name}
use Rattle.rule_core.specs.ProgramView.{names_of}
use Rattle.rule_core.specs.Sorting.{IsTermOf}
use Rattle.rule_core.proofs.SortedInstances.{instance_is_sorted}
use Rattle.ml_image.specs.HasImages.{HasImage}
use Rattle.ml_image.specs.NamedSides.{of_child}
use Rattle.ml_image.specs.PartNames.{part_names}
use Rattle.ml_image.specs.Sentences.{term}
use Rattle.ml_image.proofs.WellSortedLaws.{sorted_has_image}
use Rattle.prove_term.specs.Contexts.{HasGrown}
use Rattle.prove_term.specs.Naming.{MakesNamed, ComparesNamed}
use Rattle.prove_term.proofs.ResultLaws.{if_ok}
use Rattle.prove_term.proofs.ContextLaws.{grown_twice, image_grown}
use Rattle.prove_term.proofs.ComparingLaws.{image_among}
use Rattle.prove_term.proofs.NamingParts.{parts_bound}
use Rattle.prove_term.proofs.NamingWholes.{IsNamedWhole, whole_grown, whole_makes, whole_says}
use Rattle.prove_term.proofs.naming.inj_eq_named.Goals as goal

pub image-requires : goal.image-requires
image-requires c =
    let sorted : IsTermOf c.args.cx.now.program.sig c.in_ok-term.term c.requires.sorted.1 =
    (instance_is_sorted c.args.cx.now.program.sig c.requires.sorted.0 (plain_pattern c.args.pat.now)
    c.requires.sorted.1 c.args.subst.now c.in_ok-term.term c.requires.sorted.2
    c.requires.sorted.3 c.in_ok-term.ensures.instance).0 in
    subst (λ (p : Pattern). HasImage c.args.cx.now.program.sig (2 ^ 32) p)
    (sym c.in_ok-whole.ensures.tree)
    (image_among c.args.cx.now.program.sig (2 ^ 32) (ground_pattern c.in_ok-term.term)
    (sorted_has_image c.args.cx.now.program.sig [] (ground_pattern c.in_ok-term.term)
    c.requires.sorted.1 c.requires.signature sorted))

pub named_compared-requires-clause-made : goal.named_compared-requires-clause-made
named_compared-requires-clause-made c =
    let whole : IsNamedWhole c.args.cx.now.program.sig (of_child c.args.argument
    (names_of c.args.named.now)) c.args.subst.now (plain_pattern c.args.pat.now)
    (plain_pattern c.in_ok-whole.whole) c.in_ok-term.term =
    record {
      variables = c.requires.sorted.0;
      sort = c.requires.sorted.1;
      instance = record {
        instance = record {
          sorted = c.requires.sorted.2;
          respects = c.requires.sorted.3;
          makes = c.in_ok-term.ensures.instance;
        };
        low = omega (arith, c.height-height.ensures.value, c.height-height.ensures.bound);
        bound = parts_bound c.args.subst.now c.args.argument c.requires.named.0
            (plain_pattern c.args.pat.now) (names_of c.args.named.now) c.requires.named.1
            c.requires.named.2;
      };
      is = c.in_ok-whole.ensures.tree;
    } in
    let names : part_names c.deref-2.result.now
    ≡ of_child c.args.argument (names_of c.args.named.now) =
    ap part_names c.deref-2.ensures.value ∙ c.in_ok-names.ensures
    ∙ ap (of_child c.args.argument) (ap part_names c.deref.ensures.value ∙ c.in_ok-part_names.ensures) in
    subst (λ (ns : List Name). MakesNamed c.image.new.self.program.sig ns
    (plain_pattern c.args.pat.now) (plain_pattern c.in_ok-whole.whole)) (sym names)
    (whole_makes c.image.new.self.program.sig (of_child c.args.argument (names_of c.args.named.now))
    c.args.subst.now (plain_pattern c.args.pat.now) (plain_pattern c.in_ok-whole.whole)
    c.in_ok-term.term
    (whole_grown c.args.cx.now c.image.new.self
    (of_child c.args.argument (names_of c.args.named.now)) c.args.subst.now
    (plain_pattern c.args.pat.now) (plain_pattern c.in_ok-whole.whole) c.in_ok-term.term
    c.in_ok-image.ensures.grown whole))

pub returns-clause-says : goal.returns-clause-says
returns-clause-says c =
    let whole : IsNamedWhole c.args.cx.now.program.sig (of_child c.args.argument
    (names_of c.args.named.now)) c.args.subst.now (plain_pattern c.args.pat.now)
    (plain_pattern c.in_ok-whole.whole) c.in_ok-term.term =
    record {
      variables = c.requires.sorted.0;
      sort = c.requires.sorted.1;
      instance = record {
        instance = record {
          sorted = c.requires.sorted.2;
          respects = c.requires.sorted.3;
          makes = c.in_ok-term.ensures.instance;
        };
        low = omega (arith, c.height-height.ensures.value, c.height-height.ensures.bound);
        bound = parts_bound c.args.subst.now c.args.argument c.requires.named.0
            (plain_pattern c.args.pat.now) (names_of c.args.named.now) c.requires.named.1
            c.requires.named.2;
      };
      is = c.in_ok-whole.ensures.tree;
    } in
    let names : part_names c.deref-2.result.now
    ≡ of_child c.args.argument (names_of c.args.named.now) =
    ap part_names c.deref-2.ensures.value ∙ c.in_ok-names.ensures
    ∙ ap (of_child c.args.argument) (ap part_names c.deref.ensures.value ∙ c.in_ok-part_names.ensures) in
    let g : HasGrown c.args.cx.now c.named_compared.new.cx =
    grown_twice c.args.cx.now c.image.new.self c.named_compared.new.cx c.in_ok-image.ensures.grown
    c.named_compared.ensures.grown in
    if_ok c.named_compared.result
    (λ o says. whole_says c.named_compared.new.cx
    (of_child c.args.argument (names_of c.args.named.now)) c.args.subst.now
    (plain_pattern c.args.pat.now) (plain_pattern c.in_ok-whole.whole) c.in_ok-term.term
    c.in_ok-image.image o
    (whole_grown c.args.cx.now c.named_compared.new.cx
    (of_child c.args.argument (names_of c.args.named.now)) c.args.subst.now
    (plain_pattern c.args.pat.now) (plain_pattern c.in_ok-whole.whole) c.in_ok-term.term g whole)
    (image_grown c.image.new.self c.named_compared.new.cx (term (plain_pattern c.in_ok-whole.whole))
    c.in_ok-image.image c.named_compared.ensures.grown c.in_ok-image.ensures.image)
    (subst (λ (ns : List Name). ComparesNamed c.named_compared.new.cx ns
    (plain_pattern c.args.pat.now) (plain_pattern c.in_ok-whole.whole) c.in_ok-image.image o) names
    says))
    c.named_compared.ensures.says
