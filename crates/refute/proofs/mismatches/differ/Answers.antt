use Rattle.std.proofs.Common.{[], refl, sym, subst}
use Rattle.term_core.specs.Patterns.{Pattern, ground_pattern}
use Rattle.term_core.specs.RulePatterns.{plain_pattern}
use Rattle.rule_core.specs.AcSymbols.{IsAcFree}
use Rattle.rule_core.specs.ProgramView.{theory_of}
use Rattle.rule_core.specs.WellSorted.{IsWellSorted}
use Rattle.rule_core.specs.declared.rules.Program.{Program}
use Rattle.prove_open.specs.Givens.{IsCovered}
use Rattle.prove_term.proofs.ResultLaws.{if_ok}
use Rattle.refute.specs.declared.settings.Goal.TheVariants as aim
use Rattle.refute.proofs.Distinct.{terms_clash}
use Rattle.refute.proofs.Growing.{program_grown, covered_grown}
use Rattle.refute.proofs.NoClash.{no_clash_there}
use Rattle.refute.proofs.Pairs.{ground_covered}
use Rattle.refute.proofs.mismatches.differ.Goals as goal

pub refuted-requires-clause-setting : goal.refuted-requires-clause-setting
refuted-requires-clause-setting c = record {
  well_sorted = c.requires.well_sorted;
  no_ac = c.requires.no_ac;
  given = c.in_ok-given.ensures.given c.args.cx.now [];
  new = refl;
  goal = tt;
}

pub refuted-requires-clause-pair : goal.refuted-requires-clause-pair
refuted-requires-clause-pair c = record {
  sort = c.requires.sorted.0;
  left =
      subst (λ (p : Pattern). IsCovered c.args.cx.now.program.sig [] c.in_ok-given.given p
      c.requires.sorted.0) (sym c.in_ok-pat.ensures.tree)
      (ground_covered c.args.cx.now.program.sig [] c.in_ok-given.given c.args.left.now
      c.requires.sorted.0 c.requires.sorted.1);
  right = c.requires.sorted.2;
  normal = c.height-right.ensures.normal;
}

pub as_unequal-requires-clause-setting : goal.as_unequal-requires-clause-setting
as_unequal-requires-clause-setting c = record {
  well_sorted =
      program_grown c.args.cx.now c.refuted.new.cx
      (λ (program : Program). IsWellSorted (theory_of program)) c.in_ok-difference.ensures.grown
      c.requires.well_sorted;
  no_ac =
      program_grown c.args.cx.now c.refuted.new.cx (λ (program : Program). IsAcFree program.sig)
      c.in_ok-difference.ensures.grown c.requires.no_ac;
  given = c.in_ok-given.ensures.given c.refuted.new.cx [];
  new = refl;
  goal = tt;
}

pub as_unequal-requires-clause-covered : goal.as_unequal-requires-clause-covered
as_unequal-requires-clause-covered c =
    covered_grown c.args.cx.now c.refuted.new.cx [] c.in_ok-given.given
    (plain_pattern c.in_ok-pat.pat) (plain_pattern c.in_ok-whole.whole)
    c.in_ok-difference.ensures.grown (record {
      sort = c.requires.sorted.0;
      left =
          subst (λ (p : Pattern). IsCovered c.args.cx.now.program.sig [] c.in_ok-given.given p
          c.requires.sorted.0) (sym c.in_ok-pat.ensures.tree)
          (ground_covered c.args.cx.now.program.sig [] c.in_ok-given.given c.args.left.now
          c.requires.sorted.0 c.requires.sorted.1);
      right =
          subst (λ (p : Pattern). IsCovered c.args.cx.now.program.sig [] c.in_ok-given.given p
          c.requires.sorted.0) (sym c.in_ok-whole.ensures.tree)
          (ground_covered c.args.cx.now.program.sig [] c.in_ok-given.given c.args.right.now
          c.requires.sorted.0 c.requires.sorted.2);
    })

pub unreachable-requires : goal.unreachable-requires
unreachable-requires c =
    terms_clash c.clash_laws.ensures.mismatch c.args.cx.now.program.sig c.args.left.now
    c.args.right.now c.requires.sorted.0 c.requires.sorted.1 c.requires.sorted.2
    c.height-left.ensures.normal c.height-right.ensures.normal c.requires.differ
    (no_clash_there c.args.cx.now c.refuted.new.cx (record {
      given = c.in_ok-given.given;
      sorts = record { ref_ptr = c.args.left.ref_ptr; now = [] };
      new = record { 0 = 0 };
      goal = aim.Clash;
    }) (plain_pattern c.in_ok-pat.pat)
    (ground_pattern c.args.left.now) c.args.right.now c.in_ok-difference.field-0
    c.in_ok-difference.ensures.grown c.in-None.is c.in_ok-difference.ensures.says
    c.in_ok-pat.ensures.tree)

pub returns-clause-stays : goal.returns-clause-stays
returns-clause-stays c =
    if_ok c.mp.result
    (λ t stays s has. stays s tt (
      c.in_ok-top-in-Some.ensures.stays s tt tt,
      (c.in_ok-thm-in-Some.ensures.denies.stays s has, tt),
    ))
    c.mp.ensures.stays
