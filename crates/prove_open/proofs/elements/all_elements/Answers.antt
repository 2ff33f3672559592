use Rattle.std.proofs.Common.{List, sym, subst}
use Rattle.term_core.specs.RulePatterns.{sort_numbers}
use Rattle.prove_term.proofs.ResultLaws.{if_ok}
use Rattle.prove_open.specs.Known.{AreKnown}
use Rattle.prove_open.specs.declared.known.Known.{Known}
use Rattle.prove_open.proofs.GatheringLaws.{have_elements_grown, ready_grown}
use Rattle.prove_open.proofs.elements.all_elements.Goals.{After-deref}
use Rattle.prove_open.proofs.elements.all_elements.Goals as goal

known : (c : After-deref)
    → AreKnown c.all_known.new.cx (sort_numbers c.args.sorts.now) c.args.given.now c.args.args.now
    c.deref.result.now
known c =
    subst (λ (ks : List Known). AreKnown c.all_known.new.cx (sort_numbers c.args.sorts.now)
    c.args.given.now c.args.args.now ks) (sym c.deref.ensures.value) c.in_ok-parts.ensures.are

pub as_elements-requires : goal.as_elements-requires
as_elements-requires c = record {
  known = (
    sort_numbers c.args.sorts.now,
    c.args.args.now,
    ready_grown c.args.cx.now c.all_known.new.cx (sort_numbers c.args.sorts.now) c.args.given.now
        c.in_ok-parts.ensures.grown c.requires.ready,
    have_elements_grown c.args.cx.now c.all_known.new.cx (sort_numbers c.args.sorts.now)
        c.args.given.now c.args.args.now c.in_ok-parts.ensures.grown c.requires.covered,
    known c,
  );
}

pub returns-clause-are : goal.returns-clause-are
returns-clause-are c =
    if_ok c.as_elements.result
    (λ v are. are (sort_numbers c.args.sorts.now) c.args.args.now
    (known (goal.at.returns-clause-are c).After-deref)) c.as_elements.ensures.are
