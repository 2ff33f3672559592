use Rattle.std.proofs.Common.{rules, ◌≡◌, [], ◌∷◌, sym, subst}
use Rattle.rule_core.specs.Subsorts.{by_pair}
use Rattle.rule_core.specs.declared.rules.Program.{Program}
use Rattle.prove_term.specs.InjectionTables.{InjectsBelow}
use Rattle.prove_term.proofs.ResultLaws.{if_ok_two}
use Rattle.prove_open.proofs.RaisingLaws.{IsCollapsed, IsTwice, collapse_fits, raised_twice}
use Rattle.prove_open.proofs.RaisingLaws.{collapsed_carries, collapsed_raises}
use Rattle.prove_open.proofs.injections.further.Goals as goal

pub collapse_from-requires-clause-above : goal.collapse_from-requires-clause-above
collapse_from-requires-clause-above c =
    subst (λ (program : Program). InjectsBelow program.sig c.args.pair.0.0 c.args.pair.1.0)
    (sym c.in_ok-upper.ensures.grown.program)
    (record {
      signature = c.requires.pair.signature;
      symbol = c.requires.pair.symbol;
      below = by_pair c.requires.pair.pair;
    })

pub at_patterns-requires : goal.at_patterns-requires
at_patterns-requires c =
    let only : c.deref.result.now ≡ c.args.fact.now ∷ [] = search rules in
    let twice : IsTwice c.collapse_from.new.self c.args.h.now c.args.k c.args.from.0
    c.args.pair.0.0 c.args.pair.1.0 c.args.fact.now c.in_ok-upper.upper c.requires.raised.q =
    raised_twice c.args.cx.now c.raised.new.cx c.collapse_from.new.self c.args.h.now c.args.k
    c.args.from.0 c.args.pair.0.0 c.args.pair.1.0 c.args.fact.now c.args.lower.now
    c.in_ok-upper.upper c.in_ok-upper.ensures.grown c.in_ok-collapse.ensures.grown
    c.requires.raised c.in_ok-upper.ensures.raises in
    collapse_fits c.collapse_from.new.self c.args.h.now c.args.k c.args.from.0 c.args.pair.0.0
    c.args.pair.1.0 c.requires.raised.q c.in_ok-collapse.collapse.conclusion c.args.fact.now
    c.deref.result.now only c.in_ok-collapse.ensures.says twice.element

pub carried_under-requires : goal.carried_under-requires
carried_under-requires c =
    let only : c.deref.result.now ≡ c.args.fact.now ∷ [] = search rules in
    let twice : IsTwice c.collapse_from.new.self c.args.h.now c.args.k c.args.from.0
    c.args.pair.0.0 c.args.pair.1.0 c.args.fact.now c.in_ok-upper.upper c.requires.raised.q =
    raised_twice c.args.cx.now c.raised.new.cx c.collapse_from.new.self c.args.h.now c.args.k
    c.args.from.0 c.args.pair.0.0 c.args.pair.1.0 c.args.fact.now c.args.lower.now
    c.in_ok-upper.upper c.in_ok-upper.ensures.grown c.in_ok-collapse.ensures.grown
    c.requires.raised c.in_ok-upper.ensures.raises in
    let collapsed : IsCollapsed c.collapse_from.new.self c.args.h.now c.args.k c.args.from.0
    c.args.pair.0.0 c.args.pair.1.0 c.in_ok-collapse.collapse c.args.fact.now c.in_ok-upper.upper
    c.in_ok-equality.equality c.deref.result.now =
    record {
      says = c.in_ok-collapse.ensures.says;
      collapse_stays = c.in_ok-collapse.ensures.stays;
      only = only;
      holds = c.in_ok-equality.ensures.conclusion;
      stays = c.in_ok-equality.ensures.stays;
    } in
    collapsed_carries c.collapse_from.new.self c.args.h.now c.args.k c.args.from.0
    c.args.pair.0.0 c.args.pair.1.0 c.in_ok-collapse.collapse c.args.fact.now c.in_ok-upper.upper
    c.in_ok-equality.equality c.deref.result.now c.requires.raised.q collapsed twice

pub returns-clause-raises : goal.returns-clause-raises
returns-clause-raises c =
    let only : c.deref.result.now ≡ c.args.fact.now ∷ [] = search rules in
    let collapsed : IsCollapsed c.collapse_from.new.self c.args.h.now c.args.k c.args.from.0
    c.args.pair.0.0 c.args.pair.1.0 c.in_ok-collapse.collapse c.args.fact.now c.in_ok-upper.upper
    c.in_ok-equality.equality c.deref.result.now =
    record {
      says = c.in_ok-collapse.ensures.says;
      collapse_stays = c.in_ok-collapse.ensures.stays;
      only = only;
      holds = c.in_ok-equality.ensures.conclusion;
      stays = c.in_ok-equality.ensures.stays;
    } in
    if_ok_two c.carried_under.result
    (λ made carried stays. λ r.
    collapsed_raises c.collapse_from.new.self c.args.h.now c.args.k c.args.from.0
    c.args.pair.0.0 c.args.pair.1.0 c.in_ok-collapse.collapse c.args.fact.now c.in_ok-upper.upper
    c.in_ok-equality.equality made c.deref.result.now r.q collapsed
    (raised_twice c.args.cx.now c.raised.new.cx c.collapse_from.new.self c.args.h.now c.args.k
    c.args.from.0 c.args.pair.0.0 c.args.pair.1.0 c.args.fact.now c.args.lower.now
    c.in_ok-upper.upper c.in_ok-upper.ensures.grown c.in_ok-collapse.ensures.grown
    r c.in_ok-upper.ensures.raises) carried stays)
    c.carried_under.ensures.conclusion c.carried_under.ensures.stays
