use Rattle.std.proofs.Common.{◌≡◌, List, get_or, ap, sym, ◌∙◌, subst}
use Rattle.ml_kernel.specs.Theorems.{Theorem}
use Rattle.rule_core.specs.Subsorts.{by_pair}
use Rattle.rule_core.specs.declared.rules.Program.{Program}
use Rattle.prove_term.specs.Injections.{IsInjectionAt, IsCollapseAt, Joins, JoinedFrom, StaysJoined}
use Rattle.prove_term.specs.InjectionTables.{InjectsBelow}
use Rattle.prove_term.proofs.ContextLaws.{grown_twice}
use Rattle.prove_term.proofs.ElementLaws.{lemma_found}
use Rattle.prove_term.proofs.InjectionGrown.{injection_grown}
use Rattle.prove_term.proofs.InjectionSteps.{joins_of, injected_by_chain, chain_stays}
use Rattle.prove_term.proofs.context.Cx.further.Goals as goal

pub collapse-requires-clause-above : goal.collapse-requires-clause-above
collapse-requires-clause-above c =
    subst (λ (program : Program). InjectsBelow program.sig c.args.through.0 c.args.to.0)
    (sym c.in_ok-upper.ensures.grown.program)
    (record {
      signature = c.requires.pair.signature;
      symbol = c.requires.pair.symbol;
      below = by_pair c.requires.pair.pair;
    })

pub joined-requires : goal.joined-requires
joined-requires c =
    let low : IsInjectionAt c.collapse.new.self c.args.from.0 c.args.through.0 c.args.lower =
    injection_grown c.direct.new.self c.collapse.new.self c.args.from.0 c.args.through.0
    c.args.lower c.in_ok-collapse.ensures.grown
    (injection_grown c.args.self.now c.direct.new.self c.args.from.0 c.args.through.0 c.args.lower
    c.in_ok-upper.ensures.grown c.requires.lower) in
    let up : IsInjectionAt c.collapse.new.self c.args.through.0 c.args.to.0 c.in_ok-upper.upper =
    injection_grown c.direct.new.self c.collapse.new.self c.args.through.0 c.args.to.0
    c.in_ok-upper.upper c.in_ok-collapse.ensures.grown c.in_ok-upper.ensures.lemma in
    let col : IsCollapseAt c.collapse.new.self c.args.from.0 c.args.through.0 c.args.to.0
    c.in_ok-collapse.collapse =
    c.in_ok-collapse.ensures.lemma in
    let low_found : low.lemma ≡ c.index-lemmas-lower.result =
    lemma_found c.collapse.new.self.lemmas c.args.lower low.lemma c.index-lemmas-lower.result
    low.there
    (c.index-lemmas-lower.is
    ∙ ap (λ (ts : List Theorem). get_or ts c.args.lower c.index-lemmas-lower.result)
    c.lemmas-lemmas.ensures) in
    let up_found : up.lemma ≡ c.index-lemmas-upper.result =
    lemma_found c.collapse.new.self.lemmas c.in_ok-upper.upper up.lemma
    c.index-lemmas-upper.result up.there
    (c.index-lemmas-upper.is
    ∙ ap (λ (ts : List Theorem). get_or ts c.in_ok-upper.upper c.index-lemmas-upper.result)
    c.lemmas-lemmas.ensures) in
    let col_found : col.lemma ≡ c.index-lemmas-collapse.result =
    lemma_found c.collapse.new.self.lemmas c.in_ok-collapse.collapse col.lemma
    c.index-lemmas-collapse.result col.there
    (c.index-lemmas-collapse.is
    ∙ ap (λ (ts : List Theorem).
    get_or ts c.in_ok-collapse.collapse c.index-lemmas-collapse.result)
    c.lemmas-lemmas.ensures) in
    let e = col.is.ends in (
      e.symbol,
      e.lower,
      e.upper,
      col.is.last,
      subst (λ (t : Theorem). Joins e.symbol e.lower e.upper col.is.last t
          c.index-lemmas-lower.result c.index-lemmas-upper.result) col_found
          (subst (λ (t : Theorem). Joins e.symbol e.lower e.upper col.is.last col.lemma t
          c.index-lemmas-upper.result) low_found
          (subst (λ (t : Theorem). Joins e.symbol e.lower e.upper col.is.last col.lemma low.lemma t)
          up_found
          (joins_of c.collapse.new.self c.args.from.0 c.args.through.0 c.args.to.0
          c.in_ok-collapse.collapse c.args.lower c.in_ok-upper.upper col low up))),
    )

pub add_injection-requires-clause-stays : goal.add_injection-requires-clause-stays
add_injection-requires-clause-stays c =
    let low : IsInjectionAt c.collapse.new.self c.args.from.0 c.args.through.0 c.args.lower =
    injection_grown c.direct.new.self c.collapse.new.self c.args.from.0 c.args.through.0
    c.args.lower c.in_ok-collapse.ensures.grown
    (injection_grown c.args.self.now c.direct.new.self c.args.from.0 c.args.through.0 c.args.lower
    c.in_ok-upper.ensures.grown c.requires.lower) in
    let up : IsInjectionAt c.collapse.new.self c.args.through.0 c.args.to.0 c.in_ok-upper.upper =
    injection_grown c.direct.new.self c.collapse.new.self c.args.through.0 c.args.to.0
    c.in_ok-upper.upper c.in_ok-collapse.ensures.grown c.in_ok-upper.ensures.lemma in
    let col : IsCollapseAt c.collapse.new.self c.args.from.0 c.args.through.0 c.args.to.0
    c.in_ok-collapse.collapse =
    c.in_ok-collapse.ensures.lemma in
    let low_found : low.lemma ≡ c.index-lemmas-lower.result =
    lemma_found c.collapse.new.self.lemmas c.args.lower low.lemma c.index-lemmas-lower.result
    low.there
    (c.index-lemmas-lower.is
    ∙ ap (λ (ts : List Theorem). get_or ts c.args.lower c.index-lemmas-lower.result)
    c.lemmas-lemmas.ensures) in
    let up_found : up.lemma ≡ c.index-lemmas-upper.result =
    lemma_found c.collapse.new.self.lemmas c.in_ok-upper.upper up.lemma
    c.index-lemmas-upper.result up.there
    (c.index-lemmas-upper.is
    ∙ ap (λ (ts : List Theorem). get_or ts c.in_ok-upper.upper c.index-lemmas-upper.result)
    c.lemmas-lemmas.ensures) in
    let col_found : col.lemma ≡ c.index-lemmas-collapse.result =
    lemma_found c.collapse.new.self.lemmas c.in_ok-collapse.collapse col.lemma
    c.index-lemmas-collapse.result col.there
    (c.index-lemmas-collapse.is
    ∙ ap (λ (ts : List Theorem).
    get_or ts c.in_ok-collapse.collapse c.index-lemmas-collapse.result)
    c.lemmas-lemmas.ensures) in
    chain_stays c.collapse.new.self c.args.from.0 c.args.through.0 c.args.to.0
    c.in_ok-collapse.collapse c.args.lower c.in_ok-upper.upper c.in_ok-lemma.lemma col low up
    (subst (λ (t : Theorem). StaysJoined t low.lemma up.lemma c.in_ok-lemma.lemma) (sym col_found)
    (subst
    (λ (t : Theorem). StaysJoined c.index-lemmas-collapse.result t up.lemma c.in_ok-lemma.lemma)
    (sym low_found)
    (subst (λ (t : Theorem). StaysJoined c.index-lemmas-collapse.result c.index-lemmas-lower.result
    t c.in_ok-lemma.lemma) (sym up_found) c.in_ok-lemma.ensures.stays)))

pub add_injection-requires-clause-is : goal.add_injection-requires-clause-is
add_injection-requires-clause-is c =
    let low : IsInjectionAt c.collapse.new.self c.args.from.0 c.args.through.0 c.args.lower =
    injection_grown c.direct.new.self c.collapse.new.self c.args.from.0 c.args.through.0
    c.args.lower c.in_ok-collapse.ensures.grown
    (injection_grown c.args.self.now c.direct.new.self c.args.from.0 c.args.through.0 c.args.lower
    c.in_ok-upper.ensures.grown c.requires.lower) in
    let up : IsInjectionAt c.collapse.new.self c.args.through.0 c.args.to.0 c.in_ok-upper.upper =
    injection_grown c.direct.new.self c.collapse.new.self c.args.through.0 c.args.to.0
    c.in_ok-upper.upper c.in_ok-collapse.ensures.grown c.in_ok-upper.ensures.lemma in
    let col : IsCollapseAt c.collapse.new.self c.args.from.0 c.args.through.0 c.args.to.0
    c.in_ok-collapse.collapse =
    c.in_ok-collapse.ensures.lemma in
    let low_found : low.lemma ≡ c.index-lemmas-lower.result =
    lemma_found c.collapse.new.self.lemmas c.args.lower low.lemma c.index-lemmas-lower.result
    low.there
    (c.index-lemmas-lower.is
    ∙ ap (λ (ts : List Theorem). get_or ts c.args.lower c.index-lemmas-lower.result)
    c.lemmas-lemmas.ensures) in
    let up_found : up.lemma ≡ c.index-lemmas-upper.result =
    lemma_found c.collapse.new.self.lemmas c.in_ok-upper.upper up.lemma
    c.index-lemmas-upper.result up.there
    (c.index-lemmas-upper.is
    ∙ ap (λ (ts : List Theorem). get_or ts c.in_ok-upper.upper c.index-lemmas-upper.result)
    c.lemmas-lemmas.ensures) in
    let col_found : col.lemma ≡ c.index-lemmas-collapse.result =
    lemma_found c.collapse.new.self.lemmas c.in_ok-collapse.collapse col.lemma
    c.index-lemmas-collapse.result col.there
    (c.index-lemmas-collapse.is
    ∙ ap (λ (ts : List Theorem).
    get_or ts c.in_ok-collapse.collapse c.index-lemmas-collapse.result)
    c.lemmas-lemmas.ensures) in
    injected_by_chain c.collapse.new.self c.args.from.0 c.args.through.0 c.args.to.0
    c.in_ok-collapse.collapse c.args.lower c.in_ok-upper.upper c.in_ok-lemma.lemma col low up
    (subst (λ (t : Theorem). JoinedFrom t low.lemma up.lemma c.in_ok-lemma.lemma) (sym col_found)
    (subst
    (λ (t : Theorem). JoinedFrom c.index-lemmas-collapse.result t up.lemma c.in_ok-lemma.lemma)
    (sym low_found)
    (subst (λ (t : Theorem). JoinedFrom c.index-lemmas-collapse.result c.index-lemmas-lower.result t
    c.in_ok-lemma.lemma) (sym up_found) c.in_ok-lemma.ensures.says)))

pub returns-clause-grown : goal.returns-clause-grown
returns-clause-grown c =
    grown_twice c.args.self.now c.collapse.new.self c.add_injection.new.self
    (grown_twice c.args.self.now c.direct.new.self c.collapse.new.self
    c.in_ok-upper.ensures.grown c.in_ok-collapse.ensures.grown)
    c.add_injection.ensures.grown
