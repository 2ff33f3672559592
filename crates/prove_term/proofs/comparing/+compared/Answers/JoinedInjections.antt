-- The answers for an injection whose argument becomes an injection: a collapse makes them one.
use Rattle.std.proofs.Common.{◌≡◌, ℕ, List, Option, Some, None, get_or, ap, sym, ◌∙◌, subst, arith}
use Rattle.ml_pat.specs.Patterns.{Pattern}
use Rattle.ml_kernel.specs.Lemmas.{HasNoVariable}
use Rattle.ml_kernel.specs.Theorems.{Theorem}
use Rattle.term_core.specs.Patterns.{Pattern as RulePattern, injection}
use Rattle.term_core.specs.RulePatterns.{plain_pattern}
use Rattle.rule_core.specs.WellSorted.{IsSignature}
use Rattle.rule_core.specs.declared.rules.Program.{Program}
use Rattle.prove_term.specs.Contexts.{Context, HasGrown}
use Rattle.prove_term.specs.Applications.{IsApplication}
use Rattle.prove_term.specs.Injections.{IsCollapseAt}
use Rattle.prove_term.specs.Carrying.{Collapses, CollapsesTo, CollapsesBy}
use Rattle.prove_term.specs.Comparing.{MakesTerm, Compares, IsFactOn, IsOnce}
use Rattle.prove_term.proofs.ElementLaws.{lemma_found}
use Rattle.prove_term.proofs.ComparingInjections.{once_of, once_grown, fact_grown}
use Rattle.prove_term.proofs.ComparingInjections.{fact_collapses, moved_made, moved_reaches}
use Rattle.prove_term.proofs.ResultLaws.{if_ok_two}
use Rattle.prove_term.proofs.ContextLaws.{grown_twice}
use Rattle.prove_term.proofs.ComparingCalls.{application_grown, once_closed, once_halves}
use Rattle.prove_term.proofs.ComparingCalls.{once_splits, once_compares, joinable}
use Rattle.prove_term.proofs.ComparingCalls.{further_compares, compares_grown, made_closed}
use Rattle.prove_term.proofs.ComparingCalls.{made_again}
use Rattle.prove_term.proofs.ComparingLoop.{compared_says}
use Rattle.prove_term.proofs.ComparingLaws.{closed-injection}
use Rattle.prove_term.proofs.comparing.+compared.Goals as goal
use Rattle.prove_term.proofs.comparing.+compared.Goals.{joined_compared-In_ok-place}
use Rattle.prove_term.proofs.comparing.+compared.Goals.{joined_compared-After-middle_compared}

-- the lemma that is read is that of the collapse
lemma_read : {cx : Context} {a b d place : ℕ} {lemmas : List Theorem} {lemma : Theorem}
    (at : IsCollapseAt cx a b d place) → lemmas ≡ cx.lemmas → lemma ≡ get_or lemmas place lemma
    → at.lemma ≡ lemma
lemma_read {cx} {place = place} {lemma = lemma} at same is =
    lemma_found cx.lemmas place at.lemma lemma at.there
    (is ∙ ap (λ (ts : List Theorem). get_or ts place lemma) same)

-- by that lemma both injections become one
once_by : {cx : Context} {a b d place : ℕ} {w : RulePattern} {lemmas : List Theorem}
    {lemma fact once : Theorem} → IsCollapseAt cx a b d place → lemmas ≡ cx.lemmas
    → lemma ≡ get_or lemmas place lemma → IsFactOn cx w a fact → CollapsesTo lemma fact once
    → CollapsesBy lemma fact once → IsOnce cx a b d w once
once_by {cx} {a} {b} {d} {place} {w} {lemmas} {lemma} {fact} {once} at same is on to by =
    once_of cx a b d place w fact once at on
    (subst (λ (l : Theorem). CollapsesTo l fact once) (sym (lemma_read at same is)) to)
    (subst (λ (l : Theorem). CollapsesBy l fact once) (sym (lemma_read at same is)) by)

-- the fact about the element of the lowest sort, once the lemma is there
fact_there : (t : ℕ) (c : joined_compared-In_ok-place t)
    → IsFactOn c.collapse.new.self (plain_pattern c.args.base.now) c.args.lowest.0 c.args.fact.now
fact_there t c =
    fact_grown c.args.cx.now c.collapse.new.self (plain_pattern c.args.base.now) c.args.lowest.0
    c.args.fact.now c.in_ok-place.ensures.grown c.requires.fact

-- the same after the comparison of the pattern below
once_later : (t : ℕ) (c : joined_compared-After-middle_compared t) (cx : Context)
    → HasGrown c.collapse.new.self cx
    → IsOnce cx c.args.lowest.0 c.args.from.0 c.args.to.0
    (plain_pattern c.args.base.now) c.in_ok-once.once
once_later t c cx g =
    once_grown c.collapse.new.self cx c.args.lowest.0 c.args.from.0
    c.args.to.0 (plain_pattern c.args.base.now) c.in_ok-once.once
    (once_by c.in_ok-place.ensures.lemma c.lemmas.ensures c.index-lemmas-place.is
    (fact_grown c.args.cx.now c.collapse.new.self (plain_pattern c.args.base.now) c.args.lowest.0
    c.args.fact.now c.in_ok-place.ensures.grown c.requires.fact)
    c.in_ok-once.ensures.conclusion c.in_ok-once.ensures.by) g

below_later : (t : ℕ) (c : joined_compared-After-middle_compared t) (cx : Context)
    → HasGrown c.collapse.new.self cx
    → MakesTerm cx.program.sig (plain_pattern c.args.below.now)
    (injection c.args.lowest.0 c.args.from.0 (plain_pattern c.args.base.now))
below_later t c cx g =
    made_again c.args.cx.now cx (plain_pattern c.args.below.now)
    (injection c.args.lowest.0 c.args.from.0 (plain_pattern c.args.base.now))
    (grown_twice c.args.cx.now c.collapse.new.self cx
    c.in_ok-place.ensures.grown g)
    (moved_made c.args.cx.now.program.sig c.args.lowest.0 c.args.from.0 c.args.to.0 c.args.to.0
    (plain_pattern c.args.below.now) (plain_pattern c.args.base.now) c.requires.made
    c.requires.apart).2

-- the two parts of the left side are the image of the outer injection and what it is applied to
parts_same : (t : ℕ) (c : joined_compared-After-middle_compared t) (cx : Context)
    (o : IsOnce cx c.args.lowest.0 c.args.from.0 c.args.to.0
    (plain_pattern c.args.base.now) c.in_ok-once.once)
    → (c.twice.result.0.now ≡ o.head) × (c.twice.result.1.now ≡ o.middle)
parts_same t c cx o =
    once_halves cx c.args.lowest.0 c.args.from.0 c.args.to.0
    (plain_pattern c.args.base.now) c.in_ok-once.once o c.twice.result.0.now
    c.twice.result.1.now c.twice.ensures.0 c.twice.ensures.1

-- what is proved of the pattern below the injection, in a grown context
below_says : (t : ℕ) (c : joined_compared-After-middle_compared t) (cx : Context)
    (one : Option Theorem) (q : Pattern) → HasGrown c.middle_compared.new.cx cx
    → c.twice.result.1.now ≡ q
    → Compares c.middle_compared.new.cx (plain_pattern c.args.below.now)
    (injection c.args.lowest.0 c.args.from.0 (plain_pattern c.args.base.now))
    c.twice.result.1.now one
    → Compares cx (plain_pattern c.args.below.now)
    (injection c.args.lowest.0 c.args.from.0 (plain_pattern c.args.base.now)) q one
below_says t c cx one q g same says =
    subst (λ (p : Pattern). Compares cx (plain_pattern c.args.below.now)
    (injection c.args.lowest.0 c.args.from.0 (plain_pattern c.args.base.now)) p one) same
    (compares_grown c.middle_compared.new.cx cx (plain_pattern c.args.below.now)
    (injection c.args.lowest.0 c.args.from.0 (plain_pattern c.args.base.now))
    c.twice.result.1.now one g says)

-- the image of the outer injection is applied
further_applied : {cx : Context} {a b d : ℕ} {w : RulePattern} {once : Theorem}
    {head middle : Pattern} (o : IsOnce cx a b d w once) (one further : Option Theorem)
    → (head ≡ o.head) × (middle ≡ o.middle) → IsApplication cx head middle None one further
    → IsApplication cx o.head o.middle None one further
further_applied {cx = cx} {head = head} o one further same made =
    subst (λ (q : Pattern). IsApplication cx q o.middle None one further) same.0
    (subst (λ (q : Pattern). IsApplication cx head q None one further) same.1 made)

pub joined_compared-collapse-requires-clause-below :
    goal.joined_compared-collapse-requires-clause-below
joined_compared-collapse-requires-clause-below t c =
    (moved_made c.args.cx.now.program.sig c.args.lowest.0 c.args.from.0 c.args.to.0 c.args.to.0
    (plain_pattern c.args.below.now) (plain_pattern c.args.base.now) c.requires.made
    c.requires.apart).1

pub joined_compared-collapse-requires-clause-above :
    goal.joined_compared-collapse-requires-clause-above
joined_compared-collapse-requires-clause-above t c =
    moved_reaches c.args.cx.now.program.sig c.args.from.0 c.args.to.0
    (plain_pattern c.args.below.now)
    (injection c.args.lowest.0 c.args.to.0 (plain_pattern c.args.base.now)) c.requires.signature
    c.requires.made

pub joined_compared-at_once-requires : goal.joined_compared-at_once-requires
joined_compared-at_once-requires t c =
    let at : IsCollapseAt c.collapse.new.self c.args.lowest.0 c.args.from.0 c.args.to.0
    c.in_ok-place.place =
    c.in_ok-place.ensures.lemma in
    let fact : IsFactOn c.collapse.new.self (plain_pattern c.args.base.now) c.args.lowest.0
    c.args.fact.now =
    fact_there t (goal.at.joined_compared-at_once-requires t c).In_ok-place in
    let found : at.lemma ≡ c.index-lemmas-place.result =
    lemma_read at c.lemmas.ensures c.index-lemmas-place.is in
    let e = at.is.ends in (
      e.symbol,
      e.lower,
      e.upper,
      at.is.last,
      fact.image,
      subst (λ (l : Theorem).
          Collapses e.symbol e.lower e.upper at.is.last fact.image l c.args.fact.now) found
          (fact_collapses c.collapse.new.self c.args.lowest.0 c.args.from.0 c.args.to.0
          c.in_ok-place.place (plain_pattern c.args.base.now) c.args.fact.now at fact),
    )

pub joined_compared-twice-requires : goal.joined_compared-twice-requires
joined_compared-twice-requires t c =
    once_splits c.collapse.new.self c.args.lowest.0 c.args.from.0 c.args.to.0
    (plain_pattern c.args.base.now) c.in_ok-once.once
    (once_by c.in_ok-place.ensures.lemma c.lemmas.ensures c.index-lemmas-place.is
    (fact_there t (goal.at.joined_compared-twice-requires t c).In_ok-place)
    c.in_ok-once.ensures.conclusion c.in_ok-once.ensures.by)

pub joined_compared-middle_compared-requires : goal.joined_compared-middle_compared-requires
joined_compared-middle_compared-requires t c =
    let fact : IsFactOn c.collapse.new.self (plain_pattern c.args.base.now) c.args.lowest.0
    c.args.fact.now =
    fact_there t (goal.at.joined_compared-middle_compared-requires t c).In_ok-place in
    let o : IsOnce c.collapse.new.self c.args.lowest.0 c.args.from.0 c.args.to.0
    (plain_pattern c.args.base.now) c.in_ok-once.once =
    once_by c.in_ok-place.ensures.lemma c.lemmas.ensures c.index-lemmas-place.is fact
    c.in_ok-once.ensures.conclusion c.in_ok-once.ensures.by in
    let parts : (c.twice.result.0.now ≡ o.head) × (c.twice.result.1.now ≡ o.middle) =
    once_halves c.collapse.new.self c.args.lowest.0 c.args.from.0 c.args.to.0
    (plain_pattern c.args.base.now) c.in_ok-once.once o c.twice.result.0.now
    c.twice.result.1.now c.twice.ensures.0 c.twice.ensures.1 in (
      omega (arith, c.decreases),
      (
        subst (λ (program : Program). IsSignature program.sig)
            (sym c.in_ok-place.ensures.grown.program) c.requires.signature,
        (
          made_again c.args.cx.now c.collapse.new.self (plain_pattern c.args.below.now)
              (injection c.args.lowest.0 c.args.from.0 (plain_pattern c.args.base.now))
              c.in_ok-place.ensures.grown
              (moved_made c.args.cx.now.program.sig c.args.lowest.0 c.args.from.0 c.args.to.0
              c.args.to.0 (plain_pattern c.args.below.now) (plain_pattern c.args.base.now)
              c.requires.made c.requires.apart).2,
          (fact, o.is_middle ∙ ap (λ (q : Pattern). Some q) (sym parts.1)),
        ),
      ),
    )

pub joined_compared-applied-requires-clause-argument :
    goal.joined_compared-applied-requires-clause-argument
joined_compared-applied-requires-clause-argument t c =
    let at = (goal.at.joined_compared-applied-requires-clause-argument t c).After-middle_compared in
    compared_says c.middle_compared.new.cx (plain_pattern c.args.below.now)
    (injection c.args.lowest.0 c.args.from.0 (plain_pattern c.args.base.now))
    c.twice.result.1.now c.in_ok-one.one
    (below_later t at c.middle_compared.new.cx c.in_ok-one.ensures.grown)
    c.in_ok-one.ensures.says

pub joined_compared-applied-requires-clause-closed :
    goal.joined_compared-applied-requires-clause-closed
joined_compared-applied-requires-clause-closed t c =
    let at = (goal.at.joined_compared-applied-requires-clause-closed t c).After-middle_compared in
    let o : IsOnce c.middle_compared.new.cx c.args.lowest.0 c.args.from.0 c.args.to.0
    (plain_pattern c.args.base.now) c.in_ok-once.once =
    once_later t at c.middle_compared.new.cx c.in_ok-one.ensures.grown in
    let parts : (c.twice.result.0.now ≡ o.head) × (c.twice.result.1.now ≡ o.middle) =
    parts_same t at c.middle_compared.new.cx o in (
      subst HasNoVariable (sym parts.0)
          (closed-injection c.middle_compared.new.cx.program.sig c.middle_compared.new.cx.names
          c.args.from.0 c.args.to.0 o.head o.is_head),
      subst HasNoVariable (sym parts.1) (made_closed c.middle_compared.new.cx
          (plain_pattern c.args.below.now)
          (injection c.args.lowest.0 c.args.from.0 (plain_pattern c.args.base.now)) o.middle
          (below_later t at c.middle_compared.new.cx c.in_ok-one.ensures.grown) o.is_middle),
    )

pub joined_compared-join-requires-clause-joinable :
    goal.joined_compared-join-requires-clause-joinable
joined_compared-join-requires-clause-joinable t c =
    let at = (goal.at.joined_compared-join-requires-clause-joinable t c).After-middle_compared in
    let g : HasGrown c.collapse.new.self c.applied.new.cx =
    grown_twice c.collapse.new.self c.middle_compared.new.cx c.applied.new.cx
    c.in_ok-one.ensures.grown c.in_ok-further.ensures.grown in
    let o : IsOnce c.applied.new.cx c.args.lowest.0 c.args.from.0 c.args.to.0
    (plain_pattern c.args.base.now) c.in_ok-once.once =
    once_later t at c.applied.new.cx g in
    let parts : (c.twice.result.0.now ≡ o.head) × (c.twice.result.1.now ≡ o.middle) =
    parts_same t at c.applied.new.cx o in
    joinable c.applied.new.cx c.args.lowest.0 c.args.from.0 c.args.to.0
    (plain_pattern c.args.below.now) (plain_pattern c.args.base.now) c.in_ok-once.once
    c.in-Some.e o c.in_ok-one.one c.in_ok-further.further
    (below_later t at c.applied.new.cx g)
    (below_says t at c.applied.new.cx c.in_ok-one.one o.middle c.in_ok-further.ensures.grown parts.1
    c.in_ok-one.ensures.says)
    (further_applied o c.in_ok-one.one c.in_ok-further.further parts c.in_ok-further.ensures.says)
    c.in-Some.is

pub joined_compared-join-requires-clause-closed : goal.joined_compared-join-requires-clause-closed
joined_compared-join-requires-clause-closed t c =
    let at = (goal.at.joined_compared-join-requires-clause-closed t c).After-middle_compared in
    let g : HasGrown c.collapse.new.self c.applied.new.cx =
    grown_twice c.collapse.new.self c.middle_compared.new.cx c.applied.new.cx
    c.in_ok-one.ensures.grown c.in_ok-further.ensures.grown in
    once_closed c.applied.new.cx c.args.lowest.0 c.args.from.0 c.args.to.0
    (plain_pattern c.args.below.now)
    (injection c.args.from.0 c.args.to.0 (plain_pattern c.args.below.now))
    (plain_pattern c.args.base.now) c.in_ok-once.once (once_later t at c.applied.new.cx g)
    (below_later t at c.applied.new.cx g)
    (made_again c.args.cx.now c.applied.new.cx
    (injection c.args.from.0 c.args.to.0 (plain_pattern c.args.below.now))
    (injection c.args.lowest.0 c.args.to.0 (plain_pattern c.args.base.now))
    (grown_twice c.args.cx.now c.collapse.new.self c.applied.new.cx c.in_ok-place.ensures.grown g)
    c.requires.made)

pub joined_compared-returns-in-Some-clause-says : goal.joined_compared-returns-in-Some-clause-says
joined_compared-returns-in-Some-clause-says t c =
    let at = (goal.at.joined_compared-returns-in-Some-clause-says t c).After-middle_compared in
    let k : HasGrown c.middle_compared.new.cx c.join.new.cx =
    grown_twice c.middle_compared.new.cx c.applied.new.cx c.join.new.cx
    c.in_ok-further.ensures.grown c.join.ensures.grown in
    let g : HasGrown c.collapse.new.self c.join.new.cx =
    grown_twice c.collapse.new.self c.middle_compared.new.cx c.join.new.cx
    c.in_ok-one.ensures.grown k in
    let o : IsOnce c.join.new.cx c.args.lowest.0 c.args.from.0 c.args.to.0
    (plain_pattern c.args.base.now) c.in_ok-once.once =
    once_later t at c.join.new.cx g in
    let parts : (c.twice.result.0.now ≡ o.head) × (c.twice.result.1.now ≡ o.middle) =
    parts_same t at c.join.new.cx o in
    if_ok_two c.join.result
    (λ made join within. λ image is. further_compares c.join.new.cx c.args.lowest.0
    c.args.from.0 c.args.to.0 (plain_pattern c.args.below.now) (plain_pattern c.args.base.now)
    c.in_ok-once.once c.in-Some.e made o c.in_ok-one.one c.in_ok-further.further
    c.requires.apart
    (below_says t at c.join.new.cx c.in_ok-one.one o.middle k parts.1
    c.in_ok-one.ensures.says)
    (further_applied o c.in_ok-one.one c.in_ok-further.further parts
    (application_grown c.applied.new.cx c.join.new.cx c.twice.result.0.now c.twice.result.1.now
    None c.in_ok-one.one c.in_ok-further.further c.join.ensures.grown
    c.in_ok-further.ensures.says))
    c.in-Some.is join within image is)
    c.join.ensures.conclusion c.join.ensures.stays

pub joined_compared-returns-in-None-clause-says : goal.joined_compared-returns-in-None-clause-says
joined_compared-returns-in-None-clause-says t c =
    let at = (goal.at.joined_compared-returns-in-None-clause-says t c).After-middle_compared in
    let g : HasGrown c.collapse.new.self c.applied.new.cx =
    grown_twice c.collapse.new.self c.middle_compared.new.cx c.applied.new.cx
    c.in_ok-one.ensures.grown c.in_ok-further.ensures.grown in
    let o : IsOnce c.applied.new.cx c.args.lowest.0 c.args.from.0 c.args.to.0
    (plain_pattern c.args.base.now) c.in_ok-once.once =
    once_later t at c.applied.new.cx g in
    let parts : (c.twice.result.0.now ≡ o.head) × (c.twice.result.1.now ≡ o.middle) =
    parts_same t at c.applied.new.cx o in
    λ image is. once_compares c.applied.new.cx c.args.lowest.0 c.args.from.0 c.args.to.0
    (plain_pattern c.args.below.now) (plain_pattern c.args.base.now) c.in_ok-once.once o
    o.head o.middle c.in_ok-one.one c.in_ok-further.further c.requires.apart
    (below_says t at c.applied.new.cx c.in_ok-one.one o.middle c.in_ok-further.ensures.grown parts.1
    c.in_ok-one.ensures.says)
    (further_applied o c.in_ok-one.one c.in_ok-further.further parts c.in_ok-further.ensures.says)
    c.in-None.is image is
