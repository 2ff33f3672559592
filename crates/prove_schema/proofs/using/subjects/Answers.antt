use Rattle.std.proofs.Common.{rules, ◌≡◌, ◌<◌, ◌≤◌, ℕ, [], ◌∷◌, ◌++◌, length, sym, ◌∙◌, ap, arith}
use Rattle.ml_pat.specs.Patterns.{Pattern, fun}
use Rattle.prove_schema.proofs.UsingLaws.{says_subject, one_more_subject, all_subjects}
use Rattle.prove_schema.proofs.using.subjects.Goals as goal

pub subject-requires : goal.subject-requires
subject-requires c =
    let low : c.loop-fact.fact-index < length c.args.facts.now =
    omega (arith, c.loop-fact-test.true, c.loop-fact.auto.fact-index-end) in
    let says : (p : Pattern) × (n : ℕ) × (c.fact-item.result.conclusion ≡ fun p n) =
    says_subject c.requires.0 c.requires.1 c.args.facts.now c.loop-fact.fact-index
    c.fact-item.result c.requires.2 low c.fact-item.is in
    (says.0, says.1, c.conclusion.ensures ∙ says.2)

pub loop-fact-preserved : goal.loop-fact-preserved
loop-fact-preserved c = λ qs ns are.
    let p : Pattern = c.in_ok-share.field-0 in
    let items : c.push.new.self.items ≡ c.loop-fact.patterns.items ++ p ∷ [] = search rules in
    let low : c.loop-fact.fact-index < length c.args.facts.now =
    omega (arith, c.loop-fact-test.true, c.loop-fact.auto.fact-index-end) in
    items
    ∙ one_more_subject qs ns c.args.facts.now c.loop-fact.fact-index c.fact-item.result
    c.loop-fact.patterns.items p c.subject.ensures.0 are low c.fact-item.is
    (sym c.conclusion.ensures ∙ c.subject.ensures.1
    ∙ ap (λ (q : Pattern). fun q c.subject.ensures.0) (sym c.in_ok-share.ensures))
    (c.loop-fact.invariant qs ns are)

pub returns : goal.returns
returns c = λ qs ns are.
    let enough : length c.args.facts.now ≤ c.loop-fact.fact-index = omega arith in
    all_subjects qs ns c.args.facts.now c.loop-fact.fact-index c.loop-fact.patterns.items are enough
    (c.loop-fact.invariant qs ns are)
