use Rattle.std.proofs.Common.{◌≡◌, ℕ, List, sym, ◌∙◌, ap}
use Rattle.std.proofs.lemmas.Bool.{eqb-true}
use Rattle.term_core.specs.Terms.{Forest, Tree, node, inj}
use Rattle.term_core.specs.Patterns.{domain_value, application, injection}
use Rattle.term_core.specs.Patterns.{ground_pattern, ground_patterns}
use Rattle.term_core.specs.Values.{value_of}
use Rattle.term_core.specs.RulePatterns.{plain_pattern}
use Rattle.term_core.specs.PatternLists.{plain_patterns}
use Rattle.term_core.specs.declared.rule_patterns.RulePat.{RulePat}
use Rattle.term_core.proofs.PlainPatterns.{plain-Value, plain-Ctor, plain-Inj}
use Rattle.prove_term.proofs.ComparingLaws.{ground_application, ground_injection}
use Rattle.refute.proofs.Pairs.{value_term, same_target}
use Rattle.refute.proofs.meetings.met.Goals as goal

pub returns-in-Value-whole : goal.returns-in-Value-whole
returns-in-Value-whole c =
    let same : value_of c.in-Value.value ≡ value_of c.in-Value-whole.other =
    c.same.ensures.0 c.if-same.true in (
      c.in-Value.field-0.0,
      c.in-Value-whole.field-0.0,
      value_of c.in-Value-whole.other,
      ap plain_pattern c.in-Value.is ∙ plain-Value _ _
          ∙ ap (domain_value c.in-Value.field-0.0) same,
      value_term _ _ c.args.term.now
          (sym (plain-Value _ _) ∙ ap plain_pattern (sym c.in-Value-whole.is) ∙ c.requires.whole),
    )

pub returns-in-Ctor-whole : goal.returns-in-Ctor-whole
returns-in-Ctor-whole c =
    let same : c.in-Ctor.symbol.0 ≡ c.in-Ctor-whole.other.0 =
    eqb-true c.in-Ctor.symbol.0 c.in-Ctor-whole.other.0 (sym c.eq.ensures ∙ c.if-eq.true) in
    let w : (ts : Forest) × (c.args.term.now ≡ node c.in-Ctor-whole.other.0 ts)
    × (plain_patterns c.in-Ctor-whole.wholes.items ≡ ground_patterns ts) =
    ground_application c.in-Ctor-whole.other.0 (plain_patterns c.in-Ctor-whole.wholes.items)
    c.args.term.now
    (sym (plain-Ctor _ _) ∙ ap plain_pattern (sym c.in-Ctor-whole.is) ∙ c.requires.whole) in (
      w.0,
      ap plain_pattern c.in-Ctor.is ∙ plain-Ctor _ _
          ∙ ap (λ (ps : List RulePat). application c.in-Ctor.symbol.0 (plain_patterns ps))
          (sym c.deref.ensures.value),
      w.1 ∙ ap (λ (f : ℕ). node f w.0) (sym same),
      ap plain_patterns c.deref-in-Ctor-whole.ensures.value ∙ w.2,
    )

pub returns-in-Inj-whole : goal.returns-in-Inj-whole
returns-in-Inj-whole c =
    let pattern_is : plain_pattern c.args.pat.now
    ≡ injection c.in-Inj.through.0 c.in-Inj.to.0
    (plain_pattern c.deref-in-Inj-whole.result.now) =
    ap plain_pattern c.in-Inj.is ∙ plain-Inj _ _ _
    ∙ ap (λ (p : RulePat). injection c.in-Inj.through.0 c.in-Inj.to.0 (plain_pattern p))
    (sym c.deref-in-Inj-whole.ensures) in
    let w : (u : Tree)
    × (c.args.term.now ≡ inj c.in-Inj-whole.from.0 c.in-Inj-whole.field-1.0 u)
    × (plain_pattern c.in-Inj-whole.inner.value ≡ ground_pattern u) =
    ground_injection c.in-Inj-whole.from.0 c.in-Inj-whole.field-1.0
    (plain_pattern c.in-Inj-whole.inner.value) c.args.term.now
    (sym (plain-Inj _ _ _) ∙ ap plain_pattern (sym c.in-Inj-whole.is) ∙ c.requires.whole) in
    let target : c.in-Inj-whole.field-1.0 ≡ c.in-Inj.to.0 =
    same_target c.requires.sorted.0 c.requires.sorted.1 c.in-Inj-whole.from.0 c.in-Inj.through.0
    c.in-Inj.to.0 c.in-Inj-whole.field-1.0 c.requires.sorted.2 (plain_pattern c.args.pat.now)
    (plain_pattern c.deref-in-Inj-whole.result.now) c.args.term.now w.0 pattern_is w.1
    c.requires.sorted.3 c.requires.sorted.4 in (
      w.0,
      pattern_is,
      w.1 ∙ ap (λ (d : ℕ). inj c.in-Inj-whole.from.0 d w.0) target,
      ap plain_pattern c.deref-in-Inj-whole-2.ensures ∙ w.2,
      c.is_up_to.ensures.0 c.if-is_up_to.true,
    )
