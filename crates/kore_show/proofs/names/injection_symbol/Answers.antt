use Rattle.std.proofs.Common.{◌∙◌, sym, inl, inr, arith}
use Rattle.std.proofs.lemmas.Option.{slice_get_cases}
use Rattle.kore_show.proofs.Declared.{this-injection, next-injection}
use Rattle.kore_show.proofs.names.injection_symbol.Goals as goal

pub returns-then-injects-clause-found : goal.returns-then-injects-clause-found
returns-then-injects-clause-found c =
    elim (slice_get_cases c.args.symbols.now c.loop-n.n).1 [
      | inl h ↦ this-injection c.args.symbols.now c.loop-n.n h.0 h.2
          (sym (c.injects.ensures h.0.0 h.0.1 h.2) ∙ c.if-injects.true) ∙ c.loop-n.invariant
      | inr h ↦ absurd (omega (arith, h.0))
    ]

pub loop-n-preserved : goal.loop-n-preserved
loop-n-preserved c =
    elim (slice_get_cases c.args.symbols.now c.loop-n.n).1 [
      | inl h ↦
          sym (next-injection c.args.symbols.now c.loop-n.n h.0 h.2 (sym (c.injects.ensures
          h.0.0 h.0.1 h.2) ∙ c.if-injects.false)) ∙ c.loop-n.invariant
      | inr h ↦ absurd (omega (arith, h.0))
    ]
