use Rattle.std.proofs.Common.{◌<◌, length, refl, sym, ◌∙◌, below_more}
use Rattle.std.proofs.Common.{arith}
use Rattle.std.proofs.lemmas.Bool.{false≢true}
use Rattle.rule_core.proofs.AcSymbols.{ac_within}
use Rattle.rule_core.proofs.signature.Signature.ac_free.Goals as goal

pub returns-then-is_ac_constructor : goal.returns-then-is_ac_constructor
returns-then-is_ac_constructor c = (
  λ no. absurd (false≢true no),
  λ free. absurd
      (free c.loop-number.number (c.is_ac_constructor.ensures.0 c.if-is_ac_constructor.true)),
)

pub loop-number-preserved : goal.loop-number-preserved
loop-number-preserved c =
    below_more _ _ c.loop-number.invariant
    (λ ac. false≢true (sym c.if-is_ac_constructor.false ∙ c.is_ac_constructor.ensures.1 ac))

pub returns : goal.returns
returns c = (
  λ told f ac. c.loop-number.invariant f (let within : f < length c.args.self.now.symbols =
      ac_within c.args.self.now f ac in
      omega arith) ac,
  λ free. refl,
)
