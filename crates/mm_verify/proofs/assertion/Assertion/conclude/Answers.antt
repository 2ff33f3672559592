use Rattle.std.proofs.Common.{◌≡◌, subst, List, ℕ, drop, length}
use Rattle.std.specs.Prelude.{OnOk, ◌++◌}
use Rattle.mm_verify.specs.StatementView.{statement_parts}
use Rattle.mm_verify.specs.Resolved.{hypotheses_of}
use Rattle.mm_verify.proofs.Resolving.{placed-within, filled-is}
use Rattle.mm_verify.proofs.assertion.Assertion.conclude.Goals as goal

pub fill-requires : goal.fill-requires
fill-requires c = record {
  within =
      placed-within (hypotheses_of c.args.self.now.wanted.items)
      (length (drop c.args.base c.args.stack.now)) (statement_parts c.args.self.now.conclusion)
      c.requires.count c.args.self.now.conclusion_placed;
}

pub returns : goal.returns
returns c = record {
  filled =
      subst (λ (t : List ℕ). OnOk c.fill.result (c.fill.new.to.items ≡ c.args.to.now.items ++ t))
      (filled-is (hypotheses_of c.args.self.now.wanted.items) (drop c.args.base c.args.stack.now)
      (statement_parts c.args.self.now.conclusion) c.requires.count
      c.args.self.now.conclusion_placed)
      c.fill.ensures.filled;
}
