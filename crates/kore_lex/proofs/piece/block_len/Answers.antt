use Rattle.std.proofs.Common.{◌∙◌, ◌+◌, sym, ap, refl, arith}
use Rattle.kore_lex.specs.Escapes.{further}
use Rattle.kore_lex.proofs.Runs.{further-sum, block-past, block-here, block-pass}
use Rattle.kore_lex.proofs.piece.block_len.Goals as goal

pub returns-then-ends_block-clause-value : goal.returns-then-ends_block-clause-value
returns-then-ends_block-clause-value c =
    ap (further c.loop-n.n) (sym (block-here c.loop-n.n c.args.bytes.now (omega
    arith) (sym c.if-ends_block.ensures))) ∙ c.loop-n.invariant.found

pub loop-n-preserved : goal.loop-n-preserved
loop-n-preserved c = record {
  within = omega arith;
  found = sym (further-sum c.loop-n.n 1 (c.loop-n.n + 1) _ refl)
      ∙ ap (further c.loop-n.n) (sym (block-pass c.loop-n.n c.args.bytes.now (omega
      arith) (sym c.if-ends_block.ensures))) ∙ c.loop-n.invariant.found;
}

pub returns-clause-value : goal.returns-clause-value
returns-clause-value c =
    ap (further c.loop-n.n) (sym (block-past c.loop-n.n c.args.bytes.now (omega arith)))
    ∙ c.loop-n.invariant.found
