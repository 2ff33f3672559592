use Rattle.std.proofs.Common.{◌∙◌, ◌+◌, get_or, sym, ap, arith}
use Rattle.kore_lex.specs.Escapes.{further}
use Rattle.kore_lex.proofs.Runs.{passed-small, quote-past, quote-here, quote-pass}
use Rattle.kore_lex.proofs.piece.quote_len.Goals as goal

pub returns-then-bytes-n-eq34-clause-value : goal.returns-then-bytes-n-eq34-clause-value
returns-then-bytes-n-eq34-clause-value c =
    ap (further c.loop-n.n)
    (sym (quote-here c.loop-n.n c.args.bytes.now (omega arith) c.if-bytes-n-eq34.true))
    ∙ c.loop-n.invariant.found

pub loop-n-preserved : goal.loop-n-preserved
loop-n-preserved c = record {
  within = omega (arith, c.passed.ensures, passed-small (get_or c.args.bytes.now c.loop-n.n 0));
  found =
      sym (quote-pass c.loop-n.n _ c.args.bytes.now (omega
      arith) c.if-bytes-n-eq34.false (ap (λ p. c.loop-n.n + (p + 1)) c.passed.ensures))
      ∙ c.loop-n.invariant.found;
}

pub returns-clause-value : goal.returns-clause-value
returns-clause-value c =
    ap (further c.loop-n.n) (sym (quote-past c.loop-n.n c.args.bytes.now (omega arith)))
    ∙ c.loop-n.invariant.found
