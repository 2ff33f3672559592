use Rattle.std.proofs.Common.{arith}
use Rattle.fun_eval.proofs.Injections.{symbol_within, none_more, none_after}
use Rattle.fun_eval.proofs.engine.first_injection.Goals as goal

pub symbol-requires : goal.symbol-requires
symbol-requires c = symbol_within c.args.program.now.sig c.loop-i.i (omega arith)

pub loop-i-preserved : goal.loop-i-preserved
loop-i-preserved c =
    none_more c.args.program.now.sig c.loop-i.i c.symbol.result.now c.loop-i.invariant
    c.symbol.ensures c.in_default.not-Injection

pub returns : goal.returns
returns c = none_after c.args.program.now.sig c.loop-i.i c.loop-i.invariant (omega arith)
