use Rattle.std.proofs.Common.{◌≡◌, reverse, length, arith, ap, sym, ◌∙◌}
use Rattle.kore_text.specs.TokenStream.{token_of}
use Rattle.kore_text.specs.Table.{step}
use Rattle.kore_text.specs.Stacks.{stack}
use Rattle.kore_text.proofs.Stepping.{next-first, step-left-out, on-taken, nothing-left}
use Rattle.kore_text.proofs.expected.Expected.take.Goals as goal

pub returns-then-not-is_left_out : goal.returns-then-not-is_left_out
returns-then-not-is_left_out c =
    let t = token_of c.args.word.now.kind c.args.word.now.bytes.now in
    let n =
    next-first c.loop-symbol.self.symbols.items c.pop.new.self.items c.in-Some.symbol
    c.in-Some.ensures.items in
    on-taken c.in-Some.symbol t (reverse c.pop.new.self.items) _ _ (step (stack c.args.self.now) t)
    (ap (λ k. step k t) (sym n) ∙ c.loop-symbol.invariant)
    (sym c.is_left_out.ensures ∙ c.if-not-is_left_out.true) c.expand.ensures

pub loop-symbol-preserved : goal.loop-symbol-preserved
loop-symbol-preserved c =
    let t = token_of c.args.word.now.kind c.args.word.now.bytes.now in
    let n =
    next-first c.loop-symbol.self.symbols.items c.pop.new.self.items c.in-Some.symbol
    c.in-Some.ensures.items in
    sym (step-left-out c.in-Some.symbol t (reverse
    c.pop.new.self.items) (sym c.is_left_out.ensures ∙ c.if-not-is_left_out.false))
    ∙ ap (λ k. step k t) (sym n) ∙ c.loop-symbol.invariant

pub returns : goal.returns
returns c =
    nothing-left c.loop-symbol.self.symbols.items
    (token_of c.args.word.now.kind c.args.word.now.bytes.now) _ _
    (let e : length c.loop-symbol.self.symbols.items ≡ 0 =
    omega (arith, c.in_default.ensures.cases.0) in
    e) c.loop-symbol.invariant
