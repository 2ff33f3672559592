use Rattle.std.proofs.Common.{◌≡◌, ◌+◌, ◌<◌, ℕ, Bool, true, false, cond, List, Some, drop, length}
use Rattle.std.proofs.Common.{sym, ◌∙◌, ap, arith, rules}
use Rattle.std.specs.List.{position_from}
use Rattle.rule_core.specs.declared.signature.SymInfo.{SymInfo}
use Rattle.rule_core.specs.KindTests.{is_injection}
use Rattle.ml_image.proofs.ImageLaws.{injection-step}
use Rattle.ml_image.proofs.images.injection_symbol.Goals as goal

pub returns-then-is_injection-clause-symbol : goal.returns-then-is_injection-clause-symbol
returns-then-is_injection-clause-symbol c =
    let lt : c.loop-symbol.symbol < length c.args.sig.now.symbols =
    omega (arith, c.len-symbol-end.ensures, c.loop-symbol-test.true) in
    let yes : c.is_injection.result ≡ true = search rules in
    sym (injection-step c.args.sig.now c.loop-symbol.symbol c.is_injection.result lt
    c.is_injection.ensures
    ∙ ap (λ (b : Bool). cond b (Some c.loop-symbol.symbol) (position_from
    (λ (e : List ℕ × SymInfo). is_injection e.1.kind) (c.loop-symbol.symbol + 1)
    (drop (c.loop-symbol.symbol + 1) c.args.sig.now.symbols))) yes)
    ∙ c.loop-symbol.invariant

pub loop-symbol-preserved : goal.loop-symbol-preserved
loop-symbol-preserved c =
    let lt : c.loop-symbol.symbol < length c.args.sig.now.symbols =
    omega (arith, c.len-symbol-end.ensures, c.loop-symbol-test.true) in
    let no : c.is_injection.result ≡ false = search rules in
    sym (injection-step c.args.sig.now c.loop-symbol.symbol c.is_injection.result lt
    c.is_injection.ensures
    ∙ ap (λ (b : Bool). cond b (Some c.loop-symbol.symbol) (position_from
    (λ (e : List ℕ × SymInfo). is_injection e.1.kind) (c.loop-symbol.symbol + 1)
    (drop (c.loop-symbol.symbol + 1) c.args.sig.now.symbols))) no)
    ∙ c.loop-symbol.invariant
