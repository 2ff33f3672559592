use Rattle.std.proofs.Common.{◌≡◌, Result, Ok, Err, IfOk, ℕ, List, map, ap, sym, ◌∙◌}
use Rattle.term_core.specs.RulePatterns.{sort_numbers}
use Rattle.term_core.specs.declared.ids.SortId.{SortId}
use Rattle.rule_core.specs.Sorting.{IsSymbol}
use Rattle.rule_core.specs.declared.signature.Signature.{Signature}
use Rattle.rule_core.specs.declared.signature.SortRef.{SortRef}
use Rattle.rule_core.specs.declared.signature.SymInfo.{SymInfo}
use Rattle.ml_image.specs.OwnAxioms.{sort_numbered}
use Rattle.ml_image.specs.Closing.{TakesSorts}
use Rattle.ml_image.proofs.SentenceLaws.{one_symbol}
use Rattle.ml_image.proofs.constructors.argument_sorts.Goals as goal

pub named_sorts-requires : goal.named_sorts-requires
named_sorts-requires c =
    let same : c.requires.0 ≡ c.declaration.result.now =
    one_symbol c.args.sig.now c.args.symbol.0 c.requires.0 c.declaration.result.now
    c.requires.3.constructs.0.there c.declaration.ensures in (
      c.requires.1,
      c.deref.ensures.value ∙ ap (λ (i : SymInfo). i.args.items) (sym same)
          ∙ c.requires.3.constructs.0.takes,
    )

takes_read : {T E : Type 0} (items : T → List SortId) (sig : Signature) (f : ℕ) (info : SymInfo)
    (refs : List SortRef) (result : Result T E) → IsSymbol sig f info → refs ≡ info.args.items
    → IfOk result (λ v. refs ≡ map sort_numbered (sort_numbers (items v)))
    → IfOk result (λ v. TakesSorts sig f (sort_numbers (items v)))
takes_read items sig f info refs (Ok v) there read takes =
    record { info = info; there = there; takes = sym read ∙ takes }
takes_read items sig f info refs (Err e) there read takes = tt

pub returns : goal.returns
returns c =
    takes_read _ c.args.sig.now c.args.symbol.0 c.declaration.result.now c.deref.result.now
    c.named_sorts.result c.declaration.ensures c.deref.ensures.value c.named_sorts.ensures
