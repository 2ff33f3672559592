use Rattle.std.proofs.Common.{rules, ◌≡◌, ℕ, List, Some, option_map, slice_get, sym, subst}
use Rattle.std.specs.Prelude.{IsTrue}
use Rattle.rule_core.specs.declared.signature.SymInfo.{SymInfo}
use Rattle.rule_core.proofs.AcSymbols.{ac_found, symbol_same}
use Rattle.rule_core.proofs.signature.Signature.is_ac_constructor.Goals as goal

pub returns-then-eq : goal.returns-then-eq
returns-then-eq c =
    let there : Some c.in-Some.symbol.now ≡ option_map (λ (e : List ℕ × SymInfo). e.1)
    (slice_get c.args.self.now.symbols c.args.number) =
    search rules in
    let P : SymInfo → Type 0 = λ i. IsTrue i.ac in (
      λ holds.
          ac_found c.args.self.now c.args.number c.in-Some.symbol.now there (search rules) holds,
      λ (info, known, kind, holds). subst P
          (sym (symbol_same c.args.self.now c.args.number c.in-Some.symbol.now info there known))
          holds,
    )
