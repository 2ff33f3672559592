use Rattle.std.proofs.Common.{◌≡◌, ◌∙◌, ap, sym, Option, Some, List, ℕ, Bool, Bor}
use Rattle.std.specs.Prelude.{option_copied, option_map, slice_get, string_bytes}
use Rattle.rule_core.specs.Named.{number_of_name}
use Rattle.rule_core.specs.declared.signature.SymInfo.{SymInfo}
use Rattle.kore_rules.specs.ScalarSorts.{IsFinal, final_kind, is_marked_at}
use Rattle.kore_rules.proofs.FinalLaws.{own_number, entry_from, final_more}
use Rattle.kore_rules.proofs.kinds.final_symbols.Goals as goal

pub loop-number-preserved : goal.loop-number-preserved
loop-number-preserved c =
    let sig = c.args.sig.now in
    let n = c.loop-number.number in
    let found =
    entry_from (slice_get sig.symbols n) c.in-Some-Some.name.now c.in-Some-Some.symbol.now
    (ap option_copied (sym c.in-Some-Some.is-0) ∙ c.name.ensures)
    (ap option_copied (sym c.in-Some-Some.is-1) ∙ c.value.ensures) in
    let d = found.0 in
    let made : List ℕ × SymInfo = (string_bytes c.in_ok-name.name, c.in_ok-with_kind.field-0) in
    let number : number_of_name sig.symbols d.0 ≡ Some n =
    own_number sig.symbols n d c.names_differ.ensures found.1 in
    let final : IsFinal sig c.args.with_terms.now c.args.unreadable.now d made = record {
      name = c.in_ok-name.ensures.ok ∙ sym found.2;
      kind = c.in_ok-with_kind.ensures.kind ∙ c.final_kind-kind.ensures
          ∙ ap (λ (s : SymInfo). final_kind sig c.args.with_terms.now s c.is_marked.result)
          (sym found.3)
          ∙ ap (final_kind sig c.args.with_terms.now d.1)
          (c.is_marked.ensures ∙ ap (is_marked_at c.args.unreadable.now) (sym number));
      params = c.in_ok-with_kind.ensures.params ∙ ap (λ (s : SymInfo). s.params) (sym found.3);
      args = c.in_ok-with_kind.ensures.args ∙ ap (λ (s : SymInfo). s.args.items) (sym found.3);
      result = c.in_ok-with_kind.ensures.value ∙ ap (λ (s : SymInfo). s.result) (sym found.3);
      hook = c.in_ok-with_kind.ensures.hook
          ∙ ap (λ (s : SymInfo). option_map string_bytes s.hook) (sym found.3);
      ac = c.in_ok-with_kind.ensures.ac ∙ ap (λ (s : SymInfo). s.ac) (sym found.3);
    } in
    final_more sig c.args.with_terms.now c.args.unreadable.now n d made c.loop-number.symbols
    c.insert.new.self c.in_ok-insert.field-0 c.names_differ.ensures found.1 final
    c.in_ok-insert.ensures.fresh c.in_ok-insert.ensures.entries c.loop-number.invariant
