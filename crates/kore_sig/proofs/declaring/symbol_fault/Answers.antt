use Rattle.std.proofs.Common.{◌∙◌, ◌++◌, ◌∷◌, [], ap, sym, ℕ, List, map, length, arith}
use Rattle.std.specs.Prelude.{flat_map, nat_lt}
use Rattle.std.proofs.lemmas.List.{length-map}
use Rattle.rule_core.specs.DistinctNames.{names_of}
use Rattle.kore_ast.specs.declared.tree.Sort.{Sort}
use Rattle.kore_ast.specs.Plain.{plain_sort}
use Rattle.rule_core.specs.Named.{is_among}
use Rattle.kore_sig.specs.Noted.{first_by_number}
use Rattle.kore_sig.specs.SignatureFaults.{reference_faults}
use Rattle.kore_sig.specs.UnknownSorts.{unknown_sort_at}
use Rattle.kore_sig.proofs.FaultLaws.{above_references, symbol_taken, symbol_unknown, symbol_arity}
use Rattle.kore_sig.proofs.FaultLaws.{lt_true}
use Rattle.kore_sig.proofs.ListLaws.{none_from}
use Rattle.kore_sig.proofs.declaring.symbol_fault.Goals as goal

pub returns-then-has_name : goal.returns-then-has_name
returns-then-has_name c =
    let decl = c.args.decl.now in
    let sorts = map plain_sort decl.args.items ++ plain_sort decl.result ∷ [] in
    symbol_taken (is_among (names_of c.args.symbols.now) decl.name)
    (nat_lt 64 (length (map plain_sort decl.args.items))) decl.at
    (flat_map (reference_faults c.args.sorts.now decl.params.items) sorts)
    (sym c.has_name.ensures.among ∙ c.if-has_name.true)
    (above_references c.args.sorts.now decl.params.items sorts)

pub returns-in-Some : goal.returns-in-Some
returns-in-Some c =
    let decl = c.args.decl.now in
    let sorts = map plain_sort decl.args.items ++ plain_sort decl.result ∷ [] in
    symbol_unknown (is_among (names_of c.args.symbols.now) decl.name)
    (nat_lt 64 (length (map plain_sort decl.args.items))) decl.at c.in-Some.at
    (flat_map (reference_faults c.args.sorts.now decl.params.items) sorts)
    (sym c.has_name.ensures.among ∙ c.if-has_name.false)
    (c.in-Some.ensures
    ∙ ap (λ (ps : List (List ℕ)). first_by_number (flat_map (reference_faults c.args.sorts.now ps)
    (map plain_sort c.deref-2.result.now ++ plain_sort decl.result ∷ [])))
    c.deref.ensures.value
    ∙ ap (λ (ss : List Sort). first_by_number (flat_map
    (reference_faults c.args.sorts.now decl.params.items)
    (map plain_sort ss ++ plain_sort decl.result ∷ []))) c.deref-2.ensures.value)

pub returns-then-len-gt-MOST_ARGUMENTS : goal.returns-then-len-gt-MOST_ARGUMENTS
returns-then-len-gt-MOST_ARGUMENTS c =
    let decl = c.args.decl.now in
    let sorts = map plain_sort decl.args.items ++ plain_sort decl.result ∷ [] in
    symbol_arity (is_among (names_of c.args.symbols.now) decl.name)
    (nat_lt 64 (length (map plain_sort decl.args.items))) decl.at
    (flat_map (reference_faults c.args.sorts.now decl.params.items) sorts)
    (sym c.has_name.ensures.among ∙ c.if-has_name.false)
    (lt_true 64 (length (map plain_sort decl.args.items))
    (omega (arith, length-map decl.args.items plain_sort)))
    (sym (ap unknown_sort_at (none_from c.first_unknown.result c.in_default.not-Some))
    ∙ c.first_unknown.ensures
    ∙ ap (λ (ps : List (List ℕ)). first_by_number (flat_map (reference_faults c.args.sorts.now ps)
    (map plain_sort c.deref-2.result.now ++ plain_sort decl.result ∷ [])))
    c.deref.ensures.value
    ∙ ap (λ (ss : List Sort). first_by_number (flat_map
    (reference_faults c.args.sorts.now decl.params.items)
    (map plain_sort ss ++ plain_sort decl.result ∷ []))) c.deref-2.ensures.value)
