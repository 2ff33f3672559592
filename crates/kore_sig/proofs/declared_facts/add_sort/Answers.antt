use Rattle.std.proofs.Common.{◌≡◌, ap, ◌∙◌, cond, ◌++◌, ◌∷◌, [], List, ℕ, map, string_bytes}
use Rattle.std.specs.Prelude.{is_none}
use Rattle.rule_core.specs.Named.{number_of_name}
use Rattle.rule_core.specs.declared.signature.SortInfo.{SortInfo}
use Rattle.rule_core.specs.declared.signature.SortKind.{SortKind}
use Rattle.kore_ast.specs.declared.tree.Pat.{Pat}
use Rattle.kore_ast.specs.Plain.{plain_sort_decl, pattern_tree}
use Rattle.kore_sig.specs.Attributes.{hook_of}
use Rattle.kore_sig.specs.SortReferences.{kind_of_hook, sort_entry}
use Rattle.kore_sig.proofs.KnowingLaws.{sort_more}
use Rattle.kore_sig.proofs.declared_facts.add_sort.Goals as goal

entry_same : (n m : List ℕ) (k j : SortKind) → n ≡ m → k ≡ j
    → ◌≡◌ {A = List ℕ × SortInfo} (n, record { kind = k }) (m, record { kind = j })
entry_same n m k j e f = λ i. (e i, record { kind = f i })

pub returns : goal.returns
returns c =
    let d = plain_sort_decl c.args.decl.now in
    let name : string_bytes c.in_ok-from_str.field-0 ≡ d.name =
    c.in_ok-from_str.ensures.ok ∙ c.as_str.ensures in
    let kind : c.kind_of_hook-kind.result ≡ (sort_entry d).1.kind =
    c.kind_of_hook-kind.ensures
    ∙ ap kind_of_hook (c.hook_of.ensures
    ∙ ap (λ (ps : List Pat). hook_of (map pattern_tree ps)) c.deref.ensures.value) in
    let entry :
    (string_bytes c.in_ok-from_str.field-0, record { kind = c.kind_of_hook-kind.result }) ≡
    sort_entry d =
    entry_same (string_bytes c.in_ok-from_str.field-0) d.name c.kind_of_hook-kind.result
    (sort_entry d).1.kind name kind in
    λ ds table. sort_more ds d c.in_ok-insert.field-0 c.args.sorts.now c.insert.new.self
    (c.in_ok-insert.ensures.fresh
    ∙ ap (λ (n : List ℕ). is_none (number_of_name c.args.sorts.now n)) name)
    (c.in_ok-insert.ensures.entries
    ∙ ap (λ (e : List ℕ × SortInfo).
    cond c.in_ok-insert.field-0 (c.args.sorts.now ++ e ∷ []) c.args.sorts.now) entry)
    table
