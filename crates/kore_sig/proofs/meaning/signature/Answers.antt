use Rattle.std.proofs.Common.{◌≡◌, [], ap, sym, ◌∙◌, List, ℕ, map, None, Some, subst, inl, inr}
use Rattle.std.proofs.Common.{refl}
use Rattle.std.specs.List.{AllZip}
use Rattle.std.proofs.lemmas.Result.{err_from_is_err_and}
use Rattle.rule_core.specs.DistinctNames.{names_of, AreDistinct}
use Rattle.kore_text.specs.Trees.{Declaration}
use Rattle.kore_ast.specs.declared.tree.Module.{Module}
use Rattle.kore_ast.specs.Plain.{plain_definition, plain_module, plain_declaration}
use Rattle.kore_sig.specs.CountedModules.{counted_declarations}
use Rattle.kore_sig.specs.Declaring.{AreSymbols, first_declared}
use Rattle.kore_sig.specs.Knowing.{entries_in, IsKnown}
use Rattle.kore_sig.specs.Naming.{first_module}
use Rattle.kore_sig.specs.Ordering.{FirstFrom, pairs_in}
use Rattle.kore_sig.specs.Placing.{plain_placed, names_of_modules}
use Rattle.kore_sig.specs.SignatureFaults.{FirstOfSignature, nothing_declared, declarations_placed}
use Rattle.kore_sig.specs.Signatures.{IsPairOf}
use Rattle.kore_sig.specs.SortReferences.{sort_entries}
use Rattle.kore_sig.specs.declared.counted.Placed.{Placed as PlacedDecl}
use Rattle.kore_sig.proofs.OrderLaws.{refuses_some}
use Rattle.kore_sig.proofs.WholeLaws.{modules_first, declared_first, table_is, pairs_first}
use Rattle.kore_sig.proofs.WholeLaws.{signature_is, signature_sorted}
use Rattle.kore_sig.proofs.meaning.signature.Goals as goal

pub returns-in_err-modules-clause-refused : goal.returns-in_err-modules-clause-refused
returns-in_err-modules-clause-refused c =
    let d = plain_definition c.args.definition.now in
    let q = err_from_is_err_and c.from_residual.result c.from_residual.ensures.1 in
    rw (q.1, q.2) (refuses_some (λ r. first_module [] (map plain_module c.deref.result.now) ≡ r)
    (FirstOfSignature d) c.in_err-modules.field-0.0
    (λ g e. inl (modules_first d (Some g) (ap
    (λ (ms : List Module). first_module [] (map plain_module ms))
    (sym c.deref.ensures.value) ∙ e)))
    c.in_err-modules.ensures.refused)

pub returns-in_err-symbols-clause-refused : goal.returns-in_err-symbols-clause-refused
returns-in_err-symbols-clause-refused c =
    let d = plain_definition c.args.definition.now in
    let f : PlacedDecl → Declaration = λ (p : PlacedDecl). plain_declaration p.decl.now in
    let decls = c.in_ok-decls.decls.items in
    let known = c.in_ok-known.known in
    let clear : first_module [] d.modules ≡ None =
    ap (λ (ms : List Module). first_module [] (map plain_module ms)) (sym c.deref.ensures.value)
    ∙ c.in_ok-modules.ensures.clear in
    let learnt : IsKnown (map f decls) known =
    subst (λ (ps : List PlacedDecl). IsKnown (map f ps) known) c.deref-2.ensures.value
    c.in_ok-known.ensures in
    let counted : map f decls ≡ counted_declarations d = c.in_ok-decls.ensures.counted in
    let named : names_of c.in_ok-modules.modules ≡ names_of_modules
    c.args.definition.now.modules.items =
    c.in_ok-modules.ensures.names ∙ ap names_of_modules c.deref.ensures.value in
    let placed_is : map (plain_placed (names_of c.in_ok-modules.modules)) c.deref-3.result.now ≡
    declarations_placed [] d.modules =
    ap (λ (ps : List PlacedDecl). map (plain_placed (names_of c.in_ok-modules.modules)) ps)
    c.deref-3.ensures.value
    ∙ ap (λ (ns : List (List ℕ)). map (plain_placed ns) decls) named
    ∙ c.in_ok-decls.ensures.placed in
    let q =
    err_from_is_err_and c.from_residual-in_err-symbols.result
    c.from_residual-in_err-symbols.ensures.1 in
    rw (q.1, q.2) (refuses_some (λ r. first_declared known.sorts nothing_declared
    (map (plain_placed (names_of c.in_ok-modules.modules)) c.deref-3.result.now) ≡ r)
    (FirstOfSignature d) c.in_err-symbols.field-0.0
    (λ g e. inr (
      modules_first d None clear,
      inl (declared_first d (map f decls) known _ (Some g) counted learnt placed_is e),
    ))
    c.in_err-symbols.ensures.refused)

pub returns-in_err-subsorts-clause-refused : goal.returns-in_err-subsorts-clause-refused
returns-in_err-subsorts-clause-refused c =
    let d = plain_definition c.args.definition.now in
    let f : PlacedDecl → Declaration = λ (p : PlacedDecl). plain_declaration p.decl.now in
    let decls = c.in_ok-decls.decls.items in
    let known = c.in_ok-known.known in
    let clear : first_module [] d.modules ≡ None =
    ap (λ (ms : List Module). first_module [] (map plain_module ms)) (sym c.deref.ensures.value)
    ∙ c.in_ok-modules.ensures.clear in
    let learnt : IsKnown (map f decls) known =
    subst (λ (ps : List PlacedDecl). IsKnown (map f ps) known) c.deref-2.ensures.value
    c.in_ok-known.ensures in
    let counted : map f decls ≡ counted_declarations d = c.in_ok-decls.ensures.counted in
    let named : names_of c.in_ok-modules.modules ≡ names_of_modules
    c.args.definition.now.modules.items =
    c.in_ok-modules.ensures.names ∙ ap names_of_modules c.deref.ensures.value in
    let placed_is : map (plain_placed (names_of c.in_ok-modules.modules)) c.deref-3.result.now ≡
    declarations_placed [] d.modules =
    ap (λ (ps : List PlacedDecl). map (plain_placed (names_of c.in_ok-modules.modules)) ps)
    c.deref-3.ensures.value
    ∙ ap (λ (ns : List (List ℕ)). map (plain_placed ns) decls) named
    ∙ c.in_ok-decls.ensures.placed in
    let distinct : AreDistinct (names_of (entries_in (map f decls))) =
    subst (λ (ps : List PlacedDecl). AreDistinct (names_of (entries_in (map f ps))))
    c.deref-3.ensures.value c.in_ok-symbols.ensures.distinct in
    let entries : known.sorts ≡ sort_entries d =
    table_is d (map f decls) known counted learnt distinct in
    let q =
    err_from_is_err_and c.from_residual-in_err-subsorts.result
    c.from_residual-in_err-subsorts.ensures.1 in
    rw (q.1, q.2) (refuses_some (FirstFrom known.sorts [] (pairs_in (map f c.deref-4.result.now)))
    (FirstOfSignature d) c.in_err-subsorts.field-0.0
    (λ g e. inr (
      modules_first d None clear,
      inr (
        declared_first d (map f decls) known _ None counted learnt placed_is
            c.in_ok-symbols.ensures.clear,
        pairs_first d (map f c.deref-4.result.now) known.sorts (Some g)
            (ap (map f) c.deref-4.ensures.value ∙ counted) entries e,
      ),
    ))
    c.in_err-subsorts.ensures.refused)

pub returns-clause-declared : goal.returns-clause-declared
returns-clause-declared c =
    let d = plain_definition c.args.definition.now in
    let f : PlacedDecl → Declaration = λ (p : PlacedDecl). plain_declaration p.decl.now in
    let decls = c.in_ok-decls.decls.items in
    let known = c.in_ok-known.known in
    let clear : first_module [] d.modules ≡ None =
    ap (λ (ms : List Module). first_module [] (map plain_module ms)) (sym c.deref.ensures.value)
    ∙ c.in_ok-modules.ensures.clear in
    let learnt : IsKnown (map f decls) known =
    subst (λ (ps : List PlacedDecl). IsKnown (map f ps) known) c.deref-2.ensures.value
    c.in_ok-known.ensures in
    let counted : map f decls ≡ counted_declarations d = c.in_ok-decls.ensures.counted in
    let named : names_of c.in_ok-modules.modules ≡ names_of_modules
    c.args.definition.now.modules.items =
    c.in_ok-modules.ensures.names ∙ ap names_of_modules c.deref.ensures.value in
    let placed_is : map (plain_placed (names_of c.in_ok-modules.modules)) c.deref-3.result.now ≡
    declarations_placed [] d.modules =
    ap (λ (ps : List PlacedDecl). map (plain_placed (names_of c.in_ok-modules.modules)) ps)
    c.deref-3.ensures.value
    ∙ ap (λ (ns : List (List ℕ)). map (plain_placed ns) decls) named
    ∙ c.in_ok-decls.ensures.placed in
    let distinct : AreDistinct (names_of (entries_in (map f decls))) =
    subst (λ (ps : List PlacedDecl). AreDistinct (names_of (entries_in (map f ps))))
    c.deref-3.ensures.value c.in_ok-symbols.ensures.distinct in
    let entries : known.sorts ≡ sort_entries d =
    table_is d (map f decls) known counted learnt distinct in
    signature_is d (map f decls) known (record {
      sorts = known.sorts;
      symbols = c.in_ok-symbols.symbols;
      subsorts = c.in_ok-subsorts.subsorts;
    }) counted
    learnt refl entries
    (subst (λ (ps : List PlacedDecl). AreSymbols known (map f ps) c.in_ok-symbols.symbols)
    c.deref-3.ensures.value c.in_ok-symbols.ensures.symbols)
    (subst (λ (ps : List PlacedDecl).
    AllZip (IsPairOf known.sorts) (pairs_in (map f ps)) c.in_ok-subsorts.subsorts)
    c.deref-4.ensures.value c.in_ok-subsorts.ensures.pairs)

pub returns-clause-faultless : goal.returns-clause-faultless
returns-clause-faultless c =
    let d = plain_definition c.args.definition.now in
    let f : PlacedDecl → Declaration = λ (p : PlacedDecl). plain_declaration p.decl.now in
    let decls = c.in_ok-decls.decls.items in
    let known = c.in_ok-known.known in
    let clear : first_module [] d.modules ≡ None =
    ap (λ (ms : List Module). first_module [] (map plain_module ms)) (sym c.deref.ensures.value)
    ∙ c.in_ok-modules.ensures.clear in
    let learnt : IsKnown (map f decls) known =
    subst (λ (ps : List PlacedDecl). IsKnown (map f ps) known) c.deref-2.ensures.value
    c.in_ok-known.ensures in
    let counted : map f decls ≡ counted_declarations d = c.in_ok-decls.ensures.counted in
    let named : names_of c.in_ok-modules.modules ≡ names_of_modules
    c.args.definition.now.modules.items =
    c.in_ok-modules.ensures.names ∙ ap names_of_modules c.deref.ensures.value in
    let placed_is : map (plain_placed (names_of c.in_ok-modules.modules)) c.deref-3.result.now ≡
    declarations_placed [] d.modules =
    ap (λ (ps : List PlacedDecl). map (plain_placed (names_of c.in_ok-modules.modules)) ps)
    c.deref-3.ensures.value
    ∙ ap (λ (ns : List (List ℕ)). map (plain_placed ns) decls) named
    ∙ c.in_ok-decls.ensures.placed in
    let distinct : AreDistinct (names_of (entries_in (map f decls))) =
    subst (λ (ps : List PlacedDecl). AreDistinct (names_of (entries_in (map f ps))))
    c.deref-3.ensures.value c.in_ok-symbols.ensures.distinct in
    let entries : known.sorts ≡ sort_entries d =
    table_is d (map f decls) known counted learnt distinct in (
      modules_first d None clear,
      (
        declared_first d (map f decls) known _ None counted learnt placed_is
            c.in_ok-symbols.ensures.clear,
        pairs_first d (map f c.deref-4.result.now) known.sorts None
            (ap (map f) c.deref-4.ensures.value ∙ counted) entries c.in_ok-subsorts.ensures.clear,
      ),
    )

pub returns-clause-sorted : goal.returns-clause-sorted
returns-clause-sorted c =
    signature_sorted (plain_definition c.args.definition.now) (record {
      sorts =
          c.in_ok-known.known.sorts;
      symbols = c.in_ok-symbols.symbols;
      subsorts = c.in_ok-subsorts.subsorts;
    }) (returns-clause-declared c)
    c.names_differ.ensures c.in_ok-subsorts.ensures.no_cycle
