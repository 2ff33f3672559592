-- Well-sorted patterns without variables have Kore patterns.
use Rattle.std.proofs.Common.{◌≡◌, ◌<◌, ℕ, List, [], ◌∷◌, length, true, Option, Some, None, IsSome}
use Rattle.std.proofs.Common.{option_map, Contains, refl, ap}
use Rattle.std.proofs.lemmas.Option.{slice_get_within}
use Rattle.std.proofs.lemmas.List.Elements.{All-contains}
use Rattle.kore_text.specs.Trees.{SortTree, sort_applied, no_sorts, PatternTree, PatternTrees}
use Rattle.kore_text.specs.Trees.{no_patterns}
use Rattle.term_core.specs.Terms.{DomainValue}
use Rattle.term_core.specs.Patterns.{Pattern, Patterns, variable, domain_value, application}
use Rattle.term_core.specs.Patterns.{injection, call, no_pattern, more_patterns}
use Rattle.rule_core.specs.Subsorts.{IsBelow, by_pair, by_chain}
use Rattle.rule_core.specs.Sorting.{HasSort, HaveSorts, AreSorts, IsSymbol}
use Rattle.rule_core.specs.WellSorted.{IsSignature, IsPair}
use Rattle.rule_core.specs.declared.signature.Signature.{Signature}
use Rattle.rule_core.specs.declared.signature.SymInfo.{SymInfo}
use Rattle.rule_core.specs.declared.signature.SymKind.{SymKind}
use Rattle.rule_core.specs.declared.signature.SymKind.TheVariants.{Injection}
use Rattle.rule_core.specs.declared.signature.SortRef.{SortRef}
use Rattle.kore_show.specs.KorePatterns.{declared_name, injection_name, kore_sort, with_sort}
use Rattle.kore_show.specs.KorePatterns.{kore_sorts, kore_value, applied_tree, in_front}
use Rattle.kore_show.specs.KorePatterns.{kore_pattern, kore_patterns}
use Rattle.rule_core.specs.KindTests.{is_injection}
use Rattle.kore_show.proofs.Declared.{name-there, injection-there}

applied-there : (name : Option (List ℕ)) (sorts : Option (List SortTree))
    (args : Option PatternTrees) → IsSome name → IsSome sorts → IsSome args
    → IsSome (applied_tree name sorts args)
applied-there None sorts args h k l = absurd (let no : ⊥ = cc in no)
applied-there (Some n) None args h k l = absurd (let no : ⊥ = cc in no)
applied-there (Some n) (Some ss) None h k l = absurd (let no : ⊥ = cc in no)
applied-there (Some n) (Some ss) (Some ps) h k l = refl

in_front-there : (p : Option PatternTree) (ps : Option PatternTrees) → IsSome p → IsSome ps
    → IsSome (in_front p ps)
in_front-there None ps h k = absurd (let no : ⊥ = cc in no)
in_front-there (Some p) None h k = absurd (let no : ⊥ = cc in no)
in_front-there (Some p) (Some ps) h k = refl

with_sort-there : (s : Option SortTree) (ss : Option (List SortTree)) → IsSome s → IsSome ss
    → IsSome (with_sort s ss)
with_sort-there None ss h k = absurd (let no : ⊥ = cc in no)
with_sort-there (Some s) None h k = absurd (let no : ⊥ = cc in no)
with_sort-there (Some s) (Some ss) h k = refl

-- a declared sort has a name
sort-there : (sig : Signature) (s : ℕ) → s < length sig.sorts → IsSome (kore_sort sig s)
sort-there sig s lt = named (declared_name sig.sorts s) (name-there sig.sorts s lt) where
  named : (o : Option (List ℕ)) → IsSome o
      → IsSome (option_map (λ (name : List ℕ). sort_applied 0 name no_sorts) o)
  named None h = absurd (let no : ⊥ = cc in no)
  named (Some name) h = refl

sorts-there : (sig : Signature) (ss : List ℕ) → AreSorts sig ss → IsSome (kore_sorts sig ss)
sorts-there sig [] h = refl
sorts-there sig (s ∷ ss) h =
    with_sort-there (kore_sort sig s) (kore_sorts sig ss) (sort-there sig s h.0)
    (sorts-there sig ss h.1)

-- the two sorts of a subsort pair are declared
pair-there : (sig : Signature) → IsSignature sig → (a b : ℕ) → Contains sig.subsorts (a, b)
    → (a < length sig.sorts) × (b < length sig.sorts)
pair-there sig well a b at = All-contains (IsPair sig) sig.subsorts (a, b) well.pairs at

-- the two sorts at the ends of a chain are declared
below-there : (sig : Signature) → IsSignature sig → (a b : ℕ) → IsBelow sig.subsorts a b
    → (a < length sig.sorts) × (b < length sig.sorts)
below-there sig well a b (by_pair at) = pair-there sig well a b at
below-there sig well a c (by_chain {b = b} at rest) =
    ((pair-there sig well a b at).0, (below-there sig well b c rest).1)

symbol-there : (sig : Signature) (f : ℕ) (info : SymInfo) → IsSymbol sig f info
    → IsSome (declared_name sig.symbols f)
symbol-there sig f info (name, at) =
    name-there sig.symbols f (slice_get_within sig.symbols f (name, info) at)

kind-injects : (kind : SymKind) → kind ≡ Injection → is_injection kind ≡ true
kind-injects kind e = ap is_injection e

value-there : (s : Option SortTree) (v : DomainValue) → IsSome s → IsSome (kore_value s v)
value-there None v h = absurd (let no : ⊥ = cc in no)
value-there (Some s) v h = refl

mutual
  pub sorted-shown : (sig : Signature) (p : Pattern) (sort : ℕ) → IsSignature sig
      → HasSort sig [] p sort → IsSome (kore_pattern sig p)
  sorted-shown sig (variable x) sort well h = absurd (let wrong : ⊥ = cc in wrong)
  sorted-shown sig (domain_value s v) sort well (e, (name, info, at, value)) =
      value-there (kore_sort sig s) v
      (sort-there sig s (slice_get_within sig.sorts s (name, info) at))
  sorted-shown sig (application f ps) sort well (info, declared, kind, result, sorted) =
      applied-there (declared_name sig.symbols f) (Some []) (kore_patterns sig ps)
      (symbol-there sig f info declared) refl (all-shown sig [] ps info.args.items well sorted)
  sorted-shown sig (injection a b p) sort well ((f, info, (name, at), kind), e, below, sorted) =
      let both = below-there sig well a b below in
      let sorts : IsSome (kore_sorts sig (a ∷ (b ∷ []))) =
      sorts-there sig (a ∷ (b ∷ [])) (both.0, (both.1, tt)) in
      applied-there (injection_name sig.symbols) (kore_sorts sig (a ∷ (b ∷ [])))
      (in_front (kore_pattern sig p) (Some no_patterns))
      (injection-there sig.symbols f (name, info) at (kind-injects info.kind kind)) sorts
      (in_front-there (kore_pattern sig p) (Some no_patterns) (sorted-shown sig p a well sorted)
      refl)
  sorted-shown sig (call f sorts ps) sort well
      (info, declared, function, count, are, result, sorted) =
      applied-there (declared_name sig.symbols f) (kore_sorts sig sorts) (kore_patterns sig ps)
      (symbol-there sig f info declared) (sorts-there sig sorts are)
      (all-shown sig sorts ps info.args.items well sorted)

  all-shown : (sig : Signature) (sorts : List ℕ) (ps : Patterns) (refs : List SortRef)
      → IsSignature sig → HaveSorts sig [] sorts ps refs → IsSome (kore_patterns sig ps)
  all-shown sig sorts no_pattern refs well h = refl
  all-shown sig sorts (more_patterns p ps) [] well h = absurd h
  all-shown sig sorts (more_patterns p ps) (of ∷ refs) well (sort, at, first, others) =
      in_front-there (kore_pattern sig p) (kore_patterns sig ps)
      (sorted-shown sig p sort well first) (all-shown sig sorts ps refs well others)
