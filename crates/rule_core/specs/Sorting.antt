-- Well-sorted patterns (Kore language document, "Well-formed patterns"), over the signature of a
-- definition.
use Rattle.std.specs.Prelude.{◌≡◌, ◌<◌, ℕ, IsTrue, List, [], ◌∷◌, length, slice_get, Option, Some}
use Rattle.std.specs.Str.{is_utf8}
use Rattle.term_core.specs.Terms.{DomainValue, integer, truth, text, Tree}
use Rattle.term_core.specs.HookValues.{is_in_range}
use Rattle.term_core.specs.Patterns.{Pattern, Patterns, variable, domain_value, application}
use Rattle.term_core.specs.Patterns.{injection, call, no_pattern, more_patterns, ground_pattern}
use Rattle.rule_core.specs.Subsorts.{IsBelow}
use Rattle.rule_core.specs.declared.signature.Signature.{Signature}
use Rattle.rule_core.specs.declared.signature.SortInfo.{SortInfo}
use Rattle.rule_core.specs.declared.signature.SortKind.{SortKind}
use Rattle.rule_core.specs.declared.signature.SortKind.TheVariants as kind
use Rattle.rule_core.specs.declared.signature.SymInfo.{SymInfo}
use Rattle.rule_core.specs.declared.signature.SymKind.{SymKind}
use Rattle.rule_core.specs.declared.signature.SymKind.TheVariants.{Injection, Ctor, Equations}
use Rattle.rule_core.specs.declared.signature.SymKind.TheVariants.{Hooked, Closed}
use Rattle.rule_core.specs.declared.signature.SortRef.{SortRef}
use Rattle.rule_core.specs.declared.signature.SortRef.TheVariants.{Param, Sort}

-- a value of a sort of this kind: an integer in the range, a truth value, or any text for another
-- sort
abbrev pub IsValueOf : SortKind → DomainValue → Type 0
IsValueOf kind.Int (integer n) = IsTrue (is_in_range n)
IsValueOf kind.Bool (truth b) = Unit {0}
IsValueOf kind.Map (text bytes) = IsTrue (is_utf8 bytes)
IsValueOf kind.Other (text bytes) = IsTrue (is_utf8 bytes)
IsValueOf _ _ = ⊥

-- the sort with this number has this value
abbrev pub HasValue : Signature → ℕ → DomainValue → Type 0
HasValue sig s v = (name : List ℕ) × (info : SortInfo) × (slice_get sig.sorts s ≡ Some (name, info))
    × IsValueOf info.kind v

-- the symbol with this number has this declaration
abbrev pub IsSymbol : Signature → ℕ → SymInfo → Type 0
IsSymbol sig f info = (name : List ℕ) × (slice_get sig.symbols f ≡ Some (name, info))

-- the kinds of functions: one that is evaluated in some way, or one that nothing defines
abbrev pub IsFunction : SymKind → Type 0
IsFunction Equations = Unit {0}
IsFunction (Hooked row) = Unit {0}
IsFunction Closed = Unit {0}
IsFunction _ = ⊥

-- the sort to which a declaration refers, when the symbol is applied to these sorts
abbrev pub sort_at : List ℕ → SortRef → Option ℕ
sort_at sorts (Param i) = slice_get sorts i
sort_at sorts (Sort s) = Some s.0

-- the signature has an injection symbol
abbrev pub HasInjection : Signature → Type 0
HasInjection sig = (f : ℕ) × (info : SymInfo) × IsSymbol sig f info × (info.kind ≡ Injection)

abbrev pub AreSorts : Signature → List ℕ → Type 0
AreSorts sig [] = Unit {0}
AreSorts sig (s ∷ sorts) = (s < length sig.sorts) × AreSorts sig sorts

-- The pattern has this sort, if the variables have these sorts. A variable has its own sort. A
-- value has the sort that is written with it, if that sort has the value. An application has the
-- result sort of its constructor, if the arguments have the declared sorts. An injection has its
-- target sort, which is above the sort of the injected pattern. A call has the result sort of its
-- function at the given sorts.
abbrev mutual
  pub HasSort : Signature → List ℕ → Pattern → ℕ → Type 0
  HasSort sig variables (variable x) sort = slice_get variables x ≡ Some sort
  HasSort sig variables (domain_value s v) sort = (s ≡ sort) × HasValue sig s v
  HasSort sig variables (application f ps) sort =
      (info : SymInfo) × IsSymbol sig f info × (info.kind ≡ Ctor)
      × (sort_at [] info.result ≡ Some sort)
      × HaveSorts sig variables [] ps info.args.items
  HasSort sig variables (injection a b p) sort =
      HasInjection sig × (b ≡ sort) × IsBelow sig.subsorts a b × HasSort sig variables p a
  HasSort sig variables (call f sorts ps) sort =
      (info : SymInfo) × IsSymbol sig f info × IsFunction info.kind × (length sorts ≡ info.params)
      × AreSorts sig sorts × (sort_at sorts info.result ≡ Some sort)
      × HaveSorts sig variables sorts ps info.args.items

  -- the patterns have the declared sorts, in order
  pub HaveSorts : Signature → List ℕ → List ℕ → Patterns → List SortRef → Type 0
  HaveSorts sig variables sorts no_pattern [] = Unit {0}
  HaveSorts sig variables sorts (more_patterns p ps) (of ∷ refs) =
      (sort : ℕ) × (sort_at sorts of ≡ Some sort) × HasSort sig variables p sort
      × HaveSorts sig variables sorts ps refs
  HaveSorts _ _ _ _ _ = ⊥

-- the term has this sort
abbrev pub IsTermOf : Signature → Tree → ℕ → Type 0
IsTermOf sig t sort = HasSort sig [] (ground_pattern t) sort
