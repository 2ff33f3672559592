-- The numbers of symbols and sorts among the names, and patterns over numbered variables. Axioms
-- about symbols and sorts are made of these.
use Rattle.std.specs.Prelude.{◌≡◌, ℕ, ◌+◌, zero, suc, List, [], ◌∷◌, Some}
use Rattle.ml_pat.specs.Patterns.{Pattern, app, at_sort, all, and, var, constant}
use Rattle.rule_core.specs.Sorting.{IsSymbol}
use Rattle.rule_core.specs.declared.signature.Signature.{Signature}
use Rattle.rule_core.specs.declared.signature.SymInfo.{SymInfo}
use Rattle.rule_core.specs.declared.signature.SymKind.TheVariants.{Ctor}
use Rattle.ml_image.specs.Images.{injection_symbol, some_symbol_image, symbol_image, sort_image}
use Rattle.ml_image.specs.OwnAxioms.{IsConstructor}

-- ---- variables

-- this many variables, numbered from k
abbrev pub variables_from : ℕ → ℕ → List Pattern
variables_from k zero = []
variables_from k (suc n) = var k ∷ variables_from (k + 1) n

-- this many conjunctions, each of a variable numbered from k and one numbered from m
abbrev pub pairs_from : ℕ → ℕ → ℕ → List Pattern
pairs_from k m zero = []
pairs_from k m (suc n) = and (var k) (var m) ∷ pairs_from (k + 1) (m + 1) n

-- `for each x:k of the first sort, each x:(k+1) of the second, ..`
abbrev pub all_from : ℕ → List ℕ → Pattern → Pattern
all_from k [] p = p
all_from k (s ∷ ss) p = all k s (all_from (k + 1) ss p)

-- ---- sorts and symbols

-- the numbers ns of the sorts ss among the names
abbrev pub AreSortImages : Signature → List (List ℕ) → List ℕ → List ℕ → Type 0
AreSortImages sig names [] [] = Unit {0}
AreSortImages sig names [] (n ∷ ns) = ⊥
AreSortImages sig names (s ∷ ss) [] = ⊥
AreSortImages sig names (s ∷ ss) (n ∷ ns) =
    (sort_image sig names s ≡ Some n) × AreSortImages sig names ss ns

-- the symbol with this number is a constructor
abbrev pub Constructs : Signature → ℕ → Type 0
Constructs sig f = (info : SymInfo) × IsSymbol sig f info × (info.kind ≡ Ctor)

-- the numbers, among the names, of a symbol, of the sorts of its arguments, and of the sort of its
-- result
pub record HasNumbers (sig : Signature) (names : List (List ℕ)) (f : ℕ) (sorts : List ℕ)
    (sort : ℕ) : Type 0 where
  pub head : ℕ
  pub is_head : symbol_image sig names f ≡ Some (constant head)
  pub numbers : List ℕ
  pub are_numbers : AreSortImages sig names sorts numbers
  pub number : ℕ
  pub is_number : sort_image sig names sort ≡ Some number

-- the declaration of a constructor, with its numbers
pub record IsNumbered (sig : Signature) (names : List (List ℕ)) (f : ℕ) : Type 0 where
  pub info : SymInfo
  pub sorts : List ℕ
  pub sort : ℕ
  pub constructs : IsConstructor sig f info sorts sort
  pub numbers : HasNumbers sig names f sorts sort

-- the declaration of a constructor, with the numbers of its symbol and of the sorts of its
-- arguments
pub record HasNumberedArguments (sig : Signature) (names : List (List ℕ)) (f : ℕ) : Type 0 where
  pub info : SymInfo
  pub sorts : List ℕ
  pub sort : ℕ
  pub constructs : IsConstructor sig f info sorts sort
  pub head : ℕ
  pub is_head : symbol_image sig names f ≡ Some (constant head)
  pub numbers : List ℕ
  pub are_numbers : AreSortImages sig names sorts numbers

-- ---- injections

-- the injection symbol at two sorts, applied to a pattern
abbrev pub inject : ℕ → ℕ → ℕ → Pattern → Pattern
inject c s t p = app (at_sort (at_sort (constant c) s) t) p

-- the numbers of the injection symbol and of two sorts among the names
pub record HasEnds (sig : Signature) (names : List (List ℕ)) (a b : ℕ) : Type 0 where
  pub symbol : ℕ
  pub is_symbol : some_symbol_image sig names (injection_symbol sig) ≡ Some (constant symbol)
  pub lower : ℕ
  pub is_lower : sort_image sig names a ≡ Some lower
  pub upper : ℕ
  pub is_upper : sort_image sig names b ≡ Some upper
