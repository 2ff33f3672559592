-- What axioms about symbols and sorts say if their variables are numbered from k. So they can be
-- apart from the variables of other patterns.
use Rattle.std.specs.Prelude.{◌≡◌, ◌≢◌, ◌+◌, ◌<◌, ℕ, false, List, ◌++◌, length, Some}
use Rattle.ml_pat.specs.Patterns.{Pattern, imp, not, and, equal, ex, all, var, constant}
use Rattle.ml_kernel.specs.Lemmas.{HasNoVariable}
use Rattle.term_core.specs.Terms.{Tree}
use Rattle.term_core.specs.Patterns.{Pattern as RulePattern, ground_pattern}
use Rattle.rule_core.specs.Sorting.{IsSymbol}
use Rattle.rule_core.specs.declared.signature.Signature.{Signature}
use Rattle.rule_core.specs.declared.signature.SymInfo.{SymInfo}
use Rattle.rule_core.specs.declared.signature.SymKind.TheVariants.{Ctor}
use Rattle.ml_image.specs.Images.{image_of, sort_image, shifted}
use Rattle.ml_image.specs.Sides.{AreApart}
use Rattle.prove_term.specs.Contexts.{Context}
use Rattle.prove_term.specs.Applications.{applied_to}
use Rattle.prove_term.specs.Numbered.{variables_from, pairs_from, all_from, AreSortImages}
use Rattle.prove_term.specs.Numbered.{IsNumbered, HasNumberedArguments, HasEnds, inject}

-- ---- which constructors

-- the symbol is a constructor with an argument, and is not associative, commutative or idempotent,
-- and has no unit
pub record IsFreeConstructor (sig : Signature) (f : ℕ) : Type 0 where
  pub info : SymInfo
  pub there : IsSymbol sig f info
  pub constructs : info.kind ≡ Ctor
  pub no_ac : info.ac ≡ false
  pub some : 0 < length info.args.items

-- two constructors with the same result sort, neither of which is associative, commutative or
-- idempotent, or has a unit
pub record AreApartConstructors (sig : Signature) (f g : ℕ) : Type 0 where
  pub differ : f ≢ g
  pub info : SymInfo
  pub other : SymInfo
  pub there : IsSymbol sig f info
  pub other_there : IsSymbol sig g other
  pub construct : (info.kind ≡ Ctor) × (other.kind ≡ Ctor)
  pub same_result : info.result ≡ other.result
  pub no_ac : (info.ac ≡ false) × (other.ac ≡ false)

-- ---- constructors

-- the symbol applied to n variables, numbered from k
abbrev pub at_numbered : ℕ → ℕ → ℕ → Pattern
at_numbered head k n = applied_to (constant head) (variables_from k n)

-- for all arguments, the symbol makes one element of its sort
abbrev pub total_at : ℕ → ℕ → List ℕ → ℕ → Pattern
total_at k head numbers number =
    let n : ℕ = length numbers in all_from k numbers
    (ex (k + n) number (equal (var (k + n)) (at_numbered head k n)))

pub record SaysTotalFrom (cx : Context) (f k : ℕ) (p : Pattern) : Type 0 where
  pub numbered : IsNumbered cx.program.sig cx.names f
  pub says : p
      ≡ total_at k numbered.numbers.head numbered.numbers.numbers numbered.numbers.number

-- what two applications of the symbol have in common is its application to what their arguments
-- have in common
abbrev pub free_at : ℕ → ℕ → List ℕ → Pattern
free_at k head numbers =
    let n : ℕ = length numbers in all_from k (numbers ++ numbers)
    (imp (and (at_numbered head k n) (at_numbered head (k + n) n))
    (applied_to (constant head) (pairs_from k (k + n) n)))

pub record SaysFreeFrom (cx : Context) (f k : ℕ) (p : Pattern) : Type 0 where
  pub numbered : HasNumberedArguments cx.program.sig cx.names f
  pub says : p ≡ free_at k numbered.head numbered.numbers

-- two symbols have nothing in common
abbrev pub apart_at : ℕ → ℕ → List ℕ → ℕ → List ℕ → Pattern
apart_at k head numbers other others =
    let n : ℕ = length numbers in all_from k (numbers ++ others)
    (not (and (at_numbered head k n) (at_numbered other (k + n) (length others))))

pub record SaysApartFrom (cx : Context) (f g k : ℕ) (p : Pattern) : Type 0 where
  pub first : HasNumberedArguments cx.program.sig cx.names f
  pub second : HasNumberedArguments cx.program.sig cx.names g
  pub says : p ≡ apart_at k first.head first.numbers second.head second.numbers

-- ---- injections

-- each element of the sort s, injected into the sort t, is one element of t
abbrev pub subsort_at : ℕ → ℕ → ℕ → ℕ → Pattern
subsort_at k c s t = all k s (ex (k + 1) t (equal (var (k + 1)) (inject c s t (var k))))

pub record SaysSubsortFrom (cx : Context) (a b k : ℕ) (p : Pattern) : Type 0 where
  pub ends : HasEnds cx.program.sig cx.names a b
  pub says : p ≡ subsort_at k ends.symbol ends.lower ends.upper

-- for each element of s, the injection from s to t followed by that from t to u is the injection
-- from s to u
abbrev pub collapse_at : ℕ → ℕ → ℕ → ℕ → ℕ → Pattern
collapse_at k c s t u =
    all k s (equal (inject c t u (inject c s t (var k))) (inject c s u (var k)))

pub record SaysCollapseFrom (cx : Context) (a b d k : ℕ) (p : Pattern) : Type 0 where
  pub ends : HasEnds cx.program.sig cx.names a b
  pub last : ℕ
  pub is_last : sort_image cx.program.sig cx.names d ≡ Some last
  pub says : p ≡ collapse_at k ends.symbol ends.lower ends.upper last

-- two elements of s are equal if their injections into t are
abbrev pub injective_at : ℕ → ℕ → ℕ → ℕ → Pattern
injective_at k c s t =
    all k s (all (k + 1) s (imp (equal (inject c s t (var k)) (inject c s t (var (k + 1))))
    (equal (var k) (var (k + 1)))))

pub record SaysInjectiveFrom (cx : Context) (a b k : ℕ) (p : Pattern) : Type 0 where
  pub ends : HasEnds cx.program.sig cx.names a b
  pub says : p ≡ injective_at k ends.symbol ends.lower ends.upper

-- both injections of the image of t, first from a to b and then from b to d, are its injection from
-- a to d; the image is closed
pub record SaysCollapseOf (cx : Context) (a b d : ℕ) (t : Tree) (p : Pattern) : Type 0 where
  pub ends : HasEnds cx.program.sig cx.names a b
  pub last : ℕ
  pub is_last : sort_image cx.program.sig cx.names d ≡ Some last
  pub image : Pattern
  pub is_image : image_of cx.program.sig cx.names (ground_pattern t) ≡ Some image
  pub says : p ≡ equal
      (inject ends.symbol ends.upper last (inject ends.symbol ends.lower ends.upper image))
      (inject ends.symbol ends.lower last image)
  pub no_variable : HasNoVariable image

-- ---- patterns without a common instance

-- for all variables, the images of the two patterns differ, whose variables are numbered from k
pub record SaysUnequalFrom (cx : Context) (left right : RulePattern) (k : ℕ) (p : Pattern) : Type 0
  where
    pub sorts : List ℕ
    pub apart : AreApart cx.program.sig left right sorts
    pub numbers : List ℕ
    pub are_numbers : AreSortImages cx.program.sig cx.names sorts numbers
    pub first : Pattern
    pub is_first : image_of cx.program.sig cx.names (shifted k left) ≡ Some first
    pub second : Pattern
    pub is_second : image_of cx.program.sig cx.names (shifted k right) ≡ Some second
    pub says : p ≡ all_from k numbers (not (equal first second))
