-- Whether what an assertion says is an axiom of a program, by tests of its tokens and numbers.
use Rattle.std.specs.Prelude.{◌≡◌, ◌⊎◌, ℕ, Bool, true, not, ◌&&◌, ◌||◌, nat_eq, List, [], ◌∷◌, map}
use Rattle.std.specs.Prelude.{codes, bytes_eq}
use Rattle.std.specs.List.{list_all}
use Rattle.mm_text.specs.Bytes.{Token}
use Rattle.mm_frame.specs.PlainFrames.{has_number, in_groups}
use Rattle.mm_scope.specs.ScopeState.{ScopeSymbol, ScopeState}
use Rattle.rule_core.specs.Theories.{RewriteTheory}
use Rattle.rule_core.specs.declared.signature.Signature.{Signature}
use Rattle.ml_image.specs.OwnTokens.{IsOwnToken}
use Rattle.mm_justify.specs.Counting.{is_object}
use Rattle.mm_justify.specs.Stating.{typecode_of}
use Rattle.assumed_texts.specs.AssumedTexts.{SaysAssumed}
use Rattle.mm_check.specs.Stated.{PlainTyped, PlainStated, symbol_token}
use Rattle.mm_check.specs.RowTexts.{SaysRow}

-- ---- declarations

-- the token is a name of the program, and this is its typecode
pub record HasTypecode (sig : Signature) (typecode token : Token) : Type 0 where
  pub own : IsOwnToken sig token
  pub is : typecode ≡ typecode_of token

-- the assertion gives a name of the program its typecode
pub record SaysName (sig : Signature) (s : PlainStated) : Type 0 where
  pub token : Token
  pub own : IsOwnToken sig token
  pub statement : s.words ≡ typecode_of token ∷ (token ∷ [])
  pub premises : s.premises ≡ []
  pub types : s.types ≡ []

-- ---- assumptions

-- it is an object variable of the type `#Var`
abbrev pub is_typed_object : PlainTyped → Bool
is_typed_object t = bytes_eq t.typecode (codes "#Var") && is_object t.variable

abbrev pub are_objects : List PlainTyped → Bool
are_objects ts = list_all is_typed_object ts

abbrev pub numbers_of : List PlainTyped → List ℕ
numbers_of ts = map (λ (t : PlainTyped). t.number) ts

-- if the symbol has the token of an object variable, it is one of these
abbrev pub is_known : List ScopeSymbol → List ℕ → ℕ → Bool
is_known symbols ns n = not (is_object (symbol_token symbols n)) || has_number ns n

-- a number is kept apart from each other one, and each number is so
abbrev pub is_apart_from : (ℕ → ℕ → Bool) → List ℕ → ℕ → Bool
is_apart_from pairs ns n = list_all (λ (m : ℕ). nat_eq m n || pairs n m) ns

abbrev pub all_apart : (ℕ → ℕ → Bool) → List ℕ → Bool
all_apart pairs ns = list_all (is_apart_from pairs ns) ns

-- all variables are object variables of the type `#Var`, each object variable is one of them, and
-- each two are kept apart
abbrev pub has_object_types : ScopeState → PlainStated → Bool
has_object_types h s =
    are_objects s.types
    && (all_apart (in_groups h.disjoint) (numbers_of s.types)
    && list_all (is_known h.symbols (numbers_of s.types)) s.numbers)

-- the assertion says that something holds that the program may assume
pub record SaysAssumption (theory : RewriteTheory) (h : ScopeState) (s : PlainStated) : Type 0 where
  pub said : SaysAssumed theory s.words
  pub premises : s.premises ≡ []
  pub objects : has_object_types h s ≡ true

-- ---- all of them

abbrev pub SaysAxiom : RewriteTheory → ScopeState → PlainStated → Type 0
SaysAxiom theory h s =
    SaysRow (in_groups h.disjoint) s ⊎ (SaysName theory.sig s ⊎ SaysAssumption theory h s)
