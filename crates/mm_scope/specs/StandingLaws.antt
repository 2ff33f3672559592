-- Laws on scopes that stand for a context, for code that does the steps of proofs over numbers.
use Rattle.std.specs.Prelude.{◌≡◌, ℕ, false, slice_get, Some, None}
use Rattle.mm_text.specs.Bytes.{Token}
use Rattle.mm_database.specs.Database.{Context}
use Rattle.mm_frame.specs.Numbered.{NumberedHypothesis, NumberedFrame, IsNaming}
use Rattle.mm_frame.specs.NumberedSteps.{NamesHypothesis, NamesFrame, NumberedPlace, IsNamedPlace}
use Rattle.mm_database.specs.Orderly.{IsOrderly}
use Rattle.mm_frame.specs.PlainFrames.{in_groups}
use Rattle.mm_scope.specs.ScopeState.{ScopeState}
use Rattle.mm_scope.specs.StateReads.{symbol_is_variable, hypothesis_named, frame_named}
use Rattle.mm_scope.specs.Standing.{NamesSymbols, Stands, Tells}
use Rattle.mm_database.specs.ProofText.{is_citable}
use Rattle.mm_database.specs.Frames.{statement_of}

-- the variables and the active pairs of scopes
abbrev pub place_of : ScopeState → NumberedPlace
place_of h = record {
  is_variable = λ n. symbol_is_variable (slice_get h.symbols n);
  apart = in_groups h.disjoint;
}

-- some naming gives each symbol its token
pub record SymbolsNamed (h : ScopeState) : Type 0 where
  pub name : ℕ → Token
  pub naming : IsNaming name
  pub names : NamesSymbols name h.symbols

abbrev pub NamingExists : Type 0
NamingExists = (h : ScopeState) (c : Context) → Stands h c → SymbolsNamed h

abbrev pub PlaceStands : Type 0
PlaceStands = (h : ScopeState) → Tells h (λ c name. IsNamedPlace name (place_of h) c)

-- what a label cites: the statement of an active hypothesis, or else the frame of an assertion
abbrev pub HypothesisStands : Type 0
HypothesisStands =
    (h : ScopeState) (label : Token) (x : NumberedHypothesis) → hypothesis_named h label ≡ Some x →
    Tells h (λ c name. NamesHypothesis name c label (statement_of x))

abbrev pub FrameCited : Type 0
FrameCited =
    (h : ScopeState) (label : Token) (n : NumberedFrame) → frame_named h label ≡ Some n →
    Tells h (λ c name. IsOrderly c → NamesFrame name c label n)

abbrev pub NothingCited : Type 0
NothingCited =
    (h : ScopeState) (label : Token) (c : Context) → Stands h c → hypothesis_named h label ≡ None →
    frame_named h label ≡ None →
    is_citable c label ≡ false
