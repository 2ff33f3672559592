-- The laws on scopes that stand for a context.
use Rattle.std.proofs.Common.{◌≡◌, ℕ, refl, ap, sym, ◌∙◌, is_some}
use Rattle.std.specs.Prelude.{◌||◌, Option, Some, None, option_map}
use Rattle.mm_text.specs.Bytes.{Token}
use Rattle.mm_database.specs.Frames.{Hypothesis, Frame, statement_of, floating, essential}
use Rattle.mm_database.specs.Proofs.{active_hypothesis}
use Rattle.mm_frame.specs.Numbered.{NumberedHypothesis, NumberedFrame, named, named_hypothesis}
use Rattle.mm_frame.specs.NumberedSteps.{NamesFrame}
use Rattle.mm_scope.specs.ScopeState.{ScopeState}
use Rattle.mm_scope.specs.StateReads.{hypothesis_by_name, frame_by_name}
use Rattle.mm_scope.specs.Standing.{FrameFound}
use Rattle.mm_scope.specs.StandingLaws.{NamingExists, PlaceStands, HypothesisStands, FrameCited}
use Rattle.mm_scope.specs.StandingLaws.{NothingCited}
use Rattle.mm_frame.specs.declared.names.Name.{Name}
use Rattle.mm_frame.specs.declared.names.Name.TheVariants.{Constant, Variable}
use Rattle.mm_frame.specs.declared.names.Name.TheVariants.{Hypothesis as HypothesisName, Assertion}
use Rattle.mm_scope.proofs.Namings.{naming_of, naming_of-IsNaming, naming_of-NamesSymbols}
use Rattle.mm_scope.proofs.StandTests.{distinct}
use Rattle.mm_scope.proofs.StandReads.{number-variable, hypothesis-found, frame-found}

pub naming_exists : NamingExists
naming_exists h c w = record {
  name = naming_of h.symbols;
  naming = naming_of-IsNaming h.symbols (distinct h c w);
  names = naming_of-NamesSymbols h.symbols;
}

pub place_stands : PlaceStands
place_stands h c name w naming names = record {
  variables = number-variable h c name w naming names;
  apart = (w.under name naming names).scope.separate;
}

symbols-named : (name : ℕ → Token) (x : NumberedHypothesis)
    → statement_of (named_hypothesis name x) ≡ named name (statement_of x)
symbols-named name (floating l k v) = refl
symbols-named name (essential l s) = refl

pub hypothesis_stands : HypothesisStands
hypothesis_stands h label x is c name w naming names = record {
  hypothesis = named_hypothesis name x;
  is = hypothesis-found h c name w naming names label ∙ ap (option_map (named_hypothesis name)) is;
  says = symbols-named name x;
}

-- a label does not name both a hypothesis and an assertion
no-hypothesis : (h : ScopeState) (label : Token) (n : NumberedFrame) (o : Option Name)
    → frame_by_name h o ≡ Some n → hypothesis_by_name h label o ≡ None
no-hypothesis h label n None is = absurd (cc)
no-hypothesis h label n (Some (Constant m)) is = refl
no-hypothesis h label n (Some (Variable m)) is = refl
no-hypothesis h label n (Some (HypothesisName i)) is = absurd (cc)
no-hypothesis h label n (Some (Assertion i)) is = refl

pub frame_cited : FrameCited
frame_cited h label n is c name w naming names orderly =
    go (frame-found h c name w naming names label (Some n) (sym is))
  where
    go : FrameFound name (Some n) (c.frames label) → NamesFrame name c label n
    go (f, found, numbered) = record {
      frame = f;
      no_hypothesis = hypothesis-found h c name w naming names label
          ∙ ap (option_map (named_hypothesis name)) (no-hypothesis h label n (h.names label) is);
      is = found;
      named = numbered;
      once = orderly.frames label f found;
    }

pub nothing_cited : NothingCited
nothing_cited h label c w none no_frame =
    let s = naming_exists h c w in
    let hypothesis : active_hypothesis c label ≡ None =
    hypothesis-found h c s.name w s.naming s.names label
    ∙ ap (option_map (named_hypothesis s.name)) none in
    let frame : c.frames label ≡ None =
    frame-found h c s.name w s.naming s.names label None (sym no_frame) in
    ap (λ (o : Option Hypothesis). is_some o || is_some (c.frames label)) hypothesis
    ∙ ap (λ (o : Option Frame). is_some o) frame
