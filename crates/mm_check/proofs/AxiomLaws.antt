-- What an assertion says is an axiom exactly if its frame is.
use Rattle.std.proofs.Common.{◌≡◌, List, [], ◌∷◌, map, refl, sym, ap, ◌∙◌, inl, inr}
use Rattle.std.specs.Prelude.{Some, None, slice_get}
use Rattle.std.proofs.lemmas.Bool.{false≢true}
use Rattle.ml_image.specs.OwnTokens.{IsOwnToken}
use Rattle.mm_text.specs.Bytes.{Token}
use Rattle.mm_database.specs.Frames.{Frame}
use Rattle.mm_frame.specs.PlainFrames.{in_groups}
use Rattle.mm_scope.specs.ScopeState.{ScopeState}
use Rattle.mm_verify.specs.Turned.{in_groups-turned}
use Rattle.rule_core.specs.Theories.{RewriteTheory}
use Rattle.mm_justify.specs.Stating.{name_frame}
use Rattle.mm_justify.specs.Justifying.{SaysNoMore, IsAxiomOf, header_row}
use Rattle.mm_justify.specs.Justifying.{declaration, assumption_of}
use Rattle.mm_check.specs.Stated.{PlainTyped, PlainStated, symbol_token}
use Rattle.mm_check.specs.StatedFrames.{IsStated}
use Rattle.mm_check.specs.RowTexts.{type_among}
use Rattle.mm_check.specs.AxiomTests.{SaysName, SaysAxiom}
use Rattle.mm_check.proofs.RowLaws.{typed_some}
use Rattle.mm_check.proofs.RowFrames.{says_axiom, row_said}
use Rattle.mm_check.proofs.AssumptionLaws.{assumption_axiom, said_assumption}

name_axiom : (theory : RewriteTheory) (h : ScopeState) (s : PlainStated) (f : Frame)
    → IsStated (in_groups h.disjoint) s f → SaysName theory.sig s → IsAxiomOf theory f
name_axiom theory h s f stated says = declaration says.token says.own (record {
  statement = stated.statement ∙ says.statement;
  premises = stated.premises ∙ says.premises;
  types = λ v. stated.types v ∙ ap (λ (ts : List PlainTyped). type_among ts v) says.types;
  apart = λ x y is. absurd (false≢true is);
})

-- if no variable has a type, there are no types
no_types : (ts : List PlainTyped)
    → ((t : PlainTyped) (us : List PlainTyped) → ts ≡ t ∷ us → ⊥) → ts ≡ []
no_types [] none = refl
no_types (t ∷ ts) none = absurd (none t ts refl)

said_name : (theory : RewriteTheory) (h : ScopeState) (s : PlainStated) (f : Frame) (token : Token)
    → IsStated (in_groups h.disjoint) s f → IsOwnToken theory.sig token
    → SaysNoMore f (name_frame token) → SaysName theory.sig s
said_name theory h s f token stated own no_more = record {
  token = token;
  own = own;
  statement = sym stated.statement ∙ no_more.statement;
  premises = sym stated.premises ∙ no_more.premises;
  types = no_types s.types (λ t us is.
      let some = typed_some s.types 0 t (ap (λ (ts : List PlainTyped). slice_get ts 0) is) in
      none_is_some (sym (sym (stated.types t.variable) ∙ no_more.types t.variable) ∙ some.1));
}
  where
    none_is_some : {k : Token} → None ≡ Some k → ⊥
    none_is_some h = cc

pub axiom_said : (theory : RewriteTheory) (h : ScopeState) (s : PlainStated) (f : Frame)
    → IsStated (in_groups h.disjoint) s f → s.words ≡ map (symbol_token h.symbols) s.numbers
    → IsAxiomOf theory f → SaysAxiom theory h s
axiom_said theory h s f stated tokens (header_row r other there of_row no_more) =
    inl (row_said (in_groups h.disjoint) s f other r stated there of_row no_more)
axiom_said theory h s f stated tokens (declaration token own no_more) =
    inr (inl (said_name theory h s f token stated own no_more))
axiom_said theory h s f stated tokens (assumption_of names sentence p assumed image no_more) =
    inr (inr (said_assumption theory h s f names sentence p stated tokens assumed image no_more))

pub says_is_axiom : (theory : RewriteTheory) (h : ScopeState) (s : PlainStated) (f : Frame)
    → IsStated (in_groups h.disjoint) s f → s.words ≡ map (symbol_token h.symbols) s.numbers
    → SaysAxiom theory h s → IsAxiomOf theory f
says_is_axiom theory h s f stated tokens (inl row) =
    says_axiom theory (in_groups h.disjoint) (in_groups-turned h.disjoint) s f stated row
says_is_axiom theory h s f stated tokens (inr (inl name)) = name_axiom theory h s f stated name
says_is_axiom theory h s f stated tokens (inr (inr assumption)) =
    assumption_axiom theory h s f stated tokens assumption
