-- Adding a statement keeps the existing frames.
use Rattle.std.proofs.Common.{◌≡◌, ℕ, List, [], ◌∷◌, length, take, Some, None, refl, ap, ◌∙◌, arith}
use Rattle.std.specs.Prelude.{Option}
use Rattle.std.proofs.lemmas.List.{take_all, take_at}
use Rattle.mm_text.specs.Bytes.{Token}
use Rattle.mm_frame.specs.Numbered.{NumberedFrame}
use Rattle.mm_scope.specs.ScopeState.{ScopeState}
use Rattle.mm_scope.specs.StateSteps.{AddsConstants, VariableStep, AddsVariables, ClosesBlock}
use Rattle.mm_scope.specs.Judging.{Saying, opens, closes, names_constants, names_variables}
use Rattle.mm_scope.specs.Judging.{supposes, parts, states, Follows}
use Rattle.mm_scope.specs.TakesStatement.{KeepsFrames}
use Rattle.mm_frame.specs.declared.names.Name.{Name}
use Rattle.mm_frame.specs.declared.names.Name.TheVariants.{Constant, Variable, Hypothesis}
use Rattle.mm_frame.specs.declared.names.Name.TheVariants.{Assertion}
use Rattle.mm_scope.specs.declared.scopes.OpenBlock.{OpenBlock}

same-frames : (old new : ScopeState) → new.frames ≡ old.frames → KeepsFrames old new
same-frames old new is = ap (λ (fs : List NumberedFrame). take (length old.frames) fs) is
    ∙ take_all (length old.frames) old.frames (omega arith)

constants-frames : (old : ScopeState) (tokens : List Token) (new : ScopeState)
    → AddsConstants old tokens new → new.frames ≡ old.frames
constants-frames old [] new h = ap (λ (x : ScopeState). x.frames) h
constants-frames old (token ∷ tokens) new h =
    constants-frames h.1 tokens new h.3 ∙ ap (λ (x : ScopeState). x.frames) h.2.rest

variable-frames : (old : ScopeState) (token : Token) (name : Option Name) (new : ScopeState)
    → VariableStep old token name new → new.frames ≡ old.frames
variable-frames old token None new h =
    ap (λ (x : ScopeState). x.frames) h.3 ∙ ap (λ (x : ScopeState). x.frames) h.2.rest
variable-frames old token (Some (Variable n)) new h = ap (λ (x : ScopeState). x.frames) h
variable-frames old token (Some (Constant n)) new h = ap (λ (x : ScopeState). x.frames) h
variable-frames old token (Some (Hypothesis i)) new h = ap (λ (x : ScopeState). x.frames) h
variable-frames old token (Some (Assertion i)) new h = ap (λ (x : ScopeState). x.frames) h

variables-frames : (old : ScopeState) (tokens : List Token) (new : ScopeState)
    → AddsVariables old tokens new → new.frames ≡ old.frames
variables-frames old [] new h = ap (λ (x : ScopeState). x.frames) h
variables-frames old (token ∷ tokens) new h =
    variables-frames h.0 tokens new h.2 ∙ variable-frames old token (old.names token) h.0 h.1

closed-frames : (old new : ScopeState) (block : Option OpenBlock) → ClosesBlock old new block
    → new.frames ≡ old.frames
closed-frames old new None h = ap (λ (x : ScopeState). x.frames) h.1
closed-frames old new (Some block) h = ap (λ (x : ScopeState). x.frames) h.1

pub frames_kept : (old : ScopeState) (at : ℕ) (said : Saying) (new : ScopeState)
    → Follows old at said new → KeepsFrames old new
frames_kept old at opens new h = same-frames old new (ap (λ (x : ScopeState). x.frames) h)
frames_kept old at closes new h = same-frames old new (closed-frames old new h.0 h.1)
frames_kept old at (names_constants tokens) new h =
    same-frames old new (constants-frames old tokens new h)
frames_kept old at (names_variables tokens) new h =
    same-frames old new (variables-frames old tokens new h)
frames_kept old at (supposes x) new h =
    same-frames old new (ap (λ (x : ScopeState). x.frames) h.rest)
frames_kept old at (parts variables) new h =
    same-frames old new (ap (λ (x : ScopeState). x.frames) h.rest)
frames_kept old at (states s) new h =
    ap (λ (fs : List NumberedFrame). take (length old.frames) fs)
    (ap (λ (x : ScopeState). x.frames) h.2.rest)
    ∙ take_at old.frames (h.0 ∷ []) (length old.frames) refl
