-- The arguments of a node one by one: what follows for the whole from those that are done.
use Rattle.std.proofs.Common.{◌≡◌, ◌+◌, ℕ, zero, suc, List, [], ◌∷◌, Option, Some, None, length}
use Rattle.std.proofs.Common.{get_or, drop, slice_get, refl, sym, ◌∙◌, ap, subst}
use Rattle.ml_pat.specs.Patterns.{Pattern, app}
use Rattle.ml_kernel.specs.Lemmas.{HasNoVariable}
use Rattle.ml_kernel.specs.Theorems.{Theorem}
use Rattle.term_core.specs.Terms.{Tree}
use Rattle.term_core.specs.Patterns.{Patterns as RulePatterns, no_pattern, more_patterns}
use Rattle.term_core.specs.Patterns.{ground_pattern, ground_patterns}
use Rattle.term_core.specs.RulePatterns.{plain_pattern}
use Rattle.term_core.specs.PatternLists.{plain_patterns}
use Rattle.term_core.specs.declared.rule_patterns.RulePat.{RulePat}
use Rattle.rule_core.specs.Records.{Record, RecordList, no_record, more_records, result_of}
use Rattle.rule_core.specs.Records.{results_of}
use Rattle.rule_core.specs.declared.signature.Signature.{Signature}
use Rattle.ml_image.specs.Images.{both, image_of, applied}
use Rattle.ml_image.specs.Sentences.{term}
use Rattle.prove_term.specs.Contexts.{Context, HasGrown}
use Rattle.prove_term.specs.Schemas.{AreImages}
use Rattle.prove_term.specs.Applications.{IsApplication}
use Rattle.prove_term.specs.Comparing.{IsOverContext}
use Rattle.prove_term.specs.Filling.{filled, all_filled}
use Rattle.prove_term.proofs.ContextLaws.{grown_twice, image_grown}
use Rattle.prove_fun.specs.RecordParts.{listed}
use Rattle.prove_fun.specs.Evaluating.{Equates, IsEvaluated, AreEvaluated}
use Rattle.prove_fun.proofs.Equalities.{equates_grown, application}

-- ---- images of results

pub as_many_images : (sig : Signature) (names : List (List ℕ)) (rs : RecordList) (qs : List Pattern)
    → AreImages sig names (ground_patterns (results_of rs)) qs → length (listed rs) ≡ length qs
as_many_images sig names no_record [] h = refl
as_many_images sig names no_record (q ∷ qs) h = absurd h
as_many_images sig names (more_records r rs) [] h = absurd h
as_many_images sig names (more_records r rs) (q ∷ qs) h =
    ap suc (as_many_images sig names rs qs h.1)

pub image_at : (sig : Signature) (names : List (List ℕ)) (rs : RecordList) (qs : List Pattern)
    (i : ℕ) (r : Record) (q : Pattern)
    → AreImages sig names (ground_patterns (results_of rs)) qs → slice_get (listed rs) i ≡ Some r
    → q ≡ get_or qs i q → image_of sig names (ground_pattern (result_of r)) ≡ Some q
image_at sig names no_record qs i r q h there at = absurd (let no : ⊥ = cc in no)
image_at sig names (more_records s rs) [] i r q h there at = absurd h
image_at sig names (more_records s rs) (p ∷ qs) zero r q h there at =
    ap (λ (x : Record). image_of sig names (ground_pattern (result_of x))) (sym (first s r there))
    ∙ h.0 ∙ ap (λ (x : Pattern). Some x) (sym at)
  where
    first : (s r : Record) → Some s ≡ Some r → s ≡ r
    first s r e = cc
image_at sig names (more_records s rs) (p ∷ qs) (suc i) r q h there at =
    image_at sig names rs qs i r q h.1 there at

-- ---- the result of the first i arguments

pub record IsGathered (cx : Context) (theta : List (Option Tree)) (args : List RulePat) (i : ℕ)
    (head function : Pattern) (made : Option Theorem) : Type 0 where
  pub left : Pattern
  pub rest : (later : Context) → HasGrown cx later
      → applied later.program.sig later.names (Some head) (all_filled theta (plain_patterns args))
      ≡ applied later.program.sig later.names (Some left)
      (all_filled theta (plain_patterns (drop i args)))
  pub closed : HasNoVariable left
  pub equates : Equates cx left function made

pub gathered_none : (cx : Context) (theta : List (Option Tree)) (args : List RulePat)
    (head : Pattern) → HasNoVariable head → IsGathered cx theta args 0 head head None
gathered_none cx theta args head closed = record {
  left = head;
  rest = λ later g. refl;
  closed = closed;
  equates = refl;
}

pub gathered_next : (a b : Context) (theta : List (Option Tree)) (args : List RulePat) (i : ℕ)
    (p : RulePat) (head function image : Pattern) (made one next : Option Theorem)
    → HasGrown a b
    → plain_patterns (drop i args)
    ≡ more_patterns (plain_pattern p) (plain_patterns (drop (i + 1) args))
    → IsOverContext b function → IsOverContext b image
    → IsGathered a theta args i head function made → IsEvaluated b theta (plain_pattern p) image one
    → IsApplication b function image made one next
    → IsGathered b theta args (i + 1) head (app function image) next
gathered_next a b theta args i p head function image made one next g split over over' before
    evaluated is = record {
      left = app before.left evaluated.left;
      rest = λ later k.
          before.rest later (grown_twice a b later g k)
          ∙ ap (λ (ps : RulePatterns).
          applied later.program.sig later.names (Some before.left) (all_filled theta ps)) split
          ∙ ap (λ (o : Option Pattern). applied later.program.sig later.names
          (both app (Some before.left) o) (all_filled theta (plain_patterns (drop (i + 1) args))))
          (image_grown b later (term (filled theta (plain_pattern p))) evaluated.left k
          evaluated.left_image);
      closed = (before.closed, evaluated.closed);
      equates =
          application b before.left function evaluated.left image made one next over over'
          (equates_grown a b before.left function made g before.equates) evaluated.equates is;
    }

at_end : (args : List RulePat) → plain_patterns (drop (length args) args) ≡ no_pattern
at_end [] = refl
at_end (a ∷ args) = at_end args

pub gathered_all : (cx : Context) (theta : List (Option Tree)) (args : List RulePat) (i : ℕ)
    (head function whole : Pattern) (made : Option Theorem) → HasGrown cx cx → i ≡ length args
    → function ≡ whole → IsGathered cx theta args i head function made
    → AreEvaluated cx theta (plain_patterns args) head whole made
gathered_all cx theta args i head function whole made g all is done = record {
  left = done.left;
  left_image = done.rest cx g
      ∙ ap (λ (k : ℕ). applied cx.program.sig cx.names (Some done.left)
      (all_filled theta (plain_patterns (drop k args)))) all
      ∙ ap (λ (ps : RulePatterns).
      applied cx.program.sig cx.names (Some done.left) (all_filled theta ps)) (at_end args);
  closed = done.closed;
  equates = subst (λ (q : Pattern). Equates cx done.left q made) is done.equates;
}
