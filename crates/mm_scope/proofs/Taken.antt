-- What scopes do with one statement, from what is judged and added.
use Rattle.std.proofs.Common.{◌≡◌, ℕ, List, [], ◌∷◌, refl, ap, sym, ◌∙◌, subst}
use Rattle.std.specs.Prelude.{Option, Some, Ok, Err}
use Rattle.mm_text.specs.Bytes.{Token}
use Rattle.mm_text.specs.Reader.{words_of, statement_of}
use Rattle.mm_text.specs.declared.tokens.MmToken.{MmToken}
use Rattle.mm_database.specs.Forms as forms
use Rattle.mm_database.specs.Forms.{form_of}
use Rattle.mm_database.specs.Database.{Context, after_form}
use Rattle.mm_database.specs.Validity.{declaration_fault}
use Rattle.mm_scope.specs.FormsRead.{form_read}
use Rattle.mm_scope.specs.ScopeState.{ScopeState}
use Rattle.mm_scope.specs.StateFaults.{Judges}
use Rattle.mm_scope.specs.Judging.{said_by, judged_form, error_of, Follows}
use Rattle.mm_scope.specs.Ending.{end_at}
use Rattle.mm_scope.specs.Standing.{Stands}
use Rattle.mm_scope.specs.TakesStatement.{TakesStatement}
use Rattle.mm_scope.specs.declared.forms.Form.{Form}
use Rattle.mm_scope.specs.declared.judge.Refusal.{Refusal}
use Rattle.mm_scope.specs.declared.judge.Refusal.TheVariants.{Fault, Memory}
use Rattle.mm_scope.specs.declared.declare.Said.{Said}
use Rattle.mm_scope.specs.declared.declare.Added.{Added}
use Rattle.mm_scope.specs.declared.declare.FrameEnd.{FrameEnd}
use Rattle.mm_scope.proofs.StandFaults.{form-fault}
use Rattle.mm_scope.proofs.StandStatements.{form-added}

pub statement-tokens : (bytes : List ℕ) (ts : List MmToken)
    → (statement_of bytes ts).tokens ≡ words_of bytes ts
statement-tokens bytes [] = refl
statement-tokens bytes (t ∷ ts) = refl

pub refused : (h : ScopeState) (c : Context) (bytes : List ℕ) (ts : List MmToken) (f : Form)
    (r : Refusal) (at : ℕ) → Stands h c → Some (form_read bytes f) ≡ form_of (words_of bytes ts)
    → Judges {X = Said} (said_by bytes) (Err r) (judged_form h bytes f)
    → at ≡ (statement_of bytes ts).at → (e : FrameEnd) → e ≡ end_at r at
    → TakesStatement c (statement_of bytes ts) h h (Err e)
refused h c bytes ts f (Fault k) at w form judged place e is =
    subst (λ (x : FrameEnd). TakesStatement c (statement_of bytes ts) h h (Err x)) (sym is) (
      ap (λ (us : List Token). declaration_fault c (form_of us)) (statement-tokens bytes ts)
          ∙ ap (declaration_fault c) (sym form) ∙ form-fault h c w bytes f
          ∙ ap error_of judged,
      place,
      refl,
    )
refused h c bytes ts f Memory at w form judged place e is =
    subst (λ (x : FrameEnd). TakesStatement c (statement_of bytes ts) h h (Err x)) (sym is) tt

pub taken : (old : ScopeState) (c : Context) (bytes : List ℕ) (ts : List MmToken) (f : Form)
    (said : Said) (at : ℕ) (new : ScopeState) (added : Added) → Stands old c
    → Some (form_read bytes f) ≡ form_of (words_of bytes ts)
    → judged_form old bytes f ≡ Ok (said_by bytes said) → Follows old at (said_by bytes said) new
    → at ≡ (statement_of bytes ts).at → TakesStatement c (statement_of bytes ts) old new (Ok added)
taken old c bytes ts f said at new added w form judged follows place =
    let same : form_of (statement_of bytes ts).tokens ≡ Some (form_read bytes f) =
    ap form_of (statement-tokens bytes ts) ∙ sym form in (
      ap (declaration_fault c) same ∙ form-fault old c w bytes f ∙ ap error_of judged,
      subst (λ (o : Option forms.Form). Stands new (after_form c (statement_of bytes ts).at o))
          (sym same)
          (subst (λ n. Stands new (after_form c n (Some (form_read bytes f)))) place
          (form-added old c bytes f at (said_by bytes said) new w judged follows)),
    )
