-- A `$p` that was judged proposes what the definitions say.
use Rattle.std.proofs.Common.{◌≡◌, ℕ, List, [], ◌∷◌, length, take, refl, ap, sym, ◌∙◌, subst}
use Rattle.std.specs.Prelude.{Option, Some, Ok, Err}
use Rattle.mm_text.specs.Bytes.{Token}
use Rattle.mm_text.specs.Reader.{words_of, statement_of}
use Rattle.mm_text.specs.declared.tokens.MmToken.{MmToken}
use Rattle.mm_database.specs.Forms.{proves, plain, form_of}
use Rattle.mm_database.specs.Forms as forms
use Rattle.mm_database.specs.Frames.{frame_of}
use Rattle.mm_text.specs.Statements.{Statement as StatementOfTokens}
use Rattle.std.proofs.lemmas.List.{take_at}
use Rattle.mm_scope.specs.StateSteps.{AddsAssertion}
use Rattle.mm_database.specs.Database.{Context, first_label, with_assertion, after_form}
use Rattle.mm_database.specs.Database.{context_after}
use Rattle.mm_database.specs.Validity.{declaration_fault}
use Rattle.mm_frame.specs.Numbered.{NumberedFrame, IsNaming, IsNamedFrame}
use Rattle.mm_frame.specs.PlainFrames.{plain_frame}
use Rattle.mm_scope.specs.FormsRead.{form_read, keyword_read}
use Rattle.mm_scope.specs.ScopeState.{ScopeState}
use Rattle.mm_scope.specs.StateFaults.{Judges, plain_stated, stated_in}
use Rattle.mm_scope.specs.StateFrames.{IsFrameIn, Statement}
use Rattle.mm_scope.specs.Judging.{judged_plain, saying_states, error_of}
use Rattle.mm_scope.specs.Ending.{end_at}
use Rattle.mm_scope.specs.Standing.{NamesSymbols, Stands}
use Rattle.mm_scope.specs.TakesStatement.{KeepsFrames}
use Rattle.mm_scope.specs.Proposing.{IsProposed, Proposes}
use Rattle.mm_scope.specs.declared.scopes.Need.TheVariants as need
use Rattle.mm_scope.specs.declared.forms.Plain.{Plain}
use Rattle.mm_scope.specs.declared.forms.Keyword.{Keyword}
use Rattle.mm_scope.specs.declared.forms.Keyword.TheVariants as keyword
use Rattle.mm_scope.specs.declared.forms.Form.TheVariants as code
use Rattle.mm_scope.specs.declared.judge.Refusal.{Refusal}
use Rattle.mm_scope.specs.declared.judge.Refusal.TheVariants.{Fault, Memory}
use Rattle.mm_scope.specs.declared.judge.Stated.{Stated}
use Rattle.mm_scope.specs.declared.declare.FrameEnd.{FrameEnd}
use Rattle.mm_scope.specs.declared.theorem.Theorem.{Theorem}
use Rattle.mm_scope.proofs.Taken.{statement-tokens}
use Rattle.mm_scope.proofs.StandFaults.{form-fault, numbers-named}
use Rattle.mm_scope.proofs.StandFrames.{frame-named, assertion-added}
use Rattle.mm_scope.proofs.StandStatements.{label-is, stated-read}

module _ (h : ScopeState) (c : Context) (bytes : List ℕ) (ts : List MmToken) (p : Plain)
    (stands : Stands h c)
    (form : Some (form_read bytes (code.Plain p)) ≡ form_of (words_of bytes ts))
    (theorem : p.keyword ≡ keyword.Theorem) where
  abbrev labels : List Token
  labels = words_of bytes p.labels.now

  abbrev symbols : List Token
  symbols = words_of bytes p.symbols.now

  form-is : form_of (statement_of bytes ts).tokens ≡ Some (form_read bytes (code.Plain p))
  form-is = ap form_of (statement-tokens bytes ts) ∙ sym form

  theorem-is : form_of (statement_of bytes ts).tokens
      ≡ Some (plain labels proves symbols (words_of bytes p.proof.now))
  theorem-is = form-is
      ∙ ap (λ (k : Keyword).
      Some (plain labels (keyword_read k) symbols (words_of bytes p.proof.now))) theorem

  fault-is : declaration_fault c (form_of (statement_of bytes ts).tokens)
      ≡ error_of (saying_states (stated_in h labels symbols))
  fault-is = ap (declaration_fault c) form-is ∙ form-fault h c stands bytes (code.Plain p)
      ∙ ap (λ (k : Keyword). error_of (judged_plain h k labels symbols)) theorem

  pub theorem_refused : (r : Refusal) (at : ℕ)
      → Judges {X = Stated} plain_stated (Err r) (stated_in h labels symbols)
      → at ≡ (statement_of bytes ts).at → (e : FrameEnd) → e ≡ end_at r at
      → Proposes bytes h c (statement_of bytes ts) (Err e)
  theorem_refused (Fault k) at judged place e is =
      subst (λ (x : FrameEnd). Proposes bytes h c (statement_of bytes ts) (Err x)) (sym is)
      (fault-is ∙ ap (λ r. error_of (saying_states r)) judged, place)
  theorem_refused Memory at judged place e is =
      subst (λ (x : FrameEnd). Proposes bytes h c (statement_of bytes ts) (Err x)) (sym is) tt

  frame-is : (s : Statement) (f : NumberedFrame) → stated_in h labels symbols ≡ Ok s
      → IsFrameIn h s f → (name : ℕ → Token) → IsNaming name → NamesSymbols name h.symbols
      → IsNamedFrame name f (frame_of c.scope (first_label labels) symbols)
  frame-is s f judged scope_state name naming names =
      let read = stated-read h labels symbols s judged in
      subst (λ (l : Token). IsNamedFrame name f (frame_of c.scope l symbols))
      (sym (label-is h labels s.label read.labelled).0)
      (frame-named name naming h c s f symbols (stands.under name naming names)
      (numbers-named h c stands name names need.Typed symbols s.symbols read.numbers)
      scope_state)

  pub theorem_proposed : (s : Statement) (t : Theorem) → t.proof ≡ p.proof
      → stated_in h labels symbols ≡ Ok s → IsFrameIn h s (plain_frame t.frame)
      → IsProposed bytes h c (statement_of bytes ts) t
  theorem_proposed s t proof judged scope_state = record {
    labels = labels;
    symbols = symbols;
    form = theorem-is
        ∙ ap (λ q. Some (plain labels proves symbols (words_of bytes q.now))) (sym proof);
    well = fault-is ∙ ap (λ r. error_of (saying_states r)) judged;
    stated = s;
    label = (label-is h labels s.label (stated-read h labels symbols s judged).labelled).0;
    free = (label-is h labels s.label (stated-read h labels symbols s judged).labelled).1;
    numbers =
        λ name names. numbers-named h c stands name names need.Typed symbols s.symbols
        (stated-read h labels symbols s judged).numbers;
    scope_state = scope_state;
    frame = frame-is s (plain_frame t.frame) judged scope_state;
  }

-- a theorem that is added as it was proposed
pub theorem_added : (bytes : List ℕ) (old : ScopeState) (c : Context) (s : StatementOfTokens)
    (t : Theorem) (new : ScopeState) → Stands old c → IsProposed bytes old c s t
    → AddsAssertion old (plain_frame t.frame) new → Stands new (context_after c s)
theorem_added bytes old c s t new stands p adds =
    subst (λ (o : Option forms.Form). Stands new (after_form c s.at o)) (sym p.form)
    (subst (λ (l : Token). Stands new (with_assertion c l p.symbols)) (sym p.label)
    (assertion-added old c p.stated (plain_frame t.frame) p.symbols new stands p.free p.scope_state
    p.numbers adds))

pub theorem_keeps : (old : ScopeState) (f : NumberedFrame) (new : ScopeState)
    → AddsAssertion old f new → KeepsFrames old new
theorem_keeps old f new adds =
    ap (λ (fs : List NumberedFrame). take (length old.frames) fs)
    (ap (λ (x : ScopeState). x.frames) adds.rest)
    ∙ take_at old.frames (f ∷ []) (length old.frames) refl
