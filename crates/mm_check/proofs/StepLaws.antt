-- One statement of a database: what it is, and the scopes after it.
use Rattle.std.proofs.Common.{◌≡◌, ℕ, Bool, true, false, List, [], ◌∷◌, refl, ap, sym, ◌∙◌, subst}
use Rattle.std.specs.Prelude.{Option, Some, None, Result, Ok, Err, IfSome, IsTrue, ◌↔◌, bytes_eq}
use Rattle.std.specs.Prelude.{if◌then◌else◌, option_and_then}
use Rattle.std.specs.Borrow.{Bor}
use Rattle.std.specs.Global.{Vec}
use Rattle.std.proofs.lemmas.Bool.{false≢true, and_parts}
use Rattle.std.proofs.lemmas.Slice.Eq.{bytes_eq-Decides}
use Rattle.mm_text.specs.Bytes.{Token}
use Rattle.mm_text.specs.Statements.{Statement}
use Rattle.mm_text.specs.Reader.{words_of, statement_of}
use Rattle.mm_text.specs.declared.fault.MmFault.{MmFault}
use Rattle.mm_text.specs.declared.tokens.MmToken.{MmToken}
use Rattle.mm_database.specs.Forms.{declares_constants, declares_variables, types_variable, assumes}
use Rattle.mm_database.specs.Forms.{separates, asserts, proves, Form, block_start, block_end, plain}
use Rattle.mm_database.specs.Forms.{form_of, before_dollar, from_dollar, Keyword, has_dollar}
use Rattle.mm_database.specs.Forms.{form_if}
use Rattle.mm_database.specs.Forms.{keyword_form, keyword_of, labelled_form, block_form, is_end}
use Rattle.mm_database.specs.Forms.{declaration_form, proof_form}
use Rattle.mm_database.specs.Frames.{Frame, frame_of}
use Rattle.mm_database.specs.Database.{Context, context_after, after_form, first_label, floating_of}
use Rattle.mm_database.specs.Database.{with_assertion}
use Rattle.mm_database.specs.Assertions.{Assertion, assertion, form_assertion, form_typing}
use Rattle.mm_database.specs.Orderly.{IsOrderly, OrderlyAfter, TypeOnce}
use Rattle.mm_database.specs.Validity.{HasNoFault, declaration_fault, form_fault}
use Rattle.mm_scope.specs.ScopeState.{ScopeState}
use Rattle.mm_scope.specs.Standing.{Stands}
use Rattle.mm_scope.specs.TakesStatement.{TakesStatement}
use Rattle.mm_scope.specs.FormsRead.{keyword_read}
use Rattle.mm_scope.specs.declared.declare.FrameEnd.{FrameEnd}
use Rattle.mm_scope.specs.declared.declare.FrameEnd.TheVariants.{Fault}
use Rattle.mm_scope.specs.declared.forms.Plain.{Plain}
use Rattle.rule_core.specs.Theories.{RewriteTheory}
use Rattle.mm_justify.specs.Justifying.{IsAxiomOf, IsAllowed, AreTypings}
use Rattle.mm_check.specs.PlainStatements.{are_ascii, is_ascii_token}
use Rattle.mm_check.specs.Passing.{MayStep, StepsTo, IsAfter, form_said, IsTaken}
use Rattle.mm_check.specs.Passing.{NotesForm, FormNoted, FormOffends, IsNoted, IsProvenFrame}
use Rattle.mm_check.specs.Passing.{IsProven}
use Rattle.mm_check.specs.Offences.{Offends}
use Rattle.mm_check.specs.declared.ends.CheckEnd.{CheckEnd}
use Rattle.mm_check.specs.declared.ends.CheckEnd.TheVariants.{Invalid, Unjustified, Memory}
use Rattle.mm_check.specs.declared.ends.Offence.{Offence}
use Rattle.mm_check.specs.declared.ends.Offence.TheVariants.{Conclusion, Typing, Axiom}
use Rattle.mm_check.specs.declared.notes.Noted.{Noted}
use Rattle.mm_check.specs.declared.notes.Noted.TheVariants.{Other, Stated}

-- a statement without fault has no fault of a declaration
pub no_declaration_fault : (c : Context) (s : Statement) (kind : ℕ) → HasNoFault c s.tokens
    → declaration_fault c (form_of s.tokens) ≡ Some kind → ⊥
no_declaration_fault c s kind fine is = go (declaration_fault c (form_of s.tokens)) refl is
  where
    go : (o : Option ℕ) → declaration_fault c (form_of s.tokens) ≡ o → o ≡ Some kind → ⊥
    go None e h = let never : ⊥ = cc in never
    go (Some k) e h =
        let fault : form_fault c (form_of s.tokens) ≡ Some k = rw e refl in
        let none : form_fault c (form_of s.tokens) ≡ None = fine.form in
        let never : ⊥ = cc in never

pub fault_never : (c : Context) (s : Statement) (old new : ScopeState) (e : FrameEnd) (f : MmFault)
    → e ≡ Fault f → HasNoFault c s.tokens → TakesStatement c s old new (Err e) → ⊥
fault_never c s old new e f is fine takes =
    let so : TakesStatement c s old new (Err (Fault f)) =
    subst (λ (w : FrameEnd). TakesStatement c s old new (Err w)) is takes in
    no_declaration_fault c s f.kind fine so.0

-- ---- words of forms are words of the statement

pub ascii_before : (ts : List Token) → are_ascii ts ≡ true → are_ascii (before_dollar ts) ≡ true
ascii_before [] all = refl
ascii_before (t ∷ ts) all =
    go (has_dollar t) refl (ascii_before ts (and_parts (is_ascii_token t) (are_ascii ts) all).1)
    (and_parts (is_ascii_token t) (are_ascii ts) all).0
  where
    go : (b : Bool) → has_dollar t ≡ b → are_ascii (before_dollar ts) ≡ true
        → is_ascii_token t ≡ true → are_ascii (before_dollar (t ∷ ts)) ≡ true
    go true is rest first = rw is refl
    go false is rest first = rw is (rw first rest)

pub ascii_from : (ts : List Token) → are_ascii ts ≡ true → are_ascii (from_dollar ts) ≡ true
ascii_from [] all = refl
ascii_from (t ∷ ts) all =
    go (has_dollar t) refl (ascii_from ts (and_parts (is_ascii_token t) (are_ascii ts) all).1)
  where
    go : (b : Bool) → has_dollar t ≡ b → are_ascii (from_dollar ts) ≡ true
        → are_ascii (from_dollar (t ∷ ts)) ≡ true
    go true is rest = rw is all
    go false is rest = rw is rest

form_if_is : (b : Bool) (ls ss ps ls' ss' ps' : List Token) (k k' : Keyword)
    → form_if b (plain ls k ss ps) ≡ Some (plain ls' k' ss' ps') → ss ≡ ss'
form_if_is true ls ss ps ls' ss' ps' k k' is = cc
form_if_is false ls ss ps ls' ss' ps' k k' is = let never : ⊥ = cc in absurd never

declared_symbols : (labels symbols rest ls ss ps : List Token) (k k' : Keyword)
    → declaration_form labels k symbols rest ≡ Some (plain ls k' ss ps) → symbols ≡ ss
declared_symbols labels [] rest ls ss ps k k' is = let never : ⊥ = cc in absurd never
declared_symbols labels (x ∷ xs) rest ls ss ps k k' is =
    form_if_is (is_end rest) labels (x ∷ xs) [] ls ss ps k k' is

proof_symbols : (labels symbols rest ls ss ps : List Token) (k' : Keyword)
    → proof_form labels symbols rest ≡ Some (plain ls k' ss ps) → symbols ≡ ss
proof_symbols labels symbols [] ls ss ps k' is = let never : ⊥ = cc in absurd never
proof_symbols labels symbols (t ∷ rest) ls ss ps k' is =
    form_if_is _ labels symbols (before_dollar rest) ls ss ps proves k' is

form_symbols : (labels symbols rest ls ss ps : List Token) (k k' : Keyword)
    → keyword_form labels symbols rest k ≡ Some (plain ls k' ss ps) → symbols ≡ ss
form_symbols labels symbols rest ls ss ps declares_constants k' is =
    declared_symbols labels symbols rest ls ss ps declares_constants k' is
form_symbols labels symbols rest ls ss ps declares_variables k' is =
    declared_symbols labels symbols rest ls ss ps declares_variables k' is
form_symbols labels symbols rest ls ss ps types_variable k' is =
    form_if_is (is_end rest) labels symbols [] ls ss ps types_variable k' is
form_symbols labels symbols rest ls ss ps assumes k' is =
    form_if_is (is_end rest) labels symbols [] ls ss ps assumes k' is
form_symbols labels symbols rest ls ss ps separates k' is =
    form_if_is (is_end rest) labels symbols [] ls ss ps separates k' is
form_symbols labels symbols rest ls ss ps asserts k' is =
    form_if_is (is_end rest) labels symbols [] ls ss ps asserts k' is
form_symbols labels symbols rest ls ss ps proves k' is =
    proof_symbols labels symbols rest ls ss ps k' is

labelled_ascii : (labels ts ls ss ps : List Token) (k : Keyword)
    → labelled_form labels ts ≡ Some (plain ls k ss ps) → are_ascii ts ≡ true
    → are_ascii ss ≡ true
labelled_ascii labels [] ls ss ps k is all = let never : ⊥ = cc in absurd never
labelled_ascii labels (t ∷ rest) ls ss ps k is all = go (keyword_of t) is
  where
    go : (o : Option Keyword)
        → option_and_then (keyword_form labels (before_dollar rest) (from_dollar rest)) o
        ≡ Some (plain ls k ss ps) → are_ascii ss ≡ true
    go None e = let never : ⊥ = cc in absurd never
    go (Some k') e =
        subst (λ ts. are_ascii ts ≡ true)
        (form_symbols labels (before_dollar rest) (from_dollar rest) ls ss ps k' k e)
        (ascii_before rest (and_parts _ _ all).1)

block_is_none : (t : Token) (ls ss ps : List Token) (k : Keyword)
    → block_form t ≡ Some (plain ls k ss ps) → ⊥
block_is_none t ls ss ps k is = go _ _ is
  where
    go : (a b : Bool)
        → (if a then Some block_start else if b then Some block_end else None)
        ≡ Some (plain ls k ss ps) → ⊥
    go true b e = let never : ⊥ = cc in never
    go false true e = let never : ⊥ = cc in never
    go false false e = let never : ⊥ = cc in never

pub ascii_symbols : (ts ls ss ps : List Token) (k : Keyword)
    → form_of ts ≡ Some (plain ls k ss ps) → are_ascii ts ≡ true → are_ascii ss ≡ true
ascii_symbols [] ls ss ps k is all = let never : ⊥ = cc in absurd never
ascii_symbols (t ∷ []) ls ss ps k is all = absurd (block_is_none t ls ss ps k is)
ascii_symbols (t ∷ (u ∷ ts)) ls ss ps k is all =
    labelled_ascii (before_dollar (t ∷ (u ∷ ts))) (from_dollar (t ∷ (u ∷ ts))) ls ss ps k is
    (ascii_from (t ∷ (u ∷ ts)) all)

-- the tokens of a statement that was read
pub said_by : (bytes : List ℕ) (tokens : List MmToken) (o : Option Form)
    → o ≡ form_of (words_of bytes tokens) → form_of (statement_of bytes tokens).tokens ≡ o
said_by bytes [] o is = sym is
said_by bytes (t ∷ tokens) o is = sym is

-- ---- what the scopes stand for

-- the context after a statement of this form
after_is : (c : Context) (s : Statement) (form : Form) → form_of s.tokens ≡ Some form
    → context_after c s ≡ after_form c s.at (Some form)
after_is c s form is = ap (after_form c s.at) is

pub taken : (after : OrderlyAfter) (c : Context) (s : Statement) (h : ScopeState) (bytes : List ℕ)
    (p : Plain) → IsOrderly c → HasNoFault c s.tokens → Stands h (context_after c s)
    → form_of s.tokens ≡ Some (form_said bytes p) → IsTaken c h (form_said bytes p)
taken after c s h bytes p orderly fine stands is = (
  subst (Stands h) (after_is c s (form_said bytes p) is) stands,
  subst IsOrderly (after_is c s (form_said bytes p) is) (after c s orderly fine),
)

pub found_there : (c : Context) (label : Token) (symbols : List Token)
    → (with_assertion c label symbols).frames label ≡ Some (frame_of c.scope label symbols)
found_there c label symbols =
    let same : bytes_eq label label ≡ true = (bytes_eq-Decides label label).1 refl in rw same refl

pub labelled : (after : OrderlyAfter) (s : Statement) (old new : ScopeState) (m : MayStep old s)
    (bytes : List ℕ) (p : Plain) → Stands new (context_after m.context s)
    → form_of s.tokens ≡ Some (form_said bytes p) → IsAfter new bytes p
labelled after s old new m bytes p stands is = λ asserting.
    let c : Context = m.context in
    let label : Token = first_label (words_of bytes p.labels.now) in
    let symbols : List Token = words_of bytes p.symbols.now in
    let taken_so : IsTaken m.context new (form_said bytes p) =
    taken after m.context s new bytes p m.orderly m.fine stands is in
    let here : IsTaken m.context new
    (plain (words_of bytes p.labels.now) asserts symbols (words_of bytes p.proof.now)) =
    subst (λ (k : Keyword). IsTaken m.context new
    (plain (words_of bytes p.labels.now) k (words_of bytes p.symbols.now)
    (words_of bytes p.proof.now)))
    asserting taken_so in
    record {
      context =
          with_assertion m.context (first_label (words_of bytes p.labels.now))
          (words_of bytes p.symbols.now);
      tokens = words_of bytes p.symbols.now;
      stands = here.0;
      frame = found_there m.context (first_label (words_of bytes p.labels.now))
          (words_of bytes p.symbols.now);
      once = here.1.frames (first_label (words_of bytes p.labels.now)) _
          (found_there m.context (first_label (words_of bytes p.labels.now))
          (words_of bytes p.symbols.now));
      ascii = ascii_symbols s.tokens (words_of bytes p.labels.now) (words_of bytes p.symbols.now)
          (words_of bytes p.proof.now) (keyword_read p.keyword) is m.ascii;
    }

-- ---- forms

pub typing_fits : (theory : RewriteTheory) (c : Context) (labels symbols proof : List Token)
    (k : Keyword) (at : ℕ) → k ≡ types_variable
    → ((label : Token) → AreTypings (floating_of label symbols ∷ []))
    → NotesForm theory c (plain labels k symbols proof) at (Ok Other)
typing_fits theory c labels symbols proof k at is fits =
    subst (λ (w : Keyword). NotesForm theory c (plain labels w symbols proof) at (Ok Other))
    (sym is)
    (fits (first_label labels), tt, refl)

pub typing_offends : (theory : RewriteTheory) (c : Context) (labels symbols proof : List Token)
    (k : Keyword) (at : ℕ) → k ≡ types_variable
    → ((label : Token) → AreTypings (floating_of label symbols ∷ []) → ⊥)
    → NotesForm theory c (plain labels k symbols proof) at (Err (Unjustified Typing at))
typing_offends theory c labels symbols proof k at is never =
    subst (λ (w : Keyword). NotesForm theory c (plain labels w symbols proof) at
    (Err (Unjustified Typing at))) (sym is) (never (first_label labels), refl)

abbrev pub AnswersAxiom : RewriteTheory → ScopeState → Token → Bool → Type 0
AnswersAxiom theory h label b = (c : Context) (tokens : List Token) → Stands h c
    → c.frames label ≡ Some (frame_of c.scope label tokens)
    → TypeOnce (frame_of c.scope label tokens).hypotheses
    → (IsTrue b ↔ IsAxiomOf theory (frame_of c.scope label tokens))

-- an answer about the label
pub about_label : (theory : RewriteTheory) (h : ScopeState) (label other : Token) (b d : Bool)
    → label ≡ other → b ≡ d → AnswersAxiom theory h label b → AnswersAxiom theory h other d
about_label theory h label other b d same is answers =
    subst (λ (l : Token). AnswersAxiom theory h l d) same
    (subst (λ (w : Bool). AnswersAxiom theory h label w) is answers)

answered : (theory : RewriteTheory) (c : Context) (h : ScopeState)
    (labels symbols proof : List Token)
    (b : Bool) → AnswersAxiom theory h (first_label labels) b
    → IsTaken c h (plain labels asserts symbols proof)
    → (IsTrue b ↔ IsAxiomOf theory (frame_of c.scope (first_label labels) symbols))
answered theory c h labels symbols proof b answers is_taken =
    answers (with_assertion c (first_label labels) symbols) symbols is_taken.0
    (found_there c (first_label labels) symbols)
    (is_taken.1.frames (first_label labels) _ (found_there c (first_label labels) symbols))

pub axiom_fits : (theory : RewriteTheory) (c : Context) (h : ScopeState)
    (labels symbols proof : List Token) (k : Keyword) (at : ℕ) → k ≡ asserts
    → AnswersAxiom theory h (first_label labels) true → IsTaken c h (plain labels k symbols proof)
    → NotesForm theory c (plain labels k symbols proof) at (Ok (Stated None))
axiom_fits theory c h labels symbols proof k at is answers is_taken =
    let here : IsTaken c h (plain labels asserts symbols proof) =
    subst (λ (w : Keyword). IsTaken c h (plain labels w symbols proof)) is is_taken in
    subst (λ (w : Keyword). NotesForm theory c (plain labels w symbols proof) at (Ok (Stated None)))
    (sym is) (
      tt,
      λ unproved. (answered theory c h labels symbols proof true answers here).0 refl,
      (assertion c false labels symbols, refl, λ proved none. false≢true proved),
    )

pub axiom_offends : (theory : RewriteTheory) (c : Context) (h : ScopeState)
    (labels symbols proof : List Token) (k : Keyword) (at : ℕ) → k ≡ asserts
    → AnswersAxiom theory h (first_label labels) false → IsTaken c h (plain labels k symbols proof)
    → NotesForm theory c (plain labels k symbols proof) at (Err (Unjustified Axiom at))
axiom_offends theory c h labels symbols proof k at is answers is_taken =
    let here : IsTaken c h (plain labels asserts symbols proof) =
    subst (λ (w : Keyword). IsTaken c h (plain labels w symbols proof)) is is_taken in
    subst (λ (w : Keyword). NotesForm theory c (plain labels w symbols proof) at
    (Err (Unjustified Axiom at))) (sym is) (
      λ allowed. false≢true
          ((answered theory c h labels symbols proof false answers here).1 (allowed refl)),
      refl,
    )

abbrev pub AnswersProven : ScopeState → Token → List Token → Option (Vec (Bor Token)) → Type 0
AnswersProven h label symbols o = (c : Context) (f : Frame) → Stands h c
    → c.frames label ≡ Some f → f.statement ≡ symbols → IsProvenFrame f o

proven_so : (a : Assertion) (o : Option (Vec (Bor Token))) → a.is_proved ≡ true
    → IsProvenFrame a.frame o → IsProven a o
proven_so a None proved is = λ _ none. is none
proven_so a (Some ws) proved is = (proved, is.0, is.1)

pub theorem_fits : (theory : RewriteTheory) (c : Context) (h : ScopeState)
    (labels symbols proof : List Token) (k : Keyword) (at : ℕ) (o : Option (Vec (Bor Token)))
    → k ≡ proves → AnswersProven h (first_label labels) symbols o
    → IsTaken c h (plain labels k symbols proof)
    → NotesForm theory c (plain labels k symbols proof) at (Ok (Stated o))
theorem_fits theory c h labels symbols proof k at o is answers is_taken =
    let here : IsTaken c h (plain labels proves symbols proof) =
    subst (λ (w : Keyword). IsTaken c h (plain labels w symbols proof)) is is_taken in
    subst (λ (w : Keyword). NotesForm theory c (plain labels w symbols proof) at (Ok (Stated o)))
    (sym is) (
      tt,
      λ unproved. absurd (false≢true (sym unproved)),
      (
        assertion c true labels symbols,
        refl,
        proven_so (assertion c true labels symbols) o refl
            (answers (with_assertion c (first_label labels) symbols)
            (frame_of c.scope (first_label labels) symbols) here.0
            (found_there c (first_label labels) symbols) refl),
      ),
    )

-- ---- a statement is what its form is

offends_as : (theory : RewriteTheory) (c : Context) (s : Statement) (form : Form) (o : Offence)
    → form_of s.tokens ≡ Some form → FormOffends theory c form o → Offends theory c s o
offends_as theory c s form Conclusion is offends = absurd offends
offends_as theory c s form Typing is offends = λ fits.
    offends (subst (λ (f : Option Form). IfSome (form_typing f) (λ h. AreTypings (h ∷ []))) is fits)
offends_as theory c s form Axiom is offends = λ fits.
    offends (subst (λ (f : Option Form). IfSome (form_assertion c f) (IsAllowed theory)) is fits)

noted_as : (c : Context) (s : Statement) (form : Form) (n : Noted) → form_of s.tokens ≡ Some form
    → FormNoted c form n → IsNoted c s n
noted_as c s form Other is notes = ap (form_assertion c) is ∙ notes
noted_as c s form (Stated o) is notes = (notes.0, ap (form_assertion c) is ∙ notes.1, notes.2)

pub steps_as : (theory : RewriteTheory) (c : Context) (s : Statement) (h : ScopeState) (form : Form)
    (r : Result Noted CheckEnd) → form_of s.tokens ≡ Some form → Stands h (context_after c s)
    → NotesForm theory c form s.at r → StepsTo theory c s h r
steps_as theory c s h form (Err Memory) is stands notes = tt
steps_as theory c s h form (Err (Invalid f)) is stands notes = absurd notes
steps_as theory c s h form (Err (Unjustified offence at)) is stands notes =
    (offends_as theory c s form offence is notes.0, notes.1)
steps_as theory c s h form (Ok noted) is stands notes = (
  subst (λ (f : Option Form). IfSome (form_typing f) (λ h. AreTypings (h ∷ []))) (sym is) notes.0,
  subst (λ (f : Option Form). IfSome (form_assertion c f) (IsAllowed theory)) (sym is) notes.1,
  noted_as c s form noted is notes.2,
  stands,
)
