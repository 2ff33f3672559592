-- The computed first fault is the first fault, and a text is valid if and only if it has none.
use Rattle.std.proofs.Common.{◌≡◌, ℕ, Bool, true, false, List, [], ◌∷◌, refl, ap, ◌∙◌, sym, subst}
use Rattle.std.proofs.Common.{◌⊎◌, inl, inr}
use Rattle.std.specs.Prelude.{Option, Some, None, IfSome, if◌then◌else◌, option_map}
use Rattle.mm_text.specs.Bytes.{Token}
use Rattle.mm_text.specs.FaultKinds.{bad_scope, bad_step, bad_conclusion, fault}
use Rattle.mm_text.specs.Statements.{Statement, Statements, no_statement, unended, bad_statement}
use Rattle.mm_text.specs.Statements.{next_statement, statements_of}
use Rattle.mm_text.specs.declared.fault.MmFault.{MmFault}
use Rattle.mm_database.specs.Forms.{form_of}
use Rattle.mm_database.specs.Database.{Block, Context, empty_context, context_after}
use Rattle.mm_database.specs.Database.{context_after_all}
use Rattle.mm_database.specs.Proofs.{Expression}
use Rattle.mm_database.specs.Steps.{BuildsAndProves}
use Rattle.mm_database.specs.Stack.{same_expressions, stack_after}
use Rattle.mm_database.specs.Validity.{IsProved, Task, task, form_fault, HasBadStep}
use Rattle.mm_database.specs.Validity.{HasBadConclusion, IsFaulty, by_form, by_step, by_conclusion}
use Rattle.mm_database.specs.Validity.{HasNoFault, HaveNoFault, IsValid, first_open, IsFirstFaultIn}
use Rattle.mm_database.specs.Validity.{or_else}
use Rattle.mm_database.specs.FrameLaws.{in_front, FineWhereActive}
use Rattle.mm_database.proofs.Tests.{same_expressions-Decides}
use Rattle.mm_database.proofs.Stacks.{stack_after-complete, stack_after-sound}
use Rattle.mm_database.specs.ComputedFault.{stack_fault, task_fault, statement_fault, fault_or}
use Rattle.mm_database.specs.ComputedFault.{first_fault_in, first_fault}

-- what a stack says about a proof

HasBadStep-stack : (c : Context) (t : Task) → stack_after c t.steps ≡ None → HasBadStep c t
HasBadStep-stack c t none results w =
    let some : stack_after c t.steps ≡ Some results = stack_after-complete c t.steps results w in
    cc

stack-HasBadStep : (c : Context) (t : Task) → HasBadStep c t → stack_after c t.steps ≡ None
stack-HasBadStep c t bad = go (stack_after c t.steps) refl
  where
    go : (o : Option (List Expression)) → stack_after c t.steps ≡ o → o ≡ None
    go None is = refl
    go (Some results) is = absurd (bad results (stack_after-sound c t.steps results is))

same_true : (xs ys : List Expression) → xs ≡ ys → same_expressions xs ys ≡ true
same_true xs ys same = (same_expressions-Decides xs ys).1 same

same_false : (xs ys : List Expression) → (xs ≡ ys → ⊥) → same_expressions xs ys ≡ false
same_false xs ys differ = go (same_expressions xs ys) refl
  where
    go : (b : Bool) → same_expressions xs ys ≡ b → b ≡ false
    go true is = absurd (differ ((same_expressions-Decides xs ys).0 is))
    go false is = refl

-- the stack finds no fault in a proof
stack_fault-proof : (c : Context) (t : Task) → IsProved c t → task_fault c (Some t) ≡ None
stack_fault-proof c t w =
    ap (stack_fault t.conclusion) (stack_after-complete c t.steps (t.conclusion ∷ []) w)
    ∙ rw (same_true (t.conclusion ∷ []) (t.conclusion ∷ []) refl) refl

stack_fault-step : (c : Context) (t : Task) → HasBadStep c t → task_fault c (Some t) ≡ Some bad_step
stack_fault-step c t bad = ap (stack_fault t.conclusion) (stack-HasBadStep c t bad)

stack_fault-conclusion : (c : Context) (t : Task) → HasBadConclusion c t
    → task_fault c (Some t) ≡ Some bad_conclusion
stack_fault-conclusion c t bad =
    ap (stack_fault t.conclusion) (stack_after-complete c t.steps bad.results bad.forms)
    ∙ rw (same_false bad.results (t.conclusion ∷ []) bad.differs) refl

-- what each answer of the stack means
data StackSays (c : Context) (t : Task) : Option ℕ → Type 0 where
  says_proof : IsProved c t → StackSays c t None
  says_step : HasBadStep c t → StackSays c t (Some bad_step)
  says_conclusion : HasBadConclusion c t → StackSays c t (Some bad_conclusion)

stack_says : (c : Context) (t : Task) → StackSays c t (task_fault c (Some t))
stack_says c t = go (stack_after c t.steps) refl
  where
    compared : (stack : List Expression) → stack_after c t.steps ≡ Some stack → (b : Bool)
        → same_expressions stack (t.conclusion ∷ []) ≡ b
        → StackSays c t (if b then None else Some bad_conclusion)
    compared stack is true same =
        let forms : BuildsAndProves c t.steps stack = stack_after-sound c t.steps stack is in
        says_proof (subst (λ (es : List Expression). BuildsAndProves c t.steps es)
        ((same_expressions-Decides stack (t.conclusion ∷ [])).0 same) forms)
    compared stack is false same =
        says_conclusion (record {
          results = stack;
          forms = stack_after-sound c t.steps stack is;
          differs =
              λ e. (let yes : same_expressions stack (t.conclusion ∷ []) ≡ true =
              same_true stack (t.conclusion ∷ []) e in
              cc);
        })

    go : (o : Option (List Expression)) → stack_after c t.steps ≡ o
        → StackSays c t (stack_fault t.conclusion o)
    go None is = says_step (HasBadStep-stack c t is)
    go (Some stack) is = compared stack is (same_expressions stack (t.conclusion ∷ [])) refl

-- the fault of a statement

pub HasNoFault-statement : (c : Context) (tokens : List Token) → statement_fault c tokens ≡ None
    → HasNoFault c tokens
HasNoFault-statement c tokens none =
    go (form_fault c (form_of tokens)) (task c (form_of tokens)) refl refl none
  where
    said : (t : Task) (kind : Option ℕ) → StackSays c t kind → kind ≡ None → IsProved c t
    said t kind (says_proof w) h = w
    said t kind (says_step w) h = absurd (cc)
    said t kind (says_conclusion w) h = absurd (cc)

    go : (kind : Option ℕ) (o : Option Task) → form_fault c (form_of tokens) ≡ kind
        → task c (form_of tokens) ≡ o → or_else kind (task_fault c o) ≡ None → HasNoFault c tokens
    go (Some kind) o form is h = absurd (cc)
    go None None form is h = record { form = form; proof = rw is tt }
    go None (Some t) form is h = record {
      form = form;
      proof = rw is (said t (task_fault c (Some t)) (stack_says c t) h);
    }

pub statement-HasNoFault : (c : Context) (tokens : List Token) → HasNoFault c tokens
    → statement_fault c tokens ≡ None
statement-HasNoFault c tokens w =
    ap (λ k. or_else k (task_fault c (task c (form_of tokens)))) w.form
    ∙ go (task c (form_of tokens)) w.proof
  where
    go : (o : Option Task) → IfSome o (IsProved c) → task_fault c o ≡ None
    go None h = refl
    go (Some t) h = stack_fault-proof c t h

pub IsFaulty-statement : (c : Context) (tokens : List Token) (kind : ℕ)
    → statement_fault c tokens ≡ Some kind → IsFaulty c tokens kind
IsFaulty-statement c tokens kind some =
    go (form_fault c (form_of tokens)) (task c (form_of tokens)) refl refl some
  where
    said : (t : Task) (found : Option ℕ) → StackSays c t found → found ≡ Some kind
        → form_fault c (form_of tokens) ≡ None → task c (form_of tokens) ≡ Some t
        → IsFaulty c tokens kind
    said t found (says_proof w) h form is = absurd (cc)
    said t found (says_step w) h form is =
        let same : bad_step ≡ kind = cc in
        subst (λ (k : ℕ). IsFaulty c tokens k) same (by_step t form is w)
    said t found (says_conclusion w) h form is =
        let same : bad_conclusion ≡ kind = cc in
        subst (λ (k : ℕ). IsFaulty c tokens k) same (by_conclusion t form is w)

    go : (found : Option ℕ) (o : Option Task) → form_fault c (form_of tokens) ≡ found
        → task c (form_of tokens) ≡ o → or_else found (task_fault c o) ≡ Some kind
        → IsFaulty c tokens kind
    go (Some k) o form is h = by_form kind (form ∙ h)
    go None None form is h = absurd (cc)
    go None (Some t) form is h = said t (task_fault c (Some t)) (stack_says c t) h form is

pub statement-IsFaulty : {c : Context} {tokens : List Token} {kind : ℕ} → IsFaulty c tokens kind
    → statement_fault c tokens ≡ Some kind
statement-IsFaulty {c = c} {tokens = tokens} (by_form kind is) =
    ap (λ k. or_else k (task_fault c (task c (form_of tokens)))) is
statement-IsFaulty {c = c} {tokens = tokens} (by_step t form is bad) =
    ap (λ k. or_else k (task_fault c (task c (form_of tokens)))) form ∙ ap (task_fault c) is
    ∙ stack_fault-step c t bad
statement-IsFaulty {c = c} {tokens = tokens} (by_conclusion t form is bad) =
    ap (λ k. or_else k (task_fault c (task c (form_of tokens)))) form ∙ ap (task_fault c) is
    ∙ stack_fault-conclusion c t bad

-- the first fault of a text

some_fault : (kind : Option ℕ) (at : ℕ) (other : Option MmFault) → fault_or kind at other ≡ None
    → (kind ≡ None) × (other ≡ None)
some_fault None at other h = (refl, h)
some_fault (Some kind) at other h = absurd (cc)

all_closed : (blocks : List Block) → option_map (fault bad_scope) (first_open blocks) ≡ None
    → blocks ≡ []
all_closed [] h = refl
all_closed (block ∷ []) h = absurd (cc)
all_closed (block ∷ (outer ∷ blocks)) h =
    let none : outer ∷ blocks ≡ [] = all_closed (outer ∷ blocks) h in
    absurd (cc)

pub HaveNoFault-faultless : (c : Context) (statements : Statements)
    → first_fault_in c statements ≡ None
    → (left : Context) × HaveNoFault c statements left × (left.blocks ≡ [])
HaveNoFault-faultless c no_statement none = (c, refl, all_closed c.blocks none)
HaveNoFault-faultless c (unended at) none = absurd (cc)
HaveNoFault-faultless c (bad_statement f) none = absurd (cc)
HaveNoFault-faultless c (next_statement s statements) none =
    let parts : (statement_fault c s.tokens ≡ None) ×
    (first_fault_in (context_after c s) statements ≡ None) =
    some_fault (statement_fault c s.tokens) s.at (first_fault_in (context_after c s) statements)
    none in
    let behind : (left : Context) × HaveNoFault (context_after c s) statements left ×
    (left.blocks ≡ []) =
    HaveNoFault-faultless (context_after c s) statements parts.1 in
    (behind.0, (HasNoFault-statement c s.tokens parts.0, behind.1), behind.2)

pub faultless-HaveNoFault : (c left : Context) (statements : Statements)
    → HaveNoFault c statements left → left.blocks ≡ [] → first_fault_in c statements ≡ None
faultless-HaveNoFault c left no_statement same closed =
    let here : c.blocks ≡ [] = sym (ap (λ (d : Context). d.blocks) same) ∙ closed in
    ap (λ bs. option_map (fault bad_scope) (first_open bs)) here
faultless-HaveNoFault c left (unended at) h closed = absurd h
faultless-HaveNoFault c left (bad_statement f) h closed = absurd h
faultless-HaveNoFault c left (next_statement s statements) h closed =
    ap (λ k. fault_or k s.at (first_fault_in (context_after c s) statements))
    (statement-HasNoFault c s.tokens h.0)
    ∙ faultless-HaveNoFault (context_after c s) left statements h.1 closed

pub IsFirstFaultIn-computed : (c : Context) (statements : Statements) (f : MmFault)
    → first_fault_in c statements ≡ Some f → IsFirstFaultIn c statements f
IsFirstFaultIn-computed c no_statement f is = go (first_open c.blocks) refl is
  where
    go : (o : Option ℕ) → first_open c.blocks ≡ o → option_map (fault bad_scope) o ≡ Some f
        → (at : ℕ) × (first_open c.blocks ≡ Some at) × (f ≡ fault bad_scope at)
    go None o h = absurd (cc)
    go (Some at) o h = (at, o, cc)
IsFirstFaultIn-computed c (unended at) f is = cc
IsFirstFaultIn-computed c (bad_statement g) f is = cc
IsFirstFaultIn-computed c (next_statement s statements) f is =
    go (statement_fault c s.tokens) refl is
    (IsFirstFaultIn-computed (context_after c s) statements f)
  where
    go : (kind : Option ℕ) → statement_fault c s.tokens ≡ kind
        → fault_or kind s.at (first_fault_in (context_after c s) statements) ≡ Some f
        → (first_fault_in (context_after c s) statements ≡ Some f
        → IsFirstFaultIn (context_after c s) statements f)
        → ((kind : ℕ) × IsFaulty c s.tokens kind × (f ≡ fault kind s.at))
        ⊎ (HasNoFault c s.tokens × IsFirstFaultIn (context_after c s) statements f)
    go None here h behind = inr (HasNoFault-statement c s.tokens here, behind h)
    go (Some kind) here h behind = inl (kind, IsFaulty-statement c s.tokens kind here, cc)

pub computed-IsFirstFaultIn : (c : Context) (statements : Statements) (f : MmFault)
    → IsFirstFaultIn c statements f → first_fault_in c statements ≡ Some f
computed-IsFirstFaultIn c no_statement f (at, open_at, is) =
    ap (option_map (fault bad_scope)) open_at ∙ ap Some (sym is)
computed-IsFirstFaultIn c (unended at) f is = ap Some (sym is)
computed-IsFirstFaultIn c (bad_statement g) f is = ap Some (sym is)
computed-IsFirstFaultIn c (next_statement s statements) f (inl (kind, faulty, is)) =
    ap (λ k. fault_or k s.at (first_fault_in (context_after c s) statements))
    (statement-IsFaulty faulty) ∙ ap Some (sym is)
computed-IsFirstFaultIn c (next_statement s statements) f (inr (fine, behind)) =
    ap (λ k. fault_or k s.at (first_fault_in (context_after c s) statements))
    (statement-HasNoFault c s.tokens fine)
    ∙ computed-IsFirstFaultIn (context_after c s) statements f behind

pub faultless_valid : (bytes : List ℕ) → first_fault bytes ≡ None → IsValid bytes
faultless_valid bytes none =
    let w : (left : Context) × HaveNoFault empty_context (statements_of bytes) left ×
    (left.blocks ≡ []) =
    HaveNoFault-faultless empty_context (statements_of bytes) none in
    record { left = w.0; fine = w.1; closed = w.2 }

pub valid_faultless : (bytes : List ℕ) → IsValid bytes → first_fault bytes ≡ None
valid_faultless bytes w =
    faultless-HaveNoFault empty_context w.left (statements_of bytes) w.fine w.closed

-- each statement of a valid text has no fault at its place
HasNoFault-in_front : (c left : Context) (before : List Statement) (s : Statement)
    (rest : Statements) → HaveNoFault c (in_front before (next_statement s rest)) left
    → HasNoFault (context_after_all c before) s.tokens
HasNoFault-in_front c left [] s rest fine = fine.0
HasNoFault-in_front c left (t ∷ before) s rest fine =
    HasNoFault-in_front (context_after c t) left before s rest fine.1

pub fine_where_active : FineWhereActive
fine_where_active bytes before s rest valid is =
    HasNoFault-in_front empty_context valid.left before s rest
    (subst (λ (ss : Statements). HaveNoFault empty_context ss valid.left) is valid.fine)
