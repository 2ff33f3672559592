-- Laws on the faults of statements.
use Rattle.std.proofs.Common.{◌≡◌, ℕ, false, List, Option, Some, None, refl, ap, sym, ◌∙◌, subst}
use Rattle.std.specs.Prelude.{option_map, Result, Ok, Err, IfOk, IfErr}
use Rattle.mm_text.specs.Bytes.{Token}
use Rattle.mm_text.specs.Statements.{Statement}
use Rattle.mm_text.specs.Reader.{words_of}
use Rattle.mm_database.specs.Forms.{declares_constants, declares_variables, types_variable, assumes}
use Rattle.mm_database.specs.Forms.{separates, asserts, proves, Form, block_start, block_end, plain}
use Rattle.mm_database.specs.Forms.{form_of}
use Rattle.mm_database.specs.Frames.{frame_of}
use Rattle.mm_database.specs.Database.{Context, first_label}
use Rattle.mm_database.specs.Validity.{or_else, task, declaration_fault, proof_text_fault}
use Rattle.mm_database.specs.FrameLaws.{FaultlessIsFine}
use Rattle.mm_database.specs.Orderly.{IsOrderly, OrderlyAfter}
use Rattle.mm_frame.specs.PlainFrames.{plain_frame}
use Rattle.mm_scope.specs.ScopeState.{ScopeState, scope_state}
use Rattle.mm_frame.specs.NeededNumbers.{is_needed_number, is_mandatory_number}
use Rattle.mm_scope.specs.Standing.{Stands}
use Rattle.mm_scope.specs.StandingLaws.{place_of, NamingExists}
use Rattle.mm_scope.specs.TakesStatement.{TakesStatement}
use Rattle.mm_scope.specs.Proposing.{is_theorem, IsProposed, Proposes}
use Rattle.mm_scope.specs.AddedView.{form_added}
use Rattle.mm_scope.specs.declared.theorem.Theorem.{Theorem}
use Rattle.mm_scope.specs.declared.declare.Added.{Added}
use Rattle.mm_scope.specs.declared.declare.FrameEnd.{FrameEnd}
use Rattle.mm_scope.specs.declared.declare.FrameEnd.TheVariants as frame
use Rattle.mm_verify.specs.declared.checker.Checker.{Checker}
use Rattle.mm_verify.specs.declared.ends.Stated.{Stated}
use Rattle.mm_verify.specs.declared.ends.Stated.TheVariants as stated
use Rattle.mm_verify.specs.declared.ends.VerifyEnd.{VerifyEnd}
use Rattle.mm_verify.specs.declared.ends.VerifyEnd.TheVariants.{Invalid, Memory}
use Rattle.mm_verify.specs.ProofSteps.{steps_named}
use Rattle.mm_verify.specs.Judging.{proof_kind}
use Rattle.mm_verify.specs.Stating.{stated_for, end_for}
use Rattle.mm_verify.specs.Checking.{form_stated, IsBehind, Checks, Declares, Adds}
use Rattle.mm_verify.proofs.KindsNamed.{Laws, kind-named}
use Rattle.mm_database.specs.ComputedFault.{task_fault, statement_fault}

declared-fault : (c : Context) (tokens : List Token) (kind : ℕ)
    → declaration_fault c (form_of tokens) ≡ Some kind → statement_fault c tokens ≡ Some kind
declared-fault c tokens kind e =
    ap (λ (o : Option ℕ). or_else (or_else o (proof_text_fault c (form_of tokens)))
    (task_fault c (task c (form_of tokens)))) e

or-none : (o : Option ℕ) → or_else (or_else o None) None ≡ o
or-none None = refl
or-none (Some k) = refl

not-theorem : (c : Context) (tokens : List Token) → is_theorem (form_of tokens) ≡ false
    → statement_fault c tokens ≡ declaration_fault c (form_of tokens)
not-theorem c tokens e = go (form_of tokens) e
  where
    go : (o : Option Form) → is_theorem o ≡ false
        → or_else (or_else (declaration_fault c o) (proof_text_fault c o)) (task_fault c (task c o))
        ≡ declaration_fault c o
    go None e = refl
    go (Some block_start) e = refl
    go (Some block_end) e = or-none (declaration_fault c (Some block_end))
    go (Some (plain ls declares_constants ss ws)) e =
        or-none (declaration_fault c (Some (plain ls declares_constants ss ws)))
    go (Some (plain ls declares_variables ss ws)) e =
        or-none (declaration_fault c (Some (plain ls declares_variables ss ws)))
    go (Some (plain ls types_variable ss ws)) e =
        or-none (declaration_fault c (Some (plain ls types_variable ss ws)))
    go (Some (plain ls assumes ss ws)) e =
        or-none (declaration_fault c (Some (plain ls assumes ss ws)))
    go (Some (plain ls separates ss ws)) e =
        or-none (declaration_fault c (Some (plain ls separates ss ws)))
    go (Some (plain ls asserts ss ws)) e =
        or-none (declaration_fault c (Some (plain ls asserts ss ws)))
    go (Some (plain ls proves ss ws)) e = absurd (cc)

-- the fault of a theorem is that of its proof
pub theorem-kind : Laws → NamingExists
    → (h : ScopeState) (c : Context) (bytes : List ℕ) (s : Statement) (t : Theorem) → Stands h c
    → IsOrderly c → IsProposed bytes h c s t
    → statement_fault c s.tokens
    ≡ proof_kind (place_of h) (plain_frame t.frame).statement
    (steps_named h (plain_frame t.frame).hypotheses (words_of bytes t.proof.now))
theorem-kind laws exists h c bytes s t stands orderly p =
    let name = exists h c stands in
    let f = frame_of c.scope (first_label p.labels) p.symbols in
    let words = words_of bytes t.proof.now in
    ap (λ (o : Option ℕ). or_else (or_else o (proof_text_fault c (form_of s.tokens)))
    (task_fault c (task c (form_of s.tokens)))) p.well
    ∙ ap (λ (o : Option Form).
    or_else (or_else None (proof_text_fault c o)) (task_fault c (task c o))) p.form
    ∙ kind-named laws h c name.name stands orderly name.naming name.names (plain_frame t.frame) f
    (p.frame name.name name.naming name.names)
    (is_mandatory_number (is_needed_number h.hypotheses p.stated.symbols))
    p.scope_state.hypotheses words

pub proof_refused : (bytes : List ℕ) (h : ScopeState) (c : Context) (s : Statement) (k : Checker)
    (end : FrameEnd) (v : VerifyEnd) → Proposes bytes h c s (Err end) → v ≡ end_for end
    → Checks c s k (Err v)
proof_refused bytes h c s k (frame.Fault f) v p is =
    subst (λ (x : VerifyEnd). Checks c s k (Err x)) (sym is)
    (declared-fault c s.tokens f.kind p.0, p.1)
proof_refused bytes h c s k frame.Memory v p is =
    subst (λ (x : VerifyEnd). Checks c s k (Err x)) (sym is) tt

-- what was proposed was a theorem
pub is-stated : (bytes : List ℕ) (h : ScopeState) (c : Context) (s : Statement) (t : Theorem)
    → IsProposed bytes h c s t → form_stated (form_of s.tokens) ≡ stated.Theorem
is-stated bytes h c s t p = ap form_stated p.form

-- a statement that is declared, and is no theorem with a fault, is checked
same : (x a : Added) → Some x ≡ Some a → x ≡ a
same x a e = cc

stated-is : (o : Option Form) (a : Added) → is_theorem o ≡ false → option_map form_added o ≡ Some a
    → stated_for a ≡ form_stated o
stated-is None a e k = absurd (cc)
stated-is (Some block_start) a e k = sym (ap stated_for (same _ a k))
stated-is (Some block_end) a e k = sym (ap stated_for (same _ a k))
stated-is (Some (plain ls declares_constants ss ws)) a e k = sym (ap stated_for (same _ a k))
stated-is (Some (plain ls declares_variables ss ws)) a e k = sym (ap stated_for (same _ a k))
stated-is (Some (plain ls types_variable ss ws)) a e k = sym (ap stated_for (same _ a k))
stated-is (Some (plain ls assumes ss ws)) a e k = sym (ap stated_for (same _ a k))
stated-is (Some (plain ls separates ss ws)) a e k = sym (ap stated_for (same _ a k))
stated-is (Some (plain ls asserts ss ws)) a e k = sym (ap stated_for (same _ a k))
stated-is (Some (plain ls proves ss ws)) a e k = absurd (cc)

pub declared_is : FaultlessIsFine → OrderlyAfter
    → (c : Context) (s : Statement) (a : Added) (new : Checker) (v : Stated) → IsOrderly c
    → is_theorem (form_of s.tokens) ≡ false → Declares c s new (Ok a) → v ≡ stated_for a
    → Checks c s new (Ok v)
declared_is fine after c s a new v orderly p d is =
    let none = not-theorem c s.tokens p ∙ d.0 in (
      none,
      record {
        stands = d.1;
        orderly = after c s orderly (fine c s.tokens none);
        frames = d.2;
      },
      is ∙ stated-is (form_of s.tokens) a p d.3,
    )

pub declared_refused : (c : Context) (s : Statement) (new : Checker) (v : VerifyEnd)
    → is_theorem (form_of s.tokens) ≡ false → Declares c s new (Err v) → Checks c s new (Err v)
declared_refused c s new Memory p d = tt
declared_refused c s new (Invalid f) p d = (not-theorem c s.tokens p ∙ d.0, d.1)

-- a theorem whose proof has no fault, and that is added
pub theorem_checked : FaultlessIsFine → OrderlyAfter
    → (bytes : List ℕ) (old : Checker) (c : Context) (s : Statement) (t : Theorem) (new : Checker)
    (r : Result Stated VerifyEnd) → IsBehind old c
    → IsProposed bytes (scope_state old.scopes) c s t → statement_fault c s.tokens ≡ None
    → IfOk r (λ a. a ≡ stated.Theorem) → IfOk r (λ x. Adds old t new) → IfErr r (λ e. e ≡ Memory)
    → Checks c s new r
theorem_checked fine after bytes old c s t new (Ok a) behind p none stated adds memory = (
  none,
  record {
    stands = adds.1 bytes c s behind.stands p;
    orderly = after c s behind.orderly (fine c s.tokens none);
    frames = adds.0;
  },
  stated
      ∙ sym (is-stated bytes (scope_state old.scopes) c s t p),
)
theorem_checked fine after bytes old c s t new (Err Memory) behind p none stated adds memory = tt
theorem_checked fine after bytes old c s t new (Err (Invalid f)) behind p none stated adds memory =
    absurd (let e = memory in let z : ⊥ = cc in z)

pub declare_refused : (c : Context) (s : Statement) (old new : ScopeState) (k : Checker)
    (end : FrameEnd) (v : VerifyEnd) → TakesStatement c s old new (Err end) → v ≡ end_for end
    → Declares c s k (Err v)
declare_refused c s old new k (frame.Fault f) v p is =
    subst (λ (x : VerifyEnd). Declares c s k (Err x)) (sym is) (p.0, p.1)
declare_refused c s old new k frame.Memory v p is =
    subst (λ (x : VerifyEnd). Declares c s k (Err x)) (sym is) tt
