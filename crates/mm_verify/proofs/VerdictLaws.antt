-- The verdict on a database, one statement after another.
use Rattle.std.proofs.Common.{◌≡◌, ℕ, ◌+◌, ◌<◌, ◌≤◌, Bool, List, [], ◌∷◌, Option, Some, None, cond}
use Rattle.std.proofs.Common.{refl, ap, sym, ◌∙◌, subst, arith}
use Rattle.std.specs.List.{fold}
use Rattle.std.specs.Prelude.{not, count_by, Result, Ok, Err, option_map}
use Rattle.mm_text.specs.Statements.{Statements, no_statement, unended, bad_statement}
use Rattle.mm_text.specs.Statements.{next_statement, statements_of}
use Rattle.mm_text.specs.FaultKinds.{bad_scope, fault}
use Rattle.mm_text.specs.Reader.{statements_left, statement_of}
use Rattle.mm_text.specs.declared.tokens.MmTokens.{MmTokens}
use Rattle.mm_text.specs.declared.tokens.MmToken.{MmToken}
use Rattle.mm_text.specs.declared.fault.MmFault.{MmFault}
use Rattle.mm_database.specs.Forms.{declares_constants, declares_variables, types_variable, assumes}
use Rattle.mm_database.specs.Forms.{separates, asserts, proves, Form, block_start, block_end, plain}
use Rattle.mm_database.specs.Forms.{form_of}
use Rattle.mm_database.specs.Database.{Context, empty_context, context_after}
use Rattle.mm_database.specs.Assertions.{Assertion, form_assertion, with_assertion_first}
use Rattle.mm_database.specs.Assertions.{assertions_in, axiom_count, theorem_count}
use Rattle.mm_database.specs.Validity.{first_open}
use Rattle.mm_verify.specs.declared.checker.Checker.{Checker}
use Rattle.mm_verify.specs.declared.ends.Report.{Report}
use Rattle.mm_verify.specs.declared.ends.Stated.{Stated}
use Rattle.mm_verify.specs.declared.ends.Stated.TheVariants as stated
use Rattle.mm_verify.specs.declared.ends.VerifyEnd.{VerifyEnd}
use Rattle.mm_verify.specs.declared.ends.VerifyEnd.TheVariants.{Invalid, Memory}
use Rattle.mm_verify.specs.Checking.{IsBehind, form_stated, Checks}
use Rattle.mm_verify.specs.Counting.{axioms_with, theorems_with, unended_at, end_at_open}
use Rattle.mm_verify.specs.Counting.{end_of_open}
use Rattle.mm_verify.specs.Verifying.{Finds}
use Rattle.mm_database.specs.ComputedFault.{fault_or, first_fault_in, first_fault}

abbrev axioms_among : List Assertion → ℕ
axioms_among xs = count_by (λ a. not a.is_proved) xs

abbrev theorems_among : List Assertion → ℕ
theorems_among xs = count_by (λ a. a.is_proved) xs

-- the statements before a place have no fault; the checker has taken them, and they are counted
pub record IsAt (bytes : List ℕ) (reader : MmTokens) (k : Checker) (r : Report) : Type 0 where
  pub text : reader.bytes.now ≡ bytes
  pub context : Context
  pub behind : IsBehind k context
  pub rest : first_fault_in context (statements_left reader) ≡ first_fault bytes
  pub axioms : r.axioms + axioms_among (assertions_in context (statements_left reader))
      ≡ axiom_count bytes
  pub theorems : r.theorems + theorems_among (assertions_in context (statements_left reader))
      ≡ theorem_count bytes
  pub few : r.axioms + r.theorems ≤ reader.at

pub at_start : (bytes : List ℕ) (reader : MmTokens) (k : Checker) (r : Report)
    → reader.bytes.now ≡ bytes → statements_left reader ≡ statements_of bytes
    → IsBehind k empty_context → r.axioms ≡ 0 → r.theorems ≡ 0 → IsAt bytes reader k r
at_start bytes reader k r text all behind a t = record {
  text = text;
  context = empty_context;
  behind = behind;
  rest = ap (first_fault_in empty_context) all;
  axioms = ap (λ (n : ℕ). n + axioms_among (assertions_in empty_context (statements_left reader))) a
      ∙ ap (λ (s : Statements). 0 + axioms_among (assertions_in empty_context s)) all ∙ omega arith;
  theorems =
      ap (λ (n : ℕ). n + theorems_among (assertions_in empty_context (statements_left reader))) t
      ∙ ap (λ (s : Statements). 0 + theorems_among (assertions_in empty_context s)) all
      ∙ omega arith;
  few = omega (arith, a, t);
}

-- a count that begins at a number
counted-first : (p : Assertion → Bool) (n : ℕ) (xs : List Assertion)
    → fold (λ m x. m + cond (p x) 1 0) n xs ≡ n + count_by p xs
counted-first p n [] = omega arith
counted-first p n (x ∷ xs) =
    counted-first p (n + cond (p x) 1 0) xs
    ∙ (let more = counted-first p (0 + cond (p x) 1 0) xs in omega (arith, more))

counted-axiom : (c : Context) (o : Option Form) (xs : List Assertion) (n : ℕ)
    → axioms_with n (form_stated o) + axioms_among xs
    ≡ n + axioms_among (with_assertion_first (form_assertion c o) xs)
counted-axiom c None xs n = refl
counted-axiom c (Some block_start) xs n = refl
counted-axiom c (Some block_end) xs n = refl
counted-axiom c (Some (plain ls declares_constants ss ws)) xs n = refl
counted-axiom c (Some (plain ls declares_variables ss ws)) xs n = refl
counted-axiom c (Some (plain ls types_variable ss ws)) xs n = refl
counted-axiom c (Some (plain ls assumes ss ws)) xs n = refl
counted-axiom c (Some (plain ls separates ss ws)) xs n = refl
counted-axiom c (Some (plain ls asserts ss ws)) xs n =
    omega (arith, counted-first (λ (a : Assertion). not a.is_proved) 1 xs)
counted-axiom c (Some (plain ls proves ss ws)) xs n = refl

counted-theorem : (c : Context) (o : Option Form) (xs : List Assertion) (n : ℕ)
    → theorems_with n (form_stated o) + theorems_among xs
    ≡ n + theorems_among (with_assertion_first (form_assertion c o) xs)
counted-theorem c None xs n = refl
counted-theorem c (Some block_start) xs n = refl
counted-theorem c (Some block_end) xs n = refl
counted-theorem c (Some (plain ls declares_constants ss ws)) xs n = refl
counted-theorem c (Some (plain ls declares_variables ss ws)) xs n = refl
counted-theorem c (Some (plain ls types_variable ss ws)) xs n = refl
counted-theorem c (Some (plain ls assumes ss ws)) xs n = refl
counted-theorem c (Some (plain ls separates ss ws)) xs n = refl
counted-theorem c (Some (plain ls asserts ss ws)) xs n = refl
counted-theorem c (Some (plain ls proves ss ws)) xs n =
    omega (arith, counted-first (λ (a : Assertion). a.is_proved) 1 xs)

one-more : (a t : ℕ) (s : Stated) → axioms_with a s + theorems_with t s ≤ a + t + 1
one-more a t stated.Axiom = omega arith
one-more a t stated.Theorem = omega arith
one-more a t stated.Nothing = omega arith

pub at_next : (bytes : List ℕ) (old new : MmTokens) (k k' : Checker) (r r' : Report)
    (tokens : List MmToken) (a : Stated) → IsAt bytes old k r → new.bytes.now ≡ old.bytes.now
    → statements_left old ≡ next_statement (statement_of old.bytes.now tokens) (statements_left new)
    → old.at < new.at
    → ((c : Context) → IsBehind k c → Checks c (statement_of bytes tokens) k' (Ok a))
    → r'.axioms ≡ axioms_with r.axioms a → r'.theorems ≡ theorems_with r.theorems a
    → IsAt bytes new k' r'
at_next bytes old new k k' r r' tokens a at text found past checks ra rt =
    let s = statement_of bytes tokens in
    let c = at.context in
    let checked = checks c at.behind in
    let left : statements_left old ≡ next_statement s (statements_left new) =
    found
    ∙ ap (λ (b : List ℕ). next_statement (statement_of b tokens) (statements_left new))
    at.text in
    let xs = assertions_in (context_after c s) (statements_left new) in
    let is : a ≡ form_stated (form_of s.tokens) = checked.2 in
    record {
      text = text ∙ at.text;
      context = context_after c s;
      behind = checked.1;
      rest =
          sym (ap (first_fault_in
          c) left ∙ ap (λ (o : Option ℕ). fault_or o s.at
          (first_fault_in (context_after c s) (statements_left new))) checked.0)
          ∙ at.rest;
      axioms = ap (λ (n : ℕ). n + axioms_among xs) (ra ∙ ap (axioms_with r.axioms) is)
          ∙ counted-axiom c (form_of s.tokens) xs r.axioms
          ∙ ap (λ (ss : Statements). r.axioms + axioms_among (assertions_in c ss)) (sym left)
          ∙ at.axioms;
      theorems = ap (λ (n : ℕ). n + theorems_among xs) (rt ∙ ap (theorems_with r.theorems) is)
          ∙ counted-theorem c (form_of s.tokens) xs r.theorems
          ∙ ap (λ (ss : Statements). r.theorems + theorems_among (assertions_in c ss)) (sym left)
          ∙ at.theorems;
      few = let more = one-more r.axioms r.theorems a in omega (arith, more, ra, rt, at.few, past);
    }

-- the ends

pub found_bad : (bytes : List ℕ) (old : MmTokens) (k : Checker) (r : Report) (f : MmFault)
    → IsAt bytes old k r → statements_left old ≡ bad_statement f → Finds bytes (Err (Invalid f))
found_bad bytes old k r f at found = sym at.rest ∙ ap (first_fault_in at.context) found

pub found_unended : (bytes : List ℕ) (old : MmTokens) (k : Checker) (r : Report) (p : ℕ)
    (v : VerifyEnd) → IsAt bytes old k r → statements_left old ≡ unended p → v ≡ unended_at p
    → Finds bytes (Err v)
found_unended bytes old k r p v at found is =
    subst (λ (x : VerifyEnd). Finds bytes (Err x)) (sym is)
    (sym at.rest ∙ ap (first_fault_in at.context) found)

pub found_end : (bytes : List ℕ) (old : MmTokens) (k : Checker) (r : Report)
    (result : Result Report VerifyEnd) → IsAt bytes old k r → statements_left old ≡ no_statement
    → ((c : Context) → IsBehind k c → result ≡ end_of_open c.blocks r) → Finds bytes result
found_end bytes old k r result at found ends =
    subst (Finds bytes) (sym (ends at.context at.behind)) (go (first_open at.context.blocks) refl)
  where
    none : axioms_among (assertions_in at.context (statements_left old)) ≡ 0
    none = ap (λ (ss : Statements). axioms_among (assertions_in at.context ss)) found

    none' : theorems_among (assertions_in at.context (statements_left old)) ≡ 0
    none' = ap (λ (ss : Statements). theorems_among (assertions_in at.context ss)) found

    go : (o : Option ℕ) → first_open at.context.blocks ≡ o → Finds bytes (end_at_open o r)
    go None e = (
      sym at.rest ∙ ap (first_fault_in at.context) found
          ∙ ap (option_map (fault bad_scope)) e,
      omega (arith, at.axioms, none),
      omega (arith, at.theorems, none'),
    )
    go (Some p) e =
        sym at.rest ∙ ap (first_fault_in at.context) found ∙ ap (option_map (fault bad_scope)) e

pub found_fault : (bytes : List ℕ) (old new : MmTokens) (k k' : Checker) (r : Report)
    (tokens : List MmToken) (v : VerifyEnd) → IsAt bytes old k r
    → statements_left old ≡ next_statement (statement_of old.bytes.now tokens) (statements_left new)
    → ((c : Context) → IsBehind k c → Checks c (statement_of bytes tokens) k' (Err v))
    → Finds bytes (Err v)
found_fault bytes old new k k' r tokens Memory at found checks = tt
found_fault bytes old new k k' r tokens (Invalid f) at found checks =
    let s = statement_of bytes tokens in
    let c = at.context in
    let checked = checks c at.behind in
    let left : statements_left old ≡ next_statement s (statements_left new) =
    found
    ∙ ap (λ (b : List ℕ). next_statement (statement_of b tokens) (statements_left new))
    at.text in
    sym at.rest ∙ ap (first_fault_in c) left
    ∙ ap (λ (o : Option ℕ).
    fault_or o s.at (first_fault_in (context_after c s) (statements_left new))) checked.0
    ∙ ap (λ (n : ℕ). Some (fault f.kind n)) (sym checked.1)
