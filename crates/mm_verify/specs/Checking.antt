-- What checking one statement does and returns.
use Rattle.std.specs.Prelude.{◌≡◌, ℕ, List, map, option_map, Option, Some, None, Result, Ok, Err}
use Rattle.mm_text.specs.Statements.{Statement}
use Rattle.mm_database.specs.Forms.{Keyword, asserts, proves, Form, block_start, block_end, plain}
use Rattle.mm_database.specs.Forms.{form_of}
use Rattle.mm_database.specs.Database.{Context, context_after}
use Rattle.mm_database.specs.Validity.{declaration_fault}
use Rattle.mm_database.specs.Orderly.{IsOrderly}
use Rattle.mm_scope.specs.Proposing.{IsProposed}
use Rattle.mm_scope.specs.declared.theorem.Theorem.{Theorem}
use Rattle.mm_scope.specs.AddedView.{form_added}
use Rattle.mm_scope.specs.declared.declare.Added.{Added}
use Rattle.mm_scope.specs.ScopeState.{scope_state}
use Rattle.mm_scope.specs.Standing.{Stands}
use Rattle.mm_verify.specs.declared.checker.Checker.{Checker}
use Rattle.mm_verify.specs.declared.ends.Stated.{Stated}
use Rattle.mm_verify.specs.declared.ends.Stated.TheVariants as stated
use Rattle.mm_verify.specs.declared.ends.VerifyEnd.{VerifyEnd}
use Rattle.mm_verify.specs.declared.ends.VerifyEnd.TheVariants.{Invalid, Memory}
use Rattle.mm_verify.specs.StoredView.{stored_frame}
use Rattle.mm_database.specs.ComputedFault.{statement_fault}

abbrev pub HasFrames : Checker → Type 0
HasFrames k = map stored_frame k.assertions.items ≡ (scope_state k.scopes).frames

-- the checker stands for what statements have declared
pub record IsBehind (k : Checker) (c : Context) : Type 0 where
  pub stands : Stands (scope_state k.scopes) c
  pub orderly : IsOrderly c
  pub frames : HasFrames k

abbrev pub keyword_stated : Keyword → Stated
keyword_stated asserts = stated.Axiom
keyword_stated proves = stated.Theorem
keyword_stated keyword = stated.Nothing

-- whether a statement of a form is a `$a` or a `$p`
abbrev pub form_stated : Option Form → Stated
form_stated None = stated.Nothing
form_stated (Some block_start) = stated.Nothing
form_stated (Some block_end) = stated.Nothing
form_stated (Some (plain labels keyword symbols proof)) = keyword_stated keyword

-- a faultless statement is taken: the checker then stands for the context after it; else its fault
-- is returned
abbrev pub Checks : Context → Statement → Checker → Result Stated VerifyEnd → Type 0
Checks c s new (Ok a) = (statement_fault c s.tokens ≡ None) × IsBehind new (context_after c s)
    × (a ≡ form_stated (form_of s.tokens))
Checks c s new (Err (Invalid f)) = (statement_fault c s.tokens ≡ Some f.kind) × (f.at ≡ s.at)
Checks c s new (Err Memory) = Unit {0}

-- the same for what a statement declares, without its proof
abbrev pub Declares : Context → Statement → Checker → Result Added VerifyEnd → Type 0
Declares c s new (Ok a) = (declaration_fault c (form_of s.tokens) ≡ None)
    × Stands (scope_state new.scopes) (context_after c s) × HasFrames new
    × (option_map form_added (form_of s.tokens) ≡ Some a)
Declares c s new (Err (Invalid f)) =
    (declaration_fault c (form_of s.tokens) ≡ Some f.kind) × (f.at ≡ s.at)
Declares c s new (Err Memory) = Unit {0}

-- a theorem is added as it was proposed
abbrev pub Adds : Checker → Theorem → Checker → Type 0
Adds old t new =
    HasFrames new
    × ((bytes : List ℕ) (c : Context) (s : Statement) → Stands (scope_state old.scopes) c
    → IsProposed bytes (scope_state old.scopes) c s t
    → Stands (scope_state new.scopes) (context_after c s))
