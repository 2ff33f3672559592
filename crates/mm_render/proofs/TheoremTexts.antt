-- A theorem as it is written: its front, its proof, and the end of its statement and of its block.
use Rattle.std.proofs.Common.{◌≡◌, ℕ, Bool, true, false, List, [], ◌∷◌, ◌++◌, ap, ◌∙◌, sym}
use Rattle.std.proofs.Common.{append_assoc, append-nil}
use Rattle.std.specs.Prelude.{if◌then◌else◌, codes}
use Rattle.std.proofs.lemmas.Grind.{flat_map-append}
use Rattle.mm_text.specs.Bytes.{Token}
use Rattle.mm_text.specs.Written.{written}
use Rattle.mm_database.specs.ProofTexts.{Compresses}
use Rattle.mm_database.specs.ProofText.{mandatory_labels}
use Rattle.mm_database.specs.StatementTexts.{written_statements}
use Rattle.ml_pat.specs.Patterns.{Pattern}
use Rattle.ml_kernel.specs.Theorems.{Derivation}
use Rattle.mm_proof.specs.Tokens.{own_naming}
use Rattle.mm_proof.specs.Labels.{statement_label}
use Rattle.mm_proof.specs.Derivations.{holds_text}
use Rattle.mm_proof.proofs.WrittenTogether.{written-append}
use Rattle.mm_claims.specs.Blocks.{Claim, head_statements, needs_block, theorem_block}
use Rattle.mm_claims.specs.Blocks.{open_frame, theorem_statements}
use Rattle.mm_claims.specs.Statements.{theorem_statement}
use Rattle.mm_claims.specs.Variables.{Variable, AreNumbered}
use Rattle.mm_claims.specs.OpenVariables.{variables_of}
use Rattle.mm_claims.specs.ClaimVariables.{other_variables}
use Rattle.mm_claims.proofs.OpenVariableLaws.{others_are_enough}
use Rattle.mm_render.specs.declared.places.StatementContext.{StatementContext}
use Rattle.mm_render.specs.Parts.{proof_by}
use Rattle.mm_render.specs.PlaceTable.{found_at, premises_at}
use Rattle.mm_render.specs.ProvedText.{WritesTheorem}
use Rattle.mm_render.specs.TheoremText.{statement_front, theorem_front}

-- three texts that were added to a text
joined : (start a b c f w e : List ℕ) → a ≡ start ++ f → b ≡ a ++ w → c ≡ b ++ e
    → c ≡ start ++ (f ++ (w ++ e))
joined start a b c f w e first second third =
    third
    ∙ ap (λ (t : List ℕ). t ++ e) (second ∙ ap (λ (t : List ℕ). t ++ w) first)
    ∙ append_assoc (start ++ f) w e
    ∙ append_assoc start f (w ++ e)

statement_written : (names : List Token) (k : ℕ) (q : Pattern) (proof : List Token)
    → statement_front names k q ++ (written proof ++ written (codes "$." ∷ []))
    ≡ written (theorem_statement names k q proof)
statement_written names k q proof =
    ap (λ (t : List ℕ). statement_front names k q ++ t)
    (sym (written-append proof (codes "$." ∷ [])))
    ∙ sym (written-append
    (statement_label k ∷ (codes "$p" ∷ (holds_text (own_naming names) q ++ codes "$=" ∷ [])))
    (proof ++ codes "$." ∷ []))
    ∙ ap (λ (ts : List Token). written (statement_label k ∷ (codes "$p" ∷ ts)))
    (append_assoc (holds_text (own_naming names) q) (codes "$=" ∷ []) (proof ++ codes "$." ∷ []))

block_written : (names : List Token) (k : ℕ) (vs : List Variable) (ps : List Pattern) (q : Pattern)
    (proof : List Token)
    → theorem_front names k vs ps q
    ++ (written proof ++ written (codes "$." ∷ (codes "$}" ∷ [])))
    ≡ written_statements ((codes "${" ∷ []) ∷ ((head_statements names k vs ps
    ++ theorem_statement names k q proof ∷ []) ++ (codes "$}" ∷ []) ∷ []))
block_written names k vs ps q proof =
    let head : List (List Token) = head_statements names k vs ps in
    let front : List ℕ = written_statements ((codes "${" ∷ []) ∷ head) in
    let stated : List ℕ = statement_front names k q in
    let steps : List ℕ = written proof in
    let stop : List ℕ = written (codes "$." ∷ []) in
    let close : List ℕ = written (codes "$}" ∷ []) in
    let whole : List Token = theorem_statement names k q proof in
    ap (λ (t : List ℕ). (front ++ stated) ++ (steps ++ t))
    (written-append (codes "$." ∷ []) (codes "$}" ∷ []))
    ∙ ap (λ (t : List ℕ). (front ++ stated) ++ t) (sym (append_assoc steps stop close))
    ∙ append_assoc front stated ((steps ++ stop) ++ close)
    ∙ ap (λ (t : List ℕ). front ++ t) (sym (append_assoc stated (steps ++ stop) close))
    ∙ ap (λ (t : List ℕ). front ++ (t ++ close)) (statement_written names k q proof)
    ∙ ap (λ (t : List ℕ). front ++ (written whole ++ t)) (sym (append-nil close))
    ∙ sym (flat_map-append written ((codes "${" ∷ []) ∷ head)
    (whole ∷ ((codes "$}" ∷ []) ∷ [])))
    ∙ ap (λ (sts : List (List Token)). written_statements ((codes "${" ∷ []) ∷ sts))
    (sym (append_assoc head (whole ∷ []) ((codes "$}" ∷ []) ∷ [])))

-- without a block
pub plain_theorem_written : (names : List Token) (k : ℕ) (s : Claim) (more : List Variable)
    (proof : List Token) (start a b c : List ℕ)
    → needs_block (s.variables ++ more) s.hypotheses ≡ false
    → a ≡ start ++ statement_front names k s.conclusion → b ≡ a ++ written proof
    → c ≡ b ++ written (codes "$." ∷ [])
    → c ≡ start ++ written_statements (theorem_statements names k s more proof)
plain_theorem_written names k s more proof start a b c none first second third =
    joined start a b c (statement_front names k s.conclusion) (written proof)
    (written (codes "$." ∷ [])) first second third
    ∙ ap (λ (t : List ℕ). start ++ t)
    (statement_written names k s.conclusion proof
    ∙ sym (append-nil (written (theorem_statement names k s.conclusion proof))))
    ∙ ap (λ (b : Bool). start ++ written_statements (if b then theorem_block names k s more proof
    else (theorem_statement names k s.conclusion proof ∷ []))) (sym none)

-- in its block
pub block_theorem_written : (names : List Token) (k : ℕ) (s : Claim) (more : List Variable)
    (proof : List Token) (start a b c : List ℕ)
    → needs_block (s.variables ++ more) s.hypotheses ≡ true
    → a ≡ start ++ theorem_front names k (s.variables ++ more) s.hypotheses s.conclusion
    → b ≡ a ++ written proof → c ≡ b ++ written (codes "$." ∷ (codes "$}" ∷ []))
    → c ≡ start ++ written_statements (theorem_statements names k s more proof)
block_theorem_written names k s more proof start a b c needed first second third =
    joined start a b c
    (theorem_front names k (s.variables ++ more) s.hypotheses s.conclusion) (written proof)
    (written (codes "$." ∷ (codes "$}" ∷ []))) first second third
    ∙ ap (λ (t : List ℕ). start ++ t)
    (block_written names k (s.variables ++ more) s.hypotheses s.conclusion proof)
    ∙ ap (λ (b : Bool). start ++ written_statements (if b then theorem_block names k s more proof
    else (theorem_statement names k s.conclusion proof ∷ []))) (sym needed)

-- the block has all variables that the derivation needs
pub written_theorem : (at : StatementContext) (s : Claim) (d : Derivation) (proof : List Token)
    (text text' : List ℕ) → AreNumbered (variables_of (found_at at) d)
    → Compresses (mandatory_labels (open_frame at.names.now at.serial s))
    (proof_by at.serial at d) proof
    → text' ≡ text ++ written_statements (theorem_statements at.names.now at.serial s
    (other_variables s.variables (variables_of (found_at at) d)) proof)
    → WritesTheorem at.names.now at.serial (found_at at) (premises_at at) s d text text'
written_theorem at s d proof text text' numbered proves appended = record {
  more = other_variables s.variables (variables_of (found_at at) d);
  proof = proof;
  needed =
      λ once small. others_are_enough s.variables (variables_of (found_at at) d) once small
      numbered;
  proves = proves;
  appended = appended;
}
