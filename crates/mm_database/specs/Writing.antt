-- Laws on a text that is written statement by statement: the context after it, and which statements
-- may follow.
use Rattle.std.specs.Prelude.{◌≡◌, ℕ, true, false, ◌&&◌, List, [], ◌∷◌, ◌++◌, length}
use Rattle.std.specs.List.{list_all}
use Rattle.mm_text.specs.Bytes.{Token, has_token}
use Rattle.mm_text.specs.Labels.{is_label}
use Rattle.mm_text.specs.PlainTokens.{is_plain_token}
use Rattle.mm_database.specs.Forms.{asserts, form_of}
use Rattle.mm_database.specs.Frames.{Hypothesis, floating, essential, Scope, frame_of}
use Rattle.mm_database.specs.Database.{Context}
use Rattle.mm_database.specs.Proofs.{ProofTree, Proves, postorder}
use Rattle.mm_database.specs.ProofText.{mandatory_labels}
use Rattle.mm_database.specs.Compressing.{is_compressed, all_compressed}
use Rattle.mm_database.specs.ProofTexts.{IsProofText}
use Rattle.mm_database.specs.Validity.{is_typed, is_new_label, HasNoFault, IsValid}
use Rattle.mm_database.specs.FrameLaws.{Adds}
use Rattle.mm_database.specs.StatementTexts.{written_statements, plain_tokens, proof_tokens}
use Rattle.mm_database.specs.CleanTokens.{are_clean}
use Rattle.mm_database.specs.Leaving.{DeclaresInText}

-- such a text is valid
abbrev pub LeavesIsValid : Type 0
LeavesIsValid = (bytes : List ℕ) (c : Context) → DeclaresInText bytes c → IsValid bytes

-- such a text stays one if written statements are appended that have no fault there
abbrev pub ContinuedLeaves : Type 0
ContinuedLeaves =
    (bytes : List ℕ) (c left : Context) (statements : List (List Token)) → DeclaresInText bytes c →
    Adds c (length bytes) statements left → left.blocks ≡ [] →
    DeclaresInText (bytes ++ written_statements statements) left

-- what is required of a `$a` or `$p`: it begins with a constant, its symbols are active, its
-- variables are typed, and its label is new
pub record MayBeStated (c : Context) (label typecode : Token) (symbols : List Token) : Type 0 where
  pub new : is_new_label c label ≡ true
  pub constant : c.constants typecode ≡ true
  pub typed : list_all (is_typed c) (typecode ∷ symbols) ≡ true
  pub clean_label : are_clean (label ∷ []) ≡ true
  pub clean : are_clean (typecode ∷ symbols) ≡ true

-- such a `$a` has no fault
abbrev pub AxiomIsFine : Type 0
AxiomIsFine =
    (c : Context) (label typecode : Token) (symbols : List Token)
    → MayBeStated c label typecode symbols →
    HasNoFault c (plain_tokens (label ∷ []) asserts (typecode ∷ symbols))

-- such a `$p` has no fault either, if its proof is the text of a tree that proves it, and the labels
-- of the tree are well spelled
abbrev pub TheoremIsFine : Type 0
TheoremIsFine =
    (c : Context) (label typecode : Token) (symbols : List Token) (tree : ProofTree)
    (proof : List Token) → MayBeStated c label typecode symbols →
    Proves c tree (typecode ∷ symbols) → list_all is_label (postorder tree) ≡ true →
    IsProofText (mandatory_labels (frame_of c.scope label (typecode ∷ symbols))) tree proof →
    HasNoFault c (proof_tokens (label ∷ []) (typecode ∷ symbols) proof)

-- the tokens of such a proof are plain and have no `$`
abbrev pub ProofTextIsPlain : Type 0
ProofTextIsPlain =
    (mandatory : List Token) (tree : ProofTree) (proof : List Token) →
    list_all is_label (postorder tree) ≡ true → IsProofText mandatory tree proof →
    (list_all is_plain_token proof ≡ true) × (are_clean proof ≡ true)

-- each `$p` of a text without fault that ends with white space, and of written statements after
-- it, has a compressed proof if and only if this is so in the text and in the statements
abbrev pub AppendedCompressed : Type 0
AppendedCompressed =
    (text : List ℕ) (statements : List (List Token)) (c left : Context) → DeclaresInText text c →
    Adds c (length text) statements left →
    all_compressed (text ++ written_statements statements)
    ≡ (all_compressed text && list_all (λ ts. is_compressed (form_of ts)) statements)

-- each of these hypotheses is a `$f` of a variable that does not occur among the symbols
abbrev pub AreUnneeded : List Token → List Hypothesis → Type 0
AreUnneeded symbols [] = Unit {0}
AreUnneeded symbols (floating label typecode variable ∷ hypotheses) =
    (has_token symbols variable ≡ false) × AreUnneeded symbols hypotheses
AreUnneeded symbols (essential label statement ∷ hypotheses) = ⊥

-- if all active hypotheses are such `$f`s, an assertion has no mandatory hypothesis
abbrev pub ClosedHasNone : Type 0
ClosedHasNone =
    (scope : Scope) (label : Token) (symbols : List Token) → AreUnneeded symbols scope.hypotheses →
    (frame_of scope label symbols).hypotheses ≡ []
