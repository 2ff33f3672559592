-- What a database must have declared at the place of a proof.
use Rattle.std.specs.Prelude.{◌≡◌, ◌==◌, ℕ, true, false, List, [], ◌∷◌, map, Some, None, codes}
use Rattle.mm_text.specs.Bytes.{Token}
use Rattle.mm_database.specs.Frames.{floating, Frame}
use Rattle.mm_database.specs.Database.{Context}
use Rattle.mm_database.specs.Proofs.{active_hypothesis, symbols_apart}
use Rattle.mm_header.specs.HeaderContext.{header_context}
use Rattle.mm_proof.specs.Tokens.{Naming}
use Rattle.mm_proof.specs.ClosedFrames.{closed_frame}
use Rattle.ml_pat.specs.Leaves.{LeafFacts}

-- an assertion has the label, and no active hypothesis has it
pub record IsAssertion (c : Context) (label : Token) (f : Frame) : Type 0 where
  pub kept : c.frames label ≡ Some f
  pub no_hypothesis : active_hypothesis c label ≡ None

-- each row of the header is there
abbrev pub HasHeader : Context → Type 0
HasHeader c =
    (label : Token) (f : Frame) → header_context.frames label ≡ Some f → IsAssertion c label f

-- the label declares that the constant has the type, by an assertion without hypotheses
pub record Declares (c : Context) (typecode label token : Token) : Type 0 where
  pub stated : IsAssertion c label (closed_frame label (typecode ∷ (token ∷ [])))
  pub constant : c.variables token ≡ false

-- the label types the variable
abbrev pub Types : Context → Token → Token → Token → Type 0
Types c typecode label token = active_hypothesis c label ≡ Some (floating label typecode token)

-- the constants of the header that occur in patterns and judgements
abbrev pub punctuation : List Token
punctuation =
    codes "(" ∷ codes ")" ∷ codes "\\bot" ∷ codes "\\top" ∷ codes "\\imp" ∷ codes "\\not"
    ∷ codes "\\and" ∷ codes "\\or" ∷
    codes "\\eq" ∷ codes "\\mem" ∷ codes "\\fun" ∷ codes "\\ex" ∷ codes "\\all" ∷ codes "\\app"
    ∷ codes "\\at" ∷ codes "\\next" ∷ codes "\\ev" ∷
    codes "#Pattern" ∷ codes "#Fresh" ∷ codes "#Sub" ∷ codes "#Pred" ∷ codes "|-" ∷ []

-- At the place of a proof, the header is there, and each known leaf is declared by its label. Two
-- different object variables have to stay apart. So do an object variable and a pattern variable.
pub record Serves (c : Context) (labels naming : Naming) (known : LeafFacts) : Type 0 where
  pub header : HasHeader c
  pub fixed : map c.variables punctuation ≡ map (λ t. false) punctuation
  pub sort : (i : ℕ) → known.sort i → Declares c (codes "#Sort") (labels.sort i) (naming.sort i)
  pub constant : (i : ℕ) → known.constant i
      → Declares c (codes "#Pattern") (labels.constant i) (naming.constant i)
  pub object : (x : ℕ) → known.object x → Types c (codes "#Var") (labels.object x) (naming.object x)
  pub meta : (i : ℕ) → known.meta i → Types c (codes "#Pattern") (labels.meta i) (naming.meta i)
  pub objects_apart : (x y : ℕ) → known.object x → known.object y → (x == y) ≡ false
      → symbols_apart c (naming.object x) (naming.object y) ≡ true
  pub meta_apart : (x i : ℕ) → known.object x → known.meta i
      → symbols_apart c (naming.object x) (naming.meta i) ≡ true
  pub apart_meta : (x i : ℕ) → known.object x → known.meta i
      → symbols_apart c (naming.meta i) (naming.object x) ≡ true
