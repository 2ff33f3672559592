-- A row of the header over proofs of its hypotheses proves its instance.
use Rattle.std.proofs.Common.{◌≡◌, ℕ, ◌+◌, Bool, true, List, [], ◌∷◌, ◌++◌, map, refl, ap, ◌∙◌, sym}
use Rattle.mm_text.specs.Bytes.{Token}
use Rattle.mm_database.specs.Frames.{Hypothesis}
use Rattle.mm_database.specs.Database.{Context}
use Rattle.mm_database.specs.Proofs.{Expression, instance_of, keeps_apart, ProofTree, Proves}
use Rattle.mm_database.specs.Proofs.{AllProve, symbols_apart}
use Rattle.mm_database.specs.Stack.{bindings_of, text_of}
use Rattle.mm_proof.specs.Judgements.{Judgement, judgement_by}
use Rattle.mm_proof.specs.Trees.{cite}
use Rattle.proof_nodes.specs.Tables.{forest_of}
use Rattle.mm_proof.specs.Serving.{HasHeader}
use Rattle.mm_proof.proofs.Schemes.{Leaves, under, judgement-under, leads-by}
use Rattle.mm_proof.proofs.Rows.{header_naming, premises, frame, IsRow}

-- the substitution that entries define
abbrev pub sigma_of : Token → List Hypothesis → List Judgement → List Expression → Token
    → Expression
sigma_of name floats js es = text_of (bindings_of (floats ++ premises name 0 js) es)

instances-premises : (sigma : Token → Expression) (name : Token) (n : ℕ) (js : List Judgement)
    → Leaves sigma
    → map (instance_of sigma) (premises name n js)
    ≡ map (judgement_by (under sigma header_naming)) js
instances-premises sigma name n [] h = refl
instances-premises sigma name n (j ∷ js) h =
    ap (λ e. e ∷ map (instance_of sigma) (premises name (n + 1) js))
    (judgement-under sigma header_naming h j)
    ∙ ap (λ es. judgement_by (under sigma header_naming) j ∷ es)
    (instances-premises sigma name (n + 1) js h)

map-append : (f : Hypothesis → Expression) (xs ys : List Hypothesis)
    → map f (xs ++ ys) ≡ map f xs ++ map f ys
map-append f [] ys = refl
map-append f (x ∷ xs) ys = ap (λ es. f x ∷ es) (map-append f xs ys)

pub row_proves : (c : Context) (name : Token) (pairs : Token → Token → Bool)
    (floats : List Hypothesis) (js : List Judgement) (j : Judgement) (es : List Expression)
    (result : Expression) (trees : List ProofTree) → HasHeader c → IsRow name pairs floats js j
    → es
    ≡ map (instance_of (sigma_of name floats js es)) floats
    ++ map (judgement_by (under (sigma_of name floats js es) header_naming)) js
    → keeps_apart (symbols_apart c) (frame name pairs floats js j) (sigma_of name floats js es)
    ≡ true → Leaves (sigma_of name floats js es)
    → judgement_by (under (sigma_of name floats js es) header_naming) j ≡ result
    → AllProve c (forest_of trees) es → Proves c (cite name trees) result
row_proves c name pairs floats js j es result trees header row same apart leaves concludes all =
    let sigma : Token → Expression = sigma_of name floats js es in (
      es,
      leads-by c name (frame name pairs floats js j) es result
          (header name (frame name pairs floats js j) row)
          (same
          ∙ ap (λ given. map (instance_of sigma) floats ++ given)
          (sym (instances-premises sigma name 0 js leaves))
          ∙ sym (map-append (instance_of sigma) floats (premises name 0 js)))
          apart (judgement-under sigma header_naming leaves j ∙ concludes),
      all,
    )

-- proofs one after another
pub all_proofs : (c : Context) (xs ys : List ProofTree) (es fs : List Expression)
    → AllProve c (forest_of xs) es → AllProve c (forest_of ys) fs
    → AllProve c (forest_of (xs ++ ys)) (es ++ fs)
all_proofs c [] ys es fs h k = rw h k
all_proofs c (x ∷ xs) ys es fs (first, rest, is, proof, all) k =
    (first, rest ++ fs, ap (λ gs. gs ++ fs) is, proof, all_proofs c xs ys rest fs all k)
