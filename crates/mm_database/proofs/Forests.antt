-- Forests cut in two and joined.
use Rattle.std.proofs.Common.{◌≡◌, ℕ, zero, suc, List, ◌++◌, take, drop, refl, ap, ◌∙◌, sym}
use Rattle.std.proofs.Common.{append_assoc}
use Rattle.mm_database.specs.Database.{Context}
use Rattle.mm_database.specs.Proofs.{Expression, ProofForest, no_proof, more_proofs, AllProve}
use Rattle.mm_database.specs.Proofs.{postorder, all_postorder}

abbrev pub first_trees : ℕ → ProofForest → ProofForest
first_trees zero trees = no_proof
first_trees (suc n) no_proof = no_proof
first_trees (suc n) (more_proofs tree trees) = more_proofs tree (first_trees n trees)

abbrev pub last_trees : ℕ → ProofForest → ProofForest
last_trees zero trees = trees
last_trees (suc n) no_proof = no_proof
last_trees (suc n) (more_proofs tree trees) = last_trees n trees

abbrev pub with_trees : ProofForest → ProofForest → ProofForest
with_trees no_proof others = others
with_trees (more_proofs tree trees) others = more_proofs tree (with_trees trees others)

pub postorder-cut : (n : ℕ) (trees : ProofForest)
    → all_postorder (first_trees n trees) ++ all_postorder (last_trees n trees)
    ≡ all_postorder trees
postorder-cut zero trees = refl
postorder-cut (suc n) no_proof = refl
postorder-cut (suc n) (more_proofs tree trees) =
    append_assoc (postorder tree) (all_postorder (first_trees n trees))
    (all_postorder (last_trees n trees))
    ∙ ap (λ labels. postorder tree ++ labels) (postorder-cut n trees)

pub postorder-joined : (trees others : ProofForest)
    → all_postorder (with_trees trees others) ≡ all_postorder trees ++ all_postorder others
postorder-joined no_proof others = refl
postorder-joined (more_proofs tree trees) others =
    ap (λ labels. postorder tree ++ labels) (postorder-joined trees others)
    ∙ sym (append_assoc (postorder tree) (all_postorder trees) (all_postorder others))

pub AllProve-first : (c : Context) (n : ℕ) (trees : ProofForest) (results : List Expression)
    → AllProve c trees results → AllProve c (first_trees n trees) (take n results)
AllProve-first c zero trees results h = refl
AllProve-first c (suc n) no_proof results h = ap (take (suc n)) h
AllProve-first c (suc n) (more_proofs tree trees) results (first, rest, is, proves, others) =
    (first, take n rest, ap (take (suc n)) is, proves, AllProve-first c n trees rest others)

pub AllProve-last : (c : Context) (n : ℕ) (trees : ProofForest) (results : List Expression)
    → AllProve c trees results → AllProve c (last_trees n trees) (drop n results)
AllProve-last c zero trees results h = h
AllProve-last c (suc n) no_proof results h = ap (drop (suc n)) h
AllProve-last c (suc n) (more_proofs tree trees) results (first, rest, is, proves, others) =
    let same : drop (suc n) results ≡ drop n rest = ap (drop (suc n)) is in
    rw same (AllProve-last c n trees rest others)

pub AllProve-joined : (c : Context) (trees others : ProofForest) (results more : List Expression)
    → AllProve c trees results → AllProve c others more
    → AllProve c (with_trees trees others) (results ++ more)
AllProve-joined c no_proof others results more h k = rw h k
AllProve-joined c (more_proofs tree trees) others results more (first, rest, is, proves, all) k = (
  first,
  rest
      ++ more,
  ap (λ es. es ++ more) is,
  proves,
  AllProve-joined c trees others rest more all k,
)
