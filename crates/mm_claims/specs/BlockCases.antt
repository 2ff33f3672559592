-- A small block, and how its statement is cited.
use Rattle.std.specs.Prelude.{◌≡◌, List, [], ◌∷◌, codes}
use Rattle.std.specs.List.{flat_map}
use Rattle.mm_text.specs.Bytes.{Token}
use Rattle.mm_database.specs.Proofs.{postorder}
use Rattle.ml_pat.specs.Patterns.{bot, imp, ex, equal, var, meta}
use Rattle.mm_proof.specs.Tokens.{object_token, meta_token}
use Rattle.mm_proof.specs.Labels.{own_labels, statement_label, object_label, meta_label}
use Rattle.mm_proof.specs.Labels.{premise_label}
use Rattle.mm_claims.specs.Variables.{object_variable, pattern_variable}
use Rattle.mm_claims.specs.Blocks.{Claim, IsClaim, axiom_block}
use Rattle.mm_claims.specs.CitedAt.{claim_tree}

-- a small claim: from m:0, and from m:1 implies m:0, it concludes that x:2 implies that an element
-- is equal to m:0
abbrev pub small_claim : Claim
small_claim = record {
  variables = object_variable 0 ∷ object_variable 2 ∷ pattern_variable 0 ∷ pattern_variable 1 ∷ [];
  hypotheses = meta 0 ∷ imp (meta 1) (meta 0) ∷ [];
  conclusion = imp (var 2) (ex 0 0 (equal (var 0) (meta 0)));
}

-- all tokens of a small block, one after another
abbrev small_tokens : List Token
small_tokens = flat_map (λ tokens. tokens) (axiom_block (codes "s:S" ∷ []) 7 small_claim)

abbrev small_text : List Token
small_text =
    codes "${" ∷
    codes "$v" ∷ object_token 0 ∷ codes "$." ∷ object_label 7 0 ∷ codes "$f" ∷ codes "#Var"
    ∷ object_token 0 ∷ codes "$." ∷
    codes "$v" ∷ object_token 2 ∷ codes "$." ∷ object_label 7 2 ∷ codes "$f" ∷ codes "#Var"
    ∷ object_token 2 ∷ codes "$." ∷
    codes "$v" ∷ meta_token 0 ∷ codes "$." ∷ meta_label 7 0 ∷ codes "$f" ∷ codes "#Pattern"
    ∷ meta_token 0 ∷ codes "$." ∷
    codes "$v" ∷ meta_token 1 ∷ codes "$." ∷ meta_label 7 1 ∷ codes "$f" ∷ codes "#Pattern"
    ∷ meta_token 1 ∷ codes "$." ∷
    codes "$d" ∷ object_token 0 ∷ object_token 2 ∷ codes "$." ∷
    codes "$d" ∷ object_token 0 ∷ object_token 2 ∷ meta_token 0 ∷ codes "$." ∷
    codes "$d" ∷ object_token 0 ∷ object_token 2 ∷ meta_token 1 ∷ codes "$." ∷
    premise_label 7 0 ∷ codes "$e" ∷ codes "|-" ∷ meta_token 0 ∷ codes "$." ∷
    premise_label 7 1 ∷ codes "$e" ∷ codes "|-" ∷ codes "(" ∷ codes "\\imp" ∷ meta_token 1
    ∷ meta_token 0 ∷ codes ")" ∷ codes "$." ∷
    statement_label 7 ∷ codes "$a" ∷ codes "|-" ∷ codes "(" ∷ codes "\\imp" ∷ object_token 2
    ∷ codes "(" ∷ codes "\\ex" ∷ object_token 0 ∷ codes "s:S" ∷ codes "(" ∷ codes "\\eq"
    ∷ object_token 0 ∷ meta_token 0 ∷ codes ")" ∷ codes ")" ∷ codes ")" ∷ codes "$." ∷
    codes "$}" ∷ []

pub record BlockTried : Type 0 where
  pub tokens : small_tokens ≡ small_text
  pub may : IsClaim (codes "s:S" ∷ []) small_claim
  pub cited : postorder (claim_tree (own_labels 9) (record { number = 0; claim = small_claim }) []
      (bot ∷ imp bot bot ∷ [])
      []) ≡ object_label 9 0 ∷ object_label 9 2 ∷ codes "w.bot" ∷ codes "w.bot" ∷
      codes "w.bot" ∷ codes "w.imp" ∷ statement_label 0 ∷ []
