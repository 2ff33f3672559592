-- The proofs that are kept for patterns, in a table that grows.
use Rattle.std.proofs.Common.{◌≡◌, ℕ, List, length, ◌∙◌, ap, sym, subst}
use Rattle.std.proofs.Common.{Bool, true, false, cond, Some, [], ◌∷◌, ◌<◌, arith}
use Rattle.std.specs.BTreeMap.{BTreeMap, get, is_at, IsUnchanged, Updates}
use Rattle.std.specs.Map.{lookup}
use Rattle.std.specs.Ordering.{nat_cmp}
use Rattle.mm_text.specs.Bytes.{Token}
use Rattle.proof_nodes.specs.Tables.{Table, depth_of, stack_trees, IsOnTop, KeepsNodes, LabelsBelow}
use Rattle.ml_pat.specs.Patterns.{Pattern}
use Rattle.mm_proof.specs.KnownTrees.{AreSyntax, EndsWithSyntax, IsKnown, IsSyntaxAt}
use Rattle.mm_proof.specs.Labels.{own_labels}
use Rattle.mm_proof.specs.Listings.{token_at}
use Rattle.mm_proof.specs.TableView.{HasGrown}
use Rattle.mm_proof.specs.Trees.{syntax_tree}
use Rattle.mm_proof.specs.declared.known.KnownSyntax.{KnownSyntax}
use Rattle.mm_proof.proofs.TableLaws.{tree-grown}

pub known-more_tokens : (serial : ℕ) (old new : List Token) (nodes : Table)
    (known : BTreeMap ℕ KnownSyntax) → HasGrown old new → LabelsBelow (length old) nodes
    → AreSyntax serial old nodes known → AreSyntax serial new nodes known
known-more_tokens serial old new nodes known grown below are fingerprint entry h =
    let is : IsSyntaxAt serial old nodes entry.pattern entry.node.0 = are fingerprint entry h in
    (is.0, tree-grown old new nodes entry.node.0 grown below ∙ is.1)

pub known-more_nodes : (serial : ℕ) (tokens : List Token) (old new : Table)
    (known : BTreeMap ℕ KnownSyntax) → KeepsNodes old new → AreSyntax serial tokens old known
    → AreSyntax serial tokens new known
known-more_nodes serial tokens old new known keeps are fingerprint entry h =
    let is : IsSyntaxAt serial tokens old entry.pattern entry.node.0 = are fingerprint entry h in
    let kept = keeps entry.node.0 is.0 in
    (kept.0, kept.1 (token_at tokens) ∙ is.1)

-- what is known of a pattern is the proof that it is one
pub found-syntax : (serial : ℕ) (tokens : List Token) (nodes : Table)
    (known : BTreeMap ℕ KnownSyntax) (p : Pattern) (node : ℕ) → AreSyntax serial tokens nodes known
    → IsKnown known p node → IsSyntaxAt serial tokens nodes p node
found-syntax serial tokens nodes known p node are (fingerprint, entry, has, same, at) =
    subst (λ (n : ℕ). IsSyntaxAt serial tokens nodes p n) at
    (subst (λ (q : Pattern). IsSyntaxAt serial tokens nodes q entry.node.0) same
    (are fingerprint entry has))

-- trees that end with a proof are some trees
pub some-tree : (serial : ℕ) (tokens : List Token) (nodes : Table) (p : Pattern)
    → EndsWithSyntax serial p (stack_trees (token_at tokens) nodes) → 0 < depth_of nodes
some-tree serial tokens (all, []) p ([], ends) = absurd (let z : ⊥ = cc in z)
some-tree serial tokens (all, []) p (t ∷ others, ends) = absurd (let z : ⊥ = cc in z)
some-tree serial tokens (all, n ∷ ns) p ends = omega arith

-- the node on top of trees that end with the proof that a pattern is one
pub top-syntax : (serial : ℕ) (tokens : List Token) (nodes : Table) (p : Pattern) (node : ℕ)
    → EndsWithSyntax serial p (stack_trees (token_at tokens) nodes) → IsOnTop nodes node
    → IsSyntaxAt serial tokens nodes p node
top-syntax serial tokens nodes p node (others, ends) top =
    (top.0, top.1 (token_at tokens) others (syntax_tree (own_labels serial) p) ends)

-- a map that stays as it is, or gets one more entry

pub known-unchanged : (serial : ℕ) (tokens : List Token) (nodes : Table)
    (old new : BTreeMap ℕ KnownSyntax) → IsUnchanged old new → AreSyntax serial tokens nodes old
    → AreSyntax serial tokens nodes new
known-unchanged serial tokens nodes old new same are fingerprint entry h =
    are fingerprint entry
    (ap (λ (es : List (ℕ × KnownSyntax)). lookup (is_at (nat_cmp fingerprint)) es) (sym same) ∙ h)

pub known-one_more : (serial : ℕ) (tokens : List Token) (nodes : Table)
    (old new : BTreeMap ℕ KnownSyntax) (fingerprint : ℕ) (kept : KnownSyntax)
    → Updates nat_cmp old new fingerprint (Some kept)
    → IsSyntaxAt serial tokens nodes kept.pattern kept.node.0 → AreSyntax serial tokens nodes old
    → AreSyntax serial tokens nodes new
known-one_more serial tokens nodes old new fingerprint kept updates is are other entry h =
    go (is_at (nat_cmp fingerprint) other) (sym (updates.0 other) ∙ h)
  where
    go : (b : Bool) → cond b (Some kept) (get nat_cmp old other) ≡ Some entry
        → IsSyntaxAt serial tokens nodes entry.pattern entry.node.0
    go true at =
        let same : kept ≡ entry = cc in
        subst (λ (e : KnownSyntax). IsSyntaxAt serial tokens nodes e.pattern e.node.0) same is
    go false at = are other entry at
