-- Steps that build trees one after another.
use Rattle.std.proofs.Common.{◌≡◌, List, [], ◌∷◌, ◌++◌, refl, sym, ap, ◌∙◌, subst}
use Rattle.std.proofs.Common.{append-nil, append_assoc}
use Rattle.mm_text.specs.Bytes.{Token}
use Rattle.mm_database.specs.Proofs.{ProofTree, proof_node}
use Rattle.mm_database.specs.Steps.{Step, cites, saves, Builds, by_label, by_saving}
use Rattle.mm_database.specs.Steps.{AllBuild, no_steps, more_steps}
use Rattle.proof_nodes.specs.Tables.{forest_of}

abbrev pub Built : List ProofTree → List (Step Token) → List ProofTree → List ProofTree → Type 0
Built before steps [] behind = (steps ≡ []) × (behind ≡ before)
Built before steps (tree ∷ trees) behind =
    (first : List (Step Token)) × (rest : List (Step Token)) × (between : List ProofTree)
    × (steps ≡ first ++ rest) × Builds before first tree between × Built between rest trees behind

pub built-push : (before : List ProofTree) (steps : List (Step Token)) (trees : List ProofTree)
    (between : List ProofTree) (more : List (Step Token)) (tree : ProofTree)
    (behind : List ProofTree) → Built before steps trees between → Builds between more tree behind
    → Built before (steps ++ more) (trees ++ tree ∷ []) behind
built-push before steps [] between more tree behind (none, same) one = (
  more,
  [],
  behind,
  ap (λ (ss : List (Step Token)). ss ++ more) none ∙ sym (append-nil more),
  subst (λ (ts : List ProofTree). Builds ts more tree behind) same one,
  (refl, refl),
)
built-push before steps (t ∷ trees) between more tree behind (first, rest, mid, is, one, all) last
    = (
      first,
      rest ++ more,
      mid,
      ap (λ (ss : List (Step Token)). ss ++ more) is ∙ append_assoc first rest more,
      one,
      built-push mid rest trees between more tree behind all last,
    )

-- steps, cut after some of the trees
pub record Cut (before : List ProofTree) (steps : List (Step Token)) (front back : List ProofTree)
    (behind : List ProofTree) : Type 0 where
  pub first : List (Step Token)
  pub rest : List (Step Token)
  pub between : List ProofTree
  pub same : steps ≡ first ++ rest
  pub builds_front : Built before first front between
  pub builds_back : Built between rest back behind

pub built-cut : (before : List ProofTree) (steps : List (Step Token)) (front back : List ProofTree)
    (behind : List ProofTree) → Built before steps (front ++ back) behind
    → Cut before steps front back behind
built-cut before steps [] back behind h =
    record {
      first = [];
      rest = steps;
      between = before;
      same = refl;
      builds_front = (refl, refl);
      builds_back = h;
    }
built-cut before steps (tree ∷ front) back behind (first, rest, mid, is, one, all) =
    let w : Cut mid rest front back behind = built-cut mid rest front back behind all in
    record {
      first = first ++ w.first;
      rest = w.rest;
      between = w.between;
      same =
          is ∙ ap (λ (ss : List (Step Token)). first ++ ss) w.same
          ∙ sym (append_assoc first w.first w.rest);
      builds_front = (first, w.first, mid, refl, one, w.builds_front);
      builds_back = w.builds_back;
    }

pub built-forest : (before : List ProofTree) (steps : List (Step Token)) (trees : List ProofTree)
    (behind : List ProofTree) → Built before steps trees behind
    → AllBuild before steps (forest_of trees) behind
built-forest before steps [] behind (none, same) =
    subst (λ (ss : List (Step Token)). AllBuild before ss (forest_of []) behind) (sym none)
    (subst (λ (ts : List ProofTree). AllBuild before [] (forest_of []) ts) (sym same)
    (no_steps before))
built-forest before steps (tree ∷ trees) behind (first, rest, mid, is, one, all) =
    subst (λ (ss : List (Step Token)). AllBuild before ss (forest_of (tree ∷ trees)) behind)
    (sym is)
    (more_steps before first tree mid rest (forest_of trees) behind one
    (built-forest mid rest trees behind all))

pub built-alone : (before : List ProofTree) (steps : List (Step Token)) (tree : ProofTree)
    (behind : List ProofTree) → Built before steps (tree ∷ []) behind
    → Builds before steps tree behind
built-alone before steps tree behind (first, rest, mid, is, one, (none, same)) =
    subst (λ (ss : List (Step Token)). Builds before ss tree behind)
    (sym (is ∙ ap (λ (ss : List (Step Token)). first ++ ss) none ∙ append-nil first))
    (subst (λ (ts : List ProofTree). Builds before first tree ts) (sym same) one)

-- a label takes the last trees
pub built-cited : (before : List ProofTree) (steps : List (Step Token))
    (front parts : List ProofTree) (behind : List ProofTree) (label : Token)
    → Built before steps (front ++ parts) behind
    → Built before (steps ++ cites label ∷ [])
    (front ++ proof_node label (forest_of parts) ∷ []) behind
built-cited before steps front parts behind label h =
    let w : Cut before steps front parts behind = built-cut before steps front parts behind h in
    let tree = proof_node label (forest_of parts) in
    subst (λ (ss : List (Step Token)). Built before ss (front ++ proof_node label
    (forest_of parts) ∷ []) behind)
    (sym (append_assoc w.first w.rest (cites label ∷ []))
    ∙ ap (λ (ss : List (Step Token)). ss ++ cites label ∷ []) (sym w.same))
    (built-push before w.first front w.between (w.rest ++ cites label ∷ []) tree behind
    w.builds_front
    (by_label w.between w.rest label (forest_of parts) behind
    (built-forest w.between w.rest parts behind w.builds_back)))

-- a label takes the last trees, and its tree is saved
pub built-saved : (before : List ProofTree) (steps : List (Step Token))
    (front parts : List ProofTree) (behind : List ProofTree) (label : Token)
    → Built before steps (front ++ parts) behind
    → Built before (steps ++ (cites label ∷ (saves ∷ [])))
    (front ++ proof_node label (forest_of parts) ∷ [])
    (behind ++ proof_node label (forest_of parts) ∷ [])
built-saved before steps front parts behind label h =
    let w : Cut before steps front parts behind = built-cut before steps front parts behind h in
    let tree = proof_node label (forest_of parts) in
    let two : (w.rest ++ cites label ∷ []) ++ saves ∷ []
    ≡ w.rest ++ (cites label ∷ (saves ∷ [])) =
    append_assoc w.rest (cites label ∷ []) (saves ∷ []) in
    subst (λ (ss : List (Step Token)). Built before ss (front ++ proof_node label
    (forest_of parts) ∷ []) (behind ++ proof_node label (forest_of parts) ∷ []))
    (ap (λ (ss : List (Step Token)). w.first ++ ss) two
    ∙ sym (append_assoc w.first w.rest (cites label ∷ (saves ∷ [])))
    ∙ ap (λ (ss : List (Step Token)). ss ++ (cites label ∷ (saves ∷ []))) (sym w.same))
    (built-push before w.first front w.between ((w.rest ++ cites label ∷ []) ++ saves ∷ []) tree
    (behind ++ tree ∷ []) w.builds_front
    (by_saving w.between (w.rest ++ cites label ∷ []) tree behind
    (by_label w.between w.rest label (forest_of parts) behind
    (built-forest w.between w.rest parts behind w.builds_back))))
