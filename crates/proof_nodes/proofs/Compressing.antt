-- Labels that are told apart have tokens that are told apart; and which tokens a tree has.
use Rattle.std.proofs.Common.{◌≡◌, ◌≢◌, ℕ, zero, suc, ◌<◌, Bool, true, false, ◌||◌, ◌&&◌, List, []}
use Rattle.std.proofs.Common.{◌∷◌, ◌++◌, map, Some, refl, sym, ap, ◌∙◌, subst, append-nil}
use Rattle.std.proofs.Common.{append_assoc}
use Rattle.std.specs.Prelude.{slice_get, flat_map, bytes_eq}
use Rattle.std.specs.List.{list_any, list_all}
use Rattle.std.proofs.lemmas.Slice.Eq.{bytes_eq-Decides}
use Rattle.std.proofs.lemmas.List.{map-append}
use Rattle.std.proofs.lemmas.List.Folds.{list_any-append}
use Rattle.std.proofs.lemmas.Grind.{flat_map-append}
use Rattle.mm_text.specs.Bytes.{Token, has_token, has_repeated}
use Rattle.mm_database.specs.Proofs.{ProofTree, ProofForest}
use Rattle.mm_database.specs.Proofs.{postorder, all_postorder}
use Rattle.mm_database.specs.Steps.{Step, cites, saves, repeats, Builds, by_label, by_saving}
use Rattle.mm_database.specs.Steps.{by_repeating, AllBuild, no_steps, more_steps}
use Rattle.mm_database.specs.ProofText.{lettered_steps}
use Rattle.mm_database.specs.ProofTexts.{Compresses}
use Rattle.proof_nodes.specs.Tables.{Node, AllBelow, tree_at, node_trees}
use Rattle.proof_nodes.specs.Compression.{AreToldApart, proof_text, IsCompressed}
use Rattle.proof_nodes.specs.Walking.{labels_of, meanings_of, BuildsNode, CitesNodes}
use Rattle.proof_nodes.specs.Numbering.{IsNoneOf, AreNew, AreAmong, MeansSteps}
use Rattle.proof_nodes.specs.declared.walk.ProofStep.{ProofStep}
use Rattle.proof_nodes.specs.declared.walk.ProofStep.TheVariants.{Cites, CitesAndSaves, Repeats}
use Rattle.proof_nodes.proofs.Growing.{AllBelow-at, slice_get-left}
use Rattle.proof_nodes.proofs.Placing.{IsNoneOf-front, none_is}

not_true : (b : Bool) → (b ≡ true → ⊥) → b ≡ false
not_true true h = absurd (h refl)
not_true false h = refl

or_false : (a b : Bool) → a ≡ false → b ≡ false → a || b ≡ false
or_false false b h k = k
or_false true b h k = absurd (let z : ⊥ = cc in z)

or_left : (a b : Bool) → a ≡ true → a || b ≡ true
or_left true b h = refl
or_left false b h = absurd (let z : ⊥ = cc in z)

or_right : (a b : Bool) → b ≡ true → a || b ≡ true
or_right true b h = refl
or_right false b h = h

and_true : (a b : Bool) → a ≡ true → b ≡ true → a && b ≡ true
and_true true b h k = k
and_true false b h k = absurd (let z : ⊥ = cc in z)

-- a label in a list stays different from what is new to the list
new_other : (table labels : List ℕ) (l : ℕ) → ((i : ℕ) × (slice_get table i ≡ Some l))
    → AreNew table labels → IsNoneOf l labels
new_other table [] l at h = tt
new_other table (m ∷ labels) l at h = (
  λ same. none_is m table at.0 h.0 (at.1 ∙ ap (λ n. Some n) (sym same)),
  new_other (table ++ m ∷ []) labels l
      (at.0, slice_get-left table (m ∷ []) at.0 l at.1) h.1,
)

module _ (bound : ℕ) (token : ℕ → Token) (told : AreToldApart bound token) where
  token_apart : (x l : ℕ) → x < bound → l < bound → x ≢ l → bytes_eq (token x) (token l) ≡ false
  token_apart x l lx ll other =
      not_true (bytes_eq (token x) (token l))
      (λ e. other (told x l lx ll ((bytes_eq-Decides (token x) (token l)).0 e)))

  none_token : (l : ℕ) (xs : List ℕ) → l < bound → AllBelow bound xs → IsNoneOf l xs
      → has_token (map token xs) (token l) ≡ false
  none_token l [] lt below h = refl
  none_token l (x ∷ xs) lt below h =
      or_false (bytes_eq (token x) (token l)) (has_token (map token xs) (token l))
      (token_apart x l below.0 lt h.0) (none_token l xs lt below.1 h.1)

  pub once : (table labels : List ℕ) → AllBelow bound labels → AreNew table labels
      → has_repeated (map token labels) ≡ false
  once table [] below h = refl
  once table (l ∷ labels) below h =
      or_false (has_token (map token labels) (token l)) (has_repeated (map token labels))
      (none_token l labels below.0 below.1
      (new_other (table ++ l ∷ []) labels l (seam table l) h.1))
      (once (table ++ l ∷ []) labels below.1 h.1)
    where
      seam : (ls : List ℕ) (n : ℕ) → (i : ℕ) × (slice_get (ls ++ n ∷ []) i ≡ Some n)
      seam [] n = (0, refl)
      seam (m ∷ ls) n =
          let r : (i : ℕ) × (slice_get (ls ++ n ∷ []) i ≡ Some n) = seam ls n in
          (suc r.0, r.1)

  pub others : (front more labels : List ℕ) → AllBelow bound front → AllBelow bound labels
      → AreNew (front ++ more) labels
      → list_any (has_token (map token front)) (map token labels) ≡ false
  others front more [] below all h = refl
  others front more (l ∷ labels) below all h =
      or_false (has_token (map token front) (token l))
      (list_any (has_token (map token front)) (map token labels))
      (none_token l front all.0 below (IsNoneOf-front l front more h.0))
      (others front (more ++ l ∷ []) labels below all.1
      (subst (λ (ls : List ℕ). AreNew ls labels) (append_assoc front more (l ∷ [])) h.1))

-- the tokens are among these
abbrev pub Has : List Token → List Token → Type 0
Has tokens [] = Unit {0}
Has tokens (t ∷ ts) = (has_token tokens t ≡ true) × Has tokens ts

Has-append : (tokens xs ys : List Token) → Has tokens xs → Has tokens ys → Has tokens (xs ++ ys)
Has-append tokens [] ys h k = k
Has-append tokens (x ∷ xs) ys h k = (h.0, Has-append tokens xs ys h.1 k)

has-left : (tokens more : List Token) (t : Token) → has_token tokens t ≡ true
    → has_token (tokens ++ more) t ≡ true
has-left tokens more t h =
    list_any-append (λ (s : Token). bytes_eq s t) tokens more
    ∙ or_left (has_token tokens t) (has_token more t) h

has-right : (tokens more : List Token) (t : Token) → has_token more t ≡ true
    → has_token (tokens ++ more) t ≡ true
has-right tokens more t h =
    list_any-append (λ (s : Token). bytes_eq s t) tokens more
    ∙ or_right (has_token tokens t) (has_token more t) h

Has-left : (tokens more xs : List Token) → Has tokens xs → Has (tokens ++ more) xs
Has-left tokens more [] h = tt
Has-left tokens more (x ∷ xs) h = (has-left tokens more x h.0, Has-left tokens more xs h.1)

Has-right : (tokens more xs : List Token) → Has more xs → Has (tokens ++ more) xs
Has-right tokens more [] h = tt
Has-right tokens more (x ∷ xs) h = (has-right tokens more x h.0, Has-right tokens more xs h.1)

-- the tokens that steps cite
abbrev cited_by : Step Token → List Token
cited_by (cites t) = t ∷ []
cited_by saves = []
cited_by (repeats n) = []

abbrev pub cited_in : List (Step Token) → List Token
cited_in steps = flat_map cited_by steps

cited-append : (xs ys : List (Step Token)) → cited_in (xs ++ ys) ≡ cited_in xs ++ cited_in ys
cited-append xs ys = flat_map-append cited_by xs ys

has-one : (t : Token) → has_token (t ∷ []) t ≡ true
has-one t = or_left (bytes_eq t t) false ((bytes_eq-Decides t t).1 refl)

mutual
  pub built-has : (before : List ProofTree) (steps : List (Step Token)) (tree : ProofTree)
      (behind : List ProofTree) → Builds before steps tree behind
      → Has (postorder tree) (cited_in steps)
  built-has before _ _ behind (by_label _ steps label trees _ all) =
      subst (Has (all_postorder trees ++ label ∷ [])) (sym (cited-append steps (cites label ∷ [])))
      (Has-append (all_postorder trees ++ label ∷ []) (cited_in steps) (label ∷ [])
      (Has-left (all_postorder trees) (label ∷ []) (cited_in steps)
      (all-has before steps trees behind all))
      (has-right (all_postorder trees) (label ∷ []) label (has-one label), tt))
  built-has before _ tree _ (by_saving _ steps _ behind one) =
      subst (Has (postorder tree))
      (sym (cited-append steps (saves ∷ []) ∙ append-nil (cited_in steps)))
      (built-has before steps tree behind one)
  built-has before _ tree _ (by_repeating _ n _ is) = tt

  pub all-has : (before : List ProofTree) (steps : List (Step Token)) (trees : ProofForest)
      (behind : List ProofTree) → AllBuild before steps trees behind
      → Has (all_postorder trees) (cited_in steps)
  all-has before _ _ _ (no_steps _) = tt
  all-has before _ _ behind (more_steps _ first tree between others trees _ one all) =
      subst (Has (postorder tree ++ all_postorder trees)) (sym (cited-append first others))
      (Has-append (postorder tree ++ all_postorder trees) (cited_in first) (cited_in others)
      (Has-left (postorder tree) (all_postorder trees) (cited_in first)
      (built-has before first tree between one))
      (Has-right (postorder tree) (all_postorder trees) (cited_in others)
      (all-has between others trees behind all)))

cited-labels : (token : ℕ → Token) (steps : List ProofStep)
    → cited_in (meanings_of token steps) ≡ map token (labels_of steps)
cited-labels token [] = refl
cited-labels token (Cites l ∷ steps) =
    ap (λ (ts : List Token). token l ∷ ts) (cited-labels token steps)
cited-labels token (CitesAndSaves l ∷ steps) =
    ap (λ (ts : List Token). token l ∷ ts) (cited-labels token steps)
cited-labels token (Repeats n ∷ steps) = cited-labels token steps

has-at : (token : ℕ → Token) (tokens : List Token) (labels : List ℕ) (i l : ℕ)
    → Has tokens (map token labels) → slice_get labels i ≡ Some l
    → has_token tokens (token l) ≡ true
has-at token tokens [] i l h is = absurd (let z : ⊥ = cc in z)
has-at token tokens (m ∷ labels) zero l h is =
    let same : m ≡ l = cc in
    subst (λ n. has_token tokens (token n) ≡ true) same h.0
has-at token tokens (m ∷ labels) (suc i) l h is = has-at token tokens labels i l h.1 is

pub used : (token : ℕ → Token) (tokens : List Token) (labels listed : List ℕ)
    → Has tokens (map token labels) → AreAmong labels listed
    → list_all (has_token tokens) (map token listed) ≡ true
used token tokens labels [] h all = refl
used token tokens labels (l ∷ listed) h all =
    and_true (has_token tokens (token l)) (list_all (has_token tokens) (map token listed))
    (has-at token tokens labels all.0.0 l h all.0.1) (used token tokens labels listed h all.1)

pub AllBelow-among : (bound : ℕ) (labels listed : List ℕ) → AllBelow bound labels
    → AreAmong labels listed → AllBelow bound listed
AllBelow-among bound labels [] h all = tt
AllBelow-among bound labels (l ∷ listed) h all =
    (AllBelow-at bound labels all.0.0 l h all.0.1, AllBelow-among bound labels listed h all.1)

pub compresses : (bound : ℕ) (token : ℕ → Token) (tree : ProofTree) (saved : List ProofTree)
    (mandatory listed letters : List ℕ) (steps : List ProofStep) → AreToldApart bound token
    → AllBelow bound mandatory → AllBelow bound (labels_of steps)
    → MeansSteps mandatory steps listed letters → Builds [] (meanings_of token steps) tree saved
    → Compresses (map token mandatory) tree (proof_text token listed letters)
compresses bound token tree saved mandatory listed letters steps told below labels means builds =
    let all : AllBelow bound listed =
    AllBelow-among bound (labels_of steps) listed labels means.used in
    record {
      listed = map token listed;
      letters = letters;
      steps = meanings_of token steps;
      saved = saved;
      is = refl;
      once = once bound token told mandatory listed all means.new;
      others =
          others bound token told mandatory [] listed below all
          (subst (λ (ls : List ℕ). AreNew ls listed) (sym (append-nil mandatory)) means.new);
      used =
          used token (postorder tree) (labels_of steps) listed
          (subst (Has (postorder tree)) (cited-labels token steps)
          (built-has [] (meanings_of token steps) tree saved builds)) means.used;
      means =
          subst (λ (ts : List Token). lettered_steps ts letters ≡ Some (meanings_of token steps))
          (map-append token mandatory listed) (means.means token tree saved builds);
      builds = builds;
    }

only : (f : ℕ → ProofTree) (ns : List ℕ) (n : ℕ) (tree : ProofTree) → slice_get ns 0 ≡ Some n
    → map f ns ≡ tree ∷ [] → f n ≡ tree
only f [] n tree at is = absurd (let z : ⊥ = cc in z)
only f (m ∷ ns) n tree at is = let same : m ≡ n = cc in ap f (sym same) ∙ cc

pub table_compressed : (nodes : List Node) (stack : List ℕ) (root : ℕ)
    (mandatory listed letters : List ℕ) (steps : List ProofStep) → slice_get stack 0 ≡ Some root
    → BuildsNode nodes root steps → CitesNodes nodes steps
    → MeansSteps mandatory steps listed letters
    → IsCompressed (nodes, stack) mandatory listed letters
table_compressed nodes stack root mandatory listed letters steps at builds labels means bound token
    tree told below required same =
    let b : (saved : List ProofTree)
    × Builds [] (meanings_of token steps) (tree_at (node_trees token nodes) root) saved =
    builds token in
    let top : tree_at (node_trees token nodes) root ≡ tree =
    only (tree_at (node_trees token nodes)) stack root tree at same in
    compresses bound token tree b.0 mandatory listed letters steps told required
    (labels bound below) means
    (subst (λ (t : ProofTree). Builds [] (meanings_of token steps) t b.0) top b.1)
