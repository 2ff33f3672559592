-- Steps that build forests, which are cut in two and joined; and steps that only cite labels.
use Rattle.std.proofs.Common.{◌≡◌, ℕ, zero, suc, Bool, true, false, List, [], ◌∷◌, ◌++◌, map, refl}
use Rattle.std.proofs.Common.{ap, ◌∙◌, sym, subst, append_assoc, append-nil}
use Rattle.std.proofs.lemmas.List.{map-append}
use Rattle.std.specs.List.{list_all}
use Rattle.mm_text.specs.Bytes.{Token}
use Rattle.mm_database.specs.Proofs.{ProofTree, proof_node, ProofForest, no_proof, more_proofs}
use Rattle.mm_database.specs.Proofs.{postorder, all_postorder}
use Rattle.mm_database.specs.Steps.{Step, cites, saves, repeats, Builds, by_label, by_saving}
use Rattle.mm_database.specs.Steps.{by_repeating, AllBuild, no_steps, more_steps}
use Rattle.mm_database.specs.FrameLaws.{LabelsArePostorder}
use Rattle.mm_database.proofs.Forests.{first_trees, last_trees, with_trees}

pub built-joined : (before : List ProofTree) (steps : List (Step Token)) (trees : ProofForest)
    (between : List ProofTree) (more : List (Step Token)) (others : ProofForest)
    (behind : List ProofTree) → AllBuild before steps trees between
    → AllBuild between more others behind
    → AllBuild before (steps ++ more) (with_trees trees others) behind
built-joined before steps trees between more others behind (no_steps _) w = w
built-joined before steps trees between more others behind
    (more_steps _ first tree middle rest last _ b all) w =
    subst (λ (ss : List (Step Token)).
    AllBuild before ss (more_proofs tree (with_trees last others)) behind)
    (sym (append_assoc first rest more))
    (more_steps before first tree middle (rest ++ more) (with_trees last others) behind b
    (built-joined middle rest last between more others behind all w))

-- a forest that is built, cut after some of its trees
pub record Cut (before : List ProofTree) (steps : List (Step Token)) (front back : ProofForest)
    (behind : List ProofTree) : Type 0 where
  pub first : List (Step Token)
  pub rest : List (Step Token)
  pub between : List ProofTree
  pub same : first ++ rest ≡ steps
  pub builds_front : AllBuild before first front between
  pub builds_back : AllBuild between rest back behind

pub built-cut : (n : ℕ) (before : List ProofTree) (steps : List (Step Token)) (trees : ProofForest)
    (behind : List ProofTree) → AllBuild before steps trees behind
    → Cut before steps (first_trees n trees) (last_trees n trees) behind
built-cut zero before steps trees behind w =
    record {
      first = [];
      rest = steps;
      between = before;
      same = refl;
      builds_front = no_steps before;
      builds_back = w;
    }
built-cut (suc n) before steps trees behind (no_steps _) =
    record {
      first = [];
      rest = [];
      between = before;
      same = refl;
      builds_front = no_steps before;
      builds_back = no_steps before;
    }
built-cut (suc n) before steps trees behind (more_steps _ first tree middle rest last _ b all) =
    let w : Cut middle rest (first_trees n last) (last_trees n last) behind =
    built-cut n middle rest last behind all in
    record {
      first = first ++ w.first;
      rest = w.rest;
      between = w.between;
      same =
          append_assoc first w.first w.rest ∙ ap (λ (ss : List (Step Token)). first ++ ss) w.same;
      builds_front =
          more_steps before first tree middle w.first (first_trees n last) w.between b
          w.builds_front;
      builds_back = w.builds_back;
    }

-- a forest of one tree

pub built-one : (before : List ProofTree) (steps : List (Step Token)) (tree : ProofTree)
    (behind : List ProofTree) → Builds before steps tree behind
    → AllBuild before steps (more_proofs tree no_proof) behind
built-one before steps tree behind b =
    subst (λ (ss : List (Step Token)). AllBuild before ss (more_proofs tree no_proof) behind)
    (append-nil steps)
    (more_steps before steps tree behind [] no_proof behind b (no_steps behind))

none-built : (before : List ProofTree) (steps : List (Step Token)) (trees : ProofForest)
    (behind : List ProofTree) → AllBuild before steps trees behind → trees ≡ no_proof
    → (steps ≡ []) × (behind ≡ before)
none-built before steps trees behind (no_steps _) is = (refl, refl)
none-built before steps trees behind (more_steps _ first tree middle rest last _ b all) is =
    absurd (cc)

pub one-built : (before : List ProofTree) (steps : List (Step Token)) (tree : ProofTree)
    (behind : List ProofTree) → AllBuild before steps (more_proofs tree no_proof) behind
    → Builds before steps tree behind
one-built before steps tree behind (more_steps _ first _ middle rest _ _ b all) =
    let none : (rest ≡ []) × (behind ≡ middle) = none-built middle rest no_proof behind all refl in
    let same : first ++ rest ≡ first =
    ap (λ (ss : List (Step Token)). first ++ ss) none.0 ∙ append-nil first in
    subst (λ (ss : List (Step Token)). Builds before ss tree behind) (sym same)
    (subst (λ (saved : List ProofTree). Builds before first tree saved) (sym none.1) b)

-- steps that only cite

abbrev pub citing : List Token → List (Step Token)
citing labels = map (λ label. cites label) labels

mutual
  pub postorder-builds : (tree : ProofTree) (saved : List ProofTree)
      → Builds saved (citing (postorder tree)) tree saved
  postorder-builds (proof_node label trees) saved =
      subst (λ (ss : List (Step Token)). Builds saved ss (proof_node label trees) saved)
      (sym (map-append (λ l. cites l) (all_postorder trees) (label ∷ [])))
      (by_label saved (citing (all_postorder trees)) label trees saved
      (all_postorder-builds trees saved))

  pub all_postorder-builds : (trees : ProofForest) (saved : List ProofTree)
      → AllBuild saved (citing (all_postorder trees)) trees saved
  all_postorder-builds no_proof saved = no_steps saved
  all_postorder-builds (more_proofs tree trees) saved =
      subst (λ (ss : List (Step Token)). AllBuild saved ss (more_proofs tree trees) saved)
      (sym (map-append (λ l. cites l) (postorder tree) (all_postorder trees)))
      (more_steps saved (citing (postorder tree)) tree saved (citing (all_postorder trees)) trees
      saved (postorder-builds tree saved) (all_postorder-builds trees saved))

abbrev is_citing : Step Token → Bool
is_citing (cites label) = true
is_citing saves = false
is_citing (repeats n) = false

abbrev cited : List (Step Token) → List Token
cited [] = []
cited (cites label ∷ steps) = label ∷ cited steps
cited (saves ∷ steps) = cited steps
cited (repeats n ∷ steps) = cited steps

cited-append : (steps more : List (Step Token)) → cited (steps ++ more) ≡ cited steps ++ cited more
cited-append [] more = refl
cited-append (cites label ∷ steps) more =
    ap (λ (ls : List Token). label ∷ ls) (cited-append steps more)
cited-append (saves ∷ steps) more = cited-append steps more
cited-append (repeats n ∷ steps) more = cited-append steps more

citing-append : (steps more : List (Step Token)) → list_all is_citing (steps ++ more) ≡ true
    → (list_all is_citing steps ≡ true) × (list_all is_citing more ≡ true)
citing-append [] more h = (refl, h)
citing-append (cites label ∷ steps) more h = citing-append steps more h
citing-append (saves ∷ steps) more h = absurd (cc)
citing-append (repeats n ∷ steps) more h = absurd (cc)

cited-citing : (labels : List Token)
    → (cited (citing labels) ≡ labels) × (list_all is_citing (citing labels) ≡ true)
cited-citing [] = (refl, refl)
cited-citing (label ∷ labels) =
    let behind : (cited (citing labels) ≡ labels) × (list_all is_citing (citing labels) ≡ true) =
    cited-citing labels in
    (ap (λ (ls : List Token). label ∷ ls) behind.0, behind.1)

mutual
  builds-postorder : (before : List ProofTree) (steps : List (Step Token)) (tree : ProofTree)
      (behind : List ProofTree) → Builds before steps tree behind
      → list_all is_citing steps ≡ true → (postorder tree ≡ cited steps) × (behind ≡ before)
  builds-postorder before steps tree behind (by_label _ first label trees _ all) h =
      let below : (all_postorder trees ≡ cited first) × (behind ≡ before) =
      builds-all_postorder before first trees behind all
      (citing-append first (cites label ∷ []) h).0 in (
        ap (λ (ls : List Token). ls ++ label ∷ []) below.0
            ∙ sym (cited-append first (cites label ∷ [])),
        below.1,
      )
  builds-postorder before steps tree behind (by_saving _ first _ _ b) h =
      let none : list_all is_citing (saves ∷ []) ≡ true = (citing-append first (saves ∷ []) h).1 in
      absurd (cc)
  builds-postorder before steps tree behind (by_repeating _ n _ is) h = absurd (cc)

  builds-all_postorder : (before : List ProofTree) (steps : List (Step Token)) (trees : ProofForest)
      (behind : List ProofTree) → AllBuild before steps trees behind
      → list_all is_citing steps ≡ true → (all_postorder trees ≡ cited steps) × (behind ≡ before)
  builds-all_postorder before steps trees behind (no_steps _) h = (refl, refl)
  builds-all_postorder before steps trees behind (more_steps _ first tree middle rest last _ b all)
      h =
      let both : (list_all is_citing first ≡ true) × (list_all is_citing rest ≡ true) =
      citing-append first rest h in
      let one : (postorder tree ≡ cited first) × (middle ≡ before) =
      builds-postorder before first tree middle b both.0 in
      let others : (all_postorder last ≡ cited rest) × (behind ≡ middle) =
      builds-all_postorder middle rest last behind all both.1 in (
        ap (λ (ls : List Token). ls ++ all_postorder last) one.0
            ∙ ap (λ (ls : List Token). cited first ++ ls) others.0
            ∙ sym (cited-append first rest),
        others.1 ∙ one.1,
      )

pub labels_are_postorder : LabelsArePostorder
labels_are_postorder labels forest saved = (built, builds)
  where
    built : AllBuild [] (citing labels) forest saved
        → (all_postorder forest ≡ labels) × (saved ≡ [])
    built w =
        let both : (cited (citing labels) ≡ labels) × (list_all is_citing (citing labels) ≡ true) =
        cited-citing labels in
        let said : (all_postorder forest ≡ cited (citing labels)) × (saved ≡ []) =
        builds-all_postorder [] (citing labels) forest saved w both.1 in
        (said.0 ∙ both.0, said.1)

    builds : (all_postorder forest ≡ labels) × (saved ≡ [])
        → AllBuild [] (citing labels) forest saved
    builds w =
        subst (λ (s : List ProofTree). AllBuild [] (citing labels) forest s) (sym w.1)
        (subst (λ (ls : List Token). AllBuild [] (citing ls) forest []) w.0
        (all_postorder-builds forest []))
