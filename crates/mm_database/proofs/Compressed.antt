-- The steps and the tokens of a proof's text, in both notations.
use Rattle.std.proofs.Common.{◌≡◌, ◌≢◌, Bool, true, false, List, [], ◌∷◌, ◌++◌, refl, ap, ◌∙◌, sym}
use Rattle.std.proofs.Common.{append-nil}
use Rattle.std.specs.Prelude.{◌&&◌, ◌||◌, not, codes, bytes_eq, Option}
use Rattle.std.specs.Prelude.{Some, None, is_some, option_and_then}
use Rattle.std.specs.List.{list_any, list_all}
use Rattle.std.proofs.lemmas.Bool.{false≢true}
use Rattle.std.proofs.lemmas.Slice.Eq.{bytes_eq-Decides}
use Rattle.mm_text.specs.Bytes.{Token, has_token, has_repeated}
use Rattle.mm_text.specs.Compressed.{CompressedStep, steps_of}
use Rattle.mm_text.specs.Labels.{is_label}
use Rattle.mm_text.specs.PlainTokens.{is_plain_token}
use Rattle.mm_text.proofs.Truths.{both_true}
use Rattle.mm_database.specs.Forms.{has_dollar}
use Rattle.mm_database.specs.Frames.{Frame}
use Rattle.mm_database.specs.Database.{Context}
use Rattle.mm_database.specs.Proofs.{Expression, Leads, by_hypothesis, by_assertion, ProofTree}
use Rattle.mm_database.specs.Proofs.{proof_node, ProofForest, no_proof, more_proofs, Proves}
use Rattle.mm_database.specs.Proofs.{AllProve, postorder, all_postorder}
use Rattle.mm_database.specs.Steps.{Step, Builds, BuildsAndProves}
use Rattle.mm_database.specs.ProofText.{is_citable, before_close, behind_close, are_listed}
use Rattle.mm_database.specs.ProofText.{mandatory_labels, lettered_steps, steps_of_numbers}
use Rattle.mm_database.specs.ProofText.{compressed_steps, proof_steps}
use Rattle.mm_database.specs.CleanTokens.{are_clean}
use Rattle.mm_database.specs.ProofTexts.{Compresses, IsProofText, by_labels}
use Rattle.mm_database.specs.ProofTexts.{by_letters}
use Rattle.mm_database.specs.Writing.{ProofTextIsPlain}
use Rattle.mm_database.proofs.Building.{citing, postorder-builds, built-one}
use Rattle.mm_database.proofs.LabelTokens.{label_facts, labels_clean, labels_plain}
use Rattle.mm_database.proofs.LabelTokens.{letters_are_label}

and_true : (a b : Bool) → a ≡ true → b ≡ true → (a && b) ≡ true
and_true a b h k = rw (h, k) refl

list_all-append : (test : Token → Bool) (xs ys : List Token) → list_all test xs ≡ true
    → list_all test ys ≡ true → list_all test (xs ++ ys) ≡ true
list_all-append test [] ys h k = k
list_all-append test (x ∷ xs) ys h k =
    let both : (test x ≡ true) × (list_all test xs ≡ true) =
    both_true (test x) (list_all test xs) h in
    and_true (test x) (list_all test (xs ++ ys)) both.0 (list_all-append test xs ys both.1 k)

-- each label of a tree that proves something may be cited

is_citable-Leads : {c : Context} {label : Token} {given : List Expression} {result : Expression}
    → Leads c label given result → is_citable c label ≡ true
is_citable-Leads {c = c} {label = label} (by_hypothesis h is) =
    ap (λ o. is_some o || is_some (c.frames label)) is
is_citable-Leads {c = c} {label = label} (by_assertion f sigma given result none is applies) =
    ap (λ o. is_some o || is_some (c.frames label)) none ∙ ap (λ (o : Option Frame). is_some o) is

mutual
  postorder-citable : (c : Context) (tree : ProofTree) (result : Expression) → Proves c tree result
      → list_all (is_citable c) (postorder tree) ≡ true
  postorder-citable c (proof_node label trees) result (given, leads, all) =
      list_all-append (is_citable c) (all_postorder trees) (label ∷ [])
      (all_postorder-citable c trees given all)
      (and_true (is_citable c label) true (is_citable-Leads leads) refl)

  all_postorder-citable : (c : Context) (trees : ProofForest) (results : List Expression)
      → AllProve c trees results → list_all (is_citable c) (all_postorder trees) ≡ true
  all_postorder-citable c no_proof results h = refl
  all_postorder-citable c (more_proofs tree trees) results (first, rest, is, proof, all) =
      list_all-append (is_citable c) (postorder tree) (all_postorder trees)
      (postorder-citable c tree first proof) (all_postorder-citable c trees rest all)

-- what is true of each label of a tree is true of a label that is one of them, and of such labels

of_one : (test : Token → Bool) (ts : List Token) (t : Token) → has_token ts t ≡ true
    → list_all test ts ≡ true → test t ≡ true
of_one test [] t there all = absurd (false≢true there)
of_one test (u ∷ ts) t there all =
    go (bytes_eq u t) refl there (both_true (test u) (list_all test ts) all) (of_one test ts t)
  where
    go : (b : Bool) → bytes_eq u t ≡ b → (b || has_token ts t) ≡ true
        → ((test u ≡ true) × (list_all test ts ≡ true))
        → (has_token ts t ≡ true → list_all test ts ≡ true → test t ≡ true) → test t ≡ true
    go true is found both behind = ap test (sym ((bytes_eq-Decides u t).0 is)) ∙ both.0
    go false is found both behind = behind found both.1

of_some : (test : Token → Bool) (ts listed : List Token) → list_all (has_token ts) listed ≡ true
    → list_all test ts ≡ true → list_all test listed ≡ true
of_some test ts [] among all = refl
of_some test ts (t ∷ listed) among all =
    let both : (has_token ts t ≡ true) × (list_all (has_token ts) listed ≡ true) =
    both_true (has_token ts t) (list_all (has_token ts) listed) among in
    and_true (test t) (list_all test listed) (of_one test ts t both.0 all)
    (of_some test ts listed both.1 all)

-- the parts of a compressed proof

before_close-listed : (listed rest : List Token) → list_all is_label listed ≡ true
    → before_close (listed ++ codes ")" ∷ rest) ≡ listed
before_close-listed [] rest h = refl
before_close-listed (t ∷ listed) rest h =
    let both : (is_label t ≡ true) × (list_all is_label listed ≡ true) =
    both_true (is_label t) (list_all is_label listed) h in
    rw (label_facts t both.0).no_close
    (ap (λ (ts : List Token). t ∷ ts) (before_close-listed listed rest both.1))

behind_close-listed : (listed rest : List Token) → list_all is_label listed ≡ true
    → behind_close (listed ++ codes ")" ∷ rest) ≡ rest
behind_close-listed [] rest h = refl
behind_close-listed (t ∷ listed) rest h =
    let both : (is_label t ≡ true) × (list_all is_label listed ≡ true) =
    both_true (is_label t) (list_all is_label listed) h in
    rw (label_facts t both.0).no_close (behind_close-listed listed rest both.1)

has_close : (listed rest : List Token) → has_token (listed ++ codes ")" ∷ rest) (codes ")") ≡ true
has_close [] rest = refl
has_close (t ∷ listed) rest = go (bytes_eq t (codes ")")) (has_close listed rest)
  where
    go : (b : Bool) → has_token (listed ++ codes ")" ∷ rest) (codes ")") ≡ true
        → (b || has_token (listed ++ codes ")" ∷ rest) (codes ")")) ≡ true
    go true behind = refl
    go false behind = behind

not_false : (b : Bool) → b ≡ false → not b ≡ true
not_false b h = rw h refl

are_listed-true : (c : Context) (mandatory listed : List Token)
    → list_all (is_citable c) listed ≡ true → has_repeated listed ≡ false
    → list_any (has_token mandatory) listed ≡ false → are_listed c mandatory listed ≡ true
are_listed-true c mandatory listed citable once others =
    and_true (list_all (is_citable c) listed) _ citable
    (and_true (not (has_repeated listed)) (not (list_any (has_token mandatory) listed))
    (not_false (has_repeated listed) once)
    (not_false (list_any (has_token mandatory) listed) others))

-- a text has steps, and they build the tree
pub record HasSteps (c : Context) (f : Frame) (tree : ProofTree) (proof : List Token) : Type 0 where
  pub steps : List (Step Token)
  pub saved : List ProofTree
  pub means : proof_steps c f proof ≡ Some steps
  pub builds : Builds [] steps tree saved

compressed_has_steps : (c : Context) (f : Frame) (tree : ProofTree) (result : Expression)
    (proof : List Token) → Proves c tree result → list_all is_label (postorder tree) ≡ true
    → Compresses (mandatory_labels f) tree proof → HasSteps c f tree proof
compressed_has_steps c f tree result proof proves_it spelt w =
    let labels : list_all is_label w.listed ≡ true =
    of_some is_label (postorder tree) w.listed w.used spelt in
    let citable : list_all (is_citable c) w.listed ≡ true =
    of_some (is_citable c) (postorder tree) w.listed w.used
    (postorder-citable c tree result proves_it) in
    let tokens : List Token = w.listed ++ (codes ")" ∷ (w.letters ∷ [])) in
    let front : before_close tokens ≡ w.listed =
    before_close-listed w.listed (w.letters ∷ []) labels in
    let back : behind_close tokens ≡ w.letters ∷ [] =
    behind_close-listed w.listed (w.letters ∷ []) labels in
    let closed : has_token tokens (codes ")") ≡ true = has_close w.listed (w.letters ∷ []) in
    let listed : are_listed c (mandatory_labels f) w.listed ≡ true =
    are_listed-true c (mandatory_labels f) w.listed citable w.once w.others in
    let said : compressed_steps c f tokens ≡ Some w.steps =
    rw (closed, front, back, listed)
    (ap (lettered_steps (mandatory_labels f ++ w.listed)) (append-nil w.letters) ∙ w.means) in
    record {
      steps = w.steps;
      saved = w.saved;
      means = ap (proof_steps c f) w.is ∙ said;
      builds = w.builds;
    }

-- labels that may all be cited are the labels of a proof as they are
proof_steps-plain : (c : Context) (f : Frame) (token : Token) (tokens : List Token)
    → list_all (is_citable c) (token ∷ tokens) ≡ true → is_label token ≡ true
    → proof_steps c f (token ∷ tokens) ≡ Some (citing (token ∷ tokens))
proof_steps-plain c f token tokens citable spelt =
    rw ((label_facts token spelt).no_bracket, citable) refl

has_last : (xs : List Token) (label : Token) → xs ++ label ∷ [] ≢ []
has_last [] label h = cc
has_last (x ∷ xs) label h = cc

proof_steps-labels : (c : Context) (f : Frame) (ls : List Token) → ls ≢ []
    → list_all (is_citable c) ls ≡ true → list_all is_label ls ≡ true
    → proof_steps c f ls ≡ Some (citing ls)
proof_steps-labels c f [] some citable spelt = absurd (some refl)
proof_steps-labels c f (token ∷ tokens) some citable spelt =
    proof_steps-plain c f token tokens citable
    (both_true (is_label token) (list_all is_label tokens) spelt).0

is_some_labels : (tree : ProofTree) → postorder tree ≢ []
is_some_labels (proof_node label trees) = has_last (all_postorder trees) label

pub text_has_steps : (c : Context) (f : Frame) (tree : ProofTree) (result : Expression)
    (proof : List Token) → Proves c tree result → list_all is_label (postorder tree) ≡ true
    → IsProofText (mandatory_labels f) tree proof → HasSteps c f tree proof
text_has_steps c f tree result proof proves_it spelt by_labels =
    record {
      steps = citing (postorder tree);
      saved = [];
      means =
          proof_steps-labels c f (postorder tree) (is_some_labels tree)
          (postorder-citable c tree result proves_it) spelt;
      builds = postorder-builds tree [];
    }
text_has_steps c f tree result proof proves_it spelt (by_letters _ w) =
    compressed_has_steps c f tree result proof proves_it spelt w

-- so they prove what the tree proves
pub steps_prove : {c : Context} {f : Frame} {tree : ProofTree} {proof : List Token}
    (result : Expression) → Proves c tree result → (w : HasSteps c f tree proof)
    → BuildsAndProves c w.steps (result ∷ [])
steps_prove {tree = tree} result proves_it w = record {
  forest = more_proofs tree no_proof;
  saved = w.saved;
  builds = built-one [] w.steps tree w.saved w.builds;
  proves = (result, [], refl, proves_it, refl);
}

-- the tokens

letters_mean : (table : List Token) (letters : Token) (steps : List (Step Token))
    → lettered_steps table letters ≡ Some steps
    → (numbers : List CompressedStep) × (steps_of letters ≡ Some numbers)
letters_mean table letters steps h = go (steps_of letters) h
  where
    go : (o : Option (List CompressedStep))
        → option_and_then (steps_of_numbers table 0) o ≡ Some steps
        → (numbers : List CompressedStep) × (o ≡ Some numbers)
    go None none = absurd (let z : ⊥ = cc in z)
    go (Some numbers) is = (numbers, refl)

pub compressed_plain : (mandatory : List Token) (tree : ProofTree) (proof : List Token)
    → list_all is_label (postorder tree) ≡ true → Compresses mandatory tree proof
    → (list_all is_plain_token proof ≡ true) × (are_clean proof ≡ true)
compressed_plain mandatory tree proof spelt w =
    let labels : list_all is_label w.listed ≡ true =
    of_some is_label (postorder tree) w.listed w.used spelt in
    let numbers : (ns : List CompressedStep) × (steps_of w.letters ≡ Some ns) =
    letters_mean (mandatory ++ w.listed) w.letters w.steps w.means in
    let last : is_label w.letters ≡ true =
    letters_are_label w.letters numbers.0 numbers.1 in
    let end : list_all is_label (w.letters ∷ []) ≡ true =
    and_true (is_label w.letters) true last refl in (
      ap (list_all is_plain_token) w.is
          ∙ list_all-append is_plain_token w.listed (codes ")" ∷ (w.letters ∷ []))
          (labels_plain w.listed labels) (labels_plain (w.letters ∷ []) end),
      ap are_clean w.is
          ∙ list_all-append (λ t. not (has_dollar t)) w.listed (codes ")" ∷ (w.letters ∷ []))
          (labels_clean w.listed labels) (labels_clean (w.letters ∷ []) end),
    )

pub proof_text_is_plain : ProofTextIsPlain
proof_text_is_plain mandatory tree proof spelt by_labels =
    (labels_plain (postorder tree) spelt, labels_clean (postorder tree) spelt)
proof_text_is_plain mandatory tree proof spelt (by_letters _ w) =
    compressed_plain mandatory tree proof spelt w
