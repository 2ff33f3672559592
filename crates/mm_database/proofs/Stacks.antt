-- A stack accepts exactly the steps that build a forest, and at the end it has what the forest
-- proves.
use Rattle.std.proofs.Common.{◌≡◌, ℕ, zero, suc, ◌-◌, ◌≤◌, Bool, true, false, List, [], ◌∷◌, ◌++◌}
use Rattle.std.proofs.Common.{length, take, drop, refl, ap, ◌∙◌, sym, subst, arith, append_assoc}
use Rattle.std.proofs.Common.{append-nil, length-append, rules}
use Rattle.std.proofs.lemmas.List.{length-map}
use Rattle.std.proofs.Math.Seq.{take-append_seam}
use Rattle.std.specs.Prelude.{Option, Some, None, if◌then◌else◌, nat_le, option_map}
use Rattle.std.specs.Prelude.{option_and_then, slice_get}
use Rattle.mm_text.specs.Bytes.{Token}
use Rattle.mm_database.specs.Database.{Context}
use Rattle.mm_database.specs.Proofs.{Expression, instance_of, Leads, by_hypothesis, by_assertion}
use Rattle.mm_database.specs.Proofs.{ProofTree, proof_node, ProofForest, no_proof, more_proofs}
use Rattle.mm_database.specs.Proofs.{Proves, AllProve}
use Rattle.mm_database.specs.Steps.{Step, cites, saves, repeats, Builds, by_label, by_saving}
use Rattle.mm_database.specs.Steps.{by_repeating, AllBuild, no_steps, more_steps, BuildsAndProves}
use Rattle.mm_database.specs.Stack.{step_result, frame_arity, label_arity, arity, stack_with}
use Rattle.mm_database.specs.Stack.{stack_after_label, Saving, saving, saving_after_step}
use Rattle.mm_database.specs.Stack.{saving_after, stack_after}
use Rattle.mm_database.proofs.Applying.{step_result-complete, step_result-sound}
use Rattle.mm_database.proofs.Building.{built-joined, Cut, built-cut, built-one, one-built}
use Rattle.mm_database.proofs.Forests.{first_trees, last_trees, with_trees, AllProve-first}
use Rattle.mm_database.proofs.Forests.{AllProve-last, AllProve-joined}

-- a label leads from as many expressions as its arity
pub arity-Leads : {c : Context} {label : Token} {given : List Expression} {result : Expression}
    → Leads c label given result → length given ≡ arity c label
arity-Leads {c = c} {label = label} (by_hypothesis h is) =
    sym (ap (λ o. label_arity o (c.frames label)) is)
arity-Leads {c = c} {label = label} (by_assertion f sigma given result none is applies) =
    ap length applies.hypotheses ∙ length-map f.hypotheses (instance_of sigma)
    ∙ sym (ap (λ o. label_arity o (c.frames label)) none ∙ ap frame_arity is)

pub le_true : (m n : ℕ) → m ≤ n → nat_le m n ≡ true
le_true m n h = search rules

drop-append_seam : (xs ys : List Expression) → drop (length xs) (xs ++ ys) ≡ ys
drop-append_seam [] ys = refl
drop-append_seam (x ∷ xs) ys = drop-append_seam xs ys

label-complete : (c : Context) (label : Token) (stack given : List Expression) (result : Expression)
    → Leads c label given result
    → stack_after_label c label (stack ++ given) ≡ Some (stack ++ result ∷ [])
label-complete c label stack given result leads = go (arity c label) (arity-Leads leads)
  where
    go : (n : ℕ) → length given ≡ n
        → stack_with (step_result c label) n (stack ++ given) ≡ Some (stack ++ result ∷ [])
    go n count =
        let below : nat_le n (length (stack ++ given)) ≡ true =
        le_true n (length (stack ++ given)) (omega (arith, length-append stack given)) in
        let left : length (stack ++ given) - n ≡ length stack =
        omega (arith, length-append stack given) in
        let front : take (length stack) (stack ++ given) ≡ stack = take-append_seam stack given in
        let back : drop (length stack) (stack ++ given) ≡ given = drop-append_seam stack given in
        rw (below, left, front, back, step_result-complete leads) refl

-- a label leads from given expressions to only one expression, so a tree proves only one

Leads-one : {c : Context} {label : Token} {given : List Expression} {first second : Expression}
    → Leads c label given first → Leads c label given second → first ≡ second
Leads-one {c = c} {label = label} {given = given} a b =
    let one : step_result c label given ≡ Some _ = step_result-complete a in
    let two : step_result c label given ≡ Some _ = step_result-complete b in
    cc

mutual
  Proves-one : (c : Context) (tree : ProofTree) (first second : Expression) → Proves c tree first
      → Proves c tree second → first ≡ second
  Proves-one c (proof_node label trees) first second (given, leads, all) (given', leads', all') =
      Leads-one leads (subst (λ (es : List Expression). Leads c label es second)
      (sym (AllProve-one c trees given given' all all')) leads')

  AllProve-one : (c : Context) (trees : ProofForest) (first second : List Expression)
      → AllProve c trees first → AllProve c trees second → first ≡ second
  AllProve-one c no_proof first second h k = h ∙ sym k
  AllProve-one c (more_proofs tree trees) first second (e, rest, is, proves, all)
      (e', rest', is', proves', all') =
      is
      ∙ ap (λ (x : Expression). x ∷ rest) (Proves-one c tree e e' proves proves')
      ∙ ap (λ (xs : List Expression). e' ∷ xs) (AllProve-one c trees rest rest' all all')
      ∙ sym is'

-- the saved trees prove the saved entries, one by one

abbrev AreSaved : Context → List ProofTree → List Expression → Type 0
AreSaved c [] [] = Unit {0}
AreSaved c [] (e ∷ entries) = ⊥
AreSaved c (tree ∷ trees) [] = ⊥
AreSaved c (tree ∷ trees) (e ∷ entries) = Proves c tree e × AreSaved c trees entries

AreSaved-more : (c : Context) (trees : List ProofTree) (entries : List Expression)
    (tree : ProofTree) (e : Expression) → AreSaved c trees entries → Proves c tree e
    → AreSaved c (trees ++ tree ∷ []) (entries ++ e ∷ [])
AreSaved-more c [] [] tree e all p = (p, tt)
AreSaved-more c [] (d ∷ entries) tree e all p = absurd all
AreSaved-more c (t ∷ trees) [] tree e all p = absurd all
AreSaved-more c (t ∷ trees) (d ∷ entries) tree e all p =
    (all.0, AreSaved-more c trees entries tree e all.1 p)

-- the entry of a saved tree
AreSaved-entry : (c : Context) (trees : List ProofTree) (entries : List Expression) (n : ℕ)
    (tree : ProofTree) → AreSaved c trees entries → slice_get trees n ≡ Some tree
    → (e : Expression) × (slice_get entries n ≡ Some e) × Proves c tree e
AreSaved-entry c [] [] n tree all is = absurd (cc)
AreSaved-entry c [] (e ∷ entries) n tree all is = absurd all
AreSaved-entry c (t ∷ trees) [] n tree all is = absurd all
AreSaved-entry c (t ∷ trees) (e ∷ entries) zero tree all is =
    let same : t ≡ tree = cc in
    (e, refl, subst (λ (u : ProofTree). Proves c u e) same all.0)
AreSaved-entry c (t ∷ trees) (e ∷ entries) (suc n) tree all is =
    AreSaved-entry c trees entries n tree all.1 is

-- the tree of a saved entry
AreSaved-tree : (c : Context) (trees : List ProofTree) (entries : List Expression) (n : ℕ)
    (e : Expression) → AreSaved c trees entries → slice_get entries n ≡ Some e
    → (tree : ProofTree) × (slice_get trees n ≡ Some tree) × Proves c tree e
AreSaved-tree c [] [] n e all is = absurd (cc)
AreSaved-tree c [] (d ∷ entries) n e all is = absurd all
AreSaved-tree c (t ∷ trees) [] n e all is = absurd all
AreSaved-tree c (t ∷ trees) (d ∷ entries) zero e all is =
    let same : d ≡ e = cc in
    (t, refl, subst (λ (x : Expression). Proves c t x) same all.0)
AreSaved-tree c (t ∷ trees) (d ∷ entries) (suc n) e all is =
    AreSaved-tree c trees entries n e all.1 is

-- what is built can be put on any stack

slice_get-last : (stack : List Expression) (e : Expression)
    → slice_get (stack ++ e ∷ []) (length (stack ++ e ∷ []) - 1) ≡ Some e
slice_get-last stack e = ap (slice_get (stack ++ e ∷ [])) place ∙ at stack
  where
    place : length (stack ++ e ∷ []) - 1 ≡ length stack
    place = omega (arith, length-append stack (e ∷ []))

    at : (xs : List Expression) → slice_get (xs ++ e ∷ []) (length xs) ≡ Some e
    at [] = refl
    at (x ∷ xs) = at xs

-- steps put results on a stack, and afterwards these trees are saved
record Puts (c : Context) (steps : List (Step Token)) (results entries : List Expression)
    (saved : List ProofTree) : Type 0 where
  left : List Expression
  are_saved : AreSaved c saved left
  puts : (more : List (Step Token)) (stack : List Expression)
      → saving_after (stack_after_label c) (steps ++ more) (saving stack entries)
      ≡ saving_after (stack_after_label c) more (saving (stack ++ results) left)

mutual
  built-puts : (c : Context) (before : List ProofTree) (steps : List (Step Token))
      (tree : ProofTree) (behind : List ProofTree) (result : Expression)
      (entries : List Expression) → Builds before steps tree behind → Proves c tree result
      → AreSaved c before entries → Puts c steps (result ∷ []) entries behind
  built-puts c before steps tree behind result entries (by_label _ first label trees _ all)
      (given, leads, proves) are =
      let below : Puts c first given entries behind =
      all_built-puts c before first trees behind given entries all proves are in
      record {
        left = below.left;
        are_saved = below.are_saved;
        puts = λ more stack.
            ap (λ (ss : List (Step Token)).
            saving_after (stack_after_label c) ss (saving stack entries))
            (append_assoc first (cites label ∷ []) more)
            ∙ below.puts (cites label ∷ more) stack
            ∙ ap (λ o. option_and_then (saving_after (stack_after_label c) more)
            (option_map (λ s. saving s below.left) o))
            (label-complete c label stack given result leads);
      }
  built-puts c before steps tree behind result entries (by_saving _ first _ saved b) proves are =
      let below : Puts c first (result ∷ []) entries saved =
      built-puts c before first tree saved result entries b proves are in
      record {
        left = below.left ++ result ∷ [];
        are_saved = AreSaved-more c saved below.left tree result below.are_saved proves;
        puts = λ more stack.
            ap (λ (ss : List (Step Token)).
            saving_after (stack_after_label c) ss (saving stack entries))
            (append_assoc first (saves ∷ []) more)
            ∙ below.puts (saves ∷ more) stack
            ∙ ap (λ o. option_and_then (saving_after (stack_after_label c) more)
            (option_map (λ e. saving (stack ++ result ∷ []) (below.left ++ e ∷ [])) o))
            (slice_get-last stack result);
      }
  built-puts c before steps tree behind result entries (by_repeating _ n _ is) proves are =
      let found : (e : Expression) × (slice_get entries n ≡ Some e) × Proves c tree e =
      AreSaved-entry c before entries n tree are is in
      let same : found.0 ≡ result = Proves-one c tree found.0 result found.2 proves in
      record {
        left = entries;
        are_saved = are;
        puts = λ more stack.
            ap (λ o. option_and_then (saving_after (stack_after_label c) more)
            (option_map (λ e. saving (stack ++ e ∷ []) entries) o))
            (found.1 ∙ ap (λ (e : Expression). Some e) same);
      }

  all_built-puts : (c : Context) (before : List ProofTree) (steps : List (Step Token))
      (trees : ProofForest) (behind : List ProofTree) (results entries : List Expression)
      → AllBuild before steps trees behind → AllProve c trees results → AreSaved c before entries
      → Puts c steps results entries behind
  all_built-puts c before steps trees behind results entries (no_steps _) is are =
      record {
        left = entries;
        are_saved = are;
        puts =
            λ more stack. ap (λ (es : List Expression).
            saving_after (stack_after_label c) more (saving es entries))
            (sym (ap (λ (es : List Expression). stack ++ es) is ∙ append-nil stack));
      }
  all_built-puts c before steps trees behind results entries
      (more_steps _ first tree middle rest last _ b all) (e, others, is, proves, all_prove) are =
      let one : Puts c first (e ∷ []) entries middle =
      built-puts c before first tree middle e entries b proves are in
      let next : Puts c rest others one.left behind =
      all_built-puts c middle rest last behind others one.left all all_prove one.are_saved in
      record {
        left = next.left;
        are_saved = next.are_saved;
        puts = λ more stack.
            ap (λ (ss : List (Step Token)).
            saving_after (stack_after_label c) ss (saving stack entries))
            (append_assoc first rest more)
            ∙ one.puts (rest ++ more) stack
            ∙ next.puts more (stack ++ e ∷ [])
            ∙ ap (λ (es : List Expression).
            saving_after (stack_after_label c) more (saving es next.left))
            (append_assoc stack (e ∷ []) others
            ∙ ap (λ (es : List Expression). stack ++ es) (sym is));
      }

pub stack_after-complete : (c : Context) (steps : List (Step Token)) (results : List Expression)
    → BuildsAndProves c steps results → stack_after c steps ≡ Some results
stack_after-complete c steps results w =
    let puts : Puts c steps results [] w.saved =
    all_built-puts c [] steps w.forest w.saved results [] w.builds w.proves tt in
    ap (option_map (λ s. s.stack)) (ap
    (λ (ss : List (Step Token)). saving_after (stack_after_label c) ss (saving [] []))
    (sym (append-nil steps)) ∙ puts.puts [] [])

-- what is on a stack is proved by a forest that the steps so far build

record Built (c : Context) (done : List (Step Token)) (w : Saving Expression) : Type 0 where
  forest : ProofForest
  saved : List ProofTree
  builds : AllBuild [] done forest saved
  proves : AllProve c forest w.stack
  are_saved : AreSaved c saved w.saved

-- a label puts the last trees below a new node
Built-label : (c : Context) (done : List (Step Token)) (label : Token) (k : ℕ)
    (w : Saving Expression) (result : Expression) → Built c done w
    → step_result c label (drop k w.stack) ≡ Some result
    → Built c (done ++ cites label ∷ []) (saving (take k w.stack ++ result ∷ []) w.saved)
Built-label c done label k w result b gives =
    let cut : Cut [] done (first_trees k b.forest) (last_trees k b.forest) b.saved =
    built-cut k [] done b.forest b.saved b.builds in
    let node : ProofTree = proof_node label (last_trees k b.forest) in
    record {
      forest = with_trees (first_trees k b.forest) (more_proofs node no_proof);
      saved = b.saved;
      builds =
          subst (λ (ss : List (Step Token)). AllBuild [] ss
          (with_trees (first_trees k b.forest) (more_proofs node no_proof)) b.saved)
          (sym (append_assoc cut.first cut.rest (cites label ∷ []))
          ∙ ap (λ (ss : List (Step Token)). ss ++ cites label ∷ []) cut.same)
          (built-joined [] cut.first (first_trees k b.forest) cut.between
          (cut.rest ++ cites label ∷ []) (more_proofs node no_proof) b.saved cut.builds_front
          (built-one cut.between (cut.rest ++ cites label ∷ []) node b.saved
          (by_label cut.between cut.rest label (last_trees k b.forest) b.saved
          cut.builds_back)));
      proves =
          AllProve-joined c (first_trees k b.forest) (more_proofs node no_proof) (take k w.stack)
          (result ∷ []) (AllProve-first c k b.forest w.stack b.proves) (
            result,
            [],
            refl,
            (
              drop k w.stack,
              step_result-sound c label (drop k w.stack) result gives,
              AllProve-last c k b.forest w.stack b.proves,
            ),
            refl,
          );
      are_saved = b.are_saved;
    }

-- `Z` saves the last tree

drop-last : (xs : List Expression) (e : Expression) → slice_get xs (length xs - 1) ≡ Some e
    → drop (length xs - 1) xs ≡ e ∷ []
drop-last [] e is = absurd (cc)
drop-last (x ∷ []) e is =
    let same : x ≡ e = cc in
    ap (λ (y : Expression). y ∷ []) same
drop-last (x ∷ (y ∷ ys)) e is =
    let place : length (x ∷ (y ∷ ys)) - 1 ≡ suc (length (y ∷ ys) - 1) = omega arith in
    ap (λ (n : ℕ). drop n (x ∷ (y ∷ ys))) place
    ∙ drop-last (y ∷ ys) e (sym (ap (slice_get (x ∷ (y ∷ ys))) place) ∙ is)

take-drop : (n : ℕ) (xs : List Expression) → take n xs ++ drop n xs ≡ xs
take-drop zero xs = refl
take-drop (suc n) [] = refl
take-drop (suc n) (x ∷ xs) = ap (λ (es : List Expression). x ∷ es) (take-drop n xs)

saved-last : (c : Context) (done first rest : List (Step Token)) (front back : ProofForest)
    (between saved : List ProofTree) (stack entries given : List Expression) (e : Expression)
    → first ++ rest ≡ done → AllBuild [] first front between → AllBuild between rest back saved
    → AllProve c front given → AllProve c back (e ∷ []) → given ++ e ∷ [] ≡ stack
    → AreSaved c saved entries → Built c (done ++ saves ∷ []) (saving stack (entries ++ e ∷ []))
saved-last c done first rest front no_proof between saved stack entries given e same begins ends
    proves none is are =
    absurd (cc)
saved-last c done first rest front (more_proofs tree (more_proofs other trees)) between saved stack
    entries given e same begins ends proves (x, xs, one, p, (y, ys, two, q, all)) is are =
    absurd (cc)
saved-last c done first rest front (more_proofs tree no_proof) between saved stack entries given e
    same begins ends proves (x, xs, one, p, none) is are =
    let this : x ≡ e = cc in
    let tree_proves : Proves c tree e = subst (λ (d : Expression). Proves c tree d) this p in
    record {
      forest = with_trees front (more_proofs tree no_proof);
      saved = saved ++ tree ∷ [];
      builds =
          subst (λ (ss : List (Step Token)).
          AllBuild [] ss (with_trees front (more_proofs tree no_proof)) (saved ++ tree ∷ []))
          (sym (append_assoc first rest (saves ∷ []))
          ∙ ap (λ (ss : List (Step Token)). ss ++ saves ∷ []) same)
          (built-joined [] first front between (rest ++ saves ∷ []) (more_proofs tree no_proof)
          (saved ++ tree ∷ []) begins (built-one between (rest ++ saves ∷ []) tree
          (saved ++ tree ∷ [])
          (by_saving between rest tree saved (one-built between rest tree saved ends))));
      proves =
          subst (λ (es : List Expression).
          AllProve c (with_trees front (more_proofs tree no_proof)) es) is
          (AllProve-joined c front (more_proofs tree no_proof) given (e ∷ []) proves
          (e, [], refl, tree_proves, refl));
      are_saved = AreSaved-more c saved entries tree e are tree_proves;
    }

Built-save : (c : Context) (done : List (Step Token)) (w : Saving Expression) (e : Expression)
    → Built c done w → slice_get w.stack (length w.stack - 1) ≡ Some e
    → Built c (done ++ saves ∷ []) (saving w.stack (w.saved ++ e ∷ []))
Built-save c done w e b is =
    let k : ℕ = length w.stack - 1 in
    let cut : Cut [] done (first_trees k b.forest) (last_trees k b.forest) b.saved =
    built-cut k [] done b.forest b.saved b.builds in
    let alone : drop k w.stack ≡ e ∷ [] = drop-last w.stack e is in
    let last : AllProve c (last_trees k b.forest) (e ∷ []) =
    subst (λ (es : List Expression). AllProve c (last_trees k b.forest) es) alone
    (AllProve-last c k b.forest w.stack b.proves) in
    let whole : take k w.stack ++ e ∷ [] ≡ w.stack =
    ap (λ (es : List Expression). take k w.stack ++ es) (sym alone) ∙ take-drop k w.stack in
    saved-last c done cut.first cut.rest (first_trees k b.forest) (last_trees k b.forest)
    cut.between b.saved w.stack w.saved (take k w.stack) e cut.same cut.builds_front
    cut.builds_back (AllProve-first c k b.forest w.stack b.proves) last whole b.are_saved

-- a saved tree is built again
Built-repeat : (c : Context) (done : List (Step Token)) (n : ℕ) (w : Saving Expression)
    (e : Expression) → Built c done w → slice_get w.saved n ≡ Some e
    → Built c (done ++ repeats n ∷ []) (saving (w.stack ++ e ∷ []) w.saved)
Built-repeat c done n w e b is =
    let found : (tree : ProofTree) × (slice_get b.saved n ≡ Some tree) × Proves c tree e =
    AreSaved-tree c b.saved w.saved n e b.are_saved is in
    record {
      forest = with_trees b.forest (more_proofs found.0 no_proof);
      saved = b.saved;
      builds =
          built-joined [] done b.forest b.saved (repeats n ∷ []) (more_proofs found.0 no_proof)
          b.saved b.builds (built-one b.saved (repeats n ∷ []) found.0 b.saved
          (by_repeating b.saved n found.0 found.1));
      proves =
          AllProve-joined c b.forest (more_proofs found.0 no_proof) w.stack (e ∷ []) b.proves
          (e, [], refl, found.2, refl);
      are_saved = b.are_saved;
    }

Built-step : (c : Context) (done : List (Step Token)) (step : Step Token)
    (w next : Saving Expression) → Built c done w
    → saving_after_step (stack_after_label c) step w ≡ Some next → Built c (done ++ step ∷ []) next
Built-step c done (cites label) w next b steps =
    fits (nat_le (arity c label) (length w.stack)) steps
  where
    k : ℕ
    k = length w.stack - arity c label

    made : (e : Option Expression) → step_result c label (drop k w.stack) ≡ e
        → option_map (λ s. saving s w.saved) (option_map (λ r. take k w.stack ++ r ∷ []) e)
        ≡ Some next → Built c (done ++ cites label ∷ []) next
    made None is h = absurd (cc)
    made (Some result) is h =
        let same : saving (take k w.stack ++ result ∷ []) w.saved ≡ next = cc in
        subst (λ (v : Saving Expression). Built c (done ++ cites label ∷ []) v) same
        (Built-label c done label k w result b is)

    fits : (test : Bool)
        → option_map (λ s. saving s w.saved) (if test
        then option_map (λ r. take k w.stack ++ r ∷ [])
        (step_result c label (drop k w.stack)) else None) ≡ Some next
        → Built c (done ++ cites label ∷ []) next
    fits true h = made (step_result c label (drop k w.stack)) refl h
    fits false h = absurd (cc)
Built-step c done saves w next b steps = go (slice_get w.stack (length w.stack - 1)) refl steps
  where
    go : (o : Option Expression) → slice_get w.stack (length w.stack - 1) ≡ o
        → option_map (λ e. saving w.stack (w.saved ++ e ∷ [])) o ≡ Some next
        → Built c (done ++ saves ∷ []) next
    go None is h = absurd (cc)
    go (Some e) is h =
        let same : saving w.stack (w.saved ++ e ∷ []) ≡ next = cc in
        subst (λ (v : Saving Expression). Built c (done ++ saves ∷ []) v) same
        (Built-save c done w e b is)
Built-step c done (repeats n) w next b steps = go (slice_get w.saved n) refl steps
  where
    go : (o : Option Expression) → slice_get w.saved n ≡ o
        → option_map (λ e. saving (w.stack ++ e ∷ []) w.saved) o ≡ Some next
        → Built c (done ++ repeats n ∷ []) next
    go None is h = absurd (cc)
    go (Some e) is h =
        let same : saving (w.stack ++ e ∷ []) w.saved ≡ next = cc in
        subst (λ (v : Saving Expression). Built c (done ++ repeats n ∷ []) v) same
        (Built-repeat c done n w e b is)

Built-steps : (c : Context) (done steps : List (Step Token)) (w last : Saving Expression)
    → Built c done w → saving_after (stack_after_label c) steps w ≡ Some last
    → Built c (done ++ steps) last
Built-steps c done [] w last b runs =
    let same : w ≡ last = cc in
    subst (λ (ss : List (Step Token)). Built c ss last) (sym (append-nil done))
    (subst (λ (v : Saving Expression). Built c done v) same b)
Built-steps c done (step ∷ steps) w last b runs =
    go (saving_after_step (stack_after_label c) step w) refl runs
    (λ next made h. Built-steps c (done ++ step ∷ []) steps next last made h)
  where
    go : (o : Option (Saving Expression)) → saving_after_step (stack_after_label c) step w ≡ o
        → option_and_then (saving_after (stack_after_label c) steps) o ≡ Some last
        → ((next : Saving Expression) → Built c (done ++ step ∷ []) next
        → saving_after (stack_after_label c) steps next ≡ Some last
        → Built c ((done ++ step ∷ []) ++ steps) last) → Built c (done ++ step ∷ steps) last
    go None is h behind = absurd (cc)
    go (Some next) is h behind =
        subst (λ (ss : List (Step Token)). Built c ss last) (append_assoc done (step ∷ []) steps)
        (behind next (Built-step c done step w next b is) h)

pub stack_after-sound : (c : Context) (steps : List (Step Token)) (results : List Expression)
    → stack_after c steps ≡ Some results → BuildsAndProves c steps results
stack_after-sound c steps results runs =
    go (saving_after (stack_after_label c) steps (saving [] [])) refl runs
  where
    go : (o : Option (Saving Expression))
        → saving_after (stack_after_label c) steps (saving [] []) ≡ o
        → option_map (λ w. w.stack) o ≡ Some results → BuildsAndProves c steps results
    go None is h = absurd (cc)
    go (Some w) is h =
        let b : Built c steps w =
        Built-steps c [] steps (saving [] []) w (record {
          forest = no_proof;
          saved = [];
          builds = no_steps [];
          proves = refl;
          are_saved = tt;
        }) is in
        let same : w.stack ≡ results = cc in
        record {
          forest = b.forest;
          saved = b.saved;
          builds = b.builds;
          proves = subst (λ (es : List Expression). AllProve c b.forest es) same b.proves;
        }
