-- What a walk keeps: the trees that its steps have built, and the tasks that are left, give the
-- tree of the root.
use Rattle.std.proofs.Common.{◌≡◌, ℕ, zero, suc, ◌<◌, List, [], ◌∷◌, ◌++◌, length, map, Some}
use Rattle.std.proofs.Common.{refl, sym, ap, ◌∙◌, subst, append-nil, append_assoc, arith}
use Rattle.std.specs.Prelude.{slice_get}
use Rattle.std.proofs.lemmas.List.{map-append}
use Rattle.std.proofs.lemmas.Grind.{flat_map-append}
use Rattle.mm_text.specs.Bytes.{Token}
use Rattle.mm_database.specs.Proofs.{ProofTree, proof_node}
use Rattle.mm_database.specs.Steps.{Step, cites, saves, repeats, Builds, by_repeating}
use Rattle.proof_nodes.specs.Tables.{Node, AllBelow, tree_at, node_trees, forest_of}
use Rattle.proof_nodes.specs.Walking.{step_meaning, meanings_of, label_of, labels_of, visits}
use Rattle.proof_nodes.specs.Walking.{CitesNodes, Takes, repeats_node, visits_parts, cites_node}
use Rattle.proof_nodes.specs.Walking.{saves_node, node_of_task}
use Rattle.proof_nodes.specs.declared.walk.ProofStep.{ProofStep}
use Rattle.proof_nodes.specs.declared.walk.ProofStep.TheVariants.{Cites, CitesAndSaves, Repeats}
use Rattle.proof_nodes.specs.declared.walk.Task.{Task}
use Rattle.proof_nodes.specs.declared.walk.Task.TheVariants.{Visit, Finish}
use Rattle.proof_nodes.specs.declared.walk.Walk.{Walk}
use Rattle.proof_nodes.proofs.Growing.{AllBelow-append, AllBelow-wider}
use Rattle.proof_nodes.proofs.Trees.{AreOrdered, tree_of-node}
use Rattle.proof_nodes.proofs.Placing.{labels_of-push}
use Rattle.proof_nodes.proofs.Built.{Built, built-push, built-cited, built-saved, built-alone}

module _ (trees : List ProofTree) (nodes : List Node) where
  -- what has to hold of the trees that are built before a task, so that `goal` holds after it
  abbrev pub after_task : Task → (List ProofTree → Type 0) → List ProofTree → Type 0
  after_task (Visit n) goal done = goal (done ++ tree_at trees n ∷ [])
  after_task (Finish n) goal done =
      (front : List ProofTree) × (node : Node) × (slice_get nodes n ≡ Some node)
      × (done ≡ front ++ map (tree_at trees) node.1) × goal (front ++ tree_at trees n ∷ [])

  -- the same of tasks, the last one first
  abbrev pub after_tasks : List Task → (List ProofTree → Type 0) → List ProofTree → Type 0
  after_tasks [] goal done = goal done
  after_tasks (task ∷ tasks) goal done = after_tasks tasks (after_task task goal) done

  pub tasks-split : (xs ys : List Task) (goal : List ProofTree → Type 0) (done : List ProofTree)
      → after_tasks (xs ++ ys) goal done → after_tasks ys (after_tasks xs goal) done
  tasks-split [] ys goal done h = h
  tasks-split (x ∷ xs) ys goal done h = tasks-split xs ys (after_task x goal) done h

  pub tasks-joined : (xs ys : List Task) (goal : List ProofTree → Type 0) (done : List ProofTree)
      → after_tasks ys (after_tasks xs goal) done → after_tasks (xs ++ ys) goal done
  tasks-joined [] ys goal done h = h
  tasks-joined (x ∷ xs) ys goal done h = tasks-joined xs ys (after_task x goal) done h

  pub after_visits : (ns : List ℕ) (goal : List ProofTree → Type 0) (done : List ProofTree)
      → goal (done ++ map (tree_at trees) ns) → after_tasks (visits ns) goal done
  after_visits [] goal done h = subst goal (append-nil done) h
  after_visits (n ∷ ns) goal done h =
      tasks-joined (visits ns) (Visit n ∷ []) goal done
      (after_visits ns goal (done ++ tree_at trees n ∷ [])
      (subst goal (sym (append_assoc done (tree_at trees n ∷ []) (map (tree_at trees) ns))) h))

-- the walk over a tree is as it should be
pub record Holds (token : ℕ → Token) (nodes : List Node) (root : ℕ) (tasks : List Task)
    (saved : List ℕ) (steps : List ProofStep) : Type 0 where
  pub done : List ProofTree
  pub built : Built [] (meanings_of token steps) done
      (map (tree_at (node_trees token nodes)) saved)
  pub ends : after_tasks (node_trees token nodes) nodes tasks
      (λ (d : List ProofTree). d ≡ tree_at (node_trees token nodes) root ∷ []) done

pub holds_first : (token : ℕ → Token) (nodes : List Node) (root : ℕ)
    → Holds token nodes root (Visit root ∷ []) [] []
holds_first token nodes root = record { done = []; built = (refl, refl); ends = refl }

pub holds_last : (token : ℕ → Token) (nodes : List Node) (root : ℕ) (saved : List ℕ)
    (steps : List ProofStep) → Holds token nodes root [] saved steps
    → (behind : List ProofTree)
    × Builds [] (meanings_of token steps) (tree_at (node_trees token nodes) root) behind
holds_last token nodes root saved steps h = (
  map (tree_at (node_trees token nodes)) saved,
  built-alone [] (meanings_of token steps) (tree_at (node_trees token nodes) root)
      (map (tree_at (node_trees token nodes)) saved)
      (subst (λ (d : List ProofTree). Built [] (meanings_of token steps) d
      (map (tree_at (node_trees token nodes)) saved)) h.ends h.built),
)

meanings-push : (token : ℕ → Token) (steps : List ProofStep) (step : ProofStep)
    → meanings_of token (steps ++ step ∷ []) ≡ meanings_of token steps ++ step_meaning token step
meanings-push token steps step =
    flat_map-append (step_meaning token) steps (step ∷ [])
    ∙ ap (λ (ss : List (Step Token)). meanings_of token steps ++ ss)
    (append-nil (step_meaning token step))

mapped : (f : ℕ → ProofTree) (ns : List ℕ) (i n : ℕ) → slice_get ns i ≡ Some n
    → slice_get (map f ns) i ≡ Some (f n)
mapped f [] i n h = absurd (let z : ⊥ = cc in z)
mapped f (m ∷ ns) zero n h = let same : m ≡ n = cc in ap (λ k. Some (f k)) same
mapped f (m ∷ ns) (suc i) n h = mapped f ns i n h

module _ (token : ℕ → Token) (nodes : List Node) (root : ℕ) (rest : List Task) (saved : List ℕ)
    (steps : List ProofStep) where
  pub holds_repeated : (n i : ℕ) → slice_get saved i ≡ Some n
      → Holds token nodes root (rest ++ Visit n ∷ []) saved steps
      → Holds token nodes root rest saved (steps ++ Repeats i ∷ [])
  holds_repeated n i is h =
      let trees = node_trees token nodes in
      let goal : List ProofTree → Type 0 =
      λ (d : List ProofTree). d ≡ tree_at (node_trees token nodes) root ∷ [] in
      record {
        done = h.done ++ tree_at trees n ∷ [];
        built =
            subst (λ (ss : List (Step Token)). Built [] ss (h.done ++ tree_at (node_trees token
            nodes) n ∷ []) (map (tree_at (node_trees token nodes)) saved))
            (sym (meanings-push token steps (Repeats i)))
            (built-push [] (meanings_of token steps) h.done (map (tree_at trees) saved)
            (repeats i ∷ []) (tree_at trees n) (map (tree_at trees) saved) h.built
            (by_repeating (map (tree_at trees) saved) i (tree_at trees n)
            (mapped (tree_at trees) saved i n is)));
        ends = tasks-split trees nodes rest (Visit n ∷ []) goal h.done h.ends;
      }

  pub holds_visited : (n : ℕ) (node : Node) → slice_get nodes n ≡ Some node
      → Holds token nodes root (rest ++ Visit n ∷ []) saved steps
      → Holds token nodes root (rest ++ (Finish n ∷ visits node.1)) saved steps
  holds_visited n node is h =
      let trees = node_trees token nodes in
      let goal : List ProofTree → Type 0 =
      λ (d : List ProofTree). d ≡ tree_at (node_trees token nodes) root ∷ [] in
      record {
        done = h.done;
        built = h.built;
        ends =
            tasks-joined trees nodes rest (Finish n ∷ visits node.1) goal h.done
            (after_visits trees nodes node.1
            (after_task trees nodes (Finish n) (after_tasks trees nodes rest goal)) h.done (
              h.done,
              node,
              is,
              refl,
              tasks-split trees nodes rest (Visit n ∷ []) goal h.done h.ends,
            ));
      }

  -- what a finished node takes
  record Taken (n : ℕ) (node : Node) : Type 0 where
    front : List ProofTree
    built : Built [] (meanings_of token steps)
        (front ++ map (tree_at (node_trees token nodes)) node.1)
        (map (tree_at (node_trees token nodes)) saved)
    ends : after_tasks (node_trees token nodes) nodes rest
        (λ (d : List ProofTree). d ≡ tree_at (node_trees token nodes) root ∷ [])
        (front ++ proof_node (token node.0)
        (forest_of (map (tree_at (node_trees token nodes)) node.1)) ∷ [])

  taken : (n : ℕ) (node : Node) → AllBelow n node.1 → slice_get nodes n ≡ Some node
      → Holds token nodes root (rest ++ Finish n ∷ []) saved steps → Taken n node
  taken n node fits is h =
      let trees = node_trees token nodes in
      let goal : List ProofTree → Type 0 =
      λ (d : List ProofTree). d ≡ tree_at (node_trees token nodes) root ∷ [] in
      let e : after_task (node_trees token nodes) nodes (Finish n)
      (after_tasks (node_trees token nodes) nodes rest goal) h.done =
      tasks-split trees nodes rest (Finish n ∷ []) goal h.done h.ends in
      let same : e.1 ≡ node = (let s : Some e.1 ≡ Some node = sym e.2 ∙ is in cc) in
      record {
        front = e.0;
        built =
            subst (λ (d : List ProofTree). Built [] (meanings_of token steps) d
            (map (tree_at (node_trees token nodes)) saved))
            (e.3 ∙ ap (λ (x : Node). e.0 ++ map (tree_at (node_trees token nodes)) x.1) same)
            h.built;
        ends =
            subst (λ (t : ProofTree). after_tasks (node_trees token nodes) nodes rest goal
            (e.0 ++ t ∷ [])) (tree_of-node token nodes n node fits is) e.4;
      }

  pub holds_cited : (n : ℕ) (node : Node) → AllBelow n node.1 → slice_get nodes n ≡ Some node
      → Holds token nodes root (rest ++ Finish n ∷ []) saved steps
      → Holds token nodes root rest saved (steps ++ Cites node.0 ∷ [])
  holds_cited n node fits is h =
      let trees = node_trees token nodes in
      let t : Taken n node = taken n node fits is h in
      let parts = map (tree_at trees) node.1 in
      record {
        done = t.front ++ proof_node (token node.0) (forest_of parts) ∷ [];
        built =
            subst (λ (ss : List (Step Token)). Built [] ss
            (t.front ++ proof_node (token node.0)
            (forest_of (map (tree_at (node_trees token nodes)) node.1)) ∷ [])
            (map (tree_at (node_trees token nodes)) saved))
            (sym (meanings-push token steps (Cites node.0)))
            (built-cited [] (meanings_of token steps) t.front parts (map (tree_at trees) saved)
            (token node.0) t.built);
        ends = t.ends;
      }

  pub holds_saved : (n : ℕ) (node : Node) → AllBelow n node.1 → slice_get nodes n ≡ Some node
      → Holds token nodes root (rest ++ Finish n ∷ []) saved steps
      → Holds token nodes root rest (saved ++ n ∷ []) (steps ++ CitesAndSaves node.0 ∷ [])
  holds_saved n node fits is h =
      let trees = node_trees token nodes in
      let t : Taken n node = taken n node fits is h in
      let parts = map (tree_at trees) node.1 in
      let tree = proof_node (token node.0) (forest_of parts) in
      let saves_it : map (tree_at (node_trees token nodes)) (saved ++ n ∷ [])
      ≡ map (tree_at (node_trees token nodes)) saved
      ++ proof_node (token node.0) (forest_of (map (tree_at (node_trees token nodes)) node.1))
      ∷ [] =
      map-append (tree_at (node_trees token nodes)) saved (n ∷ [])
      ∙ ap (λ (x : ProofTree). map (tree_at (node_trees token nodes)) saved ++ x ∷ [])
      (tree_of-node token nodes n node fits is) in
      record {
        done = t.front ++ tree ∷ [];
        built =
            subst (λ (ss : List (Step Token)). Built [] ss
            (t.front ++ proof_node (token node.0)
            (forest_of (map (tree_at (node_trees token nodes)) node.1)) ∷ [])
            (map (tree_at (node_trees token nodes)) (saved ++ n ∷ [])))
            (sym (meanings-push token steps (CitesAndSaves node.0)))
            (subst (λ (ts : List ProofTree). Built [] (meanings_of token steps
            ++ (cites (token node.0) ∷ (saves ∷ []))) (t.front ++ proof_node (token node.0)
            (forest_of (map (tree_at (node_trees token nodes)) node.1)) ∷ []) ts) (sym saves_it)
            (built-saved [] (meanings_of token steps) t.front parts (map (tree_at trees) saved)
            (token node.0) t.built));
        ends = t.ends;
      }

-- what a walk keeps
pub record Keeps (nodes : List Node) (root : ℕ) (w : Walk) : Type 0 where
  pub holds : (token : ℕ → Token)
      → Holds token nodes root w.tasks.items w.saved.keys w.steps.items
  pub within : AllBelow (length nodes) (map node_of_task w.tasks.items)
  pub labels : CitesNodes nodes w.steps.items

AllBelow-split : (bound : ℕ) (xs ys : List ℕ) → AllBelow bound (xs ++ ys)
    → AllBelow bound xs × AllBelow bound ys
AllBelow-split bound [] ys h = (tt, h)
AllBelow-split bound (x ∷ xs) ys h =
    let r : AllBelow bound xs × AllBelow bound ys = AllBelow-split bound xs ys h.1 in
    ((h.0, r.0), r.1)

visits-within : (bound : ℕ) (ns : List ℕ) → AllBelow bound ns
    → AllBelow bound (map node_of_task (visits ns))
visits-within bound [] h = tt
visits-within bound (n ∷ ns) h =
    subst (AllBelow bound) (sym (map-append node_of_task (visits ns) (Visit n ∷ [])))
    (AllBelow-append bound (map node_of_task (visits ns)) (n ∷ [])
    (visits-within bound ns h.1) (h.0, tt))

pub task-within : (bound : ℕ) (tasks : List Task) (task : Task)
    → AllBelow bound (map node_of_task (tasks ++ task ∷ []))
    → AllBelow bound (map node_of_task tasks) × (node_of_task task < bound)
task-within bound tasks task h =
    let r : AllBelow bound (map node_of_task tasks)
    × AllBelow bound (node_of_task task ∷ []) =
    AllBelow-split bound (map node_of_task tasks) (node_of_task task ∷ [])
    (subst (AllBelow bound) (map-append node_of_task tasks (task ∷ [])) h) in
    (r.0, r.1.0)

parts-within : (bound : ℕ) (rest : List Task) (n : ℕ) (parts : List ℕ)
    → AllBelow bound (map node_of_task rest) → n < bound → AllBelow n parts
    → AllBelow bound (map node_of_task (rest ++ (Finish n ∷ visits parts)))
parts-within bound rest n parts h lt fits =
    subst (AllBelow bound) (sym (map-append node_of_task rest (Finish n ∷ visits parts)))
    (AllBelow-append bound (map node_of_task rest) (n ∷ map node_of_task (visits parts)) h
    (lt, visits-within bound parts (AllBelow-wider n bound parts (omega (arith, lt)) fits)))

label-below : (bound : ℕ) (nodes : List Node) (n : ℕ) (node : Node)
    → AllBelow bound (map (λ (x : Node). x.0) nodes) → slice_get nodes n ≡ Some node
    → node.0 < bound
label-below bound [] n node h is = absurd (let z : ⊥ = cc in z)
label-below bound (x ∷ nodes) zero node h is =
    let same : x ≡ node = cc in subst (λ (y : Node). y.0 < bound) same h.0
label-below bound (x ∷ nodes) (suc n) node h is = label-below bound nodes n node h.1 is

cites-more : (nodes : List Node) (steps : List ProofStep) (step : ProofStep) (n : ℕ) (node : Node)
    → slice_get nodes n ≡ Some node → label_of step ≡ node.0 ∷ [] → CitesNodes nodes steps
    → CitesNodes nodes (steps ++ step ∷ [])
cites-more nodes steps step n node at is h bound below =
    subst (AllBelow bound)
    (sym (labels_of-push steps step ∙ ap (λ (ls : List ℕ). labels_of steps ++ ls) is))
    (AllBelow-append bound (labels_of steps) (node.0 ∷ []) (h bound below)
    (label-below bound nodes n node below at, tt))

cites-same : (nodes : List Node) (steps : List ProofStep) (step : ProofStep)
    → label_of step ≡ [] → CitesNodes nodes steps → CitesNodes nodes (steps ++ step ∷ [])
cites-same nodes steps step is h bound below =
    subst (AllBelow bound)
    (sym (labels_of-push steps step ∙ ap (λ (ls : List ℕ). labels_of steps ++ ls) is
    ∙ append-nil (labels_of steps))) (h bound below)

move : (token : ℕ → Token) (nodes : List Node) (root : ℕ) (ts us : List Task) (ss vs : List ℕ)
    (ps qs : List ProofStep) → us ≡ ts → vs ≡ ss → qs ≡ ps
    → Holds token nodes root ts ss ps → Holds token nodes root us vs qs
move token nodes root ts us ss vs ps qs a b d h =
    subst (λ (x : List Task). Holds token nodes root x vs qs) (sym a)
    (subst (λ (x : List ℕ). Holds token nodes root ts x qs) (sym b)
    (subst (λ (x : List ProofStep). Holds token nodes root ts ss x) (sym d) h))

module _ (nodes : List Node) (root : ℕ) (ordered : AreOrdered nodes) where
  -- a walk from which a task was taken
  pub record Left (task : Task) (old : Walk) : Type 0 where
    pub holds : (token : ℕ → Token)
        → Holds token nodes root (old.tasks.items ++ task ∷ []) old.saved.keys old.steps.items
    pub within : AllBelow (length nodes) (map node_of_task old.tasks.items)
    pub below : node_of_task task < length nodes
    pub labels : CitesNodes nodes old.steps.items

  pub left_of : (task : Task) (walk old : Walk)
      → walk.tasks.items ≡ old.tasks.items ++ task ∷ [] → walk.saved.keys ≡ old.saved.keys
      → walk.steps.items ≡ old.steps.items → Keeps nodes root walk → Left task old
  left_of task walk old a b d k =
      let w : AllBelow (length nodes) (map node_of_task old.tasks.items)
      × (node_of_task task < length nodes) =
      task-within (length nodes) old.tasks.items task
      (subst (λ (ts : List Task). AllBelow (length nodes) (map node_of_task ts)) a k.within) in
      record {
        holds =
            λ token. move token nodes root walk.tasks.items (old.tasks.items ++ task ∷ [])
            walk.saved.keys old.saved.keys walk.steps.items old.steps.items (sym a) (sym b)
            (sym d) (k.holds token);
        within = w.0;
        below = w.1;
        labels = subst (CitesNodes nodes) d k.labels;
      }

  pub keeps_next : (task : Task) (old new : Walk) → Left task old → Takes nodes task old new
      → Keeps nodes root new
  keeps_next task old new k (repeats_node n i is at a b d) =
      record {
        holds =
            λ token. move token nodes root old.tasks.items new.tasks.items old.saved.keys
            new.saved.keys (old.steps.items ++ Repeats i ∷ []) new.steps.items a b d
            (holds_repeated token nodes root old.tasks.items old.saved.keys old.steps.items n i at
            (subst (λ (t : Task). Holds token nodes root (old.tasks.items ++ t ∷ [])
            old.saved.keys old.steps.items) is (k.holds token)));
        within =
            subst (λ (ts : List Task). AllBelow (length nodes) (map node_of_task ts)) (sym a)
            k.within;
        labels =
            subst (CitesNodes nodes) (sym d)
            (cites-same nodes old.steps.items (Repeats i) refl k.labels);
      }
  keeps_next task old new k (visits_parts n node is at a b d) =
      record {
        holds =
            λ token. move token nodes root (old.tasks.items ++ (Finish n ∷ visits node.1))
            new.tasks.items old.saved.keys new.saved.keys old.steps.items new.steps.items a b d
            (holds_visited token nodes root old.tasks.items old.saved.keys old.steps.items n node at
            (subst (λ (t : Task). Holds token nodes root (old.tasks.items ++ t ∷ [])
            old.saved.keys old.steps.items) is (k.holds token)));
        within =
            subst (λ (ts : List Task). AllBelow (length nodes) (map node_of_task ts)) (sym a)
            (parts-within (length nodes) old.tasks.items n node.1 k.within
            (subst (λ m. m < length nodes) (ap node_of_task is) k.below) (ordered n node at));
        labels = subst (CitesNodes nodes) (sym d) k.labels;
      }
  keeps_next task old new k (cites_node n node is at a b d) =
      record {
        holds =
            λ token. move token nodes root old.tasks.items new.tasks.items old.saved.keys
            new.saved.keys (old.steps.items ++ Cites node.0 ∷ []) new.steps.items a b d
            (holds_cited token nodes root old.tasks.items old.saved.keys old.steps.items n node
            (ordered n node at) at
            (subst (λ (t : Task). Holds token nodes root (old.tasks.items ++ t ∷ [])
            old.saved.keys old.steps.items) is (k.holds token)));
        within =
            subst (λ (ts : List Task). AllBelow (length nodes) (map node_of_task ts)) (sym a)
            k.within;
        labels =
            subst (CitesNodes nodes) (sym d)
            (cites-more nodes old.steps.items (Cites node.0) n node at refl k.labels);
      }
  keeps_next task old new k (saves_node n node is at a b d) =
      record {
        holds =
            λ token. move token nodes root old.tasks.items new.tasks.items
            (old.saved.keys ++ n ∷ []) new.saved.keys
            (old.steps.items ++ CitesAndSaves node.0 ∷ []) new.steps.items a b d
            (holds_saved token nodes root old.tasks.items old.saved.keys old.steps.items n node
            (ordered n node at) at
            (subst (λ (t : Task). Holds token nodes root (old.tasks.items ++ t ∷ [])
            old.saved.keys old.steps.items) is (k.holds token)));
        within =
            subst (λ (ts : List Task). AllBelow (length nodes) (map node_of_task ts)) (sym a)
            k.within;
        labels =
            subst (CitesNodes nodes) (sym d)
            (cites-more nodes old.steps.items (CitesAndSaves node.0) n node at refl k.labels);
      }

pub keeps_first : (nodes : List Node) (root : ℕ) (w : Walk) → w.tasks.items ≡ Visit root ∷ []
    → w.saved.keys ≡ [] → w.steps.items ≡ [] → root < length nodes → Keeps nodes root w
keeps_first nodes root w a b d lt =
    record {
      holds =
          λ token. move token nodes root (Visit root ∷ []) w.tasks.items [] w.saved.keys []
          w.steps.items a b d (holds_first token nodes root);
      within =
          subst (λ (ts : List Task). AllBelow (length nodes) (map node_of_task ts)) (sym a)
          (lt, tt);
      labels = subst (CitesNodes nodes) (sym d) (λ bound below. tt);
    }
