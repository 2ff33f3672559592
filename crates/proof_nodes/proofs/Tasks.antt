-- What the calls on a walk do, as tasks.
use Rattle.std.proofs.Common.{◌≡◌, ℕ, ◌<◌, ◌≤◌, Bool, true, false, if◌then◌else◌, List, ◌∷◌, []}
use Rattle.std.proofs.Common.{◌++◌, length, Some, refl, sym, ap, ◌∙◌, slice_index_or, get_or}
use Rattle.std.proofs.Common.{append_assoc, Result, Ok, Err}
use Rattle.std.specs.Prelude.{slice_get, nat_eq, OnOk, OnErr}
use Rattle.std.specs.List.{position}
use Rattle.std.proofs.lemmas.Bool.{eqb-true}
use Rattle.std.proofs.lemmas.List.Quantifiers.{position-Some}
use Rattle.std.proofs.lemmas.Option.{slice_get-get_or}
use Rattle.proof_nodes.specs.Tables.{Node}
use Rattle.proof_nodes.specs.Links.{Link, parts_of}
use Rattle.proof_nodes.specs.TableView.{nodes_of, node_of, AreKeys}
use Rattle.proof_nodes.specs.Walking.{visits, Takes, visits_parts, cites_node, saves_node}
use Rattle.proof_nodes.specs.declared.walk.ProofStep.TheVariants.{Cites, CitesAndSaves}
use Rattle.proof_nodes.specs.declared.walk.Task.{Task}
use Rattle.proof_nodes.specs.declared.walk.Task.TheVariants.{Visit, Finish}
use Rattle.proof_nodes.specs.declared.walk.Walk.{Walk}
use Rattle.proof_nodes.proofs.TableLaws.{key-node}

-- the node at a place
pub node-at : (links : List Link) (keys : List (ℕ × ℕ)) (n : ℕ) → n < length keys
    → slice_get (nodes_of links keys) n ≡ Some (node_of links (slice_index_or keys n (0, 0)))
node-at links keys n lt = key-node links keys n _ (slice_get-get_or keys n (0, 0) lt)

pub chain-at : (links : List Link) (keys : List (ℕ × ℕ)) (n : ℕ) → AreKeys links keys
    → n < length keys → (slice_index_or keys n (0, 0)).1 ≤ length links
chain-at links keys n are lt = (are n _ (slice_get-get_or keys n (0, 0) lt)).0

pub finishes : (nodes : List Node) (n : ℕ) (node : Node) (old new : Walk) (saved : Bool)
    → slice_get nodes n ≡ Some node → new.tasks.items ≡ old.tasks.items
    → new.saved.keys ≡ (if saved then old.saved.keys ++ n ∷ [] else old.saved.keys)
    → new.steps.items
    ≡ old.steps.items ++ (if saved then CitesAndSaves node.0 else Cites node.0) ∷ []
    → Takes nodes (Finish n) old new
finishes nodes n node old new true is a b d = saves_node n node refl is a b d
finishes nodes n node old new false is a b d = cites_node n node refl is a b d

pub saved-at : (keys : List ℕ) (n i : ℕ) → Some i ≡ position (nat_eq n) keys
    → slice_get keys i ≡ Some n
saved-at keys n i is =
    let p : (i < length keys) × (nat_eq n (get_or keys i n) ≡ true)
    × ((k : ℕ) → k < i → nat_eq n (get_or keys k n) ≡ false) =
    position-Some (nat_eq n) keys i n (sym is) in
    slice_get-get_or keys i n p.0
    ∙ ap (λ m. Some m) (sym (eqb-true n (get_or keys i n) p.1))

pub visited : (links : List Link) (keys : List (ℕ × ℕ)) (n : ℕ) (old new : Walk)
    (tasks : List Task) → n < length keys → tasks ≡ old.tasks.items ++ Finish n ∷ []
    → new.tasks.items ≡ tasks ++ visits (parts_of links (slice_index_or keys n (0, 0)).1)
    → new.saved.keys ≡ old.saved.keys → new.steps.items ≡ old.steps.items
    → Takes (nodes_of links keys) (Visit n) old new
visited links keys n old new tasks lt first whole b d =
    visits_parts n (node_of links (slice_index_or keys n (0, 0))) refl (node-at links keys n lt)
    (whole
    ∙ ap (λ (ts : List Task). ts ++ visits (parts_of links (slice_index_or keys n (0, 0)).1)) first
    ∙ append_assoc old.tasks.items (Finish n ∷ [])
    (visits (parts_of links (slice_index_or keys n (0, 0)).1))) b d

pub on_ok : {A E : Type 0} (r : Result A E) {P Q : Type 0} → (P → Q) → OnOk r P → OnOk r Q
on_ok (Ok x) f h = f h
on_ok (Err e) f h = tt

pub on_err : {A E : Type 0} (r : Result A E) {P Q : Type 0} → (P → Q) → OnErr r P → OnErr r Q
on_err (Ok x) f h = tt
on_err (Err e) f h = f h

pub if_err : {A E : Type 0} (r : Result A E) {P : Type 0} → P → OnErr r P
if_err (Ok x) p = tt
if_err (Err e) p = p
