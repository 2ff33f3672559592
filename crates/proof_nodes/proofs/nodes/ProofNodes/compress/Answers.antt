use Rattle.std.proofs.Common.{◌≡◌, ℕ, List, length, map, sym, ap, ◌∙◌, subst, Some, arith}
use Rattle.std.specs.Prelude.{slice_get}
use Rattle.std.proofs.lemmas.Option.{slice_get_read}
use Rattle.proof_nodes.specs.Tables.{Node, Table, AllBelow, LabelsBelow, depth_of}
use Rattle.proof_nodes.specs.Compression.{IsCompressed}
use Rattle.proof_nodes.specs.Links.{Link}
use Rattle.proof_nodes.specs.TableView.{nodes_of, AreKeys}
use Rattle.proof_nodes.specs.Walking.{labels_of, BuildsNode, CitesNodes}
use Rattle.proof_nodes.specs.Numbering.{MeansSteps}
use Rattle.proof_nodes.specs.declared.walk.ProofStep.{ProofStep}
use Rattle.proof_nodes.proofs.TableLaws.{if_ok}
use Rattle.proof_nodes.proofs.Compressing.{AllBelow-among, table_compressed}
use Rattle.proof_nodes.proofs.nodes.ProofNodes.compress.Goals as goal

pub steps_of_node-requires-clause-keys : goal.steps_of_node-requires-clause-keys
steps_of_node-requires-clause-keys c =
    subst (λ (ls : List Link). AreKeys ls c.as_slice-keys.result.now)
    (sym c.as_slice-links.ensures.keys)
    (subst (AreKeys c.self.inside.links.keys) (sym c.as_slice-keys.ensures.keys)
    c.self.invariant.keys)

pub returns-clause-compressed : goal.returns-clause-compressed
returns-clause-compressed c =
    let nodes : nodes_of c.as_slice-links.result.now c.as_slice-keys.result.now
    ≡ nodes_of c.self.inside.links.keys c.self.inside.keys.keys =
    ap (λ (ls : List Link). nodes_of ls c.as_slice-keys.result.now) c.as_slice-links.ensures.keys
    ∙ ap (nodes_of c.self.inside.links.keys) c.as_slice-keys.ensures.keys in
    let one : length c.self.inside.stack.items ≡ 1 = ap depth_of c.self.view_is ∙ c.requires in
    let root : slice_get c.self.inside.stack.items 0 ≡ Some c.index.result.now =
    slice_get_read c.self.inside.stack.items 1 0 c.index.result.now (sym one) (omega arith)
    c.index.ensures in
    if_ok c.compressed.result
    (λ p. MeansSteps c.args.mandatory.now c.deref.result.now p.listed.items p.letters.items)
    (λ p. IsCompressed c.args.self.now c.args.mandatory.now p.listed.items p.letters.items)
    (λ p means. subst (λ (t : Table). IsCompressed t c.args.mandatory.now p.listed.items
    p.letters.items) c.self.view_is
    (table_compressed (nodes_of c.self.inside.links.keys c.self.inside.keys.keys)
    c.self.inside.stack.items c.index.result.now c.args.mandatory.now p.listed.items
    p.letters.items c.in_ok-steps.steps.items root
    (subst (λ (ns : List Node). BuildsNode ns c.index.result.now c.in_ok-steps.steps.items) nodes
    c.in_ok-steps.ensures.builds)
    (subst (λ (ns : List Node). CitesNodes ns c.in_ok-steps.steps.items) nodes
    c.in_ok-steps.ensures.labels)
    (subst (λ (ss : List ProofStep). MeansSteps c.args.mandatory.now ss p.listed.items
    p.letters.items) c.deref.ensures.value means)))
    c.compressed.ensures

pub returns-clause-labels : goal.returns-clause-labels
returns-clause-labels c =
    let nodes : nodes_of c.as_slice-links.result.now c.as_slice-keys.result.now
    ≡ nodes_of c.self.inside.links.keys c.self.inside.keys.keys =
    ap (λ (ls : List Link). nodes_of ls c.as_slice-keys.result.now) c.as_slice-links.ensures.keys
    ∙ ap (nodes_of c.self.inside.links.keys) c.as_slice-keys.ensures.keys in
    if_ok c.compressed.result
    (λ p. MeansSteps c.args.mandatory.now c.deref.result.now p.listed.items p.letters.items)
    (λ p. (bound : ℕ) → LabelsBelow bound c.args.self.now → AllBelow bound p.listed.items)
    (λ p means bound below. AllBelow-among bound (labels_of c.deref.result.now) p.listed.items
    (subst (λ (ss : List ProofStep). AllBelow bound (labels_of ss)) (sym c.deref.ensures.value)
    (c.in_ok-steps.ensures.labels bound
    (subst (λ (ns : List Node). AllBelow bound (map (λ (n : Node). n.0) ns)) (sym nodes)
    (subst (LabelsBelow bound) (sym c.self.view_is) below)))) means.used)
    c.compressed.ensures
