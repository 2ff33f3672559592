use Rattle.std.proofs.Common.{ℕ, List, length, ap, ◌∙◌, sym}
use Rattle.mm_text.specs.Bytes.{Token}
use Rattle.mm_database.specs.Proofs.{ProofTree}
use Rattle.proof_nodes.specs.Tables.{stack_trees, with_cited}
use Rattle.mm_proof.specs.Listings.{Listing, token_at, trees_of}
use Rattle.mm_proof.specs.TableView.{tokens_of}
use Rattle.mm_proof.specs.Writing.{label_token}
use Rattle.mm_proof.proofs.KnownLaws.{known-more_nodes, known-more_tokens}
use Rattle.mm_proof.proofs.Stacking.{on_ok}
use Rattle.mm_proof.proofs.TableLaws.{trees-grown, labels-grown, token_at-found, found-within}
use Rattle.mm_proof.proofs.TableLaws.{cited_of_all}
use Rattle.mm_proof.proofs.table.ProofTable.cite.Goals as goal

pub invariant_of-self : goal.invariant_of-self
invariant_of-self c =
    let old : List Token = tokens_of c.self.inside.tokens.keys in
    let tokens : List Token = tokens_of c.label_number.new.tokens.keys in record {
      labels = labels-grown old tokens c.self.inside.nodes c.label_number.ensures.grown
          c.self.invariant.labels;
      known = known-more_tokens c.self.inside.serial old tokens c.self.inside.nodes
          c.self.inside.known c.label_number.ensures.grown c.self.invariant.labels
          c.self.invariant.known;
    }

pub invariant_of-self-2 : goal.invariant_of-self-2
invariant_of-self-2 c =
    let old : List Token = tokens_of c.self.inside.tokens.keys in
    let tokens : List Token = tokens_of c.label_number.new.tokens.keys in record {
      labels = c.cite.ensures.labels (length tokens)
          (labels-grown old tokens c.self.inside.nodes c.label_number.ensures.grown
          c.self.invariant.labels)
          (found-within tokens c.in_ok-number.number _ c.in_ok-number.ensures.number);
      known = known-more_nodes c.self.inside.serial tokens c.self.inside.nodes c.cite.new.self
          c.self.inside.known c.cite.ensures.kept
          (known-more_tokens c.self.inside.serial old tokens c.self.inside.nodes
          c.self.inside.known c.label_number.ensures.grown c.self.invariant.labels
          c.self.invariant.known);
    }

pub returns-clause-trees : goal.returns-clause-trees
returns-clause-trees c =
    let old : List Token = tokens_of c.self.inside.tokens.keys in
    let tokens : List Token = tokens_of c.label_number.new.tokens.keys in
    let before : List ProofTree = stack_trees (token_at tokens) c.self.inside.nodes in
    let label : Token = label_token c.self.inside.serial c.args.label in
    on_ok c.cite.result (λ cited. cited (token_at tokens)
    ∙ ap (λ (t : Token). with_cited t c.min-takes.result before)
    (token_at-found tokens c.in_ok-number.number _ c.in_ok-number.ensures.number)
    ∙ ap (λ (n : ℕ). with_cited label n before) c.min-takes.ensures
    ∙ cited_of_all label c.args.takes c.depth.result before (sym (c.depth.ensures.trees (token_at tokens)))
    ∙ ap (with_cited label c.args.takes)
    (trees-grown old tokens c.self.inside.nodes c.label_number.ensures.grown c.self.invariant.labels)
    ∙ ap (λ (l : Listing). with_cited (label_token l.serial c.args.label) c.args.takes (trees_of l))
    c.self.view_is) c.cite.ensures.cited
