use Rattle.std.proofs.Common.{List, subst, sym}
use Rattle.mm_text.specs.Bytes.{Token}
use Rattle.mm_proof.specs.KnownTrees.{EndsWithSyntax}
use Rattle.mm_proof.specs.Listings.{Listing, trees_of}
use Rattle.mm_proof.specs.TableView.{tokens_of}
use Rattle.mm_proof.proofs.KnownLaws.{some-tree, top-syntax}
use Rattle.mm_proof.proofs.table.ProofTable.keep_syntax.Goals as goal

pub unwrap-node-requires : goal.unwrap-node-requires
unwrap-node-requires c =
    c.last.ensures.some.1 (some-tree c.self.inside.serial (tokens_of c.self.inside.tokens.keys)
    c.self.inside.nodes c.args.pat.now
    (subst (λ (l : Listing). EndsWithSyntax l.serial c.args.pat.now (trees_of l))
    (sym c.self.view_is) c.requires))

pub invariant_of-self : goal.invariant_of-self
invariant_of-self c =
    let tokens : List Token = tokens_of c.self.inside.tokens.keys in record {
      labels = c.self.invariant.labels;
      known = c.keep_node.ensures c.self.inside.serial tokens c.self.inside.nodes
          c.self.invariant.known
          (top-syntax c.self.inside.serial tokens c.self.inside.nodes c.args.pat.now
          c.unwrap-node.result.0
          (subst (λ (l : Listing). EndsWithSyntax l.serial c.args.pat.now (trees_of l))
          (sym c.self.view_is) c.requires) (rw c.unwrap-node.ensures at c.last.ensures.top));
    }
