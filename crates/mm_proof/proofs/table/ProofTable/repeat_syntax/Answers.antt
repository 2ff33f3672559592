use Rattle.mm_proof.specs.KnownTrees.{IsSyntaxAt}
use Rattle.mm_proof.specs.TableView.{tokens_of}
use Rattle.mm_proof.proofs.KnownLaws.{found-syntax, known-more_nodes}
use Rattle.mm_proof.proofs.table.ProofTable.repeat_syntax.Goals as goal

pub repeat-requires : goal.repeat-requires
repeat-requires c =
    let is : IsSyntaxAt c.self.inside.serial (tokens_of c.self.inside.tokens.keys)
    c.self.inside.nodes c.args.pat.now c.in-Some.node.0 =
    found-syntax c.self.inside.serial (tokens_of c.self.inside.tokens.keys) c.self.inside.nodes
    c.self.inside.known c.args.pat.now c.in-Some.node.0 c.self.invariant.known c.in-Some.ensures in
    is.0

pub invariant_of-self : goal.invariant_of-self
invariant_of-self c = record {
  labels = c.repeat.ensures.labels _ c.self.invariant.labels;
  known = known-more_nodes c.self.inside.serial (tokens_of c.self.inside.tokens.keys)
      c.self.inside.nodes c.repeat.new.self c.self.inside.known c.repeat.ensures.kept
      c.self.invariant.known;
}

pub invariant_of-self-2 : goal.invariant_of-self-2
invariant_of-self-2 c = record {
  labels = c.repeat.ensures.labels _ c.self.invariant.labels;
  known = known-more_nodes c.self.inside.serial (tokens_of c.self.inside.tokens.keys)
      c.self.inside.nodes c.repeat.new.self c.self.inside.known c.repeat.ensures.kept
      c.self.invariant.known;
}
