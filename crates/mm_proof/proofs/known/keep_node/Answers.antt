use Rattle.std.proofs.Common.{sym, subst}
use Rattle.ml_pat.specs.Patterns.{Pattern}
use Rattle.mm_proof.specs.KnownTrees.{IsSyntaxAt}
use Rattle.mm_proof.proofs.KnownLaws.{known-one_more, known-unchanged}
use Rattle.mm_proof.proofs.known.keep_node.Goals as goal

pub returns-in_err-insert : goal.returns-in_err-insert
returns-in_err-insert c = λ serial tokens nodes are is.
    known-unchanged serial tokens nodes c.args.known.now c.insert.new.self
    c.in_err-insert.ensures.err are

pub returns : goal.returns
returns c = λ serial tokens nodes are is.
    known-one_more serial tokens nodes c.args.known.now c.insert.new.self c.fingerprint-fingerprint.result
    (record { pattern = c.in_ok-pattern.pattern; node = c.args.node })
    c.in_ok-insert.ensures.updates
    (subst (λ (p : Pattern). IsSyntaxAt serial tokens nodes p c.args.node.0)
    (sym c.in_ok-pattern.ensures) is)
    are
