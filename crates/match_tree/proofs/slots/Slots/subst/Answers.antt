use Rattle.match_tree.proofs.KeptLaws.{kept_matches}
use Rattle.match_tree.proofs.slots.Slots.subst.Goals as goal

pub bindings-requires-clause-matches : goal.bindings-requires-clause-matches
bindings-requires-clause-matches g c =
    kept_matches c.args.tree.now c.args.subjects.now c.args.self.now c.args.row c.requires.fits
    c.requires.kept
