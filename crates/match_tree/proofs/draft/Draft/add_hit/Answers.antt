use Rattle.std.proofs.Common.{◌∙◌, ap, arith}
use Rattle.pat_matrix.specs.Occurrences.{row_twins}
use Rattle.pat_matrix.specs.PlaceView.{twins_of}
use Rattle.match_tree.specs.Spots.{spots_of}
use Rattle.match_tree.specs.TrailView.{plain_trail}
use Rattle.match_tree.specs.WorkView.{works_of}
use Rattle.match_tree.proofs.DraftSteps.{hit_added}
use Rattle.match_tree.proofs.draft.Draft.add_hit.Goals as goal

pub returns-clause-draft : goal.returns-clause-draft
returns-clause-draft c from rows draft none =
    hit_added c.args.matrix.now c.args.self.now.nodes.items c.push.new.self.items
    (works_of c.args.self.now.pending.items) c.args.place from rows (plain_trail c.args.trail.now)
    (record { row = c.args.row; spots = c.in_ok-spots.spots; next = c.len-next.result })
    draft none c.in_ok-push.ensures.items (omega (arith, c.len-next.ensures))
    (c.in_ok-spots.ensures
    ∙ ap (λ es. spots_of (plain_trail c.args.trail.now) (twins_of es)) c.deref.ensures.value
    ∙ ap (spots_of (plain_trail c.args.trail.now))
    (c.in_ok-twins.ensures ∙ ap row_twins c.row.ensures))
