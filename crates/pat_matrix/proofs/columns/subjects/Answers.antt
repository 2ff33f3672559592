use Rattle.std.proofs.Common.{◌∙◌, sym}
use Rattle.pat_matrix.proofs.Loops.{pushed_one, subjects_from-more}
use Rattle.pat_matrix.proofs.columns.subjects.Goals as goal

pub loop-subject-preserved : goal.loop-subject-preserved
loop-subject-preserved c =
    pushed_one _ _ _ _ _ c.in_ok-push.ensures.items c.in_ok-vec.ensures.items
    c.loop-subject.invariant
    ∙ sym (subjects_from-more c.loop-subject.subject)
