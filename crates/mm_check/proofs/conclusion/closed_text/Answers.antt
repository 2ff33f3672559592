use Rattle.std.proofs.Common.{[], Bor}
use Rattle.mm_text.specs.Bytes.{Token}
use Rattle.mm_check.proofs.ConclusionLaws.{closed_behind, objects_behind, other_mark}
use Rattle.mm_check.proofs.conclusion.closed_text.Goals as goal
use Rattle.mm_check.proofs.conclusion.closed_text.Goals.{then-ne-via-then-ne}
use Rattle.mm_check.proofs.conclusion.closed_text.Goals.{then-ne-via-else-ne+then-has_object}

-- what is read past the end of the words
abbrev nowhere : Bor Token
nowhere = record { ref_ptr = (0, 0); now = [] }

pub returns-then-ne : goal.returns-then-ne
returns-then-ne c =
    elim c.then-ne.branch [
      | then-ne-via-then-ne w ↦
          other_mark c.args.statement.now nowhere c.as_slice.result.now c.ne.result
          c.in-len1-up.len_at_least c.as_slice.ensures c.ne.ensures w.if-ne.true
      | then-ne-via-else-ne+then-has_object w ↦
          objects_behind c.args.statement.now nowhere w.has_object.result
          c.in-len1-up.len_at_least w.has_object.ensures w.if-has_object.true
    ]

pub returns : goal.returns
returns c =
    closed_behind c.args.statement.now nowhere c.as_slice.result.now c.ne.result
    c.has_object.result c.in-len1-up.len_at_least c.as_slice.ensures c.ne.ensures c.if-ne.false
    c.has_object.ensures c.if-has_object.false
