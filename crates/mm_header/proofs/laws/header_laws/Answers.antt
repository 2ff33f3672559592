use Rattle.mm_header.proofs.HeaderFrames.{header_frames, header_only}
use Rattle.mm_header.proofs.HeaderValid.{header_valid, header_ends, header_fine, labels_differ}
use Rattle.mm_header.proofs.laws.header_laws.Goals as goal

pub returns-clause-valid : goal.returns-clause-valid
returns-clause-valid c = header_valid

pub returns-clause-context : goal.returns-clause-context
returns-clause-context c = header_fine

pub returns-clause-frames : goal.returns-clause-frames
returns-clause-frames c = header_frames

pub returns-clause-labels : goal.returns-clause-labels
returns-clause-labels c = labels_differ

pub returns-clause-only : goal.returns-clause-only
returns-clause-only c = header_only

pub returns-clause-ends : goal.returns-clause-ends
returns-clause-ends c = header_ends
