use Rattle.std.proofs.Common.{refl}
use Rattle.mm_header.specs.Header.{header_rows}
use Rattle.mm_header.proofs.rows.table.Goals as goal

-- by computation
pub returns : goal.returns
unfolding header_rows
returns c = refl
