use Rattle.std.proofs.Common.{refl, arith}
use Rattle.mm_header.specs.Header.{header_rows}
use Rattle.mm_header.specs.HeaderText.{header_bytes}
use Rattle.mm_claims.proofs.laws.tried.Goals as goal

-- by computation
pub returns-clause-rendered : goal.returns-clause-rendered
unfolding header_bytes header_rows
returns-clause-rendered c = record { stated = refl; blocks = refl; uncited = refl }

-- by computation
pub returns-clause-block : goal.returns-clause-block
returns-clause-block a = record {
  tokens = refl;
  may = record {
    once = refl;
    numbered = (omega arith, (omega arith, (omega arith, (omega arith, tt))));
    stand = refl;
    over = ((refl, ((refl, refl), (refl, (omega arith, refl)))), (refl, ((refl, refl), tt)));
    few = omega arith;
  };
  cited = refl;
}

-- by computation
pub returns-clause-citations : goal.returns-clause-citations
returns-clause-citations a = record { citation = refl; renamed = refl; needed = refl }
