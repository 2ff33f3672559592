use Rattle.std.proofs.lemmas.Bool.{false≢true}
use Rattle.kore_equations.proofs.SameLists.{same_length}
use Rattle.kore_equations.proofs.same.+same.Goals as goal

pub same_patterns-returns-then-pats-others : goal.same_patterns-returns-then-pats-others
same_patterns-returns-then-pats-others c = λ c'. (
  λ never. absurd (false≢true never),
  λ same. absurd (c'.if-pats-others.true (same_length c'.args.pats.now c'.args.others.now same)),
)
