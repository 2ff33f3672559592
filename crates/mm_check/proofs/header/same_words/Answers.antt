use Rattle.std.proofs.Common.{sym, subst}
use Rattle.std.specs.Prelude.{IsTrue}
use Rattle.mm_check.proofs.Words.{words_same, words_equal}
use Rattle.mm_check.proofs.header.same_words.Goals as goal

pub returns : goal.returns
returns c = (
  λ h. words_same c.args.one.now c.args.others.now (subst IsTrue c.eq.ensures h),
  λ h. subst IsTrue (sym c.eq.ensures) (words_equal c.args.one.now c.args.others.now h),
)
