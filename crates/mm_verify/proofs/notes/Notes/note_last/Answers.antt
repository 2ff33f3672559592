use Rattle.std.proofs.Common.{◌∙◌, ap, ℕ}
use Rattle.std.specs.Global.{Vec}
use Rattle.std.proofs.lemmas.Result.{IfOk-weaker}
use Rattle.mm_verify.specs.Pairs.{is_pair_apart}
use Rattle.mm_verify.proofs.notes.Notes.note_last.Goals as goal

pub returns : goal.returns
returns c =
    IfOk-weaker c.push_last.result _ _
    (λ r more p noted pair. more p (c.forget_many.ensures.noted p noted)
    (ap (λ (v : Vec ℕ). is_pair_apart p v.items) c.forget_many.ensures.last ∙ pair))
    c.push_last.ensures
