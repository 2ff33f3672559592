use Rattle.std.proofs.Common.{ap, sym, ◌∙◌, is_some}
use Rattle.mm_verify.proofs.Meeting.{met-one, still}
use Rattle.mm_verify.proofs.together.Met.meet.Goals as goal

pub returns : goal.returns
returns c = λ yes.
    met-one c.args.self.now _ c.args.n c.requires
    (ap is_some (sym c.in_ok-insert.ensures.old) ∙ sym c.is_some.ensures ∙ c.if-is_some.false)
    (λ q had. ap is_some (c.in_ok-insert.ensures.updates.0 q) ∙ still _ _ _ had)
    (ap is_some c.in_ok-insert.ensures.updates.1) c.in_ok-push.ensures.items
