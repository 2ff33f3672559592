use Rattle.std.proofs.Common.{◌∙◌, ap, subst, sym, List, drop, length}
use Rattle.std.specs.Prelude.{All}
use Rattle.std.proofs.lemmas.Result.{IfOk-weaker}
use Rattle.mm_verify.specs.declared.parts.Wanted.{Wanted}
use Rattle.mm_verify.specs.Resolved.{hypotheses_of, parts_in}
use Rattle.mm_verify.specs.Filling.{HasWithin, are_wanted}
use Rattle.mm_verify.proofs.Resolving.{placed-within-each, all-wanted-is}
use Rattle.mm_verify.proofs.assertion.Assertion.agrees.Goals as goal

pub are_wanted-requires-clause-within : goal.are_wanted-requires-clause-within
are_wanted-requires-clause-within c =
    subst (λ (ws : List Wanted). All (HasWithin (length (drop c.args.base c.args.stack.now))) ws)
    (sym c.deref.ensures.value)
    (placed-within-each parts_in (hypotheses_of c.args.self.now.wanted.items)
    (length (drop c.args.base c.args.stack.now)) c.args.self.now.wanted.items c.requires
    c.args.self.now.wanted_placed)

pub returns : goal.returns
returns c =
    IfOk-weaker c.are_wanted.result _ _
    (λ r is. is
    ∙ ap (λ (ws : List Wanted).
    are_wanted (drop c.args.base c.args.stack.now) ws (drop c.args.base c.args.stack.now))
    c.deref.ensures.value
    ∙ all-wanted-is (hypotheses_of c.args.self.now.wanted.items) (drop c.args.base c.args.stack.now)
    c.args.self.now.wanted.items (drop c.args.base c.args.stack.now) c.requires
    c.args.self.now.wanted_placed)
    c.are_wanted.ensures
