use Rattle.std.proofs.Common.{◌∙◌, ap, subst, sym, refl, List, drop, length}
use Rattle.std.specs.Prelude.{All}
use Rattle.std.specs.Global.{Vec}
use Rattle.std.proofs.lemmas.Result.{IfOk-weaker}
use Rattle.mm_verify.specs.declared.parts.Part.{Part}
use Rattle.mm_verify.specs.Places.{parts_of}
use Rattle.mm_verify.specs.Resolved.{hypotheses_of}
use Rattle.mm_verify.specs.AssertionView.{assertion_frame}
use Rattle.mm_verify.specs.Filling.{GroupWithin, are_groups_apart}
use Rattle.mm_verify.proofs.Resolving.{placed-within-each}
use Rattle.mm_verify.proofs.Apartness.{groups-apart-is}
use Rattle.mm_verify.proofs.assertion.Assertion.is_apart.Goals as goal

pub are_groups_apart-requires : goal.are_groups_apart-requires
are_groups_apart-requires g c = record {
  within =
      subst (λ (gs : List (Vec Part)).
      All (GroupWithin (length (drop c.args.base c.args.stack.now))) gs)
      (sym c.deref.ensures.value)
      (placed-within-each parts_of (hypotheses_of c.args.self.now.wanted.items)
      (length (drop c.args.base c.args.stack.now)) c.args.self.now.apart.items c.requires.count
      c.args.self.now.apart_placed);
  noted = c.requires.noted;
}

pub returns-clause-apart : goal.returns-clause-apart
returns-clause-apart g c =
    IfOk-weaker c.are_groups_apart.result _ _
    (λ r is. is
    ∙ ap (λ (gs : List (Vec Part)). are_groups_apart (g.P.Place.place c.args.place.now)
    (drop c.args.base c.args.stack.now) gs) c.deref.ensures.value
    ∙ groups-apart-is (g.P.Place.place c.args.place.now) (assertion_frame c.args.self.now)
    (drop c.args.base c.args.stack.now) c.args.self.now.apart.items c.requires.count
    c.args.self.now.apart_placed (λ a b. refl))
    c.are_groups_apart.ensures.apart
