use Rattle.std.proofs.Common.{sym, subst}
use Rattle.prove_fun.specs.KeptLemmas.{IsKeptIn}
use Rattle.prove_fun.proofs.KeptLaws.{place_kept}
use Rattle.prove_fun.proofs.lemma_places.LemmaPlaces.keep.Goals as goal

pub returns : goal.returns
returns c = λ cx old is.
    place_kept cx c.self.inside.places c.insert.new.self c.args.function c.args.number c.args.place
    is c.in_ok-insert.ensures.updates (subst (IsKeptIn cx) (sym c.self.view_is) old)
