use Rattle.std.proofs.Common.{refl}
use Rattle.mm_proof.specs.Tokens.{own_naming}
use Rattle.mm_proof.specs.Labels.{own_labels}
use Rattle.ml_pat.specs.KnownLeaves.{are_known}
use Rattle.mm_proof.specs.Derivations.{derivation_tree}
use Rattle.mm_claims.specs.CitedAt.{at_places, claims_citing}
use Rattle.mm_claims.specs.Citable.{citable}
use Rattle.mm_claims.proofs.OpenCiting.{claim_proves, citing_is_sound}
use Rattle.mm_proof.proofs.CitingDerivations.{cited_proves}
use Rattle.mm_claims.proofs.laws.citing_laws.Goals as goal

pub returns-clause-cited : goal.returns-clause-cited
returns-clause-cited a c l declared known i s ms trees =
    claim_proves c l declared (are_known known) i s ms trees

pub returns-clause-sound : goal.returns-clause-sound
returns-clause-sound a c declared known claims k hypotheses place premise_place =
    citing_is_sound c declared (are_known known) claims k hypotheses place premise_place

pub returns-clause-derivations : goal.returns-clause-derivations
returns-clause-derivations a c declared known claims k hypotheses place premise_place d q names w
    serves are concludes used cites = record {
      tree =
          derivation_tree (own_labels k) (claims_citing k (at_places claims place) premise_place) d;
      order = refl;
      proves =
          cited_proves c (own_labels k) (own_naming declared) (are_known known) hypotheses
          (citable (are_known known) claims place)
          (claims_citing k (at_places claims place) premise_place) w
          (citing_is_sound c declared (are_known known) claims k hypotheses place premise_place
          names w
          serves are) d q concludes used cites;
    }
