-- In a block after a text that fits, hypotheses, axioms and lemmas are cited soundly.
use Rattle.std.proofs.Common.{ℕ, ◌<◌, ◌^◌, List, length}
use Rattle.mm_text.specs.Bytes.{Token}
use Rattle.mm_database.specs.Database.{Context}
use Rattle.ml_pat.specs.Patterns.{Pattern}
use Rattle.mm_proof.specs.Tokens.{own_naming}
use Rattle.mm_proof.specs.Labels.{statement_label}
use Rattle.mm_proof.specs.SoundCiting.{CitesSoundly}
use Rattle.mm_claims.specs.Variables.{Variable, AreNumbered}
use Rattle.mm_claims.specs.Blocks.{Claim, open_frame}
use Rattle.mm_claims.specs.OverNames.{open_over}
use Rattle.mm_claims.specs.CitedAt.{at_places, claims_citing, ArePremises}
use Rattle.mm_claims.specs.Citable.{citable}
use Rattle.mm_claims.specs.Claiming.{HoldsClaims}
use Rattle.mm_claims.proofs.BlockLaws.{inside_block}
use Rattle.mm_claims.proofs.OpenServes.{assertion_inside, premise_inside, serves_inside}
use Rattle.mm_claims.proofs.NamedClaims.{claim_at_place}
use Rattle.mm_claims.proofs.OpenCiting.{citing_is_sound}

pub claims_sound : (declared : List Token) (claims : List Claim) (c : Context) (at : ℕ)
    (vs : List Variable) (ps : List Pattern) (place : List Pattern → Pattern → ℕ)
    (premise_place : Pattern → ℕ) → HoldsClaims declared claims c → length claims < 2 ^ 64
    → AreNumbered vs → length ps < 2 ^ 64 → ArePremises ps premise_place
    → CitesSoundly (inside_block declared (length claims) c at vs ps) (own_naming declared) ps
    (citable (open_over declared vs) claims place)
    (claims_citing (length claims) (at_places claims place) premise_place)
claims_sound declared claims c at vs ps place premise_place w few numbered short premises =
    citing_is_sound (inside_block declared (length claims) c at vs ps) declared
    (open_over declared vs) claims (length claims) ps place premise_place w.names
    (serves_inside declared claims c at vs ps w few numbered short)
    (record {
      claimed = λ i s there. claim_at_place declared claims i s w.claimed there;
      frames =
          λ i s there. assertion_inside declared claims c at vs ps (statement_label i)
          (open_frame declared i s) w few numbered short (w.frames i s there);
      premises =
          λ j p there.
          premise_inside declared (length claims) c at vs ps j p w.base few short there;
    })
    premises
