-- What a proof tree proves holds.
use Rattle.std.proofs.Common.{◌≡◌, ℕ, Bool, true, false, List, [], ◌∷◌, sym, subst}
use Rattle.std.specs.Prelude.{if◌then◌else◌, Some, bytes_eq}
use Rattle.mm_text.specs.Bytes.{Token}
use Rattle.mm_database.specs.Frames.{Hypothesis, label_of, statement_of}
use Rattle.mm_database.specs.Database.{Context}
use Rattle.mm_database.specs.Proofs.{Expression, hypothesis_of, Leads, by_hypothesis, by_assertion}
use Rattle.mm_database.specs.Proofs.{ProofTree, ProofForest, proof_node, no_proof, more_proofs}
use Rattle.mm_database.specs.Proofs.{Proves, AllProve}
use Rattle.ml_pat.specs.Patterns.{Pattern}
use Rattle.mm_readings.specs.Holding.{Holds}
use Rattle.mm_readings.specs.Readings.{Reading, put, AllHold}
use Rattle.mm_readings.specs.Proving.{IsFitIn, after_substitution, EachHolds, HasSoundFrames}
use Rattle.mm_readings.proofs.Applied.{fit_after}

active_holds : (A : Pattern → Type 0) (m : Reading) (label : Token) (hs : List Hypothesis)
    (h : Hypothesis) → hypothesis_of hs label ≡ Some h → AllHold A m hs
    → Holds A (put m (statement_of h))
active_holds A m label [] h found hold = absurd (cc)
active_holds A m label (one ∷ hs) h found hold =
    go (bytes_eq (label_of one) label) found (active_holds A m label hs h)
  where
    go : (b : Bool) → (if b then Some one else hypothesis_of hs label) ≡ Some h
        → (hypothesis_of hs label ≡ Some h → AllHold A m hs → Holds A (put m (statement_of h)))
        → Holds A (put m (statement_of h))
    go true k rest =
        let same : one ≡ h = cc in
        subst (λ (g : Hypothesis). Holds A (put m (statement_of g))) same hold.0
    go false k rest = rest k hold.1

leads_hold : (A : Pattern → Type 0) (number : Token → ℕ) (c : Context) (m : Reading)
    (label : Token) (given : List Expression) (e : Expression) → IsFitIn A number c m
    → HasSoundFrames A number c → Leads c label given e → EachHolds A m given
    → Holds A (put m e)
leads_hold A number c m label given e fit sound (by_hypothesis h found) hold =
    active_holds A m label c.scope.hypotheses h found fit.hypotheses
leads_hold A number c m label given e fit sound (by_assertion f sigma ps result none found applies)
    hold =
    let w = fit_after A number c m f sigma ps result fit (sound.typed label f found) applies hold in
    subst (Holds A) w.1 (sound.sound label f found (after_substitution number m f sigma) w.0)

mutual
  pub proved_holds : (A : Pattern → Type 0) (number : Token → ℕ) (c : Context) (m : Reading)
      (tree : ProofTree) (e : Expression) → IsFitIn A number c m → HasSoundFrames A number c
      → Proves c tree e → Holds A (put m e)
  proved_holds A number c m (proof_node label trees) e fit sound (given, leads, all) =
      leads_hold A number c m label given e fit sound leads
      (all_proved_hold A number c m trees given fit sound all)

  pub all_proved_hold : (A : Pattern → Type 0) (number : Token → ℕ) (c : Context) (m : Reading)
      (trees : ProofForest) (given : List Expression) → IsFitIn A number c m
      → HasSoundFrames A number c → AllProve c trees given → EachHolds A m given
  all_proved_hold A number c m no_proof given fit sound none =
      subst (EachHolds A m) (sym none) tt
  all_proved_hold A number c m (more_proofs tree trees) given fit sound
      (first, rest, same, one, others) =
      subst (EachHolds A m) (sym same) (
        proved_holds A number c m tree first fit sound one,
        all_proved_hold A number c m trees rest fit sound others,
      )
