-- Laws on readings of what stands in a proof.
use Rattle.std.specs.Prelude.{◌≡◌, ℕ, List, Contains}
use Rattle.mm_text.specs.Bytes.{Token}
use Rattle.mm_database.specs.Frames.{Frame, frame_of}
use Rattle.mm_database.specs.Database.{Context}
use Rattle.mm_database.specs.Proofs.{Expression, Applies, ProofTree, Proves}
use Rattle.ml_pat.specs.Patterns.{Pattern}
use Rattle.mm_readings.specs.Holding.{Holds}
use Rattle.mm_readings.specs.Readings.{Reading, put, IsFit, IsSound}
use Rattle.mm_readings.specs.Proving.{IsFitIn, after_substitution, EachHolds, TypesItsVariables}
use Rattle.mm_readings.specs.Proving.{HasSoundFrames, TypesWell}

-- An assertion is applied under a substitution where a reading is fit. If what is given holds, the
-- reading after the substitution is fit for the assertion's frame, and its statement has the text
-- of the result.
abbrev pub FitAfterSubstitution : Type 0
FitAfterSubstitution =
    (axioms : List Pattern) (number : Token → ℕ) (c : Context) (m : Reading) (f : Frame)
    (sigma : Token → Expression) (given : List Expression) (result : Expression) →
    IsFitIn (Contains axioms) number c m → TypesItsVariables c f →
    Applies c f sigma given result → EachHolds (Contains axioms) m given →
    IsFit (Contains axioms) number f (after_substitution number m f sigma)
    × (put (after_substitution number m f sigma) f.statement ≡ put m result)

-- what a proof tree proves holds, under each reading that is fit where the proof stands
abbrev pub ProvedHolds : Type 0
ProvedHolds =
    (axioms : List Pattern) (number : Token → ℕ) (c : Context) (m : Reading) (tree : ProofTree)
    (e : Expression) → IsFitIn (Contains axioms) number c m →
    HasSoundFrames (Contains axioms) number c → Proves c tree e →
    Holds (Contains axioms) (put m e)

-- So the frame of a theorem is sound, if a tree proves its statement. Its proof may use variables
-- that its frame does not have.
abbrev pub TheoremIsSound : Type 0
TheoremIsSound =
    (axioms : List Pattern) (number : Token → ℕ) (c : Context) (label : Token)
    (symbols : List Token) (tree : ProofTree) → HasSoundFrames (Contains axioms) number c →
    TypesWell c → Proves c tree symbols →
    IsSound (Contains axioms) number (frame_of c.scope label symbols)
