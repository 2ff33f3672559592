-- The places of variables as they are found.
use Rattle.std.specs.Prelude.{◌≡◌, ℕ, List, Option, map}
use Rattle.mm_frame.specs.PlainFrames.{plain_hypotheses}
use Rattle.mm_verify.specs.declared.parts.Part.{Part}
use Rattle.mm_verify.specs.declared.finding.Places.{Places}
use Rattle.mm_verify.specs.Places.{place_of, place_in, symbol_of}

abbrev pub place_by : Places → ℕ → Option ℕ
place_by places symbol = place_of (plain_hypotheses places.hyps.now) symbol

-- each part has the place that was found for its symbol
abbrev pub AreLocated : Places → List Part → Type 0
AreLocated places parts = map place_in parts ≡ map (place_by places) (map symbol_of parts)
