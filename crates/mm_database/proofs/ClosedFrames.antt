-- An assertion whose symbols are no active variables has no mandatory hypothesis.
use Rattle.std.proofs.Common.{◌≡◌, Bool, false, List, [], ◌∷◌, refl, ap, ◌∙◌}
use Rattle.std.specs.Prelude.{filter, if◌then◌else◌}
use Rattle.std.specs.List.{list_any}
use Rattle.mm_text.specs.Bytes.{Token, has_token}
use Rattle.mm_database.specs.Frames.{Hypothesis, floating, essential, Scope, occurs_in, is_needed}
use Rattle.mm_database.specs.Frames.{is_mandatory}
use Rattle.mm_database.specs.Writing.{AreUnneeded, ClosedHasNone}

in_no_premise : (symbols : List Token) (token : Token) (hypotheses : List Hypothesis)
    → AreUnneeded symbols hypotheses → list_any (occurs_in token) hypotheses ≡ false
in_no_premise symbols token [] h = refl
in_no_premise symbols token (floating l k v ∷ hypotheses) h =
    in_no_premise symbols token hypotheses h.1
in_no_premise symbols token (essential l t ∷ hypotheses) h = absurd h

none_kept : (scope : Scope) (symbols : List Token) (hypotheses : List Hypothesis)
    → AreUnneeded symbols scope.hypotheses → AreUnneeded symbols hypotheses
    → filter (is_mandatory scope symbols) hypotheses ≡ []
none_kept scope symbols [] all h = refl
none_kept scope symbols (floating l k v ∷ hypotheses) all h =
    let premise : list_any (occurs_in v) scope.hypotheses ≡ false =
    in_no_premise symbols v scope.hypotheses all in
    let here : has_token symbols v ≡ false = h.0 in
    let needed : is_needed scope symbols v ≡ false = rw (here, premise) refl in
    ap (λ (b : Bool). if b then floating l k v ∷ filter (is_mandatory scope symbols) hypotheses
    else filter (is_mandatory scope symbols) hypotheses) needed
    ∙ none_kept scope symbols hypotheses all h.1
none_kept scope symbols (essential l t ∷ hypotheses) all h = absurd h

pub closed_has_none : ClosedHasNone
closed_has_none scope label symbols h = none_kept scope symbols scope.hypotheses h h
