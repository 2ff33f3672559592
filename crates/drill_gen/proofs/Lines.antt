-- Lines of text, piece by piece.
use Rattle.std.proofs.Common.{◌≡◌, ◌+◌, ◌<◌, ◌++◌, ℕ, List, [], ◌∷◌, take, length, get_or, map, sym}
use Rattle.std.proofs.Common.{◌∙◌, ap, append_assoc}
use Rattle.std.proofs.lemmas.List.{append-nil, map_push, take_more}
use Rattle.std.specs.Borrow.{Bor}
use Rattle.drill_gen.specs.Drill.{joined, line, lines}
use Rattle.drill_gen.specs.Texts.{texts}

joined-push : (ts : List (List ℕ)) (t : List ℕ) → joined (ts ++ t ∷ []) ≡ joined ts ++ t
joined-push [] t = append-nil t
joined-push (u ∷ ts) t =
    ap (λ (rest : List ℕ). u ++ rest) (joined-push ts t) ∙ sym (append_assoc u (joined ts) t)

lines-push : (ts : List (List ℕ)) (t : List ℕ) → lines (ts ++ t ∷ []) ≡ lines ts ++ line (t ∷ [])
lines-push [] t = append-nil (line (t ∷ []))
lines-push (u ∷ ts) t =
    ap (λ (rest : List ℕ). line (u ∷ []) ++ rest) (lines-push ts t)
    ∙ sym (append_assoc (line (u ∷ [])) (lines ts) (line (t ∷ [])))

-- one more string
one_more : (ps : List (Bor (List ℕ))) (i : ℕ) (d : Bor (List ℕ)) → i < length ps
    → texts (take (i + 1) ps) ≡ texts (take i ps) ++ (get_or ps i d).now ∷ []
one_more ps i d lt =
    let now : Bor (List ℕ) → List ℕ = λ s. s.now in
    ap (map now) (take_more ps i d lt) ∙ map_push now (take i ps) (get_or ps i d)

pub piece-pushed : (ps : List (Bor (List ℕ))) (i : ℕ) (d : Bor (List ℕ)) (old mid new : List ℕ)
    → i < length ps → mid ≡ old ++ joined (texts (take i ps)) → new ≡ mid ++ (get_or ps i d).now
    → new ≡ old ++ joined (texts (take (i + 1) ps))
piece-pushed ps i d old mid new lt before grown =
    grown ∙ ap (λ (text : List ℕ). text ++ (get_or ps i d).now) before
    ∙ append_assoc old (joined (texts (take i ps))) (get_or ps i d).now
    ∙ ap (λ (text : List ℕ). old ++ text) (sym (joined-push (texts (take i ps)) (get_or ps i d).now)
    ∙ ap joined (sym (one_more ps i d lt)))

pub line-pushed : (ps : List (Bor (List ℕ))) (i : ℕ) (d : Bor (List ℕ)) (old mid new : List ℕ)
    → i < length ps → mid ≡ old ++ lines (texts (take i ps))
    → new ≡ mid ++ line ((get_or ps i d).now ∷ []) → new ≡ old ++ lines (texts (take (i + 1) ps))
line-pushed ps i d old mid new lt before grown =
    grown ∙ ap (λ (text : List ℕ). text ++ line ((get_or ps i d).now ∷ [])) before
    ∙ append_assoc old (lines (texts (take i ps))) (line ((get_or ps i d).now ∷ []))
    ∙ ap (λ (text : List ℕ). old ++ text) (sym (lines-push (texts (take i ps)) (get_or ps i d).now)
    ∙ ap lines (sym (one_more ps i d lt)))
