-- Sets of the positions that were tested.
use Rattle.std.proofs.Common.{◌≡◌, ◌<◌, ◌+◌, ℕ, Bool, true, false, List, [], ◌∷◌, ◌++◌}
use Rattle.std.proofs.Common.{Option, Some, length, get_or, take, drop, refl, sym, ◌∙◌, ap, subst}
use Rattle.std.proofs.Common.{option_map}
use Rattle.std.specs.Prelude.{◌||◌, if◌then◌else◌}
use Rattle.std.specs.Global.{Vec}
use Rattle.std.specs.List.{list_any}
use Rattle.std.specs.Str.{bytes_eq}
use Rattle.std.proofs.lemmas.Bool.{false≢true}
use Rattle.std.proofs.lemmas.List.{drop_more}
use Rattle.std.proofs.lemmas.List.Folds.{list_any-append}
use Rattle.std.proofs.lemmas.Slice.Eq.{bytes_eq-Decides}
use Rattle.pat_matrix.proofs.Loops.{take_next}
use Rattle.pat_matrix.specs.MatrixView.{positions}
use Rattle.match_tree.specs.Trails.{Trail, was_tested, first_untested}
use Rattle.match_tree.specs.TrailView.{plain_trail, sort_number, HasTested}
use Rattle.match_tree.specs.declared.trails.Tested.{Tested}

-- the set has the position
abbrev has_position : List (Vec ℕ) → List ℕ → Bool
has_position keys position = list_any (λ (k : Vec ℕ). bytes_eq position k.items) keys

same_turned : (xs ys : List ℕ) (b : Bool) → bytes_eq xs ys ≡ b → bytes_eq ys xs ≡ b
same_turned xs ys true e = (bytes_eq-Decides ys xs).1 (sym ((bytes_eq-Decides xs ys).0 e))
same_turned xs ys false e = told (bytes_eq ys xs) refl where
  told : (b : Bool) → bytes_eq ys xs ≡ b → bytes_eq ys xs ≡ false
  told false is = is
  told true is =
      absurd (false≢true
      (sym e ∙ (bytes_eq-Decides xs ys).1 (sym ((bytes_eq-Decides ys xs).0 is))))

or_false : (b : Bool) → (b || false) ≡ b
or_false true = refl
or_false false = refl

was_tested-more : (trail : Trail) (place : List ℕ) (source : Option ℕ) (position : List ℕ)
    → was_tested (trail ++ (place, source) ∷ []) position
    ≡ (was_tested trail position || bytes_eq place position)
was_tested-more trail place source position =
    list_any-append (λ (e : List ℕ × Option ℕ). bytes_eq e.0 position) trail
    ((place, source) ∷ [])
    ∙ ap (λ (b : Bool). was_tested trail position || b) (or_false (bytes_eq place position))

-- a position that is there already
or_there : (keys : List (Vec ℕ)) (trail : Trail) (place position : List ℕ) (b : Bool)
    → HasTested keys trail → has_position keys place ≡ true → bytes_eq place position ≡ b
    → was_tested trail position ≡ (was_tested trail position || b)
or_there keys trail place position false h there is = sym (or_false (was_tested trail position))
or_there keys trail place position true h there is =
    let same : place ≡ position = (bytes_eq-Decides place position).0 is in
    let own : was_tested trail position ≡ true =
    ap (was_tested trail) (sym same) ∙ sym (h place) ∙ there in
    own ∙ sym (ap (λ (b : Bool). b || true) own)

grown_set : (old new : List (Vec ℕ)) (trail : Trail) (k : Vec ℕ) (source : Option ℕ) (b : Bool)
    → has_position old k.items ≡ b → new ≡ (if b then old else old ++ k ∷ [])
    → HasTested old trail → HasTested new (trail ++ (k.items, source) ∷ [])
grown_set old new trail k source true is made h position =
    ap (λ (ks : List (Vec ℕ)). has_position ks position) made ∙ h position
    ∙ or_there old trail k.items position (bytes_eq k.items position) h is refl
    ∙ sym (was_tested-more trail k.items source position)
grown_set old new trail k source false is made h position =
    ap (λ (ks : List (Vec ℕ)). has_position ks position) made
    ∙ list_any-append (λ (j : Vec ℕ). bytes_eq position j.items) old (k ∷ [])
    ∙ ap (λ (b : Bool). has_position old position || b) (or_false (bytes_eq position k.items))
    ∙ ap (λ (b : Bool). b || bytes_eq position k.items) (h position)
    ∙ ap (λ (b : Bool). was_tested trail position || b)
    (same_turned k.items position _ refl)
    ∙ sym (was_tested-more trail k.items source position)

-- one position of the trail more
pub known_next : (old new : List (Vec ℕ)) (trail : List Tested) (i : ℕ) (tested : Tested)
    (k : Vec ℕ) → i < length trail → tested ≡ get_or trail i tested
    → k.items ≡ tested.position.items
    → new ≡ (if list_any (λ (j : Vec ℕ). bytes_eq k.items j.items) old then old
    else old ++ k ∷ [])
    → HasTested old (plain_trail (take i trail))
    → HasTested new (plain_trail (take (i + 1) trail))
known_next old new trail i tested k lt is copied made h =
    let f : Tested → List ℕ × Option ℕ =
    λ e. (e.position.items, option_map sort_number e.source) in
    let P : Trail → Type 0 = HasTested new in
    let Q : List ℕ → Type 0 = λ place. HasTested new
    (plain_trail (take i trail) ++ (place, option_map sort_number tested.source) ∷ []) in
    subst P (sym (take_next f trail i tested lt is))
    (subst Q copied
    (grown_set old new (plain_trail (take i trail)) k (option_map sort_number tested.source) _ refl
    made h))

-- the first of the positions from this one on that was not tested
pub next_untested : (trail : Trail) (items : List (Vec ℕ)) (i : ℕ) (v : Vec ℕ) (b : Bool)
    → i < length items → v ≡ get_or items i v → was_tested trail v.items ≡ b
    → first_untested trail (positions (drop i items))
    ≡ (if b then first_untested trail (positions (drop (i + 1) items)) else Some v.items)
next_untested trail items i v b lt is e =
    ap (λ (vs : List (Vec ℕ)). first_untested trail (positions vs)) (drop_more items i v lt)
    ∙ ap (λ (w : Vec ℕ). first_untested trail (w.items ∷ positions (drop (i + 1) items))) (sym is)
    ∙ ap (λ (c : Bool).
    if c then first_untested trail (positions (drop (i + 1) items)) else Some v.items) e
