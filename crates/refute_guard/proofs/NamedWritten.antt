-- The names of an argument's parts are among its variables, as it is written.
use Rattle.std.proofs.Common.{◌≡◌, ◌⊎◌, inl, inr, ◌+◌, ℕ, zero, suc, Bool, true, false, List, []}
use Rattle.std.proofs.Common.{◌∷◌, Option, Some, None, refl, sym, subst, arith, eq-eqb}
use Rattle.std.specs.Prelude.{All, Contains, if◌then◌else◌, nat_eq}
use Rattle.std.proofs.lemmas.Bool.{false≢true}
use Rattle.term_core.specs.Patterns.{Pattern, Patterns, variable, domain_value, application}
use Rattle.term_core.specs.Patterns.{injection, call, no_pattern, more_patterns}
use Rattle.rule_core.specs.Matching.{OccursIn}
use Rattle.rule_core.specs.NamedParts.{IsNamed, Name, part_at, part_of, parts, pattern_at}
use Rattle.rule_core.specs.WellSorted.{HaveNames}
use Rattle.rule_core.specs.declared.signature.Signature.{Signature}
use Rattle.rule_core.proofs.EvaluationUnique.{all_first, all_rest}
use Rattle.rule_core.proofs.NamedMatches.{between}
use Rattle.ml_image.specs.NamedSides.{applied_sides, at_way, left_sentence, named_part, named_parts}
use Rattle.ml_image.specs.NamedSides.{of_child, of_whole, way_in, whole}
use Rattle.ml_image.specs.PartNames.{part_sentence}
use Rattle.ml_image.specs.Sentences.{Sentence, and, apply, inject, symbol, term}
use Rattle.ml_image.specs.Sentences as sentence
use Rattle.ml_image.proofs.NamedLaws.{left_parts}
use Rattle.refute.specs.NamedRefutations.{and_new_in, variables_as_written}
use Rattle.refute.specs.Refutations.{and_new_of}
use Rattle.refute.proofs.Listed.{has_variable, keeps_all, keeps_variable}
use Rattle.refute.proofs.WrittenLaws.{occurs_written}

-- ---- what is kept

keeps_pattern : (xs : List ℕ) (p : Pattern) (y : ℕ) → Contains xs y → Contains (and_new_of xs p) y
keeps_pattern xs (variable x) y h = keeps_variable xs x y h
keeps_pattern xs (domain_value s v) y h = h
keeps_pattern xs (application f ps) y h = keeps_all xs ps y h
keeps_pattern xs (injection a b p) y h = keeps_pattern xs p y h
keeps_pattern xs (call f ss ps) y h = keeps_all xs ps y h

keeps_sentence : (xs : List ℕ) (s : Sentence) (y : ℕ) → Contains xs y → Contains (and_new_in xs s) y
keeps_sentence xs (term p) y h = keeps_pattern xs p y h
keeps_sentence xs (apply p q) y h =
    keeps_sentence (and_new_in xs p) q y (keeps_sentence xs p y h)
keeps_sentence xs (and p q) y h = keeps_sentence (and_new_in xs p) q y (keeps_sentence xs p y h)
keeps_sentence xs (sentence.symbol f) y h = h
keeps_sentence xs (inject a b) y h = h
keeps_sentence xs sentence.top y h = h
keeps_sentence xs sentence.bottom y h = h
keeps_sentence xs (sentence.not p) y h = h
keeps_sentence xs (sentence.or p q) y h = h
keeps_sentence xs (sentence.implies p q) y h = h
keeps_sentence xs (sentence.equals p q) y h = h
keeps_sentence xs (sentence.is_in p q) y h = h
keeps_sentence xs (sentence.functional p s) y h = h
keeps_sentence xs (sentence.exists x s p) y h = h
keeps_sentence xs (sentence.forall x s p) y h = h
keeps_sentence xs (sentence.next p) y h = h

-- ---- names of the whole

-- the sentence has the variable
abbrev Gets : Sentence → ℕ → Type 0
Gets s x = (xs : List ℕ) → Contains (and_new_in xs s) x

gets_part : (s : Sentence) (n : Name) (x : ℕ) → Gets s x → Gets (named_part s n) x
gets_part s n x gets xs = go n.first
  where
    go : (b : Bool) → Contains (and_new_in xs (if b then and (term (variable n.variable)) s
        else and s (term (variable n.variable)))) x
    go true = gets (and_new_in xs (term (variable n.variable)))
    go false = keeps_variable (and_new_in xs s) n.variable x (gets xs)

gets_name : (s : Sentence) (n : Name) → Gets (named_part s n) n.variable
gets_name s n xs = go n.first
  where
    go : (b : Bool) → Contains (and_new_in xs (if b then and (term (variable n.variable)) s
        else and s (term (variable n.variable)))) n.variable
    go true =
        keeps_sentence (and_new_in xs (term (variable n.variable))) s n.variable
        (has_variable xs n.variable)
    go false = has_variable (and_new_in xs s) n.variable

gets_inside : (s : Sentence) (ns : List Name) (x : ℕ) → Gets s x → Gets (named_parts s ns) x
gets_inside s [] x gets = gets
gets_inside s (n ∷ ns) x gets = gets_inside (named_part s n) ns x (gets_part s n x gets)

gets_names : (s : Sentence) (ns : List Name) (x : ℕ) → IsNamed ns x → Gets (named_parts s ns) x
gets_names s [] x h = absurd h
gets_names s (n ∷ ns) x (inl same) =
    gets_inside (named_part s n) ns x
    (λ xs. subst (λ (y : ℕ). Contains (and_new_in xs (named_part s n)) y) same (gets_name s n xs))
gets_names s (n ∷ ns) x (inr later) = gets_names (named_part s n) ns x later

-- ---- names at places

-- one of the names is this variable, at this place
abbrev pub HasNameAt : List Name → ℕ → List ℕ → Type 0
HasNameAt [] x place = ⊥
HasNameAt (n ∷ names) x place =
    ((n.variable ≡ x) × (n.place ≡ place)) ⊎ HasNameAt names x place

at_whole : (names : List Name) (x : ℕ) → HasNameAt names x [] → IsNamed (of_whole names) x
at_whole [] x h = h
at_whole (n ∷ names) x (inl h) =
    subst (λ (place : List ℕ). IsNamed (whole place n (of_whole names)) x) (sym h.1) (inl h.0)
at_whole (n ∷ names) x (inr later) = go n.place (at_whole names x later)
  where
    go : (place : List ℕ) → IsNamed (of_whole names) x → IsNamed (whole place n (of_whole names)) x
    go [] h = inr h
    go (i ∷ way) h = h

at_child : (i : ℕ) (names : List Name) (x : ℕ) (way : List ℕ) → HasNameAt names x (i ∷ way)
    → HasNameAt (of_child i names) x way
at_child i [] x way h = h
at_child i (n ∷ names) x way (inl h) =
    subst (λ (place : List ℕ). HasNameAt (at_way (way_in i place) n (of_child i names)) x way)
    (sym h.1) (begun (nat_eq i i) (eq-eqb i i refl))
  where
    begun : (b : Bool) → b ≡ true
        → HasNameAt (at_way (if b then Some way else None) n (of_child i names)) x way
    begun true is = inl (h.0, refl)
    begun false is = absurd (false≢true is)
at_child i (n ∷ names) x way (inr later) = go (way_in i n.place) (at_child i names x way later)
  where
    go : (o : Option (List ℕ)) → HasNameAt (of_child i names) x way
        → HasNameAt (at_way o n (of_child i names)) x way
    go None h = h
    go (Some w) h = inr h

sides_get : (names : List Name) (k i : ℕ) (head : Sentence) (ps : Patterns) (q : Pattern) (x : ℕ)
    → pattern_at ps i ≡ Some q → Gets (left_sentence (of_child (k + i) names) q) x
    → Gets (applied_sides names k head ps) x
sides_get names k i head no_pattern q x at gets = absurd (let no : ⊥ = cc in no)
sides_get names k zero head (more_patterns p ps) q x at gets =
    let same : p ≡ q = cc in
    let here : k + 0 ≡ k = omega arith in
    sides_keep names (k + 1) (apply head (left_sentence (of_child k names) p)) ps x
    (λ xs. subst (λ (j : ℕ). Contains (and_new_in (and_new_in xs head)
    (left_sentence (of_child j names) p)) x) here
    (subst (λ (r : Pattern). Contains (and_new_in (and_new_in xs head)
    (left_sentence (of_child (k + 0) names) r)) x) (sym same) (gets (and_new_in xs head))))
  where
    sides_keep : (names : List Name) (k : ℕ) (head : Sentence) (ps : Patterns) (x : ℕ)
        → Gets head x → Gets (applied_sides names k head ps) x
    sides_keep names k head no_pattern x gets = gets
    sides_keep names k head (more_patterns p ps) x gets =
        sides_keep names (k + 1) (apply head (left_sentence (of_child k names) p)) ps x
        (λ xs. keeps_sentence (and_new_in xs head) (left_sentence (of_child k names) p) x (gets xs))
sides_get names k (suc i) head (more_patterns p ps) q x at gets =
    let further : k + suc i ≡ k + 1 + i = omega arith in
    sides_get names (k + 1) i (apply head (left_sentence (of_child k names) p)) ps q x at
    (subst (λ (j : ℕ). Gets (left_sentence (of_child j names) q) x) further gets)

left_gets : (place : List ℕ) (names : List Name) (p q : Pattern) (x : ℕ) → HasNameAt names x place
    → part_at place p ≡ Some q → Gets (left_sentence names p) x
left_gets [] names p q x h at =
    subst (λ (s : Sentence). Gets s x) (sym (left_parts names p))
    (gets_names (part_sentence names p) (of_whole names) x (at_whole names x h))
left_gets (i ∷ way) names p q x h at =
    let step = between (part_at way) (pattern_at (parts p) i) q at in
    let inside : Gets (left_sentence (of_child i names) step.0) x =
    left_gets way (of_child i names) step.0 q x (at_child i names x way h) step.2 in
    subst (λ (s : Sentence). Gets s x) (sym (left_parts names p))
    (gets_inside (part_sentence names p) (of_whole names) x (in_part p step.0 step.1 inside))
  where
    in_part : (p r : Pattern) → pattern_at (parts p) i ≡ Some r
        → Gets (left_sentence (of_child i names) r) x → Gets (part_sentence names p) x
    in_part (variable y) r at gets = absurd (let no : ⊥ = cc in no)
    in_part (domain_value s v) r at gets = absurd (let no : ⊥ = cc in no)
    in_part (application f ps) r at gets =
        let counted : i ≡ 0 + i = omega arith in
        sides_get names 0 i (symbol f) ps r x at
        (subst (λ (j : ℕ). Gets (left_sentence (of_child j names) r) x) counted gets)
    in_part (injection a b p) r at gets = only i p r at gets
      where
        only : (i : ℕ) (p r : Pattern) → pattern_at (more_patterns p no_pattern) i ≡ Some r
            → Gets (left_sentence (of_child i names) r) x
            → Gets (apply (inject a b) (left_sentence (of_child 0 names) p)) x
        only zero p r at gets =
            let same : p ≡ r = cc in λ xs.
            subst (λ (s : Pattern). Contains (and_new_in xs (left_sentence (of_child 0 names) s)) x)
            (sym same) (gets xs)
        only (suc i) p r at gets = absurd (let no : ⊥ = cc in no)
    in_part (call f ss ps) r at gets = absurd (let no : ⊥ = cc in no)

-- the names of parts of one pattern, seen from it
named_at : (names : List Name) (p : Pattern) (x : ℕ)
    → All (λ (n : Name). (q : Pattern) × (part_of (more_patterns p no_pattern) n.place ≡ Some q)) names
    → IsNamed names x
    → (place : List ℕ) × (q : Pattern) × HasNameAt (of_child 0 names) x place
    × (part_at place p ≡ Some q)
named_at [] p x all h = absurd h
named_at (n ∷ names) p x all h =
    let P : Name → Type 0 =
    λ m. (q : Pattern) × (part_of (more_patterns p no_pattern) m.place ≡ Some q) in
    case_of n names p x (all_first P n names all) h
    (λ later. named_at names p x (all_rest P n names all) later)
  where
    at_place : (n : Name) (names : List Name) (p : Pattern) (x : ℕ) (place : List ℕ) (q : Pattern)
        → n.variable ≡ x → part_of (more_patterns p no_pattern) place ≡ Some q
        → (w : List ℕ) × (r : Pattern)
        × HasNameAt (at_way (way_in 0 place) n (of_child 0 names)) x w × (part_at w p ≡ Some r)
    at_place n names p x [] q same at = absurd (let no : ⊥ = cc in no)
    at_place n names p x (zero ∷ way) q same at = (way, q, inl (same, refl), at)
    at_place n names p x (suc i ∷ way) q same at = absurd (let no : ⊥ = cc in no)

    more : (n : Name) (names : List Name) (x : ℕ) (w : List ℕ) (o : Option (List ℕ))
        → HasNameAt (of_child 0 names) x w → HasNameAt (at_way o n (of_child 0 names)) x w
    more n names x w None h = h
    more n names x w (Some v) h = inr h

    case_of : (n : Name) (names : List Name) (p : Pattern) (x : ℕ)
        → (q : Pattern) × (part_of (more_patterns p no_pattern) n.place ≡ Some q)
        → IsNamed (n ∷ names) x
        → (IsNamed names x → (place : List ℕ) × (q : Pattern)
        × HasNameAt (of_child 0 names) x place × (part_at place p ≡ Some q))
        → (place : List ℕ) × (q : Pattern)
        × HasNameAt (of_child 0 (n ∷ names)) x place × (part_at place p ≡ Some q)
    case_of n names p x first (inl same) rest = at_place n names p x n.place first.0 same first.1
    case_of n names p x first (inr later) rest =
        let w = rest later in (w.0, w.1, more n names x w.0 (way_in 0 n.place) w.2, w.3)

-- each variable of an argument is written
pub variable_written : (sig : Signature) (sorts : List ℕ) (names : List Name) (p : Pattern) (x : ℕ)
    → HaveNames sig sorts (more_patterns p no_pattern) names → OccursIn x p ⊎ IsNamed names x
    → Contains (variables_as_written (of_child 0 names) p) x
variable_written sig sorts names p x have (inl occurs) = occurs_written (of_child 0 names) p x occurs
variable_written sig sorts names p x have (inr named) =
    let w = named_at names p x
    (λ i d lt. let told = have.sorted i d lt in (told.0, told.2)) named in
    left_gets w.0 (of_child 0 names) p w.1 x w.2 w.3 []
