-- Equalities that are turned around and joined, by the lemmas.
use Rattle.std.proofs.Common.{◌≡◌, List, [], ◌∷◌, sym, ◌∙◌, ap, subst}
use Rattle.ml_pat.specs.Patterns.{Pattern, and, equal}
use Rattle.ml_kernel.specs.Lemmas.{instance, HasNoVariable, HaveNoVariables}
use Rattle.ml_kernel.specs.Theorems.{Theorem}
use Rattle.ml_derived.specs.Equalities.{AreJoinable, IsFlip, IsJoin}
use Rattle.ml_derived.specs.Scopes.{IsOver}
use Rattle.prove_term.specs.Contexts.{Context, HasGrown, StaysInWith}
use Rattle.prove_term.specs.EqualityLemmas.{conclusion_of, ProveHypotheses, IsNamedFirst}
use Rattle.prove_term.specs.EqualityLemmas.{IsNamedLast}
use Rattle.prove_term.specs.Applications.{HasClosedSides}
use Rattle.prove_term.specs.declared.equality_lemmas.EqualityLemma.TheVariants.{Flip, Join}
use Rattle.prove_term.specs.declared.equality_lemmas.EqualityLemma.TheVariants.{NameFirst, NameLast}
use Rattle.prove_term.proofs.ContextLaws.{has_before}
use Rattle.prove_term.proofs.EqualityLaws.{both_over, closed_sides, same_sides, three}

pub stays_with_grown : (a b : Context) (ps : List Pattern) (ts : List Theorem) (t : Theorem)
    → HasGrown a b → StaysInWith a ps ts t → StaysInWith b ps ts t
stays_with_grown a b ps ts t g stays = λ s has. stays s (has_before a b s g has)

abbrev pub two : Pattern → Pattern → List Pattern
two p q = p ∷ q ∷ []

pub flip_closed : (e p q : Pattern) (images : List Pattern) → images ≡ two p q → e ≡ equal p q
    → HasClosedSides e → HaveNoVariables images
flip_closed e p q images all is sides =
    let both : HasNoVariable p × HasNoVariable q = closed_sides e p q is sides in
    subst HaveNoVariables (sym all) (both.0, (both.1, tt))

pub flip_proved : (ab : Theorem) (p q : Pattern) (images : List Pattern) → images ≡ two p q
    → ab.conclusion ≡ equal p q → ProveHypotheses Flip images ab ab
flip_proved ab p q images all is =
    subst (λ (ms : List Pattern). ProveHypotheses Flip ms ab ab) (sym all)
    (record { one = is; two = is })

pub flip_says : (e made p q : Pattern) (images : List Pattern) → images ≡ two p q → e ≡ equal p q
    → made ≡ instance images (conclusion_of Flip) → IsFlip e made
flip_says e made p q images all is says p' q' is' =
    let same : (p ≡ p') × (q ≡ q') = same_sides p q p' q' (sym is ∙ is') in
    says ∙ ap (λ (ms : List Pattern). instance ms (conclusion_of Flip)) all
    ∙ ap (λ (x : Pattern). equal q x) same.0 ∙ ap (λ (x : Pattern). equal x p') same.1

pub flip_stays : (cx : Context) (ab made : Theorem) (p q : Pattern) (images : List Pattern)
    → images ≡ two p q → ab.conclusion ≡ equal p q → StaysInWith cx images (ab ∷ ab ∷ []) made
    → StaysInWith cx [] (ab ∷ []) made
flip_stays cx ab made p q images all is stays s has over within =
    let both : IsOver s p × IsOver s q = both_over s ab p q is within.0 in
    subst (λ (ms : List Pattern). StaysInWith cx ms (ab ∷ ab ∷ []) made) all stays s has
    (both.0, (both.1, tt)) (within.0, (within.0, tt))

pub first_proved : (ab : Theorem) (p q : Pattern) (images : List Pattern) → images ≡ two p q
    → ab.conclusion ≡ equal p q → ProveHypotheses NameFirst images ab ab
first_proved ab p q images all is =
    subst (λ (ms : List Pattern). ProveHypotheses NameFirst ms ab ab) (sym all)
    (record { one = is; two = is })

pub first_says : (e made p q : Pattern) (images : List Pattern) → images ≡ two p q → e ≡ equal p q
    → made ≡ instance images (conclusion_of NameFirst) → IsNamedFirst e made
first_says e made p q images all is says p' q' is' =
    let same : (p ≡ p') × (q ≡ q') = same_sides p q p' q' (sym is ∙ is') in
    says ∙ ap (λ (ms : List Pattern). instance ms (conclusion_of NameFirst)) all
    ∙ ap (λ (x : Pattern). equal (and q x) q) same.0
    ∙ ap (λ (x : Pattern). equal (and x p') x) same.1

pub last_proved : (ab : Theorem) (p q : Pattern) (images : List Pattern) → images ≡ two p q
    → ab.conclusion ≡ equal p q → ProveHypotheses NameLast images ab ab
last_proved ab p q images all is =
    subst (λ (ms : List Pattern). ProveHypotheses NameLast ms ab ab) (sym all)
    (record { one = is; two = is })

pub last_says : (e made p q : Pattern) (images : List Pattern) → images ≡ two p q → e ≡ equal p q
    → made ≡ instance images (conclusion_of NameLast) → IsNamedLast e made
last_says e made p q images all is says p' q' is' =
    let same : (p ≡ p') × (q ≡ q') = same_sides p q p' q' (sym is ∙ is') in
    says ∙ ap (λ (ms : List Pattern). instance ms (conclusion_of NameLast)) all
    ∙ ap (λ (x : Pattern). equal (and x q) q) same.0
    ∙ ap (λ (x : Pattern). equal (and p' x) x) same.1

-- the first equality ends where the second begins
linked : (d e p m q r : Pattern) → d ≡ equal p m → e ≡ equal q r → AreJoinable d e → m ≡ q
linked d e p m q r is is' (p', (q', (r', (at, (at', closed))))) =
    let one : (p' ≡ p) × (q' ≡ m) = same_sides p' q' p m (sym at ∙ is) in
    let other : (q' ≡ q) × (r' ≡ r) = same_sides q' r' q r (sym at' ∙ is') in
    sym one.1 ∙ other.0

closed_start : (d e p m : Pattern) → d ≡ equal p m → AreJoinable d e → HasNoVariable p
closed_start d e p m is (p', (q', (r', (at, (at', closed))))) =
    let one : (p' ≡ p) × (q' ≡ m) = same_sides p' q' p m (sym at ∙ is) in
    subst HasNoVariable one.0 closed

pub join_closed : (d e p m q r : Pattern) (images : List Pattern) → images ≡ three p q r
    → d ≡ equal p m → e ≡ equal q r → AreJoinable d e → HasClosedSides e
    → HaveNoVariables images
join_closed d e p m q r images all is is' can sides =
    let both : HasNoVariable q × HasNoVariable r = closed_sides e q r is' sides in
    subst HaveNoVariables (sym all) (closed_start d e p m is can, (both.0, (both.1, tt)))

pub join_proved : (ab bc : Theorem) (p m q r : Pattern) (images : List Pattern)
    → images ≡ three p q r → ab.conclusion ≡ equal p m → bc.conclusion ≡ equal q r
    → AreJoinable ab.conclusion bc.conclusion → ProveHypotheses Join images ab bc
join_proved ab bc p m q r images all is is' can =
    subst (λ (ms : List Pattern). ProveHypotheses Join ms ab bc) (sym all)
    (record {
      one = is ∙ ap (equal p) (linked ab.conclusion bc.conclusion p m q r is is' can);
      two = is';
    })

pub join_says : (d e made p m q r : Pattern) (images : List Pattern) → images ≡ three p q r
    → d ≡ equal p m → e ≡ equal q r → made ≡ instance images (conclusion_of Join)
    → IsJoin d e made
join_says d e made p m q r images all is is' says p' q' r' at at' =
    let one : (p ≡ p') × (m ≡ q') = same_sides p m p' q' (sym is ∙ at) in
    let other : (q ≡ q') × (r ≡ r') = same_sides q r q' r' (sym is' ∙ at') in
    says ∙ ap (λ (ms : List Pattern). instance ms (conclusion_of Join)) all
    ∙ ap (λ (x : Pattern). equal x r) one.0 ∙ ap (equal p') other.1

pub join_stays : (cx : Context) (ab bc made : Theorem) (p m q r : Pattern) (images : List Pattern)
    → images ≡ three p q r → ab.conclusion ≡ equal p m → bc.conclusion ≡ equal q r
    → StaysInWith cx images (ab ∷ bc ∷ []) made → StaysInWith cx [] (ab ∷ bc ∷ []) made
join_stays cx ab bc made p m q r images all is is' stays s has over within =
    let one : IsOver s p × IsOver s m = both_over s ab p m is within.0 in
    let other : IsOver s q × IsOver s r = both_over s bc q r is' within.1.0 in
    subst (λ (ms : List Pattern). StaysInWith cx ms (ab ∷ bc ∷ []) made) all stays s has
    (one.0, (other.0, (other.1, tt))) within
