-- Steps over numbers that are steps over tokens.
use Rattle.std.proofs.Common.{◌≡◌, ℕ, zero, suc, ◌-◌, Bool, true, false, List, [], ◌∷◌, ◌++◌}
use Rattle.std.proofs.Common.{length, map, Option, Some, None, refl, ap, sym, ◌∙◌, subst}
use Rattle.std.proofs.lemmas.List.{length-map}
use Rattle.std.proofs.lemmas.Option.{slice_get-map}
use Rattle.std.specs.Prelude.{nat_lt, ◌||◌, if◌then◌else◌, option_map, option_and_then, slice_get}
use Rattle.std.specs.Prelude.{MatchOption}
use Rattle.std.specs.List.{list_any}
use Rattle.std.specs.Cmp.Lexicographic.{pointwise}
use Rattle.mm_text.specs.Bytes.{Token, has_token, has_repeated}
use Rattle.mm_text.specs.FaultKinds.{bad_conclusion}
use Rattle.mm_text.specs.Compressed.{CompressedStep, numbered, save}
use Rattle.mm_database.specs.Database.{Context}
use Rattle.mm_database.specs.Proofs.{Expression}
use Rattle.mm_database.specs.Steps.{Step, cites, saves, repeats}
use Rattle.mm_database.specs.ProofText.{step_of_number, meaning_of, saved_after, steps_of_numbers}
use Rattle.mm_database.specs.ProofText.{with_step}
use Rattle.mm_database.specs.Stack.{stack_after_label, Saving, saving, saving_after_step}
use Rattle.mm_database.specs.Stack.{saving_after}
use Rattle.mm_frame.specs.Numbered.{IsNaming, named}
use Rattle.mm_frame.specs.NumberedSteps.{NumberedPlace, IsNamedPlace, same_numbers, Citation}
use Rattle.mm_frame.specs.NumberedSteps.{stack_after_citation, IsNamedCitation, CitationIsNamed}
use Rattle.mm_frame.proofs.Named.{same_expressions-named}
use Rattle.mm_frame.proofs.NamedSteps.{pushed-named}
use Rattle.mm_verify.specs.declared.machine.ProofFault.TheVariants as fault
use Rattle.mm_verify.specs.Running.{numbered_step, numbered_steps, left_fault}
use Rattle.mm_verify.specs.Judging.{kind_of}
use Rattle.mm_verify.specs.ProofSteps.{clashes, citing}
use Rattle.mm_database.specs.ComputedFault.{stack_fault}

-- labels and what they cite, one by one
abbrev pub AreCited : (ℕ → Token) → Context → List Token → List Citation → Type 0
AreCited name c [] [] = Unit {0}
AreCited name c [] (n ∷ ns) = ⊥
AreCited name c (l ∷ ls) [] = ⊥
AreCited name c (l ∷ ls) (n ∷ ns) = IsNamedCitation name c l n × AreCited name c ls ns

pub cited-append : (name : ℕ → Token) (c : Context) (ls ks : List Token) (ns ms : List Citation)
    → AreCited name c ls ns → AreCited name c ks ms → AreCited name c (ls ++ ks) (ns ++ ms)
cited-append name c [] ks [] ms h k = k
cited-append name c [] ks (n ∷ ns) ms h k = absurd (h)
cited-append name c (l ∷ ls) ks [] ms h k = absurd (h)
cited-append name c (l ∷ ls) ks (n ∷ ns) ms h k = (h.0, cited-append name c ls ks ns ms h.1 k)

-- a step over tokens and the step over numbers that corresponds to it
abbrev pub IsNamedStep : (ℕ → Token) → Context → Step Token → Step Citation → Type 0
IsNamedStep name c (cites label) (cites n) = IsNamedCitation name c label n
IsNamedStep name c (cites label) saves = ⊥
IsNamedStep name c (cites label) (repeats n) = ⊥
IsNamedStep name c saves (cites n) = ⊥
IsNamedStep name c saves saves = Unit {0}
IsNamedStep name c saves (repeats n) = ⊥
IsNamedStep name c (repeats m) (cites n) = ⊥
IsNamedStep name c (repeats m) saves = ⊥
IsNamedStep name c (repeats m) (repeats n) = m ≡ n

abbrev pub AreNamed : (ℕ → Token) → Context → List (Step Token) → List (Step Citation) → Type 0
AreNamed name c [] [] = Unit {0}
AreNamed name c [] (n ∷ ns) = ⊥
AreNamed name c (s ∷ ss) [] = ⊥
AreNamed name c (s ∷ ss) (n ∷ ns) = IsNamedStep name c s n × AreNamed name c ss ns

pub citing-named : (name : ℕ → Token) (c : Context) (ls : List Token) (ns : List Citation)
    → AreCited name c ls ns → AreNamed name c (map (λ l. cites l) ls) (citing ns)
citing-named name c [] [] h = tt
citing-named name c [] (n ∷ ns) h = absurd (h)
citing-named name c (l ∷ ls) [] h = absurd (h)
citing-named name c (l ∷ ls) (n ∷ ns) h = (h.0, citing-named name c ls ns h.1)

abbrev pub named_saving : (ℕ → Token) → Saving (List ℕ) → Saving Expression
named_saving name w = saving (map (named name) w.stack) (map (named name) w.saved)

-- a step over numbers does to numbers what the step over tokens does to their tokens

stack-named : (name : ℕ → Token) (saved : List (List ℕ)) (o : Option (List (List ℕ)))
    → option_map (λ s. saving s (map (named name) saved)) (option_map (map (named name)) o)
    ≡ option_map (named_saving name) (option_map (λ s. saving s saved) o)
stack-named name saved None = refl
stack-named name saved (Some s) = refl

saved-named : (name : ℕ → Token) (stack saved : List (List ℕ)) (o : Option (List ℕ))
    → option_map (λ e. saving (map (named name) stack) (map (named name) saved ++ e ∷ []))
    (option_map (named name) o)
    ≡ option_map (named_saving name) (option_map (λ e. saving stack (saved ++ e ∷ [])) o)
saved-named name stack saved None = refl
saved-named name stack saved (Some e) =
    ap (λ (es : List Expression). Some (saving (map (named name) stack) es))
    (sym (pushed-named name saved e))

again-named : (name : ℕ → Token) (stack saved : List (List ℕ)) (o : Option (List ℕ))
    → option_map (λ e. saving (map (named name) stack ++ e ∷ []) (map (named name) saved))
    (option_map (named name) o)
    ≡ option_map (named_saving name) (option_map (λ e. saving (stack ++ e ∷ []) saved) o)
again-named name stack saved None = refl
again-named name stack saved (Some e) =
    ap (λ (es : List Expression). Some (saving es (map (named name) saved)))
    (sym (pushed-named name stack e))

step-named : CitationIsNamed → (name : ℕ → Token) (p : NumberedPlace) (c : Context) → IsNaming name
    → IsNamedPlace name p c → (s : Step Token) (n : Step Citation) (w : Saving (List ℕ))
    → IsNamedStep name c s n
    → saving_after_step (stack_after_label c) s (named_saving name w)
    ≡ option_map (named_saving name) (numbered_step p n w)
step-named law name p c naming place (cites label) (cites n) w is =
    ap (option_map (λ s. saving s (map (named name) w.saved)))
    (law name p c label n w.stack naming place is)
    ∙ stack-named name w.saved (stack_after_citation p n w.stack)
step-named law name p c naming place (cites label) saves w is = absurd is
step-named law name p c naming place (cites label) (repeats n) w is = absurd is
step-named law name p c naming place saves (cites n) w is = absurd is
step-named law name p c naming place saves saves w is =
    ap (λ (m : ℕ). option_map
    (λ e. saving (map (named name) w.stack) (map (named name) w.saved ++ e ∷ []))
    (slice_get (map (named name) w.stack) (m - 1))) (length-map w.stack (named name))
    ∙ ap (option_map (λ e. saving (map (named name) w.stack) (map (named name) w.saved ++ e ∷ [])))
    (slice_get-map (named name) w.stack (length w.stack - 1))
    ∙ saved-named name w.stack w.saved (slice_get w.stack (length w.stack - 1))
step-named law name p c naming place saves (repeats n) w is = absurd is
step-named law name p c naming place (repeats m) (cites n) w is = absurd is
step-named law name p c naming place (repeats m) saves w is = absurd is
step-named law name p c naming place (repeats m) (repeats n) w is =
    ap (λ (k : ℕ). option_map
    (λ e. saving (map (named name) w.stack ++ e ∷ []) (map (named name) w.saved))
    (slice_get (map (named name) w.saved) k)) is
    ∙ ap (option_map (λ e. saving (map (named name) w.stack ++ e ∷ []) (map (named name) w.saved)))
    (slice_get-map (named name) w.saved n)
    ∙ again-named name w.stack w.saved (slice_get w.saved n)

pub run-named : CitationIsNamed → (name : ℕ → Token) (p : NumberedPlace) (c : Context)
    → IsNaming name → IsNamedPlace name p c
    → (ss : List (Step Token)) (ns : List (Step Citation)) (w : Saving (List ℕ))
    → AreNamed name c ss ns
    → saving_after (stack_after_label c) ss (named_saving name w)
    ≡ option_map (named_saving name) (numbered_steps p ns w)
run-named law name p c naming place [] [] w h = refl
run-named law name p c naming place [] (n ∷ ns) w h = absurd (h)
run-named law name p c naming place (s ∷ ss) [] w h = absurd (h)
run-named law name p c naming place (s ∷ ss) (n ∷ ns) w h =
    ap (option_and_then (saving_after (stack_after_label c) ss))
    (step-named law name p c naming place s n w h.0)
    ∙ go (numbered_step p n w) (λ v. run-named law name p c naming place ss ns v h.1)
  where
    go : (o : Option (Saving (List ℕ)))
        → ((v : Saving (List ℕ))
        → saving_after (stack_after_label c) ss (named_saving name v)
        ≡ option_map (named_saving name) (numbered_steps p ns v))
        → option_and_then (saving_after (stack_after_label c) ss) (option_map (named_saving name) o)
        ≡ option_map (named_saving name) (option_and_then (numbered_steps p ns) o)
    go None rest = refl
    go (Some v) rest = rest v

-- what a number of a compressed proof stands for

step_of_number-named : (name : ℕ → Token) (c : Context) (table : List Token) (cited : List Citation)
    (saved n : ℕ) → AreCited name c table cited
    → MatchOption (step_of_number cited saved n) (step_of_number table saved n ≡ None)
    (λ m. (s : Step Token) × (step_of_number table saved n ≡ Some s) × IsNamedStep name c s m)
step_of_number-named name c [] [] saved n h = go (nat_lt n saved)
  where
    label_if : Bool → Option (Step Token)
    label_if b = if b then Some (repeats n) else None

    cited_if : Bool → Option (Step Citation)
    cited_if b = if b then Some (repeats n) else None

    go : (b : Bool)
        → MatchOption (cited_if b) (label_if b ≡ None)
        (λ m. (s : Step Token) × (label_if b ≡ Some s) × IsNamedStep name c s m)
    go true = (repeats n, refl, refl)
    go false = refl
step_of_number-named name c [] (x ∷ cited) saved n h = absurd (h)
step_of_number-named name c (l ∷ table) [] saved n h = absurd (h)
step_of_number-named name c (l ∷ table) (x ∷ cited) saved zero h = (cites l, refl, h.0)
step_of_number-named name c (l ∷ table) (x ∷ cited) saved (suc n) h =
    step_of_number-named name c table cited saved n h.1

meaning_of-named : (name : ℕ → Token) (c : Context) (table : List Token) (cited : List Citation)
    (saved : ℕ) (k : CompressedStep) → AreCited name c table cited
    → MatchOption (meaning_of cited saved k) (meaning_of table saved k ≡ None)
    (λ m. (s : Step Token) × (meaning_of table saved k ≡ Some s) × IsNamedStep name c s m)
meaning_of-named name c table cited saved (numbered n) h =
    step_of_number-named name c table cited saved (n - 1) h
meaning_of-named name c table cited saved save h = (saves, refl, tt)

abbrev pub MeanNamed : (ℕ → Token) → Context → Option (List (Step Token))
    → Option (List (Step Citation)) → Type 0
MeanNamed name c steps None = steps ≡ None
MeanNamed name c steps (Some ns) =
    (ss : List (Step Token)) × (steps ≡ Some ss) × AreNamed name c ss ns

pub steps_of_numbers-named : (name : ℕ → Token) (c : Context) (table : List Token)
    (cited : List Citation) (saved : ℕ) (ks : List CompressedStep) → AreCited name c table cited
    → MeanNamed name c (steps_of_numbers table saved ks) (steps_of_numbers cited saved ks)
steps_of_numbers-named name c table cited saved [] h = ([], refl, tt)
steps_of_numbers-named name c table cited saved (k ∷ ks) h =
    go k (meaning_of cited saved k) (meaning_of-named name c table cited saved k h)
    (λ n. steps_of_numbers-named name c table cited n ks h)
  where
    both : (s : Step Token) (m : Step Citation) (o : Option (List (Step Token)))
        (q : Option (List (Step Citation))) → IsNamedStep name c s m → MeanNamed name c o q
        → MeanNamed name c (with_step (Some s) o) (with_step (Some m) q)
    both s m o None a b = ap (with_step (Some s)) b
    both s m o (Some ns) a b = (s ∷ b.0, ap (with_step (Some s)) b.1, (a, b.2))

    go : (j : CompressedStep) (o : Option (Step Citation))
        → MatchOption o (meaning_of table saved j ≡ None)
        (λ m. (s : Step Token) × (meaning_of table saved j ≡ Some s) × IsNamedStep name c s m)
        → ((n : ℕ) → MeanNamed name c (steps_of_numbers table n ks) (steps_of_numbers cited n ks))
        → MeanNamed name c
        (with_step (meaning_of table saved j) (steps_of_numbers table (saved_after saved j) ks))
        (with_step o (steps_of_numbers cited (saved_after saved j) ks))
    go j None e rest =
        ap (λ (o : Option (Step Token)).
        with_step o (steps_of_numbers table (saved_after saved j) ks)) e
    go j (Some m) e rest =
        subst (λ (o : Option (Step Token)). MeanNamed name c
        (with_step o (steps_of_numbers table (saved_after saved j) ks))
        (with_step (Some m) (steps_of_numbers cited (saved_after saved j) ks))) (sym e.1)
        (both e.0 m (steps_of_numbers table (saved_after saved j) ks)
        (steps_of_numbers cited (saved_after saved j) ks) e.2 (rest (saved_after saved j)))

-- only the statement is left

pub left-named : (name : ℕ → Token) → IsNaming name
    → (conclusion : List ℕ) (o : Option (Saving (List ℕ)))
    → stack_fault (named name conclusion)
    (option_map (λ w. w.stack) (option_map (named_saving name) o))
    ≡ kind_of (left_fault conclusion o)
left-named name naming conclusion None = refl
left-named name naming conclusion (Some w) =
    ap (λ (b : Bool). if b then None else Some bad_conclusion)
    (same_expressions-named name naming w.stack (conclusion ∷ []))
    ∙ go (pointwise same_numbers w.stack (conclusion ∷ [])) refl
  where
    go : (b : Bool) → pointwise same_numbers w.stack (conclusion ∷ []) ≡ b
        → (if b then None else Some bad_conclusion) ≡ kind_of (left_fault conclusion (Some w))
    go true e = sym (ap (λ (b : Bool). kind_of (if b then None else Some fault.Conclusion)) e)
    go false e = sym (ap (λ (b : Bool). kind_of (if b then None else Some fault.Conclusion)) e)

-- labels that clash are one of the others, or occur twice

or-mix : (a b c d : Bool) → ((a || b) || (c || d)) ≡ ((a || c) || (b || d))
or-mix true b c d = refl
or-mix false true true d = refl
or-mix false true false d = refl
or-mix false false c d = refl

pub clashes-are : (others labels : List Token)
    → clashes others labels ≡ (list_any (has_token others) labels || has_repeated labels)
clashes-are others [] = refl
clashes-are others (l ∷ ls) =
    ap (λ (b : Bool). (has_token others l || has_token ls l) || b) (clashes-are others ls)
    ∙ or-mix (has_token others l) (has_token ls l) (list_any (has_token others) ls)
    (has_repeated ls)
