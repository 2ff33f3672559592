-- The letters of steps mean their numbers.
use Rattle.std.proofs.Common.{◌≡◌, ℕ, ◌+◌, List, [], ◌∷◌, ◌++◌, refl, sym, ap, ◌∙◌}
use Rattle.std.proofs.Common.{append-nil, append_assoc}
use Rattle.std.specs.Prelude.{Option, Some, None, flat_map}
use Rattle.mm_text.specs.Compressed.{Before, beginning, digits, a_number, a_save}
use Rattle.mm_text.specs.Compressed.{CompressedStep, numbered, save, steps_at_end, joined_steps}
use Rattle.mm_text.specs.Compressed.{steps_from, number_of}
use Rattle.mm_text.specs.Letters.{NumberInFront, SaveInFront}
use Rattle.proof_nodes.specs.Numbering.{SpellsStep, SpellsSteps}
use Rattle.proof_nodes.specs.declared.walk.ProofStep.{ProofStep}
use Rattle.proof_nodes.specs.declared.walk.ProofStep.TheVariants.{Cites, CitesAndSaves, Repeats}

-- the numbers of a step whose label is a place in a table of `count` labels
abbrev pub codes_of : ℕ → ProofStep → List CompressedStep
codes_of count (Cites place) = numbered (place + 1) ∷ []
codes_of count (CitesAndSaves place) = numbered (place + 1) ∷ (save ∷ [])
codes_of count (Repeats n) = numbered (count + n + 1) ∷ []

abbrev pub all_codes : ℕ → List ProofStep → List CompressedStep
all_codes count steps = flat_map (codes_of count) steps

-- a number may follow
abbrev Ready : Before → Type 0
Ready beginning = Unit {0}
Ready (digits n) = ⊥
Ready a_number = Unit {0}
Ready a_save = Unit {0}

abbrev behind : ProofStep → Before
behind (Cites place) = a_number
behind (CitesAndSaves place) = a_save
behind (Repeats n) = a_number

behind-ready : (step : ProofStep) → Ready (behind step)
behind-ready (Cites place) = tt
behind-ready (CitesAndSaves place) = tt
behind-ready (Repeats n) = tt

behind-ends : (step : ProofStep) → steps_at_end (behind step) ≡ Some []
behind-ends (Cites place) = refl
behind-ends (CitesAndSaves place) = refl
behind-ends (Repeats n) = refl

joined-assoc : (xs ys : List CompressedStep) (o : Option (List CompressedStep))
    → joined_steps (Some xs) (joined_steps (Some ys) o) ≡ joined_steps (Some (xs ++ ys)) o
joined-assoc xs ys None = refl
joined-assoc xs ys (Some zs) = ap (λ ss. Some ss) (sym (append_assoc xs ys zs))

module _ (number : NumberInFront) (saved : SaveInFront) where
  number-front : (before : Before) → Ready before → (letters more : List ℕ) (n : ℕ)
      → number_of letters ≡ Some n
      → steps_from before (letters ++ more)
      ≡ joined_steps (Some (numbered n ∷ [])) (steps_from a_number more)
  number-front beginning ready letters more n is = (number letters more n is).0
  number-front (digits d) ready letters more n is = absurd ready
  number-front a_number ready letters more n is = (number letters more n is).1
  number-front a_save ready letters more n is = (number letters more n is).2

  step-front : (count : ℕ) (step : ProofStep) (old new : List ℕ) → SpellsStep count step old new
      → (letters : List ℕ) × (new ≡ old ++ letters) × ((before : Before) (more : List ℕ)
      → Ready before → steps_from before (letters ++ more)
      ≡ joined_steps (Some (codes_of count step)) (steps_from (behind step) more))
  step-front count (Cites place) old new (letters, is, spells) =
      (letters, is, λ before more ready. number-front before ready letters more (place + 1) spells)
  step-front count (Repeats n) old new (letters, is, spells) = (
    letters,
    is,
    λ before more ready. number-front before ready letters more (count + n + 1) spells,
  )
  step-front count (CitesAndSaves place) old new (mid, (letters, is, spells), whole) = (
    letters ++ 90 ∷ [],
    whole ∙ ap (λ (ls : List ℕ). ls ++ 90 ∷ []) is ∙ append_assoc old letters (90 ∷ []),
    λ before more ready. ap (steps_from before) (append_assoc letters (90 ∷ []) more)
        ∙ number-front before ready letters (90 ∷ more) (place + 1) spells
        ∙ ap (joined_steps (Some (numbered (place + 1) ∷ []))) (saved more)
        ∙ joined-assoc (numbered (place + 1) ∷ []) (save ∷ []) (steps_from a_save more),
  )

  steps-front : (count : ℕ) (steps : List ProofStep) (old new : List ℕ)
      → SpellsSteps count steps old new
      → (letters : List ℕ) × (new ≡ old ++ letters) × ((before : Before)
      → Ready before → steps_at_end before ≡ Some []
      → steps_from before letters ≡ Some (all_codes count steps))
  steps-front count [] old new h =
      ([], h ∙ sym (append-nil old), λ before ready ends. ends)
  steps-front count (step ∷ steps) old new (mid, one, all) =
      let f : (letters : List ℕ) × (mid ≡ old ++ letters) × ((before : Before) (more : List ℕ)
      → Ready before → steps_from before (letters ++ more)
      ≡ joined_steps (Some (codes_of count step)) (steps_from (behind step) more)) =
      step-front count step old mid one in
      let r : (letters : List ℕ) × (new ≡ mid ++ letters) × ((before : Before)
      → Ready before → steps_at_end before ≡ Some []
      → steps_from before letters ≡ Some (all_codes count steps)) =
      steps-front count steps mid new all in (
        f.0 ++ r.0,
        r.1 ∙ ap (λ (ls : List ℕ). ls ++ r.0) f.1 ∙ append_assoc old f.0 r.0,
        λ before ready ends. f.2 before r.0 ready
            ∙ ap (joined_steps (Some (codes_of count step)))
            (r.2 (behind step) (behind-ready step) (behind-ends step)),
      )

  pub spelled : (count : ℕ) (step : ProofStep) (steps : List ProofStep) (letters : List ℕ)
      → SpellsSteps count (step ∷ steps) [] letters
      → steps_from beginning letters ≡ Some (all_codes count (step ∷ steps))
  spelled count step steps letters (mid, one, all) =
      let f : (first : List ℕ) × (mid ≡ first) × ((before : Before) (more : List ℕ)
      → Ready before → steps_from before (first ++ more)
      ≡ joined_steps (Some (codes_of count step)) (steps_from (behind step) more)) =
      step-front count step [] mid one in
      let r : (rest : List ℕ) × (letters ≡ mid ++ rest) × ((before : Before)
      → Ready before → steps_at_end before ≡ Some []
      → steps_from before rest ≡ Some (all_codes count steps)) =
      steps-front count steps mid letters all in
      ap (steps_from beginning) (r.1 ∙ ap (λ (ls : List ℕ). ls ++ r.0) f.1)
      ∙ f.2 beginning r.0 tt
      ∙ ap (joined_steps (Some (codes_of count step)))
      (r.2 (behind step) (behind-ready step) (behind-ends step))
