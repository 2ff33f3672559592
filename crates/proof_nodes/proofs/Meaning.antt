-- Numbers mean steps; and what holds of steps that build a tree.
use Rattle.std.proofs.Common.{◌≡◌, ℕ, zero, suc, ◌+◌, ◌-◌, Bool, true, false, ◌&&◌}
use Rattle.std.proofs.Common.{List, [], ◌∷◌, ◌++◌, length, map, Some, None, refl, sym, ap, ◌∙◌}
use Rattle.std.proofs.Common.{subst, append_assoc, append-nil, drop, arith}
use Rattle.std.specs.Prelude.{slice_get, nat_lt, if◌then◌else◌, option_and_then}
use Rattle.std.proofs.lemmas.List.{length-append}
use Rattle.std.proofs.lemmas.Option.{slice_get_within}
use Rattle.std.proofs.lemmas.Bool.{lt-ltb}
use Rattle.mm_text.specs.Bytes.{Token}
use Rattle.mm_text.specs.Compressed.{CompressedStep, numbered, save}
use Rattle.mm_text.specs.Letters.{NumberInFront, SaveInFront}
use Rattle.mm_database.specs.Proofs.{ProofTree, ProofForest}
use Rattle.mm_database.specs.Steps.{Step, cites, saves, repeats, Builds, by_label, by_saving}
use Rattle.mm_database.specs.Steps.{by_repeating, AllBuild, no_steps, more_steps}
use Rattle.mm_database.specs.ProofText.{step_of_number, with_step, steps_of_numbers}
use Rattle.mm_database.specs.ProofText.{lettered_steps}
use Rattle.proof_nodes.specs.Walking.{meanings_of}
use Rattle.proof_nodes.specs.Numbering.{ArePlaced, SpellsSteps}
use Rattle.proof_nodes.specs.declared.walk.ProofStep.{ProofStep}
use Rattle.proof_nodes.specs.declared.walk.ProofStep.TheVariants.{Cites, CitesAndSaves, Repeats}
use Rattle.proof_nodes.proofs.Spelling.{all_codes, spelled}

-- each repeated number is one of a step that was saved before; `saved` is how many there are
abbrev pub known : ℕ → List (Step Token) → Bool
known saved [] = true
known saved (cites label ∷ steps) = known saved steps
known saved (saves ∷ steps) = known (saved + 1) steps
known saved (repeats n ∷ steps) = nat_lt n saved && known saved steps

mutual
  pub built-known : (before : List ProofTree) (steps : List (Step Token)) (tree : ProofTree)
      (behind : List ProofTree) → Builds before steps tree behind → (more : List (Step Token))
      → known (length before) (steps ++ more) ≡ known (length behind) more
  built-known before _ tree behind (by_label _ steps label trees _ all) more =
      ap (known (length before)) (append_assoc steps (cites label ∷ []) more)
      ∙ all-known before steps trees behind all (cites label ∷ more)
  built-known before _ tree _ (by_saving _ steps _ behind one) more =
      ap (known (length before)) (append_assoc steps (saves ∷ []) more)
      ∙ built-known before steps tree behind one (saves ∷ more)
      ∙ ap (λ n. known n more) (sym (length-append behind (tree ∷ [])))
  built-known before _ tree _ (by_repeating _ n _ is) more =
      ap (λ b. b && known (length before) more)
      (lt-ltb n (length before) (slice_get_within before n tree is))

  pub all-known : (before : List ProofTree) (steps : List (Step Token)) (trees : ProofForest)
      (behind : List ProofTree) → AllBuild before steps trees behind → (more : List (Step Token))
      → known (length before) (steps ++ more) ≡ known (length behind) more
  all-known before _ trees _ (no_steps _) more = refl
  all-known before _ _ behind (more_steps _ first tree between others trees _ one all) more =
      ap (known (length before)) (append_assoc first others more)
      ∙ built-known before first tree between one (others ++ more)
      ∙ all-known between others trees behind all more

not-empty : {A : Type 0} (xs : List A) (x : A) → xs ++ x ∷ [] ≡ [] → ⊥
not-empty [] x h = cc
not-empty (y ∷ xs) x h = cc

pub built-some : (before : List ProofTree) (steps : List (Step Token)) (tree : ProofTree)
    (behind : List ProofTree) → Builds before steps tree behind → steps ≡ [] → ⊥
built-some before _ tree behind (by_label _ steps label trees _ all) is =
    not-empty steps (cites label) is
built-some before _ tree _ (by_saving _ steps _ behind one) is = not-empty steps saves is
built-some before _ tree _ (by_repeating _ n _ at) is = cc

number-label : {A : Type 0} (table : List A) (saved p : ℕ) (x : A) → slice_get table p ≡ Some x
    → step_of_number table saved p ≡ Some (cites x)
number-label [] saved p x h = absurd (let z : ⊥ = cc in z)
number-label (y ∷ table) saved zero x h =
    let same : y ≡ x = cc in ap (λ z. Some (cites z)) same
number-label (y ∷ table) saved (suc p) x h = number-label table saved p x h

number-saved : {A : Type 0} (table : List A) (saved n q : ℕ) → nat_lt n saved ≡ true
    → q ≡ length table + n → step_of_number table saved q ≡ Some (repeats n)
number-saved {A} [] saved n q lt is =
    let same : q ≡ n = omega (arith, is) in
    ap (λ (m : ℕ). step_of_number {A = A} [] saved m) same
    ∙ ap (λ b. if b then Some (repeats n) else None) lt
number-saved (x ∷ table) saved n zero lt is = absurd (omega (arith, is))
number-saved (x ∷ table) saved n (suc q) lt is =
    number-saved table saved n q lt (omega (arith, is))

mapped : (token : ℕ → Token) (table : List ℕ) (p label : ℕ) → slice_get table p ≡ Some label
    → slice_get (map token table) p ≡ Some (token label)
mapped token [] p label h = absurd (let z : ⊥ = cc in z)
mapped token (l ∷ table) zero label h =
    let same : l ≡ label = cc in ap (λ n. Some (token n)) same
mapped token (l ∷ table) (suc p) label h = mapped token table p label h

length-map : (token : ℕ → Token) (table : List ℕ) → length (map token table) ≡ length table
length-map token [] = refl
length-map token (l ∷ table) = ap suc (length-map token table)

one-less : (n : ℕ) → (n + 1) - 1 ≡ n
one-less n = omega arith

both : (a b : Bool) → a && b ≡ true → (a ≡ true) × (b ≡ true)
both true b h = (refl, h)
both false b h = absurd (let z : ⊥ = cc in z)

-- a step before steps that mean something
meant-label : (table : List Token) (saved p : ℕ) (label : Token) (codes : List CompressedStep)
    (steps : List (Step Token)) → slice_get table p ≡ Some label
    → steps_of_numbers table saved codes ≡ Some steps
    → steps_of_numbers table saved (numbered (p + 1) ∷ codes) ≡ Some (cites label ∷ steps)
meant-label table saved p label codes steps at rest =
    ap (λ n. with_step (step_of_number table saved n) (steps_of_numbers table saved codes))
    (one-less p)
    ∙ ap (λ o. with_step o (steps_of_numbers table saved codes))
    (number-label table saved p label at)
    ∙ ap (with_step (Some (cites label))) rest

pub meant : (token : ℕ → Token) (table : List ℕ) (steps placed : List ProofStep) (saved : ℕ)
    → ArePlaced table steps placed → known saved (meanings_of token steps) ≡ true
    → steps_of_numbers (map token table) saved (all_codes (length table) placed)
    ≡ Some (meanings_of token steps)
meant token table [] placed saved is ok =
    ap (λ (ps : List ProofStep). steps_of_numbers (map token table) saved
    (all_codes (length table) ps)) is
meant token table (Cites label ∷ steps) placed saved (first, rest, is, (p, one, at), all) ok =
    ap (λ (ps : List ProofStep). steps_of_numbers (map token table) saved
    (all_codes (length table) ps)) (is ∙ ap (λ (s : ProofStep). s ∷ rest) one)
    ∙ meant-label (map token table) saved p (token label) (all_codes (length table) rest)
    (meanings_of token steps) (mapped token table p label at)
    (meant token table steps rest saved all ok)
meant token table (CitesAndSaves label ∷ steps) placed saved (first, rest, is, (p, one, at), all)
    ok =
    ap (λ (ps : List ProofStep). steps_of_numbers (map token table) saved
    (all_codes (length table) ps)) (is ∙ ap (λ (s : ProofStep). s ∷ rest) one)
    ∙ meant-label (map token table) saved p (token label)
    (save ∷ all_codes (length table) rest) (saves ∷ meanings_of token steps)
    (mapped token table p label at)
    (ap (with_step (Some saves)) (meant token table steps rest (saved + 1) all ok))
meant token table (Repeats n ∷ steps) placed saved (first, rest, is, one, all) ok =
    let parts : (nat_lt n saved ≡ true) × (known saved (meanings_of token steps) ≡ true) =
    both (nat_lt n saved) (known saved (meanings_of token steps)) ok in
    ap (λ (ps : List ProofStep). steps_of_numbers (map token table) saved
    (all_codes (length table) ps)) (is ∙ ap (λ (s : ProofStep). s ∷ rest) one)
    ∙ ap (λ m. with_step (step_of_number (map token table) saved m)
    (steps_of_numbers (map token table) saved (all_codes (length table) rest)))
    (one-less (length table + n))
    ∙ ap (λ o. with_step o
    (steps_of_numbers (map token table) saved (all_codes (length table) rest)))
    (number-saved (map token table) saved n (length table + n) parts.0
    (ap (λ m. m + n) (sym (length-map token table))))
    ∙ ap (with_step (Some (repeats n))) (meant token table steps rest saved all parts.1)

pub means : NumberInFront → SaveInFront → (table : List ℕ) (steps placed : List ProofStep)
    (letters : List ℕ) → ArePlaced table steps placed
    → SpellsSteps (length table) placed [] letters → (token : ℕ → Token) (tree : ProofTree)
    (saved : List ProofTree) → Builds [] (meanings_of token steps) tree saved
    → lettered_steps (map token table) letters ≡ Some (meanings_of token steps)
means number saving table [] placed letters are spells token tree saved builds =
    absurd (built-some [] [] tree saved builds refl)
means number saving table (step ∷ steps) placed letters (first, rest, is, one, all) spells token
    tree saved builds =
    let ok : known 0 (meanings_of token (step ∷ steps)) ≡ true =
    ap (known 0) (sym (append-nil (meanings_of token (step ∷ steps))))
    ∙ built-known [] (meanings_of token (step ∷ steps)) tree saved builds [] in
    ap (option_and_then (steps_of_numbers (map token table) 0))
    (spelled number saving (length table) first rest letters
    (subst (λ (ps : List ProofStep). SpellsSteps (length table) ps [] letters) is spells))
    ∙ ap (λ (ps : List ProofStep). steps_of_numbers (map token table) 0
    (all_codes (length table) ps)) (sym is)
    ∙ meant token table (step ∷ steps) placed 0 (first, rest, is, one, all) ok

pub drop-front : {A : Type 0} (xs ys : List A) → drop (length xs) (xs ++ ys) ≡ ys
drop-front [] ys = refl
drop-front (x ∷ xs) ys = drop-front xs ys
