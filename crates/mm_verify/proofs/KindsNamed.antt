-- The fault of a proof over numbers is its fault over tokens.
use Rattle.std.proofs.Common.{◌≡◌, ℕ, zero, suc, ◌<◌, Bool, true, false, List, [], ◌∷◌, ◌++◌}
use Rattle.std.proofs.Common.{length, map, flat_map, get_or, filter, Option, Some, None, refl, ap}
use Rattle.std.proofs.Common.{sym, ◌∙◌, subst, arith, rules}
use Rattle.std.specs.Prelude.{not, ◌&&◌, ◌||◌, if◌then◌else◌, is_some, is_none, option_map}
use Rattle.std.specs.Prelude.{option_and_then, slice_get, MatchOption, All, bytes_eq, codes}
use Rattle.std.specs.List.{list_any, list_all}
use Rattle.std.proofs.lemmas.List.Elements.{All-head, All-tail, All-filter}
use Rattle.mm_text.specs.Bytes.{Token, has_token, has_repeated}
use Rattle.mm_text.specs.FaultKinds.{bad_proof_text}
use Rattle.mm_text.specs.Compressed.{CompressedStep, steps_of}
use Rattle.mm_database.specs.Frames.{Hypothesis, label_of, Frame, floating, essential}
use Rattle.mm_database.specs.Database.{Context}
use Rattle.mm_database.specs.Proofs.{Expression}
use Rattle.mm_database.specs.Steps.{Step, cites}
use Rattle.mm_database.specs.ProofText.{is_citable, with_step, steps_of_numbers, before_close}
use Rattle.mm_database.specs.ProofText.{behind_close, are_listed, mandatory_labels, lettered_steps}
use Rattle.mm_database.specs.ProofText.{compressed_steps, proof_steps}
use Rattle.mm_database.specs.Stack.{stack_after, saving}
use Rattle.mm_database.specs.Orderly.{IsOrderly}
use Rattle.mm_database.specs.Validity.{or_else, Task, task_of}
use Rattle.mm_frame.specs.Numbered.{NumberedHypothesis, NumberedFrame, IsNaming, named}
use Rattle.mm_frame.specs.Numbered.{named_hypothesis, IsNamedFrame}
use Rattle.mm_frame.specs.NumberedSteps.{Citation, IsNamedCitation, CitationIsNamed}
use Rattle.mm_scope.specs.ScopeState.{ScopeState}
use Rattle.mm_scope.specs.StateReads.{hypothesis_named, hypothesis_by_name, hypothesis_at}
use Rattle.mm_scope.specs.StateReads.{frame_named}
use Rattle.mm_scope.specs.Standing.{NamesSymbols, Stands}
use Rattle.mm_scope.specs.StandingLaws.{place_of, PlaceStands, HypothesisStands, FrameCited}
use Rattle.mm_scope.specs.StandingLaws.{NothingCited}
use Rattle.mm_verify.specs.Running.{numbered_steps}
use Rattle.mm_verify.specs.Citing.{cited, cited_at, all_cited}
use Rattle.mm_verify.specs.ProofSteps.{given_by, labels_in, clashes, listed_citations, lettered}
use Rattle.mm_verify.specs.ProofSteps.{compressed_proof, citing, steps_named}
use Rattle.mm_verify.specs.Judging.{proof_kind}
use Rattle.mm_verify.proofs.StepsNamed.{AreCited, cited-append, AreNamed, citing-named}
use Rattle.mm_verify.proofs.StepsNamed.{named_saving, run-named, MeanNamed, steps_of_numbers-named}
use Rattle.mm_verify.proofs.StepsNamed.{left-named, clashes-are}
use Rattle.mm_database.specs.ComputedFault.{task_fault, stack_fault}

-- the laws of the definitions that the steps of a proof need
pub record Laws : Type 0 where
  pub cited : CitationIsNamed
  pub place : PlaceStands
  pub hypothesis : HypothesisStands
  pub frame : FrameCited
  pub nothing : NothingCited

bytes_eq-same : (w : Token) → bytes_eq w w ≡ true
bytes_eq-same w = search rules

get-some : {X : Type 0} (xs : List X) (k : ℕ) (d : X) → k < length xs
    → slice_get xs k ≡ Some (get_or xs k d)
get-some [] k d lt = absurd (none k lt)
  where
    none : (k : ℕ) → k < 0 → ⊥
    none k lt = omega (arith, lt)
get-some (x ∷ xs) zero d lt = refl
get-some (x ∷ xs) (suc k) d lt = get-some xs k d (omega (arith, lt))

labels-named : (name : ℕ → Token) (xs : List NumberedHypothesis)
    → map label_of (map (named_hypothesis name) xs) ≡ labels_in xs
labels-named name [] = refl
labels-named name (floating l t v ∷ xs) = ap (λ (ls : List Token). l ∷ ls) (labels-named name xs)
labels-named name (essential l s ∷ xs) = ap (λ (ls : List Token). l ∷ ls) (labels-named name xs)

module _ (laws : Laws) (h : ScopeState) (c : Context) (name : ℕ → Token) (stands : Stands h c)
    (orderly : IsOrderly c) (naming : IsNaming name) (names : NamesSymbols name h.symbols) where
  abbrev CitedNamed : Token → Option Citation → Type 0
  CitedNamed l o =
      MatchOption o (is_citable c l ≡ false)
      (λ n. (is_citable c l ≡ true) × IsNamedCitation name c l n)

  cited-named : (l : Token) → CitedNamed l (cited_at h l)
  cited-named l = go (hypothesis_named h l) (frame_named h l) refl refl
    where
      some-or : (a b : Bool) → b ≡ true → (a || b) ≡ true
      some-or true b e = refl
      some-or false b e = e

      go : (o : Option NumberedHypothesis) (q : Option NumberedFrame) → hypothesis_named h l ≡ o
          → frame_named h l ≡ q → CitedNamed l (cited o q)
      go (Some x) q a b =
          let w = laws.hypothesis h l x a c name stands naming names in
          (ap (λ (o : Option Hypothesis). is_some o || is_some (c.frames l)) w.is, w)
      go None (Some n) a b =
          let w = laws.frame h l n b c name stands naming names orderly in
          (some-or _ (is_some (c.frames l)) (ap (λ (o : Option Frame). is_some o) w.is), w)
      go None None a b = laws.nothing h l c stands a b

  all-cited-named : (ls : List Token)
      → MatchOption (all_cited h ls) (list_all (is_citable c) ls ≡ false)
      (λ ns. (list_all (is_citable c) ls ≡ true) × AreCited name c ls ns)
  all-cited-named [] = (refl, tt)
  all-cited-named (l ∷ ls) = go (cited_at h l) (all_cited h ls) (cited-named l) (all-cited-named ls)
    where
      and-false : (a b : Bool) → b ≡ false → (a && b) ≡ false
      and-false true b e = e
      and-false false b e = refl

      go : (o : Option Citation) (q : Option (List Citation)) → CitedNamed l o
          → MatchOption q (list_all (is_citable c) ls ≡ false)
          (λ ns. (list_all (is_citable c) ls ≡ true) × AreCited name c ls ns)
          → MatchOption (with_step o q) (list_all (is_citable c) (l ∷ ls) ≡ false)
          (λ ns. (list_all (is_citable c) (l ∷ ls) ≡ true) × AreCited name c (l ∷ ls) ns)
      go None q a b = ap (λ (x : Bool). x && list_all (is_citable c) ls) a
      go (Some n) None a b = and-false (is_citable c l) (list_all (is_citable c) ls) b
      go (Some n) (Some ns) a b =
          (ap (λ (x : Bool). x && list_all (is_citable c) ls) a.0 ∙ b.0, (a.1, b.1))

  abbrev IsOwn : NumberedHypothesis → Type 0
  IsOwn x = hypothesis_named h (label_of x) ≡ Some x

  own : All IsOwn h.hypotheses
  own k d lt =
      let x = get_or h.hypotheses k d in
      let at = get-some h.hypotheses k d lt in
      ap (hypothesis_by_name h (label_of x)) (stands.labelled k x at)
      ∙ ap (hypothesis_at (label_of x)) at
      ∙ ap (λ (b : Bool). if b then Some x else None) (bytes_eq-same (label_of x))

  given-named : (xs : List NumberedHypothesis) → All IsOwn xs
      → AreCited name c (labels_in xs) (given_by xs)
  given-named [] a = tt
  given-named (x ∷ xs) a = (
    laws.hypothesis h (label_of x) x (All-head IsOwn x xs a) c name stands naming names,
    given-named xs (All-tail IsOwn x xs a),
  )

  -- what the two texts of a proof name
  abbrev TextNamed : Option (List (Step Token)) → Option (List (Step Citation)) → Type 0
  TextNamed None None = Unit {0}
  TextNamed None (Some ns) = ⊥
  TextNamed (Some ss) None = ⊥
  TextNamed (Some ss) (Some ns) = AreNamed name c ss ns

  normal-named : (words : List Token)
      → TextNamed (if list_all (is_citable c) words then Some (map (λ l. cites l) words) else None)
      (option_map citing (all_cited h words))
  normal-named words = go (all_cited h words) (all-cited-named words)
    where
      go : (o : Option (List Citation))
          → MatchOption o (list_all (is_citable c) words ≡ false)
          (λ ns. (list_all (is_citable c) words ≡ true) × AreCited name c words ns)
          → TextNamed
          (if list_all (is_citable c) words then Some (map (λ l. cites l) words) else None)
          (option_map citing o)
      go None a =
          subst (λ (b : Bool). TextNamed (if b then Some (map (λ l. cites l) words) else None) None)
          (sym a) tt
      go (Some ns) a =
          subst (λ (b : Bool). TextNamed (if b then Some (map (λ l. cites l) words) else None)
          (Some (citing ns))) (sym a.0) (citing-named name c words ns a.1)

  module _ (n : NumberedFrame) (f : Frame) (frame : IsNamedFrame name n f)
      (test : NumberedHypothesis → Bool) (mandatory : n.hypotheses ≡ filter test h.hypotheses) where
    labels-are : mandatory_labels f ≡ labels_in n.hypotheses
    labels-are = ap (map label_of) frame.hypotheses ∙ labels-named name n.hypotheses

    given : AreCited name c (labels_in n.hypotheses) (given_by n.hypotheses)
    given =
        given-named n.hypotheses
        (subst (All IsOwn) (sym mandatory) (All-filter test IsOwn h.hypotheses own))

    -- the letters, if the listed labels cite `ns`
    letters-named : (listed : List Token) (letters : List ℕ) (ns : List Citation)
        → AreCited name c listed ns
        → TextNamed (lettered_steps (mandatory_labels f ++ listed) letters)
        (lettered n.hypotheses letters ns)
    letters-named listed letters ns a =
        go (steps_of letters)
      where
        table : AreCited name c (mandatory_labels f ++ listed) (given_by n.hypotheses ++ ns)
        table =
            subst
            (λ (ls : List Token). AreCited name c (ls ++ listed) (given_by n.hypotheses ++ ns))
            (sym labels-are)
            (cited-append name c (labels_in n.hypotheses) listed (given_by n.hypotheses) ns given a)

        meant : (o : Option (List (Step Token))) (q : Option (List (Step Citation)))
            → MeanNamed name c o q → TextNamed o q
        meant o None w = subst (λ (x : Option (List (Step Token))). TextNamed x None) (sym w) tt
        meant o (Some qs) w =
            subst (λ (x : Option (List (Step Token))). TextNamed x (Some qs)) (sym w.1) w.2

        go : (o : Option (List CompressedStep))
            → TextNamed (option_and_then (steps_of_numbers (mandatory_labels f ++ listed) 0) o)
            (option_and_then (steps_of_numbers (given_by n.hypotheses ++ ns) 0) o)
        go None = tt
        go (Some ks) =
            meant (steps_of_numbers (mandatory_labels f ++ listed) 0 ks)
            (steps_of_numbers (given_by n.hypotheses ++ ns) 0 ks)
            (steps_of_numbers-named name c (mandatory_labels f ++ listed)
            (given_by n.hypotheses ++ ns) 0 ks table)

    listed-are : (listed : List Token)
        → are_listed c (mandatory_labels f) listed
        ≡ (list_all (is_citable c) listed && not (clashes (labels_in n.hypotheses) listed))
    listed-are listed =
        ap (λ (ls : List Token). are_listed c ls listed) labels-are
        ∙ ap (λ (b : Bool). list_all (is_citable c) listed && b)
        (swapped (has_repeated listed) (list_any (has_token (labels_in n.hypotheses)) listed))
        ∙ ap (λ (b : Bool). list_all (is_citable c) listed && not b)
        (sym (clashes-are (labels_in n.hypotheses) listed))
      where
        swapped : (a b : Bool) → (not a && not b) ≡ not (b || a)
        swapped true true = refl
        swapped true false = refl
        swapped false true = refl
        swapped false false = refl

    compressed-named : (tokens : List Token)
        → TextNamed (compressed_steps c f tokens) (compressed_proof h n.hypotheses tokens)
    compressed-named tokens = ends (has_token tokens (codes ")"))
      where
        no-labels : (b : Bool) → b ≡ false → (o : Option (List (Step Citation))) → o ≡ None
            → TextNamed (if b
            then lettered_steps (mandatory_labels f ++ before_close tokens)
            (flat_map (λ t. t) (behind_close tokens)) else None) o
        no-labels true e o k = absurd (cc)
        no-labels false e None k = tt
        no-labels false e (Some ns) k = absurd (cc)

        cite : (clash : Bool) → clashes (labels_in n.hypotheses) (before_close tokens) ≡ clash
            → (o : Option (List Citation))
            → MatchOption o (list_all (is_citable c) (before_close tokens) ≡ false)
            (λ ns. (list_all (is_citable c) (before_close tokens) ≡ true)
            × AreCited name c (before_close tokens) ns)
            → TextNamed (if are_listed c (mandatory_labels f) (before_close tokens)
            then lettered_steps (mandatory_labels f ++ before_close tokens)
            (flat_map (λ t. t) (behind_close tokens)) else None)
            (option_and_then (lettered n.hypotheses (flat_map (λ t. t) (behind_close tokens)))
            (if clash then None else o))
        cite true e o a =
            no-labels (are_listed c (mandatory_labels f) (before_close tokens))
            (listed-are (before_close tokens)
            ∙ ap (λ (b : Bool). list_all (is_citable c) (before_close tokens) && not b) e
            ∙ last-false (list_all (is_citable c) (before_close tokens))) None refl
          where
            last-false : (b : Bool) → (b && false) ≡ false
            last-false true = refl
            last-false false = refl
        cite false e None a =
            no-labels (are_listed c (mandatory_labels f) (before_close tokens))
            (listed-are (before_close tokens)
            ∙ ap (λ (b : Bool).
            b && not (clashes (labels_in n.hypotheses) (before_close tokens))) a)
            None refl
        cite false e (Some ns) a =
            let listed-well : are_listed c (mandatory_labels f) (before_close tokens) ≡ true =
            listed-are (before_close tokens)
            ∙ ap (λ (b : Bool).
            b && not (clashes (labels_in n.hypotheses) (before_close tokens))) a.0
            ∙ ap (λ (b : Bool). not b) e in
            subst (λ (b : Bool). TextNamed (if b
            then lettered_steps (mandatory_labels f ++ before_close tokens)
            (flat_map (λ t. t) (behind_close tokens)) else None)
            (lettered n.hypotheses (flat_map (λ t. t) (behind_close tokens)) ns))
            (sym listed-well)
            (letters-named (before_close tokens) (flat_map (λ t. t) (behind_close tokens)) ns a.1)

        ends : (b : Bool)
            → TextNamed (if b && are_listed c (mandatory_labels f) (before_close tokens)
            then lettered_steps (mandatory_labels f ++ before_close tokens)
            (flat_map (λ t. t) (behind_close tokens)) else None) (if b
            then option_and_then
            (lettered n.hypotheses (flat_map (λ t. t) (behind_close tokens)))
            (listed_citations h n.hypotheses (before_close tokens)) else None)
        ends true =
            cite (clashes (labels_in n.hypotheses) (before_close tokens)) refl
            (all_cited h (before_close tokens)) (all-cited-named (before_close tokens))
        ends false = tt

    text-named : (words : List Token)
        → TextNamed (proof_steps c f words) (steps_named h n.hypotheses words)
    text-named [] = tt
    text-named (t ∷ ts) = go (bytes_eq t (codes "("))
      where
        go : (b : Bool)
            → TextNamed (if b then compressed_steps c f ts else if list_all (is_citable c) (t ∷ ts)
            then Some (map (λ l. cites l) (t ∷ ts)) else None) (if b
            then compressed_proof h n.hypotheses ts
            else option_map citing (all_cited h (t ∷ ts)))
        go true = compressed-named ts
        go false = normal-named (t ∷ ts)

    runs : (ss : List (Step Token)) (ns : List (Step Citation)) → AreNamed name c ss ns
        → stack_after c ss
        ≡ option_map (λ w. w.stack)
        (option_map (named_saving name) (numbered_steps (place_of h) ns (saving [] [])))
    runs ss ns a =
        ap (option_map (λ w. w.stack)) (run-named laws.cited name (place_of h) c naming
        (laws.place h c name stands naming names) ss ns (saving [] []) a)

    -- the fault of a proof or of its text
    pub kind-named : (words : List Token)
        → or_else (if is_none (task_of c f words) then Some bad_proof_text else None)
        (task_fault c (task_of c f words))
        ≡ proof_kind (place_of h) n.statement (steps_named h n.hypotheses words)
    kind-named words =
        go (proof_steps c f words) (steps_named h n.hypotheses words) (text-named words)
      where
        go : (o : Option (List (Step Token))) (q : Option (List (Step Citation))) → TextNamed o q
            → or_else (if is_none {T = Task}
            (option_map (λ ss. record { conclusion = f.statement; steps = ss }) o)
            then Some bad_proof_text else None) (task_fault c
            (option_map (λ ss. record { conclusion = f.statement; steps = ss }) o))
            ≡ proof_kind (place_of h) n.statement q
        go None None a = refl
        go None (Some ns) a = absurd (a)
        go (Some ss) None a = absurd (a)
        go (Some ss) (Some ns) a =
            ap (λ (x : Expression). stack_fault x (stack_after c ss)) frame.statement
            ∙ ap (stack_fault (named name n.statement)) (runs ss ns a)
            ∙ left-named name naming n.statement (numbered_steps (place_of h) ns (saving [] []))
