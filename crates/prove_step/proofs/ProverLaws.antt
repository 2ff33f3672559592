-- What is true when a prover makes a step.
use Rattle.std.proofs.Common.{◌≡◌, ◌≢◌, ◌<◌, ℕ, true, false, zero, suc, List, [], ◌∷◌, ◌++◌, Option}
use Rattle.std.proofs.Common.{Some, None, length, replicate, set, get_or, slice_get, inl, inr, refl}
use Rattle.std.proofs.Common.{sym, ◌∙◌, ap, subst, arith}
use Rattle.std.specs.Prelude.{Result, Ok, Err, OnOk, OnErr, Contains, ◌⊎◌, ◌==◌, slice_index_or}
use Rattle.std.proofs.lemmas.Bool.Decides.{eqb_tells}
use Rattle.std.proofs.lemmas.List.{get_or-set_same, get_or-set_other}
use Rattle.std.proofs.lemmas.List.Elements.{Contains-append_left}
use Rattle.std.proofs.lemmas.Option.{slice_get_within, slice_get-get_or, get_or_from_slice_get}
use Rattle.ml_kernel.specs.Theorems.{Theorem}
use Rattle.rule_core.specs.Records.{StepRecord}
use Rattle.rule_core.specs.Rules.{RewriteRule}
use Rattle.rule_core.specs.ProgramView.{rewrite_rule}
use Rattle.rule_core.specs.declared.rules.Rule.{Rule}
use Rattle.rule_core.specs.declared.rules.Program.{Program}
use Rattle.ml_image.proofs.ImageLaws.{none_some, some_same}
use Rattle.prove_term.specs.Contexts.{Context, HasGrown}
use Rattle.prove_term.specs.RuleAxioms.{HasImageAt}
use Rattle.prove_term.proofs.ContextLaws.{grown_none, grown_lemma}
use Rattle.prove_step.specs.RuleLemmas.{IsRuleLemma, IsLemmaOf, SaysSchemaAt, AreRuleLemmas}
use Rattle.prove_step.specs.Applying.{CanApply, IsStepOf, SaysApplied, SaysConditionAt}
use Rattle.prove_step.specs.Applying.{SaysFilledAt}
use Rattle.prove_step.proofs.StepFacts.{StepFacts, step_facts, step_rule}
use Rattle.prove_step.proofs.GrowthLaws.{schema_at_grown}

-- the lemma of the rule may be used
can_step : (cx : Context) (step : StepRecord) (lemma : Theorem) (o : Option Theorem) (r : Rule)
    → IsStepOf cx.program step → IsRuleLemma cx step.rule lemma
    → SaysConditionAt cx step.rule step.theta o
    → slice_get cx.program.rules.items step.rule ≡ Some r
    → CanApply cx (rewrite_rule r) lemma step.theta o
can_step cx step lemma o r h is said there =
    let facts : StepFacts cx.program step r = step_facts cx.program step r h there in
    record {
      well_sorted = h.well_sorted;
      image = facts.image;
      room = facts.matches.binds.room;
      respects = facts.matches.binds.sorted;
      bound = facts.bound;
      schema = is.1 r there;
      listed = is.0;
      condition = said r there;
    }

pub can_step_at : (cx : Context) (step : StepRecord) (lemma : Theorem) (o : Option Theorem)
    → IsStepOf cx.program step → IsRuleLemma cx step.rule lemma
    → SaysConditionAt cx step.rule step.theta o
    → (r : RewriteRule) × CanApply cx r lemma step.theta o
can_step_at cx step lemma o h is said =
    let w : (r : Rule) × (slice_get cx.program.rules.items step.rule ≡ Some r) =
    step_rule cx.program step h in
    (rewrite_rule w.0, can_step cx step lemma o w.0 h is said w.1)

-- what the lemma then says of the rule's sides
pub applied_sides : (mid new : Context) (step : StepRecord) (lemma : Theorem) (o : Option Theorem)
    (t : Theorem) → HasGrown mid new → IsStepOf mid.program step
    → IsRuleLemma mid step.rule lemma → SaysConditionAt mid step.rule step.theta o
    → SaysApplied mid lemma step.theta o new t → SaysFilledAt new step.rule step.theta t.conclusion
applied_sides mid new step lemma o t g h is said says r there =
    says (rewrite_rule r) (can_step mid step lemma o r h is said
    (subst (λ (p : Program). slice_get p.rules.items step.rule ≡ Some r) g.program there))

-- a lemma of a rule stays one
pub rule_lemma_later : (a b : Context) (i : ℕ) (t : Theorem) → HasGrown a b → IsRuleLemma a i t
    → IsRuleLemma b i t
rule_lemma_later a b i t g is = (
  subst (λ (ts : List Theorem). Contains ts t) (sym g.more_lemmas)
      (Contains-append_left a.lemmas g.lemmas t is.0),
  schema_at_grown a b i t g is.1,
)

-- ---- places of lemmas

all_alike : (o : Option ℕ) (n i : ℕ) → slice_index_or (replicate n o) i o ≡ o
all_alike o zero i = refl
all_alike o (suc n) zero = refl
all_alike o (suc n) (suc i) = all_alike o n i

pub no_rule_lemmas : (cx : Context) (n : ℕ) → AreRuleLemmas cx (replicate n None)
no_rule_lemmas cx n i k there = absurd (none_some k (sym (all_alike None n i) ∙ there))

pub rule_lemmas_set : (cx : Context) (places : List (Option ℕ)) (i k : ℕ) → i < length places
    → IsLemmaOf cx i k → AreRuleLemmas cx places → AreRuleLemmas cx (set places i (Some k))
rule_lemmas_set cx places i k low is are j m there = go (eqb_tells j i)
  where
    go : (((j == i) ≡ true) × (j ≡ i)) ⊎ (((j == i) ≡ false) × (j ≢ i)) → IsLemmaOf cx j m
    go (inl same) =
        let here : slice_index_or (set places i (Some k)) i None ≡ Some m =
        ap (λ (x : ℕ). slice_index_or (set places i (Some k)) x None) (sym same.1) ∙ there in
        let number : k ≡ m =
        some_same k m (sym (get_or-set_same places i (Some k) None low) ∙ here) in
        subst (λ (x : ℕ). IsLemmaOf cx x m) (sym same.1) (subst (IsLemmaOf cx i) number is)
    go (inr other) = are j m (sym (get_or-set_other places i j (Some k) None other.1) ∙ there)

-- ---- a new lemma

at_end : {A : Type 0} (xs : List A) (x : A) → slice_get (xs ++ x ∷ []) (length xs) ≡ Some x
at_end [] x = refl
at_end (y ∷ xs) x = at_end xs x

-- the new lemma is the last one
pub lemma_placed : (mid new : Context) (i : ℕ) (schema lemma : Theorem) → lemma ≡ schema
    → new ≡ record mid { lemmas = mid.lemmas ++ lemma ∷ [] } → SaysSchemaAt mid i schema
    → IsLemmaOf new i (length mid.lemmas)
lemma_placed mid new i schema lemma same is says =
    let grown : Context = record mid { lemmas = mid.lemmas ++ lemma ∷ [] } in
    let there : IsLemmaOf grown i (length mid.lemmas) = (
      lemma,
      at_end mid.lemmas lemma,
      schema_at_grown mid grown i lemma (grown_lemma mid lemma)
          (subst (SaysSchemaAt mid i) (sym same) says),
    ) in
    subst (λ (cx : Context). IsLemmaOf cx i (length mid.lemmas)) (sym is) there

pub grown_to : (mid new : Context) (lemma : Theorem)
    → new ≡ record mid { lemmas = mid.lemmas ++ lemma ∷ [] } → HasGrown mid new
grown_to mid new lemma is = subst (HasGrown mid) (sym is) (grown_lemma mid lemma)

pub grown_same : (mid new : Context) → new ≡ mid → HasGrown mid new
grown_same mid new is = subst (HasGrown mid) (sym is) (grown_none mid)

-- the context has one more lemma, or nothing changed
pub grown_either : {A E : Type 0} (r : Result A E) (mid new : Context) (lemma : Theorem)
    → OnOk r (new ≡ record mid { lemmas = mid.lemmas ++ lemma ∷ [] }) → OnErr r (new ≡ mid)
    → HasGrown mid new
grown_either (Ok x) mid new lemma ok err = grown_to mid new lemma ok
grown_either (Err e) mid new lemma ok err = grown_same mid new err

-- ---- places

-- the rule is still there
pub rule_within : (old new : Context) (i : ℕ) → HasGrown old new → HasImageAt old.program i
    → i < length new.program.rules.items
rule_within old new i g (r, there, has) =
    subst (λ (p : Program). i < length p.rules.items) (sym g.program)
    (slice_get_within old.program.rules.items i r there)

-- what was read at the rule's place
pub place_kept : (cx : Context) (places : List (Option ℕ)) (i k : ℕ) (read : Option ℕ)
    → length places ≡ length cx.program.rules.items → i < length cx.program.rules.items
    → AreRuleLemmas cx places → read ≡ slice_index_or places i read → read ≡ Some k
    → IsLemmaOf cx i k
place_kept cx places i k read room low are is there =
    let at : slice_get places i ≡ Some (get_or places i read) =
    slice_get-get_or places i read (omega (arith, room, low)) in
    are i k (get_or_from_slice_get places i (get_or places i read) None at ∙ sym is ∙ there)
