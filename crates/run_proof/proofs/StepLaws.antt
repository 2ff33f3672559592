-- A proof that has reached the configuration of a run, and what was written of it.
use Rattle.std.proofs.Common.{◌≡◌, ◌≤◌, ℕ, ◌+◌, ◌^◌, ◌<◌, true, false, List, [], ◌++◌, Option, Some, None, inl, inr}
use Rattle.std.proofs.Common.{refl, sym, ◌∙◌, ap, subst, arith, add-one}
use Rattle.std.specs.Prelude.{Result, Ok, Err, IfOk, OnOk, OnErr}
use Rattle.std.proofs.lemmas.List.{append_assoc, append-nil}
use Rattle.desk_io.specs.Told.{Told}
use Rattle.desk_io.specs.Changes.{TellsCreated}
use Rattle.desk_io.proofs.Told.{Writes-nil, Writes-then}
use Rattle.term_core.specs.Terms.{Tree, height}
use Rattle.term_core.specs.Patterns.{Pattern, ground_pattern}
use Rattle.term_core.specs.RulePatterns.{plain_pattern}
use Rattle.term_core.specs.declared.rule_patterns.RulePat.{RulePat}
use Rattle.rule_core.specs.Evaluation.{most_height, Cause}
use Rattle.rule_core.specs.ProgramView.{theory_of}
use Rattle.rule_core.specs.Records.{StepRecord, RecordsStep, result_of}
use Rattle.rule_core.specs.Runs.{Run, stuck, limited, stopped, unstarted, kept_by, IsRunOf}
use Rattle.run_proof.specs.ClosedProofs.{steps_of}
use Rattle.rule_core.specs.Runs.{Steps, steps_on, stays, stops, Reaches, after_step}
use Rattle.rule_core.specs.RunCuts.{MayEndAt, at_configuration}
use Rattle.rule_core.specs.Theories.{RewriteTheory}
use Rattle.rule_core.specs.declared.rules.Program.{Program}
use Rattle.mm_justify.specs.Justifying.{IsProofOfRun, IsFrontOfProof}
use Rattle.mm_justify.specs.Counting.{capped}
use Rattle.prove_step.specs.Steps.{IsStepFrom}
use Rattle.rewriter.specs.Configurations.{RunState, IsConfiguration}
use Rattle.prove_run.specs.RunProof.{RunProof, configuration, reached}
use Rattle.prove_run.specs.Proving.{FitsProof, CanStep, StepsTo}
use Rattle.prove_run.specs.WrittenProofs.{WritesBeginning, WritesStep, WritesFrontOfProof}
use Rattle.prove_run.specs.WrittenProofs.{WritesFrontAfter, EndsStep}
use Rattle.prove_run.proofs.FileLaws.{none_added}
use Rattle.run_proof.specs.ProvedSteps.{IsProvedAt, GoesOn}
use Rattle.run_proof.specs.OpenProofs.{WritesProof, WritesFrontOfRun}
use Rattle.run_proof.specs.ProvedSteps.{EndsNext}
use Rattle.run_proof.specs.ShownRules.{Shows}

-- ---- a step

pub can_step : (program : Program) (run : RunState) (proof : RunProof) (step : StepRecord)
    → IsProvedAt program run proof → height run.config ≤ most_height
    → RecordsStep (theory_of program) run.config step → CanStep proof step
can_step program run proof step at low follows = record {
  term = run.config;
  at = at.is_reached;
  follows =
      subst (λ (p : Program). IsStepFrom (theory_of p) run.config step) (sym at.same_program)
      (record {
        rule = follows.rule;
        there = follows.there;
        low = low;
        matches = follows.matches;
        condition = follows.condition;
        right = follows.right;
      });
}

-- the proof has reached the configuration after the step
pub proved_at : (program : Program) (run : RunState) (before after : RunProof) (u : Tree)
    (old new : Option Told) → before.program ≡ program → WritesStep old new before after u
    → u ≡ run.config → IsConfiguration (theory_of program) run.config
    → IsProvedAt program run after
proved_at program run before after u old new same (added, writes, steps) is sorted = record {
  same_program = steps.same_program ∙ same;
  is_reached =
      ap (configuration (plain_pattern after.start)) steps.made ∙ ap ground_pattern is;
  sound = steps.sound;
  sorted = sorted;
}

pub one_more : (theory : RewriteTheory) (start : Pattern) (calls n c d : ℕ) (t u : Tree)
    → Reaches theory start calls n t c → Steps theory t c (steps_on u d)
    → Reaches theory start calls (n + 1) u d
one_more theory start calls n c d t u reached step =
    subst (λ (m : ℕ). Reaches theory start calls m u d) (sym (add-one n)) (after_step reached step)

-- a count that stays below its limit
pub counted : (n made limit : ℕ) → n ≡ made → made < limit → limit < 2 ^ 32
    → capped (n + 1) ≡ made + 1
counted n made limit is less few = omega arith

-- ---- what was written

-- nothing was written
pub stays_on : (told : Option Told) (proof : RunProof) → TellsCreated true told
    → GoesOn told told proof proof
stays_on told proof h = record {
  same_program = refl;
  same_start = refl;
  text = (
    [],
    Writes-nil told h,
    λ text fits. subst (FitsProof proof) (sym (append-nil text)) fits,
  );
}

pub same_stays : (told : Option Told) (before after : RunProof) → after ≡ before
    → TellsCreated true told → GoesOn told told before after
same_stays told before after is h =
    subst (λ (p : RunProof). GoesOn told told before p) (sym is) (stays_on told before h)

pub goes_step : (old new : Option Told) (before after : RunProof) (u : Tree)
    → WritesStep old new before after u → GoesOn old new before after
goes_step old new before after u (added, writes, steps) = record {
  same_program = steps.same_program;
  same_start = steps.same_start;
  text = (added, writes, steps.fits);
}

pub goes_then : (a b c : Option Told) (p q r : RunProof) → GoesOn a b p q → GoesOn b c q r
    → GoesOn a c p r
goes_then a b c p q r first second = record {
  same_program = second.same_program ∙ first.same_program;
  same_start = second.same_start ∙ first.same_start;
  text = (
    first.text.0 ++ second.text.0,
    Writes-then a b c first.text.0 second.text.0 first.text.1 second.text.1,
    λ text fits. subst (FitsProof r) (append_assoc text first.text.0 second.text.0)
        (second.text.2 (text ++ first.text.0) (first.text.2 text fits)),
  );
}

-- ---- the front that is left after an error

-- the same front, for the program and the start of another proof
front_for : (p q : RunProof) (end : Pattern) (bytes : List ℕ) → q.program ≡ p.program
    → q.start ≡ p.start
    → IsFrontOfProof (theory_of q.program) (plain_pattern q.start) end bytes
    → IsFrontOfProof (theory_of p.program) (plain_pattern p.start) end bytes
front_for p q end bytes same starts h =
    subst (λ (s : RulePat). IsFrontOfProof (theory_of p.program) (plain_pattern s) end bytes) starts
    (subst (λ (o : Program). IsFrontOfProof (theory_of o) (plain_pattern q.start) end bytes) same h)

-- the front of a proof that ends at more patterns
pub front_more : (old new : Option Told) (proof : RunProof) (ends more : Pattern → Type 0)
    → ((end : Pattern) → ends end → more end) → WritesFrontAfter old new proof ends
    → WritesFrontAfter old new proof more
front_more old new proof ends more f (added, writes, front) = (
  added,
  writes,
  λ text fits. let h = front text fits in (h.0, f h.0 h.1, h.2),
)

pub front_later : (a b c : Option Told) (p q : RunProof) (ends : Pattern → Type 0)
    → GoesOn a b p q → WritesFrontAfter b c q ends → WritesFrontAfter a c p ends
front_later a b c p q ends goes (more, writes, front) = (
  goes.text.0 ++ more,
  Writes-then a b c goes.text.0 more goes.text.1 writes,
  λ text fits. let h = front (text ++ goes.text.0) (goes.text.2 text fits) in (
    h.0,
    h.1,
    front_for p q h.0 (text ++ (goes.text.0 ++ more)) goes.same_program goes.same_start
        (subst (IsFrontOfProof (theory_of q.program) (plain_pattern q.start) h.0)
        (append_assoc text goes.text.0 more) h.2),
  ),
)

-- all that was made was written
pub front_so_far : (a b : Option Told) (p q : RunProof) (ends : Pattern → Type 0) → ends (reached q)
    → GoesOn a b p q → TellsCreated true b → WritesFrontAfter a b p ends
front_so_far a b p q ends here goes h =
    front_later a b b p q ends goes (none_added b q ends here h)

-- where a proof ends whose step was not written whole
pub ends_next : (program : Program) (run now : RunState) (proof : RunProof) (step : StepRecord)
    → IsProvedAt program run proof
    → Steps (theory_of program) run.config run.calls (steps_on now.config now.calls)
    → result_of step.right ≡ now.config → (end : Pattern)
    → EndsStep proof (result_of step.right) end → EndsNext program run end
ends_next program run now proof step at steps is end (inl here) = inl (here ∙ at.is_reached)
ends_next program run now proof step at steps is end (inr there) =
    inr (now.config, now.calls, steps, there ∙ ap ground_pattern is)

-- the same for a step that was written whole
pub front_stepped : (program : Program) (run now : RunState) (before after : RunProof)
    (step : StepRecord) (old new : Option Told)
    → WritesStep old new before after (result_of step.right)
    → Steps (theory_of program) run.config run.calls (steps_on now.config now.calls)
    → result_of step.right ≡ now.config → TellsCreated true new
    → WritesFrontAfter old new before (EndsNext program run)
front_stepped program run now before after step old new wrote steps is told =
    front_so_far old new before after (EndsNext program run)
    (inr (
      now.config,
      now.calls,
      steps,
      ap (configuration (plain_pattern after.start)) wrote.2.made ∙ ap ground_pattern is,
    ))
    (goes_step old new before after (result_of step.right) wrote)
    told

-- it is where the run may be cut
pub may_end : (program : Program) (limit calls n : ℕ) (start : Pattern) (run : RunState)
    → Reaches (theory_of program) start calls n run.config run.calls → n < limit → (end : Pattern)
    → EndsNext program run end → MayEndAt (theory_of program) limit calls start end
may_end program limit calls n start run reached less end (inl here) =
    subst (MayEndAt (theory_of program) limit calls start) (sym here)
    (at_configuration reached (omega (arith, less)))
may_end program limit calls n start run reached less end (inr (u, d, step, there)) =
    subst (MayEndAt (theory_of program) limit calls start) (sym there)
    (at_configuration (one_more (theory_of program) start calls n run.calls d run.config u reached step)
    (omega (arith, less)))

pub may_end_here : (program : Program) (limit calls n : ℕ) (start : Pattern) (run : RunState)
    (proof : RunProof) → Reaches (theory_of program) start calls n run.config run.calls → n ≤ limit
    → IsProvedAt program run proof
    → MayEndAt (theory_of program) limit calls start (reached proof)
may_end_here program limit calls n start run proof reached le at =
    subst (MayEndAt (theory_of program) limit calls start) (sym at.is_reached)
    (at_configuration reached le)

-- what follows from what holds after an error
pub on_err_more : {T E : Type 0} (r : Result T E) (P Q : Type 0) → (P → Q) → OnErr r P → OnErr r Q
on_err_more (Ok t) P Q f h = tt
on_err_more (Err e) P Q f h = f h

-- nothing was written
pub none_of_run : (told : Option Told) (theory : RewriteTheory) (limit calls : ℕ) (start : Pattern)
    → TellsCreated true told → WritesFrontOfRun told told theory limit calls start
none_of_run told theory limit calls start h = ([], Writes-nil told h, inl refl)

-- the front of a proof of a run, up to a pattern at which the run may be cut
pub front_of_run : (old new : Option Told) (theory : RewriteTheory) (limit calls : ℕ)
    (start end : Pattern) → MayEndAt theory limit calls start end
    → WritesFrontOfProof old new theory start end → WritesFrontOfRun old new theory limit calls start
front_of_run old new theory limit calls start end cut (bytes, writes, inl none) =
    (bytes, writes, inl none)
front_of_run old new theory limit calls start end cut (bytes, writes, inr front) =
    (bytes, writes, inr (end, cut, front))

-- the front of a proof from its beginning on
pub front_started : (old mid new : Option Told) (program : Program) (start : RulePat)
    (limit calls : ℕ) (value : Option Tree) (proof : RunProof)
    → WritesBeginning old mid program start value proof
    → WritesFrontAfter mid new proof (MayEndAt (theory_of program) limit calls (plain_pattern start))
    → WritesFrontOfRun old new (theory_of program) limit calls (plain_pattern start)
front_started old mid new program start limit calls value proof (text, writes, begins)
    (more, writes', front) =
    let h = front text begins.fits in (
      text ++ more,
      Writes-then old mid new text more writes writes',
      inr (
        h.0,
        h.1,
        subst (λ (s : RulePat).
            IsFrontOfProof (theory_of program) (plain_pattern s) h.0 (text ++ more)) begins.starts
            (subst (λ (p : Program).
            IsFrontOfProof (theory_of p) (plain_pattern proof.start) h.0 (text ++ more))
            begins.same_program h.2),
      ),
    )

-- ---- the whole proof

pub whole_proof : (old mid new : Option Told) (program : Program) (start : RulePat)
    (value : Option Tree) (p q : RunProof) (run : Run) (shown : Option ℕ)
    → WritesBeginning old mid program start value p → (goes : GoesOn mid new p q)
    → reached q ≡ kept_by (plain_pattern q.start) run → q.steps ≡ steps_of run → q.failed ≡ false
    → ((text : List ℕ) → FitsProof p text
    → Shows (text ++ goes.text.0) (theory_of program) run shown)
    → WritesProof old new (theory_of program) (plain_pattern start) run shown q
whole_proof old mid new program start value p q run shown (text, writes, begins) goes at steps sound
    shows =
    let fits : FitsProof q (text ++ goes.text.0) = goes.text.2 text begins.fits in
    let kept : IsProofOfRun (text ++ goes.text.0) (theory_of q.program) (plain_pattern q.start)
    (kept_by (plain_pattern q.start) run) =
    subst (IsProofOfRun (text ++ goes.text.0) (theory_of q.program) (plain_pattern q.start)) at
    fits.proves in (
      text ++ goes.text.0,
      Writes-then old mid new text goes.text.0 writes goes.text.1,
      record {
        proves =
            subst (λ (s : RulePat). IsProofOfRun (text ++ goes.text.0) (theory_of program)
            (plain_pattern s) (kept_by (plain_pattern s) run))
            (goes.same_start ∙ begins.starts)
            (subst (λ (o : Program). IsProofOfRun (text ++ goes.text.0) (theory_of o)
            (plain_pattern q.start) (kept_by (plain_pattern q.start) run))
            (goes.same_program ∙ begins.same_program) kept);
        counts = fits.counts;
        bytes_are = fits.bytes_are;
        steps_are = steps;
        shows = shows text begins.fits;
        sound = sound;
      },
    )

-- the same for a term without a value
pub unstarted_proof : (old new : Option Told) (program : Program) (start : RulePat) (cause : Cause)
    (p : RunProof) → WritesBeginning old new program start None p → TellsCreated true new
    → WritesProof old new (theory_of program) (plain_pattern start) (unstarted cause) None p
unstarted_proof old new program start cause p begun told =
    whole_proof old new new program start None p p (unstarted cause) None begun
    (stays_on new p told) (ap (configuration (plain_pattern p.start)) begun.2.made)
    begun.2.none_made begun.2.sound (λ text fits. tt)

-- ---- how a run ends

pub stuck_run : (theory : RewriteTheory) (start : Pattern) (calls limit n : ℕ) (run : RunState)
    (last : Tree) → Reaches theory start calls n run.config run.calls → n < limit
    → Steps theory run.config run.calls stays → last ≡ run.config
    → IsRunOf theory limit calls start (stuck n last)
stuck_run theory start calls limit n run last reached less step is = (
  run.calls,
  subst (λ (t : Tree). Reaches theory start calls n t run.calls) (sym is) reached,
  less,
  subst (λ (t : Tree). Steps theory t run.calls stays) (sym is) step,
)

pub stopped_run : (theory : RewriteTheory) (start : Pattern) (calls limit n : ℕ) (cause : Cause)
    (run : RunState) (last : Tree) → Reaches theory start calls n run.config run.calls → n < limit
    → Steps theory run.config run.calls (stops cause) → last ≡ run.config
    → IsRunOf theory limit calls start (stopped n cause last)
stopped_run theory start calls limit n cause run last reached less step is = (
  run.calls,
  subst (λ (t : Tree). Reaches theory start calls n t run.calls) (sym is) reached,
  less,
  subst (λ (t : Tree). Steps theory t run.calls (stops cause)) (sym is) step,
)

pub limited_run : (theory : RewriteTheory) (start : Pattern) (calls limit n : ℕ) (run : RunState)
    (last : Tree) → Reaches theory start calls n run.config run.calls → n ≡ limit
    → last ≡ run.config → IsRunOf theory limit calls start (limited limit last)
limited_run theory start calls limit n run last reached number is = (
  run.calls,
  subst (λ (t : Tree). Reaches theory start calls limit t run.calls) (sym is)
      (subst (λ (k : ℕ). Reaches theory start calls k run.config run.calls) number reached),
  refl,
)

-- the configuration of a run that has not moved is what was returned
pub kept_config : (program : Program) (run now : RunState) (proof : RunProof) (last : Tree)
    → IsProvedAt program now proof → now ≡ run → last ≡ run.config
    → (reached proof ≡ ground_pattern last) × IsConfiguration (theory_of program) last
kept_config program run now proof last at same is =
    let config : now.config ≡ last = ap (λ (r : RunState). r.config) same ∙ sym is in (
      at.is_reached ∙ ap ground_pattern config,
      subst (IsConfiguration (theory_of program)) config
          at.sorted,
    )

-- a run that has not moved is still proved
pub same_place : (program : Program) (run now : RunState) (before after : RunProof)
    → IsProvedAt program run before → now ≡ run → after ≡ before → IsProvedAt program now after
same_place program run now before after at same same_proof =
    subst (λ (p : RunProof). IsProvedAt program now p) (sym same_proof)
    (subst (λ (r : RunState). IsProvedAt program r before) (sym same) at)

-- a proof that begins with the value of the start has reached the first configuration
pub started_at : (program : Program) (start : RulePat) (run : RunState) (u : Tree)
    (proof : RunProof) (old new : Option Told)
    → WritesBeginning old new program start (Some u) proof → u ≡ run.config
    → IsConfiguration (theory_of program) run.config → IsProvedAt program run proof
started_at program start run u proof old new (text, writes, begins) is sorted = record {
  same_program = begins.same_program;
  is_reached =
      ap (configuration (plain_pattern proof.start)) begins.made ∙ ap ground_pattern is;
  sound = begins.sound;
  sorted = sorted;
}
