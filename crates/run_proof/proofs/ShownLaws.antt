-- The end of a stuck run, and what a text with the theorems on its rules shows.
use Rattle.std.proofs.Common.{◌≡◌, ◌++◌, ℕ, true, false, List, [], ◌∷◌, Option, Some, None, length}
use Rattle.std.proofs.Common.{Bool, refl, sym, ◌∙◌, ap, subst, rules}
use Rattle.std.specs.Prelude.{All, IsTrue, vec_len}
use Rattle.std.specs.List.{AllZip}
use Rattle.std.proofs.lemmas.List.{append_assoc, append-nil, length-map}
use Rattle.std.proofs.lemmas.List.Elements.{All-nil, All-cons, All-head, All-tail, All-weaker}
use Rattle.desk_io.specs.Told.{Told}
use Rattle.desk_io.specs.Changes.{TellsCreated}
use Rattle.desk_io.proofs.Told.{Writes-nil, Writes-then}
use Rattle.term_core.specs.Terms.{Tree}
use Rattle.term_core.specs.Patterns.{Pattern}
use Rattle.term_core.specs.RulePatterns.{plain_pattern}
use Rattle.term_core.specs.declared.rule_patterns.RulePat.{RulePat}
use Rattle.rule_core.specs.ProgramView.{rewrite_rule, theory_of}
use Rattle.rule_core.specs.Rules.{RewriteRule}
use Rattle.rule_core.specs.Runs.{Run, stuck, limited, stopped, unstarted, kept_by, IsRunOf}
use Rattle.rule_core.specs.Runs.{Steps, stays}
use Rattle.rule_core.specs.RunCuts.{MayEndAt}
use Rattle.rule_core.specs.Theories.{RewriteTheory}
use Rattle.rule_core.specs.declared.rules.Program.{Program}
use Rattle.rule_core.proofs.RunEnds.{run_may_end}
use Rattle.ml_kernel.specs.Theorems.{Theorem}
use Rattle.ml_pat.specs.Named.{AreDistinct}
use Rattle.mm_text.specs.Bytes.{Token}
use Rattle.mm_claims.specs.Blocks.{open_assertion, open_frame}
use Rattle.mm_claims.specs.ClaimVariables.{claim_of}
use Rattle.mm_claims.specs.Fitting.{AreNames}
use Rattle.mm_justify.specs.ImageLaws.{SentenceHasNoMeta}
use Rattle.mm_justify.specs.Justifying.{IsFrontOfProof, SaysNoMore}
use Rattle.mm_justify.specs.Stating.{IsName, holds_frame}
use Rattle.mm_justify.specs.StatingLaws.{ClaimsAreHolds, NamesAreNames}
use Rattle.prove_term.specs.Contexts.{Context, HasGrown, IsContext, StaysIn}
use Rattle.proof_writer.specs.PlainNames.{HasPlainNames}
use Rattle.proof_writer.specs.StatedTheorems.{IsTheoremOf}
use Rattle.proof_writer.proofs.PlainNameLaws.{own_names}
use Rattle.prove_run.specs.AddedLemmas.{EndsHere, WritesLemmas}
use Rattle.prove_run.specs.RunProof.{RunProof, configuration, proof_context, reached, with_context}
use Rattle.prove_run.specs.Proving.{FitsProof}
use Rattle.prove_run.specs.WrittenProofs.{WritesBeginning, WritesFrontAfter}
use Rattle.rewriter.specs.Configurations.{RunState}
use Rattle.stuck_prove.specs.NotMet.{not_met}
use Rattle.stuck_prove.specs.RefutedRules.{SaysNotMet, SayNoneMet}
use Rattle.run_proof.specs.ClosedProofs.{steps_of}
use Rattle.run_proof.specs.OpenProofs.{WritesProof, WritesFrontOfRun}
use Rattle.run_proof.specs.ProvedSteps.{GoesOn}
use Rattle.run_proof.specs.ShownRules.{Shows, ShowsNoneMet, ShowsNotMet}
use Rattle.run_proof.specs.StuckEnds.{AddsSaying, IsStuckAt}
use Rattle.run_proof.specs.StuckRuns.{IsStuck}
use Rattle.run_proof.proofs.StepLaws.{front_later, front_more, front_started, whole_proof}

-- ---- theorems on rules

zip_left : {A B : Type 0} (R : A → B → Type 0) (P : B → Type 0) (Q : A → Type 0) (xs : List A)
    (ys : List B) → ((a : A) (b : B) → R a b → P b → Q a) → AllZip R xs ys → All P ys → All Q xs
zip_left R P Q [] [] f zip all = All-nil Q
zip_left R P Q [] (y ∷ ys) f zip all = absurd zip
zip_left R P Q (x ∷ xs) [] f zip all = absurd zip
zip_left R P Q (x ∷ xs) (y ∷ ys) f zip all =
    All-cons Q x xs (f x y zip.0 (All-head P y ys all))
    (zip_left R P Q xs ys f zip.1 (All-tail P y ys all))

zip_right : {A B : Type 0} (R : A → B → Type 0) (P : B → Type 0) (xs : List A) (ys : List B)
    → ((a : A) (b : B) → R a b → P b) → AllZip R xs ys → All P ys
zip_right R P [] [] f zip = All-nil P
zip_right R P [] (y ∷ ys) f zip = absurd zip
zip_right R P (x ∷ xs) [] f zip = absurd zip
zip_right R P (x ∷ xs) (y ∷ ys) f zip =
    All-cons P y ys (f x y zip.0) (zip_right R P xs ys f zip.1)

pub all_stay : (cx : Context) (t : Tree) (rules : List RewriteRule) (thms : List Theorem)
    → SayNoneMet cx t rules thms → All (StaysIn cx) thms
all_stay cx t rules thms says =
    zip_right (SaysNotMet cx t) (StaysIn cx) rules thms (λ r thm s. s.stays) says

-- the tokens of a context are names
pub names_are : (cx : Context) → NamesAreNames → HasPlainNames cx.program.sig → IsContext cx
    → All IsName cx.names
names_are cx law plain is =
    each cx.names (own_names cx.program.sig plain cx.names is.own)
  where
    each : (tokens : List Token) → AreNames tokens → All IsName tokens
    each [] h = All-nil IsName
    each (token ∷ tokens) h = All-cons IsName token tokens ((law token).0 h.0) (each tokens h.1)

rule_shown : (cx : Context) (t : Tree) (bytes : List ℕ) (r : RewriteRule) (thm : Theorem)
    → ClaimsAreHolds → SentenceHasNoMeta → All IsName cx.names → AreDistinct cx.names
    → SaysNotMet cx t r thm → IsTheoremOf cx.names bytes thm
    → ShowsNotMet bytes (theory_of cx.program) t r
rule_shown cx t bytes r thm claims metas names distinct says there = record {
  condition = says.condition;
  is_condition = says.is_condition;
  proves = record {
    names = cx.names;
    are_names = names;
    distinct = distinct;
    image = thm.conclusion;
    is_image = says.says;
    theorem = open_assertion true cx.names there.0 (claim_of thm.hypotheses thm.conclusion);
    there = there.1;
    proved = refl;
    says =
        subst (λ hs. SaysNoMore (holds_frame cx.names thm.conclusion)
        (open_frame cx.names there.0 (claim_of hs thm.conclusion))) (sym says.no_hypotheses)
        (claims cx.names there.0 thm.conclusion
        (metas cx.program.sig cx.names (not_met r says.condition t) thm.conclusion says.says)).1;
  };
}

none_shown : (cx : Context) (t : Tree) (bytes : List ℕ) (thms : List Theorem) → ClaimsAreHolds
    → SentenceHasNoMeta → All IsName cx.names → AreDistinct cx.names
    → SayNoneMet cx t (theory_of cx.program).rules thms → All (IsTheoremOf cx.names bytes) thms
    → ShowsNoneMet bytes (theory_of cx.program) t
none_shown cx t bytes thms claims metas names distinct says there =
    zip_left (SaysNotMet cx t) (IsTheoremOf cx.names bytes)
    (ShowsNotMet bytes (theory_of cx.program) t) (theory_of cx.program).rules thms
    (λ r thm. rule_shown cx t bytes r thm claims metas names distinct) says there

-- the lemmas were added to the proof with the context in which they were made
pub stuck_shown : (old new : Option Told) (program : Program) (p after : RunProof) (cx : Context)
    (t : Tree) (thms : List Theorem) → p.program ≡ program → HasGrown (proof_context p) cx
    → ((text : List ℕ) → FitsProof p text → FitsProof (with_context p cx) text)
    → ClaimsAreHolds → SentenceHasNoMeta → All IsName cx.names → AreDistinct cx.names
    → SayNoneMet cx t (theory_of cx.program).rules thms
    → WritesLemmas old new (with_context p cx) after thms
    → AddsSaying (λ text. ShowsNoneMet text (theory_of program) t) old new p after
stuck_shown old new program p after cx t thms same grown fits claims metas names distinct says
    (added, writes, adds) = record {
      same_program = ap (λ (c : Context). c.program) adds.context ∙ grown.program;
      same_start = adds.same_start;
      same_made = adds.same_made;
      same_steps = adds.same_steps;
      sound = adds.sound;
      text = (added, writes, λ text h. (adds.fits text (fits text h), shown text h));
    }
  where
    shown : (text : List ℕ) → FitsProof p text
        → ShowsNoneMet (text ++ added) (theory_of program) t
    shown text h =
        subst (λ (o : Program). ShowsNoneMet (text ++ added) (theory_of o) t) (grown.program ∙ same)
        (none_shown cx t (text ++ added) thms claims metas names distinct says
        (subst (λ (ns : List Token). All (IsTheoremOf ns (text ++ added)) thms)
        (ap (λ (c : Context). c.names) adds.context) (adds.proves text (fits text h))))

-- the proof that was taken apart, with the context in which the theorems were made
pub joined_is : (p rest joined : RunProof) (cx : Context) → rest ≡ p
    → joined ≡ with_context rest cx → joined ≡ with_context p cx
joined_is p rest joined cx same is = is ∙ ap (λ (x : RunProof). with_context x cx) same

pub joined_fits : (p rest joined : RunProof) (cx : Context) → rest ≡ p
    → joined ≡ with_context rest cx → p.failed ≡ false
    → (rest.failed ≡ false → (text : List ℕ) → FitsProof rest text → FitsProof joined text)
    → (text : List ℕ) → FitsProof p text → FitsProof (with_context p cx) text
joined_fits p rest joined cx same is sound fits text h =
    subst (λ (x : RunProof). FitsProof x text) (joined_is p rest joined cx same is)
    (fits (ap (λ (x : RunProof). x.failed) same ∙ sound) text
    (subst (λ (x : RunProof). FitsProof x text) (sym same) h))

-- an error left the front of the lemmas' text
pub front_joined : (old new : Option Told) (p : RunProof) (cx : Context)
    → HasGrown (proof_context p) cx
    → ((text : List ℕ) → FitsProof p text → FitsProof (with_context p cx) text)
    → WritesFrontAfter old new (with_context p cx) (EndsHere (with_context p cx))
    → WritesFrontAfter old new p (EndsHere p)
front_joined old new p cx grown fits (added, writes, front) = (
  added,
  writes,
  λ text h. let f = front text (fits text h) in (
    f.0,
    f.1,
    subst (λ (o : Program). IsFrontOfProof (theory_of o)
        (plain_pattern p.start) f.0 (text ++ added)) grown.program f.2,
  ),
)

-- ---- what is shown of the end

pub stuck_at : (program : Program) (run now : RunState) (n : ℕ) (last : Tree)
    → Steps (theory_of program) run.config run.calls stays → last ≡ run.config → now ≡ run
    → IsStuckAt program now (stuck n last)
stuck_at program run now n last step is same =
    subst (λ (r : RunState). IsStuckAt program r (stuck n last)) (sym same) (step, is)

pub none_asked : (b : Bool) → b ≡ false → IsTrue b → ⊥
none_asked b is_false asked = search rules

-- how many rules there are
pub all_rules : (program p : Program) (k : ℕ) → k ≡ vec_len program.rules → program ≡ p
    → k ≡ length (theory_of p).rules
all_rules program p k counted same =
    counted ∙ ap (λ (o : Program). vec_len o.rules) same ∙ p.rules.ok.0
    ∙ sym (length-map p.rules.items rewrite_rule)

-- nothing was added, and nothing is shown
pub adds_nothing : (told : Option Told) (p : RunProof) (theory : RewriteTheory) (run : Run)
    → TellsCreated true told → p.failed ≡ false
    → AddsSaying (λ text. Shows text theory run None) told told p p
adds_nothing told p theory run created sound = record {
  same_program = refl;
  same_start = refl;
  same_made = refl;
  same_steps = refl;
  sound = sound;
  text = (
    [],
    Writes-nil told created,
    λ text h. (subst (FitsProof p) (sym (append-nil text)) h, tt),
  );
}

pub stuck_steps : (program : Program) (now : RunState) (run : Run) → IsStuck run
    → IsStuckAt program now run → Steps (theory_of program) now.config now.calls stays
stuck_steps program now (stuck n t) is at = at.0
stuck_steps program now (limited n t) is at = absurd is
stuck_steps program now (stopped n cause t) is at = absurd is
stuck_steps program now (unstarted cause) is at = absurd is

shows_there : (program : Program) (now : RunState) (run : Run) (k : ℕ) (text : List ℕ)
    → IsStuck run → IsStuckAt program now run
    → ShowsNoneMet text (theory_of program) now.config → Shows text (theory_of program) run (Some k)
shows_there program now (stuck n t) k text is at shown =
    subst (ShowsNoneMet text (theory_of program)) (sym at.1) shown
shows_there program now (limited n t) k text is at shown = absurd is
shows_there program now (stopped n cause t) k text is at shown = absurd is
shows_there program now (unstarted cause) k text is at shown = absurd is

-- all rules are shown unmet at the end of a stuck run
pub adds_shown : (program : Program) (now : RunState) (run : Run) (k : ℕ) (old new : Option Told)
    (p q : RunProof) → IsStuck run → IsStuckAt program now run
    → AddsSaying (λ text. ShowsNoneMet text (theory_of program) now.config) old new p q
    → AddsSaying (λ text. Shows text (theory_of program) run (Some k)) old new p q
adds_shown program now run k old new p q is at adds = record {
  same_program = adds.same_program;
  same_start = adds.same_start;
  same_made = adds.same_made;
  same_steps = adds.same_steps;
  sound = adds.sound;
  text = (
    adds.text.0,
    adds.text.1,
    λ text h. (
      (adds.text.2 text h).0,
      shows_there program now run k (text ++ adds.text.0) is at (adds.text.2 text h).1,
    ),
  );
}

-- ---- the whole proof

-- what was added to the proof, and then this
abbrev goes_saying : (says : List ℕ → Type 0) (old now new : Option Told) (p q r : RunProof)
    → GoesOn old now p q → AddsSaying says now new q r → GoesOn old new p r
goes_saying says old now new p q r goes adds = record {
  same_program = adds.same_program ∙ goes.same_program;
  same_start = adds.same_start ∙ goes.same_start;
  text = (
    goes.text.0 ++ adds.text.0,
    Writes-then old now new goes.text.0 adds.text.0 goes.text.1 adds.text.1,
    λ text h. subst (FitsProof r) (append_assoc text goes.text.0 adds.text.0)
        (adds.text.2 (text ++ goes.text.0) (goes.text.2 text h)).0,
  );
}

still_reached : (p q : RunProof) (run : Run) → q.start ≡ p.start → q.made ≡ p.made
    → reached p ≡ kept_by (plain_pattern p.start) run
    → reached q ≡ kept_by (plain_pattern q.start) run
still_reached p q run starts made is =
    subst (λ (s : RulePat). configuration (plain_pattern s) q.made ≡ kept_by (plain_pattern s) run)
    (sym starts)
    (subst (λ (o : Option Tree). configuration (plain_pattern p.start) o
    ≡ kept_by (plain_pattern p.start) run) (sym made) is)

pub whole_shown : (old mid now new : Option Told) (program : Program) (start : RulePat)
    (value : Option Tree) (p q r : RunProof) (run : Run) (shown : Option ℕ)
    → WritesBeginning old mid program start value p → GoesOn mid now p q
    → reached q ≡ kept_by (plain_pattern q.start) run → q.steps ≡ steps_of run
    → AddsSaying (λ text. Shows text (theory_of program) run shown) now new q r
    → WritesProof old new (theory_of program) (plain_pattern start) run shown r
whole_shown old mid now new program start value p q r run shown begun goes at steps adds =
    whole_proof old mid new program start value p r run shown begun
    (goes_saying says mid now new p q r goes adds)
    (still_reached q r run adds.same_start adds.same_made at) (adds.same_steps ∙ steps) adds.sound
    (λ text h. subst says (append_assoc text goes.text.0 adds.text.0)
    (adds.text.2 (text ++ goes.text.0) (goes.text.2 text h)).1)
  where
    says : List ℕ → Type 0
    says text = Shows text (theory_of program) run shown

pub begun_by : (old mid : Option Told) (program p : Program) (start : RulePat)
    (value : Option Tree) (proof : RunProof) → program ≡ p
    → WritesBeginning old mid program start value proof
    → WritesBeginning old mid p start value proof
begun_by old mid program p start value proof same begun =
    subst (λ (o : Program). WritesBeginning old mid o start value proof) same begun

-- what is left after an error at the end of the run
pub front_shown : (old mid now new : Option Told) (program : Program) (start : RulePat)
    (limit calls : ℕ) (value : Option Tree) (p q : RunProof) (run : Run)
    → WritesBeginning old mid program start value p → GoesOn mid now p q
    → reached q ≡ kept_by (plain_pattern q.start) run
    → IsRunOf (theory_of program) limit calls (plain_pattern start) run
    → WritesFrontAfter now new q (EndsHere q)
    → WritesFrontOfRun old new (theory_of program) limit calls (plain_pattern start)
front_shown old mid now new program start limit calls value p q run begun goes at is front =
    front_started old mid new program start limit calls value p begun
    (front_later mid now new p q ends goes
    (front_more now new q (EndsHere q) ends
    (λ end here. subst ends (sym (here ∙ ends_at))
    (run_may_end (theory_of program) limit calls (plain_pattern start) run is)) front))
  where
    ends : Pattern → Type 0
    ends = MayEndAt (theory_of program) limit calls (plain_pattern start)

    ends_at : reached q ≡ kept_by (plain_pattern start) run
    ends_at =
        at ∙ ap (λ (s : RulePat). kept_by (plain_pattern s) run) (goes.same_start ∙ begun.2.starts)
