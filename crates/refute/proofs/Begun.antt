-- What holds when a pattern and a term begin to be compared.
use Rattle.std.proofs.Common.{◌≡◌, ℕ, List, Option, Some, length, sym, ◌∙◌, subst}
use Rattle.std.specs.Prelude.{Contains}
use Rattle.ml_pat.specs.Patterns.{Pattern}
use Rattle.term_core.specs.Terms.{Tree, IsNormal}
use Rattle.term_core.specs.Patterns.{Pattern as RulePattern, ground_pattern}
use Rattle.term_core.specs.RulePatterns.{sort_numbers}
use Rattle.rule_core.specs.AcSymbols.{IsAcFree}
use Rattle.rule_core.specs.ProgramView.{theory_of}
use Rattle.rule_core.specs.Sorting.{HasSort, IsTermOf}
use Rattle.rule_core.specs.WellSorted.{HasNoCall, IsWellSorted}
use Rattle.rule_core.specs.declared.rules.Program.{Program}
use Rattle.ml_image.specs.Sentences.{term, and, not, sentence_image}
use Rattle.prove_term.specs.Contexts.{Context, HasGrown}
use Rattle.prove_term.proofs.ContextLaws.{image_grown}
use Rattle.prove_open.specs.Givens.{IsGiven, HasFact, all_sorted}
use Rattle.prove_open.specs.Under.{SaysUnder}
use Rattle.prove_open.specs.declared.givens.Given.{Given}
use Rattle.refute.specs.Refutations.{SaysSentence, in_common, mismatched, inverted, all_bound, variables_in_order}
use Rattle.refute.specs.Refuting.{IsGoal, IsPair, IsSetting}
use Rattle.refute.specs.Bindings.{SaysInCommon}
use Rattle.refute.specs.declared.settings.Setting.{Setting}
use Rattle.refute.specs.declared.settings.Goal.{Goal}
use Rattle.refute.specs.declared.settings.Goal.TheVariants as aim
use Rattle.refute.proofs.Growing.{program_grown}
use Rattle.refute.proofs.Inverted.{says_inverted, says_under}
use Rattle.refute.proofs.Reached.{given_pair}

-- the setting that looks for a clash
pub clash_setting : (old new : Context) (s : Setting) → HasGrown old new
    → IsWellSorted (theory_of old.program) → IsAcFree old.program.sig
    → IsGiven new (sort_numbers s.sorts.now) s.given → s.new.0 ≡ length s.sorts.now
    → s.goal ≡ aim.Clash → IsSetting new s
clash_setting old new s grown sorted no_ac given high is = record {
  well_sorted =
      program_grown old new (λ (program : Program). IsWellSorted (theory_of program)) grown sorted;
  no_ac = program_grown old new (λ (program : Program). IsAcFree program.sig) grown no_ac;
  given = given;
  new = high;
  goal = subst (λ (what : Goal). IsGoal new s.given.hypothesis what) (sym is) tt;
}

pub begun_pair : (old new : Context) (sorts : List ℕ) (g : Given) (p : RulePattern) (sort : ℕ)
    (t : Tree) (xs ys : List ℕ) → HasGrown old new → HasSort old.program.sig sorts p sort
    → HasNoCall p → IsTermOf old.program.sig t sort → IsNormal t → ys ≡ variables_in_order p → xs ≡ ys
    → ((x : ℕ) → Contains xs x → HasFact g x) → IsPair new.program.sig sorts g p t
begun_pair old new sorts g p sort t xs ys grown h k is normal listed same facts =
    program_grown old new (λ (program : Program). IsPair program.sig sorts g p t) grown
    (given_pair old.program.sig sorts g p sort t ys h k is normal listed
    (λ x there. facts x (subst (λ (zs : List ℕ). Contains zs x) (sym same) there)))

-- the hypothesis in a grown context
hypothesis_later : (old new : Context) (sorts : List ℕ) (h : Pattern) (p : RulePattern)
    (xs ys : List ℕ) → HasGrown old new
    → sentence_image old.program.sig old.names (all_sorted sorts xs) ≡ Some h
    → ys ≡ variables_in_order p → xs ≡ ys
    → sentence_image new.program.sig new.names (all_sorted sorts (variables_in_order p)) ≡ Some h
hypothesis_later old new sorts h p xs ys grown is listed same =
    image_grown old new (all_sorted sorts (variables_in_order p)) h grown
    (subst (λ (zs : List ℕ).
    sentence_image old.program.sig old.names (all_sorted sorts zs) ≡ Some h) (same ∙ listed) is)

pub mismatch_said : (old new : Context) (sorts : List ℕ) (h : Pattern) (p q : RulePattern)
    (t : Tree) (xs ys : List ℕ) (r : Pattern) → HasGrown old new
    → sentence_image old.program.sig old.names (all_sorted sorts xs) ≡ Some h
    → ys ≡ variables_in_order p → xs ≡ ys → q ≡ ground_pattern t
    → SaysUnder new h (not (and (term p) (term q))) r → SaysSentence new (mismatched sorts p t) r
mismatch_said old new sorts h p q t xs ys r grown is listed same whole says =
    says_under new (all_sorted sorts (variables_in_order p)) (not (in_common p t)) h r
    (hypothesis_later old new sorts h p xs ys grown is listed same)
    (subst (λ (w : RulePattern). SaysUnder new h (not (and (term p) (term w))) r) whole says)

pub inversion_said : (old new : Context) (sorts : List ℕ) (h : Pattern) (p : RulePattern)
    (t : Tree) (theta : List (Option Tree)) (xs ys zs : List ℕ) (r : Pattern) → HasGrown old new
    → sentence_image old.program.sig old.names (all_sorted sorts xs) ≡ Some h
    → ys ≡ variables_in_order p → xs ≡ ys → zs ≡ ys
    → SaysInCommon new h (in_common p t) (all_bound theta zs) r → SaysSentence new (inverted sorts theta p t) r
inversion_said old new sorts h p t theta xs ys zs r grown is listed same there says =
    says_inverted new (all_sorted sorts (variables_in_order p)) (in_common p t)
    (all_bound theta (variables_in_order p)) h r
    (hypothesis_later old new sorts h p xs ys grown is listed same)
    (subst (λ (ws : List ℕ). SaysInCommon new h (in_common p t) (all_bound theta ws) r) (there ∙ listed) says)
