-- What is known when a rule's lemma is used.
use Rattle.std.proofs.Common.{◌≤◌, ◌^◌, ℕ, List, Option, length, sym, subst}
use Rattle.std.specs.Prelude.{Contains}
use Rattle.std.proofs.lemmas.List.Elements.{Contains-append_left}
use Rattle.ml_kernel.specs.Theorems.{Theorem}
use Rattle.term_core.specs.Terms.{Tree}
use Rattle.rule_core.specs.Rules.{RewriteRule}
use Rattle.rule_core.specs.Matching.{RespectsSorts}
use Rattle.rule_core.specs.WellSorted.{IsWellSorted}
use Rattle.rule_core.specs.ProgramView.{theory_of}
use Rattle.rule_core.specs.declared.rules.Program.{Program}
use Rattle.ml_image.specs.HasImages.{HasRuleImage}
use Rattle.prove_term.specs.Contexts.{Context, HasGrown}
use Rattle.prove_schema.specs.Elements.{AllBound, AreElementsFor}
use Rattle.prove_equation.proofs.FillingLaws.{all_bound, condition_grown}
use Rattle.prove_step.specs.Applying.{CanApply}
use Rattle.prove_step.proofs.StepLaws.{IsCited}
use Rattle.prove_step.proofs.GrowthLaws.{schema_grown}

pub can_apply_grown : (old new : Context) (r : RewriteRule) (lemma : Theorem)
    (theta : List (Option Tree)) (o : Option Theorem) → HasGrown old new
    → CanApply old r lemma theta o → CanApply new r lemma theta o
can_apply_grown old new r lemma theta o g can = record {
  well_sorted = subst (λ (p : Program). IsWellSorted (theory_of p)) (sym g.program) can.well_sorted;
  image = subst (λ (p : Program). HasRuleImage p.sig r) (sym g.program) can.image;
  room = can.room;
  respects =
      subst (λ (p : Program). RespectsSorts p.sig r.variables theta) (sym g.program) can.respects;
  bound = can.bound;
  schema = schema_grown old new r lemma g can.schema;
  listed =
      subst (λ (ts : List Theorem). Contains ts lemma) (sym g.more_lemmas)
      (Contains-append_left old.lemmas g.lemmas lemma can.listed);
  condition = condition_grown old new r.variables theta r.condition o g can.condition;
}

-- the variables have numbers of 32 bits
pub few_bound : (cx : Context) (r : RewriteRule) (lemma : Theorem) (theta : List (Option Tree))
    (o : Option Theorem) → CanApply cx r lemma theta o → length theta ≤ 2 ^ 32
few_bound cx r lemma theta o can = subst (λ (n : ℕ). n ≤ 2 ^ 32) (sym can.room) can.image.few

pub each_bound : (cx : Context) (r : RewriteRule) (lemma : Theorem) (theta : List (Option Tree))
    (o : Option Theorem) → CanApply cx r lemma theta o → AllBound cx.program.sig theta
each_bound cx r lemma theta o can =
    all_bound cx.program.sig r.variables theta can.respects can.room can.bound

-- all that is known when the lemma is cited
pub cited_at : (old new : Context) (r : RewriteRule) (lemma : Theorem) (theta : List (Option Tree))
    (o : Option Theorem) (ts : List Theorem) → HasGrown old new → AreElementsFor new theta ts
    → CanApply old r lemma theta o → IsCited new r lemma theta o ts
cited_at old new r lemma theta o ts g elements can =
    record { can = can_apply_grown old new r lemma theta o g can; elements = elements }
