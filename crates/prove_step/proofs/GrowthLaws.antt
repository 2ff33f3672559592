-- What stays true of schemas and lemmas when a context grows.
use Rattle.std.proofs.Common.{◌≡◌, ℕ, List, [], ◌∷◌, Option, Some, length, slice_get, sym, ◌∙◌, ap}
use Rattle.std.proofs.Common.{subst}
use Rattle.ml_kernel.specs.Theorems.{Theorem}
use Rattle.rule_core.specs.Rules.{RewriteRule}
use Rattle.rule_core.specs.ProgramView.{rewrite_rule}
use Rattle.rule_core.specs.declared.rules.Program.{Program}
use Rattle.ml_image.specs.NamedSides.{left_sentence, of_child}
use Rattle.ml_image.specs.OwnAxioms.{condition_sentence}
use Rattle.prove_term.specs.Contexts.{Context, HasGrown}
use Rattle.prove_term.proofs.ContextLaws.{grown_none, grown_twice, image_grown, lemma_there_grown}
use Rattle.prove_schema.proofs.ElementLaws.{pattern_grown, sort_grown}
use Rattle.prove_fun.specs.KeptLemmas.{IsKeptIn}
use Rattle.prove_fun.proofs.KeptLaws.{kept_grown}
use Rattle.prove_step.specs.KeptSides.{AreSideLemmas}
use Rattle.prove_step.specs.ProverView.{AreLemmas}
use Rattle.prove_step.specs.RuleLemmas.{AreNumbers, SaysRuleSchema, SaysSchemaAt, IsLemmaOf}
use Rattle.prove_step.specs.RuleLemmas.{AreRuleLemmas}
use Rattle.prove_step.specs.declared.side_lemmas.SideLemmas.{SideLemmas}
use Rattle.prove_step.proofs.SideLaws.{side_lemmas_grown}

pub ruleset growing = (grown_none, grown_twice, kept_grown, side_lemmas_grown)

pub numbers_grown : (old new : Context) (ss ns : List ℕ) → HasGrown old new
    → AreNumbers old.program.sig old.names ss ns → AreNumbers new.program.sig new.names ss ns
numbers_grown old new [] [] g are = tt
numbers_grown old new [] (n ∷ ns) g are = absurd are
numbers_grown old new (s ∷ ss) [] g are = absurd are
numbers_grown old new (s ∷ ss) (n ∷ ns) g are =
    (sort_grown old new s n g are.0, numbers_grown old new ss ns g are.1)

pub schema_grown : (old new : Context) (r : RewriteRule) (t : Theorem) → HasGrown old new
    → SaysRuleSchema old r t → SaysRuleSchema new r t
schema_grown old new r t g says = record {
  numbers = says.numbers;
  are = numbers_grown old new r.variables says.numbers g says.are;
  left = says.left;
  left_image =
      image_grown old new (left_sentence (of_child 0 r.names) r.left) says.left g says.left_image;
  holds = says.holds;
  is_holds =
      ap (λ (p : Program). condition_sentence p.sig r.variables r.condition) g.program
      ∙ says.is_holds;
  condition = says.condition;
  condition_image = image_grown old new says.holds says.condition g says.condition_image;
  right = says.right;
  right_image = pattern_grown old new r.right says.right g says.right_image;
  says = says.says;
  assumes = says.assumes;
}

pub schema_at_grown : (old new : Context) (i : ℕ) (t : Theorem) → HasGrown old new
    → SaysSchemaAt old i t → SaysSchemaAt new i t
schema_at_grown old new i t g says r there =
    schema_grown old new (rewrite_rule r) t g
    (says r
    (subst (λ (program : Program). slice_get program.rules.items i ≡ Some r) g.program there))

pub lemma_of_grown : (old new : Context) (i k : ℕ) → HasGrown old new → IsLemmaOf old i k
    → IsLemmaOf new i k
lemma_of_grown old new i k g (t, there, says) =
    (t, lemma_there_grown old new k t g there, schema_at_grown old new i t g says)

rule_lemmas_grown : (old new : Context) (places : List (Option ℕ)) → HasGrown old new
    → AreRuleLemmas old places → AreRuleLemmas new places
rule_lemmas_grown old new places g are i k there = lemma_of_grown old new i k g (are i k there)

-- the same if other places of equations are kept afterwards
pub lemmas_after : (old new : Context) (places : List (Option ℕ)) (kept more : List ((ℕ × ℕ) × ℕ))
    (sides : SideLemmas) → HasGrown old new → AreLemmas old places kept sides
    → IsKeptIn new more → AreLemmas new places more sides
lemmas_after old new places kept more sides g are is = record {
  room = are.room ∙ sym (ap (λ (p : Program). length p.rules.items) g.program);
  rules = rule_lemmas_grown old new places g are.rules;
  equations = is;
  sides = side_lemmas_grown old new sides g are.sides;
}

-- the same if other lemmas for sides are kept afterwards
pub lemmas_turned : (old new : Context) (places : List (Option ℕ)) (kept more : List ((ℕ × ℕ) × ℕ))
    (sides others : SideLemmas) → HasGrown old new → AreLemmas old places kept sides
    → IsKeptIn new more → AreSideLemmas new others → AreLemmas new places more others
lemmas_turned old new places kept more sides others g are is all = record {
  room = are.room ∙ sym (ap (λ (p : Program). length p.rules.items) g.program);
  rules = rule_lemmas_grown old new places g are.rules;
  equations = is;
  sides = all;
}

pub lemmas_grown : (old new : Context) (places : List (Option ℕ)) (kept : List ((ℕ × ℕ) × ℕ))
    (sides : SideLemmas) → HasGrown old new → AreLemmas old places kept sides
    → AreLemmas new places kept sides
lemmas_grown old new places kept sides g are =
    lemmas_after old new places kept kept sides g are (kept_grown old new kept g are.equations)
