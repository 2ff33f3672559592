-- The rules that are tried at a configuration, one after another.
use Rattle.std.proofs.Common.{◌≡◌, ◌<◌, ◌+◌, ◌++◌, ℕ, zero, suc, List, [], ◌∷◌, All, length, take}
use Rattle.std.proofs.Common.{drop, get_or, sym, ◌∙◌, ap, subst, arith}
use Rattle.std.specs.List.{AllZip}
use Rattle.std.proofs.lemmas.List.{drop_more, map-append, take_more}
use Rattle.ml_kernel.specs.Theorems.{Theorem}
use Rattle.term_core.specs.Terms.{Tree}
use Rattle.rule_core.specs.FirstRule.{Tries, none_applies, rule_unmatched, rule_condition_fails}
use Rattle.rule_core.specs.ProgramView.{rewrite_rule, rewrite_rules}
use Rattle.rule_core.specs.Rules.{RewriteRule}
use Rattle.rule_core.specs.Runs.{Steps, stays, by_none}
use Rattle.rule_core.specs.Theories.{RewriteTheory}
use Rattle.rule_core.specs.declared.rules.Program.{Program}
use Rattle.rule_core.specs.declared.rules.Rule.{Rule}
use Rattle.ml_image.specs.Premises.{condition_sentence}
use Rattle.prove_term.specs.Contexts.{Context, HasGrown}
use Rattle.prove_term.proofs.ContextLaws.{image_grown, stays_grown}
use Rattle.stuck_prove.specs.NotMet.{not_met}
use Rattle.stuck_prove.specs.RefutedRules.{SayNoneMet, SaysNotMet}
use Rattle.stuck_prove.specs.Trials.{IsPassed, unmatched, untrue}

-- what is said of all rules is said of the one at a place
pub at_rule : (P : RewriteRule → Type 0) (rs : List Rule) (i : ℕ) (r : Rule)
    → All P (rewrite_rules rs) → i < length rs → r ≡ get_or rs i r → P (rewrite_rule r)
at_rule P [] i r all low is = absurd (omega (arith, low))
at_rule P (q ∷ rs) zero r all low is =
    subst (λ (x : Rule). P (rewrite_rule x)) (sym is) (all 0 (rewrite_rule q) (omega arith))
at_rule P (q ∷ rs) (suc i) r all low is =
    at_rule P rs i r (λ k d lt. all (suc k) d (omega (arith, lt))) (omega (arith, low)) is

-- ---- trials

pub stuck_tries : {theory : RewriteTheory} {t : Tree} {c : ℕ} → Steps theory t c stays
    → Tries theory t 0 theory.rules c none_applies
stuck_tries (by_none tries) = tries

-- the first rule is passed, and the others are tried with the calls that are left
pub record IsPassedFirst (theory : RewriteTheory) (t : Tree) (i : ℕ) (rule : RewriteRule)
    (rules : List RewriteRule) (c : ℕ) : Type 0 where
  pub left : ℕ
  pub passed : IsPassed theory rule t c left
  pub others : Tries theory t (i + 1) rules left none_applies

passed_first : {theory : RewriteTheory} {t : Tree} {i c : ℕ} {rule : RewriteRule}
    {rules : List RewriteRule} → Tries theory t i (rule ∷ rules) c none_applies
    → IsPassedFirst theory t i rule rules c
passed_first (rule_unmatched {c = c} never others) =
    record { left = c; passed = unmatched never; others = others }
passed_first (rule_condition_fails {d = d} matches test others) =
    record { left = d; passed = untrue matches test; others = others }

-- the rule at the next place
pub next_passed : (theory : RewriteTheory) (t : Tree) (rs : List Rule) (i : ℕ) (r : Rule) (c : ℕ)
    → i < length rs → r ≡ get_or rs i r
    → Tries theory t i (rewrite_rules (drop i rs)) c none_applies
    → IsPassedFirst theory t i (rewrite_rule r) (rewrite_rules (drop (i + 1) rs)) c
next_passed theory t rs i r c low is tries =
    passed_first (subst (λ (xs : List Rule). Tries theory t i (rewrite_rules xs) c none_applies)
    (drop_more rs i r low ∙ ap (λ (q : Rule). q ∷ drop (i + 1) rs) (sym is)) tries)

-- ---- what was shown

says_grown : (a b : Context) (t : Tree) (r : RewriteRule) (thm : Theorem) → HasGrown a b
    → SaysNotMet a t r thm → SaysNotMet b t r thm
says_grown a b t r thm grown says = record {
  condition = says.condition;
  is_condition =
      ap (λ (program : Program). condition_sentence program.sig r.variables r.condition)
      grown.program ∙ says.is_condition;
  says = image_grown a b (not_met r says.condition t) thm.conclusion grown says.says;
  no_hypotheses = says.no_hypotheses;
  stays = stays_grown a b thm grown says.stays;
}

shown_grown : (a b : Context) (t : Tree) (rules : List RewriteRule) (thms : List Theorem)
    → HasGrown a b → SayNoneMet a t rules thms → SayNoneMet b t rules thms
shown_grown a b t [] [] grown say = tt
shown_grown a b t [] (thm ∷ thms) grown say = absurd say
shown_grown a b t (r ∷ rules) [] grown say = absurd say
shown_grown a b t (r ∷ rules) (thm ∷ thms) grown say =
    (says_grown a b t r thm grown say.0, shown_grown a b t rules thms grown say.1)

zip_push : {X Y : Type 0} (R : X → Y → Type 0) (xs : List X) (ys : List Y) (x : X) (y : Y)
    → AllZip R xs ys → R x y → AllZip R (xs ++ x ∷ []) (ys ++ y ∷ [])
zip_push R [] [] x y all one = (one, tt)
zip_push R [] (b ∷ ys) x y all one = absurd all
zip_push R (a ∷ xs) [] x y all one = absurd all
zip_push R (a ∷ xs) (b ∷ ys) x y all one = (all.0, zip_push R xs ys x y all.1 one)

-- one rule more
pub one_more_shown : (a b : Context) (t : Tree) (rs : List Rule) (i : ℕ) (r : Rule)
    (thms : List Theorem) (thm : Theorem) → i < length rs → r ≡ get_or rs i r → HasGrown a b
    → SayNoneMet a t (rewrite_rules (take i rs)) thms → SaysNotMet b t (rewrite_rule r) thm
    → SayNoneMet b t (rewrite_rules (take (i + 1) rs)) (thms ++ thm ∷ [])
one_more_shown a b t rs i r thms thm low is grown shown says =
    let front : rewrite_rules (take (i + 1) rs) ≡ rewrite_rules (take i rs) ++ rewrite_rule r ∷ [] =
    ap rewrite_rules (take_more rs i r low ∙ ap (λ (q : Rule). take i rs ++ q ∷ []) (sym is))
    ∙ map-append rewrite_rule (take i rs) (r ∷ []) in
    subst (λ (rules : List RewriteRule). SayNoneMet b t rules (thms ++ thm ∷ [])) (sym front)
    (zip_push (SaysNotMet b t) (rewrite_rules (take i rs)) thms (rewrite_rule r) thm
    (shown_grown a b t (rewrite_rules (take i rs)) thms grown shown) says)
