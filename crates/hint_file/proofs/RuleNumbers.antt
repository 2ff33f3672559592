-- The number of the rule at a byte.
use Rattle.std.proofs.Common.{◌≡◌, ℕ, suc, ◌+◌, ◌-◌, ◌<◌, ◌==◌, true, false, Bool, List, [], ◌∷◌}
use Rattle.std.proofs.Common.{drop, Option, Some, refl, sym, ◌∙◌, ap, arith, cond}
use Rattle.std.proofs.lemmas.Grind.{common_steps}
use Rattle.std.specs.Prelude.{slice_get, if◌then◌else◌}
use Rattle.std.specs.Ordering.{nat_cmp}
use Rattle.std.specs.BTreeMap.{BTreeMap, get, Updates, is_at}
use Rattle.rule_core.specs.Rules.{RewriteRule}
use Rattle.rewriter.proofs.Trying.{from_here}
use Rattle.hint_file.specs.HintLines.{number_from}

-- one more rule in front
pub number_here : (rules : List RewriteRule) (i byte : ℕ) (rule : RewriteRule)
    → slice_get rules i ≡ Some rule
    → number_from i (drop i rules) byte
    ≡ (if rule.place == byte then Some i else number_from (i + 1) (drop (i + 1) rules) byte)
number_here rules i byte rule there =
    ap (λ (rs : List RewriteRule). number_from i rs byte) (from_here rules i rule there)

-- the number that was found is that of a rule
pub number_there : (rules : List RewriteRule) (i byte number : ℕ)
    → number_from i rules byte ≡ Some number
    → (k : ℕ) × (number ≡ i + k) × (rule : RewriteRule) × (slice_get rules k ≡ Some rule)
number_there [] i byte number h = absurd (let no : ⊥ = cc in no)
number_there (rule ∷ rules) i byte number h = by (rule.place == byte) refl
    (number_there rules (i + 1) byte number) where
      by : (t : Bool) → (rule.place == byte) ≡ t
          → (number_from (i + 1) rules byte ≡ Some number
          → (k : ℕ) × (number ≡ i + 1 + k) × (other : RewriteRule)
          × (slice_get rules k ≡ Some other))
          → (k : ℕ) × (number ≡ i + k) × (other : RewriteRule)
          × (slice_get (rule ∷ rules) k ≡ Some other)
      by true is later =
          let same : Some i ≡ Some number = rw is at h in
          let e : i ≡ number = cc in (0, omega arith, rule, refl)
      by false is later =
          let l = later (rw is at h) in (suc l.0, omega (arith, l.1), l.2, l.3)

same_key : (a b : ℕ) → is_at (nat_cmp a) b ≡ (a == b)
same_key a b = grind (arith, common_steps)

-- the map after one more rule in front
pub number_grown : (rules : List RewriteRule) (i byte : ℕ) (rule : RewriteRule)
    (m n : BTreeMap ℕ ℕ) → 0 < i → slice_get rules (i - 1) ≡ Some rule
    → Updates nat_cmp m n rule.place (Some (i - 1))
    → get nat_cmp m byte ≡ number_from i (drop i rules) byte
    → get nat_cmp n byte ≡ number_from (i - 1) (drop (i - 1) rules) byte
number_grown rules i byte rule m n some there updates before =
    let next : i ≡ i - 1 + 1 = omega arith in
    let later : get nat_cmp m byte ≡ number_from (i - 1 + 1) (drop (i - 1 + 1) rules) byte =
    before ∙ ap (λ (k : ℕ). number_from k (drop k rules) byte) next in
    updates.0 byte
    ∙ ap (λ (t : Bool). cond t (Some (i - 1)) (get nat_cmp m byte)) (same_key rule.place byte)
    ∙ ap (λ (o : Option ℕ). cond (rule.place == byte) (Some (i - 1)) o) later
    ∙ sym (number_here rules (i - 1) byte rule there)
