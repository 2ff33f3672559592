-- Patterns as the arguments of a symbol.
use Rattle.std.proofs.Common.{◌≡◌, ◌<◌, ℕ, ◌+◌, Bool, true, false, ◌&&◌, List, [], length, map}
use Rattle.std.proofs.Common.{drop, get_or, Option, ap, sym, ◌∙◌}
use Rattle.std.proofs.lemmas.Bool.{false≢true}
use Rattle.kore_text.specs.Trees.{PatternTree}
use Rattle.rule_core.specs.declared.signature.Signature.{Signature}
use Rattle.rule_core.specs.declared.signature.SortRef.{SortRef}
use Rattle.kore_check.proofs.Items.{drop-item, drop-drop}
use Rattle.kore_check.specs.Folds.{unfolded}
use Rattle.kore_check.specs.PatternFaults.{first_wanted}
use Rattle.kore_axioms.specs.RuleFaults.{is_empty, faults_at_sort}
use Rattle.kore_equations.specs.ReadableSides.{all_read}
use Rattle.kore_equations.specs.ClearEquations.{each_faultless}

true_first : (b : Bool) (rest whole : Bool) → b ≡ true → (b && rest) ≡ whole → rest ≡ whole
true_first true rest whole h e = e
true_first false rest whole h e = absurd (false≢true h)

-- one turn of a loop over patterns
pub next_faultless : {X : Type 0} (f : X → PatternTree) (sig : Signature) (refs : List SortRef)
    (xs : List X) (i : ℕ) (x : X) (wanted : Option ℕ) (b whole : Bool) → i < length xs
    → x ≡ get_or xs i x → wanted ≡ first_wanted sig [] (drop i refs)
    → b ≡ is_empty (faults_at_sort sig wanted (unfolded (f x))) → b ≡ true
    → each_faultless sig (drop i refs) (all_read (map f (drop i xs))) ≡ whole
    → each_faultless sig (drop (i + 1) refs) (all_read (map f (drop (i + 1) xs))) ≡ whole
next_faultless f sig refs xs i x wanted b whole lt item is answer holds known =
    let rest : Bool = each_faultless sig (drop (i + 1) refs) (all_read (map f (drop (i + 1) xs))) in
    let split : (is_empty (faults_at_sort sig (first_wanted sig [] (drop i refs)) (unfolded (f x)))
    && each_faultless sig (drop 1 (drop i refs)) (all_read (map f (drop (i + 1) xs)))) ≡
    whole =
    sym (ap (λ (ys : List _).
    each_faultless sig (drop i refs) (all_read (map f ys))) (drop-item xs i x lt item))
    ∙ known in
    let dropped :
    (is_empty (faults_at_sort sig (first_wanted sig [] (drop i refs)) (unfolded (f x))) && rest)
    ≡ whole =
    sym (ap (λ (rs : List SortRef). is_empty
    (faults_at_sort sig (first_wanted sig [] (drop i refs)) (unfolded (f x)))
    && each_faultless sig rs (all_read (map f (drop (i + 1) xs)))) (drop-drop refs i))
    ∙ split in
    let at : b ≡ is_empty
    (faults_at_sort sig (first_wanted sig [] (drop i refs)) (unfolded (f x))) =
    answer ∙ ap (λ (w : Option ℕ). is_empty (faults_at_sort sig w (unfolded (f x)))) is in
    true_first b rest whole holds (ap (λ (t : Bool). t && rest) at ∙ dropped)
