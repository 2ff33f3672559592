-- The results of the cases of building a rule pattern.
use Rattle.std.proofs.Common.{◌≡◌, ◌≤◌, ◌<◌, ℕ, ◌+◌, Bool, List, [], ◌++◌, length, map, drop}
use Rattle.std.proofs.Common.{get_or, Option, Some, None, option_map, Vec, Global, append-nil, sym}
use Rattle.std.proofs.Common.{◌∙◌, ap, subst, true, inl, inr}
use Rattle.std.specs.Prelude.{Result, Ok, Err, IfOk}
use Rattle.std.proofs.lemmas.List.{drop_all}
use Rattle.kore_text.specs.declared.names.Op.{Op}
use Rattle.kore_ast.specs.declared.tree.Sort.{Sort}
use Rattle.kore_ast.specs.declared.tree.Pat.{Pat}
use Rattle.kore_ast.specs.declared.tree.PatForm.TheVariants as form
use Rattle.kore_ast.specs.Plain.{plain_sort, pattern_tree as plain_tree}
use Rattle.term_core.specs.Patterns.{Pattern, no_pattern}
use Rattle.term_core.specs.Instances.{patterns}
use Rattle.term_core.specs.RulePatterns.{plain_pattern, sort_numbers as numbers_of}
use Rattle.term_core.specs.PatternLists.{plain_patterns}
use Rattle.term_core.specs.declared.rule_patterns.RulePat.{RulePat}
use Rattle.rule_core.specs.declared.signature.Signature.{Signature}
use Rattle.rule_core.specs.WellSorted.{IsSignature}
use Rattle.kore_check.specs.Folds.{Unfolded, named_variable, written_value, unfolded, inner_fold}
use Rattle.kore_check.specs.Folds.{only_of, Unfoldeds, and_more, no_more, connective_of}
use Rattle.kore_text.specs.Trees.{SortTree}
use Rattle.kore_check.specs.Pairs.{is_pair}
use Rattle.kore_check.specs.Building.{only_named}
use Rattle.kore_check.proofs.Connectives.{IsConnective, connective_case, pair_there}
use Rattle.kore_check.proofs.BuildLaws.{pair_faultless}
use Rattle.kore_check.proofs.NamedMeanings.{pair_built}
use Rattle.std.specs.Global.{Box}
use Rattle.kore_check.specs.PatternMeanings.{applied_pattern, with_variables, with_all_variables}
use Rattle.kore_check.specs.PatternMeanings.{AllMean, none_mean}
use Rattle.kore_check.specs.Building.{Built, AllBuilt, Extends, IsHead, IsFaultless, AreFaultless}
use Rattle.kore_check.specs.declared.build.Head.{Head}
use Rattle.kore_check.proofs.Forms.{variable_is, value_is, fold_is}
use Rattle.kore_check.proofs.Applications.{reads, application_unfolded}
use Rattle.kore_check.proofs.FoldChecks.{application_folded, only_other, fold_short}
use Rattle.kore_check.proofs.Items.{drop-item}
use Rattle.kore_check.proofs.BuildLaws.{application_built, application_without_head}
use Rattle.kore_check.proofs.BuildLaws.{application_without_arguments, built_standing, fold_built}
use Rattle.kore_check.proofs.BuildLaws.{fold_without_head, fold_without_arguments, fold_pattern}

pub if_ok : {T E : Type 0} (r : Result T E) (P Q : T → Type 0) → ((x : T) → P x → Q x) → IfOk r P
    → IfOk r Q
if_ok (Ok x) P Q more known = more x known
if_ok (Err e) P Q more known = known

-- ---- applications

pub app_none : (sig : Signature) (p : Pat) (n : List ℕ) (ss : Vec Sort Global) (ps : Vec Pat Global)
    (xs : List Sort) → p.form ≡ form.App n ss ps → xs ≡ ss.items
    → IsHead sig n (map plain_sort xs) None → IsFaultless sig (unfolded (plain_tree p)) → ⊥
app_none sig p n ss ps xs h same none good =
    application_without_head sig p.at p.at n (map plain_sort ss.items) (reads ps.items)
    (subst (λ (ys : List Sort). IsHead sig n (map plain_sort ys) None) same none)
    (subst (λ (u : Unfolded). IsFaultless sig u) (application_unfolded p n ss ps h) good)

pub app_no_arguments : (sig : Signature) (p : Pat) (n : List ℕ) (ss : Vec Sort Global)
    (ps : Vec Pat Global) (ys : List Pat) (old new : List (List ℕ × ℕ))
    → p.form ≡ form.App n ss ps → ys ≡ ps.items → AllBuilt sig old new (reads ys) None
    → IsFaultless sig (unfolded (plain_tree p)) → ⊥
app_no_arguments sig p n ss ps ys old new h same none good =
    application_without_arguments sig p.at p.at n (map plain_sort ss.items) (reads ps.items) old new
    (subst (λ (qs : List Pat). AllBuilt sig old new (reads qs) None) same none)
    (subst (λ (u : Unfolded). IsFaultless sig u) (application_unfolded p n ss ps h) good)

pub app_built : {E : Type 0} (sig : Signature) (p : Pat) (n : List ℕ) (ss : Vec Sort Global)
    (ps : Vec Pat Global) (xs : List Sort) (ys : List Pat) (old new : List (List ℕ × ℕ))
    (h : Head) (args : Vec RulePat Global) (r : Result (Option RulePat) E) → IsSignature sig
    → p.form ≡ form.App n ss ps → xs ≡ ss.items → ys ≡ ps.items
    → IsHead sig n (map plain_sort xs) (Some h) → AllBuilt sig old new (reads ys) (Some args)
    → IfOk r (λ found. option_map plain_pattern found
    ≡ applied_pattern h.kind h.sym.0 (numbers_of h.sorts.items) (plain_patterns args.items))
    → IfOk r (Built sig old new (unfolded (plain_tree p)))
app_built sig p n ss ps xs ys old new h args r good is same1 same2 head all known =
    if_ok r _ (Built sig old new (unfolded (plain_tree p))) (λ found e.
    subst (λ (u : Unfolded). Built sig old new u found) (sym (application_unfolded p n ss ps is))
    (application_built sig p.at p.at n (map plain_sort ss.items) (reads ps.items) old new h args
    found good
    (subst (λ (zs : List Sort). IsHead sig n (map plain_sort zs) (Some h)) same1 head)
    (subst (λ (qs : List Pat). AllBuilt sig old new (reads qs) (Some args)) same2 all) e)) known

-- ---- the other forms

pub variable_built : {E : Type 0} (sig : Signature) (p : Pat) (n : List ℕ) (s : Sort)
    (old new : List (List ℕ × ℕ)) (r : Result (Option RulePat) E) → p.form ≡ form.Elem n s
    → IfOk r (λ found. (at : ℕ) → Built sig old new (named_variable at n (plain_sort s)) found)
    → IfOk r (Built sig old new (unfolded (plain_tree p)))
variable_built sig p n s old new r h known =
    if_ok r _ (Built sig old new (unfolded (plain_tree p))) (λ found all. subst
    (λ (u : Unfolded). Built sig old new u found) (sym (ap unfolded (variable_is p n s h)))
    (all p.at)) known

pub value_built : {E : Type 0} (sig : Signature) (p : Pat) (s : Sort) (text : List ℕ) (q : ℕ)
    (vars : List (List ℕ × ℕ)) (r : Result (Option RulePat) E) → p.form ≡ form.Value s text q
    → IfOk r (λ found. (at byte : ℕ) (vs : List (List ℕ × ℕ))
    → Built sig vs vs (written_value at (plain_sort s) text byte) found)
    → IfOk r (Built sig vars vars (unfolded (plain_tree p)))
value_built sig p s text q vars r h known =
    if_ok r _ (Built sig vars vars (unfolded (plain_tree p))) (λ found all. subst
    (λ (u : Unfolded). Built sig vars vars u found)
    (sym (ap unfolded (value_is p s text q h))) (all p.at q vars)) known

pub folded_built : {E : Type 0} (sig : Signature) (p inner : Pat) (left : Bool) (b : Box Pat)
    (old new : List (List ℕ × ℕ)) (r : Result (Option RulePat) E) → p.form ≡ form.Fold left b
    → inner ≡ b.value → IfOk r (Built sig old new (inner_fold left (plain_tree inner)))
    → IfOk r (Built sig old new (unfolded (plain_tree p)))
folded_built sig p inner left b old new r h same known =
    if_ok r (Built sig old new (inner_fold left (plain_tree inner)))
    (Built sig old new (unfolded (plain_tree p))) (λ found built.
    subst (λ (u : Unfolded). Built sig old new u found) (sym (ap unfolded (fold_is p left b h)))
    (built_standing sig old new p.at (inner_fold left (plain_tree b.value)) found (subst
    (λ (q : Pat). Built sig old new (inner_fold left (plain_tree q)) found) same built))) known

-- ---- folds

pub only_none : (sig : Signature) (at : ℕ) (args : List Pat) → (length args ≡ 1 → ⊥)
    → IsFaultless sig (only_of at (reads args)) → ⊥
only_none sig at args other good =
    (subst (λ (u : Unfolded). IsFaultless sig u) (only_other at args other) good).1

pub short_built : {E : Type 0} (sig : Signature) (left : Bool) (p : Pat) (n : List ℕ)
    (ss : Vec Sort Global) (ps : Vec Pat Global) (ys : List Pat) (old new : List (List ℕ × ℕ))
    (r : Result (Option RulePat) E) → p.form ≡ form.App n ss ps → ys ≡ ps.items
    → length ps.items < 2
    → IfOk r (λ found. (at : ℕ) → Built sig old new (only_of at (reads ys)) found)
    → IfOk r (Built sig old new (inner_fold left (plain_tree p)))
short_built sig left p n ss ps ys old new r h same short known =
    if_ok r _ (Built sig old new (inner_fold left (plain_tree p))) (λ found all.
    subst (λ (u : Unfolded). Built sig old new u found) (fold_short left p.at n
    (map plain_sort ss.items) ps.items short ∙ sym (application_folded left p n ss ps h))
    (subst (λ (qs : List Pat). Built sig old new (only_of p.at (reads qs)) found) same
    (all p.at))) known

pub fold_none : (sig : Signature) (left : Bool) (p : Pat) (n : List ℕ) (ss : Vec Sort Global)
    (ps : Vec Pat Global) (xs : List Sort) → p.form ≡ form.App n ss ps → xs ≡ ss.items
    → 2 ≤ length ps.items → IsHead sig n (map plain_sort xs) None
    → IsFaultless sig (inner_fold left (plain_tree p)) → ⊥
fold_none sig left p n ss ps xs h same many none good =
    fold_without_head sig left p.at n (map plain_sort ss.items) ps.items many
    (subst (λ (ys : List Sort). IsHead sig n (map plain_sort ys) None) same none)
    (subst (λ (u : Unfolded). IsFaultless sig u) (application_folded left p n ss ps h) good)

pub fold_no_arguments : (sig : Signature) (left : Bool) (p : Pat) (n : List ℕ)
    (ss : Vec Sort Global) (ps : Vec Pat Global) (ys : List Pat) (old new : List (List ℕ × ℕ))
    → p.form ≡ form.App n ss ps → ys ≡ ps.items → 2 ≤ length ps.items
    → AllBuilt sig old new (reads ys) None → IsFaultless sig (inner_fold left (plain_tree p)) → ⊥
fold_no_arguments sig left p n ss ps ys old new h same many none good =
    fold_without_arguments sig left p.at n (map plain_sort ss.items) ps.items old new many
    (subst (λ (qs : List Pat). AllBuilt sig old new (reads qs) None) same none)
    (subst (λ (u : Unfolded). IsFaultless sig u) (application_folded left p n ss ps h) good)

pub fold_ready : {E : Type 0} (sig : Signature) (side left : Bool) (p : Pat) (n : List ℕ)
    (ss : Vec Sort Global) (ps : Vec Pat Global) (xs : List Sort) (ys : List Pat)
    (old new : List (List ℕ × ℕ)) (h : Head) (args : Vec RulePat Global)
    (r : Result (Option RulePat) E) → IsSignature sig → side ≡ left → p.form ≡ form.App n ss ps
    → xs ≡ ss.items → ys ≡ ps.items → 2 ≤ length ps.items
    → IsHead sig n (map plain_sort xs) (Some h) → AllBuilt sig old new (reads ys) (Some args)
    → IfOk r (λ found. option_map plain_pattern found
    ≡ fold_pattern left h.kind h.sym.0 (numbers_of h.sorts.items)
    (map plain_pattern args.items))
    → IfOk r (Built sig old new (inner_fold side (plain_tree p)))
fold_ready sig side left p n ss ps xs ys old new h args r good from is same1 same2 many head all
    known =
    if_ok r _ (Built sig old new (inner_fold side (plain_tree p))) (λ found e.
    subst (λ (u : Unfolded). Built sig old new u found) (sym (ap (λ (b : Bool).
    inner_fold b (plain_tree p)) from ∙ application_folded left p n ss ps is))
    (fold_built sig left p.at n (map plain_sort ss.items) ps.items old new h args found many good
    (subst (λ (zs : List Sort). IsHead sig n (map plain_sort zs) (Some h)) same1 head)
    (subst (λ (qs : List Pat). AllBuilt sig old new (reads qs) (Some args)) same2 all) e)) known

-- ---- loops

pub good-more : (sig : Signature) (args : List Pat) (i : ℕ) (arg : Pat) → i < length args
    → arg ≡ get_or args i arg
    → (AreFaultless sig (reads args) → AreFaultless sig (reads (drop i args)))
    → AreFaultless sig (reads args)
    → IsFaultless sig (unfolded (plain_tree arg)) × AreFaultless sig (reads (drop (i + 1) args))
good-more sig args i arg lt item before good =
    subst (λ (xs : List Pat). AreFaultless sig (reads xs)) (drop-item args i arg lt item)
    (before good)

pub variables-more : (sig : Signature) (args : List Pat) (i : ℕ) (arg : Pat)
    (mid new whole : List (List ℕ × ℕ)) → i < length args → arg ≡ get_or args i arg
    → new ≡ with_variables sig mid (unfolded (plain_tree arg))
    → with_all_variables sig mid (reads (drop i args)) ≡ whole
    → with_all_variables sig new (reads (drop (i + 1) args)) ≡ whole
variables-more sig args i arg mid new whole lt item is known =
    ap (λ (vs : List (List ℕ × ℕ)). with_all_variables sig vs (reads (drop (i + 1) args))) is
    ∙ ap (λ (xs : List Pat). with_all_variables sig mid (reads xs))
    (sym (drop-item args i arg lt item)) ∙ known

pub all_done : (sig : Signature) (args : List Pat) (i : ℕ) (old new : List (List ℕ × ℕ))
    (pats : Vec RulePat Global) → length args ≤ i
    → with_all_variables sig new (reads (drop i args)) ≡ with_all_variables sig old (reads args)
    → ((more : List (List ℕ × ℕ)) (qs : List Pattern) → Extends new more
    → AllMean sig more (reads (drop i args)) (patterns qs)
    → AllMean sig more (reads args) (patterns (map plain_pattern pats.items ++ qs)))
    → AllBuilt sig old new (reads args) (Some pats)
all_done sig args i old new pats le vars means = (
  ap (λ (xs : List Pat). with_all_variables sig new (reads xs)) (sym (drop_all i args le)) ∙ vars,
  λ more ext. subst (λ (ps : List Pattern). AllMean sig more (reads args) (patterns ps))
      (append-nil (map plain_pattern pats.items))
      (means more [] ext (subst (λ (xs : List Pat). AllMean sig more (reads xs) no_pattern)
      (sym (drop_all i args le)) none_mean)),
)

-- ---- connectives

pub carried : {E : Type 0} (sig : Signature) (old new : List (List ℕ × ℕ)) (read : ℕ → Unfolded)
    (at : ℕ) (u : Unfolded) (r : Result (Option RulePat) E) → read at ≡ u
    → IfOk r (λ found. (place : ℕ) → Built sig old new (read place) found)
    → IfOk r (Built sig old new u)
carried sig old new read at u r is known =
    if_ok r _ (Built sig old new u) (λ found all.
    subst (λ (v : Unfolded). Built sig old new v found) is (all at)) known

pub pair_none : (sig : Signature) (at : ℕ) (o : Op) (ss : List SortTree) (us : Unfoldeds)
    (old new : List (List ℕ × ℕ)) → AllBuilt sig old new us None
    → IsFaultless sig (connective_of at o ss us) → ⊥
pair_none sig at o ss us old new none good = by_case (connective_case at o ss us) where
  by_case : IsConnective at o ss us → ⊥
  by_case (inl both) =
      let parts =
      pair_faultless sig at both.0 both.1 both.2
      (subst (λ (v : Unfolded). IsFaultless sig v) both.4 good) in
      none (subst (λ (vs : Unfoldeds). AreFaultless sig vs) (sym both.3)
      (parts.0, (parts.1, tt)))
  by_case (inr other) = (subst (λ (v : Unfolded). IsFaultless sig v) other good).1

pub pair_made : (sig : Signature) (at : ℕ) (o : Op) (ss : List Sort) (ps : List Pat)
    (old new : List (List ℕ × ℕ)) (args : Vec RulePat Global) (found : Option RulePat)
    → is_pair o (map plain_sort ss) (map plain_tree ps) ≡ true
    → AllBuilt sig old new (reads ps) (Some args)
    → option_map plain_pattern found ≡ only_named (plain_patterns args.items)
    → Built sig old new (connective_of at o (map plain_sort ss) (reads ps)) found
pair_made sig at o ss ps old new args found is all e =
    let pair = pair_there at o ss ps is in
    let known : AllBuilt sig old new (and_more pair.1 (and_more pair.2 no_more)) (Some args) =
    subst (λ (us : Unfoldeds). AllBuilt sig old new us (Some args)) pair.3 all in
    subst (λ (u : Unfolded). Built sig old new u found) (sym pair.4)
    (pair_built sig old new at pair.0 pair.1 pair.2 (plain_patterns args.items) found known.0
    known.1 e)
