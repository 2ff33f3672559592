-- What the check of a fold notes.
use Rattle.std.proofs.Common.{◌≡◌, ◌≤◌, ◌<◌, ℕ, ◌+◌, Bool, true, false, List, [], ◌∷◌, ◌++◌, length}
use Rattle.std.proofs.Common.{map, drop, get_or, Option, option_map, Vec, Global, eq-eqb}
use Rattle.std.proofs.Common.{length-drop, refl, sym, ◌∙◌, ap, arith}
use Rattle.std.specs.Prelude.{flat_map, ◌==◌}
use Rattle.std.proofs.lemmas.Bool.{eqb-true}
use Rattle.std.proofs.lemmas.List.{drop_all}
use Rattle.kore_text.specs.Trees.{SortTree}
use Rattle.kore_ast.specs.declared.tree.Sort.{Sort}
use Rattle.kore_ast.specs.declared.tree.Pat.{Pat}
use Rattle.kore_ast.specs.declared.tree.PatForm.TheVariants as form
use Rattle.kore_ast.specs.Plain.{plain_sort, pattern_tree}
use Rattle.rule_core.specs.declared.signature.Signature.{Signature}
use Rattle.rule_core.specs.declared.signature.SymInfo.{SymInfo}
use Rattle.rule_core.specs.declared.signature.SortRef.{SortRef}
use Rattle.kore_sig.specs.FirstFault.{Fault}
use Rattle.kore_check.specs.declared.faults.PatternFault.{PatternFault}
use Rattle.kore_check.specs.declared.check.FoldSorts.{FoldSorts}
use Rattle.kore_check.specs.Folds.{Unfolded, Unfoldeds, no_more, and_more, other_form}
use Rattle.kore_check.specs.Folds.{unfolded_byte, unfolded, inner_fold, only_of, fold_of}
use Rattle.kore_check.specs.Folds.{folded_left, applied_to_two}
use Rattle.kore_check.specs.PatternSorts.{sort_numbers, sort_of_pattern, result_sort, symbol_named}
use Rattle.kore_check.specs.PatternSorts.{places_of}
use Rattle.kore_check.specs.PatternFaults.{sort_faults, symbol_faults, pattern_faults, clash_faults}
use Rattle.kore_check.specs.PatternFaults.{first_wanted}
use Rattle.kore_check.specs.FoldFaults.{folded_faults, rest_faults, next_faults, is_none_more}
use Rattle.kore_check.specs.Notes.{kept_fault, after, sort_no}
use Rattle.kore_check.proofs.NotedLaws.{noted-same}
use Rattle.kore_check.proofs.SameFaults.{same-sym}
use Rattle.kore_check.proofs.Forms.{application_is, listed_sorts-trees}
use Rattle.kore_check.proofs.Items.{drop-item}
use Rattle.kore_check.proofs.Applications.{reads, after-append}
use Rattle.kore_check.proofs.FoldLaws.{Knows, head_of, fold_faults}

pub application_folded : (left : Bool) (p : Pat) (n : List ℕ) (ss : Vec Sort Global)
    (ps : Vec Pat Global) → p.form ≡ form.App n ss ps
    → inner_fold left (pattern_tree p)
    ≡ fold_of left p.at n (map plain_sort ss.items) (reads ps.items)
application_folded left p n ss ps h =
    ap (inner_fold left) (application_is p n ss ps h)
    ∙ ap (λ (xs : List SortTree). fold_of left p.at n xs (reads ps.items))
    (listed_sorts-trees (map plain_sort ss.items))

pub fold_short : (left : Bool) (byte : ℕ) (name : List ℕ) (ss : List SortTree) (args : List Pat)
    → length args < 2 → only_of byte (reads args) ≡ fold_of left byte name ss (reads args)
fold_short left byte name ss [] short = refl
fold_short true byte name ss (p ∷ []) short = refl
fold_short false byte name ss (p ∷ []) short = refl
fold_short left byte name ss (p ∷ q ∷ args) short = absurd (omega (arith, short))

pub only_other : (at : ℕ) (args : List Pat) → (length args ≡ 1 → ⊥)
    → only_of at (reads args) ≡ other_form at
only_other at [] other = refl
only_other at (p ∷ []) other = absurd (other refl)
only_other at (p ∷ q ∷ args) other = refl

-- a fold of two or more patterns has the sort of its symbol
left_sort : (sig : Signature) (byte : ℕ) (name : List ℕ) (ss : List SortTree) (u v : Unfolded)
    (qs : Unfoldeds)
    → sort_of_pattern sig (folded_left byte name ss (applied_to_two byte name ss u v) qs)
    ≡ result_sort (symbol_named sig name) ss (sort_numbers sig ss)
left_sort sig byte name ss u v no_more = refl
left_sort sig byte name ss u v (and_more q qs) =
    left_sort sig byte name ss (applied_to_two byte name ss u v) q qs

pub fold_sort : (sig : Signature) (left : Bool) (byte : ℕ) (name : List ℕ) (ss : List SortTree)
    (args : List Pat) → 2 ≤ length args
    → sort_of_pattern sig (fold_of left byte name ss (reads args))
    ≡ result_sort (symbol_named sig name) ss (sort_numbers sig ss)
fold_sort sig left byte name ss [] many = absurd (omega (arith, many))
fold_sort sig left byte name ss (p ∷ []) many = absurd (omega (arith, many))
fold_sort sig true byte name ss (p ∷ q ∷ args) many =
    left_sort sig byte name ss (unfolded (pattern_tree p)) (unfolded (pattern_tree q)) (reads args)
fold_sort sig false byte name ss (p ∷ q ∷ args) many = refl

pub fold_same : (sig : Signature) (left : Bool) (byte : ℕ) (name : List ℕ) (ss : List SortTree)
    (s : FoldSorts) (args : List Pat) (first : Option PatternFault) → 2 ≤ length args
    → Knows sig byte name ss s
    → after first (head_of sig byte name ss ++ folded_faults sig left s (reads args))
    ≡ after first (pattern_faults sig (fold_of left byte name ss (reads args)))
fold_same sig left byte name ss s [] first many k = absurd (omega (arith, many))
fold_same sig left byte name ss s (p ∷ []) first many k = absurd (omega (arith, many))
fold_same sig left byte name ss s (p ∷ q ∷ args) first many k =
    noted-same (kept_fault first) _ _ (same-sym _ _ (fold_faults sig left byte name ss s
    (unfolded (pattern_tree p)) (unfolded (pattern_tree q)) (reads args) k))

-- whether an argument is the last one
pub last_item : (xs : List Pat) (i : ℕ) → i < length xs
    → is_none_more (reads (drop (i + 1) xs)) ≡ (i + 1 == length xs)
last_item xs i lt = by_rest (drop (i + 1) xs) refl where
  other : (t : Bool) → (i + 1 == length xs) ≡ t → (i + 1 ≡ length xs → ⊥)
      → false ≡ (i + 1 == length xs)
  other false e no_end = sym e
  other true e no_end = absurd (no_end (eqb-true _ _ e))

  by_rest : (ys : List Pat) → drop (i + 1) xs ≡ ys
      → is_none_more (reads (drop (i + 1) xs)) ≡ (i + 1 == length xs)
  by_rest [] e =
      let none : length (drop (i + 1) xs) ≡ 0 = ap (λ (zs : List Pat). length zs) e in
      ap (λ (zs : List Pat). is_none_more (reads zs)) e
      ∙ sym (eq-eqb _ _ (omega (arith, none, length-drop (i + 1) xs, lt)))
  by_rest (y ∷ ys) e =
      let some : length (drop (i + 1) xs) ≡ length (y ∷ ys) = ap (λ (zs : List Pat). length zs) e in
      ap (λ (zs : List Pat). is_none_more (reads zs)) e
      ∙ other (i + 1 == length xs) refl
      (λ at_end. omega (arith, some, length-drop (i + 1) xs, at_end))

-- the first argument of a fold
pub fold_begun : (sig : Signature) (left : Bool) (s : FoldSorts) (args : List Pat) (arg : Pat)
    (own : Option ℕ) (first second third : Option PatternFault) → 2 ≤ length args
    → arg ≡ get_or args 0 arg → unfolded_byte (unfolded (pattern_tree arg)) ≡ arg.at
    → own ≡ sort_of_pattern sig (unfolded (pattern_tree arg))
    → kept_fault second ≡ after first (pattern_faults sig (unfolded (pattern_tree arg)))
    → kept_fault third ≡ after second (clash_faults arg.at own (option_map sort_no s.lower))
    → after third (rest_faults sig left s (reads (drop 1 args)))
    ≡ after first (folded_faults sig left s (reads args))
fold_begun sig left s [] arg own first second third many item at sorted e f =
    absurd (omega (arith, many))
fold_begun sig left s (p ∷ args) arg own first second third many item at sorted e f =
    let rest : List Fault = rest_faults sig left s (reads args) in
    let own_faults : List Fault = pattern_faults sig (unfolded (pattern_tree arg)) in
    let clashes : List Fault =
    clash_faults (unfolded_byte (unfolded (pattern_tree arg)))
    (sort_of_pattern sig (unfolded (pattern_tree arg))) (option_map sort_no s.lower) in
    let clash : kept_fault third ≡ after second clashes =
    f ∙ ap (λ b. after second (clash_faults b own (option_map sort_no s.lower))) (sym at)
    ∙ ap (λ o. after second (clash_faults (unfolded_byte (unfolded (pattern_tree arg))) o
    (option_map sort_no s.lower))) sorted in
    after-append first second (after third rest) own_faults (clashes ++ rest) e
    (after-append second third (after third rest) clashes rest clash refl)
    ∙ ap (λ (q : Pat). after first (folded_faults sig left s (reads (q ∷ args)))) item

-- each argument of a fold after the first one
pub fold_goes_on : (sig : Signature) (left is_last : Bool) (s : FoldSorts) (args : List Pat) (i : ℕ)
    (arg : Pat) (own : Option ℕ) (first second third : Option PatternFault)
    (target : Option Fault) → i < length args → arg ≡ get_or args i arg
    → unfolded_byte (unfolded (pattern_tree arg)) ≡ arg.at
    → own ≡ sort_of_pattern sig (unfolded (pattern_tree arg)) → is_last ≡ (i + 1 == length args)
    → kept_fault second ≡ after first (pattern_faults sig (unfolded (pattern_tree arg)))
    → kept_fault third ≡ after second (next_faults is_last left arg.at own s)
    → after first (rest_faults sig left s (reads (drop i args))) ≡ target
    → after third (rest_faults sig left s (reads (drop (i + 1) args))) ≡ target
fold_goes_on sig left is_last s args i arg own first second third target lt item at sorted last e f
    whole =
    let rest : List Fault = rest_faults sig left s (reads (drop (i + 1) args)) in
    let own_faults : List Fault = pattern_faults sig (unfolded (pattern_tree arg)) in
    let clashes : List Fault =
    next_faults (is_none_more (reads (drop (i + 1) args))) left
    (unfolded_byte (unfolded (pattern_tree arg)))
    (sort_of_pattern sig (unfolded (pattern_tree arg))) s in
    let clash : kept_fault third ≡ after second clashes =
    f
    ∙ ap (λ (b : Bool). after second (next_faults b left arg.at own s))
    (last ∙ sym (last_item args i lt))
    ∙ ap (λ b. after second (next_faults (is_none_more (reads (drop (i + 1) args))) left b own s))
    (sym at)
    ∙ ap (λ o. after second (next_faults (is_none_more (reads (drop (i + 1) args))) left
    (unfolded_byte (unfolded (pattern_tree arg))) o s)) sorted in
    after-append first second (after third rest) own_faults (clashes ++ rest) e
    (after-append second third (after third rest) clashes rest clash refl)
    ∙ ap (λ (qs : List Pat). after first (rest_faults sig left s (reads qs)))
    (sym (drop-item args i arg lt item))
    ∙ whole

pub fold_ends : (sig : Signature) (left : Bool) (s : FoldSorts) (args : List Pat) (i : ℕ)
    (first : Option PatternFault) (target : Option Fault) → length args ≤ i
    → after first (rest_faults sig left s (reads (drop i args))) ≡ target
    → kept_fault first ≡ target
fold_ends sig left s args i first target le whole =
    ap (λ (qs : List Pat). after first (rest_faults sig left s (reads qs)))
    (sym (drop_all i args le)) ∙ whole

pub fold_known : (sig : Signature) (byte : ℕ) (n : List ℕ) (ss xs zs ws : List Sort)
    (symbol : Option SymInfo) (places : List SortRef) (s : FoldSorts)
    → symbol ≡ symbol_named sig n → places ≡ places_of symbol → xs ≡ ss → zs ≡ ss → ws ≡ ss
    → s.at ≡ byte
    → option_map sort_no s.own
    ≡ result_sort symbol (map plain_sort xs) (sort_numbers sig (map plain_sort xs))
    → option_map sort_no s.lower ≡ first_wanted sig (map plain_sort zs) (drop 0 places)
    → option_map sort_no s.upper ≡ first_wanted sig (map plain_sort ws) (drop 1 places)
    → Knows sig byte n (map plain_sort ss) s
fold_known sig byte n ss xs zs ws symbol places s is at same1 same2 same3 there own lower upper =
    let refs : places ≡ places_of (symbol_named sig n) = at ∙ ap places_of is in
    record {
      at = there;
      own = own
          ∙ ap (λ o. result_sort o (map plain_sort xs) (sort_numbers sig (map plain_sort xs))) is
          ∙ ap (λ (ys : List Sort). result_sort (symbol_named sig n) (map plain_sort ys)
          (sort_numbers sig (map plain_sort ys))) same1;
      lower = lower
          ∙ ap (λ (ys : List Sort). first_wanted sig (map plain_sort ys) (drop 0 places)) same2
          ∙ ap (λ rs. first_wanted sig (map plain_sort ss) (drop 0 rs)) refs;
      upper = upper
          ∙ ap (λ (ys : List Sort). first_wanted sig (map plain_sort ys) (drop 1 places)) same3
          ∙ ap (λ rs. first_wanted sig (map plain_sort ss) (drop 1 rs)) refs;
    }

pub fold_sorted : (sig : Signature) (left : Bool) (p : Pat) (n : List ℕ) (ss : Vec Sort Global)
    (ps : Vec Pat Global) (symbol : Option SymInfo) (xs : List Sort) (own : Option ℕ)
    → p.form ≡ form.App n ss ps → 2 ≤ length ps.items → symbol ≡ symbol_named sig n → xs ≡ ss.items
    → own ≡ result_sort symbol (map plain_sort xs) (sort_numbers sig (map plain_sort xs))
    → own ≡ sort_of_pattern sig (inner_fold left (pattern_tree p))
fold_sorted sig left p n ss ps symbol xs own h many is same known =
    known
    ∙ ap (λ s. result_sort s (map plain_sort xs) (sort_numbers sig (map plain_sort xs))) is
    ∙ ap (λ (ys : List Sort). result_sort (symbol_named sig n) (map plain_sort ys)
    (sort_numbers sig (map plain_sort ys))) same
    ∙
    sym (ap (sort_of_pattern
    sig) (application_folded left p n ss ps h) ∙ fold_sort sig left p.at n (map plain_sort
    ss.items) ps.items many)

pub fold_checked : (sig : Signature) (left : Bool) (p : Pat) (n : List ℕ) (ss : Vec Sort Global)
    (ps : Vec Pat Global) (symbol : Option SymInfo) (xs : List Sort) (s : FoldSorts)
    (ys : List Pat) (first second third : Option PatternFault) → p.form ≡ form.App n ss ps
    → 2 ≤ length ps.items → symbol ≡ symbol_named sig n → xs ≡ ss.items → ys ≡ ps.items
    → Knows sig p.at n (map plain_sort ss.items) s
    → kept_fault second
    ≡ after first (flat_map (sort_faults sig) (map plain_sort xs)
    ++ symbol_faults sig p.at symbol (map plain_sort xs) 2)
    → kept_fault third ≡ after second (folded_faults sig left s (reads ys))
    → kept_fault third ≡ after first (pattern_faults sig (inner_fold left (pattern_tree p)))
fold_checked sig left p n ss ps symbol xs s ys first second third h many is same1 same2 k e f =
    let S : List SortTree = map plain_sort ss.items in
    let head : kept_fault second ≡ after first (head_of sig p.at n S) =
    e
    ∙ ap (λ (zs : List Sort). after first (flat_map (sort_faults sig) (map plain_sort zs)
    ++ symbol_faults sig p.at symbol (map plain_sort zs) 2)) same1
    ∙ ap (λ o. after first (flat_map (sort_faults sig) S ++ symbol_faults sig p.at o S 2)) is in
    let rest : kept_fault third ≡ after second (folded_faults sig left s (reads ps.items)) =
    f ∙ ap (λ (qs : List Pat). after second (folded_faults sig left s (reads qs))) same2 in
    after-append first second (kept_fault third) (head_of sig p.at n S)
    (folded_faults sig left s (reads ps.items)) head rest
    ∙ fold_same sig left p.at n S s ps.items first many k
    ∙ sym (ap (λ u. after first (pattern_faults sig u)) (application_folded left p n ss ps h))
